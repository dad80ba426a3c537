-- The rules that may close a file as their last request, in two parts: the file, and the state that is left. Assumes nothing.
use Rattle.std.specs.Prelude.{ℕ, Bool, true, cond, Some, None, Option, ◌==◌}
use Rattle.disk.specs.Requests.{ask_close}
use Rattle.rules.specs.declared.pending.Entry.{Entry}
use Rattle.rules.specs.declared.opening.Opening.{Opening}
use Rattle.rules.specs.State.{State, with_opening, with_ticket}
use Rattle.rules.specs.Tree.{Prog, done, ask}
use Rattle.rules.specs.Ends.{ended, is_over, last_out, one_less, register, retire}

-- the file is closed, if there is one, and then x is answered
abbrev pub closing : {R : Type 0} → Option ℕ → R → Prog R
closing None x = done x
closing (Some f) x = ask (ask_close f) (λ _. done x)

-- ---- an opening that ends

abbrev pub end_file_of : Option Opening → Option ℕ
end_file_of None = None
end_file_of (Some o) = cond (o.account.out == 0) (Some o.account.file) None

abbrev pub end_file : State → ℕ → Option ℕ
end_file s n = end_file_of (s.openings.at n)

abbrev pub end_state_from : State → ℕ → Option Opening → State
end_state_from s n None = s
end_state_from s n (Some o) = cond (o.account.out == 0) (retire (register s n o) n o) (with_opening (register s n o) n (Some (ended o)))

abbrev pub end_state : State → ℕ → State
end_state s n = end_state_from s n (s.openings.at n)

-- ---- a ticket that is spent

abbrev pub spend_file_of : Option Opening → Option ℕ
spend_file_of None = None
spend_file_of (Some o) = cond (last_out o) (Some o.account.file) None

abbrev pub spend_file : State → ℕ → Option ℕ
spend_file s n = spend_file_of (s.openings.at n)

abbrev pub spent_state_from : State → ℕ → Option Opening → State
spent_state_from s n None = s
spent_state_from s n (Some o) = cond (last_out o) (retire s n o) (with_opening s n (Some (one_less o)))

-- the state once the ticket is gone and its opening counts it no more
abbrev pub spent_state : State → ℕ → State
spent_state s n = spent_state_from s n (s.openings.at n)

abbrev pub spend_state : State → ℕ → ℕ → State
spend_state s t n = spent_state (with_ticket s t None) n

-- ---- the entry

-- whether the opening of an entry is over, as n is
abbrev pub owner_over : State → ℕ → Option Entry → Bool
owner_over s n None = true
owner_over s n (Some e) = is_over s n e.opening
