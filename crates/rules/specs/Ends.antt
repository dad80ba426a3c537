-- How an opening ends and settles, and how a ticket is spent. Assumes nothing.
use Rattle.std.specs.Prelude.{ℕ, ◌-◌, Bool, false, cond, not, ◌&&◌, ◌||◌, is_some, Some, None, Option, ◌==◌}
use Rattle.std.specs.Option.{option_map}
use Rattle.disk.specs.Requests.{ask_close}
use Rattle.rules.specs.declared.opening.Account.{Account}
use Rattle.rules.specs.declared.opening.Stage.TheVariants.{Ended}
use Rattle.rules.specs.declared.pending.Entry.{Entry}
use Rattle.rules.specs.declared.tracker.Tracker.{Tracker}
use Rattle.rules.specs.declared.opening.Opening.{Opening}
use Rattle.rules.specs.State.{State, with_name, with_opening, with_ticket, with_account, with_stage, with_out, is_ended}
use Rattle.rules.specs.Track.{first, is_dirty}
use Rattle.rules.specs.Tree.{Prog, done, ask}

abbrev pub is_number : Option ℕ → ℕ → Bool
is_number None n = false
is_number (Some m) n = m == n

abbrev pub goes_on : Option Opening → Bool
goes_on None = false
goes_on (Some o) = not (is_ended o.account.stage)

-- whether the opening n is there and has not ended
abbrev pub live : State → ℕ → Bool
live s n = goes_on (s.openings.at n)

-- ---- the entry of the name

-- an entry is clear when it waits for no opening, is not dirty and keeps no failure
abbrev pub clear : Entry → Bool
clear e = not (is_some e.unsettled) && (not e.dirty && not (is_some e.failure))

-- an ended opening registers as unsettled if the entry is its own and waits for none
abbrev pub registered : ℕ → Entry → Entry
registered n e = cond (e.opening == n && not (is_some e.unsettled)) (record { opening = e.opening; unsettled = Some n; dirty = e.dirty; failure = e.failure }) e

-- an entry that waits for n learns what n left: that its counts differ, and its failure
abbrev pub settled : ℕ → Tracker → Entry → Entry
settled n t e = cond (is_number e.unsettled n) (record { opening = e.opening; unsettled = None; dirty = e.dirty || is_dirty t; failure = first t.failure e.failure }) e

-- its place is free once it is clear and its opening has ended
abbrev pub unless_free_if : Bool → Entry → Option Entry
unless_free_if over e = cond (clear e && over) None (Some e)

-- whether the opening m has ended, as n has
abbrev pub is_over : State → ℕ → ℕ → Bool
is_over s n m = m == n || not (live s m)

abbrev pub unless_free : State → ℕ → Entry → Option Entry
unless_free s n e = unless_free_if (is_over s n e.opening) e

abbrev pub after_settling : State → ℕ → Tracker → Option Entry → Option Entry
after_settling s n t None = None
after_settling s n t (Some e) = unless_free s n (settled n t e)

-- ---- the opening

abbrev pub register : State → ℕ → Opening → State
register s n o = with_name s o.key (option_map (registered n) (s.names.at o.key))

-- an ended opening with no ticket out settles and frees its place
abbrev pub retire : State → ℕ → Opening → State
retire s n o = with_opening (with_name s o.key (after_settling s n o.account.tracker (s.names.at o.key))) n None

-- and then its file is closed, the last request of the call
abbrev pub retire_rule : {R : Type 0} → State → ℕ → Opening → R → Prog (R × State)
retire_rule s n o r = ask (ask_close o.account.file) (λ _. done (r, retire s n o))

abbrev pub ended : Opening → Opening
ended o = with_account o (with_stage o.account Ended)

abbrev pub end_from : {R : Type 0} → State → ℕ → R → Option Opening → Prog (R × State)
end_from s n r None = done (r, s)
end_from s n r (Some o) =
    cond (o.account.out == 0) (retire_rule (register s n o) n o r) (done (r, with_opening (register s n o) n (Some (ended o))))

-- the opening n ends, and the call answers r
abbrev pub end_rule : {R : Type 0} → State → ℕ → R → Prog (R × State)
end_rule s n r = end_from s n r (s.openings.at n)

-- ---- the ticket

abbrev pub one_less : Opening → Opening
one_less o = with_account o (with_out o.account (o.account.out - 1))

-- whether the opening has ended and its last ticket is being spent
abbrev pub last_out : Opening → Bool
last_out o = is_ended o.account.stage && o.account.out == 1

abbrev pub spend_from : {R : Type 0} → State → ℕ → ℕ → R → Option Opening → Prog (R × State)
spend_from s t n r None = done (r, with_ticket s t None)
spend_from s t n r (Some o) =
    cond (last_out o) (retire_rule (with_ticket s t None) n o r) (done (r, with_opening (with_ticket s t None) n (Some (one_less o))))

-- the ticket t of the opening n is spent, and the call answers r
abbrev pub spend_rule : {R : Type 0} → State → ℕ → ℕ → R → Prog (R × State)
spend_rule s t n r = spend_from s t n r (s.openings.at n)

-- the account of the opening n changed by f
abbrev pub change : State → ℕ → (Account → Account) → State
change s n f = with_opening s n (option_map (λ o. with_account o (f o.account)) (s.openings.at n))
