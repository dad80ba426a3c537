-- Finish, give up and close. Assumes nothing.
use Rattle.std.specs.Prelude.{ℕ, ◌-◌, Bool, false, cond, Some, None, Ok, Err, Option, Result, ◌==◌, nat_le, nat_lt}
use Rattle.std.specs.Option.{option_map}
use Rattle.faults.specs.Numbers.{refusal}
use Rattle.faults.specs.Kinds.{FlushFault, LengthFault}
use Rattle.faults.specs.declared.store.Fault.{Fault}
use Rattle.faults.specs.declared.store.Fault.TheVariants.{BlobSyncFailed, ReadFailed, Unsettled, Unknown}
use Rattle.faults.specs.declared.store.Failure.{Failure}
use Rattle.faults.specs.declared.store.Failure.TheVariants.{Sync}
use Rattle.keys.specs.KeyName.{KeyName}
use Rattle.disk.specs.Requests.{ask_length, ask_start, ask_end}
use Rattle.rules.specs.declared.opening.Account.{Account}
use Rattle.rules.specs.declared.opening.Stage.TheVariants.{Blob}
use Rattle.rules.specs.declared.pending.Entry.{Entry}
use Rattle.rules.specs.declared.opening.Opening.{Opening}
use Rattle.rules.specs.State.{State, with_name, with_stage, with_tracker, is_blob, is_owing}
use Rattle.rules.specs.Track.{poisoned}
use Rattle.rules.specs.Tree.{Prog, done, ask}
use Rattle.rules.specs.Ends.{change, end_rule}
use Rattle.rules.specs.Opens.{fail_name}

-- a blob's number and its length
abbrev pub Out : Type 0
Out = Result (ℕ × ℕ) Fault × State

-- the opening becomes a blob
abbrev pub made_blob : Account → Account
made_blob a = with_stage a Blob

abbrev pub readied : State → ℕ → ℕ → Result ℕ LengthFault → Prog Out
readied s n offset (Ok len) = cond (nat_le offset len) (done (Ok (n, len - offset), change s n made_blob)) (end_rule s n (Err ReadFailed))
readied s n offset (Err e) = end_rule s n (Err ReadFailed)

abbrev pub ready_rule : State → ℕ → Account → Prog Out
ready_rule s n a = ask (ask_length a.file) (readied s n a.offset)

-- the opening n has flushed the debt: the dirty mark is cleared, if the entry is still its own
abbrev pub cleaned : ℕ → Entry → Entry
cleaned n e = cond (e.opening == n) (record { opening = e.opening; unsettled = e.unsettled; dirty = false; failure = e.failure }) e

abbrev pub clean_name : State → KeyName → ℕ → State
clean_name s q n = with_name s q (option_map (cleaned n) (s.names.at q))

abbrev pub keep : Failure → Account → Account
keep f a = with_tracker a (poisoned a.tracker f)

-- success clears the mark, and a fault is kept in the entry and in the tracker
abbrev pub flushed : State → ℕ → Opening → Result (Unit {0}) FlushFault → Prog Out
flushed s n o (Ok u) = ready_rule (clean_name s o.key n) n o.account
flushed s n o (Err e) = end_rule (change (fail_name s o.key n (Sync e.0)) n (keep (Sync e.0))) n (Err (BlobSyncFailed e.0))

-- the debt is flushed through the new opening's file
abbrev pub debt_rule : State → ℕ → Opening → Prog Out
debt_rule s n o = ask (ask_start o.account.file) (λ mark. ask (ask_end o.account.file mark) (flushed s n o))

abbrev pub owned : State → ℕ → Opening → Bool → Option Failure → Prog Out
owned s n o dirty (Some f) = end_rule s n (Err (refusal f))
owned s n o dirty None = cond dirty (debt_rule s n o) (ready_rule s n o.account)

-- what the entry says counts only while it is this opening's
abbrev pub by_entry : State → ℕ → Opening → Option Entry → Prog Out
by_entry s n o None = ready_rule s n o.account
by_entry s n o (Some e) = cond (e.opening == n) (owned s n o e.dirty e.failure) (ready_rule s n o.account)

-- whether an opening has a ticket out
abbrev pub has_out : Option Opening → Bool
has_out None = false
has_out (Some o) = nat_lt 0 o.account.out

-- the predecessor remembered at admission
abbrev pub unspent : State → Option ℕ → Bool
unspent s None = false
unspent s (Some p) = has_out (s.openings.at p)

abbrev pub finish_owing : State → ℕ → Opening → Prog Out
finish_owing s n o = cond (unspent s o.account.predecessor) (done (Err Unsettled, s)) (by_entry s n o (s.names.at o.key))

-- a call on the opening n if it is at the stage asked, and else 18
abbrev pub at_stage : {R : Type 0} → State → (Opening → Bool) → (Opening → Prog (Result R Fault × State)) → Option Opening → Prog (Result R Fault × State)
at_stage s fits rule None = done (Err Unknown, s)
at_stage s fits rule (Some o) = cond (fits o) (rule o) (done (Err Unknown, s))

abbrev pub owing_stage : Opening → Bool
owing_stage o = is_owing o.account.stage

abbrev pub blob_stage : Opening → Bool
blob_stage o = is_blob o.account.stage

abbrev pub finish_rule : State → ℕ → Prog Out
finish_rule s n = at_stage s owing_stage (finish_owing s n) (s.openings.at n)

abbrev pub give_up_rule : State → ℕ → Prog (Result (Unit {0}) Fault × State)
give_up_rule s n = at_stage s owing_stage (λ _. end_rule s n (Ok tt)) (s.openings.at n)

abbrev pub close_rule : State → ℕ → Prog (Result (Unit {0}) Fault × State)
close_rule s n = at_stage s blob_stage (λ _. end_rule s n (Ok tt)) (s.openings.at n)
