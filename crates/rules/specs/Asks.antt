-- What only asks: counts, skip share, held names and read. Assumes nothing.
use Rattle.std.specs.Prelude.{ℕ, ◌+◌, ◌*◌, ◌/◌, Bool, cond, List, Ok, Err, Result, ◌==◌, nat_le}
use Rattle.faults.specs.Kinds.{LengthFault}
use Rattle.faults.specs.declared.store.Fault.{Fault}
use Rattle.faults.specs.declared.store.Fault.TheVariants.{OffsetOverflow, ReadFailed}
use Rattle.keys.specs.KeyName.{KeyName}
use Rattle.disk.specs.Requests.{ask_read}
use Rattle.rules.specs.declared.opening.Account.{Account}
use Rattle.rules.specs.declared.tracker.Tracker.{Tracker}
use Rattle.rules.specs.declared.opening.Opening.{Opening}
use Rattle.rules.specs.State.{State}
use Rattle.rules.specs.Tree.{Prog, done, ask}
use Rattle.rules.specs.Finishes.{at_stage, blob_stage}
use Rattle.rules.specs.Begins.{last_word}

-- written, completed, synced
abbrev pub Counts : Type 0
Counts = ℕ × ℕ × ℕ

abbrev pub counts_of : Tracker → Counts
counts_of t = (t.written, t.completed, t.synced)

-- `fits` says which openings the handle may be of: blobs, or those that owe
abbrev pub counts_rule : State → (Opening → Bool) → ℕ → Prog (Result Counts Fault × State)
counts_rule s fits n = at_stage s fits (λ o. done (Ok (counts_of o.account.tracker), s)) (s.openings.at n)

-- skipped syncs of a thousand begun, rounded down, and 0 where none was begun
abbrev pub share : Account → ℕ
share a = cond (a.syncs == 0) 0 (a.skipped * 1000 / a.syncs)

abbrev pub share_rule : State → (Opening → Bool) → ℕ → Prog (Result ℕ Fault × State)
share_rule s fits n = at_stage s fits (λ o. done (Ok (share o.account), s)) (s.openings.at n)

-- each key that has an entry, once
abbrev pub held_rule : State → Prog (Result (List KeyName) Fault × State)
held_rule s = done (Ok s.names.keys, s)

abbrev pub read_answered : State → Result (List ℕ) LengthFault → Prog (Result (List ℕ) Fault × State)
read_answered s (Ok out) = done (Ok out, s)
read_answered s (Err e) = done (Err ReadFailed, s)

abbrev pub read_open : State → ℕ → ℕ → Opening → Prog (Result (List ℕ) Fault × State)
read_open s place room o =
    cond (nat_le (place + o.account.offset) last_word) (ask (ask_read o.account.file (place + o.account.offset) room) (read_answered s)) (done (Err OffsetOverflow, s))

abbrev pub read_rule : State → ℕ → ℕ → ℕ → Prog (Result (List ℕ) Fault × State)
read_rule s n place room = at_stage s blob_stage (read_open s place room) (s.openings.at n)
