-- No write that calls lead to goes past the largest offset of a file, and so its run submits only what is accepted.
-- Assumes nothing.
use Rattle.std.specs.Prelude.{◌≡◌, ℕ, ◌+◌, ◌<◌, ◌≤◌, true, List, length, Some}
use Rattle.disk.specs.Requests.{Answer}
use Rattle.table.specs.Maps.{Map}
use Rattle.rules.specs.declared.ticket.Step.TheVariants.{Write}
use Rattle.rules.specs.declared.ticket.Ticket.{Ticket}
use Rattle.rules.specs.declared.ticket.Writing.{Writing}
use Rattle.rules.specs.Chunks.{next_bytes}
use Rattle.rules.specs.Submissions.{Transfer, Outcome}
use Rattle.rules.specs.State.{State, empty}
use Rattle.rules.specs.Tree.{Prog, done, ask, submit}
use Rattle.rules.specs.Calls.{Call, rule, to_run}
use Rattle.laws.specs.Every.{Every}
use Rattle.laws.specs.Buffers.{buffers, Submission}

-- every ticket of a write ends no further than the largest offset of a file
abbrev pub Reachable : Map ℕ Ticket → Type 0
Reachable m = (t : ℕ) (k : Ticket) (w : Writing) → m.at t ≡ Some k → k.step ≡ Write w → w.offset + w.length ≤ 9223372036854775807

abbrev pub WithinReach : State → Type 0
WithinReach s = Reachable s.tickets

-- so it is in the state that a store begins with, and every call keeps it
abbrev pub ReachKept : Type 0
ReachKept = WithinReach empty × ((s : State) (c : Call) → WithinReach s → Every (λ x. WithinReach x.1) (rule s c))

-- every submission of the transfer is accepted, and is one buffer on the single-buffer path
abbrev pub AllAccepted : Transfer → Type 0
AllAccepted w = (at : ℕ) → at < length w.body → Submission (w.offset + at) (next_bytes w.body w.lengths at) (buffers w.body w.lengths at) × (w.single ≡ true → length (buffers w.body w.lengths at) ≡ 1)

-- what holds of every transfer that a program may submit
abbrev pub EachTransfer : {R : Type 0} → (Transfer → Type 0) → Prog R → Type 0
EachTransfer P (done x) = Unit {0}
EachTransfer P (ask q k) = (a : Answer q) → EachTransfer P (k a)
EachTransfer P (submit w hint k) = P w × ((o : Outcome) → EachTransfer P (k o))

-- in such a state a run submits only what is accepted
abbrev pub RunsAccepted : Type 0
RunsAccepted = (s : State) (t : ℕ) (body lengths : List ℕ) → WithinReach s → EachTransfer AllAccepted (rule s (to_run t body lengths))
