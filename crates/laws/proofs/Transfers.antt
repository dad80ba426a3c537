-- What a run submits is what was begun. Assumes nothing.
use Rattle.std.proofs.Common.{◌≡◌, ℕ, ◌+◌, ◌≤◌, true, ◌&&◌, eqb, leb, List, length, Some, None, Ok, Err, Option, Result, refl, ◌∙◌, arith}
use Rattle.std.proofs.lemmas.Bool.{cond_both, eqb-true, and_parts}
use Rattle.faults.specs.Kinds.{ResizeFault}
use Rattle.faults.specs.declared.store.Failure.{Failure}
use Rattle.rules.specs.declared.opening.Account.{Account}
use Rattle.rules.specs.declared.ticket.Step.{Step}
use Rattle.rules.specs.declared.ticket.Step.TheVariants.{Write, Resize, Flush, Running}
use Rattle.rules.specs.declared.ticket.Ticket.{Ticket}
use Rattle.rules.specs.declared.ticket.Writing.{Writing}
use Rattle.rules.specs.Chunks.{chunks, sizes_ok}
use Rattle.rules.specs.Submissions.{Transfer, Outcome, landed, lost}
use Rattle.rules.specs.declared.opening.Opening.{Opening}
use Rattle.rules.specs.State.{State}
use Rattle.rules.specs.Tree.{Prog}
use Rattle.rules.specs.Ends.{last_out, spend_from, spend_rule}
use Rattle.rules.specs.Begins.{last_offset}
use Rattle.rules.specs.Tickets.{Held, Out, on_ticket, with_its, its_opening, as_begun, transfer, transferred, transfer_rule, unless_failed, resize_answered, run_step}
use Rattle.laws.specs.Reach.{WithinReach, AllAccepted, EachTransfer, RunsAccepted}
use Rattle.laws.proofs.Barriers.{either}
use Rattle.laws.proofs.Buffers.{accepted}

-- a spent ticket submits nothing, and so does what follows a transfer
spends : {R : Type 0} (P : Transfer → Type 0) (s : State) (t n : ℕ) (r : R) (o : Option Opening) → EachTransfer P (spend_from s t n r o)
spends P s t n r None = tt
spends P s t n r (Some o) = either (EachTransfer P) (last_out o) (λ _. tt) tt

spend : {R : Type 0} (P : Transfer → Type 0) (s : State) (t n : ℕ) (r : R) → EachTransfer P (spend_rule s t n r)
spend P s t n r = spends P s t n r (s.openings.at n)

after : (P : Transfer → Type 0) (s : State) (t n : ℕ) (a : Account) (w : Writing) (o : Outcome) → EachTransfer P (transferred s t n a w o)
after P s t n a w (landed count hint) =
    either (EachTransfer P) w.fused (search spend) (either (EachTransfer P) w.sync tt (search spend))
after P s t n a w (lost l hint) = search spend

-- a kept failure submits nothing
fails : (P : Transfer → Type 0) (s : State) (t n : ℕ) (f : Option Failure) (rest : Prog Out) → EachTransfer P rest → EachTransfer P (unless_failed s t n f rest)
fails P s t n None rest h = h
fails P s t n (Some f) rest h = search spend

resizes : (P : Transfer → Type 0) (s : State) (t n : ℕ) (a : Result (Unit {0}) ResizeFault) → EachTransfer P (resize_answered s t n a)
resizes P s t n (Ok u) = search spend
resizes P s t n (Err e) = search spend

module _ (s : State) (t : ℕ) (body lengths : List ℕ) where
  -- a transfer of what was begun
  transfers : (n : ℕ) (a : Account) (w : Writing) → w.offset + w.length ≤ 9223372036854775807 → as_begun w.length w.chunks body lengths ≡ true → EachTransfer AllAccepted (transfer_rule s t n a w body lengths)
  transfers n a w within ok =
      let parts = and_parts (sizes_ok (length body) lengths) (eqb (length body) w.length && eqb (chunks lengths) w.chunks) ok in
      let same = and_parts (eqb (length body) w.length) (eqb (chunks lengths) w.chunks) parts.1 in
      let size = eqb-true (length body) w.length same.0 in
      let count = eqb-true (chunks lengths) w.chunks same.1 in
      let one : (transfer a w body lengths).single ≡ true → chunks lengths ≡ 1 = λ e. count ∙ eqb-true w.chunks 1 (and_parts (eqb w.chunks 1) _ e).0 in
      ((λ at h. let each = accepted body lengths w.offset at parts.0 (omega arith) h in (each.0, λ e. each.1 (one e))), after AllAccepted s t n a w)

  steps : (n : ℕ) (a : Account) (k : Step) → ((w : Writing) → k ≡ Write w → w.offset + w.length ≤ 9223372036854775807) → EachTransfer AllAccepted (run_step s t n a body lengths k)
  steps n a (Write w) within =
      cond_both (as_begun w.length w.chunks body lengths) _ _ (EachTransfer AllAccepted)
      (λ ok. either (EachTransfer AllAccepted) w.fused
      (either (EachTransfer AllAccepted) a.flushing tt (fails AllAccepted s t n a.tracker.failure _ (transfers n a w (within w refl) ok)))
      (transfers n a w (within w refl) ok))
      (λ _. tt)
  steps n a (Resize end) within =
      either (EachTransfer AllAccepted) (as_begun 0 0 body lengths) (either (EachTransfer AllAccepted) (leb end last_offset) (resizes AllAccepted s t n) (search spend)) tt
  steps n a (Flush seen) within = tt
  steps n a (Running seen mark) within = tt

  abbrev run : Held → Prog Out
  run h = run_step s t h.of h.opening.account body lengths h.step

  opened : (k : Ticket) → ((w : Writing) → k.step ≡ Write w → w.offset + w.length ≤ 9223372036854775807) → (o : Option Opening) → EachTransfer AllAccepted (on_ticket s run (with_its k o))
  opened k within None = tt
  opened k within (Some o) = steps k.opening o.account k.step within

  its : WithinReach s → (v : Option Ticket) → s.tickets.at t ≡ v → EachTransfer AllAccepted (on_ticket s run (its_opening s v))
  its h None e = tt
  its h (Some k) e = opened k (λ w. h t k w e) (s.openings.at k.opening)

pub runs_accepted : RunsAccepted
runs_accepted s t body lengths h = its s t body lengths h (s.tickets.at t) refl
