-- A write that was given a ticket has passed its refusals. Assumes nothing.
use Rattle.std.proofs.Common.{◌≡◌, ℕ, ◌+◌, Bool, true, false, cond, eqb, leb, List, length, Some, None, Ok, Err, Option, Result, refl, ap, ◌∙◌, arith}
use Rattle.std.proofs.lemmas.Map.{update_here}
use Rattle.std.proofs.lemmas.Bool.{leb-true}
use Rattle.faults.specs.declared.store.Fault.{Fault}
use Rattle.faults.specs.declared.store.Fault.TheVariants.{Unknown}
use Rattle.disk.specs.Requests.{Request, Answer}
use Rattle.rules.specs.declared.opening.Account.{Account}
use Rattle.rules.specs.declared.ticket.Step.{Step}
use Rattle.rules.specs.declared.ticket.Step.TheVariants.{Write}
use Rattle.rules.specs.Chunks.{sizes_ok}
use Rattle.rules.specs.declared.opening.Opening.{Opening}
use Rattle.rules.specs.State.{State}
use Rattle.rules.specs.Tree.{Prog, done, Runs}
use Rattle.rules.specs.Opens.{unless}
use Rattle.rules.specs.Finishes.{at_stage, blob_stage}
use Rattle.rules.specs.Begins.{Begun, ticket, nothing, Options, new_ticket, give, mutation_begun, is_fused, writing, write_refused, write_begun, write_sized, size_refused, write_open, last_offset}
use Rattle.laws.specs.Buffers.{WritesBegunWithin}

abbrev Done : Type 0 → Type 0
Done R = Result R Fault × State

ok_is_not_err : {R : Type 0} {r : R} {f : Fault} {s s' : State} → ◌≡◌ {A = Done R} (Ok r, s') (Err f, s) → ⊥
ok_is_not_err {R} h = let p = ap (λ (z : Done R). z.0) h in let z : ◌≡◌ {A = ℕ} 0 1 = cc in omega arith

-- a success on an opening is of one that is there and at the stage asked
at_stage_ok : {S R : Type 0} (did : S → (q : Request) → Answer q → S → Type 0) (s : State) (fits : Opening → Bool) (rule : Opening → Prog (Done R)) (o : Option Opening) (r : R) (s' : State) (d e : S) → Runs did (at_stage s fits rule o) d (Ok r, s') e → (p : Opening) × (o ≡ Some p) × Runs did (rule p) d (Ok r, s') e
at_stage_ok did s fits rule None r s' d e run = absurd (ok_is_not_err run.0)
at_stage_ok did s fits rule (Some o) r s' d e run = (o, refl, go (fits o) run)
  where
    go : (b : Bool) → Runs did (cond b (rule o) (done (Err Unknown, s))) d (Ok r, s') e → Runs did (rule o) d (Ok r, s') e
    go true h = h
    go false h = absurd (ok_is_not_err h.0)

-- no refusal is left where none is answered
pub unless_none : (b : Bool) (f : Fault) (rest : Option Fault) → unless b f rest ≡ None → (b ≡ true) × (rest ≡ None)
unless_none true f rest h = (refl, h)
unless_none false f rest h = let z : ◌≡◌ {A = ℕ} 0 1 = cc in absurd (omega arith)

module _ (s : State) (n : ℕ) (o : Opening) (at size : ℕ) (lengths : List ℕ) (x : Options) (t : ℕ) (s' : State) where
  sized_ok : (f : Option Fault) → ◌≡◌ {A = Done Begun} (Ok (ticket t), s') (write_sized s n o at size lengths x f) → (f ≡ None) × (◌≡◌ {A = Done Begun} (Ok (ticket t), s') (write_begun s n o at size lengths x (write_refused s o at size x)))
  sized_ok (Some g) h = absurd (ok_is_not_err h)
  sized_ok None h = (refl, go (eqb size 0) h)
    where
      begun : Done Begun
      begun = write_begun s n o at size lengths x (write_refused s o at size x)

      go : (b : Bool) → ◌≡◌ {A = Done Begun} (Ok (ticket t), s') (cond b (Ok nothing, s) begun) → ◌≡◌ {A = Done Begun} (Ok (ticket t), s') begun
      go true e = let p = ap (λ (z : Done Begun). z.0) e in let z : ◌≡◌ {A = ℕ} 0 1 = cc in absurd (omega arith)
      go false e = e

  begun_ok : (f : Option Fault) → ◌≡◌ {A = Done Begun} (Ok (ticket t), s') (write_begun s n o at size lengths x f) → (f ≡ None) × (t ≡ new_ticket s) × (s' ≡ give s n (Write (writing o at size lengths x)) (mutation_begun (is_fused x lengths)))
  begun_ok (Some g) h = absurd (ok_is_not_err h)
  begun_ok None h = (refl, (let p = ap (λ (z : Done Begun). z.0) h in cc), ap (λ (z : Done Begun). z.1) h)

  given : (step : Step) (f : Account → Account) → t ≡ new_ticket s → s' ≡ give s n step f → s'.tickets.at t ≡ Some (record { opening = n; step = step })
  given step f is-new now =
      ap (λ (z : State). z.tickets.at t) now ∙ ap (give s n step f).tickets.at is-new
      ∙ update_here s.tickets.at (new_ticket s) (Some (record { opening = n; step = step }))

pub begun_within : {S : Type 0} (did : S → (q : Request) → Answer q → S → Type 0) → WritesBegunWithin did
begun_within did s s' n at body lengths x t d e run =
    let size = length body in
    let (o, there, run') = at_stage_ok did s blob_stage (write_open s n at size lengths x) (s.openings.at n) (ticket t) s' d e run in
    let (none, begun) = sized_ok s n o at size lengths x t s' (size_refused o at size lengths) run'.0 in
    let (none', is-new, now) = begun_ok s n o at size lengths x t s' (write_refused s o at size x) begun in
    record {
      opening = o;
      there = there;
      sizes = (unless_none (sizes_ok size lengths) _ _ none).0;
      fits = leb-true (at + o.account.offset + size) last_offset (unless_none (leb (at + o.account.offset + size) last_offset) _ _ none').0;
      ticket = record { opening = n; step = Write (writing o at size lengths x) };
      writing = writing o at size lengths x;
      given = given s n o at size lengths x t s' (Write (writing o at size lengths x)) (mutation_begun (is_fused x lengths)) is-new now;
      its_opening = refl;
      its_step = refl;
      its_offset = refl;
      its_length = refl;
      its_chunks = refl;
    }
