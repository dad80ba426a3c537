-- A rule that may close a file last is its two parts. Assumes nothing.
use Rattle.std.proofs.Common.{◌≡◌, ℕ, Bool, true, false, cond, eqb, Some, None, Option, refl}
use Rattle.disk.specs.Requests.{ask_close}
use Rattle.rules.specs.declared.opening.Opening.{Opening}
use Rattle.rules.specs.State.{State, with_opening, with_ticket}
use Rattle.rules.specs.Tree.{Prog, done, ask}
use Rattle.rules.specs.Ends.{end_from, end_rule, ended, last_out, one_less, register, retire, spend_from, spend_rule}
use Rattle.ledger.specs.Parts.{closing, end_file, end_file_of, end_state, end_state_from, spend_file, spend_file_of, spend_state, spent_state_from}

closes_if : {R : Type 0} (b : Bool) (file : ℕ) (r : R) (s t : State) → ◌≡◌ {A = Prog (R × State)} (cond b (ask (ask_close file) (λ _. done (r, s))) (done (r, t))) (closing (cond b (Some file) None) (r, cond b s t))
closes_if true file r s t = refl
closes_if false file r s t = refl

ends_from : {R : Type 0} (s : State) (n : ℕ) (r : R) (o : Option Opening) → end_from s n r o ≡ closing (end_file_of o) (r, end_state_from s n o)
ends_from s n r None = refl
ends_from s n r (Some o) = closes_if (eqb o.account.out 0) o.account.file r (retire (register s n o) n o) (with_opening (register s n o) n (Some (ended o)))

pub end_parts : {R : Type 0} (s : State) (n : ℕ) (r : R) → end_rule s n r ≡ closing (end_file s n) (r, end_state s n)
end_parts s n r = ends_from s n r (s.openings.at n)

spends_from : {R : Type 0} (s : State) (t n : ℕ) (r : R) (o : Option Opening) → spend_from s t n r o ≡ closing (spend_file_of o) (r, spent_state_from (with_ticket s t None) n o)
spends_from s t n r None = refl
spends_from s t n r (Some o) = closes_if (last_out o) o.account.file r (retire (with_ticket s t None) n o) (with_opening (with_ticket s t None) n (Some (one_less o)))

pub spend_parts : {R : Type 0} (s : State) (t n : ℕ) (r : R) → spend_rule s t n r ≡ closing (spend_file s n) (r, spend_state s t n)
spend_parts s t n r = spends_from s t n r (s.openings.at n)
