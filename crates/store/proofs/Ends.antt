-- What the end of an opening answers. Assumes nothing.
use Rattle.std.proofs.Common.{◌≡◌, ℕ, Bool, true, false, cond, eqb, Some, None, Option, ap}
use Rattle.disk.specs.Requests.{Request, Answer}
use Rattle.rules.specs.declared.opening.Opening.{Opening}
use Rattle.rules.specs.State.{State, with_opening}
use Rattle.rules.specs.Tree.{Prog, Runs, done}
use Rattle.rules.specs.Ends.{end_from, end_rule, ended, register, retire_rule}

-- the two ways of an opening that is there
abbrev ways : {R : Type 0} → State → ℕ → R → Opening → Bool → Prog (R × State)
ways s n r o b = cond b (retire_rule (register s n o) n o r) (done (r, with_opening (register s n o) n (Some (ended o))))

module _ {S : Type 0} (did : S → (q : Request) → Answer q → S → Type 0) (s : State) (n : ℕ) (d e : S) (t : State) where
  answers_way : {R : Type 0} (a x : R) (o : Opening) (c : Bool) → Runs did (ways s n a o c) d (x, t) e → x ≡ a
  answers_way {R} a x o true h = ap (λ (p : R × State). p.0) h.3.0
  answers_way {R} a x o false h = ap (λ (p : R × State). p.0) h.0

  answers_from : {R : Type 0} (a x : R) (o : Option Opening) → Runs did (end_from s n a o) d (x, t) e → x ≡ a
  answers_from {R} a x None h = ap (λ (p : R × State). p.0) h.0
  answers_from {R} a x (Some o) h = answers_way a x o (eqb o.account.out 0) h

  -- an opening that ends answers what it was to answer
  pub end_answers : {R : Type 0} (a x : R) → Runs did (end_rule s n a) d (x, t) e → x ≡ a
  end_answers a x h = answers_from a x (s.openings.at n) h
