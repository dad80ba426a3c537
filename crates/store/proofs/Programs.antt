-- A program that runs from equal beginnings. Assumes nothing.
use Rattle.std.proofs.Common.{◌≡◌, subst}
use Rattle.disk.specs.Requests.{Request, Answer}
use Rattle.rules.specs.Tree.{Prog, Runs}

-- what runs the rule of x runs that of y
pub runs_at : {S R X : Type 0} (did : S → (q : Request) → Answer q → S → Type 0) (rule : X → Prog R) (d : S) (r : R) (e : S) {x y : X} → x ≡ y → Runs did (rule x) d r e → Runs did (rule y) d r e
runs_at did rule d r e p h = subst (λ z. Runs did (rule z) d r e) p h
