-- One disk's answers lead a program to one end. Assumes nothing.
use Rattle.std.proofs.Common.{◌≡◌, ℕ, ◌+◌, ◌<◌, ◌≤◌, Bool, true, false, length, Ok, Err, Result, sym, refl, ◌∙◌, subst, arith}
use Rattle.faults.specs.Numbers.{code}
use Rattle.faults.specs.Kinds.{WriteFault}
use Rattle.disk.specs.Requests.{Request, Answer}
use Rattle.rules.specs.Submissions.{Transfer, Outcome, landed, lost, by_code, nothing_landed, patience, Submitted, Submits, all, more, stuck, again, worn, unhinted, broken}
use Rattle.rules.specs.Tree.{Prog, done, ask, submit, Runs}
use Rattle.rules.specs.Calls.{rule}
use Rattle.laws.specs.Answers.{Decided, Determined}

module _ {S : Type 0} (did : S → (q : Request) → Answer q → S → Type 0) (w : Transfer) where
  -- how a transfer goes on once a submission was answered: each answer has one way
  abbrev Goes : ℕ → ℕ → ℕ → Bool → Result ℕ WriteFault → S → Outcome → S → Type 0
  Goes at k n hint (Ok c) m o e =
      (0 < c → Submits did w m (at + c) 0 (n + 1) hint o e)
      × (c ≡ 0 → ◌≡◌ {A = Outcome × S} (o, e) (lost (nothing_landed w) hint, m))
  Goes at k n hint (Err f) m o e =
      (code f.0 ≡ 4 → k < patience → Submits did w m at (k + 1) (n + 1) hint o e)
      × (code f.0 ≡ 4 → patience ≤ k → ◌≡◌ {A = Outcome × S} (o, e) (lost (by_code f.0) hint, m))
      × (code f.0 ≡ 95 → hint ≡ true → Submits did w m at k (n + 1) false o e)
      × ((code f.0 ≡ 4 → ⊥) → (code f.0 ≡ 95 → hint ≡ true → ⊥) → ◌≡◌ {A = Outcome × S} (o, e) (lost (by_code f.0) hint, m))

  -- a body that has landed is not submitted
  ended : {d e : S} {at k n : ℕ} {hint : Bool} {o : Outcome} → Submits did w d at k n hint o e → length w.body ≤ at → ◌≡◌ {A = Outcome × S} (o, e) (landed n hint, d)
  ended (all l) h = refl
  ended (more l c p a s) h = absurd (omega arith)
  ended (stuck l a) h = absurd (omega arith)
  ended (again l f x y a s) h = absurd (omega arith)
  ended (worn l f x y a) h = absurd (omega arith)
  ended (unhinted l f x y a s) h = absurd (omega arith)
  ended (broken l f x y a) h = absurd (omega arith)

  module _ (one : Decided did) where
    -- a decided disk has answered a submission once
    same : {d m m' : S} (at k n : ℕ) (hint : Bool) (o : Outcome) (e : S) (b c : Result ℕ WriteFault) → Submitted did w at hint d b m → Submitted did w at hint d c m' → Goes at k n hint c m' o e → Goes at k n hint b m o e
    same {d} {m} {m'} at k n hint o e b c a a' g =
        subst (λ (z : Result ℕ WriteFault × S). Goes at k n hint z.0 z.1 o e) (one d _ c b m' m a' a) g

    -- and the transfer goes on by that answer
    goes : {d e m : S} {at k n : ℕ} {hint : Bool} {o : Outcome} (b : Result ℕ WriteFault) → at < length w.body → Submitted did w at hint d b m → Submits did w d at k n hint o e → Goes at k n hint b m o e
    goes b h a (all l) = absurd (omega arith)
    goes {at} {k} {n} {hint} {o} b h a (more l c p a' s) = same at k n hint o _ b (Ok c) a a' (λ _. s, λ z. absurd (omega arith))
    goes {at} {k} {n} {hint} b h a (stuck l a') = same at k n hint _ _ b (Ok 0) a a' (λ z. absurd (omega arith), λ _. refl)
    goes {at} {k} {n} {hint} {o} b h a (again l f x y a' s) =
        same at k n hint o _ b (Err f) a a' (λ _ _. s, λ _ z. absurd (omega arith), λ z _. absurd (omega arith), λ z _. absurd (z x))
    goes {at} {k} {n} {hint} b h a (worn l f x y a') =
        same at k n hint _ _ b (Err f) a a' (λ _ z. absurd (omega arith), λ _ _. refl, λ z _. absurd (omega arith), λ z _. absurd (z x))
    goes {at} {k} {n} {hint} {o} b h a (unhinted l f x y a' s) =
        same at k n hint o _ b (Err f) a a' (λ z _. absurd (omega arith), λ z _. absurd (omega arith), λ _ _. s, λ _ z. absurd (z x y))
    goes {at} {k} {n} {hint} b h a (broken l f x y a') =
        same at k n hint _ _ b (Err f) a a' (λ z _. absurd (x z), λ z _. absurd (x z), λ z v. absurd (y z v), λ _ _. refl)

    -- so two transfers that begin alike end alike
    one_end : {d e f : S} {at k n : ℕ} {hint : Bool} {o p : Outcome} → Submits did w d at k n hint o e → Submits did w d at k n hint p f → ◌≡◌ {A = Outcome × S} (o, e) (p, f)
    one_end (all l) t = sym (ended t l)
    one_end (more l c p a s) t = one_end s ((goes (Ok c) l a t).0 p)
    one_end (stuck l a) t = sym ((goes (Ok 0) l a t).1 refl)
    one_end (again l f x y a s) t = one_end s ((goes (Err f) l a t).0 x y)
    one_end (worn l f x y a) t = sym ((goes (Err f) l a t).1 x y)
    one_end (unhinted l f x y a s) t = one_end s ((goes (Err f) l a t).2 x y)
    one_end (broken l f x y a) t = sym ((goes (Err f) l a t).3 x y)

module _ {S : Type 0} (did : S → (q : Request) → Answer q → S → Type 0) (one : Decided did) where
  -- and so do two runs of a program
  same_run : {R : Type 0} (p : Prog R) (d e f : S) (x y : R) → Runs did p d x e → Runs did p d y f → (x ≡ y) × (e ≡ f)
  same_run (done z) d e f x y r s = (r.0 ∙ sym s.0, r.1 ∙ sym s.1)
  same_run (ask q k) d e f x y (a, m, r, rest) (b, m', s, rest') =
      same_run (k a) m e f x y rest (subst (λ (z : Answer q × S). Runs did (k z.0) z.1 y f) (one d q b a m' m s r) rest')
  same_run (submit w hint k) d e f x y (o, m, r, rest) (p, m', s, rest') =
      same_run (k o) m e f x y rest (subst (λ (z : Outcome × S). Runs did (k z.0) z.1 y f) (one_end did w one s r) rest')

pub determined : {S : Type 0} (did : S → (q : Request) → Answer q → S → Type 0) → Determined did
determined did one s c d e f x y r t = same_run did one (rule s c) d e f x y r t
