-- Every program ends where the disk answers every request. Assumes nothing.
use Rattle.std.proofs.Common.{◌≡◌, ℕ, zero, suc, ◌+◌, ◌-◌, ◌*◌, ◌<◌, ◌≤◌, Bool, false, cond, length, Ok, Err, Result, refl, ap, inl, inr, arith}
use Rattle.std.proofs.lemmas.Bool.{cases_lt, cases_eq, cases_Bool, false≢true}
use Rattle.faults.specs.Numbers.{code}
use Rattle.faults.specs.Kinds.{WriteFault}
use Rattle.disk.specs.Requests.{Request, Answer}
use Rattle.rules.specs.Submissions.{Transfer, Outcome, landed, lost, by_code, nothing_landed, patience, Submitted, Submits, all, more, stuck, again, worn, unhinted, broken}
use Rattle.rules.specs.Tree.{Prog, done, ask, submit, Runs}
use Rattle.rules.specs.Calls.{rule}
use Rattle.laws.specs.Answers.{Answers, Total}

module _ {S : Type 0} (did : S → (q : Request) → Answer q → S → Type 0) (w : Transfer) where
  abbrev Ends : S → ℕ → ℕ → ℕ → Bool → Type 0
  Ends d at k n hint = (o : Outcome) × (e : S) × Submits did w d at k n hint o e

  -- what is left to submit at most
  abbrev left : ℕ → ℕ → Bool → ℕ
  left at k hint = 66 * (length w.body - at) + (64 - k) + cond hint 1 0

  -- a transfer that less is left of ends
  abbrev Shorter : ℕ → Type 0
  Shorter size = (m : S) (at k n : ℕ) (hint : Bool) → left at k hint < size → k ≤ patience → Ends m at k n hint

  -- and so one ends whose submission was answered
  answered : (d m : S) (at k n : ℕ) (hint : Bool) → at < length w.body → k ≤ patience → Shorter (left at k hint) → (a : Result ℕ WriteFault) → Submitted did w at hint d a m → Ends d at k n hint
  answered d m at k n hint l h rest (Ok c) a =
      elim (cases_eq c 0) [
        | inl z ↦ (lost (nothing_landed w) hint, m, stuck l (rw z at a))
        | inr z ↦ let p : 0 < c = omega arith in
            let t = rest m (at + c) 0 (n + 1) hint (omega arith) (omega arith) in
            (t.0, t.1, more {e = t.1} {o = t.0} l c p a t.2)
      ]
  answered d m at k n hint l h rest (Err f) a =
      elim (cases_eq (code f.0) 4) [
        | inl z ↦ elim (cases_lt k patience) [
          | inl y ↦ let t = rest m at (k + 1) (n + 1) hint (omega arith) (omega arith) in (t.0, t.1, again {e = t.1} {o = t.0} l f z y a t.2)
          | inr y ↦ (lost (by_code f.0) hint, m, worn l f z y a)
        ]
        | inr z ↦ elim (cases_eq (code f.0) 95) [
          | inl v ↦ elim (cases_Bool hint) [
            | inl y ↦ let was : ◌≡◌ {A = ℕ} (cond hint 1 0) 1 = ap (λ (b : Bool). cond {A = ℕ} b 1 0) y in
                let t = rest m at k (n + 1) false (omega arith) h in
                (t.0, t.1, unhinted {e = t.1} {o = t.0} l f v y a t.2)
            | inr y ↦ (lost (by_code f.0) hint, m, broken l f z (λ _ u. false≢true (rw y at u)) a)
          ]
          | inr v ↦ (lost (by_code f.0) hint, m, broken l f z (λ u _. v u) a)
        ]
      ]

  -- a transfer ends, by recursion on a bound of what is left
  ends : Answers did → (fuel : ℕ) → Shorter fuel
  ends answers zero d at k n hint b h = absurd (omega arith)
  ends answers (suc fuel) d at k n hint b h =
      elim (cases_lt at (length w.body)) [
        | inl l ↦ let a = answers d _ in answered d a.1 at k n hint l h (λ m at' k' n' hint' b' h'. ends answers fuel m at' k' n' hint' (omega arith) h') a.0 a.2
        | inr l ↦ (landed n hint, d, all l)
      ]

module _ {S : Type 0} (did : S → (q : Request) → Answer q → S → Type 0) (answers : Answers did) where
  runs : {R : Type 0} (p : Prog R) (d : S) → (x : R) × (e : S) × Runs did p d x e
  runs (done x) d = (x, d, (refl, refl))
  runs (ask q k) d =
      let a = answers d q in
      let r = runs (k a.0) a.1 in
      (r.0, r.1, (a.0, a.1, a.2, r.2))
  runs (submit w hint k) d =
      let t = ends did w answers (left did w 0 0 hint + 1) d 0 0 0 hint (omega arith) (omega arith) in
      let r = runs (k t.0) t.1 in
      (r.0, r.1, (t.0, t.1, t.2, r.2))

pub total : {S : Type 0} (did : S → (q : Request) → Answer q → S → Type 0) → Total did
total did answers s c d = runs did answers (rule s c) d
