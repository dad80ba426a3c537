-- The first number whose file passes a test. Assumes nothing.
use Rattle.std.specs.Prelude.{◌≡◌, ℕ, zero, suc, ◌+◌, ◌<◌, ◌≤◌, Bool, true, false, cond, not, ◌||◌, List, length, get_or, is_some, Some, None, Option, MatchOption, nat_lt}
use Rattle.std.specs.List.{AllWithin, HoldsAt}
use Rattle.std.proofs.Math.Path.{refl, ap}
use Rattle.std.proofs.Common.{sym, ◌∙◌, arith}
use Rattle.std.proofs.Math.Logic.{inl, inr}
use Rattle.std.proofs.lemmas.Bool.{cases_Bool, cases_eq}
use Rattle.keys.specs.KeyName.{KeyName}
use Rattle.disk.specs.Files.{FileState, DiskState, kept}
use Rattle.slots.specs.Told.{told_by}
use Rattle.flat.specs.declared.files.place.Place.{Place}
use Rattle.flat.specs.Places.{meaning_of, InOrder, first_from, bound_by, is_free}
use Rattle.flat.specs.Steps.{first_bound, first_free}
use Rattle.flat.specs.RowsLemmas.{here, eight, some_place, free_kept, key_kept}

module _ (test : Option FileState → Bool) (s : DiskState) where
  -- as a search finds it
  pub first_none : (i m : ℕ) → ((k : ℕ) → k < i + m → test (s k) ≡ false) → first_from test s i m ≡ None
  unfolding first_from
  first_none i zero h = refl
  first_none i (suc m) h = ap (λ b. cond b (Some i) (first_from test s (suc i) m)) (h i (omega arith)) ∙ first_none (suc i) m (λ k l. h k (omega arith))

  pub first_some : (i m j : ℕ) → i ≤ j → j < i + m → test (s j) ≡ true → ((k : ℕ) → k < j → test (s k) ≡ false) → first_from test s i m ≡ Some j
  unfolding first_from
  first_some i zero j a l t h = absurd (omega arith)
  first_some i (suc m) j a l t h =
      elim (cases_eq i j) [
        | inl e ↦ ap (λ b. cond b (Some i) (first_from test s (suc i) m)) (ap (λ k. test (s k)) e ∙ t) ∙ ap Some e
        | inr n ↦ ap (λ b. cond b (Some i) (first_from test s (suc i) m)) (h i (omega (arith, n))) ∙ first_some (suc i) m j (omega (arith, n)) (omega arith) t h
      ]

  -- what is found passes, and where nothing is found nothing does
  abbrev pub Finds : ℕ → ℕ → Option ℕ → Type 0
  Finds i m None = (k : ℕ) → i ≤ k → k < i + m → test (s k) ≡ false
  Finds i m (Some j) = test (s j) ≡ true

  finds_cons : (i m : ℕ) (o : Option ℕ) → test (s i) ≡ false → Finds (suc i) m o → Finds i (suc m) o
  finds_cons i m (Some j) f h = h
  finds_cons i m None f h = λ k a l. elim (cases_eq k i) [ inl e ↦ ap (λ j. test (s j)) e ∙ f | inr n ↦ h k (omega (arith, n)) (omega arith) ]

  pub first_finds : (i m : ℕ) → Finds i m (first_from test s i m)
  unfolding first_from
  first_finds i zero = λ k a l. absurd (omega arith)
  first_finds i (suc m) =
      elim (cases_Bool (test (s i))) [
        | inl t ↦ rw t t
        | inr t ↦ rw t (finds_cons i m (first_from test s (suc i) m) t (first_finds (suc i) m))
      ]

-- ---- the first place whose file passes a test

-- `position` finds the number that the specification names, where its test is that of the files that are kept
first_place : (test : Option FileState → Bool) (by : FileState → Bool) (xs : List Place) (r : Option ℕ) → ((x : FileState) → test (kept x) ≡ by x) → InOrder xs → MatchOption r (AllWithin (λ p. by p.file ≡ false) xs 0 (length xs)) (λ i. (i < length xs) × HoldsAt (λ p. by p.file ≡ true) xs i × AllWithin (λ p. by p.file ≡ false) xs 0 i) → r ≡ first_from test (meaning_of xs) 0 8
first_place test by xs None e o w =
    let n = eight xs o in
    let d = some_place xs n in
    sym (first_none test (meaning_of xs) 0 8 (λ k h. ap test (here xs k d (omega arith)) ∙ e (get_or xs k d).file ∙ w k d (omega arith) (omega arith)))
first_place test by xs (Some i) e o w =
    let n = eight xs o in
    let d = some_place xs n in
    let l : i < length xs = w.0 in
    sym (first_some test (meaning_of xs) 0 8 i (omega arith) (omega arith) (ap test (here xs i d l) ∙ e (get_or xs i d).file ∙ w.1 d)
    (λ k h. ap test (here xs k d (omega arith)) ∙ e (get_or xs k d).file ∙ w.2 k d (omega arith) h))

pub first_free_place : (xs : List Place) (r : Option ℕ) → InOrder xs → MatchOption r (AllWithin (λ p. not (nat_lt 0 p.file.holds || is_some p.file.key) ≡ false) xs 0 (length xs)) (λ i. (i < length xs) × HoldsAt (λ p. not (nat_lt 0 p.file.holds || is_some p.file.key) ≡ true) xs i × AllWithin (λ p. not (nat_lt 0 p.file.holds || is_some p.file.key) ≡ false) xs 0 i) → r ≡ first_free (meaning_of xs)
first_free_place xs r o w = first_place is_free (λ x. not (nat_lt 0 x.holds || is_some x.key)) xs r free_kept o w

pub first_bound_place : (tells : KeyName → Bool) (xs : List Place) (r : Option ℕ) → InOrder xs → MatchOption r (AllWithin (λ p. told_by tells p.file.key ≡ false) xs 0 (length xs)) (λ i. (i < length xs) × HoldsAt (λ p. told_by tells p.file.key ≡ true) xs i × AllWithin (λ p. told_by tells p.file.key ≡ false) xs 0 i) → r ≡ first_bound tells (meaning_of xs)
first_bound_place tells xs r o w = first_place (bound_by tells) (λ x. told_by tells x.key) xs r (λ x. ap (told_by tells) (key_kept x)) o w
