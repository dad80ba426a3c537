-- What the next chunks have: it is the sum of the parts that are not down, and it is something while a byte is left. Assumes nothing.
use Rattle.std.proofs.Common.{◌≡◌, ℕ, zero, suc, ◌+◌, ◌-◌, ◌<◌, ◌≤◌, min, leb, not, ◌==◌, List, [], ◌∷◌, take, sum, refl, arith}
use Rattle.std.specs.List.{fold, filter, scan}
use Rattle.std.proofs.lemmas.Bool.{cond_both, leb-true, leb-false}
use Rattle.std.proofs.lemmas.Bool.Decides.{nat_tests}
use Rattle.std.proofs.lemmas.List.Sums.{sum_by-cons}
use Rattle.rules.specs.Chunks.{ahead, total}

-- what of each length is not down yet, where that is something
abbrev pub parts : List ℕ → ℕ → List ℕ
parts xs down = filter (λ n. not (n == 0)) (scan (λ d n. d - n) (λ d n. n - d) down xs)

pub sum_parts : (c : ℕ) (xs : List ℕ) (down : ℕ) → sum (take c (parts xs down)) ≡ ahead c xs down
sum_parts zero [] down = refl
sum_parts zero (x ∷ xs) down = refl
sum_parts (suc c) [] down = refl
sum_parts (suc c) (x ∷ xs) down =
    let past = sum_parts (suc c) xs (down - x) in
    let more = sum_parts c xs 0 in
    let first = sum_by-cons (λ n. n) (x - down) (take c (parts xs 0)) in
    grind (arith, nat_tests)

-- a sum that stays at the most it may be
abbrev pub up_to : ℕ → ℕ → ℕ → ℕ
up_to most a n = min (a + n) most

pub fold_up_to : (most a : ℕ) (xs : List ℕ) → a ≤ most → fold (up_to most) a xs ≡ min (a + sum xs) most
fold_up_to most a [] h = omega arith
fold_up_to most a (x ∷ xs) h =
    let e = fold_up_to most (up_to most a x) xs (omega arith) in
    omega (arith, sum_by-cons (λ n. n) x xs)

-- while the lengths have more than is down, something is ahead
pub ahead_some : (c : ℕ) (xs : List ℕ) (down : ℕ) → 0 < c → down < total xs → 0 < ahead c xs down
ahead_some c [] down p lt = absurd (omega arith)
ahead_some zero (x ∷ xs) down p lt = absurd (omega arith)
ahead_some (suc c) (x ∷ xs) down p lt =
    cond_both (leb x down) _ _ (λ n. 0 < n) (λ e. let h = leb-true x down e in ahead_some (suc c) xs (down - x) p (omega arith)) (λ e. let h = leb-false x down e in omega arith)
