-- The buffers of a submission join to its bytes, and are as pwritev2(2) asks. Assumes nothing.
use Rattle.std.proofs.Common.{◌≡◌, ℕ, zero, suc, ◌+◌, ◌-◌, ◌<◌, ◌≤◌, cond, ◌&&◌, eqb, leb, List, [], ◌∷◌, ◌++◌, length, take, drop, refl, ap, ◌∙◌, inl, inr, arith, take-add}
use Rattle.std.specs.List.{AllByRecursion}
use Rattle.std.proofs.lemmas.List.{length-take, length-drop, length-append, drop-drop}
use Rattle.std.proofs.lemmas.Bool.{cases_Bool, cond_both, leb-true, leb-false, eqb-true, and_parts, ne_eqb}
use Rattle.disk.specs.Pages.{joined}
use Rattle.rules.specs.Chunks.{chunks, total, ahead, batch, next_bytes}
use Rattle.laws.specs.Buffers.{pieces, buffers, SubmissionsAccepted}

-- a chunk that is down is passed over
passed : (body : List ℕ) (l landed : ℕ) → l ≤ landed → drop (landed - l) (drop l body) ≡ drop landed body
passed body l landed h = let e : l + (landed - l) ≡ landed = omega arith in rw (drop-drop, e) refl

-- joined in order they are the bytes
whole : (c : ℕ) (body lengths : List ℕ) (landed : ℕ) → joined (pieces c body lengths landed) ≡ take (ahead c lengths landed) (drop landed body)
unfolding joined
whole c body [] landed = refl
whole zero body (l ∷ ls) landed = refl
whole (suc c) body (l ∷ ls) landed =
    elim (cases_Bool (leb l landed)) [
      | inl e ↦ rw e (whole (suc c) (drop l body) ls (landed - l) ∙ ap (take (ahead (suc c) ls (landed - l))) (passed body l landed (leb-true l landed e)))
      | inr e ↦ let h : landed ≤ l = omega (arith, leb-false l landed e) in
          rw e (rw (take-add, passed body landed l h) (ap (λ r. take (l - landed) (drop landed body) ++ r) (whole c (drop l body) ls 0)))
    ]

-- at most c, and at most one for each chunk
few : (c : ℕ) (body lengths : List ℕ) (landed : ℕ) → length (pieces c body lengths landed) ≤ c
few c body [] landed = omega arith
few zero body (l ∷ ls) landed = omega arith
few (suc c) body (l ∷ ls) landed =
    cond_both (leb l landed) _ _ (λ (bs : List (List ℕ)). length bs ≤ suc c) (λ _. few (suc c) (drop l body) ls (landed - l)) (λ _. let h = few c (drop l body) ls 0 in omega arith)

one_each : (c : ℕ) (body lengths : List ℕ) (landed : ℕ) → length (pieces c body lengths landed) ≤ chunks lengths
one_each c body [] landed = omega arith
one_each zero body (l ∷ ls) landed = omega arith
one_each (suc c) body (l ∷ ls) landed =
    cond_both (leb l landed) _ _ (λ (bs : List (List ℕ)). length bs ≤ cond (eqb l 0) 0 1 + chunks ls) (λ _. let h = one_each (suc c) (drop l body) ls (landed - l) in omega arith)
    (λ e. let h = one_each c (drop l body) ls 0 in let full = ne_eqb l 0 (omega (arith, leb-false l landed e)) in rw full (omega arith))

-- at least one while bytes are left
some : (c : ℕ) (body lengths : List ℕ) (landed : ℕ) → 0 < c → landed < total lengths → 0 < length (pieces c body lengths landed)
some c body [] landed p h = absurd (omega arith)
some zero body (l ∷ ls) landed p h = absurd (omega arith)
some (suc c) body (l ∷ ls) landed p h =
    cond_both (leb l landed) _ _ (λ (bs : List (List ℕ)). 0 < length bs) (λ e. some (suc c) (drop l body) ls (landed - l) p (omega (arith, leb-true l landed e))) (λ _. omega arith)

-- and none is empty
filled : (c : ℕ) (body lengths : List ℕ) (landed : ℕ) → total lengths ≤ length body → AllByRecursion (λ b. 0 < length b) (pieces c body lengths landed)
filled c body [] landed h = tt
filled zero body (l ∷ ls) landed h = tt
filled (suc c) body (l ∷ ls) landed h =
    let n = length-drop l body in
    cond_both (leb l landed) _ _ (AllByRecursion (λ b. 0 < length b)) (λ _. filled (suc c) (drop l body) ls (landed - l) (omega arith))
    (λ e. (simp (length-take, length-drop) (omega (arith, leb-false l landed e)), filled c (drop l body) ls 0 (omega arith)))

least : (bs : List (List ℕ)) → 0 < length bs → AllByRecursion (λ b. 0 < length b) bs → 0 < length (joined bs)
unfolding joined
least [] p h = absurd (omega arith)
least (b ∷ bs) p h = simp length-append (omega arith)

pub accepted : SubmissionsAccepted
accepted body lengths offset at ok fits h =
    let within = (and_parts (leb (length lengths) 4096) (leb (length body) 16777216 && eqb (total lengths) (length body)) ok).1 in
    let parts = and_parts (leb (length body) 16777216) (eqb (total lengths) (length body)) within in
    let size = leb-true (length body) 16777216 parts.0 in
    let sum = eqb-true (total lengths) (length body) parts.1 in
    let some = some batch body lengths at (omega arith) (omega arith) in
    let filled = filled batch body lengths at (omega arith) in
    let all = whole batch body lengths at in
    let n : length (next_bytes body lengths at) ≤ length body - at = simp (length-take, length-drop) (omega arith) in
    let size_is : length (joined (buffers body lengths at)) ≡ length (next_bytes body lengths at) = ap length all in
    (record { some = some; filled = filled; whole = all; least = rw all at (least (buffers body lengths at) some filled); most = omega arith; accepted = record { few = few batch body lengths at; short = omega arith; ends = omega arith } }, λ one. omega (arith, one_each batch body lengths at))
