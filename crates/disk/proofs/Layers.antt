-- The laws of `sized` and `laid`, by places. Assumes nothing.
use Rattle.std.proofs.Common.{◌≡◌, ℕ, ◌+◌, ◌-◌, ◌<◌, ◌≤◌, max, List, [], ◌∷◌, ◌++◌, length, get_or, take, sym, refl, ap, ◌∙◌, inl, inr, append-nil, add-zero, arith}
use Rattle.std.proofs.lemmas.List.{length-append, length-take, length-drop, length-replicate, get_or_append_left, get_or-append_right, get_or-take, get_or-drop, get_or_past, get_or-replicate, ext_get_or}
use Rattle.std.proofs.lemmas.Bool.{cases_lt}
use Rattle.disk.specs.Laid.{sized, laid}

pub length_sized : (old : List ℕ) (n : ℕ) → length (sized old n) ≡ n
unfolding sized
length_sized old n = simp (length-append, length-take, length-replicate) (omega arith)

-- past the end old reads as 0
pub get_or_sized : (old : List ℕ) (n k : ℕ) → k < n → get_or (sized old n) k 0 ≡ get_or old k 0
unfolding sized
get_or_sized old n k h =
    elim (cases_lt k (length old)) [
      | inl l ↦ get_or_append_left (take n old) _ 0 k (simp length-take (omega arith)) ∙ get_or-take n old k 0 h
      | inr l ↦ get_or-append_right (take n old) _ (length old) k 0 (simp length-take (omega arith)) l ∙ get_or-replicate (n - length old) (k - length old) 0 0 (omega arith) ∙ sym (get_or_past old k 0 l)
    ]

module _ (old : List ℕ) (at : ℕ) where
  pub length_laid : (ys : List ℕ) → 0 < length ys → length (laid old at ys) ≡ max (length old) (at + length ys)
  unfolding laid
  length_laid [] h = absurd (omega arith)
  length_laid (y ∷ ys) h = let e = length_sized old at in simp (length-append, length-drop) (omega arith)

  -- before the place: old as it was, and zeros past its end
  pub laid_below : (ys : List ℕ) (k : ℕ) → k < at → 0 < length ys → get_or (laid old at ys) k 0 ≡ get_or old k 0
  unfolding laid
  laid_below [] k h p = refl
  laid_below (y ∷ ys) k h p = get_or_append_left (sized old at) _ 0 k (rw length_sized h) ∙ get_or_sized old at k h

  pub laid_within : (ys : List ℕ) (k : ℕ) → at ≤ k → k < at + length ys → get_or (laid old at ys) k 0 ≡ get_or ys (k - at) 0
  unfolding laid
  laid_within [] k h l = absurd (omega arith)
  laid_within (y ∷ ys) k h l =
      get_or-append_right (sized old at) _ at k 0 (length_sized old at) h ∙ get_or_append_left (y ∷ ys) _ 0 (k - at) (omega arith)

  pub laid_above : (ys : List ℕ) (k : ℕ) → at + length ys ≤ k → get_or (laid old at ys) k 0 ≡ get_or old k 0
  unfolding laid
  laid_above [] k h = refl
  laid_above (y ∷ ys) k h =
      let e : at + length (y ∷ ys) + (k - at - length (y ∷ ys)) ≡ k = omega arith in
      get_or-append_right (sized old at) _ at k 0 (length_sized old at) (omega arith)
      ∙ get_or-append_right (y ∷ ys) _ (length (y ∷ ys)) (k - at) 0 refl (omega arith)
      ∙ get_or-drop (at + length (y ∷ ys)) old (k - at - length (y ∷ ys)) 0 ∙ ap (λ j. get_or old j 0) e

  -- and these places are all that there is to it
  pub laid_is : (ys zs : List ℕ) → 0 < length ys → length zs ≡ max (length old) (at + length ys) → ((k : ℕ) → k < at → get_or zs k 0 ≡ get_or old k 0) → ((k : ℕ) → at ≤ k → k < at + length ys → get_or zs k 0 ≡ get_or ys (k - at) 0) → ((k : ℕ) → at + length ys ≤ k → get_or zs k 0 ≡ get_or old k 0) → zs ≡ laid old at ys
  laid_is ys zs p n below within above =
      ext_get_or 0 zs (laid old at ys) (n ∙ sym (length_laid ys p))
      (λ k h. elim (cases_lt k at) [
        | inl l ↦ below k l ∙ sym (laid_below ys k l p)
        | inr l ↦ elim (cases_lt k (at + length ys)) [ inl m ↦ within k l m ∙ sym (laid_within ys k l m) | inr m ↦ above k m ∙ sym (laid_above ys k m) ]
      ])

-- what is laid right behind what was laid is laid with it
pub laid_on : (old : List ℕ) (at : ℕ) (xs ys : List ℕ) → laid (laid old at xs) (at + length xs) ys ≡ laid old at (xs ++ ys)
unfolding laid
laid_on old at [] ys = ap (λ k. laid old k ys) (add-zero at)
laid_on old at (x ∷ xs) [] = ap (laid old at) (sym (append-nil (x ∷ xs)))
laid_on old at (x ∷ xs) (y ∷ ys) = both (x ∷ xs) (y ∷ ys) (omega arith) (omega arith)
  where
    both : (xs ys : List ℕ) → 0 < length xs → 0 < length ys → laid (laid old at xs) (at + length xs) ys ≡ laid old at (xs ++ ys)
    both xs ys p q =
        let old' = laid old at xs in
        let n = length-append xs ys in
        laid_is old at (xs ++ ys) (laid old' (at + length xs) ys) (omega arith) (length_laid old' (at + length xs) ys q ∙ (let e = length_laid old at xs p in omega arith))
        (λ k l. laid_below old' (at + length xs) ys k (omega arith) q ∙ laid_below old at xs k l p)
        (λ k l m. elim (cases_lt k (at + length xs)) [
          | inl b ↦ laid_below old' (at + length xs) ys k b q ∙ laid_within old at xs k l b ∙ sym (get_or_append_left xs ys 0 (k - at) (omega arith))
          | inr b ↦ let e : k - (at + length xs) ≡ k - at - length xs = omega arith in
              laid_within old' (at + length xs) ys k b (omega arith) ∙ ap (λ j. get_or ys j 0) e ∙ sym (get_or-append_right xs ys (length xs) (k - at) 0 refl (omega arith))
        ])
        (λ k l. laid_above old' (at + length xs) ys k (omega arith) ∙ laid_above old at xs k (omega arith))
