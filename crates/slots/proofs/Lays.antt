-- What the writes to a slot's memory come to. Assumes nothing.
use Rattle.std.proofs.Common.{◌≡◌, ℕ, ◌+◌, ◌-◌, ◌<◌, ◌≤◌, max, Bool, true, false, List, ◌++◌, length, get_or, take, replicate, sym, ap, ◌∙◌, inl, inr, arith}
use lib.Seq.{paste}
use Rattle.std.proofs.lemmas.List.{length-append, length-take, length-replicate, get_or_append_left, get_or-append_right, get_or-take, get_or-drop, get_or_past, get_or-replicate, ext_get_or}
use Rattle.std.proofs.lemmas.List.Edits.{length-paste}
use Rattle.std.proofs.lemmas.Bool.{cases_lt}
use Rattle.disk.specs.Laid.{sized, laid}
use Rattle.disk.specs.Files.{FileState}
use Rattle.disk.specs.Rules.{written}
use Rattle.disk.proofs.Layers.{laid_is, length_sized, get_or_sized}

-- the places of a list that another is pasted over
module _ (d : List ℕ) (at : ℕ) (s : List ℕ) (n : ℕ) (in' : at + n ≤ length d) (of : n ≤ length s) where
  front : length (take at d) ≡ at
  front = simp length-take (omega arith)

  middle : length (take n s) ≡ n
  middle = simp length-take (omega arith)

  pub paste_below : (k : ℕ) → k < at → get_or (paste d at s n) k 0 ≡ get_or d k 0
  paste_below k h =
      let f = front in
      let m : k < length (take at d ++ take n s) = simp length-append (omega arith) in
      get_or_append_left (take at d ++ take n s) _ 0 k m ∙ get_or_append_left (take at d) _ 0 k (omega arith) ∙ get_or-take at d k 0 h

  pub paste_within : (k : ℕ) → at ≤ k → k < at + n → get_or (paste d at s n) k 0 ≡ get_or s (k - at) 0
  paste_within k l h =
      let f = front in
      let g = middle in
      let m : k < length (take at d ++ take n s) = simp length-append (omega arith) in
      get_or_append_left (take at d ++ take n s) _ 0 k m ∙ get_or-append_right (take at d) _ at k 0 f l ∙ get_or-take n s (k - at) 0 (omega arith)

  pub paste_above : (k : ℕ) → at + n ≤ k → get_or (paste d at s n) k 0 ≡ get_or d k 0
  paste_above k h =
      let f = front in
      let g = middle in
      let e : at + n + (k - (at + n)) ≡ k = omega arith in
      get_or-append_right (take at d ++ take n s) _ (at + n) k 0 (simp length-append (omega arith)) h
      ∙ get_or-drop (at + n) d (k - (at + n)) 0 ∙ ap (λ j. get_or d j 0) e

-- past its end a list reads as 0
cut : (b : List ℕ) (len k : ℕ) → len ≤ k → get_or (take len b) k 0 ≡ 0
cut b len k h = get_or_past (take len b) k 0 (simp length-take (omega arith))

-- zeros up to `at`, then the bytes: the first of all that is laid
pub lay_is : (b : List ℕ) (len at : ℕ) (ys : List ℕ) → 0 < length ys → len ≤ length b → at + length ys ≤ length b → take (max len (at + length ys)) (paste (paste b len (replicate (at - len) 0) (at - len)) at ys (length ys)) ≡ laid (take len b) at ys
lay_is b len at ys some w fit =
    let n = length ys in
    let gap : List ℕ = replicate (at - len) 0 in
    let g : length gap ≡ at - len = length-replicate _ _ in
    let z = paste b len gap (at - len) in
    let lz : length z ≡ length b = length-paste b len gap (at - len) (omega arith) (omega arith) in
    let y = paste z at ys n in
    let ly : length y ≡ length b = length-paste z at ys n (omega arith) (omega arith) ∙ lz in
    laid_is (take len b) at ys (take (max len (at + n)) y) some (simp length-take (omega arith))
    (λ k h. get_or-take (max len (at + n)) y k 0 (omega arith) ∙ paste_below z at ys n (omega arith) (omega arith) k h
    ∙ elim (cases_lt k len) [
      | inl l ↦ paste_below b len gap (at - len) (omega arith) (omega arith) k l ∙ sym (get_or-take len b k 0 l)
      | inr l ↦ paste_within b len gap (at - len) (omega arith) (omega arith) k l (omega arith) ∙ get_or-replicate (at - len) (k - len) 0 0 (omega arith) ∙ sym (cut b len k l)
    ])
    (λ k l h. get_or-take (max len (at + n)) y k 0 (omega arith) ∙ paste_within z at ys n (omega arith) (omega arith) k l h)
    (λ k h. elim (cases_lt k len) [
      | inl l ↦ get_or-take (max len (at + n)) y k 0 (omega arith) ∙ paste_above z at ys n (omega arith) (omega arith) k h ∙ paste_below b len gap (at - len) (omega arith) (omega arith) k l ∙ sym (get_or-take len b k 0 l)
      | inr l ↦ get_or_past (take (max len (at + n)) y) k 0 (simp length-take (omega arith)) ∙ sym (cut b len k l)
    ])

-- zeros up to the new length, and a cut there
pub size_is : (b : List ℕ) (len n : ℕ) → len ≤ length b → n ≤ length b → take n (paste b len (replicate (n - len) 0) (n - len)) ≡ sized (take len b) n
size_is b len n w fit =
    let gap : List ℕ = replicate (n - len) 0 in
    let g : length gap ≡ n - len = length-replicate _ _ in
    let z = paste b len gap (n - len) in
    let lz : length z ≡ length b = length-paste b len gap (n - len) (omega arith) (omega arith) in
    ext_get_or 0 (take n z) (sized (take len b) n) (length-take n z ∙ omega arith ∙ sym (length_sized (take len b) n))
    (λ k h.
    let h' : k < n = let e = length-take n z in omega arith in
    get_or-take n z k 0 h'
    ∙ elim (cases_lt k len) [
      | inl l ↦ paste_below b len gap (n - len) (omega arith) (omega arith) k l ∙ sym (get_or-take len b k 0 l)
      | inr l ↦ paste_within b len gap (n - len) (omega arith) (omega arith) k l (omega arith) ∙ get_or-replicate (n - len) (k - len) 0 0 (omega arith) ∙ sym (cut b len k l)
    ]
    ∙ sym (get_or_sized (take len b) n k h'))

-- a write that lands nothing leaves the file
pub written_none : (x : FileState) (at : ℕ) (given : List ℕ) (durable : Bool) (c : ℕ) → c ≡ 0 → written x at given durable c ≡ x
unfolding laid
written_none x at given true c e = ap (λ m. written x at given true m) e
written_none x at given false c e = ap (λ m. written x at given false m) e
