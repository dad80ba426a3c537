-- What a read copies. Assumes nothing.
use Rattle.std.proofs.Common.{◌≡◌, ℕ, ◌-◌, ◌≤◌, min, List, ◌++◌, length, take, drop, sym, ap, ◌∙◌, inl, inr, arith}
use Rattle.std.proofs.lemmas.List.{length-take, length-drop, take_all, take_at}
use Rattle.std.proofs.lemmas.Bool.{cases_lt}

part_length : (all : List ℕ) (at n : ℕ) → n ≤ length all - at → length (take n (drop at all)) ≡ n
part_length all at n h = let e = length-drop at all in length-take n (drop at all) ∙ omega arith

module _ (all into : List ℕ) (at n : ℕ) (e : n ≡ min (length into) (length all - at)) where
  within : length (take n (drop at all)) ≡ n
  within = part_length all at n (omega arith)

  cut : take n (drop at all) ≡ take (length into) (drop at all)
  cut =
      let l = length-drop at all in
      elim (cases_lt (length all - at) (length into)) [
        | inl h ↦ take_all n (drop at all) (omega arith) ∙ sym (take_all (length into) (drop at all) (omega arith))
        | inr h ↦ let z : n ≡ length into = omega arith in ap (λ j. take j (drop at all)) z
      ]

  pub out_got : (after : List ℕ) → after ≡ take n (drop at all) ++ drop n into → take n after ≡ take (length into) (drop at all)
  out_got after f = ap (take n) f ∙ take_at (take n (drop at all)) (drop n into) n within ∙ cut
