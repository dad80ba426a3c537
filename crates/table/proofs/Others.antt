-- The map that a list stands for once the elements of some keys are taken out. Assumes nothing.
use Rattle.std.proofs.Common.{◌≡◌, ℕ, zero, suc, ◌<◌, Bool, true, false, cond, not, is_some, List, [], ◌∷◌, map, length, get_or, None, Option, sym, refl, ap, ◌∙◌, arith}
use Rattle.std.specs.List.{filter, remove, AllWithin}
use Rattle.std.specs.Option.{option_map}
use Rattle.table.specs.Maps.{others, without}
use Rattle.std.proofs.lemmas.Bool.{and_parts, and_from}
use Rattle.table.specs.Held.{held, apart, TellsApart, map_of}
use Rattle.table.proofs.Entries.{none_from, from_none}

module _ {X : Type 0} (tells : X → Bool) where
  -- an element that is told may be taken out first
  pub others_removed : (xs : List X) (i : ℕ) (x : X) → i < length xs → x ≡ get_or xs i x → tells x ≡ true → others tells (remove xs i) ≡ others tells xs
  others_removed [] i x l e t = absurd (omega arith)
  others_removed (y ∷ ys) zero x l e t = let a = ap tells (sym e) ∙ t in rw a refl
  others_removed (y ∷ ys) (suc i) x l e t =
      ap (λ (o : List X). cond (tells y) o (y ∷ o)) (others_removed ys i x (omega arith) e t)

  -- std's filter of those that are not told leaves the same
  pub filter_others : (xs : List X) → filter (λ x. not (tells x)) xs ≡ others tells xs
  filter_others [] = refl
  filter_others (x ∷ xs) = let b = filter_others xs in grind arith

  -- where none is told, all are left
  pub others_all : (xs : List X) → AllWithin (λ x. tells x ≡ false) xs 0 (length xs) → others tells xs ≡ xs
  others_all [] h = refl
  others_all (x ∷ xs) h =
      let a = h 0 x (omega arith) (omega arith) in
      rw a (ap (λ (o : List X). x ∷ o) (others_all xs (λ k d _ b. h (suc k) d (omega arith) (omega arith))))

module _ {X K : Type 0} (same : K → K → Bool) (tell : TellsApart same) (id : X → K) (tells : K → Bool) where
  keys_others : (xs : List X) → map id (others (λ x. tells (id x)) xs) ≡ others tells (map id xs)
  keys_others [] = refl
  keys_others (x ∷ xs) =
      let o = others (λ x. tells (id x)) xs in
      let b = keys_others xs in
      elim (tells (id x)) as (λ t. map id (cond t o (x ∷ o)) ≡ cond t (others tells (map id xs)) (id x ∷ others tells (map id xs))) [ true ↦ b | false ↦ ap (λ (l : List K). id x ∷ l) b ]

  held_others : (xs : List X) (q : K) → held same id (others (λ x. tells (id x)) xs) q ≡ cond (tells q) None (held same id xs q)
  unfolding held
  held_others [] q = elim (tells q) as (λ t. ◌≡◌ {A = Option X} None (cond t None None)) [ true ↦ refl | false ↦ refl ]
  held_others (x ∷ xs) q =
      let b = held_others xs q in
      let t = tell q (id x) in
      grind arith

  -- what is left has each key once
  pub apart_others : (xs : List X) → apart same id xs ≡ true → apart same id (others (λ x. tells (id x)) xs) ≡ true
  unfolding held apart
  apart_others [] p = refl
  apart_others (x ∷ xs) p =
      let o = others (λ x. tells (id x)) xs in
      let both = and_parts (not (is_some (held same id xs (id x)))) (apart same id xs) p in
      let rest = apart_others xs both.1 in
      let gone : held same id o (id x) ≡ None = held_others xs (id x) ∙ ap (cond (tells (id x)) None) (none_from _ both.0) ∙ elim (tells (id x)) as (λ t. ◌≡◌ {A = Option X} (cond t None None) None) [ true ↦ refl | false ↦ refl ] in
      elim (tells (id x)) as (λ t. apart same id (cond t o (x ∷ o)) ≡ true) [ true ↦ rest | false ↦ and_from _ _ (from_none _ gone) rest ]

  pub map_others : {Y : Type 0} (value : X → Y) (xs : List X) → map_of same id value (others (λ x. tells (id x)) xs) ≡ without tells (map_of same id value xs)
  map_others value xs =
      let out = λ (q : K). elim (tells q) as (λ t. option_map value (cond t None (held same id xs q)) ≡ cond t None (option_map value (held same id xs q))) [ true ↦ refl | false ↦ refl ] in
      let at-q = λ (q : K). ap (option_map value) (held_others xs q) ∙ out q in
      (λ j. record { at = λ q. at-q q j; keys = keys_others xs j })
