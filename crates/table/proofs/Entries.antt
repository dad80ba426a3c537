-- The map that a list stands for after an element is added, changed or taken out. Assumes nothing.
use Rattle.std.proofs.Common.{◌≡◌, ℕ, zero, suc, ◌<◌, ◌≤◌, Bool, true, false, cond, not, ◌&&◌, ◌||◌, ltb, List, [], ◌∷◌, ◌++◌, map, length, get_or, set, is_some, Some, None, Option, sym, refl, ap, ◌∙◌, arith}
use lib.ListN.{length-map}
use Rattle.std.specs.Map.{update}
use Rattle.std.specs.List.{remove, HoldsAt}
use Rattle.std.specs.Option.{option_map}
use Rattle.std.proofs.lemmas.List as lists
use Rattle.std.proofs.lemmas.Bool.{and_parts, and_from, or_left, le-ltb}
use Rattle.table.specs.Maps.{Map, fits, others, rekeyed, put, none}
use Rattle.table.specs.Keys.{Without, Place}
use Rattle.table.specs.Held.{held, apart, TellsApart, map_of}

none_parts : {X : Type 0} (b : Bool) (x : X) (o : Option X) → cond b (Some x) o ≡ None → (b ≡ false) × (o ≡ None)
none_parts true x o e = let z : ◌≡◌ {A = ℕ} 0 1 = cc in absurd (omega arith)
none_parts false x o e = (refl, e)

pub none_from : {X : Type 0} (o : Option X) → not (is_some o) ≡ true → o ≡ None
none_from None e = refl
none_from (Some x) e = let z : ◌≡◌ {A = ℕ} 0 1 = cc in absurd (omega arith)

pub from_none : {X : Type 0} (o : Option X) → o ≡ None → not (is_some o) ≡ true
from_none o e = ap (λ v. not (is_some v)) e

mapped_update : {X Y K : Type 0} (same : K → K → Bool) (v : X → Y) (f : K → Option X) (k : K) (w : Option X) (q : K) → option_map v (update same f k w q) ≡ update same (λ k. option_map v (f k)) k (option_map v w) q
mapped_update same v f k w q =
    elim (same k q) as (λ b. option_map v (cond b w (f q)) ≡ cond b (option_map v w) (option_map v (f q))) [ true ↦ refl | false ↦ refl ]

-- to free a key that has no place changes nothing
pub put_still : {K Y : Type 0} (same : K → K → Bool) (tells : TellsApart same) (m : Map K Y) (k : K) → m.at k ≡ None → m ≡ put same m k None
put_still {K} {Y} same tells m k e =
    let at-q : (q : K) → m.at q ≡ update same m.at k None q = λ q. let t = tells q k in grind arith in
    let all = sym (ap (λ o. rekeyed {X = Y} same m.keys k o None) e) in
    (λ j. record { at = λ q. at-q q j; keys = all j })

-- nor does to change its value
pub change_still : {K Y : Type 0} (same : K → K → Bool) (tells : TellsApart same) (m : Map K Y) (k : K) (f : Option Y → Option Y) → None ≡ m.at k → None ≡ f None → m ≡ put same m k (f (m.at k))
change_still {K} {Y} same tells m k f here is = put_still same tells m k (sym here) ∙ ap (λ (v : Option Y). put same m k v) (is ∙ ap f here)

module _ {X K : Type 0} (same : K → K → Bool) (tells : TellsApart same) (id : X → K) where
  tail : (x : X) (xs : List X) (n : K) (k : ℕ) → Without id (x ∷ xs) n (suc k) → Without id xs n k
  tail x xs n k w j d _ h = w (suc j) d (omega arith) (omega arith)

  head : (x : X) (xs : List X) (n : K) (k : ℕ) → Without id (x ∷ xs) n (suc k) → id x ≡ n → ⊥
  head x xs n k w = w 0 x (omega arith) (omega arith)

  pub held_absent : (xs : List X) (n : K) → Without id xs n (length xs) → held same id xs n ≡ None
  unfolding held apart
  held_absent [] n w = refl
  held_absent (x ∷ xs) n w =
      let a = head x xs n (length xs) w in
      let b = held_absent xs n (tail x xs n (length xs) w) in
      grind (arith, tells)

  pub held_found : (xs : List X) (n : K) (i : ℕ) (d : X) → i < length xs → HoldsAt (λ x. id x ≡ n) xs i → Without id xs n i → held same id xs n ≡ Some (get_or xs i d)
  unfolding held apart
  held_found [] n i d l h w = absurd (omega arith)
  held_found (x ∷ xs) n zero d l h w = let a = h x in grind (arith, tells)
  held_found (x ∷ xs) n (suc i) d l h w =
      let a = head x xs n i w in
      let b = held_found xs n i d (omega arith) h (tail x xs n i w) in
      grind (arith, tells)

  pub held_push : (xs : List X) (x : X) → held same id xs (id x) ≡ None → (q : K) → held same id (xs ++ x ∷ []) q ≡ update same (held same id xs) (id x) (Some x) q
  unfolding held apart
  held_push [] x e q = grind (arith, tells)
  held_push (y ∷ ys) x e q =
      let a = none_parts (same (id x) (id y)) y (held same id ys (id x)) e in
      let b = held_push ys x a.1 q in
      grind (arith, tells)

  pub held_set : (xs : List X) (n : K) (i : ℕ) (y : X) → i < length xs → HoldsAt (λ x. id x ≡ n) xs i → Without id xs n i → id y ≡ n → (q : K) → held same id (set xs i y) q ≡ update same (held same id xs) n (Some y) q
  unfolding held apart
  held_set [] n i y l h w e q = absurd (omega arith)
  held_set (x ∷ xs) n zero y l h w e q = let a = h x in grind (arith, tells)
  held_set (x ∷ xs) n (suc i) y l h w e q =
      let a = head x xs n i w in
      let b = held_set xs n i y (omega arith) h (tail x xs n i w) e q in
      grind (arith, tells)

  pub held_removed : (xs : List X) (n : K) (i : ℕ) → i < length xs → HoldsAt (λ x. id x ≡ n) xs i → Without id xs n i → apart same id xs ≡ true → (q : K) → held same id (remove xs i) q ≡ update same (held same id xs) n None q
  unfolding held apart
  held_removed [] n i l h w p q = absurd (omega arith)
  held_removed (x ∷ xs) n zero l h w p q =
      let a = h x in
      let b = none_from (held same id xs (id x)) (and_parts _ _ p).0 in
      let e : held same id xs n ≡ None = ap (held same id xs) (sym a) ∙ b in
      grind (arith, tells)
  held_removed (x ∷ xs) n (suc i) l h w p q =
      let a = head x xs n i w in
      let p' = (and_parts (not (is_some (held same id xs (id x)))) (apart same id xs) p).1 in
      let b = held_removed xs n i (omega arith) h (tail x xs n i w) p' q in
      grind (arith, tells)

  pub apart_push : (xs : List X) (x : X) → apart same id xs ≡ true → held same id xs (id x) ≡ None → apart same id (xs ++ x ∷ []) ≡ true
  unfolding held apart
  apart_push [] x p e = refl
  apart_push (y ∷ ys) x p e =
      let a = none_parts (same (id x) (id y)) y (held same id ys (id x)) e in
      let p' = and_parts (not (is_some (held same id ys (id y)))) (apart same id ys) p in
      let b = held_push ys x a.1 (id y) in
      let n = none_from _ p'.0 in
      let f : held same id (ys ++ x ∷ []) (id y) ≡ None = grind (arith, tells) in
      and_from _ _ (from_none _ f) (apart_push ys x p'.1 a.1)

  pub apart_none : (xs : List X) → xs ≡ [] → apart same id xs ≡ true
  unfolding held apart
  apart_none xs e = ap (apart same id) e

  some_set : (xs : List X) (n : K) (i : ℕ) (y : X) → HoldsAt (λ x. id x ≡ n) xs i → id y ≡ n → (q : K) → is_some (held same id (set xs i y) q) ≡ is_some (held same id xs q)
  unfolding held apart
  some_set [] n i y h e q = refl
  some_set (x ∷ xs) n zero y h e q = let a = h x in grind (arith, tells)
  some_set (x ∷ xs) n (suc i) y h e q = let b = some_set xs n i y h e q in grind (arith, tells)

  pub apart_set : (xs : List X) (n : K) (i : ℕ) (y : X) → HoldsAt (λ x. id x ≡ n) xs i → id y ≡ n → apart same id (set xs i y) ≡ apart same id xs
  unfolding held apart
  apart_set [] n i y h e = refl
  apart_set (x ∷ xs) n zero y h e = ap (λ m. not (is_some (held same id xs m)) && apart same id xs) (e ∙ sym (h x))
  apart_set (x ∷ xs) n (suc i) y h e =
      ap (λ s. not s && apart same id (set xs i y)) (some_set xs n i y h e (id x)) ∙ ap (λ s. not (is_some (held same id xs (id x))) && s) (apart_set xs n i y h e)

  none_removed : (xs : List X) (i : ℕ) (q : K) → held same id xs q ≡ None → held same id (remove xs i) q ≡ None
  unfolding held apart
  none_removed [] zero q e = refl
  none_removed [] (suc i) q e = refl
  none_removed (x ∷ xs) zero q e = (none_parts _ _ _ e).1
  none_removed (x ∷ xs) (suc i) q e =
      let a = none_parts (same q (id x)) x (held same id xs q) e in
      let b = none_removed xs i q a.1 in
      grind (arith, tells)

  pub apart_removed : (xs : List X) (i : ℕ) → apart same id xs ≡ true → apart same id (remove xs i) ≡ true
  unfolding held apart
  apart_removed [] zero p = refl
  apart_removed [] (suc i) p = refl
  apart_removed (x ∷ xs) zero p = (and_parts _ _ p).1
  apart_removed (x ∷ xs) (suc i) p =
      let p' = and_parts (not (is_some (held same id xs (id x)))) (apart same id xs) p in
      and_from _ _ (from_none _ (none_removed xs i (id x) (none_from _ p'.0))) (apart_removed xs i p'.1)

  pub apart_change : (xs : List X) (n : K) (i : ℕ) (x y : X) → Place id xs n (Some i) → x ≡ get_or xs i x → id y ≡ id x → apart same id xs ≡ true → apart same id (set xs i y) ≡ true
  apart_change xs n i x y p e h d = apart_set xs n i y p.1 (h ∙ ap id e ∙ p.1 x) ∙ d

  pub apart_pushed : (xs ys : List X) (x : X) → ys ≡ xs ++ x ∷ [] → apart same id xs ≡ true → Place id xs (id x) None → apart same id ys ≡ true
  apart_pushed xs ys x e d p = ap (apart same id) e ∙ apart_push xs x d (held_absent xs (id x) p)

  pub apart_taken : (xs ys : List X) (i : ℕ) → ys ≡ remove xs i → apart same id xs ≡ true → apart same id ys ≡ true
  apart_taken xs ys i e d = ap (apart same id) e ∙ apart_removed xs i d

  -- ---- the keys of a list

  keys_set : (xs : List X) (n : K) (i : ℕ) (y : X) → HoldsAt (λ x. id x ≡ n) xs i → id y ≡ n → map id (set xs i y) ≡ map id xs
  keys_set [] n i y h e = refl
  keys_set (x ∷ xs) n zero y h e = ap (λ k. k ∷ map id xs) (e ∙ sym (h x))
  keys_set (x ∷ xs) n (suc i) y h e = ap (λ l. id x ∷ l) (keys_set xs n i y h e)

  others_absent : (xs : List X) (n : K) → held same id xs n ≡ None → others (same n) (map id xs) ≡ map id xs
  unfolding held
  others_absent [] n e = refl
  others_absent (x ∷ xs) n e =
      let a = none_parts (same n (id x)) x (held same id xs n) e in rw a.0 (ap (λ l. id x ∷ l) (others_absent xs n a.1))

  keys_removed : (xs : List X) (n : K) (i : ℕ) → i < length xs → HoldsAt (λ x. id x ≡ n) xs i → Without id xs n i → apart same id xs ≡ true → map id (remove xs i) ≡ others (same n) (map id xs)
  unfolding held apart
  keys_removed [] n i l h w p = absurd (omega arith)
  keys_removed (x ∷ xs) n zero l h w p =
      let a = h x in
      let b = none_from (held same id xs (id x)) (and_parts _ _ p).0 in
      let c = others_absent xs n (ap (held same id xs) (sym a) ∙ b) in
      grind (arith, tells)
  keys_removed (x ∷ xs) n (suc i) l h w p =
      let a = head x xs n i w in
      let p' = (and_parts (not (is_some (held same id xs (id x)))) (apart same id xs) p).1 in
      let b = keys_removed xs n i (omega arith) h (tail x xs n i w) p' in
      grind (arith, tells)

  -- ---- the map

  module _ {Y : Type 0} (value : X → Y) where
    pub at_absent : (xs : List X) (k : K) → Place id xs k None → option_map value (held same id xs k) ≡ None
    at_absent xs k p = ap (option_map value) (held_absent xs k p)

    pub at_found : (xs : List X) (k : K) (i : ℕ) (x : X) → Place id xs k (Some i) → x ≡ get_or xs i x → option_map value (held same id xs k) ≡ Some (value x)
    at_found xs k i x p e = ap (option_map value) (held_found xs k i x p.0 p.1 p.2 ∙ ap Some (sym e))

    pub map_empty : (xs : List X) → xs ≡ [] → map_of same id value xs ≡ none
    unfolding held
    map_empty xs e = ap (map_of same id value) e

    pub fits_found : (n : ℕ) (xs : List X) (k : K) (i : ℕ) (x : X) → Place id xs k (Some i) → x ≡ get_or xs i x → true ≡ fits n (map_of same id value xs) k
    fits_found n xs k i x p e = sym (or_left (is_some (option_map value (held same id xs k))) (ltb (length (map id xs)) n) (ap is_some (at_found xs k i x p e)))

    fits_absent : (n : ℕ) (xs : List X) (k : K) → Place id xs k None → ltb (length xs) n ≡ fits n (map_of same id value xs) k
    fits_absent n xs k p =
        ap (λ l. ltb l n) (sym (length-map xs id)) ∙ sym (ap (λ o. is_some o || ltb (length (map id xs)) n) (at_absent xs k p))

    pub fits_none : (n : ℕ) (xs : List X) (k : K) → Place id xs k None → n ≤ length xs → false ≡ fits n (map_of same id value xs) k
    fits_none n xs k p h = sym (le-ltb _ _ h) ∙ fits_absent n xs k p

    pub map_push : (xs ys : List X) (x : X) → ys ≡ xs ++ x ∷ [] → Place id xs (id x) None → map_of same id value ys ≡ put same (map_of same id value xs) (id x) (Some (value x))
    map_push xs ys x e p =
        let at-q = λ (q : K). ap (option_map value) (held_push xs x (held_absent xs (id x) p) q) ∙ mapped_update same value (held same id xs) (id x) (Some x) q in
        let all = lists.map_push id xs x ∙ sym (ap (λ o. rekeyed same (map id xs) (id x) o (Some (value x))) (at_absent xs (id x) p)) in
        ap (map_of same id value) e ∙ (λ j. record { at = λ q. at-q q j; keys = all j })

    pub map_change : (xs : List X) (k : K) (i : ℕ) (x y : X) → Place id xs k (Some i) → x ≡ get_or xs i x → id y ≡ id x → map_of same id value (set xs i y) ≡ put same (map_of same id value xs) k (Some (value y))
    map_change xs k i x y p e h =
        let is-k = h ∙ ap id e ∙ p.1 x in
        let at-q = λ (q : K). ap (option_map value) (held_set xs k i y p.0 p.1 p.2 is-k q) ∙ mapped_update same value (held same id xs) k (Some y) q in
        let all = keys_set xs k i y p.1 is-k ∙ sym (ap (λ o. rekeyed same (map id xs) k o (Some (value y))) (at_found xs k i x p e)) in
        (λ j. record { at = λ q. at-q q j; keys = all j })

    pub map_removed : (xs ys : List X) (k : K) (i : ℕ) (x : X) → ys ≡ remove xs i → Place id xs k (Some i) → x ≡ get_or xs i x → apart same id xs ≡ true → map_of same id value ys ≡ put same (map_of same id value xs) k None
    map_removed xs ys k i x e p h d =
        let at-q = λ (q : K). ap (option_map value) (held_removed xs k i p.0 p.1 p.2 d q) ∙ mapped_update same value (held same id xs) k None q in
        let all = keys_removed xs k i p.0 p.1 p.2 d ∙ sym (ap (λ o. rekeyed {X = Y} same (map id xs) k o None) (at_found xs k i x p h)) in
        ap (map_of same id value) e ∙ (λ j. record { at = λ q. at-q q j; keys = all j })

    pub map_none : (xs : List X) (k : K) → Place id xs k None → map_of same id value xs ≡ put same (map_of same id value xs) k None
    map_none xs k p = put_still same tells (map_of same id value xs) k (at_absent xs k p)
