-- The files of a row of places, after one of them changed. Assumes nothing.
use Rattle.std.specs.Prelude.{◌≡◌, ℕ, zero, suc, ◌<◌, ◌≤◌, Bool, true, false, cond, not, ◌||◌, List, [], ◌∷◌, map, length, get_or, set, is_some, Some, None, Ok, Option, MatchOption, IfSome, ◌==◌, ◌≢◌, nat_lt, slice_index, slice_index_or, slice_set, refl}
use Rattle.std.proofs.Common.{sym, ◌∙◌, inl, inr, zero-add}
use Rattle.std.proofs.Math.Path.{ap, fun_ext}
use native.Mathlib.Omega.{arith}
use Rattle.std.specs.List.{slice_get}
use Rattle.std.proofs.lemmas.List.{length-map, get_or-map, map-set, set-get_or}
use Rattle.std.proofs.lemmas.List.FromFn.{get_or-range_with_len}
use Rattle.std.proofs.lemmas.Option.{slice_get-get_or, slice_get_past}
use Rattle.std.proofs.lemmas.Bool.{cases_lt, or_right, lt-ltb, ltb-true}
use Rattle.std.proofs.lemmas.Bool.Decides.{nat_tests}
use Rattle.keys.specs.KeyName.{KeyName}
use Rattle.disk.specs.Files.{FileState, put, kept}
use Rattle.table.specs.Keys.{Place as At}
use Rattle.slots.specs.declared.view.FileView.{FileView}
use Rattle.slots.specs.Views.{shown, seen}
use Rattle.slots.specs.FileSteps.{held}
use Rattle.flat.specs.Found.{HeldAt}
use Rattle.flat.specs.declared.files.place.Place.{Place}
use Rattle.flat.specs.Places.{live, files_of, file_of, number_of, meaning_of, numbers, InOrder, key_in, is_free}

-- ---- what is kept of a file

pub never : {A : Type 0} (x : A) → None ≢ Some x
never x e = let z : ◌≡◌ {A = ℕ} 0 1 = cc in omega arith

-- what is there is the file itself
pub kept_is : (x y : FileState) (b : Bool) → cond b (Some y) None ≡ Some x → (x ≡ y) × (b ≡ true)
kept_is x y true e = (cc, refl)
kept_is x y false e = absurd (never x e)

-- a file that is held is there
pub kept_held : (x : FileState) → 0 < x.holds → kept x ≡ Some x
kept_held x h = ap (λ t. cond (t || is_some x.key) (Some x) None) (lt-ltb 0 x.holds h)

-- and so is one that has a key
pub kept_bound : (x : FileState) (q : KeyName) → x.key ≡ Some q → kept x ≡ Some x
kept_bound x q e = ap (λ b. cond b (Some x) None) (or_right (nat_lt 0 x.holds) (is_some x.key) (ap is_some e))

key_of : (x : FileState) (o : Option KeyName) → x.key ≡ o → key_in (kept x) ≡ o
key_of x (Some q) e = ap key_in (kept_bound x q e) ∙ e
key_of x None e = elim (nat_lt 0 x.holds || is_some x.key) as (λ b. key_in (cond b (Some x) None) ≡ None) [ true ↦ e | false ↦ refl ]

-- what is not there has no key
pub key_kept : (x : FileState) → key_in (kept x) ≡ x.key
key_kept x = key_of x x.key refl

free_by : (x : FileState) (b : Bool) → is_free (cond b (Some x) None) ≡ not b
free_by x true = refl
free_by x false = refl

pub free_kept : (x : FileState) → is_free (kept x) ≡ not (nat_lt 0 x.holds || is_some x.key)
free_kept x = free_by x (nat_lt 0 x.holds || is_some x.key)

unheld_kept : (x : FileState) → nat_lt 0 x.holds ≡ false → held (kept x) ≡ None
unheld_kept x e =
    elim (nat_lt 0 x.holds || is_some x.key) as (λ b. held (cond b (Some x) None) ≡ None) [ true ↦ ap (λ t. cond t (Some x) None) e | false ↦ refl ]

-- ---- one place

nth_set : {X : Type 0} (xs : List X) (i : ℕ) (y : X) (q : ℕ) → i < length xs → slice_get (slice_set xs i y) q ≡ cond (i == q) (Some y) (slice_get xs q)
nth_set [] i y q h = absurd (omega arith)
nth_set (x ∷ xs) zero y zero h = refl
nth_set (x ∷ xs) zero y (suc q) h = grind (arith, nat_tests)
nth_set (x ∷ xs) (suc i) y zero h = grind (arith, nat_tests)
nth_set (x ∷ xs) (suc i) y (suc q) h = let e = nth_set xs i y q (omega arith) in grind (arith, nat_tests)

files_set : (vs : List FileState) (i : ℕ) (y : FileState) → i < length vs → files_of (slice_set vs i y) ≡ put (files_of vs) i (kept y)
unfolding files_of
files_set vs i y h = fun_ext (λ q.
    ap live (nth_set vs i y q h) ∙ elim (i == q) as (λ b. live (cond b (Some y) (slice_get vs q)) ≡ cond b (kept y) (live (slice_get vs q))) [ true ↦ refl | false ↦ refl ])

module _ (xs : List Place) (i : ℕ) where
  -- the file of each number is that in its place
  pub here : (d : Place) → i < length xs → meaning_of xs i ≡ kept (slice_index_or xs i d).file
  unfolding files_of
  here d h =
      let l : i < length (map file_of xs) = let n = length-map xs file_of in omega arith in
      ap live (slice_get-get_or (map file_of xs) i d.file l ∙ ap Some (get_or-map file_of xs i d d.file h))

  pub past : length xs ≤ i → meaning_of xs i ≡ None
  unfolding files_of
  past h = ap live (slice_get_past (map file_of xs) i (let n = length-map xs file_of in omega arith))

  -- the file in one place changed
  pub meaning_set : (y : Place) → i < length xs → meaning_of (slice_set xs i y) ≡ put (meaning_of xs) i (kept y.file)
  meaning_set y h = ap files_of (map-set file_of xs i y) ∙ files_set (map file_of xs) i y.file (let n = length-map xs file_of in omega arith)

  numbers_set : (d y : Place) → i < length xs → y.number ≡ (get_or xs i d).number → numbers (slice_set xs i y) ≡ numbers xs
  numbers_set d y h e =
      map-set number_of xs i y ∙ ap (set (numbers xs) i) (e ∙ sym (get_or-map number_of xs i d 0 h)) ∙ set-get_or (numbers xs) i 0

  pub order_set : (d y : Place) → InOrder xs → i < length xs → y.number ≡ (get_or xs i d).number → InOrder (slice_set xs i y)
  order_set d y o h e = numbers_set d y h e ∙ o

-- ---- numbers

pub eight : (xs : List Place) → InOrder xs → length xs ≡ 8
eight xs o = sym (length-map xs number_of) ∙ ap length o

number_at : (xs : List Place) (i : ℕ) (d : Place) → InOrder xs → i < 8 → (get_or xs i d).number ≡ i
number_at xs i d o h =
    let n = eight xs o in
    sym (get_or-map number_of xs i d 0 (omega arith)) ∙ ap (λ l. slice_index l i) o ∙ get_or-range_with_len 0 8 i 0 h ∙ zero-add i

pub some_place : (xs : List Place) → length xs ≡ 8 → Place
some_place [] e = absurd (omega arith)
some_place (x ∷ xs) e = x

pub placed : (xs : List Place) (n : ℕ) (r : Option ℕ) → InOrder xs → At number_of xs n r → MatchOption r (8 ≤ n) (λ i. (i ≡ n) × (i < 8))
placed xs n None o w =
    let e = eight xs o in
    let d = some_place xs e in
    elim (cases_lt n 8) [ inl l ↦ absurd (w n d (omega arith) (omega arith) (number_at xs n d o l)) | inr l ↦ l ]
placed xs n (Some i) o w =
    let e = eight xs o in
    let d = some_place xs e in
    let l : i < 8 = let h = w.0 in omega arith in
    (sym (number_at xs i d o l) ∙ w.1 d, l)

-- ---- what a number shows

module _ (xs : List Place) (n i : ℕ) (d : Place) (o : InOrder xs) (e : i ≡ n) (h : i < 8) where
  found : meaning_of xs n ≡ kept (get_or xs i d).file
  found = ap (meaning_of xs) (sym e) ∙ here xs i d (let l = eight xs o in omega arith)

  pub key_found : (get_or xs i d).file.key ≡ key_in (meaning_of xs n)
  key_found = sym (ap key_in found ∙ key_kept (get_or xs i d).file)

  pub held_found : nat_lt 0 (get_or xs i d).file.holds ≡ true → HeldAt (meaning_of xs) n (Ok i)
  held_found t =
      let x = (get_or xs i d).file in
      let p : 0 < x.holds = ltb-true 0 x.holds t in
      (e, h, (x, found ∙ kept_held x p, p))

  pub unheld_found : nat_lt 0 (get_or xs i d).file.holds ≡ false → held (meaning_of xs n) ≡ None
  unheld_found t = ap held found ∙ unheld_kept (get_or xs i d).file t

  -- a view shows the file, where it is there
  pub view_found : (r : Option FileView) → (let x = (get_or xs i d).file in (is_some r ≡ (nat_lt 0 x.holds || is_some x.key)) × IfSome r (λ v. shown x.key v ≡ x)) → seen (key_in (meaning_of xs n)) r ≡ meaning_of xs n
  view_found None t =
      let x = (get_or xs i d).file in sym (found ∙ ap (λ b. cond b (Some x) None) (sym t.0))
  view_found (Some v) t =
      let x = (get_or xs i d).file in
      ap (λ o. Some (shown o v)) (sym key_found) ∙ ap Some t.1 ∙ sym (found ∙ ap (λ b. cond b (Some x) None) (sym t.0))
