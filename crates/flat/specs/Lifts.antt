-- From what the file in one place did to what the files did. Assumes nothing.
use Rattle.std.specs.Prelude.{◌≡◌, ℕ, zero, suc, ◌+◌, ◌-◌, ◌<◌, Bool, true, false, cond, ◌||◌, List, [], ◌∷◌, map, length, is_some, Some, None, Ok, Err, Option, Result, ◌==◌, nat_lt, nat_le, slice_index_or, slice_set, refl}
use Rattle.std.proofs.Common.{sym, ap, subst, ◌∙◌, arith}
use Rattle.std.proofs.Math.Path.{fun_ext}
use Rattle.std.specs.List.{slice_get, AllByRecursion}
use Rattle.std.proofs.lemmas.Bool.{lt-ltb, le-ltb, cond_both, eqb-true}
use Rattle.faults.specs.declared.disk.DiskFault.{DiskFault}
use Rattle.faults.specs.Kinds.{OpenFault, failed}
use Rattle.keys.specs.KeyName.{KeyName, same_key}
use Rattle.disk.specs.Files.{FileState, DiskState, put, kept, with_holds, new_file}
use Rattle.slots.specs.Told.{told_by, forgot}
use Rattle.slots.specs.FileSteps.{held, hold_answer, after_hold}
use Rattle.slots.specs.Codes.{no_room}
use Rattle.flat.specs.declared.files.place.Place.{Place}
use Rattle.flat.specs.Places.{live, files_of, file_of, meaning_of, bound_by}
use Rattle.flat.specs.Steps.{asked, edited, close, mark_of, open_old, open_new, open_by, first_bound, first_free, unbind}
use Rattle.flat.specs.Firsts.{Finds, first_finds}
use Rattle.flat.specs.Found.{HeldAt}
use Rattle.flat.specs.RowsLemmas.{here, meaning_set, kept_held, kept_is}
use Rattle.flat.specs.Forgets.{forgot_all}

there_as : (x y : FileState) → kept y ≡ Some x → kept y ≡ Some y
there_as x y e = e ∙ ap Some (kept_is x y (nat_lt 0 y.holds || is_some y.key) e).0

-- a file put back as it was
pub put_same : (s : DiskState) (f : ℕ) (x : FileState) → s f ≡ Some x → put s f (Some x) ≡ s
put_same s f x e = fun_ext (λ q. cond_both (f == q) (Some x) (s q) (λ v. v ≡ s q) (λ t. sym e ∙ ap s (eqb-true f q t)) (λ t. refl))

-- ---- a file that is held

module _ (xs : List Place) (f i : ℕ) (d : Place) (p : HeldAt (meaning_of xs) f (Ok i)) (h : i < length xs) where
  abbrev file : FileState
  file = (slice_index_or xs i d).file

  there : kept file ≡ Some file
  there = there_as p.2.0 file (sym (here xs i d h) ∙ ap (meaning_of xs) p.0 ∙ p.2.1)

  at : meaning_of xs f ≡ Some file
  at = sym (ap (meaning_of xs) p.0) ∙ here xs i d h ∙ there

  -- it is the one in its place
  holds : 0 < file.holds
  holds =
      let e : Some file ≡ Some p.2.0 = sym at ∙ p.2.1 in
      let g : file ≡ p.2.0 = cc in
      let k : file.holds ≡ p.2.0.holds = ap (λ x. x.holds) g in
      let l = p.2.2 in
      omega arith

  is : held (meaning_of xs f) ≡ Some file
  is = ap held at ∙ ap (λ b. cond b (Some file) None) (lt-ltb 0 file.holds holds)

  pub asks : {A E : Type 0} (fault : DiskFault → E) (answer : FileState → A) (r : A) → r ≡ answer file → Ok r ≡ asked fault (held (meaning_of xs f)) answer
  asks fault answer r e = ap Ok e ∙ sym (ap (λ o. asked fault o answer) is)

  pub edits : {A E : Type 0} (fault : DiskFault → E) (answer : FileState → Result A E) (after : FileState → Result A E → FileState) (r : Result A E) (y : Place) → r ≡ answer file → y.file ≡ after file r → (after file r).holds ≡ file.holds → (r, meaning_of (slice_set xs i y)) ≡ edited fault (meaning_of xs) f (held (meaning_of xs f)) answer after
  edits fault answer after r y e g k =
      let s = meaning_of xs in
      let l = holds in
      ap (λ m. (r, m)) (meaning_set xs i y h ∙ ap (put s i) (ap kept g ∙ kept_held (after file r) (omega arith)) ∙ ap (λ j. put s j (Some (after file r))) p.0)
      ∙ ap (λ a. (a, put s f (Some (after file a)))) e ∙ sym (ap (λ o. edited fault s f o answer after) is)

  pub marks : (r : ℕ) → r ≡ file.n → r ≡ mark_of (held (meaning_of xs f))
  marks r e = e ∙ sym (ap mark_of is)

  pub closes : (y : Place) → y.file ≡ with_holds file (file.holds - 1) → meaning_of (slice_set xs i y) ≡ close (meaning_of xs) f (held (meaning_of xs f))
  closes y e =
      let s = meaning_of xs in
      meaning_set xs i y h ∙ ap (λ x. put s i (kept x)) e ∙ ap (λ j. put s j (kept (with_holds file (file.holds - 1)))) p.0 ∙ sym (ap (close s f) is)

-- ---- a file by its key

told_some : (tells : KeyName → Bool) (o : Option KeyName) → told_by tells o ≡ true → (q : KeyName) × (o ≡ Some q) × (tells q ≡ true)
told_some tells None e = let z : ◌≡◌ {A = ℕ} 0 1 = cc in absurd (omega arith)
told_some tells (Some q) e = (q, refl, e)

-- a bound number has a file, and its key is told
pub bound_some : (tells : KeyName → Bool) (o : Option FileState) → bound_by tells o ≡ true → (x : FileState) × (q : KeyName) × (o ≡ Some x) × (x.key ≡ Some q) × (tells q ≡ true)
bound_some tells None e = let z : ◌≡◌ {A = ℕ} 0 1 = cc in absurd (omega arith)
bound_some tells (Some x) e = let t = told_some tells x.key e in (x, t.0, refl, t.1, t.2)

module _ (xs : List Place) (i : ℕ) (d y : Place) (h : i < length xs) where
  abbrev old : FileState
  old = (slice_index_or xs i d).file

  -- the answer to an open, by that to the hold
  abbrev opened : Result (Unit {0}) OpenFault → Result ℕ OpenFault
  opened (Ok u) = Ok i
  opened (Err e) = Err e

  module _ (tells : KeyName → Bool) (b : bound_by tells (meaning_of xs i) ≡ true) where
    bound_here : meaning_of xs i ≡ Some old
    bound_here =
        let t = bound_some tells (meaning_of xs i) b in
        here xs i d h ∙ there_as t.0 old (sym (here xs i d h) ∙ t.2)

    holds_by : (b : Bool) (r : Result (Unit {0}) OpenFault) → r ≡ cond b (Err (failed no_room)) (Ok tt) → y.file ≡ after_hold old r → ◌≡◌ {A = Result ℕ OpenFault × DiskState} (opened r, meaning_of (slice_set xs i y)) (cond b (Err (failed no_room), meaning_of xs) (Ok i, put (meaning_of xs) i (Some (with_holds old (old.holds + 1)))))
    holds_by true r e g =
        let s = meaning_of xs in
        ap (λ a. (opened a, meaning_of (slice_set xs i y))) e
        ∙ ap (λ m. (Err (failed no_room), m)) (meaning_set xs i y h ∙ ap (λ x. put s i (kept x)) (g ∙ ap (after_hold old) e) ∙ ap (put s i) (sym (here xs i d h) ∙ bound_here) ∙ put_same s i old bound_here)
    holds_by false r e g =
        let s = meaning_of xs in
        ap (λ a. (opened a, meaning_of (slice_set xs i y))) e
        ∙ ap (λ m. (Ok i, m)) (meaning_set xs i y h ∙ ap (λ x. put s i (kept x)) (g ∙ ap (after_hold old) e) ∙ ap (put s i) (kept_held (with_holds old (old.holds + 1)) (omega arith)))

    -- a bound file is held once more, or is full
    pub holds_more : (r : Result (Unit {0}) OpenFault) → r ≡ hold_answer old → y.file ≡ after_hold old r → (opened r, meaning_of (slice_set xs i y)) ≡ open_old (meaning_of xs) i (meaning_of xs i)
    holds_more r v g = holds_by (nat_le 1099511627776 old.holds) r v g ∙ sym (ap (open_old (meaning_of xs) i) bound_here)

  -- a new file takes a place
  pub claims : (q : KeyName) → y.file ≡ new_file q 1 → (Ok i, meaning_of (slice_set xs i y)) ≡ open_new (meaning_of xs) q (Some i)
  claims q e = ap (λ m. (Ok i, m)) (meaning_set xs i y h ∙ ap (λ x. put (meaning_of xs) i (kept x)) e)

  -- both, where the searches by key and for a free number found the place
  module _ (q : KeyName) where
    pub opens_bound : first_bound (same_key q) (meaning_of xs) ≡ Some i → (r : Result (Unit {0}) OpenFault) (a : Result ℕ OpenFault) → r ≡ hold_answer old → y.file ≡ after_hold old r → a ≡ opened r → (a, meaning_of (slice_set xs i y)) ≡ open_by (meaning_of xs) q (first_bound (same_key q) (meaning_of xs))
    opens_bound e r a v g k =
        let b = subst (Finds (bound_by (same_key q)) (meaning_of xs) 0 8) e (first_finds (bound_by (same_key q)) (meaning_of xs) 0 8) in
        ap (λ o. (o, meaning_of (slice_set xs i y))) k ∙ holds_more (same_key q) b r v g ∙ sym (ap (open_by (meaning_of xs) q) e)

    pub opens_new : first_bound (same_key q) (meaning_of xs) ≡ None → first_free (meaning_of xs) ≡ Some i → y.file ≡ new_file q 1 → (Ok i, meaning_of (slice_set xs i y)) ≡ open_by (meaning_of xs) q (first_bound (same_key q) (meaning_of xs))
    opens_new n f e = claims q e ∙ sym (ap (open_by (meaning_of xs) q) n ∙ ap (open_new (meaning_of xs) q) f)

-- keys that are told, and some are bound
pub unbinds : (going : KeyName → Bool) (xs ys : List Place) (o : Option ℕ) → is_some o ≡ true → map file_of ys ≡ map (forgot going) (map file_of xs) → (Ok tt, meaning_of ys) ≡ unbind going (meaning_of xs) o
unbinds going xs ys None e f = let z : ◌≡◌ {A = ℕ} 0 1 = cc in absurd (omega arith)
unbinds going xs ys (Some i) e f = ap (λ m. (Ok tt, m)) (forgot_all going xs ys f)

-- ---- no file

vacant_file : (x : FileState) → x.holds ≡ 0 → x.key ≡ None → kept x ≡ None
vacant_file x h k = ap (λ b. cond (b || is_some x.key) (Some x) None) (le-ltb 0 x.holds (omega arith)) ∙ ap (λ o. cond (is_some o) (Some x) None) k

vacant_at : (xs : List Place) → AllByRecursion (λ p. (p.file.holds ≡ 0) × (p.file.key ≡ None)) xs → (i : ℕ) → live (slice_get (map file_of xs) i) ≡ None
vacant_at [] a i = refl
vacant_at (s ∷ xs) a zero = vacant_file s.file a.0.0 a.0.1
vacant_at (s ∷ xs) a (suc i) = vacant_at xs a.1 i

pub in_each : (P : Place → Type 0) (xs : List Place) → ((i : ℕ) (d : Place) → i < length xs → P (slice_index_or xs i d)) → AllByRecursion P xs
in_each P [] a = tt
in_each P (x ∷ xs) a = (a 0 x (omega arith), in_each P xs (λ i d h. a (suc i) d (omega arith)))

pub vacant : (xs : List Place) → AllByRecursion (λ p. (p.file.holds ≡ 0) × (p.file.key ≡ None)) xs → meaning_of xs ≡ (λ _. None)
unfolding files_of
vacant xs a = fun_ext (vacant_at xs a)
