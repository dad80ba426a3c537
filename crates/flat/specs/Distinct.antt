-- No request gives one key to two files. Assumes nothing.
use Rattle.std.specs.Prelude.{◌≡◌, ℕ, ◌+◌, ◌-◌, ◌≤◌, Bool, true, false, cond, List, Some, None, Ok, Err, Option, Result, ◌≢◌, nat_le, nat_lt, refl}
use Rattle.std.proofs.Common.{sym, ap, ◌∙◌, inl, inr, arith}
use Rattle.std.proofs.lemmas.Map.{update_here, update_apart}
use Rattle.std.proofs.lemmas.Bool.{cases_lt, cases_eq, both_ways, cond_both}
use Rattle.faults.specs.declared.disk.DiskFault.{DiskFault}
use Rattle.faults.specs.Kinds.{OpenFault, failed}
use Rattle.keys.specs.KeyName.{KeyName, same_key}
use Rattle.keys.specs.Laws.{same_key_decides}
use Rattle.disk.specs.Files.{FileState, DiskState, Unbound, put, kept, with_holds, with_key, new_file}
use Rattle.disk.specs.Rules.{unnamed, unnamed_by, NoneBound}
use Rattle.flat.specs.declared.files.place.Place.{Place}
use Rattle.slots.specs.Told.{told_by}
use Rattle.slots.specs.FileSteps.{held}
use Rattle.slots.specs.Codes.{no_room}
use Rattle.flat.specs.Places.{meaning_of, InOrder, key_in, bound_by, Distinct}
use Rattle.flat.specs.Steps.{edited, close, open_old, open_new, open_by, first_bound, first_free, unbind}
use Rattle.flat.specs.Firsts.{Finds, first_finds}
use Rattle.flat.specs.RowsLemmas.{never, past, eight, key_kept}
use Rattle.flat.specs.Keeps.{Keeps}

-- no file has a number past the last
abbrev pub Small : DiskState → Type 0
Small s = (f : ℕ) → 8 ≤ f → s f ≡ None

pub small : (xs : List Place) → InOrder xs → Small (meaning_of xs)
small xs o f h = let n = eight xs o in past xs f (omega arith)

-- ---- where no key is told, none is bound

pub none_bound : (s : DiskState) (tells : KeyName → Bool) → Small s → Finds (bound_by tells) s 0 8 None → NoneBound s tells
none_bound s tells m n q t f b =
    elim (cases_lt f 8) [
      | inl l ↦ both_ways (bound_by tells (s f)) (n f (omega arith) (omega arith)) (ap (bound_by tells) b.1 ∙ ap (told_by tells) b.2 ∙ t)
      | inr l ↦ never b.0 (sym (m f l) ∙ b.1)
    ]

pub unbound_key : (s : DiskState) (q : KeyName) → Small s → Finds (bound_by (same_key q)) s 0 8 None → Unbound s q
unbound_key s q m n = none_bound s (same_key q) m n q ((same_key_decides q q).1 refl)

-- ---- keys that only go

-- each key of t was there in s
abbrev pub Fewer : DiskState → DiskState → Type 0
Fewer s t = (f : ℕ) (q : KeyName) → key_in (t f) ≡ Some q → key_in (s f) ≡ Some q

pub fewer_distinct : (s t : DiskState) → Fewer s t → Distinct s → Distinct t
fewer_distinct s t k d f g h = d f g (h.0, k f h.0 h.1, k g h.0 h.2)

fewer_put : (s : DiskState) (f : ℕ) (w : Option FileState) → key_in w ≡ key_in (s f) → Fewer s (put s f w)
fewer_put s f w e g q h =
    elim (cases_eq g f) [
      | inl a ↦ ap (λ j. key_in (s j)) a ∙ sym e ∙ ap key_in (sym (update_here s f w)) ∙ ap (λ j. key_in (put s f w j)) (sym a) ∙ h
      | inr a ↦ ap key_in (sym (update_apart s f w g a)) ∙ h
    ]

module _ {A E : Type 0} (fault : DiskFault → E) (answer : FileState → Result A E) (after : FileState → Result A E → FileState) (keeps : (x : FileState) (r : Result A E) → Keeps x (after x r)) (s : DiskState) (f : ℕ) where
  fewer_some : (x : FileState) → s f ≡ Some x → (b : Bool) → Fewer s (edited fault s f (cond b (Some x) None) answer after).1
  fewer_some x e true = fewer_put s f (Some (after x (answer x))) ((keeps x (answer x)).0 ∙ ap key_in (sym e))
  fewer_some x e false = λ g q h. h

  fewer_edited : (o : Option FileState) → s f ≡ o → Fewer s (edited fault s f (held o) answer after).1
  fewer_edited None e = λ g q h. h
  fewer_edited (Some x) e = fewer_some x e (nat_lt 0 x.holds)

  pub edited_distinct : Distinct s → Distinct (edited fault s f (held (s f)) answer after).1
  edited_distinct = fewer_distinct s (edited fault s f (held (s f)) answer after).1 (fewer_edited (s f) refl)

close_some : (s : DiskState) (f : ℕ) (x : FileState) → s f ≡ Some x → (b : Bool) → Fewer s (close s f (cond b (Some x) None))
close_some s f x e true = fewer_put s f (kept (with_holds x (x.holds - 1))) (key_kept (with_holds x (x.holds - 1)) ∙ ap key_in (sym e))
close_some s f x e false = λ g q h. h

close_fewer : (s : DiskState) (f : ℕ) (o : Option FileState) → s f ≡ o → Fewer s (close s f (held o))
close_fewer s f None e = λ g q h. h
close_fewer s f (Some x) e = close_some s f x e (nat_lt 0 x.holds)

pub close_distinct : (s : DiskState) (f : ℕ) → Distinct s → Distinct (close s f (held (s f)))
close_distinct s f = fewer_distinct s (close s f (held (s f))) (close_fewer s f (s f) refl)

-- ---- unbinding

gone_key : (going : KeyName → Bool) (x : FileState) (o : Option KeyName) → x.key ≡ o → (q : KeyName) → key_in (unnamed_by going x o) ≡ Some q → o ≡ Some q
gone_key going x None e q h = sym e ∙ h
gone_key going x (Some p) e q h =
    cond_both (going p) (kept (with_key x None)) (Some x) (λ w. key_in w ≡ Some q → Some p ≡ Some q) (λ t k. absurd (never q (sym (key_kept (with_key x None)) ∙ k))) (λ t k. sym e ∙ k) h

gone_file : (going : KeyName → Bool) (o : Option FileState) (q : KeyName) → key_in (unnamed going o) ≡ Some q → key_in o ≡ Some q
gone_file going None q h = h
gone_file going (Some x) q h = gone_key going x x.key refl q h

unbind_fewer : (going : KeyName → Bool) (s : DiskState) (o : Option ℕ) → Fewer s (unbind going s o).1
unbind_fewer going s None = λ f q h. h
unbind_fewer going s (Some i) = λ f q h. gone_file going (s f) q h

pub unbind_distinct : (going : KeyName → Bool) (s : DiskState) → Distinct s → Distinct (unbind going s (first_bound going s)).1
unbind_distinct going s = fewer_distinct s (unbind going s (first_bound going s)).1 (unbind_fewer going s (first_bound going s))

-- ---- opening

module _ (s : DiskState) (q : KeyName) (u : Unbound s q) (i : ℕ) (d : Distinct s) where
  new : key_in (put s i (Some (new_file q 1)) i) ≡ Some q
  new = ap key_in (update_here s i (Some (new_file q 1)))

  other : (j : ℕ) → (j ≢ i) → key_in (put s i (Some (new_file q 1)) j) ≡ key_in (s j)
  other j n = ap key_in (update_apart s i (Some (new_file q 1)) j n)

  keyed : (o : Option FileState) → key_in o ≡ Some q → (x : FileState) × (o ≡ Some x) × (x.key ≡ Some q)
  keyed None e = absurd (never q e)
  keyed (Some x) e = (x, refl, e)

  unused : (j : ℕ) → key_in (s j) ≢ Some q
  unused j e = u j (keyed (s j) e)

  new_distinct : Distinct (put s i (Some (new_file q 1)))
  new_distinct a b h =
      let t : DiskState = put s i (Some (new_file q 1)) in
      elim (cases_eq a i) [
        | inl e ↦ elim (cases_eq b i) [
          | inl f ↦ e ∙ sym f
          | inr f ↦ absurd (unused b (sym (other b f) ∙ h.2 ∙ sym h.1 ∙ ap (λ j. key_in (t j)) e ∙ new))
        ]
        | inr e ↦ elim (cases_eq b i) [
          | inl f ↦ absurd (unused a (sym (other a e) ∙ h.1 ∙ sym h.2 ∙ ap (λ j. key_in (t j)) f ∙ new))
          | inr f ↦ d a b (h.0, sym (other a e) ∙ h.1, sym (other b f) ∙ h.2)
        ]
      ]

old_fewer : (s : DiskState) (f : ℕ) (o : Option FileState) → s f ≡ o → Fewer s (open_old s f o).1
old_fewer s f None e = λ g q h. h
old_fewer s f (Some x) e =
    cond_both {A = Result ℕ OpenFault × DiskState} (nat_le 1099511627776 x.holds) (Err (failed no_room), s) (Ok f, put s f (Some (with_holds x (x.holds + 1)))) (λ r. Fewer s r.1) (λ t g q h. h) (λ t. fewer_put s f (Some (with_holds x (x.holds + 1))) (ap key_in (sym e)))

new_open : (s : DiskState) (q : KeyName) → Unbound s q → Distinct s → (o : Option ℕ) → Distinct (open_new s q o).1
new_open s q u d None = d
new_open s q u d (Some i) = new_distinct s q u i d

open_any : (s : DiskState) (q : KeyName) → Small s → Distinct s → (o : Option ℕ) → Finds (bound_by (same_key q)) s 0 8 o → Distinct (open_by s q o).1
open_any s q m d None n = new_open s q (unbound_key s q m n) d (first_free s)
open_any s q m d (Some f) n = fewer_distinct s (open_old s f (s f)).1 (old_fewer s f (s f) refl) d

pub open_distinct : (s : DiskState) (q : KeyName) → Small s → Distinct s → Distinct (open_by s q (first_bound (same_key q) s)).1
open_distinct s q m d = open_any s q m d (first_bound (same_key q) s) (first_finds (bound_by (same_key q)) s 0 8)
