-- What every request leaves is sound: no two files of one key, none with more covered than landed, and none past its room.
-- Assumes nothing.
use Rattle.std.specs.Prelude.{◌≡◌, ℕ, ◌+◌, ◌-◌, ◌≤◌, Bool, true, false, cond, ◌||◌, List, length, is_some, Some, None, Ok, Err, Option, Result, nat_le, nat_lt, refl}
use Rattle.std.proofs.Common.{sym, ap, subst, ◌∙◌, inl, inr, arith}
use Rattle.std.proofs.lemmas.Map.{update_here, update_apart}
use Rattle.std.proofs.lemmas.Bool.{cases_eq, cond_both}
use Rattle.faults.specs.declared.disk.DiskFault.{DiskFault}
use Rattle.faults.specs.Kinds.{OpenFault, WriteFault, FlushFault, ResizeFault, UnbindFault, failed}
use Rattle.keys.specs.KeyName.{KeyName, same_key}
use Rattle.disk.specs.Files.{FileState, DiskState, put, kept, with_holds, with_key, new_file}
use Rattle.disk.specs.Rules.{unnamed, unnamed_by}
use Rattle.slots.specs.FileSteps.{held, write_answer, after_write, resize_answer, after_resize, header_answer, after_header, end_answer, after_end}
use Rattle.slots.specs.Codes.{no_room}
use Rattle.flat.specs.Places.{Distinct, Covered, Within, Sound}
use Rattle.flat.specs.Steps.{edited, close, open_old, open_new, open_by, first_bound, first_free, unbind}
use Rattle.flat.specs.RowsLemmas.{never, kept_is}
use Rattle.flat.specs.Keeps.{Keeps, KeepsCovered, KeepsWithin, keeps_write, keeps_resize, keeps_header, keeps_end, covers_write, covers_resize, covers_header, covers_end, within_write, within_resize, within_header}
use Rattle.flat.specs.Distinct.{Small, edited_distinct, close_distinct, unbind_distinct, open_distinct}

-- a fact of each file that is there
abbrev Each : (FileState → Type 0) → DiskState → Type 0
Each P s = (f : ℕ) (x : FileState) → s f ≡ Some x → P x

-- a fact that a new file has, and that a file's holds and key are nothing to
record Lasts (P : FileState → Type 0) : Type 0 where
  fresh : (q : KeyName) → P (new_file q 1)
  holds : (x : FileState) (h : ℕ) → P x → P (with_holds x h)
  key : (x : FileState) (q : Option KeyName) → P x → P (with_key x q)

module _ (P : FileState → Type 0) (lasts : Lasts P) where
  abbrev Here : Option FileState → Type 0
  Here o = (x : FileState) → o ≡ Some x → P x

  some_here : (y : FileState) → P y → Here (Some y)
  some_here y h x e = let a : y ≡ x = cc in subst P a h

  kept_here : (y : FileState) → P y → Here (kept y)
  kept_here y h x e = subst P (sym (kept_is x y (nat_lt 0 y.holds || is_some y.key) e).0) h

  each_put : (s : DiskState) (f : ℕ) (w : Option FileState) → Each P s → Here w → Each P (put s f w)
  each_put s f w c h g x e =
      elim (cases_eq g f) [
        | inl a ↦ h x (sym (update_here s f w) ∙ ap (put s f w) (sym a) ∙ e)
        | inr a ↦ c g x (sym (update_apart s f w g a) ∙ e)
      ]

  module _ {A E : Type 0} (fault : DiskFault → E) (answer : FileState → Result A E) (after : FileState → Result A E → FileState) (keeps : (x : FileState) → P x → P (after x (answer x))) (s : DiskState) (f : ℕ) (c : Each P s) where
    edited_some : (x : FileState) → s f ≡ Some x → (b : Bool) → Each P (edited fault s f (cond b (Some x) None) answer after).1
    edited_some x e true = each_put s f (Some (after x (answer x))) c (some_here (after x (answer x)) (keeps x (c f x e)))
    edited_some x e false = c

    each_edited : (o : Option FileState) → s f ≡ o → Each P (edited fault s f (held o) answer after).1
    each_edited None e = c
    each_edited (Some x) e = edited_some x e (nat_lt 0 x.holds)

  close_some : (s : DiskState) (f : ℕ) (x : FileState) → Each P s → s f ≡ Some x → (b : Bool) → Each P (close s f (cond b (Some x) None))
  close_some s f x c e true = each_put s f (kept (with_holds x (x.holds - 1))) c (kept_here (with_holds x (x.holds - 1)) (lasts.holds x (x.holds - 1) (c f x e)))
  close_some s f x c e false = c

  each_close : (s : DiskState) (f : ℕ) (o : Option FileState) → Each P s → s f ≡ o → Each P (close s f (held o))
  each_close s f None c e = c
  each_close s f (Some x) c e = close_some s f x c e (nat_lt 0 x.holds)

  unnamed_here : (going : KeyName → Bool) (x : FileState) (o : Option KeyName) → P x → Here (unnamed_by going x o)
  unnamed_here going x None h = some_here x h
  unnamed_here going x (Some q) h =
      cond_both (going q) (kept (with_key x None)) (Some x) Here (λ t. kept_here (with_key x None) (lasts.key x None h)) (λ t. some_here x h)

  gone_here : (going : KeyName → Bool) (o : Option FileState) → Here o → Here (unnamed going o)
  gone_here going None h = λ x e. absurd (never x e)
  gone_here going (Some x) h = unnamed_here going x x.key (h x refl)

  each_unbind : (going : KeyName → Bool) (s : DiskState) (o : Option ℕ) → Each P s → Each P (unbind going s o).1
  each_unbind going s None c = c
  each_unbind going s (Some i) c = λ f. gone_here going (s f) (c f)

  each_old : (s : DiskState) (f : ℕ) (o : Option FileState) → Each P s → s f ≡ o → Each P (open_old s f o).1
  each_old s f None c e = c
  each_old s f (Some x) c e =
      cond_both {A = Result ℕ OpenFault × DiskState} (nat_le 1099511627776 x.holds) (Err (failed no_room), s) (Ok f, put s f (Some (with_holds x (x.holds + 1)))) (λ r. Each P r.1) (λ t. c) (λ t. each_put s f (Some (with_holds x (x.holds + 1))) c (some_here (with_holds x (x.holds + 1)) (lasts.holds x (x.holds + 1) (c f x e))))

  each_new : (s : DiskState) (q : KeyName) (o : Option ℕ) → Each P s → Each P (open_new s q o).1
  each_new s q None c = c
  each_new s q (Some i) c = each_put s i (Some (new_file q 1)) c (some_here (new_file q 1) (lasts.fresh q))

  each_open : (s : DiskState) (q : KeyName) (o : Option ℕ) → Each P s → Each P (open_by s q o).1
  each_open s q None c = each_new s q (first_free s) c
  each_open s q (Some f) c = each_old s f (s f) c refl

-- the two facts
abbrev Less : FileState → Type 0
Less x = x.k ≤ x.n

abbrev Short : FileState → Type 0
Short x = length x.bytes ≤ 4096

less : Lasts Less
less = record { fresh = λ q. omega arith; holds = λ x h l. l; key = λ x q l. l }

short : Lasts Short
short = record { fresh = λ q. omega arith; holds = λ x h l. l; key = λ x q l. l }

-- what a request leaves: each fact by itself, where it was so before
pub record Leaves (s t : DiskState) : Type 0 where
  pub distinct : Distinct s → Distinct t
  pub covered : Covered s → Covered t
  pub within : Within s → Within t

pub still_sound : {s t : DiskState} → Leaves s t → Sound s → Sound t
still_sound l k = record { distinct = l.distinct k.distinct; covered = l.covered k.covered; within = l.within k.within }

edited_sound : {A E : Type 0} (fault : DiskFault → E) (answer : FileState → Result A E) (after : FileState → Result A E → FileState) (s : DiskState) (f : ℕ) → ((x : FileState) (r : Result A E) → Keeps x (after x r)) → ((x : FileState) (r : Result A E) → KeepsCovered x (after x r)) → ((x : FileState) → KeepsWithin x (after x (answer x))) → Leaves s (edited fault s f (held (s f)) answer after).1
edited_sound fault answer after s f keeps covers fits = record {
  distinct = edited_distinct fault answer after keeps s f;
  covered = λ c. each_edited Less less fault answer after (λ x. covers x (answer x)) s f c (s f) refl;
  within = λ c. each_edited Short short fault answer after fits s f c (s f) refl;
}

close_sound : (s : DiskState) (f : ℕ) → Leaves s (close s f (held (s f)))
close_sound s f = record { distinct = close_distinct s f; covered = λ c. each_close Less less s f (s f) c refl; within = λ c. each_close Short short s f (s f) c refl }

unbind_sound : (going : KeyName → Bool) (s : DiskState) → Leaves s (unbind going s (first_bound going s)).1
unbind_sound going s = record {
  distinct = unbind_distinct going s;
  covered = each_unbind Less less going s (first_bound going s);
  within = each_unbind Short short going s (first_bound going s);
}

open_sound : (s : DiskState) (q : KeyName) → Small s → Leaves s (open_by s q (first_bound (same_key q) s)).1
open_sound s q m = record {
  distinct = open_distinct s q m;
  covered = each_open Less less s q (first_bound (same_key q) s);
  within = each_open Short short s q (first_bound (same_key q) s);
}

-- ---- the files after a request, by the equation that it ensures

edited_leaves : {A E : Type 0} (fault : DiskFault → E) (answer : FileState → Result A E) (after : FileState → Result A E → FileState) (s t : DiskState) (f : ℕ) (r : Result A E) → (r, t) ≡ edited fault s f (held (s f)) answer after → ((x : FileState) (r : Result A E) → Keeps x (after x r)) → ((x : FileState) (r : Result A E) → KeepsCovered x (after x r)) → ((x : FileState) → KeepsWithin x (after x (answer x))) → Leaves s t
edited_leaves fault answer after s t f r e keeps covers fits = subst (Leaves s) (sym (ap (λ v. v.1) e)) (edited_sound fault answer after s f keeps covers fits)

pub write_leaves : (s t : DiskState) (f at : ℕ) (given : List ℕ) (durably : Bool) (limit : ℕ) (r : Result ℕ WriteFault) → (r, t) ≡ edited failed s f (held (s f)) (write_answer at (length given) durably limit) (after_write at given durably) → Leaves s t
write_leaves s t f at given durably limit r e =
    edited_leaves failed (write_answer at (length given) durably limit) (after_write at given durably) s t f r e (keeps_write at given durably) (covers_write at given durably) (within_write at given durably limit)

pub resize_leaves : (s t : DiskState) (f end : ℕ) (r : Result (Unit {0}) ResizeFault) → (r, t) ≡ edited failed s f (held (s f)) (resize_answer end) (after_resize end) → Leaves s t
resize_leaves s t f end r e = edited_leaves failed (resize_answer end) (after_resize end) s t f r e (keeps_resize end) (covers_resize end) (within_resize end)

pub end_leaves : (s t : DiskState) (f mark : ℕ) (r : Result (Unit {0}) FlushFault) → (r, t) ≡ edited failed s f (held (s f)) end_answer (after_end mark) → Leaves s t
end_leaves s t f mark r e = edited_leaves failed end_answer (after_end mark) s t f r e (keeps_end mark) (covers_end mark) (λ x h. h)

pub header_leaves : (s t : DiskState) (f : ℕ) (given : List ℕ) (r : Result (Unit {0}) WriteFault) → (r, t) ≡ edited failed s f (held (s f)) (header_answer (length given)) (after_header given) → Leaves s t
header_leaves s t f given r e = edited_leaves failed (header_answer (length given)) (after_header given) s t f r e (keeps_header given) (covers_header given) (within_header given)

pub close_leaves : (s t : DiskState) (f : ℕ) → t ≡ close s f (held (s f)) → Leaves s t
close_leaves s t f e = subst (Leaves s) (sym e) (close_sound s f)

pub unbind_leaves : (going : KeyName → Bool) (s t : DiskState) (r : Result (Unit {0}) UnbindFault) → (r, t) ≡ unbind going s (first_bound going s) → Leaves s t
unbind_leaves going s t r e = subst (Leaves s) (sym (ap (λ v. v.1) e)) (unbind_sound going s)

pub open_leaves : (s t : DiskState) (q : KeyName) (r : Result ℕ OpenFault) → (r, t) ≡ open_by s q (first_bound (same_key q) s) → Small s → Leaves s t
open_leaves s t q r e m = subst (Leaves s) (sym (ap (λ v. v.1) e)) (open_sound s q m)
