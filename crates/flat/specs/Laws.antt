-- What the flat disk does keeps the rules of every disk. Assumes nothing.
use Rattle.std.specs.Prelude.{◌≡◌, ℕ, ◌+◌, ◌<◌, ◌≤◌, min, Bool, true, false, cond, not, ◌&&◌, ◌||◌, ◌⊎◌, List, map, length, take, drop, is_some, Some, None, Ok, Err, Option, Result, ◌==◌, ◌≢◌, nat_le, nat_lt, refl}
use Rattle.std.proofs.Common.{sym, ap, subst, ◌∙◌, inl, inr, add-zero, arith}
use Rattle.std.proofs.Math.Path.{fun_ext}
use Rattle.std.specs.List.{slice_get}
use Rattle.std.proofs.lemmas.Bool.{lt-ltb, ltb-true, or_cases, and_parts, not-true, eqb-false, cond_both}
use Rattle.faults.specs.Numbers.{code}
use Rattle.faults.specs.declared.disk.DiskFault.{DiskFault}
use Rattle.faults.specs.declared.disk.DiskFault.TheVariants.{Code}
use Rattle.faults.specs.declared.kinds.Write.{Write}
use Rattle.faults.specs.Kinds.{OpenFault, WriteFault, ResizeFault, failed}
use Rattle.keys.specs.KeyName.{KeyName, same_key, in_partition}
use Rattle.keys.specs.Laws.{same_key_decides}
use Rattle.disk.specs.declared.path.Path.{Path}
use Rattle.disk.specs.Paths.{durable}
use Rattle.disk.specs.Files.{FileState, DiskState, Held, Unbound, Valid, put, with_holds}
use Rattle.disk.specs.Requests.{Request, ask_open, ask_close, ask_length, ask_read, ask_write, ask_resize, ask_start, ask_end, ask_header, ask_flush_directory, ask_flush_root, ask_unbind, ask_unbind_partition}
use Rattle.disk.specs.Rules.{DiskRules, OpenRule, LengthRule, ReadRule, WriteRule, ResizeRule, EndRule, HeaderRule, FlushRule, UnbindRule, UnbindPartitionRule, SomeBound, Fails, Interrupted, spoiled, unnamed, unnamed_by, unbound}
use Rattle.slots.specs.Plans.{is_code, planned_if, planned, planned_unbind, landing}
use Rattle.slots.specs.Codes.{no_room}
use Rattle.slots.specs.FileSteps.{held, full, fits, write_refused, write_answer, after_write, resize_answer, after_resize, header_answer, after_header, end_answer, after_end}
use Rattle.flat.specs.declared.files.place.Place.{Place}
use Rattle.flat.specs.Places.{live, files_of, file_of, meaning_of, key_in, bound_by, is_free, Distinct, Covered}
use Rattle.flat.specs.Steps.{unless, asked, edited, close, mark_of, write, open_held, open_old, open_new, open_by, first_bound, first_free, unbind, does}
use Rattle.flat.specs.RowsLemmas.{never, kept_is}
use Rattle.flat.specs.Firsts.{Finds, first_finds}
use Rattle.flat.specs.Lifts.{put_same, bound_some}
use Rattle.flat.specs.Distinct.{Small, none_bound, unbound_key}

-- ---- planned faults

planned_is : (b : Bool) (p : ℕ) (d : DiskFault) → planned_if b p ≡ Some d → (code d ≡ p) × (b ≡ true)
planned_is true p d e = let g : Code p ≡ d = cc in (sym (ap code g), refl)
planned_is false p d e = absurd (never d e)

apart : (p m : ℕ) (b : Bool) → (not (p == m) && b) ≡ true → p ≢ m
apart p m b t = eqb-false p m (not-true (p == m) (and_parts (not (p == m)) b t).0)

not_interrupted : (p : ℕ) (d : DiskFault) → planned p ≡ Some d → Interrupted d → ⊥
not_interrupted p d e i =
    let g = planned_is (not (p == 4) && is_code p) p d e in
    apart p 4 (is_code p) g.1 (sym g.0 ∙ i)

unbind_code : (p : ℕ) (d : DiskFault) → planned_unbind p ≡ Some d → (code d ≢ 2) × (Interrupted d → ⊥)
unbind_code p d e =
    let b = not (p == 4) && is_code p in
    let g = planned_is (not (p == 2) && b) p d e in
    (λ i. apart p 2 b g.1 (sym g.0 ∙ i), λ i. apart p 4 (is_code p) (and_parts (not (p == 2)) b g.1).1 (sym g.0 ∙ i))

-- a rule of a request that a fault may be planned for
by_plan : {A E : Type 0} (fault : DiskFault → E) (s : DiskState) (go : Result A E × DiskState) (P : Result A E → DiskState → Type 0) (o : Option DiskFault) → ((d : DiskFault) → o ≡ Some d → P (Err (fault d)) s) → P go.0 go.1 → P (unless o fault s go).0 (unless o fault s go).1
by_plan fault s go P None f g = g
by_plan fault s go P (Some d) f g = f d refl

fails : (s : DiskState) (p : ℕ) (d : DiskFault) → planned p ≡ Some d → Fails s d s
fails s p d e = (not_interrupted p d e, refl)

-- ---- files that are held

module _ (s : DiskState) (f : ℕ) (x : FileState) (h : Held s f x) where
  is : held (s f) ≡ Some x
  is = ap held h.0 ∙ ap (λ b. cond b (Some x) None) (lt-ltb 0 x.holds h.1)

  asks : {A E : Type 0} (fault : DiskFault → E) (answer : FileState → A) (P : Result A E → Type 0) → P (Ok (answer x)) → P (asked fault (held (s f)) answer)
  asks fault answer P p = subst (λ o. P (asked fault o answer)) (sym is) p

  edits : {A E : Type 0} (fault : DiskFault → E) (answer : FileState → Result A E) (after : FileState → Result A E → FileState) (P : Result A E → DiskState → Type 0) → ((r : Result A E) → r ≡ answer x → P r (put s f (Some (after x r)))) → P (edited fault s f (held (s f)) answer after).0 (edited fault s f (held (s f)) answer after).1
  edits fault answer after P p =
      subst (λ o. P (edited fault s f o answer after).0 (edited fault s f o answer after).1) (sym is) (p (answer x) refl)

  count_within : (b : Bool) (c m k : ℕ) → Ok c ≡ cond b (Err (failed {K = Write} no_room)) (Ok k) → k ≤ m → c ≤ m
  count_within true c m k e l = let z : ◌≡◌ {A = ℕ} 0 1 = cc in absurd (omega arith)
  count_within false c m k e l = let z : c ≡ k = cc in omega arith

  write_rule : (at : ℕ) (given : List ℕ) (p : Path) (limit : ℕ) (r : Result ℕ WriteFault) → r ≡ write_answer at (length given) (durable p) limit x → WriteRule s f x at given p r (put s f (Some (after_write at given (durable p) x r)))
  write_rule at given p limit (Ok c) e =
      (count_within (write_refused x at (length given) (durable p) limit) c (length given) (min (fits at (length given)) limit) e (omega arith), refl)
  write_rule at given p limit (Err y) e = inl (put_same s f x h.0)

  write_keeps : (at : ℕ) (given : List ℕ) (p : Path) (l : Result ℕ DiskFault) → WriteRule s f x at given p (write l s f at given p).0 (write l s f at given p).1
  write_keeps at given p (Err d) = inl refl
  write_keeps at given p (Ok limit) =
      edits failed (write_answer at (length given) (durable p) limit) (after_write at given (durable p)) (WriteRule s f x at given p) (write_rule at given p limit)

  resize_code : (b : Bool) (y : ResizeFault) → ◌≡◌ {A = Result (Unit {0}) ResizeFault} (Err y) (cond b (Err (failed no_room)) (Ok tt)) → Interrupted y.0 → ⊥
  resize_code true y e i = let g : y ≡ failed no_room = cc in let z : code y.0 ≡ 28 = ap (λ v. code v.0) g in omega arith
  resize_code false y e i = let z : ◌≡◌ {A = ℕ} 0 1 = cc in omega arith

  resize_rule : (end : ℕ) (r : Result (Unit {0}) ResizeFault) → r ≡ resize_answer end x → ResizeRule s f x end r (put s f (Some (after_resize end x r)))
  resize_rule end (Ok u) e = refl
  resize_rule end (Err y) e = (resize_code (nat_lt 4096 end || full x) y e, put_same s f x h.0)

  header_code : (b : Bool) (y : WriteFault) → ◌≡◌ {A = Result (Unit {0}) WriteFault} (Err y) (cond b (Err (failed no_room)) (Ok tt)) → Interrupted y.0 → ⊥
  header_code true y e i = let g : y ≡ failed no_room = cc in let z : code y.0 ≡ 28 = ap (λ v. code v.0) g in omega arith
  header_code false y e i = let z : ◌≡◌ {A = ℕ} 0 1 = cc in omega arith

  -- a header that leaves the file
  unspoiled : put s f (Some x) ≡ put s f (Some (spoiled x x.bytes 0))
  unspoiled = sym (ap (λ m. put s f (Some (record { key = x.key; bytes = x.bytes; n = m; k = x.k; holds = x.holds }))) (add-zero x.n))

  header_rule : (given : List ℕ) (r : Result (Unit {0}) WriteFault) → r ≡ header_answer (length given) x → HeaderRule s f x given r (put s f (Some (after_header given x r)))
  header_rule given (Ok u) e = refl
  header_rule given (Err y) e = (header_code (nat_lt 4096 (length given) || full x) y e, (x.bytes, 0, omega arith, unspoiled))

  header_left : s ≡ put s f (Some (spoiled x x.bytes 0))
  header_left = sym (put_same s f x h.0) ∙ unspoiled

  end_rule : (mark : ℕ) (r : Result (Unit {0}) _) → r ≡ end_answer x → EndRule s f x mark r (put s f (Some (after_end mark x r)))
  end_rule mark (Ok u) e = refl
  end_rule mark (Err y) e = let z : ◌≡◌ {A = ℕ} 0 1 = cc in absurd (omega arith)

-- ---- keys

open_some : (s : DiskState) (q : KeyName) (f : ℕ) (x : FileState) → s f ≡ Some x → x.key ≡ Some q → OpenRule s q (open_held s f x).0 (open_held s f x).1
open_some s q f x e k =
    cond_both {A = Result ℕ OpenFault × DiskState} (nat_le 1099511627776 x.holds) (Err (failed no_room), s) (Ok f, put s f (Some (with_holds x (x.holds + 1)))) (λ r. OpenRule s q r.0 r.1)
    (λ t. (λ i. omega arith, inl refl)) (λ t. inl (x, e, k, refl))

free_none : (o : Option FileState) → is_free o ≡ true → o ≡ None
free_none None e = refl
free_none (Some x) e = let z : ◌≡◌ {A = ℕ} 0 1 = cc in absurd (omega arith)

open_none : (s : DiskState) (q : KeyName) → Unbound s q → (o : Option ℕ) → Finds is_free s 0 8 o → OpenRule s q (open_new s q o).0 (open_new s q o).1
open_none s q u None n = (λ i. omega arith, inl refl)
open_none s q u (Some f) n = inr (u, free_none (s f) n, refl)

open_rule : (s : DiskState) (q : KeyName) → Small s → (o : Option ℕ) → Finds (bound_by (same_key q)) s 0 8 o → OpenRule s q (open_by s q o).0 (open_by s q o).1
open_rule s q m None n = open_none s q (unbound_key s q m n) (first_free s) (first_finds is_free s 0 8)
open_rule s q m (Some f) b =
    let t = bound_some (same_key q) (s f) b in
    let k : q ≡ t.1 = (same_key_decides q t.1).0 t.4 in
    subst (λ o. OpenRule s q (open_old s f o).0 (open_old s f o).1) (sym t.2) (open_some s q f t.0 t.2 (t.3 ∙ ap Some (sym k)))

some_bound : (s : DiskState) (tells : KeyName → Bool) (f : ℕ) → bound_by tells (s f) ≡ true → SomeBound s tells
some_bound s tells f b = let t = bound_some tells (s f) b in (t.1, f, t.4, (t.0, t.2, t.3))

unbind_rule : (s : DiskState) (q : KeyName) → Small s → (o : Option ℕ) → Finds (bound_by (same_key q)) s 0 8 o → UnbindRule s q (unbind (same_key q) s o).0 (unbind (same_key q) s o).1
unbind_rule s q m None n = (λ e. none_bound s (same_key q) m n, (λ i. omega arith, refl))
unbind_rule s q m (Some f) b = (some_bound s (same_key q) f b, refl)

left_by : (x : FileState) (o : Option KeyName) → unnamed_by (λ _. false) x o ≡ Some x
left_by x None = refl
left_by x (Some q) = refl

left_file : (o : Option FileState) → unnamed (λ _. false) o ≡ o
left_file None = refl
left_file (Some x) = left_by x x.key

-- no key goes
left_all : (s : DiskState) → s ≡ unbound (λ _. false) s
left_all s = sym (fun_ext (λ f. left_file (s f)))

leaves : (s : DiskState) (p : List ℕ) → (gone : KeyName → Bool) × ((q : KeyName) → gone q ≡ true → in_partition p q ≡ true) × (s ≡ unbound gone s)
leaves s p = (λ _. false, λ q e. let z : ◌≡◌ {A = ℕ} 0 1 = cc in absurd (omega arith), left_all s)

partition_rule : (s : DiskState) (p : List ℕ) → Small s → (o : Option ℕ) → Finds (bound_by (in_partition p)) s 0 8 o → UnbindPartitionRule s p (unbind (in_partition p) s o).0 (unbind (in_partition p) s o).1
partition_rule s p m None n = (λ e. none_bound s (in_partition p) m n, λ i. omega arith, leaves s p)
partition_rule s p m (Some f) b = (some_bound s (in_partition p) f b, refl)

-- ---- all requests

pub rules : (s : DiskState) → Small s → (p : ℕ) (q : Request) → DiskRules s q (does q p s).0 (does q p s).1
rules s m p (ask_open q) =
    by_plan failed s (open_by s q (first_bound (same_key q) s)) (OpenRule s q) (planned p) (λ d e. (not_interrupted p d e, inl refl))
    (open_rule s q m (first_bound (same_key q) s) (first_finds (bound_by (same_key q)) s 0 8))
rules s m p (ask_close f) = λ x h. ap (close s f) (is s f x h)
rules s m p (ask_length f) = λ x h.
    by_plan failed s _ (LengthRule s x) (planned p) (λ d e. fails s p d e) (asks s f x h failed (λ y. length y.bytes) (λ r. LengthRule s x r s) (refl, refl))
rules s m p (ask_read f at room) = λ x h.
    by_plan failed s _ (ReadRule s x at room) (planned p) (λ d e. fails s p d e)
    (asks s f x h failed (λ y. take room (drop at y.bytes)) (λ r. ReadRule s x at room r s) (refl, refl))
rules s m p (ask_write f at given path) = λ x h. write_keeps s f x h at given path (landing p (length given))
rules s m p (ask_resize f end) = λ x h.
    by_plan failed s _ (ResizeRule s f x end) (planned p) (λ d e. fails s p d e) (edits s f x h failed (resize_answer end) (after_resize end) (ResizeRule s f x end) (resize_rule s f x h end))
rules s m p (ask_start f) = λ x h. (ap mark_of (is s f x h), refl)
rules s m p (ask_end f mark) = λ x h.
    by_plan failed s _ (EndRule s f x mark) (planned p) (λ d e. fails s p d e) (edits s f x h failed end_answer (after_end mark) (EndRule s f x mark) (end_rule s f x h mark))
rules s m p (ask_header f given) = λ x h.
    by_plan failed s _ (HeaderRule s f x given) (planned p) (λ d e. (not_interrupted p d e, (x.bytes, 0, omega arith, header_left s f x h)))
    (edits s f x h failed (header_answer (length given)) (after_header given) (HeaderRule s f x given) (header_rule s f x h given))
rules s m p (ask_flush_directory d) = by_plan failed s (Ok tt, s) (FlushRule s) (planned p) (λ d e. fails s p d e) refl
rules s m p ask_flush_root = by_plan failed s (Ok tt, s) (FlushRule s) (planned p) (λ d e. fails s p d e) refl
rules s m p (ask_unbind q) =
    by_plan failed s (unbind (same_key q) s (first_bound (same_key q) s)) (UnbindRule s q) (planned_unbind p)
    (λ d e. let c = unbind_code p d e in (λ i. absurd (c.0 i), (c.1, refl))) (unbind_rule s q m (first_bound (same_key q) s) (first_finds (bound_by (same_key q)) s 0 8))
rules s m p (ask_unbind_partition d) =
    by_plan failed s (unbind (in_partition d) s (first_bound (in_partition d) s)) (UnbindPartitionRule s d) (planned_unbind p)
    (λ y e. let c = unbind_code p y e in (λ i. absurd (c.0 i), c.1, leaves s d)) (partition_rule s d m (first_bound (in_partition d) s) (first_finds (bound_by (in_partition d)) s 0 8))

-- ---- such files are a valid disk

live_there : (o : Option FileState) (x : FileState) → live o ≡ Some x → (0 < x.holds) ⊎ (is_some x.key ≡ true)
live_there None x e = absurd (never x e)
live_there (Some y) x e =
    let a = kept_is x y (nat_lt 0 y.holds || is_some y.key) e in
    elim (or_cases (nat_lt 0 y.holds) (is_some y.key) a.1) [
      | inl t ↦ inl (let l = ltb-true 0 y.holds t in let g : x.holds ≡ y.holds = ap (λ v. v.holds) a.0 in omega arith)
      | inr t ↦ inr (ap (λ v. is_some v.key) a.0 ∙ t)
    ]

pub valid : (xs : List Place) → Distinct (meaning_of xs) → Covered (meaning_of xs) → Valid (meaning_of xs)
unfolding files_of
valid xs d c = record {
  once = λ q f g a b. d f g (q, ap key_in a.1 ∙ a.2, ap key_in b.1 ∙ b.2);
  covered = c;
  there = λ f x e. live_there (slice_get (map file_of xs) f) x e;
}
