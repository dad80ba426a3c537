-- That the rules of writes and barriers are what the pages define. Assumes nothing.
use Rattle.std.proofs.Common.{◌≡◌, ℕ, zero, suc, ◌+◌, ◌-◌, ◌≤◌, max, Bool, true, false, cond, ◌||◌, eqb, leb, ◌↔◌, List, [], ◌∷◌, length, get_or, take, Some, Ok, sym, refl, ap, ◌∙◌, inl, inr, arith}
use mathlib.Core.Path.{fun_ext}
use Rattle.std.proofs.lemmas.List.{get_or_past}
use Rattle.std.proofs.lemmas.Bool.{cases_lt, cases_Bool, cond-true, cond-false, leb-true, leb-false, le-leb, lt-leb, eqb-true, or_right}
use Rattle.std.proofs.lemmas.Bool.Decides.{nat_tests}
use Rattle.disk.specs.declared.path.Path.{Path}
use Rattle.disk.specs.Paths.{durable}
use Rattle.disk.specs.Laid.{laid}
use Rattle.disk.specs.Files.{FileState, DiskState, Held, put}
use Rattle.disk.specs.Rules.{written, reached, WriteRule, EndRule}
use Rattle.disk.specs.Pages.{Change, synchronous, cached, PageFile, Kept, kept_none, kept_synchronous, kept_cached, Since, as_then, newer, Call, joined, Accepted, settled, changed, Wrote, PwriteReturns, FdatasyncReturns}
use Rattle.disk.specs.Follows.{counted, Covers, Stands, Becomes, FilesStand, PagesHold}
use Rattle.disk.proofs.Layers.{length_laid, laid_below, laid_within, laid_above, laid_is}

-- ---- counts of changes

counted_settled : (m : ℕ) (cs : List Change) → counted (settled m cs) ≡ counted cs
counted_settled m [] = refl
counted_settled m (synchronous ∷ cs) = counted_settled m cs
counted_settled m (cached b ∷ cs) = ap (λ n. n + 1) (counted_settled m cs)

length_kept : {cs ds : List Change} → Kept cs ds → length ds ≡ length cs
length_kept kept_none = refl
length_kept (kept_synchronous h) = ap suc (length_kept h)
length_kept (kept_cached p h) = ap suc (length_kept h)

counted_kept : {cs ds : List Change} → Kept cs ds → counted ds ≡ counted cs
counted_kept kept_none = refl
counted_kept (kept_synchronous h) = counted_kept h
counted_kept (kept_cached p h) = ap (λ n. n + 1) (counted_kept h)

length_since : {then now : List Change} → Since then now → length then ≤ length now
length_since (as_then h) = let e = length_kept h in omega arith
length_since (newer c h) = let e = length_since h in omega arith

counted_since : {then now : List Change} → Since then now → counted then ≤ counted now
counted_since (as_then h) = let e = counted_kept h in omega arith
counted_since (newer synchronous h) = counted_since h
counted_since (newer (cached b) h) = let e = counted_since h in omega arith

-- ---- what k covers

-- no two counts cover the same changes
covers_once : (cs : List Change) (j k : ℕ) → Covers j cs → Covers k cs → j ≤ counted cs → k ≤ counted cs → j ≡ k
covers_once [] j k p q a b = omega arith
covers_once (synchronous ∷ cs) j k p q a b = covers_once cs j k p q a b
covers_once (cached d ∷ cs) j k p q a b =
    elim (cases_lt j (counted cs + 1)) [
      | inl l ↦ covers_once cs j k p.1 q.1 (omega arith) (omega (arith, leb-false (counted cs + 1) k (sym q.0 ∙ p.0 ∙ lt-leb (counted cs + 1) j l)))
      | inr l ↦ omega (arith, leb-true (counted cs + 1) k (sym q.0 ∙ p.0 ∙ le-leb (counted cs + 1) j l))
    ]

settled_all : (m k : ℕ) (cs : List Change) → length cs ≤ m → counted cs ≤ k → Covers k (settled m cs)
settled_all m k [] h l = tt
settled_all m k (synchronous ∷ cs) h l = settled_all m k cs (omega arith) l
settled_all m k (cached b ∷ cs) h l =
    let e = counted_settled m cs in
    (or_right b _ (le-leb (length cs + 1) m (omega arith)) ∙ sym (le-leb (counted (settled m cs) + 1) k (omega arith)), settled_all m k cs (omega arith) (omega arith))

-- what had landed by then is covered, and newer changes are as they were
settled_since : {then now : List Change} → Since then now → (j k : ℕ) → k ≡ max j (counted then) → Covers j now → Covers k (settled (length then) now)
settled_since {then} {now} (as_then h) j k e p =
    let l = length_kept h in
    let c = counted_kept h in
    settled_all (length then) k now (omega arith) (omega arith)
settled_since (newer synchronous h) j k e p = settled_since h j k e p
settled_since {then} (newer {now} (cached b) h) j k e p =
    let l = length_since h in
    let c = counted_since h in
    let s = counted_settled (length then) now in
    let q = p.0 in
    (grind (arith, nat_tests), settled_since h j k e p.1)

-- what a write adds to n, and to the changes
changed_counts : (d e : Bool) (n k : ℕ) (cs : List Change) → n ≡ counted cs → Covers k cs → k ≤ n → let after : List Change = cond e cs (cond d synchronous (cached false) ∷ cs) in let landed : ℕ = cond (d || e) n (n + 1) in (landed ≡ counted after) × Covers k after × (k ≤ landed)
changed_counts true true n k cs h p l = (h, p, l)
changed_counts true false n k cs h p l = (h, p, l)
changed_counts false true n k cs h p l = (h, p, l)
changed_counts false false n k cs h p l = (ap (λ m. m + 1) h, (sym (lt-leb (counted cs + 1) k (omega arith)), p), omega arith)

-- ---- what a file of the pages stands for is one file of the disk

same_file : (x y : FileState) → x.key ≡ y.key → x.bytes ≡ y.bytes → x.n ≡ y.n → x.k ≡ y.k → x.holds ≡ y.holds → x ≡ y
same_file x y key bytes n k holds i = record { key = key i; bytes = bytes i; n = n i; k = k i; holds = holds i }

stands_once : {x y : FileState} {p q : PageFile} → Stands x p → Stands y q → p.bytes ≡ q.bytes → p.changes ≡ q.changes → x.key ≡ y.key → x.holds ≡ y.holds → x ≡ y
stands_once {x} {y} {p} {q} a b bytes changes key holds =
    let n : x.n ≡ y.n = a.landed ∙ ap counted changes ∙ sym b.landed in
    let there : Covers y.k p.changes = rw changes b.covered in
    let c : counted p.changes ≡ counted q.changes = ap counted changes in
    let m = a.landed in
    let i = a.within in
    let j = b.within in
    same_file x y key (a.bytes ∙ bytes ∙ sym b.bytes) n (covers_once p.changes x.k y.k a.covered there (omega arith) (omega arith)) holds

put_held : (s : DiskState) (f : ℕ) (x : FileState) → Held s f x → put s f (Some x) ≡ s
put_held s f x h =
    fun_ext (λ g. elim (cases_Bool (eqb f g)) [
      | inl e ↦ cond-true (eqb f g) _ _ e ∙ sym h.0 ∙ ap s (eqb-true f g e)
      | inr e ↦ cond-false (eqb f g) _ _ e
    ])

-- n changes, of which k are promised
covering : ℕ → ℕ → List Change
covering k zero = []
covering k (suc n) = cached (leb (suc n) k) ∷ covering k n

counted_covering : (k n : ℕ) → counted (covering k n) ≡ n
unfolding covering
counted_covering k zero = refl
counted_covering k (suc n) = let e = counted_covering k n in omega arith

covers_covering : (k n : ℕ) → Covers k (covering k n)
unfolding covering
covers_covering k zero = tt
covers_covering k (suc n) = let e = counted_covering k n in (grind (arith, nat_tests), covers_covering k n)

files_stand : FilesStand
files_stand x h =
    (record { bytes = x.bytes; changes = covering x.k x.n }, record { bytes = refl; landed = sym (counted_covering x.k x.n); covered = covers_covering x.k x.n; within = h })

-- ---- the bytes of a write

laid_wrote : (old : List ℕ) (at : ℕ) (ys : List ℕ) → Wrote old at ys (laid old at ys)
unfolding laid
laid_wrote old at [] = refl
laid_wrote old at (y ∷ ys) = record {
  size = length_laid old at (y ∷ ys) (omega arith);
  stands = λ i h. laid_within old at (y ∷ ys) (at + i) (omega arith) (omega arith) ∙ ap (λ j. get_or (y ∷ ys) j 0) (omega arith);
  gap = λ i past below. laid_below old at (y ∷ ys) i below (omega arith) ∙ get_or_past old i 0 past;
  rest = λ i h apart. elim apart [ inl l ↦ laid_below old at (y ∷ ys) i l (omega arith) | inr l ↦ laid_above old at (y ∷ ys) i l ];
}

wrote_laid : (old : List ℕ) (at : ℕ) (ys new : List ℕ) → Wrote old at ys new → new ≡ laid old at ys
unfolding laid
wrote_laid old at [] new h = h
wrote_laid old at (y ∷ ys) new h =
    let size = h.size in
    laid_is old at (y ∷ ys) new (omega arith) size
    (λ k l. elim (cases_lt k (length old)) [ inl m ↦ h.rest k m (inl l) | inr m ↦ h.gap k m l ∙ sym (get_or_past old k 0 m) ])
    (λ k l m. ap (λ j. get_or new j 0) (omega arith) ∙ h.stands (k - at) (omega arith))
    (λ k l. elim (cases_lt k (length old)) [ inl m ↦ h.rest k m (inr l) | inr m ↦ get_or_past new k 0 (omega arith) ∙ sym (get_or_past old k 0 m) ])

-- ---- the rules are the pages

-- a file that stands for what it stood for is as it was
left : (s t : DiskState) (f : ℕ) (x : FileState) (before : PageFile) → Held s f x → Stands x before → Becomes s f x (λ after. after ≡ before) t ↔ (t ≡ s)
left s t f x before held stands = (
  λ h. h.2 ∙ ap (λ y. put s f (Some y)) (stands_once h.5 stands (ap (λ p. p.bytes) h.6) (ap (λ p. p.changes) h.6) h.3 h.4) ∙ put_held s f x held,
  λ e. (x, before, e ∙ sym (put_held s f x held), refl, refl, stands, refl),
)

module _ (s t : DiskState) (f : ℕ) (x : FileState) (before : PageFile) (w : Call) (path : Path) (stands : Stands x before) where
  after_write : ℕ → PageFile
  after_write count = record { bytes = laid before.bytes w.offset (take count (joined w.buffers)); changes = changed (durable path) count before.changes }

  stands_written : (count : ℕ) → Stands (written x w.offset (joined w.buffers) (durable path) count) (after_write count)
  unfolding after_write
  stands_written count =
      let counts = changed_counts (durable path) (eqb count 0) x.n x.k before.changes stands.landed stands.covered stands.within in
      record { bytes = ap (λ b. laid b w.offset (take count (joined w.buffers))) stands.bytes; landed = counts.0; covered = counts.1; within = counts.2 }

  writes_follow : (count : ℕ) → Accepted w.buffers w.offset → w.known ≡ true → w.dsync ≡ durable path → WriteRule s f x w.offset (joined w.buffers) path (Ok count) t ↔ Becomes s f x (PwriteReturns w before (Ok count)) t
  unfolding after_write
  writes_follow count accepted known flag = (
    λ h. (_, after_write count, h.1, refl, refl, stands_written count, record { accepted = accepted; known = known; within = h.0; bytes = laid_wrote before.bytes w.offset _; changes = ap (λ d. changed d count before.changes) (sym flag) }),
    λ h. (h.6.within, h.2 ∙ ap (λ y. put s f (Some y)) (stands_once h.5 (stands_written count) (wrote_laid _ _ _ _ h.6.bytes) (h.6.changes ∙ ap (λ d. changed d count before.changes) flag) h.3 h.4)),
  )

module _ (u t : DiskState) (f mark : ℕ) (x y : FileState) (then now : PageFile) (began : Stands x then) (stands : Stands y now) (since : Since then.changes now.changes) (start : mark ≡ x.n) where
  after_sync : PageFile
  after_sync = record { bytes = now.bytes; changes = settled (length then.changes) now.changes }

  stands_reached : Stands (reached y mark) after_sync
  unfolding after_sync
  stands_reached =
      let a = began.landed in
      let b = stands.landed in
      let l = counted_since since in
      let i = stands.within in
      record { bytes = stands.bytes; landed = b ∙ sym (counted_settled _ now.changes); covered = settled_since since y.k _ (omega arith) stands.covered; within = omega arith }

  barriers_follow : EndRule u f y mark (Ok tt) t ↔ Becomes u f y (FdatasyncReturns (length then.changes) now (Ok tt)) t
  unfolding after_sync
  barriers_follow = (
    λ h. (_, after_sync, h, refl, refl, stands_reached, (refl, refl)),
    λ h. h.2 ∙ ap (λ z. put u f (Some z)) (stands_once h.5 stands_reached h.6.0 h.6.1 h.3 h.4),
  )

pub pages_hold : PagesHold
pages_hold = record {
  files = files_stand;
  writes = λ s t f x before w path count held stands accepted known flag. writes_follow s t f x before w path stands count accepted known flag;
  refusals = λ s t f x before w path e held stands refused. (
    λ h. inl ((left s t f x before held stands).0 (h.0, h.1, h.2, h.3, h.4, h.5, h.6.1)),
    λ four r. elim r [
      | inl q ↦ let h = (left s t f x before held stands).1 q in (h.0, h.1, h.2, h.3, h.4, h.5, (refused, h.6))
      | inr q ↦ absurd (elim four [ inl a ↦ q.0 a | inr b ↦ q.1 b ])
    ],
  );
  faults = λ s f x at given path e. inl refl;
  barriers = λ s r u t f mark x y then now began stood start held stands since. (
    barriers_follow u t f mark x y then now stood stands since start.0,
    λ e no. (λ h. (left u t f y now held stands).1 h.1, λ h. (no, (left u t f y now held stands).0 h)),
  );
}
