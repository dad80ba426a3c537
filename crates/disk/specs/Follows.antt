-- That the disk's rules of writes and barriers are what the pages define. Assumes nothing.
use Rattle.std.specs.Prelude.{◌≡◌, ℕ, ◌+◌, ◌≤◌, true, ◌⊎◌, ◌↔◌, List, [], ◌∷◌, length, Some, Ok, Err, nat_le}
use Rattle.faults.specs.Numbers.{code}
use Rattle.faults.specs.Kinds.{WriteFault, FlushFault}
use Rattle.disk.specs.declared.path.Path.{Path}
use Rattle.disk.specs.Paths.{durable}
use Rattle.disk.specs.Files.{FileState, DiskState, Held, put}
use Rattle.disk.specs.Rules.{Interrupted, WriteRule, StartRule, EndRule}
use Rattle.disk.specs.Pages.{Change, synchronous, cached, PageFile, Since, Call, joined, Accepted, Refused, PwriteReturns, FdatasyncReturns}

-- ---- n and k as changes of the pages

-- n counts the changes that no durable write made
abbrev pub counted : List Change → ℕ
counted [] = 0
counted (synchronous ∷ cs) = counted cs
counted (cached b ∷ cs) = counted cs + 1

-- of these, number i is promised to be on the device when i ≤ k
abbrev pub Covers : ℕ → List Change → Type 0
Covers k [] = Unit {0}
Covers k (synchronous ∷ cs) = Covers k cs
Covers k (cached b ∷ cs) = (b ≡ nat_le (counted cs + 1) k) × Covers k cs

-- the disk's file x stands for the pages' file p
pub record Stands (x : FileState) (p : PageFile) : Type 0 where
  pub bytes : x.bytes ≡ p.bytes
  pub landed : x.n ≡ counted p.changes
  pub covered : Covers x.k p.changes
  pub within : x.k ≤ x.n

-- the file f, which was x, stands for a file after the call; its key, its holds and all other files are as they were
abbrev pub Becomes : DiskState → ℕ → FileState → (PageFile → Type 0) → DiskState → Type 0
Becomes s f x After t =
    (y : FileState) × (after : PageFile) × (t ≡ put s f (Some y)) × (y.key ≡ x.key) × (y.holds ≡ x.holds)
    × Stands y after × After after

-- ---- the rules are the pages

-- every file of a valid disk stands for one of the pages, so that what follows is of every such file
abbrev pub FilesStand : Type 0
FilesStand = (x : FileState) → x.k ≤ x.n → (p : PageFile) × Stands x p

-- a write that succeeds, plain or durable
abbrev pub WritesFollow : Type 0
WritesFollow =
    (s t : DiskState) (f : ℕ) (x : FileState) (before : PageFile) (w : Call) (path : Path) (count : ℕ)
    → Held s f x → Stands x before → Accepted w.buffers w.offset → w.known ≡ true → w.dsync ≡ durable path
    → (WriteRule s f x w.offset (joined w.buffers) path (Ok count) t ↔ Becomes s f x (PwriteReturns w before (Ok count)) t)

-- one that fails as the page defines may do what the page says, and with 4 and 95 nothing else
abbrev pub RefusalsFollow : Type 0
RefusalsFollow =
    (s t : DiskState) (f : ℕ) (x : FileState) (before : PageFile) (w : Call) (path : Path) (e : WriteFault)
    → Held s f x → Stands x before → Refused w (code e.0)
    → (Becomes s f x (PwriteReturns w before (Err (code e.0))) t → WriteRule s f x w.offset (joined w.buffers) path (Err e) t)
    × ((code e.0 ≡ 4) ⊎ (code e.0 ≡ 95) → WriteRule s f x w.offset (joined w.buffers) path (Err e) t → Becomes s f x (PwriteReturns w before (Err (code e.0))) t)

-- of other codes the page defines nothing: the rule allows that a prefix was written, and allows that all is left
abbrev pub FaultsMayLeave : Type 0
FaultsMayLeave =
    (s : DiskState) (f : ℕ) (x : FileState) (at : ℕ) (given : List ℕ) (path : Path) (e : WriteFault)
    → WriteRule s f x at given path (Err e) s

-- a barrier, started at s and ended at u, is an fdatasync begun at s: `then` and `now` are the file at these times. Code 4
-- is no answer to a barrier.
abbrev pub BarriersFollow : Type 0
BarriersFollow =
    (s s' u t : DiskState) (f mark : ℕ) (x y : FileState) (then now : PageFile)
    → Held s f x → Stands x then → StartRule s x mark s' → Held u f y → Stands y now → Since then.changes now.changes
    → (EndRule u f y mark (Ok tt) t ↔ Becomes u f y (FdatasyncReturns (length then.changes) now (Ok tt)) t)
    × ((e : FlushFault) → (Interrupted e.0 → ⊥) → (EndRule u f y mark (Err e) t ↔ Becomes u f y (FdatasyncReturns (length then.changes) now (Err (code e.0))) t))

pub record PagesHold : Type 0 where
  pub files : FilesStand
  pub writes : WritesFollow
  pub refusals : RefusalsFollow
  pub faults : FaultsMayLeave
  pub barriers : BarriersFollow
