-- The rules that every disk keeps: what each request may answer, and what it leaves then. Assumes nothing.
use Rattle.std.specs.Prelude.{◌≡◌, ℕ, ◌+◌, ◌-◌, ◌≤◌, min, max, Bool, true, cond, ◌||◌, ◌⊎◌, List, length, take, drop, Some, None, Ok, Err, Option, Result, ◌==◌, ◌≢◌}
use Rattle.faults.specs.Numbers.{code}
use Rattle.faults.specs.declared.disk.DiskFault.{DiskFault}
use Rattle.faults.specs.Kinds.{OpenFault, WriteFault, FlushFault, ResizeFault, LengthFault, UnbindFault}
use Rattle.keys.specs.KeyName.{KeyName, same_key, in_partition}
use Rattle.disk.specs.declared.path.Path.{Path}
use Rattle.disk.specs.Paths.{durable}
use Rattle.disk.specs.Laid.{laid, sized}
use Rattle.disk.specs.Files.{FileState, DiskState, Bound, Unbound, Held, put, with_holds, with_key, new_file, kept}
use Rattle.disk.specs.Requests.{Request, Answer, ask_open, ask_close, ask_length, ask_read, ask_write, ask_resize, ask_start, ask_end, ask_header, ask_flush_directory, ask_flush_root, ask_unbind, ask_unbind_partition}

-- ---- what a request makes of a file

-- the first c bytes given are laid; a plain write that lands something adds 1 to n, a durable one leaves n
abbrev pub written : FileState → ℕ → List ℕ → Bool → ℕ → FileState
written x at given durably c = record { key = x.key; bytes = laid x.bytes at (take c given); n = cond (durably || c == 0) x.n (x.n + 1); k = x.k; holds = x.holds }

-- a write that failed: c bytes of a prefix laid, and m added to n
abbrev pub torn : FileState → ℕ → List ℕ → ℕ → ℕ → FileState
torn x at given c m = record { key = x.key; bytes = laid x.bytes at (take c given); n = x.n + m; k = x.k; holds = x.holds }

-- cut, or extended with zeros
abbrev pub resized : FileState → ℕ → FileState
resized x end = record { key = x.key; bytes = sized x.bytes end; n = x.n + 1; k = x.k; holds = x.holds }

-- k rises to the smaller of mark and n, if larger
abbrev pub reached : FileState → ℕ → FileState
reached x mark = record { key = x.key; bytes = x.bytes; n = x.n; k = max x.k (min mark x.n); holds = x.holds }

-- the bytes are the header's, and all that has landed is covered
abbrev pub headed : FileState → List ℕ → FileState
headed x bytes = record { key = x.key; bytes = bytes; n = x.n + 1; k = x.n + 1; holds = x.holds }

-- a header that failed: the bytes are any, and m is added to n
abbrev pub spoiled : FileState → List ℕ → ℕ → FileState
spoiled x bytes m = record { key = x.key; bytes = bytes; n = x.n + m; k = x.k; holds = x.holds }

-- a file whose key is among those that go loses it, and is gone unless it is held
abbrev pub unnamed_by : (KeyName → Bool) → FileState → Option KeyName → Option FileState
unnamed_by going x None = Some x
unnamed_by going x (Some q) = cond (going q) (kept (with_key x None)) (Some x)

abbrev pub unnamed : (KeyName → Bool) → Option FileState → Option FileState
unnamed going None = None
unnamed going (Some x) = unnamed_by going x x.key

abbrev pub unbound : (KeyName → Bool) → DiskState → DiskState
unbound going s = λ f. unnamed going (s f)

-- ---- what a request may answer, and what it leaves

-- a request interrupted by a signal; only a write gives it
abbrev pub Interrupted : DiskFault → Type 0
Interrupted d = code d ≡ 4

-- a fault that leaves all
abbrev pub Fails : DiskState → DiskFault → DiskState → Type 0
Fails s d t = (Interrupted d → ⊥) × (t ≡ s)

-- the bound file with one hold more, or a new empty one; a fault adds no hold, but may bind
abbrev pub OpenRule : DiskState → KeyName → Result ℕ OpenFault → DiskState → Type 0
OpenRule s q (Ok f) t =
    ((x : FileState) × (s f ≡ Some x) × (x.key ≡ Some q) × (t ≡ put s f (Some (with_holds x (x.holds + 1)))))
    ⊎ (Unbound s q × (s f ≡ None) × (t ≡ put s f (Some (new_file q 1))))
OpenRule s q (Err e) t =
    (Interrupted e.0 → ⊥) × ((t ≡ s) ⊎ ((f : ℕ) × Unbound s q × (s f ≡ None) × (t ≡ put s f (Some (new_file q 0)))))

-- one hold less; a file that is then neither held nor bound is gone
abbrev pub CloseRule : DiskState → ℕ → FileState → DiskState → Type 0
CloseRule s f x t = t ≡ put s f (kept (with_holds x (x.holds - 1)))

abbrev pub LengthRule : DiskState → FileState → Result ℕ LengthFault → DiskState → Type 0
LengthRule s x (Ok len) t = (len ≡ length x.bytes) × (t ≡ s)
LengthRule s x (Err e) t = Fails s e.0 t

abbrev pub ReadRule : DiskState → FileState → ℕ → ℕ → Result (List ℕ) LengthFault → DiskState → Type 0
ReadRule s x at room (Ok out) t = (out ≡ take room (drop at x.bytes)) × (t ≡ s)
ReadRule s x at room (Err e) t = Fails s e.0 t

-- codes 4 and 95 leave all; another fault may lay a prefix and add 1 to n
abbrev pub WriteRule : DiskState → ℕ → FileState → ℕ → List ℕ → Path → Result ℕ WriteFault → DiskState → Type 0
WriteRule s f x at given p (Ok c) t = (c ≤ length given) × (t ≡ put s f (Some (written x at given (durable p) c)))
WriteRule s f x at given p (Err e) t =
    (t ≡ s)
    ⊎ ((Interrupted e.0 → ⊥) × (code e.0 ≢ 95) × ((c m : ℕ) × (c ≤ length given) × (m ≤ 1) × (t ≡ put s f (Some (torn x at given c m)))))

abbrev pub ResizeRule : DiskState → ℕ → FileState → ℕ → Result (Unit {0}) ResizeFault → DiskState → Type 0
ResizeRule s f x end (Ok u) t = t ≡ put s f (Some (resized x end))
ResizeRule s f x end (Err e) t = Fails s e.0 t

abbrev pub StartRule : DiskState → FileState → ℕ → DiskState → Type 0
StartRule s x mark t = (mark ≡ x.n) × (t ≡ s)

abbrev pub EndRule : DiskState → ℕ → FileState → ℕ → Result (Unit {0}) FlushFault → DiskState → Type 0
EndRule s f x mark (Ok u) t = t ≡ put s f (Some (reached x mark))
EndRule s f x mark (Err e) t = Fails s e.0 t

abbrev pub HeaderRule : DiskState → ℕ → FileState → List ℕ → Result (Unit {0}) WriteFault → DiskState → Type 0
HeaderRule s f x given (Ok u) t = t ≡ put s f (Some (headed x given))
HeaderRule s f x given (Err e) t =
    (Interrupted e.0 → ⊥) × ((left : List ℕ) × (m : ℕ) × (m ≤ 1) × (t ≡ put s f (Some (spoiled x left m))))

-- a flush of a directory or of the root alters nothing here
abbrev pub FlushRule : DiskState → Result (Unit {0}) WriteFault → DiskState → Type 0
FlushRule s (Ok u) t = t ≡ s
FlushRule s (Err e) t = Fails s e.0 t

-- some key that is told was bound, or none was
abbrev pub SomeBound : DiskState → (KeyName → Bool) → Type 0
SomeBound s tells = (q : KeyName) × (f : ℕ) × (tells q ≡ true) × Bound s q f

abbrev pub NoneBound : DiskState → (KeyName → Bool) → Type 0
NoneBound s tells = (q : KeyName) → tells q ≡ true → Unbound s q

-- the key was bound, and is no more; code 2 means that it was not
abbrev pub UnbindRule : DiskState → KeyName → Result (Unit {0}) UnbindFault → DiskState → Type 0
UnbindRule s q (Ok u) t = SomeBound s (same_key q) × (t ≡ unbound (same_key q) s)
UnbindRule s q (Err e) t = (code e.0 ≡ 2 → NoneBound s (same_key q)) × Fails s e.0 t

-- so with all keys of a partition; a fault may leave some of them bound and others not
abbrev pub UnbindPartitionRule : DiskState → List ℕ → Result (Unit {0}) UnbindFault → DiskState → Type 0
UnbindPartitionRule s p (Ok u) t = SomeBound s (in_partition p) × (t ≡ unbound (in_partition p) s)
UnbindPartitionRule s p (Err e) t =
    (code e.0 ≡ 2 → NoneBound s (in_partition p)) × (Interrupted e.0 → ⊥)
    × ((gone : KeyName → Bool) × ((q : KeyName) → gone q ≡ true → in_partition p q ≡ true) × (t ≡ unbound gone s))

-- a request on a file is asked by one who holds it: of any other nothing is said
abbrev pub OfHeld : DiskState → ℕ → (FileState → Type 0) → Type 0
OfHeld s f Rule = (x : FileState) → Held s f x → Rule x

abbrev pub DiskRules : DiskState → (q : Request) → Answer q → DiskState → Type 0
DiskRules s (ask_open q) a t = OpenRule s q a t
DiskRules s (ask_close f) a t = OfHeld s f (λ x. CloseRule s f x t)
DiskRules s (ask_length f) a t = OfHeld s f (λ x. LengthRule s x a t)
DiskRules s (ask_read f at room) a t = OfHeld s f (λ x. ReadRule s x at room a t)
DiskRules s (ask_write f at given p) a t = OfHeld s f (λ x. WriteRule s f x at given p a t)
DiskRules s (ask_resize f end) a t = OfHeld s f (λ x. ResizeRule s f x end a t)
DiskRules s (ask_start f) a t = OfHeld s f (λ x. StartRule s x a t)
DiskRules s (ask_end f mark) a t = OfHeld s f (λ x. EndRule s f x mark a t)
DiskRules s (ask_header f given) a t = OfHeld s f (λ x. HeaderRule s f x given a t)
DiskRules s (ask_flush_directory p) a t = FlushRule s a t
DiskRules s ask_flush_root a t = FlushRule s a t
DiskRules s (ask_unbind q) a t = UnbindRule s q a t
DiskRules s (ask_unbind_partition p) a t = UnbindPartitionRule s p a t
