-- What a disk stands for: its files by number, each with the key that it is bound to. Assumes nothing.
use Rattle.std.specs.Prelude.{◌≡◌, ℕ, ◌<◌, ◌≤◌, true, cond, ◌||◌, ◌⊎◌, List, [], is_some, Some, None, Option, nat_eq, nat_lt}
use Rattle.std.specs.Map.{update}
use Rattle.keys.specs.KeyName.{KeyName}

-- a file: its key or none, its bytes, how many mutations have landed, how many of these are covered, and how often it is held
pub record FileState : Type 0 where
  pub key : Option KeyName
  pub bytes : List ℕ
  pub n : ℕ
  pub k : ℕ
  pub holds : ℕ

-- the file of each number, so that no two files have one number and no file has two keys
abbrev pub DiskState : Type 0
DiskState = ℕ → Option FileState

-- the key q is bound to the file f
abbrev pub Bound : DiskState → KeyName → ℕ → Type 0
Bound s q f = (x : FileState) × (s f ≡ Some x) × (x.key ≡ Some q)

abbrev pub Unbound : DiskState → KeyName → Type 0
Unbound s q = (f : ℕ) → Bound s q f → ⊥

abbrev pub Held : DiskState → ℕ → FileState → Type 0
Held s f x = (s f ≡ Some x) × (0 < x.holds)

-- no key is bound to two files, no file has more covered than landed, and a file that is neither held nor bound is gone
pub record Valid (s : DiskState) : Type 0 where
  pub once : (q : KeyName) (f g : ℕ) → Bound s q f → Bound s q g → f ≡ g
  pub covered : (f : ℕ) (x : FileState) → s f ≡ Some x → x.k ≤ x.n
  pub there : (f : ℕ) (x : FileState) → s f ≡ Some x → (0 < x.holds) ⊎ (is_some x.key ≡ true)

-- the file f is w, and the rest as it was
abbrev pub put : DiskState → ℕ → Option FileState → DiskState
put s f w = update nat_eq s f w

abbrev pub with_holds : FileState → ℕ → FileState
with_holds x h = record { key = x.key; bytes = x.bytes; n = x.n; k = x.k; holds = h }

abbrev pub with_key : FileState → Option KeyName → FileState
with_key x o = record { key = o; bytes = x.bytes; n = x.n; k = x.k; holds = x.holds }

-- a new file of the key q, held h times
abbrev pub new_file : KeyName → ℕ → FileState
new_file q h = record { key = Some q; bytes = []; n = 0; k = 0; holds = h }

-- a file is there while it is held or bound, and gone otherwise
abbrev pub kept : FileState → Option FileState
kept x = cond (nat_lt 0 x.holds || is_some x.key) (Some x) None
