-- The files of the eight places as a disk's meaning. Assumes nothing.
use Rattle.std.specs.Prelude.{◌≡◌, ℕ, zero, suc, Bool, true, false, cond, List, map, length, Some, None, Option, ◌≤◌}
use Rattle.std.specs.List.{slice_get, range_with_len}
use Rattle.keys.specs.KeyName.{KeyName}
use Rattle.disk.specs.Files.{FileState, DiskState, kept}
use Rattle.slots.specs.Told.{told_by}
use Rattle.flat.specs.declared.files.place.Place.{Place}

-- a place past the last has no file, nor has one whose file is neither held nor bound
abbrev pub live : Option FileState → Option FileState
live None = None
live (Some x) = kept x

-- the file of each place
unfoldable pub files_of : List FileState → DiskState
files_of vs = λ f. live (slice_get vs f)

-- the file in a place
abbrev pub file_of : Place → FileState
file_of p = p.file

-- the files of a row of places
abbrev pub meaning_of : List Place → DiskState
meaning_of xs = files_of (map file_of xs)

-- the number that a place is looked up by
abbrev pub number_of : Place → ℕ
number_of p = p.number

abbrev pub numbers : List Place → List ℕ
numbers xs = map number_of xs

-- each place has the number of its index, so there are eight
abbrev pub InOrder : List Place → Type 0
InOrder xs = numbers xs ≡ range_with_len 0 8

-- the key of a file, if it is there and has one
abbrev pub key_in : Option FileState → Option KeyName
key_in None = None
key_in (Some x) = x.key

-- both are the key q, for some q
abbrev pub Shared : Option KeyName → Option KeyName → Type 0
Shared o p = (q : KeyName) × (o ≡ Some q) × (p ≡ Some q)

-- no two files have one key
abbrev pub Distinct : DiskState → Type 0
Distinct s = (f g : ℕ) → Shared (key_in (s f)) (key_in (s g)) → f ≡ g

-- no file has more mutations covered than have landed
abbrev pub Covered : DiskState → Type 0
Covered s = (f : ℕ) (x : FileState) → s f ≡ Some x → x.k ≤ x.n

-- no file has more than 4,096 bytes
abbrev pub Within : DiskState → Type 0
Within s = (f : ℕ) (x : FileState) → s f ≡ Some x → length x.bytes ≤ 4096

-- what holds of the files at all times
pub record Sound (s : DiskState) : Type 0 where
  pub distinct : Distinct s
  pub covered : Covered s
  pub within : Within s

-- the first number from i on, of m numbers, whose file passes a test
unfoldable pub first_from : (Option FileState → Bool) → DiskState → ℕ → ℕ → Option ℕ
first_from test s i zero = None
first_from test s i (suc m) = cond (test (s i)) (Some i) (first_from test s (suc i) m)

-- whether there is a file bound to a key that is told
abbrev pub bound_by : (KeyName → Bool) → Option FileState → Bool
bound_by tells o = told_by tells (key_in o)

-- whether a number is free
abbrev pub is_free : Option FileState → Bool
is_free None = true
is_free (Some x) = false
