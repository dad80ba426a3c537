-- Keys as their bytes. Assumes nothing.
use Rattle.std.specs.Prelude.{ℕ, Bool, ◌&&◌, List}
use Rattle.std.specs.Str.{bytes_eq}

-- a key is the bytes of its partition and of its name
pub record KeyName : Type 0 where
  pub partition : List ℕ
  pub name : List ℕ

-- whether two keys are the same
unfoldable pub same_key : KeyName → KeyName → Bool
same_key a b = bytes_eq a.partition b.partition && bytes_eq a.name b.name

-- whether a key is of the partition p
abbrev pub in_partition : List ℕ → KeyName → Bool
in_partition p q = bytes_eq q.partition p
