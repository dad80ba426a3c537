-- Which bytes are a partition, and which a name. Assumes nothing.
use Rattle.std.specs.Prelude.{ℕ, Bool, ◌&&◌, ◌||◌, List, length, ◌==◌, nat_le}
use Rattle.std.specs.List.{list_all}

-- a letter, a digit, - or _
abbrev pub plain : ℕ → Bool
plain b = (nat_le 97 b && nat_le b 122) || ((nat_le 65 b && nat_le b 90) || ((nat_le 48 b && nat_le b 57) || (b == 45 || b == 95)))

abbrev pub all_plain : List ℕ → Bool
all_plain p = list_all plain p

abbrev pub partition_ok : List ℕ → Bool
partition_ok p = nat_le 1 (length p) && (nat_le (length p) 32 && all_plain p)

abbrev pub name_ok : List ℕ → Bool
name_ok n = nat_le 1 (length n) && nat_le (length n) 64
