-- The slots of a table. Assumes nothing.
use Rattle.std.specs.Prelude.{◌≡◌, Bool, true, List}
use Rattle.table.specs.declared.slot.Slot.{Slot}
use Rattle.table.specs.Held.{apart}

abbrev pub key_of : {K V : Type 0} → Slot K V → K
key_of s = s.key

abbrev pub value_of : {K V : Type 0} → Slot K V → V
value_of s = s.value

-- no two slots have one key
abbrev pub Distinct : {K V : Type 0} → (K → K → Bool) → List (Slot K V) → Type 0
Distinct same xs = apart same key_of xs ≡ true
