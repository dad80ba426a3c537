-- The map that a list of elements stands for, by the key of each. Assumes nothing.
use Rattle.std.specs.Prelude.{◌≡◌, Bool, true, false, cond, not, ◌&&◌, ◌⊎◌, List, [], ◌∷◌, map, is_some, Some, None, Option, ◌≢◌}
use Rattle.std.specs.Option.{option_map}
use Rattle.table.specs.Maps.{Map}

-- the first element with the key k
unfoldable pub held : {X K : Type 0} → (K → K → Bool) → (X → K) → List X → K → Option X
held same id [] k = None
held same id (x ∷ xs) k = cond (same k (id x)) (Some x) (held same id xs k)

-- no two elements have one key
unfoldable pub apart : {X K : Type 0} → (K → K → Bool) → (X → K) → List X → Bool
apart same id [] = true
apart same id (x ∷ xs) = not (is_some (held same id xs (id x))) && apart same id xs

-- `same` tells whether two keys are equal
abbrev pub TellsApart : {K : Type 0} → (K → K → Bool) → Type 0
TellsApart {K} same = (a b : K) → ((same a b ≡ true) × (a ≡ b)) ⊎ ((same a b ≡ false) × (a ≢ b))

-- each key has the value of its element, and the keys stand in the order of the elements
abbrev pub map_of : {X K Y : Type 0} → (K → K → Bool) → (X → K) → (X → Y) → List X → Map K Y
map_of same id value xs = record { at = λ k. option_map value (held same id xs k); keys = map id xs }
