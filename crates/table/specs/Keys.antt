-- What a search by key answers. Assumes nothing.
use Rattle.std.specs.Prelude.{◌≡◌, ℕ, ◌<◌, List, length, Some, None, Option, ◌≢◌}
use Rattle.std.specs.List.{HoldsAt, AllWithin}

-- none of the first k elements has the key n
abbrev pub Without : {X K : Type 0} → (X → K) → List X → K → ℕ → Type 0
Without id xs n k = AllWithin (λ x. id x ≢ n) xs 0 k

-- the answer to the search for n: the first place of n, or that there is none
abbrev pub Place : {X K : Type 0} → (X → K) → List X → K → Option ℕ → Type 0
Place id xs n None = Without id xs n (length xs)
Place id xs n (Some i) = (i < length xs) × HoldsAt (λ x. id x ≡ n) xs i × Without id xs n i
