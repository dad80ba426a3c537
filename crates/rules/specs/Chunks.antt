-- How lengths cut a body into chunks, and how much of it the next submission takes. Assumes nothing.
use Rattle.std.specs.Prelude.{ℕ, zero, suc, ◌+◌, ◌-◌, Bool, cond, ◌&&◌, List, [], ◌∷◌, length, take, drop, ◌==◌, nat_le}

-- how many chunks there are: those of the rest, and one more unless the first length is 0
abbrev pub chunks : List ℕ → ℕ
chunks [] = 0
chunks (l ∷ ls) = cond (l == 0) 0 1 + chunks ls

abbrev pub total : List ℕ → ℕ
total [] = 0
total (l ∷ ls) = l + total ls

-- the most chunks that one submission takes
abbrev pub batch : ℕ
batch = 1024

-- how many bytes the next c chunks have once `landed` bytes are down; a chunk of which a part is down counts as one
abbrev pub ahead : ℕ → List ℕ → ℕ → ℕ
ahead c [] landed = 0
ahead zero (l ∷ ls) landed = 0
ahead (suc c) (l ∷ ls) landed = cond (nat_le l landed) (ahead (suc c) ls (landed - l)) (l - landed + ahead c ls 0)

-- the bytes of the next submission
abbrev pub next_bytes : List ℕ → List ℕ → ℕ → List ℕ
next_bytes body lengths landed = take (ahead batch lengths landed) (drop landed body)

-- a header is within its limit
abbrev pub header_ok : ℕ → Bool
header_ok size = nat_le size 4096

-- a body and its lengths are within their limits, and the lengths add up to the body
abbrev pub sizes_ok : ℕ → List ℕ → Bool
sizes_ok size lengths = nat_le (length lengths) 4096 && (nat_le size 16777216 && total lengths == size)
