-- The bytes of a short text, and how they lie in its memory. Assumes nothing.
use Rattle.std.specs.Prelude.{ℕ, ◌-◌, List, ◌++◌, take, length, replicate}

-- the first of the bytes
abbrev pub text : ℕ → List ℕ → List ℕ
text len bytes = take len bytes

-- a text with zeros behind it
abbrev pub padded : ℕ → List ℕ → List ℕ
padded room v = v ++ replicate (room - length v) 0
