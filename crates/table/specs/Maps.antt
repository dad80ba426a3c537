-- A table as a map from keys to values, with the keys that have a place, in the order in which they got it. Assumes nothing.
use Rattle.std.specs.Prelude.{ℕ, Bool, cond, ◌||◌, List, [], ◌∷◌, ◌++◌, length, is_some, Some, None, Option, nat_lt}
use Rattle.std.specs.Map.{update}

pub record Map (K X : Type 0) : Type 0 where
  pub at : K → Option X
  pub keys : List K

-- how many places are taken
abbrev pub taken : {K X : Type 0} → Map K X → ℕ
taken m = length m.keys

-- whether k has a place or gets one, where there are n places
abbrev pub fits : {K X : Type 0} → ℕ → Map K X → K → Bool
fits n m k = is_some (m.at k) || nat_lt (taken m) n

-- the keys that are not told
abbrev pub others : {K : Type 0} → (K → Bool) → List K → List K
others tells [] = []
others tells (k ∷ ks) = cond (tells k) (others tells ks) (k ∷ others tells ks)

-- the keys, once what one of them has is changed: a new one comes last
abbrev pub rekeyed : {K X : Type 0} → (K → K → Bool) → List K → K → Option X → Option X → List K
rekeyed same ks k None None = ks
rekeyed same ks k None (Some y) = ks ++ (k ∷ [])
rekeyed same ks k (Some x) None = others (same k) ks
rekeyed same ks k (Some x) (Some y) = ks

-- the map that has w at k, and is as m everywhere else
abbrev pub put : {K X : Type 0} → (K → K → Bool) → Map K X → K → Option X → Map K X
put same m k w = record { at = update same m.at k w; keys = rekeyed same m.keys k (m.at k) w }

-- the map without the keys that are told
abbrev pub without : {K X : Type 0} → (K → Bool) → Map K X → Map K X
without tells m = record { at = λ k. cond (tells k) None (m.at k); keys = others tells m.keys }

abbrev pub none : {K X : Type 0} → Map K X
none = record { at = λ _. None; keys = [] }
