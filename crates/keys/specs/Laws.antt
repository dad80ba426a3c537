-- Keys are the same when their bytes are. Assumes nothing.
use Rattle.std.proofs.Common.{◌≡◌, Decides, refl, ap, inl, inr, ⊎_elim}
use Rattle.std.proofs.lemmas.Slice.Eq.{bytes_eq-Decides}
use Rattle.std.proofs.lemmas.Bool.Decides.{Decides-and, Decides-like, not_from_Decides}
use Rattle.std.proofs.lemmas.Bool.{cases_Bool}
use Rattle.std.specs.Cmp.{IsPartialEquivalence, IsEquivalence, equiv}
use Rattle.std.specs.Cmp.Rules.{comparing}
use Rattle.std.proofs.Common.{rules}
use Rattle.table.specs.Held.{TellsApart}
use Rattle.keys.specs.KeyName.{KeyName, same_key}

pub key_from : (a b : KeyName) → a.partition ≡ b.partition → a.name ≡ b.name → a ≡ b
key_from a b p n i = record { partition = p i; name = n i }

pub same_key_decides : (a b : KeyName) → Decides (same_key a b) (a ≡ b)
unfolding same_key
same_key_decides a b =
    Decides-like _ (λ e. key_from a b e.0 e.1) (λ e. (ap (λ k. k.partition) e, ap (λ k. k.name) e))
    (Decides-and _ _ (bytes_eq-Decides a.partition b.partition) (bytes_eq-Decides a.name b.name))

pub same_key_tells : TellsApart same_key
same_key_tells a b = ⊎_elim (λ t. inl (t, (same_key_decides a b).0 t)) (λ f. inr (f, not_from_Decides _ (same_key_decides a b) f)) (cases_Bool (same_key a b))

-- keys are compared as equality is: both ways round, and along a chain
pub same_key_laws : IsPartialEquivalence same_key
unfolding same_key
same_key_laws = search (comparing, rules)

-- and of a key and itself
pub same_key_equivalence : IsEquivalence same_key
same_key_equivalence = equiv same_key_laws (λ a. (same_key_decides a a).1 refl)
