-- What the checks of a key answer. Assumes nothing.
use Rattle.std.specs.Prelude.{◌≡◌, ℕ, true, false, ◌⊎◌, List, Ok, Err, Result}
use Rattle.faults.specs.declared.store.Fault.{Fault}
use Rattle.faults.specs.declared.store.Fault.TheVariants.{PartitionNameInvalid, BlobNameInvalid}
use Rattle.keys.specs.Names.{partition_ok, name_ok}
use Rattle.keys.specs.declared.key.Key.{Key}

-- the answer to bytes offered as a key: the key of these bytes, or which of the two is wrong, the partition first
abbrev pub KeyCheck : List ℕ → List ℕ → Result Key Fault → Type 0
KeyCheck p n (Ok k) = (partition_ok p ≡ true) × (name_ok n ≡ true) × (k ≡ record { partition = p; name = n })
KeyCheck p n (Err f) =
    ((partition_ok p ≡ false) × (f ≡ PartitionNameInvalid)) ⊎ ((partition_ok p ≡ true) × (name_ok n ≡ false) × (f ≡ BlobNameInvalid))
