-- What the search for a held file answers. Assumes nothing.
use Rattle.std.specs.Prelude.{◌≡◌, ℕ, ◌<◌, Ok, Err, Result, None, Some}
use Rattle.faults.specs.declared.disk.DiskFault.{DiskFault}
use Rattle.disk.specs.Files.{FileState, DiskState}
use Rattle.slots.specs.Codes.{not_held}
use Rattle.slots.specs.FileSteps.{held}

-- the place of the file f, which is its number, where it is held; else code 9
abbrev pub HeldAt : DiskState → ℕ → Result ℕ DiskFault → Type 0
HeldAt s f (Err e) = (held (s f) ≡ None) × (e ≡ not_held)
HeldAt s f (Ok i) = (i ≡ f) × (i < 8) × ((x : FileState) × (s f ≡ Some x) × (0 < x.holds))
