-- What a value of the flat disk stands for, and what it did when it was asked. Assumes nothing.
use Rattle.std.specs.Prelude.{◌≡◌}
use Rattle.disk.specs.Files.{DiskState}
use Rattle.disk.specs.Requests.{Request, Answer}
use Rattle.slots.specs.Plans.{rest}
use Rattle.flat.specs.Places.{meaning_of}
use Rattle.flat.specs.Steps.{Flat, step}
use Rattle.flat.specs.declared.memory.FlatDisk.{FlatDisk}

-- the files of a disk by number
abbrev pub flat_meaning : FlatDisk → DiskState
flat_meaning d = meaning_of d.files.slots

-- and with what is left of its plan
abbrev pub flat_of : FlatDisk → Flat
flat_of d = record { files = flat_meaning d; plan = rest d.plan }

-- the answer, and the disk after it, are what the step says: nothing is left open
abbrev pub FlatDid : FlatDisk → (q : Request) → Answer q → FlatDisk → Type 0
FlatDid d q a e = ◌≡◌ {A = Answer q × Flat} (a, flat_of e) (step (flat_of d) q)
