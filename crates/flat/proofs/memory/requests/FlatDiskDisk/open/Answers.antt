use Rattle.flat.specs.Distinct.{small}
use Rattle.flat.specs.Sounds.{open_leaves, still_sound}
use Rattle.flat.proofs.memory.requests.FlatDiskDisk.open.Goals as goal

pub invariant_of-self-2 : goal.invariant_of-self-2
invariant_of-self-2 c = record { sound = still_sound (open_leaves _ _ _ _ c.open.ensures (small _ c.args.self.now.files.order)) c.args.self.now.sound }
