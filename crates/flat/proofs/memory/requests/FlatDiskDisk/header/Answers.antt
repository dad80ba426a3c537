use Rattle.flat.specs.Sounds.{header_leaves, still_sound}
use Rattle.flat.proofs.memory.requests.FlatDiskDisk.header.Goals as goal

pub invariant_of-self-2 : goal.invariant_of-self-2
invariant_of-self-2 c = record { sound = still_sound (header_leaves _ _ _ _ _ c.header.ensures) c.args.self.now.sound }
