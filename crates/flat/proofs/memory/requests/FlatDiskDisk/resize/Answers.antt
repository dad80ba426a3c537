use Rattle.flat.specs.Sounds.{resize_leaves, still_sound}
use Rattle.flat.proofs.memory.requests.FlatDiskDisk.resize.Goals as goal

pub invariant_of-self-2 : goal.invariant_of-self-2
invariant_of-self-2 c = record { sound = still_sound (resize_leaves _ _ _ _ _ c.resize.ensures) c.args.self.now.sound }
