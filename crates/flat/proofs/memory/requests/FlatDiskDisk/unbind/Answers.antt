use Rattle.flat.specs.Sounds.{unbind_leaves, still_sound}
use Rattle.flat.proofs.memory.requests.FlatDiskDisk.unbind.Goals as goal

pub invariant_of-self-2 : goal.invariant_of-self-2
invariant_of-self-2 c = record { sound = still_sound (unbind_leaves _ _ _ _ c.unbind.ensures) c.args.self.now.sound }
