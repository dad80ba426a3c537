use Rattle.flat.specs.Sounds.{close_leaves, still_sound}
use Rattle.flat.proofs.memory.requests.FlatDiskDisk.close.Goals as goal

pub invariant_of-self : goal.invariant_of-self
invariant_of-self c = record { sound = still_sound (close_leaves _ _ _ c.close.ensures) c.args.self.now.sound }
