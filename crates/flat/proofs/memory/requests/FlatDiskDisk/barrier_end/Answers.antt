use Rattle.flat.specs.Sounds.{end_leaves, still_sound}
use Rattle.flat.proofs.memory.requests.FlatDiskDisk.barrier_end.Goals as goal

pub invariant_of-self-2 : goal.invariant_of-self-2
invariant_of-self-2 c = record { sound = still_sound (end_leaves _ _ _ _ _ c.reach.ensures) c.args.self.now.sound }
