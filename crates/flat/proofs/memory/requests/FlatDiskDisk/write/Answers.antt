use Rattle.disk.specs.Paths.{durable}
use Rattle.flat.specs.Sounds.{write_leaves, still_sound}
use Rattle.flat.proofs.memory.requests.FlatDiskDisk.write.Goals as goal

pub invariant_of-self-2 : goal.invariant_of-self-2
invariant_of-self-2 c = record { sound = still_sound (write_leaves _ _ _ c.args.offset c.args.bytes.now (durable c.args.path) c.in_ok-limit.limit _ c.write.ensures) c.args.self.now.sound }
