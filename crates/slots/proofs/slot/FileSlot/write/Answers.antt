use Rattle.std.proofs.Common.{sym, refl}
use Rattle.slots.proofs.Lays.{written_none}
use Rattle.slots.proofs.slot.FileSlot.write.Goals as goal

pub returns-then-count-eq0-clause-after : goal.returns-then-count-eq0-clause-after
returns-then-count-eq0-clause-after c = sym (written_none c.args.self.now c.args.offset c.args.bytes.now c.args.durable 0 refl)
