use Rattle.std.proofs.Common.{refl}
use Rattle.keys.specs.KeyName.{same_key}
use Rattle.keys.specs.Laws.{same_key_tells}
use Rattle.table.proofs.Entries.{change_still}
use Rattle.pending.specs.Of.{entries, settling}
use Rattle.pending.proofs.entries.Pending.settle.Goals as goal

pub returns-in_default : goal.returns-in_default
returns-in_default c = change_still same_key same_key_tells (entries c.args.self.now) c.args.key.now (settling c.args.ended c.args.opening c.args.tracker.now) c.in_default.ensures refl
