use Rattle.std.proofs.Common.{refl}
use Rattle.std.specs.Option.{option_map}
use Rattle.keys.specs.KeyName.{same_key}
use Rattle.keys.specs.Laws.{same_key_tells}
use Rattle.table.proofs.Entries.{change_still}
use Rattle.pending.specs.Of.{entries}
use Rattle.pending.proofs.entries.Pending.change.Goals as goal

pub returns-in_default : goal.returns-in_default
returns-in_default g c = λ f h. change_still same_key same_key_tells (entries c.args.self.now) c.args.key.now (option_map f) c.in_default.ensures refl
