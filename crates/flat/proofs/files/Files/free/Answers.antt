use Rattle.std.proofs.Common.{rules}
use Rattle.flat.specs.Firsts.{first_free_place}
use Rattle.flat.proofs.files.Files.free.Goals as goal

pub returns-clause-value : goal.returns-clause-value
returns-clause-value c = first_free_place c.args.self.now.slots _ c.args.self.now.order (search rules)
