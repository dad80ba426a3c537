use Rattle.std.proofs.Common.{rules}
use Rattle.flat.specs.Firsts.{first_bound_place}
use Rattle.flat.proofs.files.Files.bound.Goals as goal

pub returns-clause-value : goal.returns-clause-value
returns-clause-value g c = first_bound_place (g.T.Tells.told c.args.by.now) c.args.self.now.slots _ c.args.self.now.order (search rules)
