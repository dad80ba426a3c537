use Rattle.laws.proofs.Barriers.{not_repeated}
use Rattle.laws.proofs.barriers_are_not_repeated.Goals as goal

pub returns : goal.returns
returns c = not_repeated
