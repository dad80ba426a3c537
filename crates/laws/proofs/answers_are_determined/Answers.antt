use Rattle.laws.proofs.Determines.{determined}
use Rattle.laws.proofs.answers_are_determined.Goals as goal

pub returns : goal.returns
returns g c = determined g.D.Disk.did
