use Rattle.laws.proofs.numbers_are_new.Goals as goal
use Rattle.laws.proofs.Laws.{numbers_are_new_lem}

pub returns : goal.returns
returns g c = numbers_are_new_lem g.D.Disk.did
