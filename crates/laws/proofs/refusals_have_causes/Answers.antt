use Rattle.laws.proofs.refusals_have_causes.Goals as goal
use Rattle.laws.proofs.Laws.{refusals_have_causes_lem}

pub returns : goal.returns
returns g c = refusals_have_causes_lem g.D.Disk.did
