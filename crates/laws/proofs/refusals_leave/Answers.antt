use Rattle.laws.proofs.refusals_leave.Goals as goal
use Rattle.laws.proofs.Laws.{refusals_leave_lem}

pub returns : goal.returns
returns g c = refusals_leave_lem g.D.Disk.did
