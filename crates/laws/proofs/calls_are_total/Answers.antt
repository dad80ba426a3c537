use Rattle.laws.proofs.Totals.{total}
use Rattle.laws.proofs.calls_are_total.Goals as goal

pub returns : goal.returns
returns g c = total g.D.Disk.did
