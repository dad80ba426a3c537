use Rattle.laws.proofs.Writes.{begun_within}
use Rattle.laws.proofs.writes_begin_within_reach.Goals as goal

pub returns : goal.returns
returns g c = begun_within g.D.Disk.did
