use Rattle.laws.proofs.Reaches.{reach_kept}
use Rattle.laws.proofs.tickets_stay_within_reach.Goals as goal

pub returns : goal.returns
returns c = reach_kept
