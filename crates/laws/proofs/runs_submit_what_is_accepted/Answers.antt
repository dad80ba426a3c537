use Rattle.laws.proofs.Transfers.{runs_accepted}
use Rattle.laws.proofs.runs_submit_what_is_accepted.Goals as goal

pub returns : goal.returns
returns c = runs_accepted
