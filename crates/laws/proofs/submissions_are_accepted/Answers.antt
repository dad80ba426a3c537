use Rattle.laws.proofs.Buffers.{accepted}
use Rattle.laws.proofs.submissions_are_accepted.Goals as goal

pub returns : goal.returns
returns c = accepted
