-- The table's rule is shown apart from the code, which does nothing.
use Rattle.cases.proofs.Same.{cases_play}
use Rattle.cases.proofs.cases_hold.Goals as goal

pub returns : goal.returns
returns c = cases_play
