use Rattle.disk.proofs.Follows.{pages_hold}
use Rattle.disk.proofs.pages.follows_pages.Goals as goal

pub returns : goal.returns
returns c = pages_hold
