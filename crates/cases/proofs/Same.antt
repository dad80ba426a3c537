-- Each case of the table, replayed, is itself. antt computes both and compares them. Assumes nothing.
use Rattle.std.proofs.Common.{◌≡◌, refl, subst}
use Rattle.keys.specs.KeyName.{same_key}
use Rattle.cases.specs.Scripts.{AllPlay}
use Rattle.cases.specs.Table.{cases}
use Rattle.cases.proofs.Replay.{replay_all, all_play}

same : replay_all cases ≡ cases
unfolding cases same_key
same = refl

pub cases_play : AllPlay cases
cases_play = subst AllPlay same (all_play cases)
