use Rattle.std.proofs.Common.{◌+◌, length}
use Rattle.roll.proofs.open_sheet.OpenSheet.write.Given as goal

-- each turn lands a byte or loses patience
abbrev pub decreases-loop-rest : goal.decreases-loop-rest
decreases-loop-rest g l = length l.rest + l.patience
