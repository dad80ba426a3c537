use Rattle.std.proofs.Common.{◌≡◌, ◌+◌, drop}
use Rattle.rules.specs.Chunks.{total}
use Rattle.iobuf.proofs.add_up.Given as goal

-- what is left of the size is to be what is left of the lengths
abbrev pub invariant-loop-length : goal.invariant-loop-length
invariant-loop-length l = l.size + total (drop l.length-index l.lengths) ≡ l.rest + total l.lengths
