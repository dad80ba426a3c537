use Rattle.std.proofs.Common.{length}
use Rattle.iobuf.proofs.+chunk_count.Given as goal

abbrev pub decreases-chunk_count : goal.decreases-chunk_count
decreases-chunk_count l = length l.lengths.now
