use Rattle.std.proofs.Common.{◌≡◌, ℕ, ◌+◌, ◌<◌, List, length, get_or, drop, arith}
use Rattle.std.proofs.lemmas.Bool.Decides.{nat_tests}
use Rattle.std.proofs.lemmas.List.{at_drop_more, at_drop_all}
use Rattle.rules.specs.Chunks.{total}
use Rattle.iobuf.proofs.add_up.Goals as goal

-- the total of what is left, one length on
on : (xs : List ℕ) (i : ℕ) → i < length xs → total (drop i xs) ≡ get_or xs i 0 + total (drop (i + 1) xs)
on xs i h = at_drop_more total xs i 0 h

pub returns-then-rest-length : goal.returns-then-rest-length
returns-then-rest-length c = let e = on c.args.lengths.now c.loop-length.length-index (omega arith) in grind (arith, nat_tests)

pub loop-length-preserved : goal.loop-length-preserved
loop-length-preserved c = let e = on c.args.lengths.now c.loop-length.length-index (omega arith) in omega (arith, c.loop-length.invariant)

pub returns : goal.returns
returns c =
    let e : total (drop c.loop-length.length-index c.args.lengths.now) ≡ 0 = at_drop_all total c.args.lengths.now c.loop-length.length-index (omega arith) in
    grind (arith, nat_tests)
