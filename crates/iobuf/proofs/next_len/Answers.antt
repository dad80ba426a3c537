use Rattle.std.proofs.Common.{ℕ, rules, tests, ◌≡◌, ◌-◌, not, ◌==◌, take, arith, lit<}
use Rattle.std.specs.List.{fold}
use Rattle.std.proofs.lemmas.Iterator.{YieldsList-from_slice, YieldsList-from_take}
use Rattle.std.proofs.lemmas.Iterator.Consumers.{YieldsList-at, YieldsList-from_filter, YieldsList-from_scan, fold_from_yields_List}
use Rattle.rules.specs.Chunks.{batch}
use Rattle.iobuf.proofs.Ahead.{parts, sum_parts, up_to, fold_up_to, ahead_some}
use Rattle.iobuf.proofs.next_len.Goals as goal

-- the largest number of 64 bits
abbrev most : ℕ
most = 18446744073709551615

pub returns : goal.returns
returns c =
    let given = parts c.args.lengths.now c.args.landed in
    let folded : c.fold.result ≡ fold (up_to most) 0 (take batch given) =
    fold_from_yields_List _ (up_to most) 0 _ c.fold.ensures.ran
    (YieldsList-from_take batch
    (YieldsList-at c.take.ensures.source
    (YieldsList-from_filter _ (λ n. not (n == 0))
    (YieldsList-at c.filter.ensures.source
    (YieldsList-from_scan _ (λ d n. d - n) (λ d n. n - d) c.args.landed
    (YieldsList-at c.scan.ensures.source (YieldsList-from_slice c.args.lengths.now cc))
    c.scan.ensures.state c.scan.ensures.closure (λ b x r q d k. search (rules, tests))))
    c.filter.ensures.closure (λ x b q k. search (rules, tests))))
    c.take.ensures.count)
    (λ a x b q k. search (rules, tests)) in
    let added = fold_up_to most 0 (take batch given) (omega arith) in
    let summed = sum_parts batch c.args.lengths.now c.args.landed in
    record {
      value = omega arith;
      progress = λ whole some. let more = ahead_some batch c.args.lengths.now c.args.landed (lit< tt) (omega arith) in omega arith;
    }
