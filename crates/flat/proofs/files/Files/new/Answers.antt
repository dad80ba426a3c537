use Rattle.std.proofs.Common.{◌<◌, arith, rules}
use Rattle.flat.specs.Lifts.{in_each, vacant}
use Rattle.flat.proofs.files.Files.new.Goals as goal

pub returns : goal.returns
returns c =
    let xs = c.from_fn.result in
    vacant xs (in_each _ xs (λ i d h. let l : i < 8 = omega (arith, c.from_fn.ensures.items.long) in let made = c.from_fn.ensures.items.at i d l in search rules))
