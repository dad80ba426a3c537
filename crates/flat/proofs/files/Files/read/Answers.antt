use Rattle.std.proofs.Common.{◌≡◌, ◌-◌, ◌<◌, min, ◌++◌, length, get_or, take, drop, Ok, rules}
use Rattle.slots.proofs.Outs.{out_got}
use Rattle.faults.specs.Kinds.{failed}
use Rattle.flat.specs.Places.{meaning_of}
use Rattle.flat.specs.Found.{HeldAt}
use Rattle.flat.specs.Lifts.{asks}
use Rattle.flat.proofs.files.Files.read.Goals as goal

pub returns-clause-answer : goal.returns-clause-answer
returns-clause-answer c =
    let xs = c.args.self.now.slots in
    let i = c.in_ok-i.i in
    let d = c.index-self-i.result in
    let p : HeldAt (meaning_of xs) c.args.file (Ok i) = search rules in
    let h : i < length xs = search rules in
    let all = (get_or xs i d).file.bytes in
    let into = c.args.into.now in
    let out = c.read.new.into in
    let o = c.args.offset in
    let n = c.read.result in
    let v : n ≡ min (length into) (length all - o) = cc in
    let a : out ≡ take n (drop o all) ++ drop n into = cc in
    asks xs c.args.file i d p h failed (λ x. take (length into) (drop o x.bytes)) (take n out) (out_got all into o n v out a)
