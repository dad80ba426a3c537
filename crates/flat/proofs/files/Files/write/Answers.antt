use Rattle.std.proofs.Common.{◌≡◌, ◌<◌, length, get_or, Ok, rules}
use Rattle.disk.specs.Paths.{durable}
use Rattle.faults.specs.Kinds.{failed}
use Rattle.slots.specs.FileSteps.{write_answer, after_write}
use Rattle.flat.specs.Places.{meaning_of}
use Rattle.flat.specs.Found.{HeldAt}
use Rattle.flat.specs.Lifts.{edits}
use Rattle.flat.specs.Keeps.{keeps_write}
use Rattle.flat.proofs.files.Files.write.Goals as goal

pub returns : goal.returns
returns c =
    let xs = c.args.self.now.slots in
    let i = c.in_ok-i.i in
    let d = c.index-slots-i.result in
    let p : HeldAt (meaning_of xs) c.args.file (Ok i) = search rules in
    let h : i < length xs = search rules in
    let x = (get_or xs i d).file in
    let b = c.args.bytes.now in
    let o = c.args.offset in
    let w = durable c.args.path in
    let r = c.write.result in
    let v : r ≡ write_answer o (length b) w c.args.limit x = cc in
    let y : c.write.new.self ≡ after_write o b w x r = cc in
    edits xs c.args.file i d p h failed (write_answer o (length b) w c.args.limit) (after_write o b w) r _ v y (keeps_write o b w x r).1
