use Rattle.std.proofs.Common.{◌<◌, map, length, sym, refl, ap, ◌∙◌, arith, rules}
use Rattle.std.proofs.lemmas.List.{length-map}
use Rattle.slots.specs.Told.{forgot}
use Rattle.flat.specs.Places.{file_of}
use Rattle.flat.specs.RowsLemmas.{order_set}
use Rattle.flat.specs.Forgets.{forget_more}
use Rattle.flat.proofs.files.Files.forget.Goals as goal

pub loop-place-preserved : goal.loop-place-preserved
loop-place-preserved g c =
    let going = g.T.Tells.told c.args.going.now in
    let xs = c.args.self.now.slots in
    let i = c.loop-place.place-index in
    let cur = c.loop-place.place-items in
    let s = c.place-item.result in
    let l : i < length cur = search rules in
    let h : i < length (map file_of xs) = let n = length-map xs file_of in omega arith in
    let inv = c.loop-place.invariant in
    (forget_more going (map file_of xs) cur i s _ inv.0 h l c.place-item.is (c.forget.ensures ∙ ap (λ z. forgot going z.file) (sym c.place-item.is)), order_set cur i s _ inv.1 l refl)
