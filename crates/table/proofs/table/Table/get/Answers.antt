use Rattle.std.proofs.Common.{◌≡◌, get_or, vec_items, sym, ◌∙◌}
use Rattle.table.specs.Slots.{key_of, value_of}
use Rattle.table.proofs.Entries as entries
use Rattle.table.proofs.table.Table.get.Goals as goal

pub returns-in_err-i : goal.returns-in_err-i
returns-in_err-i g c = c.from_residual.ensures ∙ sym (entries.at_absent g.K.Identity.same g.met.K.Identity.tells key_of value_of _ _ c.in_err-i.ensures)

pub returns : goal.returns
returns g c =
    let x = c.index.result.now in
    let here : x ≡ get_or (vec_items c.args.self.now.items) c.in_ok-i.i x = cc in
    sym (entries.at_found g.K.Identity.same g.met.K.Identity.tells key_of value_of _ _ _ _ c.in_ok-i.ensures here)
