use Rattle.std.proofs.Common.{◌≡◌, get_or, vec_items}
use Rattle.std.specs.List.{remove}
use Rattle.table.specs.Slots.{key_of, value_of}
use Rattle.table.proofs.Entries as entries
use Rattle.table.proofs.table.Table.free.Goals as goal

pub invariant_of-self-clause-distinct : goal.invariant_of-self-clause-distinct
invariant_of-self-clause-distinct g c = entries.apart_taken g.K.Identity.same g.met.K.Identity.tells key_of _ _ _ c.remove.ensures.items c.args.self.now.distinct

pub returns-in-Some : goal.returns-in-Some
returns-in-Some g c =
    let was = vec_items c.args.self.now.items in
    let gone : vec_items c.remove.new.self ≡ remove was c.in-Some.i = cc in
    let here : c.remove.result ≡ get_or was c.in-Some.i c.remove.result = cc in
    entries.map_removed g.K.Identity.same g.met.K.Identity.tells key_of value_of _ _ _ _ _ gone c.in-Some.ensures here c.args.self.now.distinct

pub returns-in_default : goal.returns-in_default
returns-in_default g c = entries.map_none g.K.Identity.same g.met.K.Identity.tells key_of value_of _ _ c.in_default.ensures
