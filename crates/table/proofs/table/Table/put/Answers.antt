use Rattle.std.proofs.Common.{◌≤◌, length, vec_items, refl, arith}
use Rattle.table.specs.Slots.{key_of, value_of}
use Rattle.table.proofs.Entries as entries
use Rattle.table.proofs.table.Table.put.Goals as goal

pub invariant_of-self-clause-distinct : goal.invariant_of-self-clause-distinct
invariant_of-self-clause-distinct g c =
    entries.apart_change g.K.Identity.same g.met.K.Identity.tells key_of _ _ _ _ _ c.in-Some.ensures c.index_mut.ensures.value refl c.args.self.now.distinct

pub returns-then-len-clause-fit : goal.returns-then-len-clause-fit
returns-then-len-clause-fit g c =
    let h : g.row.N ≤ length (vec_items c.args.self.now.items) = omega arith in
    entries.fits_none g.K.Identity.same g.met.K.Identity.tells key_of value_of _ _ _ c.in-None.ensures h

pub invariant_of-self-in-None-clause-distinct : goal.invariant_of-self-in-None-clause-distinct
invariant_of-self-in-None-clause-distinct g c =
    entries.apart_pushed g.K.Identity.same g.met.K.Identity.tells key_of _ _ _ c.push_reserved.ensures.items c.args.self.now.distinct c.in-None.ensures

pub returns-in-Some-clause-fit : goal.returns-in-Some-clause-fit
returns-in-Some-clause-fit g c = entries.fits_found g.K.Identity.same g.met.K.Identity.tells key_of value_of _ _ _ _ _ c.in-Some.ensures c.index_mut.ensures.value

pub returns-in-Some-clause-after : goal.returns-in-Some-clause-after
returns-in-Some-clause-after g c = entries.map_change g.K.Identity.same g.met.K.Identity.tells key_of value_of _ _ _ _ _ c.in-Some.ensures c.index_mut.ensures.value refl

pub returns-else-len-clause-after : goal.returns-else-len-clause-after
returns-else-len-clause-after g c = entries.map_push g.K.Identity.same g.met.K.Identity.tells key_of value_of _ _ _ c.push_reserved.ensures.items c.in-None.ensures
