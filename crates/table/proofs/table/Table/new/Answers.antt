use Rattle.table.specs.Slots.{key_of, value_of}
use Rattle.table.proofs.Entries as entries
use Rattle.table.proofs.table.Table.new.Goals as goal

pub invariant_of-result-clause-distinct : goal.invariant_of-result-clause-distinct
invariant_of-result-clause-distinct g c = entries.apart_none g.K.Identity.same g.met.K.Identity.tells key_of _ c.in_ok-items.ensures.items

pub returns : goal.returns
returns g c = entries.map_empty g.K.Identity.same g.met.K.Identity.tells key_of value_of _ c.in_ok-items.ensures.items
