use Rattle.std.proofs.Common.{sym, refl, ap, ◌∙◌}
use Rattle.std.specs.Option.{option_map}
use Rattle.table.specs.Maps.{put}
use Rattle.table.specs.Slots.{key_of, value_of}
use Rattle.table.specs.Of.{map}
use Rattle.table.proofs.Entries as entries
use Rattle.table.proofs.table.Table.replace.Goals as goal

pub invariant_of-self-clause-distinct : goal.invariant_of-self-clause-distinct
invariant_of-self-clause-distinct g c =
    entries.apart_change g.K.Identity.same g.met.K.Identity.tells key_of _ _ _ _ _ c.in-Some.ensures c.index_mut.ensures.value refl c.args.self.now.distinct

pub returns-in-Some : goal.returns-in-Some
returns-in-Some g c =
    entries.map_change g.K.Identity.same g.met.K.Identity.tells key_of value_of _ _ _ _ _ c.in-Some.ensures c.index_mut.ensures.value refl
    ∙ ap (λ o. put g.K.Identity.same (map c.args.self.now) c.args.key.now (option_map (λ _. c.args.value) o)) (sym (entries.at_found g.K.Identity.same g.met.K.Identity.tells key_of value_of _ _ _ _ c.in-Some.ensures c.index_mut.ensures.value))

pub returns-in_default : goal.returns-in_default
returns-in_default g c =
    entries.map_none g.K.Identity.same g.met.K.Identity.tells key_of value_of _ _ c.in_default.ensures
    ∙ ap (λ o. put g.K.Identity.same (map c.args.self.now) c.args.key.now (option_map (λ _. c.args.value) o)) (sym (entries.at_absent g.K.Identity.same g.met.K.Identity.tells key_of value_of _ _ c.in_default.ensures))
