use Rattle.std.proofs.Common.{ap, ◌∙◌, not, rules}
use Rattle.std.proofs.lemmas.Fn.{filter_same}
use Rattle.table.specs.Slots.{key_of, value_of}
use Rattle.table.specs.Held.{map_of, apart}
use Rattle.table.proofs.Others as others
use Rattle.table.proofs.table.Table.free_told.Goals as goal

pub invariant_of-self-clause-distinct : goal.invariant_of-self-clause-distinct
invariant_of-self-clause-distinct g c =
    let told = g.T.Tells.told c.args.going.now in
    let kept = filter_same _ (λ s. not (told s.key)) _ (λ s b f t. search rules) _ _ c.retain.ensures.filtered in
    ap (apart g.K.Identity.same key_of) (kept ∙ others.filter_others (λ s. told s.key) _) ∙ others.apart_others g.K.Identity.same g.met.K.Identity.tells key_of told _ c.args.self.now.distinct

pub returns : goal.returns
returns g c =
    let told = g.T.Tells.told c.args.going.now in
    let kept = filter_same _ (λ s. not (told s.key)) _ (λ s b f t. search rules) _ _ c.retain.ensures.filtered in
    ap (map_of g.K.Identity.same key_of value_of) (kept ∙ others.filter_others (λ s. told s.key) _) ∙ others.map_others g.K.Identity.same g.met.K.Identity.tells key_of told value_of _
