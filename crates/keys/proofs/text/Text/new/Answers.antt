use Rattle.std.proofs.Common.{◌≡◌, ◌++◌, true, length, take, sym, ap, ◌∙◌, arith}
use Rattle.std.proofs.lemmas.List.{drop-replicate}
use Rattle.std.proofs.lemmas.Grind.{common_steps}
use Rattle.keys.specs.Texts.{padded}
use Rattle.keys.proofs.text.Text.new.Goals as goal

pub invariant_of-result : goal.invariant_of-result
invariant_of-result g c =
    let from = c.args.from.now in
    let ok : g.K.Kind.ok from ≡ true = sym c.ok.ensures ∙ c.if-not-ok.false in
    let laid : c.lay.new.room ≡ padded g.row.N from = c.lay.ensures ∙ ap (λ l. from ++ l) (drop-replicate (length from) g.row.N 0) in
    let text : take (length from) c.lay.new.room ≡ from = grind (arith, common_steps) in
    (ap g.K.Kind.ok text ∙ ok, (g.met.K.Kind.fits from ok).0, ap length (sym text), laid ∙ ap (padded g.row.N) (sym text))
