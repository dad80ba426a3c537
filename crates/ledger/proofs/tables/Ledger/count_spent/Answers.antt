use Rattle.std.proofs.Common.{◌-◌, ◌∙◌, rules}
use Rattle.rules.specs.State.{with_out}
use Rattle.ledger.specs.Of.{state_of}
use Rattle.ledger.proofs.Changes.{spent_counted}
use Rattle.ledger.proofs.tables.Ledger.count_spent.Goals as goal

pub returns-then-not-is_last_out-clause-after : goal.returns-then-not-is_last_out-clause-after
returns-then-not-is_last_out-clause-after c =
    c.change.ensures (λ a. with_out a (a.out - 1)) (λ a b h. search rules)
    ∙ spent_counted (state_of c.args.self.now) c.args.number c.in_ok-opened.opened (search rules) (search rules)
