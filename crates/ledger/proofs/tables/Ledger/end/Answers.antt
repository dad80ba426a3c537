use Rattle.std.proofs.Common.{◌∙◌, rules}
use Rattle.pending.specs.Of.{entries}
use Rattle.rules.specs.declared.opening.Stage.TheVariants.{Ended}
use Rattle.rules.specs.State.{with_stage}
use Rattle.ledger.specs.Of.{state_of}
use Rattle.ledger.proofs.Changes.{end_waits, end_retires}
use Rattle.ledger.proofs.tables.Ledger.end.Goals as goal

pub returns-then-opened-gt0-clause-after : goal.returns-then-opened-gt0-clause-after
returns-then-opened-gt0-clause-after c =
    c.change.ensures (λ a. with_stage a Ended) (λ a b h. search rules)
    ∙ end_waits (state_of c.args.self.now) c.args.number c.in_ok-opened.opened (search rules) (entries c.register.new.self) c.register.ensures c.if-opened-gt0.true

pub returns-clause-after : goal.returns-clause-after
returns-clause-after c =
    c.retire.ensures ∙ end_retires (state_of c.args.self.now) c.args.number c.in_ok-opened.opened (search rules) (entries c.register.new.self) c.register.ensures c.if-opened-gt0.false
