use Rattle.std.proofs.Common.{rules}
use Rattle.ledger.proofs.tables.Ledger.set_account.Goals as goal

pub returns : goal.returns
returns c = c.change.ensures (λ _. c.args.account) (λ a b h. search rules)
