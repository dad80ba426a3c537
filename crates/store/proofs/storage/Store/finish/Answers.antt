use Rattle.std.proofs.Common.{sym, ◌∙◌}
use Rattle.store.specs.Of.{answered, ready_of, state}
use Rattle.store.proofs.Spends.{by_entry_spends, left_answered}
use Rattle.store.proofs.storage.Store.finish.Goals as goal

pub returns-clause-token : goal.returns-clause-token
returns-clause-token g c =
    let s = state c.args.self.now in
    let n = c.args.owing.now.number in
    let f = c.in_ok-found.field-0 in
    let r = c.finish_by_entry.result in
    c.spend.ensures ∙ sym (sym (left_answered ready_of n r) ∙ by_entry_spends g.D.Disk.did n _ (answered ready_of r) _ s f.number f.opening (s.names.at f.opening.key) _ c.finish_by_entry.ensures)
