use Rattle.std.proofs.Common.{Err}
use Rattle.faults.specs.declared.store.Fault.TheVariants.{Io}
use Rattle.rules.specs.State.{State}
use Rattle.rules.specs.Ends.{end_rule}
use Rattle.store.proofs.Programs.{runs_at}
use Rattle.store.proofs.storage.Store.refuse_header.Goals as goal

pub returns : goal.returns
returns g c = runs_at g.D.Disk.did (λ (t : State). end_rule t c.args.number (Err (Io c.args.fault))) _ _ _ c.fail.ensures c.refuse.ensures
