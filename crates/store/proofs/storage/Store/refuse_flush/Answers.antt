use Rattle.std.proofs.Common.{Err, ap, ◌∙◌}
use Rattle.faults.specs.declared.store.Failure.TheVariants.{Sync}
use Rattle.faults.specs.declared.store.Fault.TheVariants.{BlobSyncFailed}
use Rattle.rules.specs.State.{State}
use Rattle.rules.specs.Ends.{change, end_rule}
use Rattle.rules.specs.Finishes.{keep}
use Rattle.store.proofs.Programs.{runs_at}
use Rattle.store.proofs.storage.Store.refuse_flush.Goals as goal

pub returns : goal.returns
returns g c =
    let n = c.args.found.now.number in
    let f = c.args.fault in
    runs_at g.D.Disk.did (λ (t : State). end_rule t n (Err (BlobSyncFailed f))) _ _ _ (c.keep.ensures ∙ ap (λ (t : State). change t n (keep (Sync f))) c.fail.ensures) c.refuse.ensures
