-- Remove, of a name and of a partition. Assumes nothing.
use Rattle.std.specs.Prelude.{ℕ, cond, List, Some, None, Ok, Err, Option, Result, ◌==◌}
use Rattle.faults.specs.Numbers.{code}
use Rattle.faults.specs.Kinds.{WriteFault, UnbindFault}
use Rattle.faults.specs.declared.store.Fault.{Fault}
use Rattle.faults.specs.declared.store.Fault.TheVariants.{PartitionNameInvalid, BlobNameInvalid, Io, BlobMissing, PartitionMissing}
use Rattle.keys.specs.KeyName.{KeyName, in_partition}
use Rattle.keys.specs.Names.{partition_ok, name_ok}
use Rattle.table.specs.Maps.{without}
use Rattle.disk.specs.Requests.{ask_unbind, ask_unbind_partition, ask_flush_directory, ask_flush_root}
use Rattle.rules.specs.State.{State, with_name, with_names}
use Rattle.rules.specs.Tree.{Prog, done, ask}
use Rattle.rules.specs.Opens.{unless}

abbrev pub Out : Type 0
Out = Result (Unit {0}) Fault × State

-- the name is forgotten already when its directory is flushed
abbrev pub removal_flushed : State → Result (Unit {0}) WriteFault → Prog Out
removal_flushed s (Ok u) = done (Ok tt, s)
removal_flushed s (Err e) = done (Err (Io e.0), s)

-- ---- a name

abbrev pub forget_name : State → KeyName → State
forget_name s q = with_name s q None

abbrev pub name_unbound : State → KeyName → Result (Unit {0}) UnbindFault → Prog Out
name_unbound s q (Ok u) = ask (ask_flush_directory q.partition) (removal_flushed (forget_name s q))
name_unbound s q (Err e) = done (Err BlobMissing, s)

abbrev pub remove_name_checked : State → KeyName → Option Fault → Prog Out
remove_name_checked s q (Some f) = done (Err f, s)
remove_name_checked s q None = ask (ask_unbind q) (name_unbound s q)

abbrev pub remove_name_rule : State → KeyName → Prog Out
remove_name_rule s q =
    remove_name_checked s q (unless (partition_ok q.partition) PartitionNameInvalid (unless (name_ok q.name) BlobNameInvalid None))

-- ---- a partition

abbrev pub forget_partition : State → List ℕ → State
forget_partition s p = with_names s (without (in_partition p) s.names)

-- a removal that failed forgets nothing, though names may be gone
abbrev pub partition_unbound : State → List ℕ → Result (Unit {0}) UnbindFault → Prog Out
partition_unbound s p (Ok u) = ask ask_flush_root (removal_flushed (forget_partition s p))
partition_unbound s p (Err e) = done (Err (cond (code e.0 == 2) PartitionMissing (Io e.0)), s)

abbrev pub remove_partition_checked : State → List ℕ → Option Fault → Prog Out
remove_partition_checked s p (Some f) = done (Err f, s)
remove_partition_checked s p None = ask (ask_unbind_partition p) (partition_unbound s p)

abbrev pub remove_partition_rule : State → List ℕ → Prog Out
remove_partition_rule s p = remove_partition_checked s p (unless (partition_ok p) PartitionNameInvalid None)
