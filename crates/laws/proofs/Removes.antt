-- Every end of a removal, and of what only asks, is fair. Assumes nothing.
use Rattle.std.proofs.Common.{ℕ, ◌+◌, Bool, true, false, cond, eqb, leb, List, Some, None, Ok, Err, Option, Result, refl, arith}
use Rattle.faults.specs.Numbers.{code}
use Rattle.faults.specs.Kinds.{WriteFault, LengthFault, UnbindFault}
use Rattle.faults.specs.declared.store.Fault.{Fault}
use Rattle.faults.specs.declared.store.Fault.TheVariants.{PartitionNameInvalid, BlobNameInvalid, Io, PartitionMissing}
use Rattle.keys.specs.KeyName.{KeyName, in_partition}
use Rattle.keys.specs.Names.{partition_ok, name_ok}
use Rattle.rules.specs.State.{State}
use Rattle.rules.specs.Finishes.{blob_stage}
use Rattle.rules.specs.Begins.{last_word}
use Rattle.rules.specs.Removes.{removal_flushed, forget_name, name_unbound, remove_name_checked, remove_name_rule, forget_partition, partition_unbound, remove_partition_checked, remove_partition_rule}
use Rattle.rules.specs.Asks.{counts_rule, share_rule, read_answered, read_open, read_rule}
use Rattle.rules.specs.Calls.{Call, Handle, stage_of, to_remove_name, to_remove_partition, to_count, to_share, to_read}
use Rattle.laws.specs.Every.{Every}
use Rattle.laws.specs.Refusals.{Spares, a_name, a_partition}
use Rattle.laws.proofs.Progs.{every_cond, every_at_stage, Refuses, refuses_unless}
use Rattle.laws.proofs.Near.{credit_same, cond_off, name_apart}
use Rattle.laws.proofs.Fair.{Fair, Allowed, left, spared}

-- ---- a name

module _ (s : State) (q : KeyName) where
  forgotten : Spares s (a_name q) (forget_name s q)
  forgotten = record { names = λ p apart. name_apart s q None p apart; openings = λ _ _. refl; tickets = λ _ _. refl; credit = λ n. credit_same (s.openings.at n); given = refl }

  flushed_fair : (a : Result (Unit {0}) WriteFault) → Every (Fair s (to_remove_name q)) (removal_flushed (forget_name s q) a)
  flushed_fair (Ok u) = (refl, refl)
  flushed_fair (Err e) = spared (refl, refl, tt) (omega arith) forgotten

  unbound_fair : (a : Result (Unit {0}) UnbindFault) → Every (Fair s (to_remove_name q)) (name_unbound s q a)
  unbound_fair (Ok u) = flushed_fair
  unbound_fair (Err e) = left (refl, tt)

  checked_fair : (w : Option Fault) → Refuses (Allowed s (to_remove_name q)) w → Every (Fair s (to_remove_name q)) (remove_name_checked s q w)
  checked_fair (Some f) a = left a
  checked_fair None a = unbound_fair

  pub remove_name_fair : Every (Fair s (to_remove_name q)) (remove_name_rule s q)
  remove_name_fair = checked_fair _ (refuses_unless (Allowed s (to_remove_name q)) (partition_ok q.partition) PartitionNameInvalid _ (λ _. (refl, tt)) (refuses_unless (Allowed s (to_remove_name q)) (name_ok q.name) BlobNameInvalid _ (λ _. (refl, tt)) tt))

-- ---- a partition

module _ (s : State) (p : List ℕ) where
  abbrev removes : Call
  removes = to_remove_partition p

  all_forgotten : Spares s (a_partition p) (forget_partition s p)
  all_forgotten =
      record { names = λ q apart. cond_off (in_partition p q) None (s.names.at q) apart; openings = λ _ _. refl; tickets = λ _ _. refl; credit = λ n. credit_same (s.openings.at n); given = refl }

  all_flushed_fair : (a : Result (Unit {0}) WriteFault) → Every (Fair s removes) (removal_flushed (forget_partition s p) a)
  all_flushed_fair (Ok u) = (refl, refl)
  all_flushed_fair (Err e) = spared (refl, refl, tt) (omega arith) all_forgotten

  missing : (b : Bool) (e : UnbindFault) → Allowed s removes (cond b PartitionMissing (Io e.0))
  missing true e = (refl, tt)
  missing false e = (refl, tt)

  all_unbound_fair : (a : Result (Unit {0}) UnbindFault) → Every (Fair s removes) (partition_unbound s p a)
  all_unbound_fair (Ok u) = all_flushed_fair
  all_unbound_fair (Err e) = left (missing (eqb (code e.0) 2) e)

  all_checked_fair : (w : Option Fault) → Refuses (Allowed s removes) w → Every (Fair s removes) (remove_partition_checked s p w)
  all_checked_fair (Some f) a = left a
  all_checked_fair None a = all_unbound_fair

  pub remove_partition_fair : Every (Fair s removes) (remove_partition_rule s p)
  remove_partition_fair = all_checked_fair _ (refuses_unless (Allowed s removes) (partition_ok p) PartitionNameInvalid _ (λ _. (refl, tt)) tt)

-- ---- what only asks

pub count_fair : (s : State) (h : Handle) (n : ℕ) → Every (Fair s (to_count h n)) (counts_rule s (stage_of h) n)
count_fair s h n = every_at_stage (Fair s (to_count h n)) s (stage_of h) _ (s.openings.at n) (left (refl, tt)) (λ _ _. (refl, refl))

pub share_fair : (s : State) (h : Handle) (n : ℕ) → Every (Fair s (to_share h n)) (share_rule s (stage_of h) n)
share_fair s h n = every_at_stage (Fair s (to_share h n)) s (stage_of h) _ (s.openings.at n) (left (refl, tt)) (λ _ _. (refl, refl))

module _ (s : State) (n at room : ℕ) where
  answered_fair : (a : Result (List ℕ) LengthFault) → Every (Fair s (to_read n at room)) (read_answered s a)
  answered_fair (Ok out) = (refl, refl)
  answered_fair (Err e) = left (refl, tt)

  pub read_fair : Every (Fair s (to_read n at room)) (read_rule s n at room)
  read_fair =
      every_at_stage (Fair s (to_read n at room)) s blob_stage (read_open s at room) (s.openings.at n) (left (refl, tt))
      (λ o _. every_cond (Fair s (to_read n at room)) (leb (at + o.account.offset) last_word) _ _ (λ _. answered_fair) (λ _. left (refl, tt)))
