-- Every end of a finish, a give-up and a close is fair. Assumes nothing.
use Rattle.std.proofs.Common.{◌≡◌, ℕ, ◌<◌, Bool, true, eqb, leb, Some, None, Ok, Err, Option, Result, sym, refl, subst}
use Rattle.std.proofs.lemmas.Bool.{false≢true, ltb-true}
use Rattle.faults.specs.Numbers.{refusal}
use Rattle.faults.specs.Kinds.{FlushFault, LengthFault}
use Rattle.faults.specs.declared.store.Fault.TheVariants.{BlobSyncFailed, ReadFailed}
use Rattle.faults.specs.declared.store.Failure.{Failure}
use Rattle.faults.specs.declared.store.Failure.TheVariants.{Sync}
use Rattle.rules.specs.declared.pending.Entry.{Entry}
use Rattle.rules.specs.declared.opening.Opening.{Opening}
use Rattle.rules.specs.State.{State}
use Rattle.rules.specs.Finishes.{readied, ready_rule, keep, flushed, owned, by_entry, has_out, unspent, finish_owing, owing_stage, blob_stage, finish_rule, give_up_rule, close_rule}
use Rattle.rules.specs.Calls.{Call, to_finish, to_give_up, to_close}
use Rattle.laws.specs.Every.{Every}
use Rattle.laws.specs.Refusals.{Credit, OfAccount, an_opening}
use Rattle.laws.proofs.Progs.{every_cond, every_at_stage, SameCounts, end_counts, refusal_of}
use Rattle.laws.proofs.Near.{Found, near_start, found_name, found_change}
use Rattle.laws.proofs.Fair.{Fair, Changing, left, end_fair}

-- ---- a predecessor with a ticket out

out_there : (s : State) (p : ℕ) (w : Option Opening) → s.openings.at p ≡ w → has_out w ≡ true → OfAccount s p (λ b. 0 < b.out)
out_there s p None e h = absurd (false≢true h)
out_there s p (Some b) e h = (b, e, ltb-true 0 b.account.out h)

waits_for : (s : State) (w : Option ℕ) → unspent s w ≡ true → (p : ℕ) × (w ≡ Some p) × OfAccount s p (λ b. 0 < b.out)
waits_for s None h = absurd (false≢true h)
waits_for s (Some p) h = (p, refl, out_there s p (s.openings.at p) refl h)

-- ---- finish

module _ (s : State) (n : ℕ) (o : Opening) (there : s.openings.at n ≡ Some o) where
  abbrev call : Call
  call = to_finish n

  found : Found s (an_opening n) n o s
  found = record { near = near_start s (an_opening n) n; there = there; key = (n, o, refl, there, refl) }

  credit : (p : Opening) → Credit (Some o) (Some p) → Credit (s.openings.at n) (Some p)
  credit p c = subst (λ w. Credit w (Some p)) (sym there) c

  readied_fair : {t : State} → Found s (an_opening n) n o t → SameCounts s t → (offset : ℕ) (a : Result ℕ LengthFault) → Every (Fair s call) (readied t n offset a)
  readied_fair h same offset (Ok len) =
      every_cond (Fair s call) (leb offset len) _ _ (λ _. same) (λ _. end_fair call ReadFailed refl (refl, refl, tt) h (λ _. credit o (refl, refl)))
  readied_fair h same offset (Err e) = end_fair call ReadFailed refl (refl, refl, tt) h (λ _. credit o (refl, refl))

  ready_fair : Every (Fair s call) (ready_rule s n o.account)
  ready_fair = readied_fair found (refl, refl) o.account.offset

  flushed_fair : (a : Result (Unit {0}) FlushFault) → Every (Fair s call) (flushed s n o a)
  flushed_fair (Ok u) = readied_fair (found_name found o.key _ found.key) (refl, refl) o.account.offset
  flushed_fair (Err e) =
      end_fair call (BlobSyncFailed e.0) refl (refl, refl, tt) (found_change (found_name found o.key _ found.key) (keep (Sync e.0))) (λ _. credit _ (refl, refl))

  owned_fair : (dirty : Bool) (w : Option Failure) → Every (Fair s call) (owned s n o dirty w)
  owned_fair dirty (Some f) = end_fair call (refusal f) refl (refusal_of (Changing s call) (λ _. (refl, refl, tt)) (refl, refl, tt) (λ _. (refl, refl, tt)) f) found (λ _. credit o (refl, refl))
  owned_fair dirty None = every_cond (Fair s call) dirty _ _ (λ _ mark. flushed_fair) (λ _. ready_fair)

  by_entry_fair : (w : Option Entry) → Every (Fair s call) (by_entry s n o w)
  by_entry_fair None = ready_fair
  by_entry_fair (Some e) = every_cond (Fair s call) (eqb e.opening n) _ _ (λ _. owned_fair e.dirty e.failure) (λ _. ready_fair)

  owing_fair : Every (Fair s call) (finish_owing s n o)
  owing_fair =
      every_cond (Fair s call) (unspent s o.account.predecessor) _ _
      (λ h. left (refl, (n, refl, (o, there, waits_for s o.account.predecessor h)))) (λ _. by_entry_fair (s.names.at o.key))

pub finish_fair : (s : State) (n : ℕ) → Every (Fair s (to_finish n)) (finish_rule s n)
finish_fair s n = every_at_stage (Fair s (to_finish n)) s owing_stage (finish_owing s n) (s.openings.at n) (left (refl, tt)) (owing_fair s n)

-- ---- give up and close

pub give_up_fair : (s : State) (n : ℕ) → Every (Fair s (to_give_up n)) (give_up_rule s n)
give_up_fair s n = every_at_stage (Fair s (to_give_up n)) s owing_stage _ (s.openings.at n) (left (refl, tt)) (λ _ _. end_counts (Fair s (to_give_up n)) s n (Ok tt) (λ _ same. same))

pub close_fair : (s : State) (n : ℕ) → Every (Fair s (to_close n)) (close_rule s n)
close_fair s n = every_at_stage (Fair s (to_close n)) s blob_stage _ (s.openings.at n) (left (refl, tt)) (λ _ _. end_counts (Fair s (to_close n)) s n (Ok tt) (λ _ same. same))
