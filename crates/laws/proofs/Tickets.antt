-- Every end of a run, of both halves of a flush and of an abandon is fair. Assumes nothing.
use Rattle.std.proofs.Common.{ℕ, Bool, leb, List, Some, None, Ok, Err, Option, Result, sym, refl, subst}
use Rattle.std.proofs.lemmas.Bool.{cond_both}
use Rattle.faults.specs.Numbers.{refusal}
use Rattle.faults.specs.declared.disk.DiskFault.TheVariants.{Code}
use Rattle.faults.specs.Kinds.{FlushFault, ResizeFault}
use Rattle.faults.specs.declared.store.Fault.{Fault}
use Rattle.faults.specs.declared.store.Fault.TheVariants.{BlobSyncFailed, BlobResizeFailed}
use Rattle.faults.specs.declared.store.Failure.{Failure}
use Rattle.faults.specs.declared.store.Failure.TheVariants.{Sync}
use Rattle.disk.specs.declared.offset.FileOffset.{FileOffset}
use Rattle.rules.specs.declared.opening.Account.{Account}
use Rattle.rules.specs.declared.ticket.Step.{Step}
use Rattle.rules.specs.declared.ticket.Step.TheVariants.{Write, Resize, Flush, Running}
use Rattle.rules.specs.declared.ticket.Writing.{Writing}
use Rattle.rules.specs.declared.opening.Opening.{Opening}
use Rattle.rules.specs.State.{State, with_account}
use Rattle.rules.specs.Submissions.{Outcome, landed, lost, Loss, by_code, by_nothing, loss_refusal}
use Rattle.rules.specs.Tree.{Prog}
use Rattle.rules.specs.Ends.{change, spend_rule}
use Rattle.rules.specs.Begins.{last_offset}
use Rattle.rules.specs.Tickets.{Held, ran, resized, finish_it, flush_succeeded, abandoned, as_begun, live_hint, hint_after, spoil, landed_rule, lost_rule, transferred, transfer_rule, unless_failed, run_fused, run_write, resize_answered, run_resize, run_step, run_rule, start_step, start_rule, flush_failed, end_answered, end_step, flush_end_rule, abandon_rule}
use Rattle.rules.specs.Calls.{Call, Reply, to_run, to_start, to_end, to_abandon}
use Rattle.laws.specs.Every.{Every}
use Rattle.laws.specs.Refusals.{Subject, AboutOpening, AboutTicket, Credit, a_ticket, subject}
use Rattle.laws.proofs.Progs.{every_cond, every_ticket, Holds, spend_counts, refusal_of}
use Rattle.laws.proofs.Near.{Found, near_start, found_change}
use Rattle.laws.proofs.Fair.{Fair, Changing, left, spend_fair}

-- ---- a call about the subject j spends the ticket t, which is held as h

pub record Ours (s : State) (j : Subject) (t : ℕ) (h : Held) : Type 0 where
  pub about : AboutOpening s j h.of
  pub mine : AboutTicket j t
  pub found : Found s j h.of h.opening s

ours : (s : State) (t : ℕ) (h : Held) → Holds s (s.tickets.at t) h → Ours s (a_ticket t) t h
ours s t h holds =
    record {
      about = holds.0;
      mine = refl;
      found = record { near = near_start s (a_ticket t) h.of; there = holds.1; key = (h.of, h.opening, holds.0, holds.1, refl) };
    }

module _ {s : State} (c : Call) {t : ℕ} {h : Held} (u : Ours s (subject c) t h) where
  spends : (f : Fault) → Changing s c f → {o : Opening} {v : State} → Found s (subject c) h.of o v → Credit (Some h.opening) (Some o) → Every (Fair s c) (spend_rule v t h.of (Err f))
  spends f a {o} found credit = spend_fair c f u.about a t u.mine found (subst (λ w. Credit w (Some o)) (sym u.found.there) credit)

  -- a kept failure spends it unasked
  failed_fair : ((f : Failure) → Changing s c (refusal f)) → (rest : Prog (Reply c × State)) → Every (Fair s c) rest → (w : Option Failure) → Every (Fair s c) (unless_failed s t h.of w rest)
  failed_fair a rest fair None = fair
  failed_fair a rest fair (Some f) = spends (refusal f) (a f) u.found (refl, refl)

-- ---- run

module _ (s : State) (t : ℕ) (body lengths : List ℕ) (h : Held) (u : Ours s (a_ticket t) t h) where
  abbrev runs : Call
  runs = to_run t body lengths

  abbrev n : ℕ
  n = h.of

  abbrev a : Account
  a = h.opening.account

  loss_changing : (l : Loss) → Changing s runs (loss_refusal l)
  loss_changing (by_code d) = (refl, refl, tt)
  loss_changing by_nothing = (refl, refl, tt)

  -- the hint may be dropped first
  module _ (w : Writing) (hint : Bool) where
    abbrev hinted : State
    hinted = change s n (hint_after (live_hint a w) hint)

    found_hinted : Found s (a_ticket t) n (with_account h.opening (hint_after (live_hint a w) hint a)) hinted
    found_hinted = found_change u.found (hint_after (live_hint a w) hint)

    landed_fair : (count : ℕ) → Every (Fair s runs) (landed_rule hinted t n a w count)
    landed_fair count =
        every_cond (Fair s runs) w.fused _ _ (λ _. spend_counts (Fair s runs) hinted n (Ok (ran count)) (λ _ same. same) t)
        (λ _. every_cond (Fair s runs) w.sync _ _ (λ _. (refl, refl)) (λ _. spend_counts (Fair s runs) (change hinted n finish_it) n (Ok (ran count)) (λ _ same. same) t))

    lost_fair : (l : Loss) → Every (Fair s runs) (lost_rule hinted t n w l)
    lost_fair l =
        cond_both w.fused (change hinted n (spoil l)) hinted (λ v. Every (Fair s runs) (spend_rule v t n (Err (loss_refusal l))))
        (λ _. spends runs u (loss_refusal l) (loss_changing l) (found_change found_hinted (spoil l)) (refl, refl))
        (λ _. spends runs u (loss_refusal l) (loss_changing l) found_hinted (refl, refl))

  transferred_fair : (w : Writing) (o : Outcome) → Every (Fair s runs) (transferred s t n a w o)
  transferred_fair w (landed count hint) = landed_fair w hint count
  transferred_fair w (lost l hint) = lost_fair w hint l

  kept_changing : (f : Failure) → Changing s runs (refusal f)
  kept_changing = refusal_of (Changing s runs) (λ _. (refl, refl, tt)) (refl, refl, tt) (λ _. (refl, refl, tt))

  fused_fair : (w : Writing) → Every (Fair s runs) (run_fused s t n a w body lengths)
  fused_fair w = every_cond (Fair s runs) a.flushing _ _ (λ _. left (refl, tt)) (λ _. failed_fair runs u kept_changing (transfer_rule s t n a w body lengths) (transferred_fair w) a.tracker.failure)

  write_fair : (w : Writing) → Every (Fair s runs) (run_write s t n a w body lengths)
  write_fair w = every_cond (Fair s runs) w.fused _ _ (λ _. fused_fair w) (λ _. transferred_fair w)

  resized_fair : (r : Result (Unit {0}) ResizeFault) → Every (Fair s runs) (resize_answered s t n r)
  resized_fair (Ok x) = spend_counts (Fair s runs) (change s n finish_it) n (Ok resized) (λ _ same. same) t
  resized_fair (Err e) = spends runs u (BlobResizeFailed e.0) (refl, refl, tt) u.found (refl, refl)

  resize_fair : (end : FileOffset) → Every (Fair s runs) (run_resize s t n a end)
  resize_fair end =
      every_cond (Fair s runs) (leb end last_offset) _ _ (λ _. resized_fair)
      (λ _. spends runs u (BlobResizeFailed (Code 22)) (refl, refl, tt) u.found (refl, refl))

  step_fair : (k : Step) → Every (Fair s runs) (run_step s t n a body lengths k)
  step_fair (Write w) = every_cond (Fair s runs) (as_begun w.length w.chunks body lengths) _ _ (λ _. write_fair w) (λ _. left (refl, tt))
  step_fair (Resize end) = every_cond (Fair s runs) (as_begun 0 0 body lengths) _ _ (λ _. resize_fair end) (λ _. left (refl, tt))
  step_fair (Flush seen) = left (refl, tt)
  step_fair (Running seen mark) = left (refl, tt)

pub run_fair : (s : State) (t : ℕ) (body lengths : List ℕ) → Every (Fair s (to_run t body lengths)) (run_rule s t body lengths)
run_fair s t body lengths = every_ticket (Fair s (to_run t body lengths)) s _ (left (refl, tt)) t (λ h holds. step_fair s t body lengths h (ours s t h holds) h.step)

-- ---- the two halves of a flush

module _ (s : State) (t : ℕ) (h : Held) (u : Ours s (a_ticket t) t h) where
  started_fair : (k : Step) → Every (Fair s (to_start t)) (start_step s t h.of h.opening.account k)
  started_fair (Write w) = left (refl, tt)
  started_fair (Resize end) = left (refl, tt)
  started_fair (Flush seen) =
      every_cond (Fair s (to_start t)) h.opening.account.flushing _ _ (λ _. left (refl, tt))
      (λ _. failed_fair (to_start t) u (refusal_of (Changing s (to_start t)) (λ _. (refl, refl, tt)) (refl, refl, tt) (λ _. (refl, refl, tt))) _ (λ mark. (refl, refl)) h.opening.account.tracker.failure)
  started_fair (Running seen mark) = left (refl, tt)

  answered_fair : (seen : ℕ) (r : Result (Unit {0}) FlushFault) → Every (Fair s (to_end t)) (end_answered s t h.of seen r)
  answered_fair seen (Ok x) = spend_counts (Fair s (to_end t)) (change s h.of (flush_succeeded seen)) h.of (Ok tt) (λ _ same. same) t
  answered_fair seen (Err e) =
      spends (to_end t) u (BlobSyncFailed e.0) (refl, refl, tt) (found_change u.found (flush_failed (Sync e.0))) (refl, refl)

  ended_fair : (k : Step) → Every (Fair s (to_end t)) (end_step s t h.of h.opening.account k)
  ended_fair (Write w) = left (refl, tt)
  ended_fair (Resize end) = left (refl, tt)
  ended_fair (Flush seen) = left (refl, tt)
  ended_fair (Running seen mark) = answered_fair seen

pub start_fair : (s : State) (t : ℕ) → Every (Fair s (to_start t)) (start_rule s t)
start_fair s t = every_ticket (Fair s (to_start t)) s _ (left (refl, tt)) t (λ h holds. started_fair s t h (ours s t h holds) h.step)

pub flush_end_fair : (s : State) (t : ℕ) → Every (Fair s (to_end t)) (flush_end_rule s t)
flush_end_fair s t = every_ticket (Fair s (to_end t)) s _ (left (refl, tt)) t (λ h holds. ended_fair s t h (ours s t h holds) h.step)

-- ---- abandon

pub abandon_fair : (s : State) (t : ℕ) → Every (Fair s (to_abandon t)) (abandon_rule s t)
abandon_fair s t = every_ticket (Fair s (to_abandon t)) s _ (left (refl, tt)) t (λ h _. spend_counts (Fair s (to_abandon t)) (change s h.of (abandoned h.step)) h.of (Ok tt) (λ _ same. same) t)
