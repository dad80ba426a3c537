-- The three laws, from what holds of every end of every call. Assumes nothing.
use Rattle.std.proofs.Common.{Ok, Err, refl, subst}
use Rattle.disk.specs.Requests.{Request, Answer}
use Rattle.rules.specs.State.{State}
use Rattle.rules.specs.Calls.{Call, Reply, rule, to_open, to_finish, to_give_up, to_close, to_write, to_resize, to_sync, to_run, to_start, to_end, to_abandon, to_remove_name, to_remove_partition, to_count, to_share, to_list, to_read}
use Rattle.laws.specs.Every.{Every}
use Rattle.laws.specs.Refusals.{RefusalsLeave, RefusalsHaveCauses}
use Rattle.laws.specs.Numbers.{Numbered, NumbersAreNew}
use Rattle.laws.proofs.Progs.{every_runs}
use Rattle.laws.proofs.Fair.{Cause, FairTo, Fair}
use Rattle.laws.proofs.Opens.{open_fair}
use Rattle.laws.proofs.Finishes.{finish_fair, give_up_fair, close_fair}
use Rattle.laws.proofs.Begins.{write_fair, resize_fair, sync_fair}
use Rattle.laws.proofs.Tickets.{run_fair, start_fair, flush_end_fair, abandon_fair}
use Rattle.laws.proofs.Removes.{remove_name_fair, remove_partition_fair, count_fair, share_fair, read_fair}

fair : (s : State) (c : Call) → Every (Fair s c) (rule s c)
fair s (to_open q mode header) = open_fair s q mode header
fair s (to_finish n) = finish_fair s n
fair s (to_give_up n) = give_up_fair s n
fair s (to_close n) = close_fair s n
fair s (to_write n at body lengths x) = write_fair s n at body lengths x
fair s (to_resize n size) = resize_fair s n size
fair s (to_sync n) = sync_fair s n
fair s (to_run t body lengths) = run_fair s t body lengths
fair s (to_start t) = start_fair s t
fair s (to_end t) = flush_end_fair s t
fair s (to_abandon t) = abandon_fair s t
fair s (to_remove_name q) = remove_name_fair s q
fair s (to_remove_partition p) = remove_partition_fair s p
fair s (to_count h n) = count_fair s h n
fair s (to_share h n) = share_fair s h n
fair s to_list = (refl, refl)
fair s (to_read n at room) = read_fair s n at room

numbered : (s t : State) (c : Call) (r : Reply c) → FairTo s c r t → Numbered s t c r
numbered s t c (Ok x) h = h
numbered s t c (Err f) h = (h.admitted, h.given)

module _ {S : Type 0} (did : S → (q : Request) → Answer q → S → Type 0) where
  pub refusals_leave_lem : RefusalsLeave did
  refusals_leave_lem s t c f d e run = let h = every_runs did (Fair s c) (rule s c) d (Err f, t) e (fair s c) run in (h.row, h.left)

  pub refusals_have_causes_lem : RefusalsHaveCauses did
  refusals_have_causes_lem s t c f d e run =
      let h = (every_runs did (Fair s c) (rule s c) d (Err f, t) e (fair s c) run).cause in
      (λ is. subst (λ x. Cause s c x) is h, λ is. subst (λ x. Cause s c x) is h, λ is. subst (λ x. Cause s c x) is h)

  pub numbers_are_new_lem : NumbersAreNew did
  numbers_are_new_lem s t c r d e run = numbered s t c r (every_runs did (Fair s c) (rule s c) d (r, t) e (fair s c) run)
