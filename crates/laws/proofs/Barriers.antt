-- No call repeats a barrier that failed. Assumes nothing.
use Rattle.std.proofs.Common.{ℕ, ◌+◌, Bool, true, false, cond, eqb, leb, List, length, Some, None, Ok, Err, Option, Result, refl}
use Rattle.faults.specs.Kinds.{OpenFault, WriteFault, FlushFault, ResizeFault, LengthFault, UnbindFault}
use Rattle.faults.specs.declared.store.Failure.{Failure}
use Rattle.faults.specs.declared.store.Fault.{Fault}
use Rattle.keys.specs.KeyName.{KeyName}
use Rattle.disk.specs.Requests.{Request, Answer, ask_open, ask_close, ask_length, ask_read, ask_write, ask_resize, ask_start, ask_end, ask_header, ask_flush_directory, ask_flush_root, ask_unbind, ask_unbind_partition}
use Rattle.rules.specs.declared.opening.Account.{Account}
use Rattle.rules.specs.declared.opening.Mode.{Mode}
use Rattle.rules.specs.declared.opening.Mode.TheVariants.{Existing, Fresh}
use Rattle.rules.specs.declared.pending.Entry.{Entry}
use Rattle.rules.specs.declared.ticket.Step.{Step}
use Rattle.rules.specs.declared.ticket.Step.TheVariants.{Write, Resize, Flush, Running}
use Rattle.rules.specs.declared.ticket.Writing.{Writing}
use Rattle.rules.specs.Submissions.{Outcome, landed, lost}
use Rattle.rules.specs.declared.opening.Opening.{Opening}
use Rattle.rules.specs.State.{State}
use Rattle.rules.specs.Tree.{Prog, done, ask, submit}
use Rattle.rules.specs.Ends.{last_out, end_from, end_rule, spend_from, spend_rule}
use Rattle.rules.specs.Opens.{measured, existing_from, fresh_header, fresh_root, fresh_directory, opened_as, opened, open_checked, open_refused, barred, owes, new_number}
use Rattle.rules.specs.Finishes.{readied, ready_rule, flushed, owned, by_entry, unspent, at_stage, owing_stage, blob_stage}
use Rattle.rules.specs.Begins.{last_offset, last_word}
use Rattle.rules.specs.Tickets.{Held, on_ticket, its_opening, as_begun, transferred, unless_failed, resize_answered, run_step, end_answered, start_step, end_step}
use Rattle.rules.specs.Removes.{forget_name, forget_partition, removal_flushed, name_unbound, remove_name_checked, partition_unbound, remove_partition_checked}
use Rattle.rules.specs.Asks.{read_answered}
use Rattle.rules.specs.Calls.{stage_of, to_open, to_finish, to_give_up, to_close, to_write, to_resize, to_sync, to_run, to_start, to_end, to_abandon, to_remove_name, to_remove_partition, to_count, to_share, to_list, to_read}
use Rattle.laws.specs.Barriers.{Quiet, QuietIfFailed, NotRepeated, BarriersNotRepeated}

-- ---- what holds of any program

pub either : {R : Type 0} (P : Prog R → Type 0) (b : Bool) {p q : Prog R} → P p → P q → P (cond b p q)
either P true h k = h
either P false h k = k

quiet_if_failed : {R : Type 0} (q : Request) (k : Answer q → Prog R) → ((a : Answer q) → Quiet (k a)) → QuietIfFailed q k
quiet_if_failed (ask_open q) k h = tt
quiet_if_failed (ask_close f) k h = tt
quiet_if_failed (ask_length f) k h = tt
quiet_if_failed (ask_read f at room) k h = tt
quiet_if_failed (ask_write f at given p) k h = tt
quiet_if_failed (ask_resize f end) k h = tt
quiet_if_failed (ask_start f) k h = tt
quiet_if_failed (ask_end f mark) k h = λ e. h (Err e)
quiet_if_failed (ask_header f bytes) k h = tt
quiet_if_failed (ask_flush_directory p) k h = tt
quiet_if_failed ask_flush_root k h = tt
quiet_if_failed (ask_unbind q) k h = tt
quiet_if_failed (ask_unbind_partition p) k h = tt

-- a program that asks for no barrier repeats none
quiet : {R : Type 0} (p : Prog R) → Quiet p → NotRepeated p
quiet (done x) h = tt
quiet (ask q k) h = (quiet_if_failed q k h.1, λ a. quiet (k a) (h.1 a))
quiet (submit w hint k) h = λ o. quiet (k o) (h o)

-- ---- the ends of openings and tickets

ends : {R : Type 0} (s : State) (n : ℕ) (r : R) (o : Option Opening) → Quiet (end_from s n r o)
ends s n r None = tt
ends s n r (Some o) = either Quiet (eqb o.account.out 0) (refl, λ _. tt) tt

end : {R : Type 0} (s : State) (n : ℕ) (r : R) → Quiet (end_rule s n r)
end s n r = ends s n r (s.openings.at n)

spends : {R : Type 0} (s : State) (t n : ℕ) (r : R) (o : Option Opening) → Quiet (spend_from s t n r o)
spends s t n r None = tt
spends s t n r (Some o) = either Quiet (last_out o) (refl, λ _. tt) tt

spend : {R : Type 0} (s : State) (t n : ℕ) (r : R) → Quiet (spend_rule s t n r)
spend s t n r = spends s t n r (s.openings.at n)

-- ---- open

measures : (s : State) (n offset : ℕ) (a : Result ℕ LengthFault) → Quiet (measured s n offset a)
measures s n offset (Ok len) = either Quiet (leb offset len) tt (end s n _)
measures s n offset (Err e) = end s n _

existing : (s : State) (q : KeyName) (file offset : ℕ) (f : Option Fault) → Quiet (existing_from s q file offset f)
existing s q file offset (Some f) = (refl, λ _. tt)
existing s q file offset None = either Quiet (owes (s.names.at q)) tt (refl, measures _ _ _)

headers : (s : State) (q : KeyName) (n file offset : ℕ) (a : Result (Unit {0}) WriteFault) → Quiet (fresh_header s q n file offset a)
headers s q n file offset (Ok u) = (refl, measures s n offset)
headers s q n file offset (Err e) = search end

roots : (s : State) (q : KeyName) (n file : ℕ) (header : List ℕ) (a : Result (Unit {0}) WriteFault) → Quiet (fresh_root s q n file header a)
roots s q n file header (Ok u) = (refl, headers s q n file (length header))
roots s q n file header (Err e) = end s n _

directories : (s : State) (q : KeyName) (n file : ℕ) (header : List ℕ) (a : Result (Unit {0}) WriteFault) → Quiet (fresh_directory s q n file header a)
directories s q n file header (Ok u) = (refl, roots s q n file header)
directories s q n file header (Err e) = end s n _

modes : (s : State) (q : KeyName) (header : List ℕ) (file : ℕ) (mode : Mode) → Quiet (opened_as s q header file mode)
modes s q header file Existing = existing s q file (length header) (barred s (s.names.at q))
modes s q header file Fresh = (refl, directories _ q (new_number s) file header)

opens : (s : State) (q : KeyName) (mode : Mode) (header : List ℕ) (a : Result ℕ OpenFault) → Quiet (opened s q mode header a)
opens s q mode header (Ok file) = modes s q header file mode
opens s q mode header (Err e) = tt

open_checks : (s : State) (q : KeyName) (mode : Mode) (header : List ℕ) (f : Option Fault) → Quiet (open_checked s q mode header f)
open_checks s q mode header (Some f) = tt
open_checks s q mode header None = (refl, opens s q mode header)

-- ---- finish

readies : (s : State) (n offset : ℕ) (a : Result ℕ LengthFault) → Quiet (readied s n offset a)
readies s n offset (Ok len) = either Quiet (leb offset len) tt (end s n _)
readies s n offset (Err e) = end s n _

ready : (s : State) (n : ℕ) (a : Account) → Quiet (ready_rule s n a)
ready s n a = (refl, readies s n a.offset)

ready_once : (s : State) (n : ℕ) (a : Account) → NotRepeated (ready_rule s n a)
ready_once s n a = quiet (ready_rule s n a) (ready s n a)

flushes : (s : State) (n : ℕ) (o : Opening) (a : Result (Unit {0}) FlushFault) → Quiet (flushed s n o a)
flushes s n o (Ok u) = search ready
flushes s n o (Err e) = search end

owns : (s : State) (n : ℕ) (o : Opening) (dirty : Bool) (f : Option Failure) → NotRepeated (owned s n o dirty f)
owns s n o dirty (Some f) = quiet _ (end s n _)
owns s n o dirty None =
    either NotRepeated dirty (tt, λ mark. (λ e. flushes s n o (Err e), λ a. quiet (flushed s n o a) (flushes s n o a))) (ready_once s n o.account)

entries : (s : State) (n : ℕ) (o : Opening) (e : Option Entry) → NotRepeated (by_entry s n o e)
entries s n o None = ready_once s n o.account
entries s n o (Some e) = either NotRepeated (eqb e.opening n) (owns s n o e.dirty e.failure) (ready_once s n o.account)

stages : {R : Type 0} (s : State) (fits : Opening → Bool) (rule : Opening → Prog (Result R Fault × State)) → ((o : Opening) → NotRepeated (rule o)) → (o : Option Opening) → NotRepeated (at_stage s fits rule o)
stages s fits rule h None = tt
stages s fits rule h (Some o) = either NotRepeated (fits o) (h o) tt

-- ---- tickets

transfers : (s : State) (t n : ℕ) (a : Account) (w : Writing) (o : Outcome) → Quiet (transferred s t n a w o)
transfers s t n a w (landed count hint) = either Quiet w.fused (search spend) (either Quiet w.sync tt (search spend))
transfers s t n a w (lost l hint) = search spend

fails : {R : Type 0} (P : Prog (Result R Fault × State) → Type 0) (s : State) (t n : ℕ) (f : Option Failure) (rest : Prog (Result R Fault × State)) → ((g : Fault) → P (spend_rule s t n (Err g))) → P rest → P (unless_failed s t n f rest)
fails P s t n None rest h k = k
fails P s t n (Some f) rest h k = h _

resizes : (s : State) (t n : ℕ) (a : Result (Unit {0}) ResizeFault) → Quiet (resize_answered s t n a)
resizes s t n (Ok u) = search spend
resizes s t n (Err e) = search spend

steps : (s : State) (t n : ℕ) (a : Account) (body lengths : List ℕ) (k : Step) → Quiet (run_step s t n a body lengths k)
steps s t n a body lengths (Write w) =
    either Quiet (as_begun w.length w.chunks body lengths)
    (either Quiet w.fused
    (either Quiet a.flushing tt (fails Quiet s t n a.tracker.failure _ (λ g. search spend) (transfers s t n a w)))
    (transfers s t n a w))
    tt
steps s t n a body lengths (Resize end) =
    either Quiet (as_begun 0 0 body lengths) (either Quiet (leb end last_offset) (refl, resizes s t n) (search spend)) tt
steps s t n a body lengths (Flush seen) = tt
steps s t n a body lengths (Running seen mark) = tt

starts : (s : State) (t n : ℕ) (a : Account) (k : Step) → NotRepeated (start_step s t n a k)
starts s t n a (Write w) = tt
starts s t n a (Resize end) = tt
starts s t n a (Flush seen) = either NotRepeated a.flushing tt (fails NotRepeated s t n a.tracker.failure _ (λ g. quiet _ (search spend)) (tt, λ mark. tt))
starts s t n a (Running seen mark) = tt

end_answers : (s : State) (t n seen : ℕ) (a : Result (Unit {0}) FlushFault) → Quiet (end_answered s t n seen a)
end_answers s t n seen (Ok u) = search spend
end_answers s t n seen (Err e) = search spend

end_steps : (s : State) (t n : ℕ) (a : Account) (k : Step) → NotRepeated (end_step s t n a k)
end_steps s t n a (Write w) = tt
end_steps s t n a (Resize end) = tt
end_steps s t n a (Flush seen) = tt
end_steps s t n a (Running seen mark) = (λ e. end_answers s t n seen (Err e), λ b. quiet (end_answered s t n seen b) (end_answers s t n seen b))

tickets : {R : Type 0} (s : State) (rule : Held → Prog (Result R Fault × State)) → ((h : Held) → NotRepeated (rule h)) → (o : Option Held) → NotRepeated (on_ticket s rule o)
tickets s rule h None = tt
tickets s rule h (Some x) = h x

-- ---- remove and read

removals : (s : State) (a : Result (Unit {0}) WriteFault) → Quiet (removal_flushed s a)
removals s (Ok u) = tt
removals s (Err e) = tt

names : (s : State) (q : KeyName) (a : Result (Unit {0}) UnbindFault) → Quiet (name_unbound s q a)
names s q (Ok u) = (refl, removals (forget_name s q))
names s q (Err e) = tt

name_checks : (s : State) (q : KeyName) (f : Option Fault) → Quiet (remove_name_checked s q f)
name_checks s q (Some f) = tt
name_checks s q None = (refl, names s q)

partitions : (s : State) (p : List ℕ) (a : Result (Unit {0}) UnbindFault) → Quiet (partition_unbound s p a)
partitions s p (Ok u) = (refl, removals (forget_partition s p))
partitions s p (Err e) = tt

partition_checks : (s : State) (p : List ℕ) (f : Option Fault) → Quiet (remove_partition_checked s p f)
partition_checks s p (Some f) = tt
partition_checks s p None = (refl, partitions s p)

reads : (s : State) (a : Result (List ℕ) LengthFault) → Quiet (read_answered s a)
reads s (Ok out) = tt
reads s (Err e) = tt

-- ---- each call

pub not_repeated : BarriersNotRepeated
not_repeated s (to_open q mode header) = quiet _ (open_checks s q mode header (open_refused s q (length header)))
not_repeated s (to_finish n) = stages s owing_stage _ (λ o. either NotRepeated (unspent s o.account.predecessor) tt (entries s n o (s.names.at o.key))) (s.openings.at n)
not_repeated s (to_give_up n) = stages s owing_stage _ (λ _. quiet _ (end s n _)) (s.openings.at n)
not_repeated s (to_close n) = stages s blob_stage _ (λ _. quiet _ (end s n _)) (s.openings.at n)
not_repeated s (to_write n at body lengths x) = stages s blob_stage _ (λ _. tt) (s.openings.at n)
not_repeated s (to_resize n size) = stages s blob_stage _ (λ _. tt) (s.openings.at n)
not_repeated s (to_sync n) = stages s blob_stage _ (λ _. tt) (s.openings.at n)
not_repeated s (to_run t body lengths) = tickets s _ (λ h. quiet _ (steps s t h.of h.opening.account body lengths h.step)) (its_opening s (s.tickets.at t))
not_repeated s (to_start t) = tickets s _ (λ h. starts s t h.of h.opening.account h.step) (its_opening s (s.tickets.at t))
not_repeated s (to_end t) = tickets s _ (λ h. end_steps s t h.of h.opening.account h.step) (its_opening s (s.tickets.at t))
not_repeated s (to_abandon t) = tickets s _ (λ h. quiet _ (search spend)) (its_opening s (s.tickets.at t))
not_repeated s (to_remove_name q) = quiet _ (name_checks s q _)
not_repeated s (to_remove_partition p) = quiet _ (partition_checks s p _)
not_repeated s (to_count h n) = stages s (stage_of h) _ (λ _. tt) (s.openings.at n)
not_repeated s (to_share h n) = stages s (stage_of h) _ (λ _. tt) (s.openings.at n)
not_repeated s to_list = tt
not_repeated s (to_read n at room) =
    stages s blob_stage _ (λ o. either NotRepeated (leb (at + o.account.offset) last_word) (tt, λ a. quiet (read_answered s a) (reads s a)) tt) (s.openings.at n)
