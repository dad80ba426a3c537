-- Every call keeps the tickets of writes within reach. Assumes nothing.
use Rattle.std.proofs.Common.{◌≡◌, ℕ, ◌+◌, ◌≤◌, Bool, true, false, cond, eqb, leb, List, length, Some, None, Ok, Err, Option, Result, refl, inl, inr, arith}
use Rattle.std.proofs.lemmas.Bool.{cases_Bool, cond_both, leb-true}
use Rattle.faults.specs.Kinds.{OpenFault, WriteFault, FlushFault, ResizeFault, LengthFault, UnbindFault}
use Rattle.faults.specs.declared.store.Failure.{Failure}
use Rattle.faults.specs.declared.store.Failure.TheVariants.{Header, Sync}
use Rattle.faults.specs.declared.store.Fault.{Fault}
use Rattle.faults.specs.declared.store.Fault.TheVariants.{Io, BlobSyncFailed}
use Rattle.keys.specs.KeyName.{KeyName}
use Rattle.table.specs.Maps.{Map, put}
use Rattle.rules.specs.declared.opening.Account.{Account}
use Rattle.rules.specs.declared.opening.Mode.{Mode}
use Rattle.rules.specs.declared.opening.Mode.TheVariants.{Existing, Fresh}
use Rattle.rules.specs.declared.pending.Entry.{Entry}
use Rattle.rules.specs.declared.ticket.Step.{Step}
use Rattle.rules.specs.declared.ticket.Step.TheVariants.{Write, Resize, Flush, Running}
use Rattle.rules.specs.declared.ticket.Ticket.{Ticket}
use Rattle.rules.specs.declared.ticket.Writing.{Writing}
use Rattle.rules.specs.Submissions.{Outcome, landed, lost, loss_refusal}
use Rattle.rules.specs.declared.opening.Opening.{Opening}
use Rattle.rules.specs.State.{State}
use Rattle.rules.specs.Tree.{Prog}
use Rattle.rules.specs.Ends.{change, last_out, end_from, end_rule, spend_from, spend_rule}
use Rattle.rules.specs.Opens.{measured, existing_from, fresh_header, fresh_root, fresh_directory, opened_as, opened, open_checked, open_refused, barred, owes, new_number, admit, fail_name}
use Rattle.rules.specs.Finishes.{readied, flushed, owned, by_entry, unspent, at_stage, owing_stage, blob_stage, clean_name, keep}
use Rattle.rules.specs.Begins.{Begun, Syncing, Options, new_ticket, last_offset, last_word, ticket_room, writing, write_refused, write_begun, write_sized, size_refused, resize_begun, resize_refused, sync_begun, sync_refused}
use Rattle.rules.specs.Tickets.{Ran, ran, resized, live_hint, hint_after, finish_it, spoil, flush_succeeded, flush_failed, abandoned, Held, on_ticket, its_opening, as_begun, transferred, unless_failed, resize_answered, run_step, end_answered, start_step, end_step}
use Rattle.rules.specs.Removes.{forget_name, forget_partition, removal_flushed, name_unbound, remove_name_checked, partition_unbound, remove_partition_checked}
use Rattle.rules.specs.Track.{is_dirty, up}
use Rattle.rules.specs.Asks.{read_answered}
use Rattle.rules.specs.Calls.{Call, rule, stage_of, to_open, to_finish, to_give_up, to_close, to_write, to_resize, to_sync, to_run, to_start, to_end, to_abandon, to_remove_name, to_remove_partition, to_count, to_share, to_list, to_read}
use Rattle.laws.specs.Every.{Every}
use Rattle.laws.specs.Reach.{Reachable, WithinReach, ReachKept}
use Rattle.laws.proofs.Barriers.{either}
use Rattle.laws.proofs.Writes.{unless_none}

abbrev Keeps : {R : Type 0} → Prog (R × State) → Type 0
Keeps p = Every (λ x. WithinReach x.1) p

-- ---- one ticket changed

-- what a ticket may be, so that all stay within reach
abbrev Fit : Option Ticket → Type 0
Fit v = (k : Ticket) (w : Writing) → v ≡ Some k → k.step ≡ Write w → w.offset + w.length ≤ 9223372036854775807

changed : (m : Map ℕ Ticket) (t : ℕ) (v : Option Ticket) → Reachable m → Fit v → Reachable (put eqb m t v)
changed m t v h new u k w e step =
    elim (cases_Bool (eqb t u)) [ inl b ↦ new k w (rw b at e) step | inr b ↦ h u k w (rw b at e) step ]

fit_none : Fit None
fit_none k w e step = let z : ◌≡◌ {A = ℕ} 0 1 = cc in absurd (omega arith)

fit_some : (q : Ticket) → ((w : Writing) → q.step ≡ Write w → w.offset + w.length ≤ 9223372036854775807) → Fit (Some q)
fit_some q h k w e step = let same : k ≡ q = cc in h w (rw same at step)

fit_flush : (n seen : ℕ) → Fit (Some (record { opening = n; step = Flush seen }))
fit_flush n seen = fit_some _ (λ w e. let z : ◌≡◌ {A = ℕ} 0 1 = cc in absurd (omega arith))

fit_running : (n seen mark : ℕ) → Fit (Some (record { opening = n; step = Running seen mark }))
fit_running n seen mark = fit_some _ (λ w e. let z : ◌≡◌ {A = ℕ} 0 1 = cc in absurd (omega arith))

fit_resize : (n end : ℕ) → Fit (Some (record { opening = n; step = Resize end }))
fit_resize n end = fit_some _ (λ w e. let z : ◌≡◌ {A = ℕ} 0 1 = cc in absurd (omega arith))

fit_write : (n : ℕ) (v : Writing) → v.offset + v.length ≤ 9223372036854775807 → Fit (Some (record { opening = n; step = Write v }))
fit_write n v h = fit_some _ (λ w e. let same : v ≡ w = cc in rw same at h)

-- ---- the ends of openings and tickets

ends : {R : Type 0} (s : State) → WithinReach s → (n : ℕ) (r : R) (o : Option Opening) → Keeps (end_from s n r o)
ends s h n r None = h
ends s h n r (Some o) = either Keeps (eqb o.account.out 0) (λ _. h) h

end : {R : Type 0} (s : State) → WithinReach s → (n : ℕ) (r : R) → Keeps (end_rule s n r)
end s h n r = ends s h n r (s.openings.at n)

spends : {R : Type 0} (s : State) → WithinReach s → (t n : ℕ) (r : R) (o : Option Opening) → Keeps (spend_from s t n r o)
spends s h t n r None = changed s.tickets t None h fit_none
spends s h t n r (Some o) = let d = changed s.tickets t None h fit_none in either Keeps (last_out o) (λ _. d) d

spend : {R : Type 0} (s : State) → WithinReach s → (t n : ℕ) (r : R) → Keeps (spend_rule s t n r)
spend s h t n r = spends s h t n r (s.openings.at n)

stages : {R : Type 0} (s : State) → WithinReach s → (fits : Opening → Bool) (rule : Opening → Prog (Result R Fault × State)) → ((o : Opening) → Keeps (rule o)) → (o : Option Opening) → Keeps (at_stage s fits rule o)
stages s h fits rule keeps None = h
stages s h fits rule keeps (Some o) = either Keeps (fits o) (keeps o) h

tickets : {R : Type 0} (s : State) → WithinReach s → (rule : Held → Prog (Result R Fault × State)) → ((x : Held) → Keeps (rule x)) → (o : Option Held) → Keeps (on_ticket s rule o)
tickets s h rule keeps None = h
tickets s h rule keeps (Some x) = keeps x

-- ---- open

measures : (s : State) → WithinReach s → (n offset : ℕ) (a : Result ℕ LengthFault) → Keeps (measured s n offset a)
measures s h n offset (Ok len) = either Keeps (leb offset len) h (end s h n _)
measures s h n offset (Err e) = end s h n _

existing : (s : State) → WithinReach s → (q : KeyName) (file offset : ℕ) (f : Option Fault) → Keeps (existing_from s q file offset f)
existing s h q file offset (Some f) = λ _. h
existing s h q file offset None = either Keeps (owes (s.names.at q)) h (measures (admit s q file offset (s.names.at q)) h (new_number s) offset)

headers : (s : State) → WithinReach s → (q : KeyName) (n file offset : ℕ) (a : Result (Unit {0}) WriteFault) → Keeps (fresh_header s q n file offset a)
headers s h q n file offset (Ok u) = measures s h n offset
headers s h q n file offset (Err e) = end (fail_name s q n (Header e.0)) h n (Err (Io e.0))

roots : (s : State) → WithinReach s → (q : KeyName) (n file : ℕ) (header : List ℕ) (a : Result (Unit {0}) WriteFault) → Keeps (fresh_root s q n file header a)
roots s h q n file header (Ok u) = headers s h q n file (length header)
roots s h q n file header (Err e) = end s h n _

directories : (s : State) → WithinReach s → (q : KeyName) (n file : ℕ) (header : List ℕ) (a : Result (Unit {0}) WriteFault) → Keeps (fresh_directory s q n file header a)
directories s h q n file header (Ok u) = roots s h q n file header
directories s h q n file header (Err e) = end s h n _

modes : (s : State) → WithinReach s → (q : KeyName) (header : List ℕ) (file : ℕ) (mode : Mode) → Keeps (opened_as s q header file mode)
modes s h q header file Existing = existing s h q file (length header) (barred s (s.names.at q))
modes s h q header file Fresh = directories (admit s q file (length header) None) h q (new_number s) file header

opens : (s : State) → WithinReach s → (q : KeyName) (mode : Mode) (header : List ℕ) (a : Result ℕ OpenFault) → Keeps (opened s q mode header a)
opens s h q mode header (Ok file) = modes s h q header file mode
opens s h q mode header (Err e) = h

open_checks : (s : State) → WithinReach s → (q : KeyName) (mode : Mode) (header : List ℕ) (f : Option Fault) → Keeps (open_checked s q mode header f)
open_checks s h q mode header (Some f) = h
open_checks s h q mode header None = opens s h q mode header

-- ---- finish

readies : (s : State) → WithinReach s → (n offset : ℕ) (a : Result ℕ LengthFault) → Keeps (readied s n offset a)
readies s h n offset (Ok len) = either Keeps (leb offset len) h (end s h n _)
readies s h n offset (Err e) = end s h n _

flushes : (s : State) → WithinReach s → (n : ℕ) (o : Opening) (a : Result (Unit {0}) FlushFault) → Keeps (flushed s n o a)
flushes s h n o (Ok u) = readies (clean_name s o.key n) h n o.account.offset
flushes s h n o (Err e) = end (change (fail_name s o.key n (Sync e.0)) n (keep (Sync e.0))) h n (Err (BlobSyncFailed e.0))

owns : (s : State) → WithinReach s → (n : ℕ) (o : Opening) (dirty : Bool) (f : Option Failure) → Keeps (owned s n o dirty f)
owns s h n o dirty (Some f) = end s h n _
owns s h n o dirty None = either Keeps dirty (λ mark. flushes s h n o) (readies s h n o.account.offset)

entries : (s : State) → WithinReach s → (n : ℕ) (o : Opening) (e : Option Entry) → Keeps (by_entry s n o e)
entries s h n o None = readies s h n o.account.offset
entries s h n o (Some e) = either Keeps (eqb e.opening n) (owns s h n o e.dirty e.failure) (readies s h n o.account.offset)

-- ---- write, resize and sync

writes_begun : (s : State) → WithinReach s → (n : ℕ) (o : Opening) (at size : ℕ) (lengths : List ℕ) (x : Options) (f : Option Fault) → write_refused s o at size x ≡ f → WithinReach (write_begun s n o at size lengths x f).1
writes_begun s h n o at size lengths x (Some f) e = h
writes_begun s h n o at size lengths x None e =
    changed s.tickets (new_ticket s) _ h (fit_write n (writing o at size lengths x) (leb-true (at + o.account.offset + size) last_offset (unless_none (leb (at + o.account.offset + size) last_offset) _ _ e).0))

writes_sized : (s : State) → WithinReach s → (n : ℕ) (o : Opening) (at size : ℕ) (lengths : List ℕ) (x : Options) (f : Option Fault) → WithinReach (write_sized s n o at size lengths x f).1
writes_sized s h n o at size lengths x (Some f) = h
writes_sized s h n o at size lengths x None =
    cond_both (eqb size 0) _ _ (λ (z : Result Begun Fault × State). WithinReach z.1) (λ _. h) (λ _. writes_begun s h n o at size lengths x (write_refused s o at size x) refl)

resizes_begun : (s : State) → WithinReach s → (n : ℕ) (o : Opening) (size : ℕ) (f : Option Fault) → WithinReach (resize_begun s n o size f).1
resizes_begun s h n o size (Some f) = h
resizes_begun s h n o size None = changed s.tickets (new_ticket s) _ h (fit_resize n (size + o.account.offset))

syncs_begun : (s : State) → WithinReach s → (n : ℕ) (o : Opening) (f : Option Fault) → WithinReach (sync_begun s n o f).1
syncs_begun s h n o (Some f) = h
syncs_begun s h n o None =
    cond_both (is_dirty o.account.tracker) _ _ (λ (z : Result Syncing Fault × State). WithinReach z.1)
    (λ _. cond_both (ticket_room s) _ _ (λ (z : Result Syncing Fault × State). WithinReach z.1) (λ _. changed s.tickets (new_ticket s) _ h (fit_flush n o.account.tracker.completed)) (λ _. h))
    (λ _. h)

-- ---- tickets

transfers : (s : State) → WithinReach s → (t n : ℕ) (a : Account) (w : Writing) (o : Outcome) → Keeps (transferred s t n a w o)
transfers s h t n a w (landed count hint) =
    let s' = change s n (hint_after (live_hint a w) hint) in
    either Keeps w.fused (spend s' h t n (Ok (ran count)))
    (either Keeps w.sync (changed s.tickets t _ h (fit_flush n (up a.tracker.completed))) (spend (change s' n finish_it) h t n (Ok (ran count))))
transfers s h t n a w (lost l hint) = spoils w.fused
  where
    s' : State
    s' = change s n (hint_after (live_hint a w) hint)

    spoils : (b : Bool) → Keeps (spend_rule {R = Result Ran Fault} (cond b (change s' n (spoil l)) s') t n (Err (loss_refusal l)))
    spoils true = spend (change s' n (spoil l)) h t n _
    spoils false = spend s' h t n _

fails : {R : Type 0} (s : State) → WithinReach s → (t n : ℕ) (f : Option Failure) (rest : Prog (Result R Fault × State)) → Keeps rest → Keeps (unless_failed s t n f rest)
fails s h t n None rest k = k
fails s h t n (Some f) rest k = spend s h t n _

resizes : (s : State) → WithinReach s → (t n : ℕ) (a : Result (Unit {0}) ResizeFault) → Keeps (resize_answered s t n a)
resizes s h t n (Ok u) = spend (change s n finish_it) h t n (Ok resized)
resizes s h t n (Err e) = spend s h t n _

steps : (s : State) → WithinReach s → (t n : ℕ) (a : Account) (body lengths : List ℕ) (k : Step) → Keeps (run_step s t n a body lengths k)
steps s h t n a body lengths (Write w) =
    either Keeps (as_begun w.length w.chunks body lengths)
    (either Keeps w.fused (either Keeps a.flushing h (fails s h t n a.tracker.failure _ (transfers s h t n a w))) (transfers s h t n a w))
    h
steps s h t n a body lengths (Resize end) =
    either Keeps (as_begun 0 0 body lengths) (either Keeps (leb end last_offset) (resizes s h t n) (spend s h t n _)) h
steps s h t n a body lengths (Flush seen) = h
steps s h t n a body lengths (Running seen mark) = h

starts : (s : State) → WithinReach s → (t n : ℕ) (a : Account) (k : Step) → Keeps (start_step s t n a k)
starts s h t n a (Write w) = h
starts s h t n a (Resize end) = h
starts s h t n a (Flush seen) = either Keeps a.flushing h (fails s h t n a.tracker.failure _ (λ mark. changed s.tickets t _ h (fit_running n seen mark)))
starts s h t n a (Running seen mark) = h

end_answers : (s : State) → WithinReach s → (t n seen : ℕ) (a : Result (Unit {0}) FlushFault) → Keeps (end_answered s t n seen a)
end_answers s h t n seen (Ok u) = spend (change s n (flush_succeeded seen)) h t n (Ok tt)
end_answers s h t n seen (Err e) = spend (change s n (flush_failed (Sync e.0))) h t n (Err (BlobSyncFailed e.0))

end_steps : (s : State) → WithinReach s → (t n : ℕ) (a : Account) (k : Step) → Keeps (end_step s t n a k)
end_steps s h t n a (Write w) = h
end_steps s h t n a (Resize end) = h
end_steps s h t n a (Flush seen) = h
end_steps s h t n a (Running seen mark) = end_answers s h t n seen

-- ---- remove and read

removals : (s : State) → WithinReach s → (a : Result (Unit {0}) WriteFault) → Keeps (removal_flushed s a)
removals s h (Ok u) = h
removals s h (Err e) = h

names : (s : State) → WithinReach s → (q : KeyName) (a : Result (Unit {0}) UnbindFault) → Keeps (name_unbound s q a)
names s h q (Ok u) = removals (forget_name s q) h
names s h q (Err e) = h

name_checks : (s : State) → WithinReach s → (q : KeyName) (f : Option Fault) → Keeps (remove_name_checked s q f)
name_checks s h q (Some f) = h
name_checks s h q None = names s h q

partitions : (s : State) → WithinReach s → (p : List ℕ) (a : Result (Unit {0}) UnbindFault) → Keeps (partition_unbound s p a)
partitions s h p (Ok u) = removals (forget_partition s p) h
partitions s h p (Err e) = h

partition_checks : (s : State) → WithinReach s → (p : List ℕ) (f : Option Fault) → Keeps (remove_partition_checked s p f)
partition_checks s h p (Some f) = h
partition_checks s h p None = partitions s h p

reads : (s : State) → WithinReach s → (a : Result (List ℕ) LengthFault) → Keeps (read_answered s a)
reads s h (Ok out) = h
reads s h (Err e) = h

-- ---- each call

calls : (s : State) (c : Call) → WithinReach s → Keeps (rule s c)
calls s (to_open q mode header) h = open_checks s h q mode header (open_refused s q (length header))
calls s (to_finish n) h = stages s h owing_stage _ (λ o. either Keeps (unspent s o.account.predecessor) h (entries s h n o (s.names.at o.key))) (s.openings.at n)
calls s (to_give_up n) h = stages s h owing_stage _ (λ _. end s h n _) (s.openings.at n)
calls s (to_close n) h = stages s h blob_stage _ (λ _. end s h n _) (s.openings.at n)
calls s (to_write n at body lengths x) h = stages s h blob_stage _ (λ o. writes_sized s h n o at (length body) lengths x (size_refused o at (length body) lengths)) (s.openings.at n)
calls s (to_resize n size) h = stages s h blob_stage _ (λ o. resizes_begun s h n o size (resize_refused s o size)) (s.openings.at n)
calls s (to_sync n) h = stages s h blob_stage _ (λ o. syncs_begun s h n o (sync_refused s o)) (s.openings.at n)
calls s (to_run t body lengths) h = tickets s h _ (λ x. steps s h t x.of x.opening.account body lengths x.step) (its_opening s (s.tickets.at t))
calls s (to_start t) h = tickets s h _ (λ x. starts s h t x.of x.opening.account x.step) (its_opening s (s.tickets.at t))
calls s (to_end t) h = tickets s h _ (λ x. end_steps s h t x.of x.opening.account x.step) (its_opening s (s.tickets.at t))
calls s (to_abandon t) h = tickets s h _ (λ x. spend (change s x.of (abandoned x.step)) h t x.of (Ok tt)) (its_opening s (s.tickets.at t))
calls s (to_remove_name q) h = name_checks s h q _
calls s (to_remove_partition p) h = partition_checks s h p _
calls s (to_count x n) h = stages s h (stage_of x) _ (λ _. h) (s.openings.at n)
calls s (to_share x n) h = stages s h (stage_of x) _ (λ _. h) (s.openings.at n)
calls s to_list h = h
calls s (to_read n at room) h =
    stages s h blob_stage _ (λ o. either Keeps (leb (at + o.account.offset) last_word) (reads s h) h) (s.openings.at n)

pub reach_kept : ReachKept
reach_kept = (λ t k w e step. fit_none k w e step, calls)
