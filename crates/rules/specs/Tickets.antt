-- Run, both halves of a flush, and abandon: what is done with a ticket. Assumes nothing.
use Rattle.std.specs.Prelude.{ℕ, Bool, true, false, cond, not, ◌&&◌, ◌||◌, List, length, Some, None, Ok, Err, Option, Result, ◌==◌, nat_le}
use Rattle.faults.specs.Numbers.{refusal}
use Rattle.faults.specs.declared.disk.DiskFault.TheVariants.{Code}
use Rattle.faults.specs.Kinds.{FlushFault, ResizeFault}
use Rattle.faults.specs.declared.store.Fault.{Fault}
use Rattle.faults.specs.declared.store.Fault.TheVariants.{BlobSyncFailed, BlobResizeFailed, Flushing, Unknown, Mismatched}
use Rattle.faults.specs.declared.store.Failure.{Failure}
use Rattle.faults.specs.declared.store.Failure.TheVariants.{Sync}
use Rattle.disk.specs.Requests.{ask_resize, ask_start, ask_end}
use Rattle.disk.specs.declared.offset.FileOffset.{FileOffset}
use Rattle.rules.specs.declared.opening.Account.{Account}
use Rattle.rules.specs.declared.ticket.Step.{Step}
use Rattle.rules.specs.declared.ticket.Step.TheVariants.{Write, Resize, Flush, Running}
use Rattle.rules.specs.declared.ticket.Ticket.{Ticket}
use Rattle.rules.specs.declared.ticket.Writing.{Writing}
use Rattle.rules.specs.Chunks.{chunks, sizes_ok}
use Rattle.rules.specs.Submissions.{Transfer, Outcome, landed, lost, Loss, loss_refusal, loss_failure}
use Rattle.rules.specs.declared.opening.Opening.{Opening}
use Rattle.rules.specs.State.{State, with_ticket, with_tracker, with_hinting, with_flushing}
use Rattle.rules.specs.Track.{begun, finished, credited, poisoned, up}
use Rattle.rules.specs.Tree.{Prog, done, ask, submit}
use Rattle.rules.specs.Ends.{change, spend_rule}
use Rattle.rules.specs.Finishes.{keep}
use Rattle.rules.specs.Begins.{last_offset}

-- ---- the ticket and its opening

-- what a ticket is of: itself and its opening
pub record Held : Type 0 where
  pub step : Step
  pub of : ℕ
  pub opening : Opening

abbrev pub with_its : Ticket → Option Opening → Option Held
with_its k None = None
with_its k (Some o) = Some (record { step = k.step; of = k.opening; opening = o })

abbrev pub its_opening : State → Option Ticket → Option Held
its_opening s None = None
its_opening s (Some k) = with_its k (s.openings.at k.opening)

-- a call on a ticket, and 18 where there is none
abbrev pub on_ticket : {R : Type 0} → State → (Held → Prog (Result R Fault × State)) → Option Held → Prog (Result R Fault × State)
on_ticket s rule None = done (Err Unknown, s)
on_ticket s rule (Some h) = rule h

abbrev pub ticket_rule : {R : Type 0} → State → ℕ → (Held → Prog (Result R Fault × State)) → Prog (Result R Fault × State)
ticket_rule s t rule = on_ticket s rule (its_opening s (s.tickets.at t))

-- ---- run

-- a write in so many submissions, a resize, or a write that has become a counted flush on its ticket
pub data Ran : Type 0 where
  ran : ℕ → Ran
  resized : Ran
  flush : ℕ → Ran

abbrev pub Out : Type 0
Out = Result Ran Fault × State

-- what is brought to a run is what was begun, by its length and its chunk count
abbrev pub as_begun : ℕ → ℕ → List ℕ → List ℕ → Bool
as_begun size count body lengths = sizes_ok (length body) lengths && (length body == size && chunks lengths == count)

-- one chunk with neither SYNC nor a live hint goes by the single-buffer path
abbrev pub live_hint : Account → Writing → Bool
live_hint a w = w.hinted && a.hinting

abbrev pub transfer : Account → Writing → List ℕ → List ℕ → Transfer
transfer a w body lengths = record { file = a.file; offset = w.offset; body = body; lengths = lengths; single = w.chunks == 1 && (not w.sync && not (live_hint a w)); durably = w.fused }

-- a hint that was live and is no more is dropped for the opening
abbrev pub hint_after : Bool → Bool → Account → Account
hint_after was is a = with_hinting a (a.hinting && (not was || is))

abbrev pub finish_it : Account → Account
finish_it a = with_tracker a (finished a.tracker)

-- a lost fused write is a counted mutation that never finishes, and its failure is kept
abbrev pub spoil : Loss → Account → Account
spoil l a = with_tracker a (poisoned (begun a.tracker) (loss_failure l))

-- an unfused SYNC write that has landed counts its flush, its own finish among it
abbrev pub flush_next : State → ℕ → ℕ → Account → ℕ → Prog Out
flush_next s t n a count = done (Ok (flush count), with_ticket s t (Some (record { opening = n; step = Flush (up a.tracker.completed) })))

abbrev pub landed_rule : State → ℕ → ℕ → Account → Writing → ℕ → Prog Out
landed_rule s t n a w count =
    cond w.fused (spend_rule s t n (Ok (ran count)))
    (cond w.sync (flush_next (change s n finish_it) t n a count) (spend_rule (change s n finish_it) t n (Ok (ran count))))

abbrev pub lost_rule : State → ℕ → ℕ → Writing → Loss → Prog Out
lost_rule s t n w l = spend_rule (cond w.fused (change s n (spoil l)) s) t n (Err (loss_refusal l))

abbrev pub transferred : State → ℕ → ℕ → Account → Writing → Outcome → Prog Out
transferred s t n a w (landed count hint) = landed_rule (change s n (hint_after (live_hint a w) hint)) t n a w count
transferred s t n a w (lost l hint) = lost_rule (change s n (hint_after (live_hint a w) hint)) t n w l

abbrev pub transfer_rule : State → ℕ → ℕ → Account → Writing → List ℕ → List ℕ → Prog Out
transfer_rule s t n a w body lengths = submit (transfer a w body lengths) (live_hint a w) (transferred s t n a w)

-- a fused write waits for a running flush, and a kept failure refuses it unasked
abbrev pub unless_failed : {R : Type 0} → State → ℕ → ℕ → Option Failure → Prog (Result R Fault × State) → Prog (Result R Fault × State)
unless_failed s t n None rest = rest
unless_failed s t n (Some f) rest = spend_rule s t n (Err (refusal f))

abbrev pub run_fused : State → ℕ → ℕ → Account → Writing → List ℕ → List ℕ → Prog Out
run_fused s t n a w body lengths =
    cond a.flushing (done (Err Flushing, s)) (unless_failed s t n a.tracker.failure (transfer_rule s t n a w body lengths))

abbrev pub run_write : State → ℕ → ℕ → Account → Writing → List ℕ → List ℕ → Prog Out
run_write s t n a w body lengths = cond w.fused (run_fused s t n a w body lengths) (transfer_rule s t n a w body lengths)

abbrev pub resize_answered : State → ℕ → ℕ → Result (Unit {0}) ResizeFault → Prog Out
resize_answered s t n (Ok u) = spend_rule (change s n finish_it) t n (Ok resized)
resize_answered s t n (Err e) = spend_rule s t n (Err (BlobResizeFailed e.0))

-- past the largest offset of a file the disk is not asked
abbrev pub run_resize : State → ℕ → ℕ → Account → FileOffset → Prog Out
run_resize s t n a end =
    cond (nat_le end last_offset) (ask (ask_resize a.file end) (resize_answered s t n)) (spend_rule s t n (Err (BlobResizeFailed (Code 22))))

abbrev pub unless_mismatched : {R : Type 0} → State → Bool → Prog (Result R Fault × State) → Prog (Result R Fault × State)
unless_mismatched s ok rest = cond ok rest (done (Err Mismatched, s))

abbrev pub run_step : State → ℕ → ℕ → Account → List ℕ → List ℕ → Step → Prog Out
run_step s t n a body lengths (Write w) = unless_mismatched s (as_begun w.length w.chunks body lengths) (run_write s t n a w body lengths)
run_step s t n a body lengths (Resize end) = unless_mismatched s (as_begun 0 0 body lengths) (run_resize s t n a end)
run_step s t n a body lengths (Flush seen) = done (Err Mismatched, s)
run_step s t n a body lengths (Running seen mark) = done (Err Mismatched, s)

abbrev pub run_rule : State → ℕ → List ℕ → List ℕ → Prog Out
run_rule s t body lengths = ticket_rule s t (λ h. run_step s t h.of h.opening.account body lengths h.step)

-- ---- the two halves of a flush

abbrev pub Half : Type 0
Half = Result (Unit {0}) Fault × State

abbrev pub runs_now : Account → Account
runs_now a = with_flushing a true

abbrev pub started : State → ℕ → ℕ → ℕ → ℕ → Prog Half
started s t n seen mark = done (Ok tt, with_ticket (change s n runs_now) t (Some (record { opening = n; step = Running seen mark })))

abbrev pub start_step : State → ℕ → ℕ → Account → Step → Prog Half
start_step s t n a (Write w) = done (Err Mismatched, s)
start_step s t n a (Resize end) = done (Err Mismatched, s)
start_step s t n a (Flush seen) =
    cond a.flushing (done (Err Flushing, s)) (unless_failed s t n a.tracker.failure (ask (ask_start a.file) (started s t n seen)))
start_step s t n a (Running seen mark) = done (Err Mismatched, s)

abbrev pub start_rule : State → ℕ → Prog Half
start_rule s t = ticket_rule s t (λ h. start_step s t h.of h.opening.account h.step)

-- its flush no longer runs
abbrev pub runs_no_more : Account → Account
runs_no_more a = with_flushing a false

abbrev pub flush_succeeded : ℕ → Account → Account
flush_succeeded seen a = with_tracker (runs_no_more a) (credited a.tracker seen)

abbrev pub flush_failed : Failure → Account → Account
flush_failed f a = keep f (runs_no_more a)

-- a failed barrier is kept, and never asked again
abbrev pub end_answered : State → ℕ → ℕ → ℕ → Result (Unit {0}) FlushFault → Prog Half
end_answered s t n seen (Ok u) = spend_rule (change s n (flush_succeeded seen)) t n (Ok tt)
end_answered s t n seen (Err e) = spend_rule (change s n (flush_failed (Sync e.0))) t n (Err (BlobSyncFailed e.0))

abbrev pub end_step : State → ℕ → ℕ → Account → Step → Prog Half
end_step s t n a (Write w) = done (Err Mismatched, s)
end_step s t n a (Resize end) = done (Err Mismatched, s)
end_step s t n a (Flush seen) = done (Err Mismatched, s)
end_step s t n a (Running seen mark) = ask (ask_end a.file mark) (end_answered s t n seen)

abbrev pub flush_end_rule : State → ℕ → Prog Half
flush_end_rule s t = ticket_rule s t (λ h. end_step s t h.of h.opening.account h.step)

-- ---- abandon

-- a running flush runs no more; its barrier is never ended
abbrev pub abandoned : Step → Account → Account
abandoned (Write w) a = a
abandoned (Resize end) a = a
abandoned (Flush seen) a = a
abandoned (Running seen mark) a = runs_no_more a

abbrev pub abandon_rule : State → ℕ → Prog Half
abandon_rule s t = ticket_rule s t (λ h. spend_rule (change s h.of (abandoned h.step)) t h.of (Ok tt))
