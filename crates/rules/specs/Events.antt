-- What is told of a call: what the disk was after each of its requests, and what happened to openings, mutations and
-- flushes. Assumes nothing.
use Rattle.std.specs.Prelude.{ℕ, ◌+◌, Bool, true, false, cond, not, ◌&&◌, List, [], ◌∷◌, ◌++◌, Some, None, Ok, Err, Option, Result, ◌==◌}
use Rattle.faults.specs.Numbers.{number}
use Rattle.faults.specs.Kinds.{OpenFault, WriteFault, UnbindFault}
use Rattle.faults.specs.declared.store.Fault.{Fault}
use Rattle.keys.specs.KeyName.{KeyName}
use Rattle.disk.specs.Files.{DiskState, FileState}
use Rattle.disk.specs.Paths.{durable}
use Rattle.disk.specs.Requests.{Request, Answer, ask_open, ask_close, ask_length, ask_read, ask_write, ask_resize, ask_start, ask_end, ask_header, ask_flush_directory, ask_flush_root, ask_unbind, ask_unbind_partition}
use Rattle.rules.specs.declared.opening.Mode.{Mode}
use Rattle.rules.specs.declared.opening.Mode.TheVariants.{Existing, Fresh}
use Rattle.rules.specs.declared.ticket.Step.{Step}
use Rattle.rules.specs.declared.ticket.Step.TheVariants.{Write, Resize, Flush, Running}
use Rattle.rules.specs.declared.ticket.Ticket.{Ticket}
use Rattle.rules.specs.Submissions.{Transfer, Outcome, Submits, all, more, stuck, again, worn, unhinted, broken, path}
use Rattle.rules.specs.Chunks.{next_bytes}
use Rattle.rules.specs.declared.opening.Opening.{Opening}
use Rattle.rules.specs.State.{State}
use Rattle.rules.specs.Tree.{Prog, done, ask, submit, Runs}
use Rattle.rules.specs.Opens.{Opened, blob, owing, new_number}
use Rattle.rules.specs.Begins.{Begun, ticket, nothing, is_fused, Syncing, counted, skipped}
use Rattle.rules.specs.Tickets.{Ran, ran, resized, flush}
use Rattle.rules.specs.Calls.{Call, Reply, to_open, to_finish, to_give_up, to_close, to_write, to_resize, to_sync, to_run, to_start, to_end, to_abandon, to_remove_name, to_remove_partition, to_count, to_share, to_list, to_read}

-- ---- what is told

-- the keys that are forgotten together: one, or all of a partition
pub data Forgotten : Type 0 where
  one : KeyName → Forgotten
  all_in : List ℕ → Forgotten

pub data Item : Type 0 where
  -- a request was answered, and the disk stood for this then
  now_disk : DiskState → Item
  -- these keys were forgotten
  forgot : Forgotten → Item
  -- the opening was admitted to the key, on the file
  admitted : (opening : ℕ) → KeyName → (file : ℕ) → Mode → Item
  -- the opening became a blob
  yielded : (opening : ℕ) → Item
  -- a mutation of the opening was given its ticket; counted, or else fused
  begun : (opening ticket : ℕ) → (is_counted : Bool) → Item
  -- a counted mutation finished; so many mutations had landed on its file then
  finished : (opening ticket n : ℕ) → Item
  -- a fused write finished; every write asked for it was durable, or not
  landed : (opening ticket n : ℕ) → (durably : Bool) → Item
  -- a fused write was lost: it counts from here, and never finishes
  spoilt : (opening ticket : ℕ) → Item
  -- a flush of the opening was counted: its sync begins
  flush_counted : (opening ticket : ℕ) → Item
  -- the flush succeeded; so many mutations of its file were covered then
  flush_succeeded : (opening ticket k : ℕ) → Item
  -- the flush failed
  flush_failed : (opening ticket : ℕ) → Item
  -- a sync of the opening began and was skipped; so many mutations of its file were covered then
  sync_skipped : (opening k : ℕ) → Item

-- ---- the requests of a call, the oldest first, each with its answer and the disk after it

pub record Passage : Type 0 where
  pub request : Request
  pub answer : Answer request
  pub after : DiskState

module _ {S : Type 0} (did : S → (q : Request) → Answer q → S → Type 0) (meaning : S → DiskState) where
  abbrev pub submission : Transfer → ℕ → Bool → Result ℕ WriteFault → S → Passage
  submission w at hint a m = record { request = ask_write w.file (w.offset + at) (next_bytes w.body w.lengths at) (path w hint); answer = a; after = meaning m }

  abbrev pub submissions : {w : Transfer} {d e : S} {at k n : ℕ} {hint : Bool} {o : Outcome} → Submits did w d at k n hint o e → List Passage
  submissions (all whole) = []
  submissions {w} {at = at} {hint = hint} (more {m = m} left c some said rest) = submission w at hint (Ok c) m ∷ submissions rest
  submissions {w} {e = e} {at = at} {hint = hint} (stuck left said) = submission w at hint (Ok 0) e ∷ []
  submissions {w} {at = at} {hint = hint} (again {m = m} left f is few said rest) = submission w at hint (Err f) m ∷ submissions rest
  submissions {w} {e = e} {at = at} {hint = hint} (worn left f is many said) = submission w at hint (Err f) e ∷ []
  submissions {w} {at = at} {hint = hint} (unhinted {m = m} left f is live said rest) = submission w at hint (Err f) m ∷ submissions rest
  submissions {w} {e = e} {at = at} {hint = hint} (broken left f other plain said) = submission w at hint (Err f) e ∷ []

  abbrev pub trail : {R : Type 0} (p : Prog R) (d : S) (r : R) (e : S) → Runs did p d r e → List Passage
  trail (done x) d r e h = []
  trail (ask q k) d r e h = record { request = q; answer = h.0; after = meaning h.1 } ∷ trail (k h.0) h.1 r e h.3
  trail (submit w hint k) d r e h = submissions h.2 ++ trail (k h.0) h.1 r e h.3

-- ---- what a request was, as far as events go

pub data Kind : Type 0 where
  opened_file : ℕ → Kind
  closed : Kind
  wrote : (durably : Bool) → Kind
  unbound : Kind
  other : Kind

abbrev pub of_open : Result ℕ OpenFault → Kind
of_open (Ok f) = opened_file f
of_open (Err e) = other

abbrev pub of_unbind : Result (Unit {0}) UnbindFault → Kind
of_unbind (Ok u) = unbound
of_unbind (Err e) = other

abbrev pub kind : (q : Request) → Answer q → Kind
kind (ask_open q) a = of_open a
kind (ask_close f) a = closed
kind (ask_length f) a = other
kind (ask_read f at room) a = other
kind (ask_write f at given p) a = wrote (durable p)
kind (ask_resize f end) a = other
kind (ask_start f) a = other
kind (ask_end f mark) a = other
kind (ask_header f given) a = other
kind (ask_flush_directory p) a = other
kind ask_flush_root a = other
kind (ask_unbind q) a = of_unbind a
kind (ask_unbind_partition p) a = of_unbind a

abbrev pub kinds : List Passage → List Kind
kinds [] = []
kinds (x ∷ xs) = kind x.request x.answer ∷ kinds xs

-- the file that the first request opened
abbrev pub file_opened : List Kind → ℕ
file_opened [] = 0
file_opened (opened_file f ∷ ks) = f
file_opened (closed ∷ ks) = 0
file_opened (wrote d ∷ ks) = 0
file_opened (unbound ∷ ks) = 0
file_opened (other ∷ ks) = 0

-- whether the first request unbound something
abbrev pub did_unbind : List Kind → Bool
did_unbind [] = false
did_unbind (opened_file f ∷ ks) = false
did_unbind (closed ∷ ks) = false
did_unbind (wrote d ∷ ks) = false
did_unbind (unbound ∷ ks) = true
did_unbind (other ∷ ks) = false

-- whether every write was durable, and whether there was one at all
abbrev pub all_durable : List Kind → Bool
all_durable [] = true
all_durable (opened_file f ∷ ks) = all_durable ks
all_durable (closed ∷ ks) = all_durable ks
all_durable (wrote d ∷ ks) = d && all_durable ks
all_durable (unbound ∷ ks) = all_durable ks
all_durable (other ∷ ks) = all_durable ks

abbrev pub any_write : List Kind → Bool
any_write [] = false
any_write (opened_file f ∷ ks) = any_write ks
any_write (closed ∷ ks) = any_write ks
any_write (wrote d ∷ ks) = true
any_write (unbound ∷ ks) = any_write ks
any_write (other ∷ ks) = any_write ks

abbrev pub is_close : Kind → Bool
is_close (opened_file f) = false
is_close closed = true
is_close (wrote d) = false
is_close unbound = false
is_close other = false

-- ---- the events of a call, the oldest first

-- a file's n and k, or 0 where there is none
abbrev pub n_of : Option FileState → ℕ
n_of None = 0
n_of (Some x) = x.n

abbrev pub k_of : Option FileState → ℕ
k_of None = 0
k_of (Some x) = x.k

abbrev pub file_in : Option Opening → ℕ
file_in None = 0
file_in (Some o) = o.account.file

-- the file of an opening
abbrev pub file_of : State → ℕ → ℕ
file_of s n = file_in (s.openings.at n)

-- an existing opening refused with 12, and a fresh one with 8 or 12, was admitted
abbrev pub was_admitted : Mode → Fault → Bool
was_admitted Existing f = number f == 12
was_admitted Fresh f = cond (number f == 12) true (number f == 8)

-- fresh forgets the key first
abbrev pub admission : KeyName → ℕ → ℕ → Mode → List Item
admission q n f Existing = admitted n q f Existing ∷ []
admission q n f Fresh = forgot (one q) ∷ admitted n q f Fresh ∷ []

abbrev pub open_events : State → KeyName → Mode → ℕ → Result Opened Fault → List Item
open_events s q mode f (Ok (blob n len)) = admission q (new_number s) f mode ++ (yielded n ∷ [])
open_events s q mode f (Ok (owing n)) = admission q (new_number s) f mode
open_events s q mode f (Err e) = cond (was_admitted mode e) (admission q (new_number s) f mode) []

abbrev pub finish_events : ℕ → Result (ℕ × ℕ) Fault → List Item
finish_events n (Ok x) = yielded n ∷ []
finish_events n (Err e) = []

abbrev pub write_events : ℕ → Bool → Result Begun Fault → List Item
write_events n fused (Ok (ticket t)) = begun n t (not fused) ∷ []
write_events n fused (Ok nothing) = []
write_events n fused (Err e) = []

abbrev pub resize_events : ℕ → Result ℕ Fault → List Item
resize_events n (Ok t) = begun n t true ∷ []
resize_events n (Err e) = []

abbrev pub sync_events : ℕ → ℕ → Result Syncing Fault → List Item
sync_events n k (Ok (counted t)) = flush_counted n t ∷ []
sync_events n k (Ok skipped) = sync_skipped n k ∷ []
sync_events n k (Err e) = []

-- a fused write that was asked of the disk and refused with 8 or 9
abbrev pub is_lost : Fault → List Kind → Bool
is_lost e ks = any_write ks && cond (number e == 8) true (number e == 9)

abbrev pub fused_events : ℕ → ℕ → ℕ → List Kind → Result Ran Fault → List Item
fused_events n t count ks (Ok r) = landed n t count (all_durable ks) ∷ []
fused_events n t count ks (Err e) = cond (is_lost e ks) (spoilt n t ∷ []) []

abbrev pub counted_events : ℕ → ℕ → ℕ → Result Ran Fault → List Item
counted_events n t count (Ok (ran asked)) = finished n t count ∷ []
counted_events n t count (Ok resized) = finished n t count ∷ []
counted_events n t count (Ok (flush asked)) = finished n t count ∷ flush_counted n t ∷ []
counted_events n t count (Err e) = []

abbrev pub step_events : ℕ → ℕ → ℕ → List Kind → Result Ran Fault → Step → List Item
step_events n t count ks r (Write w) = cond w.fused (fused_events n t count ks r) (counted_events n t count r)
step_events n t count ks r (Resize end) = counted_events n t count r
step_events n t count ks r (Flush seen) = []
step_events n t count ks r (Running seen mark) = []

abbrev pub run_events : State → DiskState → ℕ → List Kind → Result Ran Fault → Option Ticket → List Item
run_events s m t ks r None = []
run_events s m t ks r (Some k) = step_events k.opening t (n_of (m (file_of s k.opening))) ks r k.step

abbrev pub end_events : State → DiskState → ℕ → Result (Unit {0}) Fault → Option Ticket → List Item
end_events s m t r None = []
end_events s m t (Ok u) (Some k) = flush_succeeded k.opening t (k_of (m (file_of s k.opening))) ∷ []
end_events s m t (Err e) (Some k) = cond (number e == 10) (flush_failed k.opening t ∷ []) []

abbrev pub remove_events : Forgotten → List Kind → List Item
remove_events p ks = cond (did_unbind ks) (forgot p ∷ []) []

-- the events of a call from the state s, where the disk stood for m before the close of a file that may end the call
abbrev pub events : State → DiskState → (c : Call) → Reply c → List Kind → List Item
events s m (to_open q mode header) r ks = open_events s q mode (file_opened ks) r
events s m (to_finish n) r ks = finish_events n r
events s m (to_give_up n) r ks = []
events s m (to_close n) r ks = []
events s m (to_write n at body lengths x) r ks = write_events n (is_fused x lengths) r
events s m (to_resize n size) r ks = resize_events n r
events s m (to_sync n) r ks = sync_events n (k_of (m (file_of s n))) r
events s m (to_run t body lengths) r ks = run_events s m t ks r (s.tickets.at t)
events s m (to_start t) r ks = []
events s m (to_end t) r ks = end_events s m t r (s.tickets.at t)
events s m (to_abandon t) r ks = []
events s m (to_remove_name q) r ks = remove_events (one q) ks
events s m (to_remove_partition p) r ks = remove_events (all_in p) ks
events s m (to_count h n) r ks = []
events s m (to_share h n) r ks = []
events s m to_list r ks = []
events s m (to_read n at room) r ks = []
