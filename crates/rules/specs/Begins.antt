-- Write, resize and sync: what begins with a ticket. None asks the disk. Assumes nothing.
use Rattle.std.specs.Prelude.{ℕ, ◌+◌, Bool, false, cond, ◌&&◌, List, Some, None, Ok, Err, Option, Result, ◌==◌, nat_le, nat_lt}
use Rattle.std.specs.Option.{option_map}
use Rattle.faults.specs.Numbers.{refusal}
use Rattle.faults.specs.declared.store.Fault.{Fault}
use Rattle.faults.specs.declared.store.Fault.TheVariants.{TooLarge, Full, Exhausted, OffsetOverflow}
use Rattle.table.specs.Maps.{taken}
use Rattle.rules.specs.declared.opening.Account.{Account}
use Rattle.rules.specs.declared.ticket.Step.{Step}
use Rattle.rules.specs.declared.ticket.Step.TheVariants.{Write, Resize, Flush}
use Rattle.rules.specs.declared.ticket.Writing.{Writing}
use Rattle.rules.specs.Chunks.{batch, chunks, sizes_ok}
use Rattle.rules.specs.declared.opening.Opening.{Opening}
use Rattle.rules.specs.State.{State, with_ticket, with_given, with_tracker, with_mutations, with_syncs, with_out}
use Rattle.rules.specs.Track.{begun, is_dirty, up}
use Rattle.rules.specs.Tree.{Prog, done}
use Rattle.rules.specs.Ends.{change}
use Rattle.rules.specs.Opens.{unless}
use Rattle.rules.specs.Finishes.{at_stage, blob_stage}

-- the first refusal of two
abbrev pub or_else : Option Fault → Option Fault → Option Fault
or_else None rest = rest
or_else (Some f) rest = Some f

-- a place left for a ticket, and a mutation or a sync left to begin in the opening
abbrev pub ticket_room : State → Bool
ticket_room s = nat_lt (taken s.tickets) 256

abbrev pub most_begun : ℕ
most_begun = 16000000

-- the largest number of 64 bits, and the largest offset of a file
abbrev pub last_word : ℕ
last_word = 18446744073709551615

abbrev pub last_offset : ℕ
last_offset = 9223372036854775807

-- so many begun in the opening leave one more, and there is a number for a ticket
abbrev pub one_left : State → ℕ → Bool
one_left s begun = nat_lt begun most_begun && nat_lt s.given last_word

-- ---- a ticket is given

abbrev pub new_ticket : State → ℕ
new_ticket s = s.given + 1

abbrev pub give : State → ℕ → Step → (Account → Account) → State
give s n step f =
    with_given (with_ticket (change s n (λ a. f (with_out a (up a.out)))) (new_ticket s) (Some (record { opening = n; step = step }))) (new_ticket s)

-- a mutation is begun, and counted unless it is fused
abbrev pub mutation_begun : Bool → Account → Account
mutation_begun fused a = with_tracker (with_mutations a (a.mutations + 1)) (cond fused a.tracker (begun a.tracker))

-- ---- write

-- a ticket, or nothing to do for an empty body
pub data Begun : Type 0 where
  ticket : ℕ → Begun
  nothing : Begun

pub record Options : Type 0 where
  pub sync : Bool
  pub nocache : Bool

-- a SYNC write in at most as many chunks as one submission takes is fused
abbrev pub is_fused : Options → List ℕ → Bool
is_fused x lengths = x.sync && nat_le (chunks lengths) batch

abbrev pub writing : Opening → ℕ → ℕ → List ℕ → Options → Writing
writing o place size lengths x = record { offset = place + o.account.offset; length = size; chunks = chunks lengths; fused = is_fused x lengths; sync = x.sync; hinted = x.nocache }

-- the refusals of a body that has bytes, after 3 and the sum of the offsets
abbrev pub kept_refusal : Bool → Opening → Option Fault
kept_refusal asked o = cond asked (option_map refusal o.account.tracker.failure) None

abbrev pub write_refused : State → Opening → ℕ → ℕ → Options → Option Fault
write_refused s o place size x =
    unless (nat_le (place + o.account.offset + size) last_offset) OffsetOverflow
    (or_else (kept_refusal x.sync o)
    (unless (one_left s o.account.mutations) Exhausted
    (unless (ticket_room s) Full None)))

abbrev pub write_begun : State → ℕ → Opening → ℕ → ℕ → List ℕ → Options → Option Fault → Result Begun Fault × State
write_begun s n o place size lengths x (Some f) = (Err f, s)
write_begun s n o place size lengths x None =
    (Ok (ticket (new_ticket s)), give s n (Write (writing o place size lengths x)) (mutation_begun (is_fused x lengths)))

-- an empty body is written at once
abbrev pub write_sized : State → ℕ → Opening → ℕ → ℕ → List ℕ → Options → Option Fault → Result Begun Fault × State
write_sized s n o place size lengths x (Some f) = (Err f, s)
write_sized s n o place size lengths x None =
    cond (size == 0) (Ok nothing, s) (write_begun s n o place size lengths x (write_refused s o place size x))

abbrev pub size_refused : Opening → ℕ → ℕ → List ℕ → Option Fault
size_refused o place size lengths =
    unless (sizes_ok size lengths) TooLarge (unless (nat_le (place + o.account.offset) last_word) OffsetOverflow None)

abbrev pub write_open : State → ℕ → ℕ → ℕ → List ℕ → Options → Opening → Prog (Result Begun Fault × State)
write_open s n place size lengths x o = done (write_sized s n o place size lengths x (size_refused o place size lengths))

-- `size` bytes at the blob offset `place`, cut by the lengths
abbrev pub write_rule : State → ℕ → ℕ → ℕ → List ℕ → Options → Prog (Result Begun Fault × State)
write_rule s n place size lengths x = at_stage s blob_stage (write_open s n place size lengths x) (s.openings.at n)

-- ---- resize

abbrev pub resize_refused : State → Opening → ℕ → Option Fault
resize_refused s o size =
    unless (nat_le (size + o.account.offset) last_word) OffsetOverflow
    (unless (one_left s o.account.mutations) Exhausted
    (unless (ticket_room s) Full None))

abbrev pub resize_begun : State → ℕ → Opening → ℕ → Option Fault → Result ℕ Fault × State
resize_begun s n o size (Some f) = (Err f, s)
resize_begun s n o size None = (Ok (new_ticket s), give s n (Resize (size + o.account.offset)) (mutation_begun false))

abbrev pub resize_rule : State → ℕ → ℕ → Prog (Result ℕ Fault × State)
resize_rule s n size = at_stage s blob_stage (λ o. done (resize_begun s n o size (resize_refused s o size))) (s.openings.at n)

-- ---- sync

-- a ticket for the flush that was counted, or nothing to flush
pub data Syncing : Type 0 where
  counted : ℕ → Syncing
  skipped : Syncing

abbrev pub sync_refused : State → Opening → Option Fault
sync_refused s o = or_else (option_map refusal o.account.tracker.failure) (unless (one_left s o.account.syncs) Exhausted None)

abbrev pub sync_skipped : Account → Account
sync_skipped a = with_syncs a (a.syncs + 1) (up a.skipped)

abbrev pub sync_counted : Account → Account
sync_counted a = with_syncs a (a.syncs + 1) a.skipped

-- the flush counts what is finished now; what finishes later is not covered by it
abbrev pub sync_begun : State → ℕ → Opening → Option Fault → Result Syncing Fault × State
sync_begun s n o (Some f) = (Err f, s)
sync_begun s n o None =
    cond (is_dirty o.account.tracker)
    (cond (ticket_room s) (Ok (counted (new_ticket s)), give s n (Flush o.account.tracker.completed) sync_counted) (Err Full, s))
    (Ok skipped, change s n sync_skipped)

abbrev pub sync_rule : State → ℕ → Prog (Result Syncing Fault × State)
sync_rule s n = at_stage s blob_stage (λ o. done (sync_begun s n o (sync_refused s o))) (s.openings.at n)
