-- Open: what it asks of the disk, answers and leaves. Assumes nothing.
use Rattle.std.specs.Prelude.{ℕ, ◌+◌, ◌-◌, Bool, true, false, cond, ◌&&◌, ◌||◌, List, length, is_some, Some, None, Ok, Err, Option, Result, ◌==◌, nat_le, nat_lt}
use Rattle.std.specs.Option.{option_map}
use Rattle.faults.specs.Numbers.{refusal}
use Rattle.faults.specs.Kinds.{OpenFault, WriteFault, LengthFault}
use Rattle.faults.specs.declared.store.Fault.{Fault}
use Rattle.faults.specs.declared.store.Fault.TheVariants.{PartitionNameInvalid, BlobNameInvalid, TooLarge, Full, Exhausted, BlobAlreadyOpen, Io, ReadFailed, BlobOpenFailed}
use Rattle.faults.specs.declared.store.Failure.{Failure}
use Rattle.faults.specs.declared.store.Failure.TheVariants.{Header}
use Rattle.keys.specs.KeyName.{KeyName}
use Rattle.keys.specs.Names.{partition_ok, name_ok}
use Rattle.table.specs.Maps.{taken}
use Rattle.disk.specs.Requests.{ask_open, ask_close, ask_length, ask_header, ask_flush_directory, ask_flush_root}
use Rattle.rules.specs.declared.opening.Account.{Account}
use Rattle.rules.specs.declared.opening.Mode.{Mode}
use Rattle.rules.specs.declared.opening.Mode.TheVariants.{Existing, Fresh}
use Rattle.rules.specs.declared.opening.Stage.TheVariants.{Owing, Blob}
use Rattle.rules.specs.declared.pending.Entry.{Entry}
use Rattle.rules.specs.State.{State, with_name, with_opening, with_admitted}
use Rattle.rules.specs.Chunks.{header_ok}
use Rattle.rules.specs.Track.{untouched}
use Rattle.rules.specs.Tree.{Prog, done, ask}
use Rattle.rules.specs.Ends.{live, end_rule}

-- a blob with its number and its length, or an opening that owes
pub data Opened : Type 0 where
  blob : ℕ → ℕ → Opened
  owing : ℕ → Opened

abbrev pub Out : Type 0
Out = Result Opened Fault × State

-- ---- the refusals before the disk is asked, in their order

-- the first refusal whose condition is not met
abbrev pub unless : Bool → Fault → Option Fault → Option Fault
unless ok f rest = cond ok rest (Some f)

-- a place is left for an opening, and for its name if that is new
abbrev pub room : State → KeyName → Bool
room s q = (is_some (s.names.at q) || nat_lt (taken s.names) 64) && nat_lt (taken s.openings) 128

abbrev pub open_refused : State → KeyName → ℕ → Option Fault
open_refused s q size =
    unless (partition_ok q.partition) PartitionNameInvalid
    (unless (name_ok q.name) BlobNameInvalid
    (unless (header_ok size) TooLarge
    (unless (room s q) Full
    (unless (nat_lt s.admitted 1000000) Exhausted None))))

-- ---- admission

-- an existing name is refused while its opening has not ended, and then with its failure
abbrev pub barred_while : Bool → Entry → Option Fault
barred_while lives e = cond lives (Some BlobAlreadyOpen) (option_map refusal e.failure)

abbrev pub barred : State → Option Entry → Option Fault
barred s None = None
barred s (Some e) = barred_while (live s e.opening) e

-- the opening that the entry waits for, and whether it is dirty
abbrev pub waits : Option Entry → Option ℕ
waits None = None
waits (Some e) = e.unsettled

abbrev pub soiled : Option Entry → Bool
soiled None = false
soiled (Some e) = e.dirty

-- an opening owes if its entry waits for an unsettled opening or is dirty
abbrev pub owes : Option Entry → Bool
owes was = is_some (waits was) || soiled was

-- the entry of a new opening takes over what earlier ones left, but no failure
abbrev pub new_entry : ℕ → Option Entry → Entry
new_entry n was = record { opening = n; unsettled = waits was; dirty = soiled was; failure = None }

abbrev pub new_account : ℕ → ℕ → Option Entry → Account
new_account file offset was = record { file = file; offset = offset; stage = cond (owes was) Owing Blob; tracker = untouched; predecessor = waits was; out = 0; hinting = true; flushing = false; mutations = 0; syncs = 0; skipped = 0 }

abbrev pub new_number : State → ℕ
new_number s = s.admitted + 1

-- the next opening is admitted to q, whose entry was this, or none where it is forgotten
abbrev pub admit : State → KeyName → ℕ → ℕ → Option Entry → State
admit s q file offset was =
    with_admitted
    (with_opening
    (with_name s q (Some (new_entry (new_number s) was)))
    (new_number s) (Some (record { key = q; account = new_account file offset was })))
    (new_number s)

-- ---- what follows admission

-- a file that reaches its data offset yields a blob; any other ends the opening
abbrev pub measured : State → ℕ → ℕ → Result ℕ LengthFault → Prog Out
measured s n offset (Ok len) = cond (nat_le offset len) (done (Ok (blob n (len - offset)), s)) (end_rule s n (Err ReadFailed))
measured s n offset (Err e) = end_rule s n (Err ReadFailed)

abbrev pub measure_rule : State → ℕ → ℕ → ℕ → Prog Out
measure_rule s n file offset = ask (ask_length file) (measured s n offset)

-- without debt the length is read
abbrev pub yield_rule : State → ℕ → ℕ → ℕ → Bool → Prog Out
yield_rule s n file offset debt = cond debt (done (Ok (owing n), s)) (measure_rule s n file offset)

abbrev pub existing_from : State → KeyName → ℕ → ℕ → Option Fault → Prog Out
existing_from s q file offset (Some f) = ask (ask_close file) (λ _. done (Err f, s))
existing_from s q file offset None = yield_rule (admit s q file offset (s.names.at q)) (new_number s) file offset (owes (s.names.at q))

abbrev pub existing_rule : State → KeyName → ℕ → ℕ → Prog Out
existing_rule s q file offset = existing_from s q file offset (barred s (s.names.at q))

-- a failure of the opening n is kept in the entry, if that is still its own
abbrev pub failing : ℕ → Failure → Entry → Entry
failing n f e = cond (e.opening == n) (record { opening = e.opening; unsettled = e.unsettled; dirty = e.dirty; failure = Some f }) e

abbrev pub fail_name : State → KeyName → ℕ → Failure → State
fail_name s q n f = with_name s q (option_map (failing n f) (s.names.at q))

abbrev pub fresh_header : State → KeyName → ℕ → ℕ → ℕ → Result (Unit {0}) WriteFault → Prog Out
fresh_header s q n file offset (Ok u) = measure_rule s n file offset
fresh_header s q n file offset (Err e) = end_rule (fail_name s q n (Header e.0)) n (Err (Io e.0))

abbrev pub fresh_root : State → KeyName → ℕ → ℕ → List ℕ → Result (Unit {0}) WriteFault → Prog Out
fresh_root s q n file header (Ok u) = ask (ask_header file header) (fresh_header s q n file (length header))
fresh_root s q n file header (Err e) = end_rule s n (Err (Io e.0))

abbrev pub fresh_directory : State → KeyName → ℕ → ℕ → List ℕ → Result (Unit {0}) WriteFault → Prog Out
fresh_directory s q n file header (Ok u) = ask ask_flush_root (fresh_root s q n file header)
fresh_directory s q n file header (Err e) = end_rule s n (Err (Io e.0))

-- directory and root are flushed before the header is laid, so that no header stands under a name that may vanish
abbrev pub lay_rule : State → KeyName → ℕ → ℕ → List ℕ → Prog Out
lay_rule s q n file header = ask (ask_flush_directory q.partition) (fresh_directory s q n file header)

-- a fresh opening forgets the entry first
abbrev pub fresh_rule : State → KeyName → ℕ → List ℕ → Prog Out
fresh_rule s q file header = lay_rule (admit s q file (length header) None) q (new_number s) file header

-- ---- the call

abbrev pub opened_as : State → KeyName → List ℕ → ℕ → Mode → Prog Out
opened_as s q header file Existing = existing_rule s q file (length header)
opened_as s q header file Fresh = fresh_rule s q file header

abbrev pub opened : State → KeyName → Mode → List ℕ → Result ℕ OpenFault → Prog Out
opened s q mode header (Ok file) = opened_as s q header file mode
opened s q mode header (Err e) = done (Err (BlobOpenFailed e.0), s)

abbrev pub open_checked : State → KeyName → Mode → List ℕ → Option Fault → Prog Out
open_checked s q mode header (Some f) = done (Err f, s)
open_checked s q mode header None = ask (ask_open q) (opened s q mode header)

abbrev pub open_rule : State → KeyName → Mode → List ℕ → Prog Out
open_rule s q mode header = open_checked s q mode header (open_refused s q (length header))
