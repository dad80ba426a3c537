-- The cases of the rules. Each begins with an empty store; `open_fresh` gives its first blob, of number 1, on file 0, whose
-- data begin at offset 16. Assumes nothing.
use Rattle.std.specs.Prelude.{ℕ, ◌-◌, ◌^◌, true, false, List, [], ◌∷◌, ◌++◌, replicate, Ok, Err, Result}
use Rattle.faults.specs.declared.disk.DiskFault.TheVariants.{Code}
use Rattle.faults.specs.Kinds.{failed, WriteFault}
use Rattle.faults.specs.declared.store.Fault.{Fault}
use Rattle.faults.specs.declared.store.Fault.TheVariants.{BlobAlreadyOpen, OffsetOverflow, Io, WriteFailed, BlobSyncFailed, BlobResizeFailed, Flushing, Unsettled}
use Rattle.keys.specs.KeyName.{KeyName}
use Rattle.disk.specs.Requests.{ask_open, ask_close, ask_length, ask_write, ask_start, ask_end, ask_header, ask_flush_directory, ask_flush_root, ask_unbind, ask_unbind_partition}
use Rattle.disk.specs.declared.path.Path.{Path}
use Rattle.disk.specs.declared.path.Path.TheVariants.{Single, Vectored}
use Rattle.rules.specs.declared.opening.Mode.TheVariants.{Existing, Fresh}
use Rattle.rules.specs.Opens.{blob, owing}
use Rattle.rules.specs.Begins.{Options, ticket, nothing, counted, skipped}
use Rattle.rules.specs.Tickets.{Ran, ran, flush}
use Rattle.rules.specs.Calls.{Call, Reply, of_blob, to_open, to_finish, to_give_up, to_close, to_write, to_resize, to_sync, to_run, to_start, to_end, to_abandon, to_remove_name, to_remove_partition, to_count, to_list}
use Rattle.cases.specs.Scripts.{Said, Turn}

-- ---- turns

abbrev pub asks : (c : Call) → List Said → Reply c → Turn
asks c said reply = record { call = c; said = said; reply = reply }

-- the disk is not asked
abbrev pub quiet : (c : Call) → Reply c → Turn
quiet c reply = asks c [] reply

-- the name n in the partition p, and its header of 16 bytes
abbrev pub key : KeyName
key = record { partition = 112 ∷ []; name = 110 ∷ [] }

abbrev pub header : List ℕ
header = replicate 16 104

-- a fresh opening of this number, on this file: an empty blob
abbrev pub open_fresh : ℕ → ℕ → Turn
open_fresh n file =
    asks (to_open key Fresh header) ((ask_open key, Ok file) ∷ (ask_flush_directory (112 ∷ []), Ok tt) ∷ (ask_flush_root, Ok tt) ∷ (ask_header file header, Ok tt) ∷ (ask_length file, Ok 16) ∷ []) (Ok (blob n 0))

-- an opening of this number, on this file, that owes
abbrev pub open_owing : ℕ → ℕ → Turn
open_owing n file = asks (to_open key Existing header) ((ask_open key, Ok file) ∷ []) (Ok (owing n))

-- the blob of this number and file is closed with no ticket out
abbrev pub closes : ℕ → ℕ → Turn
closes n file = asks (to_close n) ((ask_close file, tt) ∷ []) (Ok tt)

-- or with some: the file stays open
abbrev pub closes_early : ℕ → Turn
closes_early n = quiet (to_close n) (Ok tt)

-- the ticket of an opening that goes on is abandoned
abbrev pub abandons : ℕ → Turn
abandons t = quiet (to_abandon t) (Ok tt)

-- or the last ticket of an ended opening on this file
abbrev pub abandons_last : ℕ → ℕ → Turn
abandons_last t file = asks (to_abandon t) ((ask_close file, tt) ∷ []) (Ok tt)

-- blob 1 has counted so many mutations written, completed and synced
abbrev pub counts : ℕ → ℕ → ℕ → Turn
counts w c s = quiet (to_count of_blob 1) (Ok (w, c, s))

-- the keys that have an entry
abbrev pub lists : List KeyName → Turn
lists keys = quiet to_list (Ok keys)

abbrev pub plain : Options
plain = record { sync = false; nocache = false }

abbrev pub synced : Options
synced = record { sync = true; nocache = false }

abbrev pub hinted : Options
hinted = record { sync = false; nocache = true }

-- so many bytes, and lengths that make each a chunk of its own
abbrev pub bytes : ℕ → List ℕ
bytes n = replicate n 7

abbrev pub ones : ℕ → List ℕ
ones n = replicate n 1

-- ticket t: a write of so many bytes to blob 1, at this place
abbrev pub writes : ℕ → ℕ → ℕ → Options → Turn
writes t place n x = quiet (to_write 1 place (bytes n) (ones n) x) (Ok (ticket t))

-- ticket t: a flush of blob 1
abbrev pub syncs : ℕ → Turn
syncs t = quiet (to_sync 1) (Ok (counted t))

-- one byte on its way to the beginning of blob 1, and the answer
abbrev pub byte_by : Path → Result ℕ WriteFault → Said
byte_by path answer = (ask_write 0 16 (bytes 1) path, answer)

-- the ticket's one byte goes down so
abbrev pub runs_byte : (t : ℕ) → List Said → Result Ran Fault → Turn
runs_byte t said reply = asks (to_run t (bytes 1) (ones 1)) said reply

-- by the single-buffer path, at once
abbrev pub runs : ℕ → Turn
runs t = runs_byte t (byte_by Single (Ok 1) ∷ []) (Ok (ran 1))

-- the barrier of a flush on file 0 begins, and gets this mark
abbrev pub starts : ℕ → ℕ → Turn
starts t mark = asks (to_start t) ((ask_start 0, mark) ∷ []) (Ok tt)

-- it ends well, or with code 5
abbrev pub ends : ℕ → ℕ → Turn
ends t mark = asks (to_end t) ((ask_end 0 mark, Ok tt) ∷ []) (Ok tt)

abbrev pub ends_badly : ℕ → ℕ → Turn
ends_badly t mark = asks (to_end t) ((ask_end 0 mark, Err (failed (Code 5))) ∷ []) (Err (BlobSyncFailed (Code 5)))

-- ---- the cases

unfoldable pub cases : List (List Turn)
cases =
    -- a new blob has counted nothing, and its sync skips
    (open_fresh 1 0 ∷
    counts 0 0 0 ∷
    quiet (to_sync 1) (Ok skipped) ∷ []) ∷
    -- a sync counts what is finished when it begins: a write that is out then is not covered by it
    (open_fresh 1 0 ∷
    writes 1 0 1 plain ∷
    syncs 2 ∷
    runs 1 ∷
    starts 2 30 ∷ ends 2 30 ∷
    counts 1 1 0 ∷ []) ∷
    -- two syncs counted the same write. The first succeeds; the second meets code 5, and the next one is refused with 10
    (open_fresh 1 0 ∷
    writes 1 0 1 plain ∷ runs 1 ∷
    syncs 2 ∷ syncs 3 ∷
    starts 2 30 ∷ ends 2 30 ∷
    counts 1 1 1 ∷
    starts 3 31 ∷ ends_badly 3 31 ∷
    counts 1 1 1 ∷
    quiet (to_sync 1) (Err (BlobSyncFailed (Code 5))) ∷ []) ∷
    -- while a flush of an opening runs, another is refused with 16; one that has counted less and ends later takes nothing back
    (open_fresh 1 0 ∷
    writes 1 0 1 plain ∷ syncs 2 ∷
    runs 1 ∷ syncs 3 ∷
    starts 3 30 ∷
    quiet (to_start 2) (Err Flushing) ∷
    ends 3 30 ∷
    counts 1 1 1 ∷
    starts 2 31 ∷ ends 2 31 ∷
    counts 1 1 1 ∷
    quiet (to_sync 1) (Ok skipped) ∷ []) ∷
    -- an empty write at the largest number of 64 bits does nothing, and one further it is refused with 7
    (open_fresh 1 0 ∷
    quiet (to_write 1 (2 ^ 64 - 17) [] [] plain) (Ok nothing) ∷
    quiet (to_write 1 (2 ^ 64 - 16) [] [] plain) (Err OffsetOverflow) ∷ []) ∷
    -- a byte that ends at the largest offset of a file is accepted, and one further it is refused with 7 and not counted
    (open_fresh 1 0 ∷
    writes 1 (2 ^ 63 - 18) 1 plain ∷
    quiet (to_write 1 (2 ^ 63 - 17) (bytes 1) (ones 1) plain) (Err OffsetOverflow) ∷
    counts 1 0 0 ∷ []) ∷
    -- a resize past the largest offset is counted, and its run is refused with 11 and code 22, the disk not asked
    (open_fresh 1 0 ∷
    quiet (to_resize 1 (2 ^ 63 - 16)) (Ok 1) ∷
    counts 1 0 0 ∷
    quiet (to_run 1 [] []) (Err (BlobResizeFailed (Code 22))) ∷
    counts 1 0 0 ∷ []) ∷
    -- a SYNC write in 1,024 chunks is fused: one durable submission, and nothing counted
    (open_fresh 1 0 ∷
    writes 1 0 1024 synced ∷
    asks (to_run 1 (bytes 1024) (ones 1024)) ((ask_write 0 16 (bytes 1024) (Vectored true false), Ok 1024) ∷ []) (Ok (ran 1)) ∷
    counts 0 0 0 ∷ []) ∷
    -- in 1,025 chunks it is not: two plain submissions, and then a flush on its ticket
    (open_fresh 1 0 ∷
    writes 1 0 1025 synced ∷
    asks (to_run 1 (bytes 1025) (ones 1025)) ((ask_write 0 16 (bytes 1024) (Vectored false false), Ok 1024) ∷ (ask_write 0 1040 (bytes 1) (Vectored false false), Ok 1) ∷ []) (Ok (flush 2)) ∷
    counts 1 1 0 ∷
    starts 1 30 ∷ ends 1 30 ∷
    counts 1 1 1 ∷ []) ∷
    -- a fused write that lands nothing is refused with 9, is counted and never finishes, and refuses the next sync with 9
    (open_fresh 1 0 ∷
    writes 1 0 1 synced ∷
    runs_byte 1 (byte_by (Vectored true false) (Ok 0) ∷ []) (Err WriteFailed) ∷
    counts 1 0 0 ∷
    quiet (to_sync 1) (Err WriteFailed) ∷ []) ∷
    -- after a close with a write out the next opening owes. Once that is spent, one barrier on the new file finishes it
    (open_fresh 1 0 ∷
    writes 1 0 1 plain ∷
    closes_early 1 ∷
    open_owing 2 1 ∷
    quiet (to_finish 2) (Err Unsettled) ∷
    abandons_last 1 0 ∷
    asks (to_finish 2) ((ask_start 1, 30) ∷ (ask_end 1 30, Ok tt) ∷ (ask_length 1, Ok 21) ∷ []) (Ok (2, 5)) ∷
    closes 2 1 ∷
    lists [] ∷ []) ∷
    -- where a fused write was out, and has landed, no barrier is due
    (open_fresh 1 0 ∷
    writes 1 0 1 synced ∷
    closes_early 1 ∷
    open_owing 2 1 ∷
    runs_byte 1 (byte_by (Vectored true false) (Ok 1) ∷ (ask_close 0, tt) ∷ []) (Ok (ran 1)) ∷
    asks (to_finish 2) ((ask_length 1, Ok 17) ∷ []) (Ok (2, 1)) ∷ []) ∷
    -- an opening that owes and is given up leaves its name waiting for the one before
    (open_fresh 1 0 ∷
    writes 1 0 1 plain ∷
    closes_early 1 ∷
    open_owing 2 1 ∷
    asks (to_give_up 2) ((ask_close 1, tt) ∷ []) (Ok tt) ∷
    lists (key ∷ []) ∷
    open_owing 3 2 ∷
    quiet (to_finish 3) (Err Unsettled) ∷ []) ∷
    -- and dirty, where that has settled
    (open_fresh 1 0 ∷
    writes 1 0 1 plain ∷
    abandons 1 ∷
    closes 1 0 ∷
    open_owing 2 1 ∷
    asks (to_give_up 2) ((ask_close 1, tt) ∷ []) (Ok tt) ∷
    lists (key ∷ []) ∷
    open_owing 3 2 ∷ []) ∷
    -- a barrier for the debt that meets code 5 refuses the finish, and then each opening of the name, with 10
    (open_fresh 1 0 ∷
    writes 1 0 1 plain ∷
    abandons 1 ∷
    closes 1 0 ∷
    open_owing 2 1 ∷
    asks (to_finish 2) ((ask_start 1, 30) ∷ (ask_end 1 30, Err (failed (Code 5))) ∷ (ask_close 1, tt) ∷ []) (Err (BlobSyncFailed (Code 5))) ∷
    asks (to_open key Existing header) ((ask_open key, Ok 2) ∷ (ask_close 2, tt) ∷ []) (Err (BlobSyncFailed (Code 5))) ∷ []) ∷
    -- a fresh opening forgets what its name owed
    (open_fresh 1 0 ∷
    writes 1 0 1 plain ∷
    abandons 1 ∷
    closes 1 0 ∷
    lists (key ∷ []) ∷
    open_fresh 2 1 ∷
    closes 2 1 ∷
    lists [] ∷ []) ∷
    -- and what an earlier opening leaves later
    (open_fresh 1 0 ∷
    writes 1 0 1 plain ∷
    closes_early 1 ∷
    open_fresh 2 1 ∷
    abandons_last 1 0 ∷
    closes 2 1 ∷
    lists [] ∷ []) ∷
    -- a name that is open is refused with 6, and the file closed again
    (open_fresh 1 0 ∷
    asks (to_open key Existing header) ((ask_open key, Ok 1) ∷ (ask_close 1, tt) ∷ []) (Err BlobAlreadyOpen) ∷
    counts 0 0 0 ∷ []) ∷
    -- a removed name is forgotten with what it owed, and its blob goes on
    (open_fresh 1 0 ∷
    writes 1 0 1 plain ∷
    asks (to_remove_name key) ((ask_unbind key, Ok tt) ∷ (ask_flush_directory (112 ∷ []), Ok tt) ∷ []) (Ok tt) ∷
    lists [] ∷
    runs 1 ∷
    counts 1 1 0 ∷
    closes 1 0 ∷
    lists [] ∷ []) ∷
    -- so are the names of a removed partition
    (open_fresh 1 0 ∷
    writes 1 0 1 plain ∷
    abandons 1 ∷
    closes 1 0 ∷
    asks (to_remove_partition (112 ∷ [])) ((ask_unbind_partition (112 ∷ []), Ok tt) ∷ (ask_flush_root, Ok tt) ∷ []) (Ok tt) ∷
    lists [] ∷ []) ∷
    -- a hint that meets code 95 is dropped, for the write and then for its opening
    (open_fresh 1 0 ∷
    writes 1 0 1 hinted ∷
    runs_byte 1 (byte_by (Vectored false true) (Err (failed (Code 95))) ∷ byte_by (Vectored false false) (Ok 1) ∷ []) (Ok (ran 2)) ∷
    writes 2 0 1 hinted ∷
    runs 2 ∷ []) ∷
    -- 63 interruptions are borne
    (open_fresh 1 0 ∷
    writes 1 0 1 plain ∷
    runs_byte 1 (replicate 63 (byte_by Single (Err (failed (Code 4)))) ++ byte_by Single (Ok 1) ∷ []) (Ok (ran 64)) ∷
    counts 1 1 0 ∷ []) ∷
    -- 64 end the write with 8 and code 4
    (open_fresh 1 0 ∷
    writes 1 0 1 plain ∷
    runs_byte 1 (replicate 64 (byte_by Single (Err (failed (Code 4))))) (Err (Io (Code 4))) ∷
    counts 1 0 0 ∷ []) ∷
    -- nothing landed by the single-buffer path is 8 with code 0
    (open_fresh 1 0 ∷
    writes 1 0 1 plain ∷
    runs_byte 1 (byte_by Single (Ok 0) ∷ []) (Err (Io (Code 0))) ∷
    counts 1 0 0 ∷ []) ∷
    []
