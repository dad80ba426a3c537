-- After a barrier that failed, a call asks for no other. Assumes nothing.
use Rattle.std.specs.Prelude.{◌≡◌, Bool, true, false, Err}
use Rattle.faults.specs.Kinds.{FlushFault}
use Rattle.disk.specs.Requests.{Request, Answer, ask_open, ask_close, ask_length, ask_read, ask_write, ask_resize, ask_start, ask_end, ask_header, ask_flush_directory, ask_flush_root, ask_unbind, ask_unbind_partition}
use Rattle.rules.specs.Submissions.{Outcome}
use Rattle.rules.specs.State.{State}
use Rattle.rules.specs.Tree.{Prog, done, ask, submit}
use Rattle.rules.specs.Calls.{Call, rule}

-- whether a request starts or ends a barrier
abbrev pub is_barrier : Request → Bool
is_barrier (ask_open q) = false
is_barrier (ask_close f) = false
is_barrier (ask_length f) = false
is_barrier (ask_read f at room) = false
is_barrier (ask_write f at given p) = false
is_barrier (ask_resize f end) = false
is_barrier (ask_start f) = true
is_barrier (ask_end f mark) = true
is_barrier (ask_header f bytes) = false
is_barrier (ask_flush_directory p) = false
is_barrier ask_flush_root = false
is_barrier (ask_unbind q) = false
is_barrier (ask_unbind_partition p) = false

-- no barrier is started or ended, whatever is answered
abbrev pub Quiet : {R : Type 0} → Prog R → Type 0
Quiet (done x) = Unit {0}
Quiet (ask q k) = (is_barrier q ≡ false) × ((a : Answer q) → Quiet (k a))
Quiet (submit w hint k) = (o : Outcome) → Quiet (k o)

-- if the request ends a barrier, no barrier follows its failure
abbrev pub QuietIfFailed : {R : Type 0} → (q : Request) → (Answer q → Prog R) → Type 0
QuietIfFailed (ask_open q) k = Unit {0}
QuietIfFailed (ask_close f) k = Unit {0}
QuietIfFailed (ask_length f) k = Unit {0}
QuietIfFailed (ask_read f at room) k = Unit {0}
QuietIfFailed (ask_write f at given p) k = Unit {0}
QuietIfFailed (ask_resize f end) k = Unit {0}
QuietIfFailed (ask_start f) k = Unit {0}
QuietIfFailed (ask_end f mark) k = (e : FlushFault) → Quiet (k (Err e))
QuietIfFailed (ask_header f bytes) k = Unit {0}
QuietIfFailed (ask_flush_directory p) k = Unit {0}
QuietIfFailed ask_flush_root k = Unit {0}
QuietIfFailed (ask_unbind q) k = Unit {0}
QuietIfFailed (ask_unbind_partition p) k = Unit {0}

-- and so at every request
abbrev pub NotRepeated : {R : Type 0} → Prog R → Type 0
NotRepeated (done x) = Unit {0}
NotRepeated (ask q k) = QuietIfFailed q k × ((a : Answer q) → NotRepeated (k a))
NotRepeated (submit w hint k) = (o : Outcome) → NotRepeated (k o)

abbrev pub BarriersNotRepeated : Type 0
BarriersNotRepeated = (s : State) (c : Call) → NotRepeated (rule s c)
