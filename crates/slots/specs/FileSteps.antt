-- What one file answers to a request, and what it is then. Assumes nothing.
use Rattle.std.specs.Prelude.{ℕ, ◌+◌, ◌-◌, min, Bool, cond, not, ◌&&◌, ◌||◌, List, Some, None, Ok, Err, Option, Result, ◌==◌, nat_le, nat_lt}
use Rattle.faults.specs.Kinds.{OpenFault, WriteFault, FlushFault, ResizeFault, failed}
use Rattle.disk.specs.Files.{FileState, with_holds}
use Rattle.disk.specs.Rules.{written, resized, reached, headed}
use Rattle.slots.specs.Codes.{no_room}

-- the file, if it is held
abbrev pub held : Option FileState → Option FileState
held None = None
held (Some x) = cond (nat_lt 0 x.holds) (Some x) None

-- the file with other bytes
abbrev pub with_bytes : FileState → List ℕ → FileState
with_bytes x b = record { key = x.key; bytes = b; n = x.n; k = x.k; holds = x.holds }

-- 2^40 mutations have landed: no more are counted
abbrev pub full : FileState → Bool
full x = nat_le 1099511627776 x.n

-- how many of m bytes fit from the place at on
abbrev pub fits : ℕ → ℕ → ℕ
fits at m = min m (4096 - at)

-- no byte of some fits, or the write would have to be counted and cannot
abbrev pub write_refused : FileState → ℕ → ℕ → Bool → ℕ → Bool
write_refused x at m durably limit = (nat_lt 0 m && fits at m == 0) || (nat_lt 0 (min (fits at m) limit) && (not durably && full x))

-- a write of m bytes answers how many land: those that fit, and at most `limit`
abbrev pub write_answer : ℕ → ℕ → Bool → ℕ → FileState → Result ℕ WriteFault
write_answer at m durably limit x = cond (write_refused x at m durably limit) (Err (failed no_room)) (Ok (min (fits at m) limit))

-- these are laid, and counted unless they are durable; a fault leaves the file
abbrev pub after_write : ℕ → List ℕ → Bool → FileState → Result ℕ WriteFault → FileState
after_write at given durably x (Ok c) = written x at given durably c
after_write at given durably x (Err e) = x

-- a resize is refused past 4,096 bytes, and where no mutation can be counted
abbrev pub resize_answer : ℕ → FileState → Result (Unit {0}) ResizeFault
resize_answer end x = cond (nat_lt 4096 end || full x) (Err (failed no_room)) (Ok tt)

-- the file cut or extended; a fault leaves it
abbrev pub after_resize : ℕ → FileState → Result (Unit {0}) ResizeFault → FileState
after_resize end x (Ok u) = resized x end
after_resize end x (Err e) = x

-- so is a header of m bytes
abbrev pub header_answer : ℕ → FileState → Result (Unit {0}) WriteFault
header_answer m x = cond (nat_lt 4096 m || full x) (Err (failed no_room)) (Ok tt)

-- the header's bytes, all covered; a fault leaves the file
abbrev pub after_header : List ℕ → FileState → Result (Unit {0}) WriteFault → FileState
after_header given x (Ok u) = headed x given
after_header given x (Err e) = x

-- a barrier's end is never refused
abbrev pub end_answer : FileState → Result (Unit {0}) FlushFault
end_answer x = Ok tt

-- what had landed at the mark is covered
abbrev pub after_end : ℕ → FileState → Result (Unit {0}) FlushFault → FileState
after_end mark x (Ok u) = reached x mark
after_end mark x (Err e) = x

-- one hold more is refused at 2^40
abbrev pub hold_answer : FileState → Result (Unit {0}) OpenFault
hold_answer x = cond (nat_le 1099511627776 x.holds) (Err (failed no_room)) (Ok tt)

-- the file held once more; a fault leaves it
abbrev pub after_hold : FileState → Result (Unit {0}) OpenFault → FileState
after_hold x (Ok u) = with_holds x (x.holds + 1)
after_hold x (Err e) = x
