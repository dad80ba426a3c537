-- What a disk is asked, and what it answers. Assumes nothing.
use Rattle.std.specs.Prelude.{◌≡◌, ℕ, List, take, drop, Ok, Err, Result}
use Rattle.faults.specs.Kinds.{OpenFault, WriteFault, FlushFault, ResizeFault, LengthFault, UnbindFault}
use Rattle.keys.specs.KeyName.{KeyName}
use Rattle.disk.specs.declared.path.Path.{Path}

pub data Request : Type 0 where
  ask_open : KeyName → Request
  ask_close : ℕ → Request
  ask_length : ℕ → Request
  -- file, offset, room
  ask_read : ℕ → ℕ → ℕ → Request
  -- file, offset, bytes, path
  ask_write : ℕ → ℕ → List ℕ → Path → Request
  ask_resize : ℕ → ℕ → Request
  ask_start : ℕ → Request
  ask_end : ℕ → ℕ → Request
  ask_header : ℕ → List ℕ → Request
  ask_flush_directory : List ℕ → Request
  ask_flush_root : Request
  ask_unbind : KeyName → Request
  ask_unbind_partition : List ℕ → Request

abbrev pub Answer : Request → Type 0
Answer (ask_open q) = Result ℕ OpenFault
Answer (ask_close f) = Unit {0}
Answer (ask_length f) = Result ℕ LengthFault
Answer (ask_read f at room) = Result (List ℕ) LengthFault
Answer (ask_write f at given p) = Result ℕ WriteFault
Answer (ask_resize f end) = Result (Unit {0}) ResizeFault
Answer (ask_start f) = ℕ
Answer (ask_end f mark) = Result (Unit {0}) FlushFault
Answer (ask_header f bytes) = Result (Unit {0}) WriteFault
Answer (ask_flush_directory p) = Result (Unit {0}) WriteFault
Answer ask_flush_root = Result (Unit {0}) WriteFault
Answer (ask_unbind q) = Result (Unit {0}) UnbindFault
Answer (ask_unbind_partition p) = Result (Unit {0}) UnbindFault

-- a read answers the bytes that it laid first into its room
abbrev pub read_out : Result ℕ LengthFault → List ℕ → Result (List ℕ) LengthFault
read_out (Ok c) into = Ok (take c into)
read_out (Err e) into = Err e

-- and leaves the rest of the room as it was
abbrev pub Spares : Result ℕ LengthFault → List ℕ → List ℕ → Type 0
Spares (Ok c) before after = drop c after ≡ drop c before
Spares (Err e) before after = after ≡ before
