-- What the flat disk answers to each request, and which files it has then. Assumes nothing.
use Rattle.std.specs.Prelude.{ℕ, ◌+◌, ◌-◌, Bool, cond, List, length, take, drop, Some, None, Ok, Err, Option, Result, nat_le}
use Rattle.faults.specs.declared.disk.DiskFault.{DiskFault}
use Rattle.faults.specs.Kinds.{OpenFault, WriteFault, UnbindFault, failed}
use Rattle.keys.specs.KeyName.{KeyName, same_key, in_partition}
use Rattle.disk.specs.declared.path.Path.{Path}
use Rattle.disk.specs.Paths.{durable}
use Rattle.disk.specs.Files.{FileState, DiskState, put, with_holds, new_file, kept}
use Rattle.disk.specs.Rules.{unbound}
use Rattle.disk.specs.Requests.{Request, Answer, ask_open, ask_close, ask_length, ask_read, ask_write, ask_resize, ask_start, ask_end, ask_header, ask_flush_directory, ask_flush_root, ask_unbind, ask_unbind_partition}
use Rattle.slots.specs.Plans.{first, planned, planned_unbind, landing}
use Rattle.slots.specs.Codes.{no_room, not_held, not_bound}
use Rattle.slots.specs.FileSteps.{held, write_answer, after_write, resize_answer, after_resize, header_answer, after_header, end_answer, after_end}
use Rattle.flat.specs.Places.{first_from, bound_by, is_free}

-- a planned fault comes before all else, and leaves the files
abbrev pub unless : {A E : Type 0} → Option DiskFault → (DiskFault → E) → DiskState → Result A E × DiskState → Result A E × DiskState
unless (Some d) fault s go = (Err (fault d), s)
unless None fault s go = go

-- ---- requests on a file that is held

-- what only asks; code 9 where the file is not held
abbrev pub asked : {A E : Type 0} → (DiskFault → E) → Option FileState → (FileState → A) → Result A E
asked fault None answer = Err (fault not_held)
asked fault (Some x) answer = Ok (answer x)

-- what changes the file by its answer; code 9 where it is not held
abbrev pub edited : {A E : Type 0} → (DiskFault → E) → DiskState → ℕ → Option FileState → (FileState → Result A E) → (FileState → Result A E → FileState) → Result A E × DiskState
edited fault s f None answer after = (Err (fault not_held), s)
edited fault s f (Some x) answer after = (answer x, put s f (Some (after x (answer x))))

-- one hold less; nothing where the file is not held
abbrev pub close : DiskState → ℕ → Option FileState → DiskState
close s f None = s
close s f (Some x) = put s f (kept (with_holds x (x.holds - 1)))

-- the mark of what has landed, 0 where the file is not held
abbrev pub mark_of : Option FileState → ℕ
mark_of None = 0
mark_of (Some x) = x.n

-- a write under its entry: a planned fault, or a limit
abbrev pub write : Result ℕ DiskFault → DiskState → ℕ → ℕ → List ℕ → Path → Result ℕ WriteFault × DiskState
write (Err d) s f at given p = (Err (failed d), s)
write (Ok limit) s f at given p = edited failed s f (held (s f)) (write_answer at (length given) (durable p) limit) (after_write at given (durable p))

-- ---- requests by key

-- the lowest number of a file bound to a key that is told
abbrev pub first_bound : (KeyName → Bool) → DiskState → Option ℕ
first_bound tells s = first_from (bound_by tells) s 0 8

-- the lowest number that no file has
abbrev pub first_free : DiskState → Option ℕ
first_free s = first_from is_free s 0 8

-- a new empty file, if there is a number for it
abbrev pub open_new : DiskState → KeyName → Option ℕ → Result ℕ OpenFault × DiskState
open_new s q None = (Err (failed no_room), s)
open_new s q (Some f) = (Ok f, put s f (Some (new_file q 1)))

-- one hold more, up to 2^40
abbrev pub open_held : DiskState → ℕ → FileState → Result ℕ OpenFault × DiskState
open_held s f x = cond (nat_le 1099511627776 x.holds) (Err (failed no_room), s) (Ok f, put s f (Some (with_holds x (x.holds + 1))))

-- a bound number has a file, so that the first line never answers
abbrev pub open_old : DiskState → ℕ → Option FileState → Result ℕ OpenFault × DiskState
open_old s f None = (Err (failed not_bound), s)
open_old s f (Some x) = open_held s f x

-- the file of a bound key, or a new one
abbrev pub open_by : DiskState → KeyName → Option ℕ → Result ℕ OpenFault × DiskState
open_by s q None = open_new s q (first_free s)
open_by s q (Some f) = open_old s f (s f)

-- code 2 where no key that is told is bound; else all of them go
abbrev pub unbind : (KeyName → Bool) → DiskState → Option ℕ → Result (Unit {0}) UnbindFault × DiskState
unbind going s None = (Err (failed not_bound), s)
unbind going s (Some f) = (Ok tt, unbound going s)

-- ---- all requests

-- the answer to a request under the entry p, and the files after it
abbrev pub does : (q : Request) → ℕ → DiskState → Answer q × DiskState
does (ask_open q) p s = unless (planned p) failed s (open_by s q (first_bound (same_key q) s))
does (ask_close f) p s = (tt, close s f (held (s f)))
does (ask_length f) p s = unless (planned p) failed s (asked failed (held (s f)) (λ x. length x.bytes), s)
does (ask_read f at room) p s = unless (planned p) failed s (asked failed (held (s f)) (λ x. take room (drop at x.bytes)), s)
does (ask_write f at given path) p s = write (landing p (length given)) s f at given path
does (ask_resize f end) p s = unless (planned p) failed s (edited failed s f (held (s f)) (resize_answer end) (after_resize end))
does (ask_start f) p s = (mark_of (held (s f)), s)
does (ask_end f mark) p s = unless (planned p) failed s (edited failed s f (held (s f)) end_answer (after_end mark))
does (ask_header f given) p s = unless (planned p) failed s (edited failed s f (held (s f)) (header_answer (length given)) (after_header given))
does (ask_flush_directory d) p s = unless (planned p) failed s (Ok tt, s)
does ask_flush_root p s = unless (planned p) failed s (Ok tt, s)
does (ask_unbind q) p s = unless (planned_unbind p) failed s (unbind (same_key q) s (first_bound (same_key q) s))
does (ask_unbind_partition d) p s = unless (planned_unbind p) failed s (unbind (in_partition d) s (first_bound (in_partition d) s))

-- a flat disk: its files, and what is left of its plan
pub record Flat : Type 0 where
  pub files : DiskState
  pub plan : List ℕ

-- every request takes one entry of the plan
abbrev pub step : Flat → (q : Request) → Answer q × Flat
step d q = ((does q (first d.plan) d.files).0, record { files = (does q (first d.plan) d.files).1; plan = drop 1 d.plan })
