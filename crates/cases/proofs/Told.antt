-- The answer that a script has for a request, taken for what that request is answered with. Where it is none, any answer does:
-- what was asked is then not what the script says. Assumes nothing.
use Rattle.std.proofs.Common.{ℕ, List, [], ◌∷◌, Ok, Err, Result}
use Rattle.faults.specs.Kinds.{failed}
use Rattle.faults.specs.declared.disk.DiskFault.{DiskFault}
use Rattle.disk.specs.Requests.{Request, Answer, ask_open, ask_close, ask_length, ask_read, ask_write, ask_resize, ask_start, ask_end, ask_header, ask_flush_directory, ask_flush_root, ask_unbind, ask_unbind_partition}
use Rattle.cases.specs.Scripts.{Said}

-- an answer of any request
pub data Plain : Type 0 where
  nothing : Plain
  number : ℕ → Plain
  bytes : List ℕ → Plain
  fault : DiskFault → Plain

abbrev pub to_number : Plain → ℕ
to_number nothing = 0
to_number (number n) = n
to_number (bytes xs) = 0
to_number (fault f) = 0

abbrev pub to_bytes : Plain → List ℕ
to_bytes nothing = []
to_bytes (number n) = []
to_bytes (bytes xs) = xs
to_bytes (fault f) = []

abbrev pub to_unit : Plain → Unit {0}
to_unit x = tt

abbrev pub to_result : {X E : Type 0} → (Plain → X) → (DiskFault → E) → Plain → Result X E
to_result read make nothing = Ok (read nothing)
to_result read make (number n) = Ok (read (number n))
to_result read make (bytes xs) = Ok (read (bytes xs))
to_result read make (fault f) = Err (make f)

abbrev pub from_result : {X E : Type 0} → (X → Plain) → (E → DiskFault) → Result X E → Plain
from_result show why (Ok x) = show x
from_result show why (Err e) = fault (why e)

abbrev pub from_unit : Unit {0} → Plain
from_unit u = nothing

abbrev pub plainly : (q : Request) → Answer q → Plain
plainly (ask_open q) a = from_result number (λ e. e.0) a
plainly (ask_close f) a = nothing
plainly (ask_length f) a = from_result number (λ e. e.0) a
plainly (ask_read f at room) a = from_result bytes (λ e. e.0) a
plainly (ask_write f at given p) a = from_result number (λ e. e.0) a
plainly (ask_resize f end) a = from_result from_unit (λ e. e.0) a
plainly (ask_start f) a = number a
plainly (ask_end f mark) a = from_result from_unit (λ e. e.0) a
plainly (ask_header f xs) a = from_result from_unit (λ e. e.0) a
plainly (ask_flush_directory p) a = from_result from_unit (λ e. e.0) a
plainly ask_flush_root a = from_result from_unit (λ e. e.0) a
plainly (ask_unbind q) a = from_result from_unit (λ e. e.0) a
plainly (ask_unbind_partition p) a = from_result from_unit (λ e. e.0) a

abbrev pub answering : (q : Request) → Plain → Answer q
answering (ask_open q) x = to_result to_number failed x
answering (ask_close f) x = tt
answering (ask_length f) x = to_result to_number failed x
answering (ask_read f at room) x = to_result to_bytes failed x
answering (ask_write f at given p) x = to_result to_number failed x
answering (ask_resize f end) x = to_result to_unit failed x
answering (ask_start f) x = to_number x
answering (ask_end f mark) x = to_result to_unit failed x
answering (ask_header f xs) x = to_result to_unit failed x
answering (ask_flush_directory p) x = to_result to_unit failed x
answering ask_flush_root x = to_result to_unit failed x
answering (ask_unbind q) x = to_result to_unit failed x
answering (ask_unbind_partition p) x = to_result to_unit failed x

-- what the script answers to q, and the script behind that
abbrev pub told : (q : Request) → List Said → Answer q
told q [] = answering q nothing
told q (x ∷ xs) = answering q (plainly x.0 x.1)

abbrev pub behind : List Said → List Said
behind [] = []
behind (x ∷ xs) = xs
