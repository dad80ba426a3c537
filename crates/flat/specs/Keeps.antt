-- What a request that edits a file keeps of it. Assumes nothing.
use Rattle.std.specs.Prelude.{◌≡◌, ℕ, ◌+◌, ◌-◌, ◌≤◌, min, Bool, true, false, cond, ◌||◌, List, [], ◌∷◌, length, take, Ok, Err, Result, ◌==◌, nat_lt, refl}
use Rattle.std.proofs.Common.{arith}
use Rattle.std.proofs.lemmas.List.{length-take}
use Rattle.std.proofs.lemmas.Bool.{cond_both}
use Rattle.std.proofs.lemmas.Bool.Decides.{nat_tests}
use Rattle.faults.specs.Kinds.{WriteFault, FlushFault, ResizeFault, failed}
use Rattle.disk.specs.Files.{FileState}
use Rattle.disk.specs.Laid.{laid}
use Rattle.disk.proofs.Layers.{length_sized, length_laid}
use Rattle.slots.specs.Codes.{no_room}
use Rattle.slots.specs.FileSteps.{full, fits, write_refused, write_answer, after_write, resize_answer, after_resize, header_answer, after_header, after_end}

-- its key and its holds
abbrev pub Keeps : FileState → FileState → Type 0
Keeps x y = (y.key ≡ x.key) × (y.holds ≡ x.holds)

pub keeps_write : (begin : ℕ) (given : List ℕ) (durably : Bool) (x : FileState) (r : Result ℕ WriteFault) → Keeps x (after_write begin given durably x r)
keeps_write begin given durably x (Ok c) = (refl, refl)
keeps_write begin given durably x (Err e) = (refl, refl)

pub keeps_resize : (end : ℕ) (x : FileState) (r : Result (Unit {0}) ResizeFault) → Keeps x (after_resize end x r)
keeps_resize end x (Ok u) = (refl, refl)
keeps_resize end x (Err e) = (refl, refl)

pub keeps_header : (given : List ℕ) (x : FileState) (r : Result (Unit {0}) WriteFault) → Keeps x (after_header given x r)
keeps_header given x (Ok u) = (refl, refl)
keeps_header given x (Err e) = (refl, refl)

pub keeps_end : (mark : ℕ) (x : FileState) (r : Result (Unit {0}) FlushFault) → Keeps x (after_end mark x r)
keeps_end mark x (Ok u) = (refl, refl)
keeps_end mark x (Err e) = (refl, refl)

-- that no more is covered than has landed
abbrev pub KeepsCovered : FileState → FileState → Type 0
KeepsCovered x y = x.k ≤ x.n → y.k ≤ y.n

counted : (b : Bool) (k n : ℕ) → k ≤ n → k ≤ cond b n (n + 1)
counted true k n h = h
counted false k n h = omega arith

pub covers_write : (begin : ℕ) (given : List ℕ) (durably : Bool) (x : FileState) (r : Result ℕ WriteFault) → KeepsCovered x (after_write begin given durably x r)
covers_write begin given durably x (Ok c) = λ h. counted (durably || c == 0) x.k x.n h
covers_write begin given durably x (Err e) = λ h. h

pub covers_resize : (end : ℕ) (x : FileState) (r : Result (Unit {0}) ResizeFault) → KeepsCovered x (after_resize end x r)
covers_resize end x (Ok u) = λ h. omega arith
covers_resize end x (Err e) = λ h. h

pub covers_header : (given : List ℕ) (x : FileState) (r : Result (Unit {0}) WriteFault) → KeepsCovered x (after_header given x r)
covers_header given x (Ok u) = λ h. omega arith
covers_header given x (Err e) = λ h. h

pub covers_end : (mark : ℕ) (x : FileState) (r : Result (Unit {0}) FlushFault) → KeepsCovered x (after_end mark x r)
covers_end mark x (Ok u) = λ h. omega arith
covers_end mark x (Err e) = λ h. h

-- that it has no more than 4,096 bytes
abbrev pub KeepsWithin : FileState → FileState → Type 0
KeepsWithin x y = length x.bytes ≤ 4096 → length y.bytes ≤ 4096

laid_short : (old : List ℕ) (begin : ℕ) (ys : List ℕ) → length old ≤ 4096 → length ys ≤ 4096 - begin → length (laid old begin ys) ≤ 4096
unfolding laid
laid_short old begin [] h r = h
laid_short old begin (y ∷ ys) h r = let e = length_laid old begin (y ∷ ys) (omega arith) in omega arith

pub within_write : (begin : ℕ) (given : List ℕ) (durably : Bool) (limit : ℕ) (x : FileState) → KeepsWithin x (after_write begin given durably x (write_answer begin (length given) durably limit x))
within_write begin given durably limit x =
    let c = min (fits begin (length given)) limit in
    let n = length-take c given in
    cond_both (write_refused x begin (length given) durably limit) (Err (failed no_room)) (Ok c) (λ r. KeepsWithin x (after_write begin given durably x r))
    (λ t h. h) (λ t h. laid_short x.bytes begin (take c given) h (omega arith))

pub within_resize : (end : ℕ) (x : FileState) → KeepsWithin x (after_resize end x (resize_answer end x))
within_resize end x =
    let n = length_sized x.bytes end in
    cond_both (nat_lt 4096 end || full x) (Err (failed no_room)) (Ok tt) (λ r. KeepsWithin x (after_resize end x r))
    (λ t h. h) (λ t h. grind (arith, nat_tests))

pub within_header : (given : List ℕ) (x : FileState) → KeepsWithin x (after_header given x (header_answer (length given) x))
within_header given x =
    cond_both (nat_lt 4096 (length given) || full x) (Err (failed no_room)) (Ok tt) (λ r. KeepsWithin x (after_header given x r))
    (λ t h. h) (λ t h. grind (arith, nat_tests))
