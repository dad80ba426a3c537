-- How the body of a write goes down to the disk. Assumes nothing.
use Rattle.std.specs.Prelude.{◌≡◌, ℕ, ◌+◌, ◌<◌, ◌≤◌, Bool, true, false, cond, List, length, Ok, Err, Result, ◌≢◌}
use Rattle.faults.specs.Numbers.{code}
use Rattle.faults.specs.declared.disk.DiskFault.{DiskFault}
use Rattle.faults.specs.declared.disk.DiskFault.TheVariants.{Code}
use Rattle.faults.specs.Kinds.{WriteFault}
use Rattle.faults.specs.declared.store.Fault.{Fault}
use Rattle.faults.specs.declared.store.Fault.TheVariants.{Io, WriteFailed}
use Rattle.faults.specs.declared.store.Failure.{Failure}
use Rattle.faults.specs.declared.store.Failure.TheVariants.{Write, Sync}
use Rattle.disk.specs.Requests.{Request, Answer, ask_write}
use Rattle.disk.specs.declared.path.Path.{Path}
use Rattle.disk.specs.declared.path.Path.TheVariants.{Single, Vectored}
use Rattle.rules.specs.Chunks.{next_bytes}

-- a body on its way to a file, cut by its lengths: by the single-buffer path or vectored, durable or plain
pub record Transfer : Type 0 where
  pub file : ℕ
  pub offset : ℕ
  pub body : List ℕ
  pub lengths : List ℕ
  pub single : Bool
  pub durably : Bool

abbrev pub path : Transfer → Bool → Path
path w hint = cond w.single Single (Vectored w.durably hint)

-- why a transfer ended before its body had landed: a code, or a submission that landed nothing
pub data Loss : Type 0 where
  by_code : DiskFault → Loss
  by_nothing : Loss

-- the refusal that it gives
abbrev pub loss_refusal : Loss → Fault
loss_refusal (by_code d) = Io d
loss_refusal by_nothing = WriteFailed

-- the failure that it leaves where the write was fused
abbrev pub loss_failure : Loss → Failure
loss_failure (by_code d) = Sync d
loss_failure by_nothing = Write

-- on the single-buffer path nothing landed is code 0
abbrev pub nothing_landed : Transfer → Loss
nothing_landed w = cond w.single (by_code (Code 0)) by_nothing

-- how a transfer ends, and whether the no-cache hint is still live: all landed, in so many submissions, or lost
pub data Outcome : Type 0 where
  landed : ℕ → Bool → Outcome
  lost : Loss → Bool → Outcome

-- the most interruptions between two landed bytes, one less than ends the transfer
abbrev pub patience : ℕ
patience = 63

-- the submission that begins `at` bytes into the body was answered so
abbrev pub Submitted : {S : Type 0} → (S → (q : Request) → Answer q → S → Type 0) → Transfer → ℕ → Bool → S → Result ℕ WriteFault → S → Type 0
Submitted did w at hint d a e = did d (ask_write w.file (w.offset + at) (next_bytes w.body w.lengths at) (path w hint)) a e

-- Submits did w d at k n hint o e: from the disk d, with `at` bytes landed, k interruptions since the last of them, n
-- submissions asked and the hint live or not, the disk's answers lead to the outcome o and the disk e
pub data Submits {S : Type 0} (did : S → (q : Request) → Answer q → S → Type 0) (w : Transfer) : S → ℕ → ℕ → ℕ → Bool → Outcome → S → Type 0 where
  -- the whole body has landed
  all : {d : S} {at k n : ℕ} {hint : Bool} → length w.body ≤ at → Submits did w d at k n hint (landed n hint) d
  -- some of it landed
  more : {d m e : S} {at k n : ℕ} {hint : Bool} {o : Outcome} → at < length w.body → (c : ℕ) → 0 < c → Submitted did w at hint d (Ok c) m → Submits did w m (at + c) 0 (n + 1) hint o e → Submits did w d at k n hint o e
  -- nothing landed
  stuck : {d e : S} {at k n : ℕ} {hint : Bool} → at < length w.body → Submitted did w at hint d (Ok 0) e → Submits did w d at k n hint (lost (nothing_landed w) hint) e
  -- interrupted, and asked again
  again : {d m e : S} {at k n : ℕ} {hint : Bool} {o : Outcome} → at < length w.body → (f : WriteFault) → code f.0 ≡ 4 → k < patience → Submitted did w at hint d (Err f) m → Submits did w m at (k + 1) (n + 1) hint o e → Submits did w d at k n hint o e
  -- interrupted once too often
  worn : {d e : S} {at k n : ℕ} {hint : Bool} → at < length w.body → (f : WriteFault) → code f.0 ≡ 4 → patience ≤ k → Submitted did w at hint d (Err f) e → Submits did w d at k n hint (lost (by_code f.0) hint) e
  -- the hint is not supported, and dropped
  unhinted : {d m e : S} {at k n : ℕ} {hint : Bool} {o : Outcome} → at < length w.body → (f : WriteFault) → code f.0 ≡ 95 → hint ≡ true → Submitted did w at hint d (Err f) m → Submits did w m at k (n + 1) false o e → Submits did w d at k n hint o e
  -- any other code
  broken : {d e : S} {at k n : ℕ} {hint : Bool} → at < length w.body → (f : WriteFault) → (code f.0 ≢ 4) → (code f.0 ≡ 95 → hint ≢ true) → Submitted did w at hint d (Err f) e → Submits did w d at k n hint (lost (by_code f.0) hint) e
