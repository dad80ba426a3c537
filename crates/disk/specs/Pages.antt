-- What pwritev2(2) and fdatasync(2) define, in the words of the pages. Assumes nothing.
use Rattle.std.specs.Prelude.{◌≡◌, ℕ, ◌+◌, ◌-◌, ◌^◌, ◌<◌, ◌≤◌, max, Bool, true, false, cond, ◌||◌, ◌⊎◌, List, [], ◌∷◌, ◌++◌, length, take, Ok, Err, Result, ◌==◌, nat_le, slice_index}

-- ---- a file

-- what one call changed in a file
pub data Change : Type 0 where
  -- by a call with RWF_DSYNC: on the device when it returned
  synchronous : Change
  -- by any other call: promised since to be on the device, or not
  cached : Bool → Change

-- a file: its bytes as a read shows them, and its changes, the last that landed first
pub record PageFile : Type 0 where
  pub bytes : List ℕ
  pub changes : List Change

-- the same changes at a later time: what is promised stays promised
pub data Kept : List Change → List Change → Type 0 where
  kept_none : Kept [] []
  kept_synchronous : {cs ds : List Change} → Kept cs ds → Kept (synchronous ∷ cs) (synchronous ∷ ds)
  kept_cached : {cs ds : List Change} {b d : Bool} → (b ≡ true → d ≡ true) → Kept cs ds → Kept (cached b ∷ cs) (cached d ∷ ds)

-- the changes at a later time, when others may have landed
pub data Since (then : List Change) : List Change → Type 0 where
  as_then : {now : List Change} → Kept then now → Since then now
  newer : {now : List Change} (c : Change) → Since then now → Since then (c ∷ now)

-- ---- pwritev2(2)

-- a call: its buffers, its offset, whether RWF_DSYNC is among its flags, and whether the system knows them all
pub record Call : Type 0 where
  pub buffers : List (List ℕ)
  pub offset : ℕ
  pub dsync : Bool
  pub known : Bool

-- the data: the buffers in array order
unfoldable pub joined : List (List ℕ) → List ℕ
joined [] = []
joined (b ∷ bs) = b ++ joined bs

-- the most buffers of a call, and the largest signed size, which is the largest offset too
abbrev pub iov_max : ℕ
iov_max = 1024

abbrev pub ssize_max : ℕ
ssize_max = 2 ^ 63 - 1

-- buffers that a call takes at an offset: not too many, not too long, and none past the largest offset
pub record Accepted (buffers : List (List ℕ)) (offset : ℕ) : Type 0 where
  pub few : length buffers ≤ iov_max
  pub short : length (joined buffers) ≤ ssize_max
  pub ends : offset + length (joined buffers) ≤ ssize_max

-- the errors of a call that wrote nothing: EINVAL (22) for its buffers, EOPNOTSUPP (95) for its flags, and EINTR (4), a
-- signal before any byte was written. Of other errors the page does not say how much was written.
abbrev pub Refused : Call → ℕ → Type 0
Refused w errno =
    ((errno ≡ 22) × ((iov_max < length w.buffers) ⊎ (ssize_max < length (joined w.buffers))))
    ⊎ (((errno ≡ 95) × (w.known ≡ false)) ⊎ (errno ≡ 4))

-- the bytes with data put at an offset: the data stand there, a gap past the old end reads as zeros, all else is as it was
pub record Placed (old : List ℕ) (at : ℕ) (put : List ℕ) (new : List ℕ) : Type 0 where
  pub size : length new ≡ max (length old) (at + length put)
  pub stands : (i : ℕ) → i < length put → slice_index new (at + i) ≡ slice_index put i
  pub gap : (i : ℕ) → length old ≤ i → i < at → slice_index new i ≡ 0
  pub rest : (i : ℕ) → i < length old → (i < at) ⊎ (at + length put ≤ i) → slice_index new i ≡ slice_index old i

-- no data leave all, wherever the offset is
abbrev pub Wrote : List ℕ → ℕ → List ℕ → List ℕ → Type 0
Wrote old at [] new = new ≡ old
Wrote old at (y ∷ ys) new = Placed old at (y ∷ ys) new

-- with RWF_DSYNC what this call wrote is on the device, without it nothing is promised; of other changes it says nothing.
-- A count of 0 is no change.
abbrev pub changed : Bool → ℕ → List Change → List Change
changed dsync count old = cond (count == 0) old (cond dsync synchronous (cached false) ∷ old)

-- success: some first bytes of the data, of which the count may be short, were written
pub record Succeeds (w : Call) (before : PageFile) (count : ℕ) (after : PageFile) : Type 0 where
  pub accepted : Accepted w.buffers w.offset
  pub known : w.known ≡ true
  pub within : count ≤ length (joined w.buffers)
  pub bytes : Wrote before.bytes w.offset (take count (joined w.buffers)) after.bytes
  pub changes : after.changes ≡ changed w.dsync count before.changes

-- what a call may return, and what it leaves: a count, or the number of an error that is defined
abbrev pub PwriteReturns : Call → PageFile → Result ℕ ℕ → PageFile → Type 0
PwriteReturns w before (Ok count) after = Succeeds w before count after
PwriteReturns w before (Err errno) after = Refused w errno × (after ≡ before)

-- ---- fdatasync(2)

-- the first `begun` changes are promised, and of the later ones nothing is said
abbrev pub settled : ℕ → List Change → List Change
settled begun [] = []
settled begun (synchronous ∷ cs) = synchronous ∷ settled begun cs
settled begun (cached b ∷ cs) = cached (b || nat_le (length cs + 1) begun) ∷ settled begun cs

-- a call that began when `begun` changes had landed: success promises these; an error promises nothing, and takes nothing back
abbrev pub FdatasyncReturns : ℕ → PageFile → Result (Unit {0}) ℕ → PageFile → Type 0
FdatasyncReturns begun before (Ok u) after = (after.bytes ≡ before.bytes) × (after.changes ≡ settled begun before.changes)
FdatasyncReturns begun before (Err errno) after = after ≡ before
