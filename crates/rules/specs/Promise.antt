-- The durability promise: what covered, forgotten and same file mean, and the three claims. Assumes nothing.
use Rattle.std.specs.Prelude.{◌≡◌, ℕ, ◌<◌, ◌≤◌, Bool, true, ◌⊎◌, ◌↔◌, List, [], ◌∷◌, length, Some}
use Rattle.keys.specs.KeyName.{KeyName, in_partition}
use Rattle.disk.specs.Files.{DiskState, FileState}
use Rattle.disk.specs.Requests.{Request, Answer}
use Rattle.rules.specs.declared.opening.Mode.{Mode}
use Rattle.rules.specs.declared.opening.Mode.TheVariants.{Existing}
use Rattle.rules.specs.declared.opening.Opening.{Opening}
use Rattle.rules.specs.State.{State}
use Rattle.rules.specs.Events.{Forgotten, one, all_in, Item, now_disk, forgot, admitted, yielded, begun, finished, landed, spoilt, flush_counted, flush_succeeded, flush_failed, sync_skipped}
use Rattle.rules.specs.History.{History}

-- the item i stands at the place p of what was told; the place of an item is how many are older
abbrev pub At : List Item → ℕ → Item → Type 0
At [] p i = ⊥
At (x ∷ l) p i = ((p ≡ length l) × (x ≡ i)) ⊎ At l p i

abbrev pub Told : List Item → Item → Type 0
Told l i = (p : ℕ) × At l p i

-- ---- mutations

-- t is a counted mutation of the opening o: begun as one, or a fused write that was lost
abbrev pub Counted : List Item → ℕ → ℕ → Type 0
Counted l o t = Told l (begun o t true) ⊎ Told l (spoilt o t)

-- it was finished before the counting of some flush of o that has since succeeded
abbrev pub Flushed : List Item → ℕ → ℕ → Type 0
Flushed l o t =
    (q n p u r k : ℕ) × At l q (finished o t n) × At l p (flush_counted o u) × At l r (flush_succeeded o u k) × (q < p) × (p < r)

-- ---- forgotten, gone, same file

abbrev pub Matches : Forgotten → KeyName → Type 0
Matches (one p) q = p ≡ q
Matches (all_in p) q = in_partition p q ≡ true

-- the key q was not forgotten between the places a and p
abbrev pub NotForgotten : List Item → ℕ → KeyName → ℕ → Type 0
NotForgotten l a q p = (i : ℕ) (f : Forgotten) → a < i → i < p → At l i (forgot f) → Matches f q → ⊥

abbrev pub Present : DiskState → ℕ → Type 0
Present m f = (x : FileState) × (m f ≡ Some x)

-- the file f was never gone between the places a and p
abbrev pub NeverGone : List Item → ℕ → ℕ → ℕ → Type 0
NeverGone l a f p = (i : ℕ) (m : DiskState) → a < i → i < p → At l i (now_disk m) → Present m f

-- o' is an earlier opening of the same file as o, and was not forgotten by the place p
pub record Earlier (l : List Item) (o p o' : ℕ) : Type 0 where
  pub file : ℕ
  pub key : KeyName
  pub key' : KeyName
  pub mode : Mode
  pub mode' : Mode
  pub place : ℕ
  pub place' : ℕ
  pub is : At l place (admitted o key file mode)
  pub was : At l place' (admitted o' key' file mode')
  pub before : place' < place
  pub same : NeverGone l place' file p
  pub remembered : NotForgotten l place' key' p

-- ---- syncs

-- a sync of o that began at the place p succeeded at the place i, where k mutations of its file were covered
abbrev pub Synced : List Item → ℕ → ℕ → ℕ → ℕ → Type 0
Synced l i o p k = (At l i (sync_skipped o k) × (p ≡ i)) ⊎ ((u : ℕ) × At l p (flush_counted o u) × (p < i) × At l i (flush_succeeded o u k))

-- at the place i a flush of o ended with 10, or a fused write of it with 8 or 9
abbrev pub Lost : List Item → ℕ → ℕ → Type 0
Lost l i o = ((u : ℕ) × At l i (flush_failed o u)) ⊎ ((t : ℕ) × At l i (spoilt o t))

-- ---- the claims

-- an opening's written and synced are equal exactly when each counted mutation of it was finished before the counting of
-- some flush of it that has since succeeded
abbrev pub CountsHold : State → List Item → Type 0
CountsHold s l = (o : ℕ) (x : Opening) → s.openings.at o ≡ Some x → (x.account.tracker.written ≡ x.account.tracker.synced) ↔ ((t : ℕ) → Counted l o t → Flushed l o t)

-- a sync that succeeded leaves covered every mutation finished before it began, in its opening and in earlier openings of
-- the same file that were not forgotten when it began
abbrev pub CoverageHolds : List Item → Type 0
CoverageHolds l =
    (i o p k o' q t n : ℕ) → Synced l i o p k → ((o' ≡ o) ⊎ Earlier l o p o') → q < p
    → (At l q (finished o' t n) → n ≤ k) × ((durably : Bool) → At l q (landed o' t n durably) → (durably ≡ true) ⊎ (n ≤ k))

-- after a loss no sync of that opening succeeds
abbrev pub LossesStay : List Item → Type 0
LossesStay l = (i j o p k : ℕ) → Lost l i o → Synced l j o p k → j < i

-- and until it is forgotten no existing opening of its key admitted after it yields a blob
abbrev pub LossesBar : List Item → Type 0
LossesBar l =
    (i a b y o o' f f' : ℕ) (q : KeyName) (mode : Mode) → Lost l i o → At l a (admitted o q f mode) → At l b (admitted o' q f' Existing) → a < b
    → At l y (yielded o') → i < y → NotForgotten l a q y → ⊥

pub record Promise (s : State) (l : List Item) : Type 0 where
  pub counts : CountsHold s l
  pub coverage : CoverageHolds l
  pub losses_stay : LossesStay l
  pub losses_bar : LossesBar l

-- the promise holds after every list of calls from the empty store on the disk d
abbrev pub Durable : {S : Type 0} → (S → (q : Request) → Answer q → S → Type 0) → (S → DiskState) → S → Type 0
Durable {S} did meaning d = (s : State) (e : S) (l : List Item) → History did meaning d s e l → Promise s l
