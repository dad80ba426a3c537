-- What a write that landed leaves of its file, whatever short counts and retries came between. Assumes nothing.
use Rattle.std.specs.Prelude.{◌≡◌, ℕ, ◌+◌, ◌<◌, ◌≤◌, Bool, true, false, not, ◌&&◌, List, length, ◌≢◌}
use Rattle.disk.specs.Laid.{laid}
use Rattle.disk.specs.Files.{FileState, DiskState, Held}
use Rattle.disk.specs.Requests.{Request, Answer}
use Rattle.rules.specs.Submissions.{Transfer, landed, Submits}

-- the single-buffer path takes no flags, so nothing that goes by it is durable by itself
abbrev pub is_durable : Transfer → Bool
is_durable w = not w.single && w.durably

-- a file that was x has become y: the bytes stand at the offset, and the rest is as it was; landings are counted in n
-- unless they are durable
pub record Lies (durably : Bool) (offset : ℕ) (body : List ℕ) (x y : FileState) : Type 0 where
  pub bytes : y.bytes ≡ laid x.bytes offset body
  pub key : y.key ≡ x.key
  pub k : y.k ≡ x.k
  pub holds : y.holds ≡ x.holds
  pub rises : x.n ≤ y.n
  pub counted : durably ≡ false → 0 < length body → x.n < y.n
  pub stays : durably ≡ true → y.n ≡ x.n

-- every other file is as it was
abbrev pub OthersStay : DiskState → ℕ → DiskState → Type 0
OthersStay s f t = (g : ℕ) → (g ≢ f) → t g ≡ s g

-- a transfer that has all landed has laid its body, and was counted at most once for each submission
abbrev pub BodiesLie : {S : Type 0} → (S → DiskState) → (S → (q : Request) → Answer q → S → Type 0) → Type 0
BodiesLie {S} meaning did = (w : Transfer) (d e : S) (n : ℕ) (hint hint' : Bool) (x : FileState) → Held (meaning d) w.file x → Submits did w d 0 0 0 hint (landed n hint') e → (y : FileState) × Held (meaning e) w.file y × Lies (is_durable w) w.offset w.body x y × (y.n ≤ x.n + n) × OthersStay (meaning d) w.file (meaning e)
