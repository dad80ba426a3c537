-- The buffers of a submission, and that each is one that pwritev2(2) accepts. Assumes nothing.
use Rattle.std.specs.Prelude.{◌≡◌, ℕ, zero, suc, ◌+◌, ◌-◌, ◌<◌, ◌≤◌, true, cond, List, [], ◌∷◌, length, take, drop, Some, Ok, nat_le}
use Rattle.std.specs.List.{AllByRecursion}
use Rattle.disk.specs.Pages.{Accepted, joined}
use Rattle.disk.specs.Requests.{Request, Answer}
use Rattle.rules.specs.declared.ticket.Step.TheVariants.{Write}
use Rattle.rules.specs.declared.ticket.Ticket.{Ticket}
use Rattle.rules.specs.declared.ticket.Writing.{Writing}
use Rattle.rules.specs.Chunks.{batch, chunks, next_bytes, sizes_ok}
use Rattle.rules.specs.declared.opening.Opening.{Opening}
use Rattle.rules.specs.State.{State}
use Rattle.rules.specs.Tree.{Runs}
use Rattle.rules.specs.Begins.{Options, ticket}
use Rattle.rules.specs.Calls.{rule, to_write}

-- what is left of each of the next c chunks once `landed` bytes of the body are down; an empty length makes no chunk
abbrev pub pieces : ℕ → List ℕ → List ℕ → ℕ → List (List ℕ)
pieces c body [] landed = []
pieces zero body (l ∷ ls) landed = []
pieces (suc c) body (l ∷ ls) landed =
    cond (nat_le l landed) (pieces (suc c) (drop l body) ls (landed - l)) (take (l - landed) (drop landed body) ∷ pieces c (drop l body) ls 0)

-- the buffers of the next submission
abbrev pub buffers : List ℕ → List ℕ → ℕ → List (List ℕ)
buffers body lengths landed = pieces batch body lengths landed

-- these buffers, submitted at the offset, hand down the bytes in a way that pwritev2(2) accepts, none of them is empty, and
-- there is something to land
pub record Submission (offset : ℕ) (bytes : List ℕ) (given : List (List ℕ)) : Type 0 where
  pub some : 1 ≤ length given
  pub filled : AllByRecursion (λ b. 0 < length b) given
  pub whole : joined given ≡ bytes
  pub least : 1 ≤ length bytes
  pub most : length bytes ≤ 16777216
  pub accepted : Accepted given offset

-- every submission of a body within its limits is accepted, and one chunk goes down as one buffer
abbrev pub SubmissionsAccepted : Type 0
SubmissionsAccepted = (body lengths : List ℕ) (offset at : ℕ) → sizes_ok (length body) lengths ≡ true → offset + length body ≤ 9223372036854775807 → at < length body → Submission (offset + at) (next_bytes body lengths at) (buffers body lengths at) × (chunks lengths ≡ 1 → length (buffers body lengths at) ≡ 1)

-- the write of the body at a place of the opening n was given the ticket t: the body and its lengths are within their
-- limits, its end is no further than the largest offset of a file, and the ticket holds its offset, length and chunk count
pub record BegunWithin (s : State) (n at : ℕ) (body lengths : List ℕ) (t : ℕ) (s' : State) : Type 0 where
  pub opening : Opening
  pub there : s.openings.at n ≡ Some opening
  pub sizes : sizes_ok (length body) lengths ≡ true
  pub fits : at + opening.account.offset + length body ≤ 9223372036854775807
  pub ticket : Ticket
  pub writing : Writing
  pub given : s'.tickets.at t ≡ Some ticket
  pub its_opening : ticket.opening ≡ n
  pub its_step : ticket.step ≡ Write writing
  pub its_offset : writing.offset ≡ at + opening.account.offset
  pub its_length : writing.length ≡ length body
  pub its_chunks : writing.chunks ≡ chunks lengths

abbrev pub WritesBegunWithin : {S : Type 0} → (S → (q : Request) → Answer q → S → Type 0) → Type 0
WritesBegunWithin {S} did = (s s' : State) (n at : ℕ) (body lengths : List ℕ) (x : Options) (t : ℕ) (d e : S) → Runs did (rule s (to_write n at body lengths x)) d (Ok (ticket t), s') e → BegunWithin s n at body lengths t s'
