-- A call as a program over disk requests, and what it is for a disk to run one. Assumes nothing.
use Rattle.std.specs.Prelude.{◌≡◌, Bool}
use Rattle.disk.specs.Requests.{Request, Answer}
use Rattle.rules.specs.Submissions.{Transfer, Outcome, Submits}

-- it is done, or asks a request and goes on by the answer, or submits a body and goes on by the outcome
pub data Prog (R : Type 0) : Type 0 where
  done : R → Prog R
  ask : (q : Request) → (Answer q → Prog R) → Prog R
  submit : Transfer → Bool → (Outcome → Prog R) → Prog R

-- the disk d, asked what the program asks and nothing else, in its order, became e, and the program answered r
abbrev pub Runs : {S R : Type 0} → (S → (q : Request) → Answer q → S → Type 0) → Prog R → S → R → S → Type 0
Runs did (done x) d r e = (r ≡ x) × (e ≡ d)
Runs {S} did (ask q k) d r e = (a : Answer q) × (m : S) × did d q a m × Runs did (k a) m r e
Runs {S} did (submit w hint k) d r e = (o : Outcome) × (m : S) × Submits did w d 0 0 0 hint o m × Runs did (k o) m r e
