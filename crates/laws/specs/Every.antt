-- What holds of every way that a program may end, whatever the disk answers. Assumes nothing.
use Rattle.disk.specs.Requests.{Answer}
use Rattle.rules.specs.Submissions.{Outcome}
use Rattle.rules.specs.Tree.{Prog, done, ask, submit}

abbrev pub Every : {R : Type 0} → (R → Type 0) → Prog R → Type 0
Every P (done x) = P x
Every P (ask q k) = (a : Answer q) → Every P (k a)
Every P (submit w hint k) = (o : Outcome) → Every P (k o)
