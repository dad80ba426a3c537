-- A call's answer follows from the disk's answers, and there always is one. Assumes nothing.
use Rattle.std.specs.Prelude.{◌≡◌}
use Rattle.disk.specs.Requests.{Request, Answer}
use Rattle.rules.specs.State.{State}
use Rattle.rules.specs.Tree.{Runs}
use Rattle.rules.specs.Calls.{Call, Reply, rule}

-- a disk in one state answers a request in one way
abbrev pub Decided : {S : Type 0} → (S → (q : Request) → Answer q → S → Type 0) → Type 0
Decided {S} did = (d : S) (q : Request) (a b : Answer q) (e f : S) → did d q a e → did d q b f → ◌≡◌ {A = Answer q × S} (a, e) (b, f)

-- and it answers every request
abbrev pub Answers : {S : Type 0} → (S → (q : Request) → Answer q → S → Type 0) → Type 0
Answers {S} did = (d : S) (q : Request) → (a : Answer q) × (e : S) × did d q a e

-- the same answers of the disk lead to the same answer, state and disk
abbrev pub Determined : {S : Type 0} → (S → (q : Request) → Answer q → S → Type 0) → Type 0
Determined {S} did = Decided did → (s : State) (c : Call) (d e f : S) (x y : Reply c × State) → Runs did (rule s c) d x e → Runs did (rule s c) d y f → (x ≡ y) × (e ≡ f)

-- every call in every state with every input has an answer
abbrev pub Total : {S : Type 0} → (S → (q : Request) → Answer q → S → Type 0) → Type 0
Total {S} did = Answers did → (s : State) (c : Call) (d : S) → (x : Reply c × State) × (e : S) × Runs did (rule s c) d x e
