-- What a case of the rules is: calls one after the other on an empty store, over a disk whose part is written down. Assumes nothing.
use Rattle.std.specs.Prelude.{◌≡◌, List, [], ◌∷◌}
use Rattle.disk.specs.Requests.{Request, Answer}
use Rattle.rules.specs.State.{State, empty}
use Rattle.rules.specs.Tree.{Runs}
use Rattle.rules.specs.Calls.{Call, Reply, rule}

-- a request with its answer
abbrev pub Said : Type 0
Said = (q : Request) × Answer q

-- a disk that is what will be said to it: it is asked the first of that, and then it is the rest
abbrev pub scripted : List Said → (q : Request) → Answer q → List Said → Type 0
scripted d q a e = d ≡ (q, a) ∷ e

-- one call, all that is said to the disk meanwhile, and what the call answers
pub record Turn : Type 0 where
  pub call : Call
  pub said : List Said
  pub reply : Reply call

-- from the state s, the rules ask the disk these requests and no others, in this order, and answer so
abbrev pub Plays : State → List Turn → Type 0
Plays s [] = Unit {0}
Plays s (x ∷ xs) = (t : State) × Runs scripted (rule s x.call) x.said (x.reply, t) [] × Plays t xs

-- each case plays from the empty store
abbrev pub AllPlay : List (List Turn) → Type 0
AllPlay [] = Unit {0}
AllPlay (row ∷ rows) = Plays empty row × AllPlay rows
