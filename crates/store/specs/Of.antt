-- What a store stands for, what it is to follow a rule, and the answers of the code as those of the rules: a number in
-- the place of each token. Assumes nothing.
use Rattle.std.specs.Prelude.{◌≡◌, ℕ, List, Bool, cond, take, drop, Some, None, Ok, Err, Option, Result}
use Rattle.std.specs.List.{slice_get}
use Rattle.faults.specs.declared.store.Fault.{Fault}
use Rattle.faults.specs.declared.store.Fault.TheVariants.{Unknown}
use Rattle.keys.specs.KeyName.{KeyName}
use Rattle.disk.specs.Requests.{Request, Answer}
use Rattle.rules.specs.declared.opening.Stage.{Stage}
use Rattle.rules.specs.declared.opening.Opening.{Opening}
use Rattle.rules.specs.State.{State}
use Rattle.rules.specs.Tree.{Prog, Runs}
use Rattle.rules.specs.Opens as opens
use Rattle.rules.specs.Asks.{held_rule}
use Rattle.rules.specs.Asks as asks
use Rattle.ledger.specs.Of.{state_of}
use Rattle.store.specs.declared.counts.Counts.{Counts}
use Rattle.store.specs.declared.found.Found.{Found}
use Rattle.store.specs.declared.storage.Store.{Store}
use Rattle.store.specs.declared.tokens.Token.{Token}
use Rattle.store.specs.declared.tokens.Yielded.{Yielded}
use Rattle.store.specs.declared.tokens.Opened.{Opened}
use Rattle.store.specs.declared.tokens.Opened.TheVariants.{Ready, Owed}

abbrev pub state : {D : Type 0} → Store D → State
state s = state_of s.ledger

abbrev pub disk_of : {D : Type 0} → Store D → D
disk_of s = s.disk

-- the store s asked its disk what the rule asks in its state, answered r and became t
abbrev pub Does : {D R : Type 0} → (D → (q : Request) → Answer q → D → Type 0) → Store D → (State → Prog (R × State)) → R → Store D → Type 0
Does did s rule r t = Runs did (rule (state s)) (disk_of s) (r, state t) (disk_of t)

-- whether an opening is at a stage that fits
abbrev pub of_kind : (Stage → Bool) → Opening → Bool
of_kind fits o = fits o.account.stage

-- the opening of a token, or 18 where it is not at the stage asked
abbrev pub found : (Opening → Bool) → Option Opening → Result Opening Fault
found fits None = Err Unknown
found fits (Some o) = cond (fits o) (Ok o) (Err Unknown)

abbrev pub found_opening : Found → Opening
found_opening f = f.opening

-- ---- answers

abbrev pub answered : {X Y : Type 0} → (X → Y) → Result X Fault → Result Y Fault
answered f (Ok x) = Ok (f x)
answered f (Err e) = Err e

abbrev pub opened_of : Opened → opens.Opened
opened_of (Ready b len) = opens.blob b.number len
opened_of (Owed o) = opens.owing o.number

-- a blob with its length
abbrev pub ready_of : Token Yielded × ℕ → ℕ × ℕ
ready_of b = (b.0.number, b.1)

abbrev pub counted : Counts → asks.Counts
counted c = (c.written, c.completed, c.synced)

-- the held keys are asked for one by one: o is the one at place i of those that the rule answers
abbrev pub HeldAt : {D : Type 0} → (D → (q : Request) → Answer q → D → Type 0) → Store D → ℕ → Option KeyName → Type 0
HeldAt did s i o = (keys : List KeyName) × Does did s held_rule (Ok keys) s × (o ≡ slice_get keys i)

-- a read answers the bytes that it laid first into its room
abbrev pub bytes_read : Result ℕ Fault → List ℕ → Result (List ℕ) Fault
bytes_read (Ok c) into = Ok (take c into)
bytes_read (Err e) into = Err e

-- and leaves the rest of the room as it was
abbrev pub Spared : Result ℕ Fault → List ℕ → List ℕ → Type 0
Spared (Ok c) before after = drop c after ≡ drop c before
Spared (Err e) before after = after ≡ before
