-- Every list of calls of a store, and what was told of it. Assumes nothing.
use Rattle.std.specs.Prelude.{Bool, cond, List, [], ◌∷◌}
use Rattle.disk.specs.Files.{DiskState}
use Rattle.disk.specs.Requests.{Request, Answer}
use Rattle.rules.specs.State.{State, empty}
use Rattle.rules.specs.Tree.{Runs}
use Rattle.rules.specs.Calls.{Call, Reply, rule}
use Rattle.rules.specs.Events.{Item, now_disk, Passage, kind, kinds, is_close, trail, events}

-- whether a passage is the close of a file
abbrev pub closes : Passage → Bool
closes x = is_close (kind x.request x.answer)

-- what the disk stood for before the close that ends the call, or at its end
abbrev pub before_close : DiskState → List Passage → DiskState
before_close m [] = m
before_close m (x ∷ []) = cond (closes x) m x.after
before_close m (x ∷ y ∷ zs) = before_close x.after (y ∷ zs)

-- the newest item first
abbrev pub tell : List Item → List Item → List Item
tell [] l = l
tell (i ∷ is) l = tell is (i ∷ l)

-- the disk after each request, then the events, and then the disk after the close that ends the call
abbrev pub woven : List Passage → List Item → List Item → List Item
woven [] is l = tell is l
woven (x ∷ []) is l = cond (closes x) (now_disk x.after ∷ tell is l) (tell is (now_disk x.after ∷ l))
woven (x ∷ y ∷ zs) is l = woven (y ∷ zs) is (now_disk x.after ∷ l)

module _ {S : Type 0} (did : S → (q : Request) → Answer q → S → Type 0) (meaning : S → DiskState) where
  -- what a call adds to what was told
  abbrev pub told : (s t : State) (c : Call) (r : Reply c) (d e : S) → Runs did (rule s c) d (r, t) e → List Item → List Item
  told s t c r d e h l =
      let passed = trail did meaning (rule s c) d (r, t) e h in
      woven passed (events s (before_close (meaning d) passed) c r (kinds passed)) l

  -- calls led from the empty store on the disk d to the state s on the disk e, and l was told, the newest first
  pub data History (d : S) : State → S → List Item → Type 0 where
    begin : History d empty d []
    call : {s t : State} {m e : S} {l : List Item} → History d s m l → (c : Call) (r : Reply c) (h : Runs did (rule s c) m (r, t) e) → History d t e (told s t c r m e h l)
