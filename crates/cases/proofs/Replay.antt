-- A case is replayed: the calls are made, each request is answered by the script's next answer, and what was asked and
-- answered is written down. What is written down plays, whatever the script was. Assumes nothing.
use Rattle.std.proofs.Common.{◌≡◌, ℕ, zero, suc, ◌+◌, ◌-◌, ◌<◌, ◌≤◌, Bool, true, false, cond, not, T, eqb, leb, List, [], ◌∷◌, ◌++◌, length, take, drop, Ok, Err, Result, refl, ap, subst, suc-le-suc, zero-le, eqb→eq, leb→le, T_not}
use lib.Dec.{nleb→lt, eqb_refl}
use Rattle.faults.specs.Numbers.{code}
use Rattle.faults.specs.Kinds.{WriteFault}
use Rattle.disk.specs.Requests.{Request, ask_write}
use Rattle.rules.specs.Chunks.{batch, ahead}
use Rattle.rules.specs.State.{State, empty}
use Rattle.rules.specs.Submissions.{Transfer, path, by_code, nothing_landed, Outcome, landed, lost, patience, Submitted, Submits, all, more, stuck, again, worn, unhinted, broken}
use Rattle.rules.specs.Tree.{Prog, done, ask, submit, Runs}
use Rattle.rules.specs.Calls.{rule}
use Rattle.cases.specs.Scripts.{Said, scripted, Turn, Plays, AllPlay}
use Rattle.cases.proofs.Told.{told, behind}

-- ---- one of two, by a test

abbrev pub by_test : {X : Type 0} → (b : Bool) → (T b → X) → (T (not b) → X) → X
by_test true f g = f tt
by_test false f g = g tt

pub apart : (a b : ℕ) → T (not (eqb a b)) → a ≡ b → ⊥
apart a b t e = T_not (eqb a b) t (subst (λ (x : ℕ). T (eqb a x)) e (eqb_refl a))

pub false_true : false ≡ true → ⊥
false_true e = subst (λ (b : Bool). T (not b)) e tt

-- `ahead` computes both of its branches, and so takes too long at a thousand chunks; this one computes the branch that it takes
abbrev pub quick : ℕ → List ℕ → ℕ → ℕ
quick c [] down = 0
quick zero (l ∷ ls) down = 0
quick (suc c) (l ∷ ls) down = by_test (leb l down) (λ _. quick (suc c) ls (down - l)) (λ _. l - down + quick c ls 0)

pub quick_ahead : (c : ℕ) (ls : List ℕ) (down : ℕ) → quick c ls down ≡ ahead c ls down
quick_ahead c [] down = refl
quick_ahead zero (l ∷ ls) down = refl
quick_ahead (suc c) (l ∷ ls) down =
    elim (leb l down) as (λ b. by_test b (λ _. quick (suc c) ls (down - l)) (λ _. l - down + quick c ls 0) ≡ cond b (ahead (suc c) ls (down - l)) (l - down + ahead c ls 0)) [
      | true ↦ quick_ahead (suc c) ls (down - l)
      | false ↦ ap (λ (x : ℕ). l - down + x) (quick_ahead c ls 0)
    ]

-- ---- a transfer

-- what a script makes of the transfer w from where it stands: `at` bytes landed, k interruptions since, n submissions, and the hint
pub record Course (w : Transfer) (at k n : ℕ) (hint : Bool) : Type 0 where
  pub outcome : Outcome
  pub asked : List Said
  pub left : List Said
  pub submits : (e : List Said) → Submits scripted w (asked ++ e) at k n hint outcome e

module _ (w : Transfer) where
  abbrev pub request : ℕ → Bool → Request
  request at hint = ask_write w.file (w.offset + at) (take (quick batch w.lengths at) (drop at w.body)) (path w hint)

  pub says : (at : ℕ) (hint : Bool) (a : Result ℕ WriteFault) (e : List Said) → Submitted scripted w at hint ((request at hint, a) ∷ e) a e
  says at hint a e = ap (λ (x : ℕ). (ask_write w.file (w.offset + at) (take x (drop at w.body)) (path w hint), a) ∷ e) (quick_ahead batch w.lengths at)

  -- the script behind an answer, from anywhere
  abbrev pub Onward : Type 0
  Onward = (at k n : ℕ) (hint : Bool) → Course w at k n hint

  abbrev pub arrives : (at k n : ℕ) (hint : Bool) → length w.body ≤ at → List Said → Course w at k n hint
  arrives at k n hint h xs = record { outcome = landed n hint; asked = []; left = xs; submits = λ e. all h }

  abbrev pub sticks : (at k n : ℕ) (hint : Bool) → at < length w.body → List Said → Course w at k n hint
  sticks at k n hint h xs = record { outcome = lost (nothing_landed w) hint; asked = (request at hint, Ok 0) ∷ []; left = xs; submits = λ e. stuck h (says at hint (Ok 0) e) }

  abbrev pub breaks : (at k n : ℕ) (hint : Bool) → at < length w.body → (f : WriteFault) → (code f.0 ≡ 4 → ⊥) → (code f.0 ≡ 95 → hint ≡ true → ⊥) → List Said → Course w at k n hint
  breaks at k n hint h f other kept xs = record { outcome = lost (by_code f.0) hint; asked = (request at hint, Err f) ∷ []; left = xs; submits = λ e. broken h f other kept (says at hint (Err f) e) }

  -- code 4, code 95, and any other
  abbrev pub on_four : (at k n : ℕ) (hint : Bool) → at < length w.body → (f : WriteFault) → code f.0 ≡ 4 → List Said → Onward → Course w at k n hint
  on_four at k n hint h f four xs on =
      by_test (leb patience k)
      (λ t. record { outcome = lost (by_code f.0) hint; asked = (request at hint, Err f) ∷ []; left = xs; submits = λ e. worn h f four (leb→le patience k t) (says at hint (Err f) e) })
      (λ t.
      let c = on at (k + 1) (n + 1) hint in
      record { outcome = c.outcome; asked = (request at hint, Err f) ∷ c.asked; left = c.left; submits = λ e. again h f four (nleb→lt patience k t) (says at hint (Err f) (c.asked ++ e)) (c.submits e) })

  abbrev pub on_other : (at k n : ℕ) (hint : Bool) → at < length w.body → (f : WriteFault) → (code f.0 ≡ 4 → ⊥) → List Said → Onward → Course w at k n hint
  on_other at k n false h f other xs on = breaks at k n false h f other (λ _. false_true) xs
  on_other at k n true h f other xs on =
      by_test (eqb (code f.0) 95)
      (λ t.
      let c = on at k (n + 1) false in
      record { outcome = c.outcome; asked = (request at true, Err f) ∷ c.asked; left = c.left; submits = λ e. unhinted h f (eqb→eq (code f.0) 95 t) refl (says at true (Err f) (c.asked ++ e)) (c.submits e) })
      (λ t. breaks at k n true h f other (λ e _. apart (code f.0) 95 t e) xs)

  abbrev pub on_answer : (at k n : ℕ) (hint : Bool) → at < length w.body → Result ℕ WriteFault → List Said → Onward → Course w at k n hint
  on_answer at k n hint h (Ok zero) xs on = sticks at k n hint h xs
  on_answer at k n hint h (Ok (suc c)) xs on =
      let r = on (at + suc c) 0 (n + 1) hint in
      record { outcome = r.outcome; asked = (request at hint, Ok (suc c)) ∷ r.asked; left = r.left; submits = λ e. more h (suc c) (suc-le-suc zero-le) (says at hint (Ok (suc c)) (r.asked ++ e)) (r.submits e) }
  on_answer at k n hint h (Err f) xs on =
      by_test (eqb (code f.0) 4)
      (λ t. on_four at k n hint h f (eqb→eq (code f.0) 4 t) xs on)
      (λ t. on_other at k n hint h f (apart (code f.0) 4 t) xs on)

  -- where the script is at its end, nothing lands
  abbrev pub course : List Said → Onward
  course [] at k n hint =
      by_test (leb (length w.body) at)
      (λ t. arrives at k n hint (leb→le (length w.body) at t) [])
      (λ t. sticks at k n hint (nleb→lt (length w.body) at t) [])
  course (x ∷ xs) at k n hint =
      by_test (leb (length w.body) at)
      (λ t. arrives at k n hint (leb→le (length w.body) at t) (x ∷ xs))
      (λ t. on_answer at k n hint (nleb→lt (length w.body) at t) (told (request at hint) (x ∷ xs)) xs (course xs))

-- ---- a call

pub record Heard (R : Type 0) : Type 0 where
  pub answer : R
  pub asked : List Said

abbrev pub after : {R : Type 0} → List Said → Heard R → Heard R
after xs h = record { answer = h.answer; asked = xs ++ h.asked }

abbrev pub heard : {R : Type 0} → Prog R → List Said → Heard R
heard (done x) said = record { answer = x; asked = [] }
heard (ask q k) said = after ((q, told q said) ∷ []) (heard (k (told q said)) (behind said))
heard (submit w hint k) said =
    let c = course w said 0 0 0 hint in
    after c.asked (heard (k c.outcome) c.left)

runs : {R : Type 0} (p : Prog R) (said : List Said) → Runs scripted p (heard p said).asked (heard p said).answer []
runs (done x) said = (refl, refl)
runs (ask q k) said = (told q said, (heard (k (told q said)) (behind said)).asked, refl, runs (k (told q said)) (behind said))
runs (submit w hint k) said =
    let c = course w said 0 0 0 hint in
    let h = heard (k c.outcome) c.left in
    (c.outcome, h.asked, c.submits h.asked, runs (k c.outcome) c.left)

-- ---- a case, and the table

abbrev pub replay : State → List Turn → List Turn
replay s [] = []
replay s (x ∷ xs) =
    let h = heard (rule s x.call) x.said in
    record { call = x.call; said = h.asked; reply = h.answer.0 } ∷ replay h.answer.1 xs

plays : (s : State) (xs : List Turn) → Plays s (replay s xs)
plays s [] = tt
plays s (x ∷ xs) =
    let h = heard (rule s x.call) x.said in
    (h.answer.1, runs (rule s x.call) x.said, plays h.answer.1 xs)

abbrev pub replay_all : List (List Turn) → List (List Turn)
replay_all [] = []
replay_all (row ∷ rows) = replay empty row ∷ replay_all rows

pub all_play : (rows : List (List Turn)) → AllPlay (replay_all rows)
all_play [] = tt
all_play (row ∷ rows) = (plays empty row, all_play rows)
