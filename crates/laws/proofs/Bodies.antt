-- A transfer that has all landed has laid its body. Assumes nothing.
use Rattle.std.proofs.Common.{◌≡◌, ℕ, ◌+◌, ◌<◌, ◌≤◌, min, Bool, true, false, cond, not, ◌&&◌, ◌||◌, eqb, ◌⊎◌, List, length, take, drop, Some, Ok, Err, refl, ap, ◌∙◌, inl, inr, add-zero, arith}
use Rattle.std.proofs.lemmas.List.{length-take, length-drop, take-take, drop-drop, drop_all, take-append-drop}
use Rattle.std.proofs.lemmas.Map.{update_here, update_apart}
use Rattle.std.proofs.lemmas.Bool.{cases_Bool, cond_both, ne_eqb}
use Rattle.faults.specs.Numbers.{code}
use Rattle.faults.specs.Kinds.{WriteFault}
use Rattle.disk.specs.declared.path.Path.TheVariants.{Single, Vectored}
use Rattle.disk.specs.Paths.{durable}
use Rattle.disk.specs.Laid.{laid}
use Rattle.disk.specs.Files.{FileState, DiskState, Held, put}
use Rattle.disk.specs.Requests.{Request, Answer}
use Rattle.disk.specs.Rules.{DiskRules, written}
use Rattle.disk.proofs.Layers.{laid_on}
use Rattle.rules.specs.Chunks.{next_bytes, ahead, batch}
use Rattle.rules.specs.Submissions.{Transfer, landed, path, Submitted, Submits, all, more, again, unhinted}
use Rattle.laws.specs.Bodies.{is_durable, Lies, OthersStay, BodiesLie}

-- ---- one landing

path_durable : (w : Transfer) (hint : Bool) → durable (path w hint) ≡ is_durable w
path_durable w hint =
    elim w.single as (λ b. durable (cond b Single (Vectored w.durably hint)) ≡ (not b && w.durably)) [ true ↦ refl | false ↦ refl ]

-- a landing of some bytes is counted once, unless it is durable
durable_n : (b : Bool) (c n : ℕ) → b ≡ true → cond (b || eqb c 0) n (n + 1) ≡ n
durable_n b c n e = rw e refl

plain_n : (b : Bool) (c n : ℕ) → 0 < c → b ≡ false → cond (b || eqb c 0) n (n + 1) ≡ n + 1
plain_n b c n p e = rw (e, ne_eqb c 0 (omega arith)) refl

once_n : (b : Bool) (c n : ℕ) → cond (b || eqb c 0) n (n + 1) ≤ n + 1
once_n b c n = cond_both (b || eqb c 0) n (n + 1) (λ m. m ≤ n + 1) (λ _. omega arith) (λ _. omega arith)

nothing_left : (body old : List ℕ) (offset at : ℕ) → length body ≤ at → old ≡ laid old offset (drop at body)
unfolding laid
nothing_left body old offset at l = rw (drop_all at body l) refl

-- the first c bytes of a submission, and then what is left, are the body from there on
landed_bytes : (body lengths old : List ℕ) (offset at c : ℕ) → c ≤ length (next_bytes body lengths at) → laid (laid old (offset + at) (take c (next_bytes body lengths at))) (offset + (at + c)) (drop (at + c) body) ≡ laid old (offset + at) (drop at body)
landed_bytes body lengths old offset at c l =
    let a = ahead batch lengths at in
    let rest = drop at body in
    let n : c ≤ min a (length rest) = rw length-take at l in
    let e : length (take c rest) ≡ c = length-take c rest ∙ omega arith in
    let place : offset + (at + c) ≡ offset + at + length (take c rest) = omega arith in
    rw (take-take c a rest (omega arith), place, ← drop-drop c at body, laid_on, take-append-drop) refl

-- ---- the whole transfer

module _ {S : Type 0} (meaning : S → DiskState) (did : S → (q : Request) → Answer q → S → Type 0) (keeps : (d : S) (q : Request) (a : Answer q) (e : S) → did d q a e → DiskRules (meaning d) q a (meaning e)) (w : Transfer) where
  -- from `at` bytes into the body on, with `was` submissions asked before and n in the end
  abbrev Lands : ℕ → ℕ → ℕ → FileState → S → S → Type 0
  Lands at was n x d e = (y : FileState) × Held (meaning e) w.file y × Lies (is_durable w) (w.offset + at) (drop at w.body) x y × (y.n + was ≤ x.n + n) × OthersStay (meaning d) w.file (meaning e)

  -- the file once c bytes of the submission have landed
  abbrev after : FileState → ℕ → Bool → ℕ → FileState
  after x at hint c = written x (w.offset + at) (next_bytes w.body w.lengths at) (durable (path w hint)) c

  lies_on : (x y : FileState) (at c : ℕ) (hint : Bool) → 0 < c → c ≤ length (next_bytes w.body w.lengths at) → Lies (is_durable w) (w.offset + (at + c)) (drop (at + c) w.body) (after x at hint c) y → Lies (is_durable w) (w.offset + at) (drop at w.body) x y
  lies_on x y at c hint p l r =
      let fused : is_durable w ≡ true → (after x at hint c).n ≡ x.n = λ b. durable_n (durable (path w hint)) c x.n (path_durable w hint ∙ b) in
      let plain : is_durable w ≡ false → (after x at hint c).n ≡ x.n + 1 = λ b. plain_n (durable (path w hint)) c x.n p (path_durable w hint ∙ b) in
      let rises : x.n ≤ y.n = let up = r.rises in elim (cases_Bool (is_durable w)) [ inl b ↦ omega (arith, fused b) | inr b ↦ omega (arith, plain b) ] in
      record {
        bytes = r.bytes ∙ landed_bytes w.body w.lengths x.bytes w.offset at c l;
        key = r.key;
        k = r.k;
        holds = r.holds;
        rises = rises;
        counted = λ b _. omega (arith, plain b, r.rises);
        stays = λ b. r.stays b ∙ fused b;
      }

  -- so the rest of the transfer, which lands from the file as it then is, lands from the file as it was
  lands_more : (at was n c : ℕ) (hint : Bool) (x : FileState) (d m e : S) → 0 < c → c ≤ length (next_bytes w.body w.lengths at) → meaning m ≡ put (meaning d) w.file (Some (after x at hint c)) → Lands (at + c) (was + 1) n (after x at hint c) m e → Lands at was n x d e
  lands_more at was n c hint x d m e p l to (y, held, lies, few, others) =
      let once = once_n (durable (path w hint)) c x.n in
      (y, held, lies_on x y at c hint p l lies, omega arith, λ g z. others g z ∙ ap (λ s. s g) to ∙ update_apart (meaning d) w.file (Some (after x at hint c)) g z)

  -- and after an answer that leaves all it is as it was
  lands_again : (at was n : ℕ) (x : FileState) (d m e : S) → meaning m ≡ meaning d → Lands at (was + 1) n x m e → Lands at was n x d e
  lands_again at was n x d m e same (y, held, lies, few, others) = (y, held, lies, omega arith, λ g z. others g z ∙ ap (λ s. s g) same)

  -- codes 4 and 95 leave all
  spared : (at : ℕ) (hint : Bool) (x : FileState) (d m : S) (f : WriteFault) → Held (meaning d) w.file x → (code f.0 ≡ 4) ⊎ (code f.0 ≡ 95) → Submitted did w at hint d (Err f) m → meaning m ≡ meaning d
  spared at hint x d m f h z a =
      elim (keeps d _ (Err f) m a x h) [ inl same ↦ same | inr (not4, not95, _) ↦ elim z [ inl u ↦ absurd (not4 u) | inr u ↦ absurd (not95 u) ] ]

  lands : {d e : S} {at k was n : ℕ} {hint hint' : Bool} (x : FileState) → Held (meaning d) w.file x → Submits did w d at k was hint (landed n hint') e → Lands at was n x d e
  lands {at} x h (all l) =
      (x, h, record { bytes = nothing_left w.body x.bytes (w.offset + at) at l; key = refl; k = refl; holds = refl; rises = omega arith; counted = λ _ z. absurd (omega (arith, length-drop at w.body)); stays = λ _. refl }, omega arith, λ g z. refl)
  lands {d} {e} {at} {was} {n} {hint} x h (more {m = m} l c p a s) =
      let r = keeps d _ (Ok c) m a x h in
      let held : Held (meaning m) w.file (after x at hint c) = (ap (λ s. s w.file) r.1 ∙ update_here (meaning d) w.file (Some (after x at hint c)), h.1) in
      lands_more at was n c hint x d m e p r.0 r.1 (lands (after x at hint c) held s)
  lands {d} {e} {at} {was} {n} {hint} x h (again {m = m} l f y v a s) =
      let same = spared at hint x d m f h (inl y) a in
      lands_again at was n x d m e same (lands x (ap (λ s. s w.file) same ∙ h.0, h.1) s)
  lands {d} {e} {at} {was} {n} {hint} x h (unhinted {m = m} l f y v a s) =
      let same = spared at hint x d m f h (inr y) a in
      lands_again at was n x d m e same (lands x (ap (λ s. s w.file) same ∙ h.0, h.1) s)

pub bodies_lie : {S : Type 0} (meaning : S → DiskState) (did : S → (q : Request) → Answer q → S → Type 0) → ((d : S) (q : Request) (a : Answer q) (e : S) → did d q a e → DiskRules (meaning d) q a (meaning e)) → BodiesLie meaning did
bodies_lie meaning did keeps w d e n hint hint' x h s =
    let (y, held, lies, few, others) = lands meaning did keeps w x h s in
    (y, held, rw add-zero at lies, omega arith, others)
