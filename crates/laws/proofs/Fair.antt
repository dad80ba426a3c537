-- What the laws ask of a call's end, and how the shared tails of the rules meet it. Assumes nothing.
use Rattle.std.proofs.Common.{◌≡◌, ℕ, ◌≤◌, true, false, eqb, ◌⊎◌, Some, None, Ok, Err, sym, refl, subst, inl, inr, arith}
use Rattle.std.proofs.lemmas.Map.{update_here}
use Rattle.faults.specs.Numbers.{number}
use Rattle.faults.specs.declared.store.Fault.{Fault}
use Rattle.faults.specs.declared.store.Fault.TheVariants.{PartitionNameInvalid, BlobNameInvalid, TooLarge, Full, Exhausted, BlobAlreadyOpen, OffsetOverflow, Io, WriteFailed, BlobSyncFailed, BlobResizeFailed, ReadFailed, BlobMissing, PartitionMissing, BlobOpenFailed, Flushing, Unsettled, Unknown, Mismatched}
use Rattle.rules.specs.declared.opening.Opening.{Opening}
use Rattle.rules.specs.State.{State, with_opening, with_ticket}
use Rattle.rules.specs.Ends.{register, ended, end_from, end_rule, one_less, last_out, spend_from, spend_rule}
use Rattle.rules.specs.Calls.{Call, Reply}
use Rattle.laws.specs.Every.{Every}
use Rattle.laws.specs.Rows.{among, rows, changing}
use Rattle.laws.specs.Refusals.{AboutOpening, AboutTicket, Credit, Spares, subject, want, NoRoom, NoNumber, Early}
use Rattle.laws.specs.Numbers.{New, gift}
use Rattle.laws.proofs.Progs.{every_cond}
use Rattle.laws.proofs.Near.{Near, Found, near_name, near_opening, near_ticket, near_spares, credit_gone, credit_like}

-- the cause of a refusal, where one is asked
abbrev pub Cause : State → Call → Fault → Type 0
Cause s c PartitionNameInvalid = Unit {0}
Cause s c BlobNameInvalid = Unit {0}
Cause s c TooLarge = Unit {0}
Cause s c Full = NoRoom s (want c)
Cause s c Exhausted = NoNumber s (want c)
Cause s c BlobAlreadyOpen = Unit {0}
Cause s c OffsetOverflow = Unit {0}
Cause s c (Io d) = Unit {0}
Cause s c WriteFailed = Unit {0}
Cause s c (BlobSyncFailed d) = Unit {0}
Cause s c (BlobResizeFailed d) = Unit {0}
Cause s c ReadFailed = Unit {0}
Cause s c BlobMissing = Unit {0}
Cause s c PartitionMissing = Unit {0}
Cause s c (BlobOpenFailed d) = Unit {0}
Cause s c Flushing = Unit {0}
Cause s c Unsettled = Early s c
Cause s c Unknown = Unit {0}
Cause s c Mismatched = Unit {0}

-- the call was refused with f and left t
pub record Refused (s : State) (c : Call) (f : Fault) (t : State) : Type 0 where
  pub row : among (number f) (rows c) ≡ true
  pub cause : Cause s c f
  pub left : (t ≡ s) ⊎ ((among (number f) (changing c) ≡ true) × Spares s (subject c) t)
  pub admitted : s.admitted ≤ t.admitted
  pub given : t.given ≡ s.given

abbrev pub FairTo : State → (c : Call) → Reply c → State → Type 0
FairTo s c (Ok x) t = New s t (gift c x)
FairTo s c (Err f) t = Refused s c f t

-- all that the laws say of the end of a call
abbrev pub Fair : State → (c : Call) → Reply c × State → Type 0
Fair s c x = FairTo s c x.0 x.1

-- ---- a refusal that leaves all

abbrev pub Allowed : State → Call → Fault → Type 0
Allowed s c f = (among (number f) (rows c) ≡ true) × Cause s c f

pub left : {s : State} {c : Call} {f : Fault} → Allowed s c f → Refused s c f s
left a = record { row = a.0; cause = a.1; left = inl refl; admitted = omega arith; given = refl }

-- ---- one that may change what the call is about

abbrev pub Changing : State → Call → Fault → Type 0
Changing s c f = (among (number f) (rows c) ≡ true) × (among (number f) (changing c) ≡ true) × Cause s c f

pub spared : {s : State} {c : Call} {f : Fault} {t : State} → Changing s c f → s.admitted ≤ t.admitted → Spares s (subject c) t → Refused s c f t
spared a more h = record { row = a.0; cause = a.2; left = inr (a.1, h); admitted = more; given = h.given }

module _ {s : State} (c : Call) {n : ℕ} (f : Fault) (about : AboutOpening s (subject c) n) (a : Changing s c f) where
  -- the opening n has gone, or stays with its credit
  gone : (t : State) → Near s (subject c) n t → Refused s c f (with_opening t n None)
  gone t h =
      spared a h.admitted
      (near_spares s (subject c) n _ about (near_opening s (subject c) n t None h) (subst (λ x. Credit (s.openings.at n) x) (sym (update_here t.openings.at n None)) (credit_gone (s.openings.at n))))

  stays : (t : State) (p : Opening) → Near s (subject c) n t → Credit (s.openings.at n) (Some p) → Refused s c f (with_opening t n (Some p))
  stays t p h credit =
      spared a h.admitted
      (near_spares s (subject c) n _ about (near_opening s (subject c) n t (Some p) h) (subst (λ x. Credit (s.openings.at n) x) (sym (update_here t.openings.at n (Some p))) credit))

  pub end_fair : {o : Opening} {t : State} → Found s (subject c) n o t → (eqb o.account.out 0 ≡ false → Credit (s.openings.at n) (Some o)) → Every (Fair s c) (end_rule t n (Err f))
  end_fair {o} {t} h credit =
      subst (λ w. Every (Fair s c) (end_from t n (Err f) w)) (sym h.there)
      (every_cond (Fair s c) (eqb o.account.out 0) _ _ (λ _ _. gone _ (near_name s (subject c) n _ o.key _ h.key registered))
      (λ e. stays _ (ended o) registered (credit_like (s.openings.at n) o (ended o) (refl, refl) (credit e))))
    where
      registered : Near s (subject c) n (register t n o)
      registered = near_name s (subject c) n t o.key _ h.key h.near

  pub spend_fair : {o : Opening} {t : State} (u : ℕ) → AboutTicket (subject c) u → Found s (subject c) n o t → Credit (s.openings.at n) (Some o) → Every (Fair s c) (spend_rule t u n (Err f))
  spend_fair {o} {t} u mine h credit =
      subst (λ w. Every (Fair s c) (spend_from t u n (Err f) w)) (sym h.there)
      (every_cond (Fair s c) (last_out o) _ _ (λ _ _. gone _ (near_name s (subject c) n _ o.key _ h.key spent))
      (λ _. stays _ (one_less o) spent (credit_like (s.openings.at n) o (one_less o) (refl, refl) credit)))
    where
      spent : Near s (subject c) n (with_ticket t u None)
      spent = near_ticket s (subject c) n t u None mine h.near
