-- What holds of every end of a program: in each run of it, and through the parts that the rules share. Assumes nothing.
use Rattle.std.proofs.Common.{◌≡◌, ℕ, Bool, true, false, cond, eqb, Some, None, Err, Option, Result, sym, refl, subst}
use Rattle.std.specs.Option.{option_map}
use Rattle.faults.specs.Numbers.{refusal}
use Rattle.faults.specs.declared.disk.DiskFault.{DiskFault}
use Rattle.faults.specs.declared.store.Fault.{Fault}
use Rattle.faults.specs.declared.store.Fault.TheVariants.{Io, WriteFailed, BlobSyncFailed, Unknown}
use Rattle.faults.specs.declared.store.Failure.{Failure}
use Rattle.faults.specs.declared.store.Failure.TheVariants.{Header, Write, Sync}
use Rattle.disk.specs.Requests.{Request, Answer}
use Rattle.rules.specs.declared.ticket.Ticket.{Ticket}
use Rattle.rules.specs.declared.opening.Opening.{Opening}
use Rattle.rules.specs.State.{State}
use Rattle.rules.specs.Tree.{Prog, done, ask, submit, Runs}
use Rattle.rules.specs.Ends.{end_from, end_rule, last_out, spend_from, spend_rule}
use Rattle.rules.specs.Opens.{unless}
use Rattle.rules.specs.Finishes.{at_stage}
use Rattle.rules.specs.Begins.{or_else}
use Rattle.rules.specs.Tickets.{Held, with_its, its_opening, on_ticket, ticket_rule}
use Rattle.laws.specs.Every.{Every}
use Rattle.laws.specs.Refusals.{OfTicket}

pub every_runs : {S R : Type 0} (did : S → (q : Request) → Answer q → S → Type 0) (P : R → Type 0) (p : Prog R) (d : S) (r : R) (e : S) → Every P p → Runs did p d r e → P r
every_runs did P (done x) d r e h run = subst P (sym run.0) h
every_runs did P (ask q k) d r e h run = every_runs did P (k run.0) run.1 r e (h run.0) run.3
every_runs did P (submit w hint k) d r e h run = every_runs did P (k run.0) run.1 r e (h run.0) run.3

pub every_cond : {R : Type 0} (P : R → Type 0) (b : Bool) (x y : Prog R) → (b ≡ true → Every P x) → (b ≡ false → Every P y) → Every P (cond b x y)
every_cond P true x y met unmet = met refl
every_cond P false x y met unmet = unmet refl

-- ---- a handle and a ticket are looked up

pub every_at_stage : {R : Type 0} (P : Result R Fault × State → Type 0) (s : State) (fits : Opening → Bool) (rule : Opening → Prog (Result R Fault × State)) (w : Option Opening)
    → P (Err Unknown, s) → ((o : Opening) → w ≡ Some o → Every P (rule o)) → Every P (at_stage s fits rule w)
every_at_stage P s fits rule None unmet met = unmet
every_at_stage P s fits rule (Some o) unmet met = every_cond P (fits o) (rule o) (done (Err Unknown, s)) (λ _. met o refl) (λ _. unmet)

-- what is held is a ticket's, and its opening is there
abbrev pub Holds : State → Option Ticket → Held → Type 0
Holds s w h = OfTicket w h.of × (s.openings.at h.of ≡ Some h.opening)

module _ {R : Type 0} (P : Result R Fault × State → Type 0) (s : State) (rule : Held → Prog (Result R Fault × State)) (unmet : P (Err Unknown, s)) where
  with_it : (k : Ticket) (w : Option Opening) → s.openings.at k.opening ≡ w → ((h : Held) → Holds s (Some k) h → Every P (rule h)) → Every P (on_ticket s rule (with_its k w))
  with_it k None e met = unmet
  with_it k (Some o) e met = met (record { step = k.step; of = k.opening; opening = o }) (refl, e)

  on_it : (w : Option Ticket) → ((h : Held) → Holds s w h → Every P (rule h)) → Every P (on_ticket s rule (its_opening s w))
  on_it None met = unmet
  on_it (Some k) met = with_it k (s.openings.at k.opening) refl met

  pub every_ticket : (t : ℕ) → ((h : Held) → Holds s (s.tickets.at t) h → Every P (rule h)) → Every P (ticket_rule s t rule)
  every_ticket t met = on_it (s.tickets.at t) met

-- ---- the end of an opening and of a ticket keeps the counters

abbrev pub SameCounts : State → State → Type 0
SameCounts s t = (t.admitted ≡ s.admitted) × (t.given ≡ s.given)

module _ {R : Type 0} (P : R × State → Type 0) (s : State) (n : ℕ) (r : R) (same : (t : State) → SameCounts s t → P (r, t)) where
  end_from_counts : (w : Option Opening) → Every P (end_from s n r w)
  end_from_counts None = same s (refl, refl)
  end_from_counts (Some o) = every_cond P (eqb o.account.out 0) _ _ (λ _ _. same _ (refl, refl)) (λ _. same _ (refl, refl))

  pub end_counts : Every P (end_rule s n r)
  end_counts = end_from_counts (s.openings.at n)

  spend_from_counts : (t : ℕ) (w : Option Opening) → Every P (spend_from s t n r w)
  spend_from_counts t None = same _ (refl, refl)
  spend_from_counts t (Some o) = every_cond P (last_out o) _ _ (λ _ _. same _ (refl, refl)) (λ _. same _ (refl, refl))

  pub spend_counts : (t : ℕ) → Every P (spend_rule s t n r)
  spend_counts t = spend_from_counts t (s.openings.at n)

-- ---- chains of refusals

-- P holds of the refusal, if there is one
abbrev pub Refuses : (Fault → Type 0) → Option Fault → Type 0
Refuses P None = Unit {0}
Refuses P (Some f) = P f

pub refuses_unless : (P : Fault → Type 0) (b : Bool) (f : Fault) (rest : Option Fault) → (b ≡ false → P f) → Refuses P rest → Refuses P (unless b f rest)
refuses_unless P true f rest first later = later
refuses_unless P false f rest first later = first refl

pub refuses_or_else : (P : Fault → Type 0) (w rest : Option Fault) → Refuses P w → Refuses P rest → Refuses P (or_else w rest)
refuses_or_else P None rest first later = later
refuses_or_else P (Some f) rest first later = first

-- the refusals of kept failures
pub refusal_of : (P : Fault → Type 0) → ((d : DiskFault) → P (Io d)) → P WriteFailed → ((d : DiskFault) → P (BlobSyncFailed d)) → (f : Failure) → P (refusal f)
refusal_of P io short sync (Header d) = io d
refusal_of P io short sync Write = short
refusal_of P io short sync (Sync d) = sync d

pub refuses_kept : (P : Fault → Type 0) → ((f : Failure) → P (refusal f)) → (w : Option Failure) → Refuses P (option_map refusal w)
refuses_kept P kept None = tt
refuses_kept P kept (Some f) = kept f
