-- A finish that gets past its checks spends the opening, whatever it answers. Assumes nothing.
use Rattle.std.proofs.Common.{◌≡◌, ℕ, ◌-◌, Bool, true, false, cond, eqb, leb, Some, None, Ok, Err, Option, Result, refl, ap, ◌∙◌}
use Rattle.faults.specs.Numbers.{refusal}
use Rattle.faults.specs.Kinds.{FlushFault, LengthFault}
use Rattle.faults.specs.declared.store.Fault.{Fault}
use Rattle.faults.specs.declared.store.Fault.TheVariants.{BlobSyncFailed, ReadFailed}
use Rattle.faults.specs.declared.store.Failure.{Failure}
use Rattle.faults.specs.declared.store.Failure.TheVariants.{Header, Write, Sync}
use Rattle.disk.specs.Requests.{Request, Answer}
use Rattle.rules.specs.declared.opening.Account.{Account}
use Rattle.rules.specs.declared.pending.Entry.{Entry}
use Rattle.rules.specs.declared.opening.Opening.{Opening}
use Rattle.rules.specs.State.{State}
use Rattle.rules.specs.Tree.{Runs, done}
use Rattle.rules.specs.Calls.{left_of}
use Rattle.rules.specs.Ends.{change, end_rule}
use Rattle.rules.specs.Opens.{fail_name}
use Rattle.rules.specs.Finishes.{Out, by_entry, clean_name, flushed, keep, made_blob, owned, readied, ready_rule}
use Rattle.store.specs.Of.{answered}
use Rattle.store.proofs.Ends.{end_answers}

module _ {S : Type 0} (did : S → (q : Request) → Answer q → S → Type 0) (m : ℕ) (e : S) (x : Result (ℕ × ℕ) Fault) (t : State) where
  refused : (s : State) (n : ℕ) (f : Fault) (d : S) → left_of {R = ℕ × ℕ} m (Err f) ≡ 0 → Runs did (end_rule s n (Err f)) d (x, t) e → left_of m x ≡ 0
  refused s n f d z h = ap (λ (r : Result (ℕ × ℕ) Fault). left_of m r) (end_answers did s n d e t (Err f) x h) ∙ z

  measured : (s : State) (n len offset : ℕ) (b : Bool) (d : S) → Runs did (cond b (done (Ok (n, len - offset), change s n made_blob)) (end_rule s n (Err ReadFailed))) d (x, t) e → left_of m x ≡ 0
  measured s n len offset true d h = ap (λ (p : Out). left_of m p.0) h.0
  measured s n len offset false d h = refused s n ReadFailed d refl h

  answered_length : (s : State) (n offset : ℕ) (a : Result ℕ LengthFault) (d : S) → Runs did (readied s n offset a) d (x, t) e → left_of m x ≡ 0
  answered_length s n offset (Ok len) d h = measured s n len offset (leb offset len) d h
  answered_length s n offset (Err f) d h = refused s n ReadFailed d refl h

  ready : (s : State) (n : ℕ) (a : Account) (d : S) → Runs did (ready_rule s n a) d (x, t) e → left_of m x ≡ 0
  ready s n a d h = answered_length s n a.offset h.0 h.1 h.3

  debt_flushed : (s : State) (n : ℕ) (o : Opening) (a : Result (Unit {0}) FlushFault) (d : S) → Runs did (flushed s n o a) d (x, t) e → left_of m x ≡ 0
  debt_flushed s n o (Ok u) d h = ready (clean_name s o.key n) n o.account d h
  debt_flushed s n o (Err f) d h = refused (change (fail_name s o.key n (Sync f.0)) n (keep (Sync f.0))) n (BlobSyncFailed f.0) d refl h

  kept_spends : (f : Failure) → left_of {R = ℕ × ℕ} m (Err (refusal f)) ≡ 0
  kept_spends (Header f) = refl
  kept_spends Write = refl
  kept_spends (Sync f) = refl

  finished : (s : State) (n : ℕ) (o : Opening) (dirty : Bool) (f : Option Failure) (d : S) → Runs did (owned s n o dirty f) d (x, t) e → left_of m x ≡ 0
  finished s n o dirty (Some f) d h = refused s n (refusal f) d (kept_spends f) h
  finished s n o true None d h = debt_flushed s n o h.3.0 h.3.1 h.3.3
  finished s n o false None d h = ready s n o.account d h

  if_own : (s : State) (n : ℕ) (o : Opening) (w : Entry) (b : Bool) (d : S) → Runs did (cond b (owned s n o w.dirty w.failure) (ready_rule s n o.account)) d (x, t) e → left_of m x ≡ 0
  if_own s n o w true d h = finished s n o w.dirty w.failure d h
  if_own s n o w false d h = ready s n o.account d h

  pub by_entry_spends : (s : State) (n : ℕ) (o : Opening) (w : Option Entry) (d : S) → Runs did (by_entry s n o w) d (x, t) e → left_of m x ≡ 0
  by_entry_spends s n o None d h = ready s n o.account d h
  by_entry_spends s n o (Some w) d h = if_own s n o w (eqb w.opening n) d h

-- the view of an answer leaves the token as the answer does
pub left_answered : {X Y : Type 0} (f : X → Y) (m : ℕ) (r : Result X Fault) → left_of m (answered f r) ≡ left_of m r
left_answered f m (Ok x) = refl
left_answered f m (Err e) = refl
