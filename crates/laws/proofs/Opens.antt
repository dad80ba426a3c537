-- Every end of an open is fair. Assumes nothing.
use Rattle.std.proofs.Common.{◌≡◌, ℕ, ◌≤◌, Bool, true, false, cond, eqb, ltb, leb, List, length, is_some, Some, None, Ok, Err, Option, Result, refl, subst, inl, inr, arith}
use Rattle.std.specs.Option.{option_map}
use Rattle.std.proofs.lemmas.Map.{update_here}
use Rattle.std.proofs.lemmas.Bool.{true≢false, and_cases, or_parts, ltb-false}
use Rattle.faults.specs.Numbers.{refusal}
use Rattle.faults.specs.Kinds.{OpenFault, WriteFault, LengthFault}
use Rattle.faults.specs.declared.store.Fault.{Fault}
use Rattle.faults.specs.declared.store.Fault.TheVariants.{PartitionNameInvalid, BlobNameInvalid, TooLarge, Full, Exhausted, BlobAlreadyOpen, Io, ReadFailed}
use Rattle.keys.specs.KeyName.{KeyName}
use Rattle.keys.specs.Names.{partition_ok, name_ok}
use Rattle.rules.specs.declared.opening.Mode.{Mode}
use Rattle.rules.specs.declared.opening.Mode.TheVariants.{Existing, Fresh}
use Rattle.rules.specs.declared.pending.Entry.{Entry}
use Rattle.rules.specs.declared.opening.Opening.{Opening}
use Rattle.rules.specs.State.{State, with_name, with_opening, with_admitted}
use Rattle.rules.specs.Ends.{live, end_rule}
use Rattle.rules.specs.Opens.{room, open_refused, barred, owes, new_account, new_number, admit, measured, existing_from, fresh_header, fresh_root, fresh_directory, opened_as, opened, open_checked, open_rule}
use Rattle.rules.specs.Calls.{Call, to_open}
use Rattle.laws.specs.Every.{Every}
use Rattle.laws.specs.Refusals.{Subject, AboutName, NoRoom, for_opening, admission}
use Rattle.laws.proofs.Progs.{every_cond, Refuses, refuses_unless, refuses_kept, refusal_of}
use Rattle.laws.proofs.Near.{Near, Found, near_start, near_name, near_opening, near_admitted, found_name}
use Rattle.laws.proofs.Fair.{Fair, Allowed, Changing, left, end_fair}

-- ---- the causes of the refusals before the disk is asked

none_since : {X : Type 0} (w : Option X) → is_some w ≡ false → w ≡ None
none_since None e = refl
none_since (Some x) e = absurd (true≢false e)

no_room : (s : State) (q : KeyName) → room s q ≡ false → NoRoom s (for_opening q)
no_room s q e =
    elim (and_cases _ _ e) [
      | inl h ↦ inl (none_since (s.names.at q) (or_parts _ _ h).0, ltb-false _ _ (or_parts _ _ h).1)
      | inr h ↦ inr (ltb-false _ _ h)
    ]

-- ---- an opening admitted to the key and not yet ended

pub record Admitted (s : State) (q : KeyName) (t : State) : Type 0 where
  pub opening : Opening
  pub found : Found s (admission q) (new_number s) opening t
  pub out : opening.account.out ≡ 0
  pub admitted : t.admitted ≡ new_number s

admit_near : (s : State) (j : Subject) (n : ℕ) (q : KeyName) → AboutName s j q → s.admitted ≤ n → (e : Option Entry) (o : Option Opening) → Near s j n (with_admitted (with_opening (with_name s q e) n o) n)
admit_near s j n q about more e o = near_admitted s j n _ n more (near_opening s j n _ o (near_name s j n s q e about (near_start s j n)))

admit_admitted : (s : State) (q : KeyName) (file offset : ℕ) (was : Option Entry) → Admitted s q (admit s q file offset was)
admit_admitted s q file offset was =
    record {
      opening = record { key = q; account = new_account file offset was };
      found = record { near = admit_near s (admission q) (new_number s) q refl (omega arith) _ _; there = update_here s.openings.at (new_number s) _; key = refl };
      out = refl;
      admitted = refl;
    }

admitted_name : {s : State} {q : KeyName} {t : State} (w : Option Entry) → Admitted s q t → Admitted s q (with_name t q w)
admitted_name {s} {q} w h = record { opening = h.opening; found = found_name h.found q w refl; out = h.out; admitted = h.admitted }

module _ (s : State) (q : KeyName) (mode : Mode) (header : List ℕ) where
  abbrev call : Call
  call = to_open q mode header

  refusals : Refuses (Allowed s call) (open_refused s q (length header))
  refusals =
      refuses_unless (Allowed s call) (partition_ok q.partition) PartitionNameInvalid _ (λ _. (refl, tt))
      (refuses_unless (Allowed s call) (name_ok q.name) BlobNameInvalid _ (λ _. (refl, tt))
      (refuses_unless (Allowed s call) (leb (length header) 4096) TooLarge _ (λ _. (refl, tt))
      (refuses_unless (Allowed s call) (room s q) Full _ (λ e. (refl, no_room s q e))
      (refuses_unless (Allowed s call) (ltb s.admitted 1000000) Exhausted _ (λ e. (refl, ltb-false _ _ e)) tt))))

  bars : (w : Option Entry) → Refuses (Allowed s call) (barred s w)
  bars None = tt
  bars (Some e) = bar (live s e.opening)
    where
      bar : (b : Bool) → Refuses (Allowed s call) (cond b (Some BlobAlreadyOpen) (option_map refusal e.failure))
      bar true = (refl, tt)
      bar false = refuses_kept (Allowed s call) (refusal_of (Allowed s call) (λ _. (refl, tt)) (refl, tt) (λ _. (refl, tt))) e.failure

  -- ---- after admission

  ends : (f : Fault) → Changing s call f → {t : State} → Admitted s q t → Every (Fair s call) (end_rule t (new_number s) (Err f))
  ends f a h = end_fair call f refl a h.found (λ e. absurd (true≢false (subst (λ n. eqb n 0 ≡ false) h.out e)))

  measured_fair : {t : State} (offset : ℕ) → Admitted s q t → (a : Result ℕ LengthFault) → Every (Fair s call) (measured t (new_number s) offset a)
  measured_fair offset h (Ok len) = every_cond (Fair s call) (leb offset len) _ _ (λ _. (refl, h.admitted, h.found.near.given)) (λ _. ends ReadFailed (refl, refl, tt) h)
  measured_fair offset h (Err e) = ends ReadFailed (refl, refl, tt) h

  existing_fair : (file offset : ℕ) (w : Option Fault) → Refuses (Allowed s call) w → Every (Fair s call) (existing_from s q file offset w)
  existing_fair file offset (Some f) a = λ _. left a
  existing_fair file offset None a =
      every_cond (Fair s call) (owes (s.names.at q)) _ _ (λ _. (refl, refl, refl)) (λ _. measured_fair offset (admit_admitted s q file offset (s.names.at q)))

  module _ (t : State) (h : Admitted s q t) (file : ℕ) where
    header_fair : (a : Result (Unit {0}) WriteFault) → Every (Fair s call) (fresh_header t q (new_number s) file (length header) a)
    header_fair (Ok u) = measured_fair (length header) h
    header_fair (Err e) = ends (Io e.0) (refl, refl, tt) (admitted_name _ h)

    root_fair : (a : Result (Unit {0}) WriteFault) → Every (Fair s call) (fresh_root t q (new_number s) file header a)
    root_fair (Ok u) = header_fair
    root_fair (Err e) = ends (Io e.0) (refl, refl, tt) h

    directory_fair : (a : Result (Unit {0}) WriteFault) → Every (Fair s call) (fresh_directory t q (new_number s) file header a)
    directory_fair (Ok u) = root_fair
    directory_fair (Err e) = ends (Io e.0) (refl, refl, tt) h

  -- ---- the call

  opened_as_fair : (file : ℕ) (m : Mode) → Every (Fair s call) (opened_as s q header file m)
  opened_as_fair file Existing = existing_fair file (length header) (barred s (s.names.at q)) (bars (s.names.at q))
  opened_as_fair file Fresh = directory_fair _ (admit_admitted s q file (length header) None) file

  opened_fair : (a : Result ℕ OpenFault) → Every (Fair s call) (opened s q mode header a)
  opened_fair (Ok file) = opened_as_fair file mode
  opened_fair (Err e) = left (refl, tt)

  checked_fair : (w : Option Fault) → Refuses (Allowed s call) w → Every (Fair s call) (open_checked s q mode header w)
  checked_fair (Some f) a = left a
  checked_fair None a = opened_fair

  pub open_fair : Every (Fair s call) (open_rule s q mode header)
  open_fair = checked_fair (open_refused s q (length header)) refusals
