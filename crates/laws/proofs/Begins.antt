-- Every end of a write, a resize and a sync is fair. Assumes nothing.
use Rattle.std.proofs.Common.{◌≡◌, ℕ, ◌+◌, ◌≤◌, Bool, true, false, eqb, ltb, leb, ◌⊎◌, List, length, Some, None, Option, refl, inl, inr}
use Rattle.std.specs.Option.{option_map}
use Rattle.std.proofs.lemmas.Bool.{cases_Bool, cond_both, ltb-false}
use Rattle.faults.specs.Numbers.{refusal}
use Rattle.faults.specs.declared.store.Fault.{Fault}
use Rattle.faults.specs.declared.store.Fault.TheVariants.{TooLarge, Full, Exhausted, OffsetOverflow}
use Rattle.rules.specs.declared.opening.Opening.{Opening}
use Rattle.rules.specs.State.{State}
use Rattle.rules.specs.Track.{is_dirty}
use Rattle.rules.specs.Finishes.{blob_stage}
use Rattle.rules.specs.Chunks.{sizes_ok}
use Rattle.rules.specs.Begins.{Options, ticket_room, most_begun, one_left, last_word, last_offset, kept_refusal, write_refused, write_begun, write_sized, size_refused, write_open, write_rule, resize_refused, resize_begun, resize_rule, sync_refused, sync_begun, sync_rule}
use Rattle.rules.specs.Calls.{Call, to_write, to_resize, to_sync}
use Rattle.rules.specs.declared.opening.Account.{Account}
use Rattle.laws.specs.Every.{Every}
use Rattle.laws.specs.Refusals.{OfAccount}
use Rattle.laws.proofs.Progs.{every_at_stage, Refuses, refuses_unless, refuses_or_else, refuses_kept, refusal_of}
use Rattle.laws.proofs.Fair.{Fair, Allowed, left}

-- no more is left to begin: of the opening's own, or of all tickets
none_left : (s : State) (n : ℕ) (o : Opening) → s.openings.at n ≡ Some o → (begun : Account → ℕ) → one_left s (begun o.account) ≡ false → OfAccount s n (λ a. 16000000 ≤ begun a) ⊎ (18446744073709551615 ≤ s.given)
none_left s n o there begun e =
    elim (cases_Bool (ltb (begun o.account) most_begun)) [
      | inl t ↦ inr (ltb-false _ _ (rw t at e))
      | inr f ↦ inl (o, there, ltb-false _ _ f)
    ]

-- ---- write

module _ (s : State) (n place : ℕ) (body lengths : List ℕ) (x : Options) where
  abbrev writes : Call
  writes = to_write n place body lengths x

  module _ (o : Opening) (there : s.openings.at n ≡ Some o) where
    kept_allowed : (asked : Bool) → Refuses (Allowed s writes) (kept_refusal asked o)
    kept_allowed true = refuses_kept (Allowed s writes) (refusal_of (Allowed s writes) (λ _. (refl, tt)) (refl, tt) (λ _. (refl, tt))) o.account.tracker.failure
    kept_allowed false = tt

    begun_refusals : Refuses (Allowed s writes) (write_refused s o place (length body) x)
    begun_refusals =
        refuses_unless (Allowed s writes) (leb (place + o.account.offset + length body) last_offset) OffsetOverflow _ (λ _. (refl, tt))
        (refuses_or_else (Allowed s writes) (kept_refusal x.sync o) _ (kept_allowed x.sync)
        (refuses_unless (Allowed s writes) (one_left s o.account.mutations) Exhausted _ (λ e. (refl, none_left s n o there (λ a. a.mutations) e))
        (refuses_unless (Allowed s writes) (ticket_room s) Full _ (λ e. (refl, ltb-false _ _ e)) tt)))

    begun_fair : (w : Option Fault) → Refuses (Allowed s writes) w → Fair s writes (write_begun s n o place (length body) lengths x w)
    begun_fair (Some f) a = left a
    begun_fair None a = (refl, refl, refl)

    sized_fair : (w : Option Fault) → Refuses (Allowed s writes) w → Fair s writes (write_sized s n o place (length body) lengths x w)
    sized_fair (Some f) a = left a
    sized_fair None a = cond_both (eqb (length body) 0) _ _ (Fair s writes) (λ _. (refl, refl)) (λ _. begun_fair (write_refused s o place (length body) x) begun_refusals)

    open_fair : Fair s writes (write_sized s n o place (length body) lengths x (size_refused o place (length body) lengths))
    open_fair = sized_fair (size_refused o place (length body) lengths) (refuses_unless (Allowed s writes) (sizes_ok (length body) lengths) TooLarge _ (λ _. (refl, tt)) (refuses_unless (Allowed s writes) (leb (place + o.account.offset) last_word) OffsetOverflow _ (λ _. (refl, tt)) tt))

  pub write_fair : Every (Fair s writes) (write_rule s n place (length body) lengths x)
  write_fair = every_at_stage (Fair s writes) s blob_stage (write_open s n place (length body) lengths x) (s.openings.at n) (left (refl, tt)) open_fair

-- ---- resize

module _ (s : State) (n size : ℕ) where
  abbrev resizes : Call
  resizes = to_resize n size

  resize_refusals : (o : Opening) → s.openings.at n ≡ Some o → Refuses (Allowed s resizes) (resize_refused s o size)
  resize_refusals o there =
      refuses_unless (Allowed s resizes) (leb (size + o.account.offset) last_word) OffsetOverflow _ (λ _. (refl, tt))
      (refuses_unless (Allowed s resizes) (one_left s o.account.mutations) Exhausted _ (λ e. (refl, none_left s n o there (λ a. a.mutations) e))
      (refuses_unless (Allowed s resizes) (ticket_room s) Full _ (λ e. (refl, ltb-false _ _ e)) tt))

  resized_fair : (o : Opening) (w : Option Fault) → Refuses (Allowed s resizes) w → Fair s resizes (resize_begun s n o size w)
  resized_fair o (Some f) a = left a
  resized_fair o None a = (refl, refl, refl)

  pub resize_fair : Every (Fair s resizes) (resize_rule s n size)
  resize_fair = every_at_stage (Fair s resizes) s blob_stage _ (s.openings.at n) (left (refl, tt)) (λ o there. resized_fair o (resize_refused s o size) (resize_refusals o there))

-- ---- sync

module _ (s : State) (n : ℕ) where
  abbrev syncs : Call
  syncs = to_sync n

  sync_refusals : (o : Opening) → s.openings.at n ≡ Some o → Refuses (Allowed s syncs) (sync_refused s o)
  sync_refusals o there =
      refuses_or_else (Allowed s syncs) (option_map refusal o.account.tracker.failure) _
      (refuses_kept (Allowed s syncs) (refusal_of (Allowed s syncs) (λ _. (refl, tt)) (refl, tt) (λ _. (refl, tt))) o.account.tracker.failure)
      (refuses_unless (Allowed s syncs) (one_left s o.account.syncs) Exhausted _ (λ e. (refl, none_left s n o there (λ a. a.syncs) e)) tt)

  synced_fair : (o : Opening) (w : Option Fault) → Refuses (Allowed s syncs) w → Fair s syncs (sync_begun s n o w)
  synced_fair o (Some f) a = left a
  synced_fair o None a =
      cond_both (is_dirty o.account.tracker) _ _ (Fair s syncs)
      (λ _. cond_both (ticket_room s) _ _ (Fair s syncs) (λ _. (refl, refl, refl)) (λ e. left (refl, ltb-false _ _ e))) (λ _. (refl, refl))

  pub sync_fair : Every (Fair s syncs) (sync_rule s n)
  sync_fair = every_at_stage (Fair s syncs) s blob_stage _ (s.openings.at n) (left (refl, tt)) (λ o there. synced_fair o (sync_refused s o) (sync_refusals o there))
