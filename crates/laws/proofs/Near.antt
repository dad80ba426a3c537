-- A state that differs from an earlier one only in what a call is about. Assumes nothing.
use Rattle.std.proofs.Common.{◌≡◌, ℕ, ◌≤◌, Bool, true, false, cond, ◌⊎◌, Some, None, Option, sym, refl, ap, ◌∙◌, subst, inl, inr, arith}
use Rattle.std.specs.Option.{option_map}
use Rattle.std.proofs.lemmas.Map.{update_here, update_apart}
use Rattle.std.proofs.lemmas.Bool.{cases_eq}
use Rattle.keys.specs.KeyName.{KeyName, same_key}
use Rattle.keys.specs.Laws.{same_key_decides}
use Rattle.rules.specs.declared.opening.Account.{Account}
use Rattle.rules.specs.declared.pending.Entry.{Entry}
use Rattle.rules.specs.declared.ticket.Ticket.{Ticket}
use Rattle.rules.specs.declared.opening.Opening.{Opening}
use Rattle.rules.specs.State.{State, with_name, with_opening, with_ticket, with_admitted, with_account}
use Rattle.rules.specs.Ends.{change}
use Rattle.laws.specs.Refusals.{Subject, AboutName, AboutOpening, AboutTicket, Credit, Spares}

-- ---- credit

pub credit_same : (w : Option Opening) → Credit w w
credit_same None = tt
credit_same (Some o) = (refl, refl)

pub credit_gone : (w : Option Opening) → Credit w None
credit_gone None = tt
credit_gone (Some o) = tt

pub credit_like : (w : Option Opening) (o p : Opening) → Credit (Some o) (Some p) → Credit w (Some o) → Credit w (Some p)
credit_like None o p same c = tt
credit_like (Some x) o p same c = (same.0 ∙ c.0, same.1 ∙ c.1)

-- ---- names

pub cond_off : {X : Type 0} (b : Bool) (x y : X) → (b ≡ true → ⊥) → cond b x y ≡ y
cond_off true x y off = absurd (off refl)
cond_off false x y off = refl

pub name_apart : (s : State) (q : KeyName) (w : Option Entry) (p : KeyName) → (p ≡ q → ⊥) → (with_name s q w).names.at p ≡ s.names.at p
name_apart s q w p apart = cond_off (same_key q p) w (s.names.at p) (λ e. apart (sym ((same_key_decides q p).0 e)))

-- ---- a call about the subject j and its opening n, made in s

-- t is as s but for what the call is about, and of the openings only n may differ
pub record Near (s : State) (j : Subject) (n : ℕ) (t : State) : Type 0 where
  pub names : (q : KeyName) → (AboutName s j q → ⊥) → t.names.at q ≡ s.names.at q
  pub others : (m : ℕ) → (m ≡ n → ⊥) → t.openings.at m ≡ s.openings.at m
  pub tickets : (u : ℕ) → (AboutTicket j u → ⊥) → t.tickets.at u ≡ s.tickets.at u
  pub admitted : s.admitted ≤ t.admitted
  pub given : t.given ≡ s.given

module _ (s : State) (j : Subject) (n : ℕ) where
  pub near_start : Near s j n s
  near_start = record { names = λ _ _. refl; others = λ _ _. refl; tickets = λ _ _. refl; admitted = omega arith; given = refl }

  pub near_name : (t : State) (q : KeyName) (w : Option Entry) → AboutName s j q → Near s j n t → Near s j n (with_name t q w)
  near_name t q w about h =
      record {
        names = λ p apart. name_apart t q w p (λ e. apart (subst (λ x. AboutName s j x) (sym e) about)) ∙ h.names p apart;
        others = h.others;
        tickets = h.tickets;
        admitted = h.admitted;
        given = h.given;
      }

  pub near_opening : (t : State) (w : Option Opening) → Near s j n t → Near s j n (with_opening t n w)
  near_opening t w h =
      record {
        names = h.names;
        others = λ m apart. update_apart t.openings.at n w m apart ∙ h.others m apart;
        tickets = h.tickets;
        admitted = h.admitted;
        given = h.given;
      }

  pub near_ticket : (t : State) (u : ℕ) (w : Option Ticket) → AboutTicket j u → Near s j n t → Near s j n (with_ticket t u w)
  near_ticket t u w about h =
      record {
        names = h.names;
        others = h.others;
        tickets = λ v apart. update_apart t.tickets.at u w v (λ e. apart (subst (λ x. AboutTicket j x) (sym e) about)) ∙ h.tickets v apart;
        admitted = h.admitted;
        given = h.given;
      }

  pub near_admitted : (t : State) (m : ℕ) → s.admitted ≤ m → Near s j n t → Near s j n (with_admitted t m)
  near_admitted t m more h = record { names = h.names; others = h.others; tickets = h.tickets; admitted = more; given = h.given }

  -- with the credit of n kept it spares all that the call is not about
  near_credit : (t : State) → Near s j n t → Credit (s.openings.at n) (t.openings.at n) → (m : ℕ) → (m ≡ n) ⊎ (m ≡ n → ⊥) → Credit (s.openings.at m) (t.openings.at m)
  near_credit t h c m (inl e) = subst (λ x. Credit (s.openings.at x) (t.openings.at x)) (sym e) c
  near_credit t h c m (inr apart) = subst (λ x. Credit (s.openings.at m) x) (sym (h.others m apart)) (credit_same (s.openings.at m))

  pub near_spares : (t : State) → AboutOpening s j n → Near s j n t → Credit (s.openings.at n) (t.openings.at n) → Spares s j t
  near_spares t about h c =
      record {
        names = h.names;
        openings = λ m apart. h.others m (λ e. apart (subst (λ x. AboutOpening s j x) (sym e) about));
        tickets = h.tickets;
        credit = λ m. near_credit t h c m (cases_eq m n);
        given = h.given;
      }

-- ---- and the opening n is there, of a name that the call is about

pub record Found (s : State) (j : Subject) (n : ℕ) (o : Opening) (t : State) : Type 0 where
  pub near : Near s j n t
  pub there : t.openings.at n ≡ Some o
  pub key : AboutName s j o.key

module _ {s : State} {j : Subject} {n : ℕ} {o : Opening} {t : State} (h : Found s j n o t) where
  pub found_name : (q : KeyName) (w : Option Entry) → AboutName s j q → Found s j n o (with_name t q w)
  found_name q w about = record { near = near_name s j n t q w about h.near; there = h.there; key = h.key }

  pub found_change : (f : Account → Account) → Found s j n (with_account o (f o.account)) (change t n f)
  found_change f =
      record {
        near = near_opening s j n t _ h.near;
        there = update_here t.openings.at n _ ∙ ap (option_map (λ p. with_account p (f p.account))) h.there;
        key = h.key;
      }
