-- What an opening that ends, or has a ticket spent, is changed to. Assumes nothing.
use Rattle.std.proofs.Common.{◌≡◌, ℕ, ◌-◌, ◌<◌, ◌≤◌, false, Some, Option, sym, ap, ◌∙◌, arith}
use Rattle.std.specs.Option.{option_map}
use Rattle.std.proofs.lemmas.Bool.{cond-true, cond-false, eq-eqb, ne_eqb}
use Rattle.keys.specs.KeyName.{KeyName, same_key}
use Rattle.table.specs.Maps.{Map, put}
use Rattle.rules.specs.declared.opening.Account.{Account}
use Rattle.rules.specs.declared.opening.Opening.{Opening}
use Rattle.rules.specs.declared.opening.Stage.TheVariants.{Ended}
use Rattle.rules.specs.declared.pending.Entry.{Entry}
use Rattle.rules.specs.State.{State, with_account, with_names, with_opening, with_out, with_stage}
use Rattle.rules.specs.Ends.{change, last_out, registered, retire}
use Rattle.ledger.specs.Parts.{end_state, end_state_from, spent_state, spent_state_from}

-- the account of an opening that is there is changed in its place
changed : (s : State) (n : ℕ) (o : Opening) (f : Account → Account) → Some o ≡ s.openings.at n → change s n f ≡ with_opening s n (Some (with_account o (f o.account)))
changed s n o f here = ap (λ (w : Option Opening). with_opening s n (option_map (λ p. with_account p (f p.account)) w)) (sym here)

pub spent_counted : (s : State) (n : ℕ) (o : Opening) → Some o ≡ s.openings.at n → last_out o ≡ false → change s n (λ a. with_out a (a.out - 1)) ≡ spent_state s n
spent_counted s n o here more = changed s n o (λ a. with_out a (a.out - 1)) here ∙ sym (cond-false _ _ _ more) ∙ ap (spent_state_from s n) here

module _ (s : State) (n : ℕ) (o : Opening) (here : Some o ≡ s.openings.at n) (m : Map KeyName Entry) (known : m ≡ put same_key s.names o.key (option_map (registered n) (s.names.at o.key))) where
  pub end_waits : 0 < o.account.out → change (with_names s m) n (λ a. with_stage a Ended) ≡ end_state s n
  end_waits more =
      changed (with_names s m) n o (λ a. with_stage a Ended) here
      ∙ ap (λ k. with_opening (with_names s k) n (Some (with_account o (with_stage o.account Ended)))) known
      ∙ sym (cond-false _ _ _ (ne_eqb o.account.out 0 (omega arith)))
      ∙ ap (end_state_from s n) here

  pub end_retires : o.account.out ≤ 0 → retire (with_names s m) n o ≡ end_state s n
  end_retires none = ap (λ k. retire (with_names s k) n o) known ∙ sym (cond-true _ _ _ (eq-eqb o.account.out 0 (omega arith))) ∙ ap (end_state_from s n) here
