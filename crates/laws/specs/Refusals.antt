-- What a refused call leaves, and that refusals for want of room have their cause. Assumes nothing.
use Rattle.std.specs.Prelude.{◌≡◌, ℕ, ◌+◌, ◌<◌, ◌≤◌, true, ◌⊎◌, List, Some, None, Err, Option}
use Rattle.faults.specs.Numbers.{number}
use Rattle.faults.specs.declared.store.Fault.{Fault}
use Rattle.faults.specs.declared.store.Fault.TheVariants.{Full, Exhausted, Unsettled}
use Rattle.keys.specs.KeyName.{KeyName, in_partition}
use Rattle.table.specs.Maps.{taken}
use Rattle.disk.specs.Requests.{Request, Answer}
use Rattle.rules.specs.declared.opening.Account.{Account}
use Rattle.rules.specs.declared.ticket.Ticket.{Ticket}
use Rattle.rules.specs.declared.opening.Opening.{Opening}
use Rattle.rules.specs.State.{State}
use Rattle.rules.specs.Tree.{Runs}
use Rattle.rules.specs.Calls.{Call, rule, to_open, to_finish, to_give_up, to_close, to_write, to_resize, to_sync, to_run, to_start, to_end, to_abandon, to_remove_name, to_remove_partition, to_count, to_share, to_list, to_read}
use Rattle.laws.specs.Rows.{among, rows, changing}

-- ---- what may change, where something may

-- what a call is about: a new opening of a key, an opening, a ticket, a name, all names of a partition, or nothing
pub data Subject : Type 0 where
  admission : KeyName → Subject
  an_opening : ℕ → Subject
  a_ticket : ℕ → Subject
  a_name : KeyName → Subject
  a_partition : List ℕ → Subject
  nobody : Subject

abbrev pub subject : Call → Subject
subject (to_open q mode header) = admission q
subject (to_finish n) = an_opening n
subject (to_give_up n) = an_opening n
subject (to_close n) = an_opening n
subject (to_write n at body lengths x) = an_opening n
subject (to_resize n size) = an_opening n
subject (to_sync n) = an_opening n
subject (to_run t body lengths) = a_ticket t
subject (to_start t) = a_ticket t
subject (to_end t) = a_ticket t
subject (to_abandon t) = a_ticket t
subject (to_remove_name q) = a_name q
subject (to_remove_partition p) = a_partition p
subject (to_count h n) = nobody
subject (to_share h n) = nobody
subject to_list = nobody
subject (to_read n at room) = nobody

abbrev pub AboutTicket : Subject → ℕ → Type 0
AboutTicket (admission q) u = ⊥
AboutTicket (an_opening n) u = ⊥
AboutTicket (a_ticket t) u = u ≡ t
AboutTicket (a_name q) u = ⊥
AboutTicket (a_partition p) u = ⊥
AboutTicket nobody u = ⊥

-- the opening of a ticket
abbrev pub OfTicket : Option Ticket → ℕ → Type 0
OfTicket None m = ⊥
OfTicket (Some k) m = m ≡ k.opening

abbrev pub AboutOpening : State → Subject → ℕ → Type 0
AboutOpening s (admission q) m = m ≡ s.admitted + 1
AboutOpening s (an_opening n) m = m ≡ n
AboutOpening s (a_ticket t) m = OfTicket (s.tickets.at t) m
AboutOpening s (a_name q) m = ⊥
AboutOpening s (a_partition p) m = ⊥
AboutOpening s nobody m = ⊥

-- the key of an opening that the call is about
abbrev pub OfOpening : State → Subject → KeyName → Type 0
OfOpening s j q = (m : ℕ) × (o : Opening) × AboutOpening s j m × (s.openings.at m ≡ Some o) × (o.key ≡ q)

abbrev pub AboutName : State → Subject → KeyName → Type 0
AboutName s (admission q) p = p ≡ q
AboutName s (an_opening n) p = OfOpening s (an_opening n) p
AboutName s (a_ticket t) p = OfOpening s (a_ticket t) p
AboutName s (a_name q) p = p ≡ q
AboutName s (a_partition r) p = in_partition r p ≡ true
AboutName s nobody p = ⊥

-- an opening's completed and synced
abbrev pub Credit : Option Opening → Option Opening → Type 0
Credit None y = Unit {0}
Credit (Some o) None = Unit {0}
Credit (Some o) (Some p) = (p.account.tracker.completed ≡ o.account.tracker.completed) × (p.account.tracker.synced ≡ o.account.tracker.synced)

-- only what the call is about is changed, and no opening's completed or synced
pub record Spares (s : State) (j : Subject) (t : State) : Type 0 where
  pub names : (q : KeyName) → (AboutName s j q → ⊥) → t.names.at q ≡ s.names.at q
  pub openings : (n : ℕ) → (AboutOpening s j n → ⊥) → t.openings.at n ≡ s.openings.at n
  pub tickets : (u : ℕ) → (AboutTicket j u → ⊥) → t.tickets.at u ≡ s.tickets.at u
  pub credit : (n : ℕ) → Credit (s.openings.at n) (t.openings.at n)
  pub given : t.given ≡ s.given

-- the call was refused with f and left t
abbrev pub Left : State → (c : Call) → Fault → State → Type 0
Left s c f t = (among (number f) (rows c) ≡ true) × ((t ≡ s) ⊎ ((among (number f) (changing c) ≡ true) × Spares s (subject c) t))

-- a refusal is one of the call's rows, and leaves all, unless its row names what it changes
abbrev pub RefusalsLeave : {S : Type 0} → (S → (q : Request) → Answer q → S → Type 0) → Type 0
RefusalsLeave {S} did = (s t : State) (c : Call) (f : Fault) (d e : S) → Runs did (rule s c) d (Err f, t) e → Left s c f t

-- ---- causes

-- what a call would begin: an opening of a key, a mutation or a sync of an opening, or nothing
pub data Want : Type 0 where
  for_opening : KeyName → Want
  for_mutation : ℕ → Want
  for_sync : ℕ → Want
  for_none : Want

abbrev pub want : Call → Want
want (to_open q mode header) = for_opening q
want (to_finish n) = for_none
want (to_give_up n) = for_none
want (to_close n) = for_none
want (to_write n at body lengths x) = for_mutation n
want (to_resize n size) = for_mutation n
want (to_sync n) = for_sync n
want (to_run t body lengths) = for_none
want (to_start t) = for_none
want (to_end t) = for_none
want (to_abandon t) = for_none
want (to_remove_name q) = for_none
want (to_remove_partition p) = for_none
want (to_count h n) = for_none
want (to_share h n) = for_none
want to_list = for_none
want (to_read n at room) = for_none

-- no place is left for it
abbrev pub NoRoom : State → Want → Type 0
NoRoom s (for_opening q) = ((s.names.at q ≡ None) × (64 ≤ taken s.names)) ⊎ (128 ≤ taken s.openings)
NoRoom s (for_mutation n) = 256 ≤ taken s.tickets
NoRoom s (for_sync n) = 256 ≤ taken s.tickets
NoRoom s for_none = ⊥

abbrev pub OfAccount : State → ℕ → (Account → Type 0) → Type 0
OfAccount s n P = (o : Opening) × (s.openings.at n ≡ Some o) × P o.account

-- no number is left for it; the last of all tickets has the largest number of 64 bits
abbrev pub NoNumber : State → Want → Type 0
NoNumber s (for_opening q) = 1000000 ≤ s.admitted
NoNumber s (for_mutation n) = OfAccount s n (λ a. 16000000 ≤ a.mutations) ⊎ (18446744073709551615 ≤ s.given)
NoNumber s (for_sync n) = OfAccount s n (λ a. 16000000 ≤ a.syncs) ⊎ (18446744073709551615 ≤ s.given)
NoNumber s for_none = ⊥

-- the call finishes an opening whose predecessor has a ticket out
abbrev pub Waits : State → ℕ → Type 0
Waits s n = OfAccount s n (λ a. (p : ℕ) × (a.predecessor ≡ Some p) × OfAccount s p (λ b. 0 < b.out))

abbrev pub Early : State → Call → Type 0
Early s c = (n : ℕ) × (c ≡ to_finish n) × Waits s n

abbrev pub Caused : State → Call → Fault → Type 0
Caused s c f = (f ≡ Full → NoRoom s (want c)) × (f ≡ Exhausted → NoNumber s (want c)) × (f ≡ Unsettled → Early s c)

-- no 4, 5 or 17 comes before its cause
abbrev pub RefusalsHaveCauses : {S : Type 0} → (S → (q : Request) → Answer q → S → Type 0) → Type 0
RefusalsHaveCauses {S} did = (s t : State) (c : Call) (f : Fault) (d e : S) → Runs did (rule s c) d (Err f, t) e → Caused s c f
