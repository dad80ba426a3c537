-- The numbers of openings and tickets are new each time. Assumes nothing.
use Rattle.std.specs.Prelude.{◌≡◌, ℕ, ◌+◌, ◌≤◌, Ok, Err}
use Rattle.disk.specs.Requests.{Request, Answer}
use Rattle.rules.specs.State.{State}
use Rattle.rules.specs.Tree.{Runs}
use Rattle.rules.specs.Opens.{Opened, blob, owing}
use Rattle.rules.specs.Begins.{Begun, ticket, nothing, Syncing, counted, skipped}
use Rattle.rules.specs.Calls.{Call, Reply, Success, rule, to_open, to_finish, to_give_up, to_close, to_write, to_resize, to_sync, to_run, to_start, to_end, to_abandon, to_remove_name, to_remove_partition, to_count, to_share, to_list, to_read}

-- what a success gives that has a number: an opening, a ticket, or neither
pub data Gift : Type 0 where
  an_opening : ℕ → Gift
  a_ticket : ℕ → Gift
  no_number : Gift

abbrev pub of_opened : Opened → Gift
of_opened (blob n len) = an_opening n
of_opened (owing n) = an_opening n

abbrev pub of_begun : Begun → Gift
of_begun (ticket t) = a_ticket t
of_begun nothing = no_number

abbrev pub of_syncing : Syncing → Gift
of_syncing (counted t) = a_ticket t
of_syncing skipped = no_number

abbrev pub gift : (c : Call) → Success c → Gift
gift (to_open q mode header) x = of_opened x
gift (to_finish n) x = no_number
gift (to_give_up n) x = no_number
gift (to_close n) x = no_number
gift (to_write n at body lengths o) x = of_begun x
gift (to_resize n size) x = a_ticket x
gift (to_sync n) x = of_syncing x
gift (to_run t body lengths) x = no_number
gift (to_start t) x = no_number
gift (to_end t) x = no_number
gift (to_abandon t) x = no_number
gift (to_remove_name q) x = no_number
gift (to_remove_partition p) x = no_number
gift (to_count h n) x = no_number
gift (to_share h n) x = no_number
gift to_list x = no_number
gift (to_read n at room) x = no_number

-- a number given is one more than its counter was, and the counter has risen to it
abbrev pub New : State → State → Gift → Type 0
New s t (an_opening n) = (n ≡ s.admitted + 1) × (t.admitted ≡ n) × (t.given ≡ s.given)
New s t (a_ticket u) = (u ≡ s.given + 1) × (t.given ≡ u) × (t.admitted ≡ s.admitted)
New s t no_number = (t.admitted ≡ s.admitted) × (t.given ≡ s.given)

-- a refusal gives none, and lets no counter fall
abbrev pub Numbered : State → State → (c : Call) → Reply c → Type 0
Numbered s t c (Ok x) = New s t (gift c x)
Numbered s t c (Err f) = (s.admitted ≤ t.admitted) × (t.given ≡ s.given)

abbrev pub NumbersAreNew : {S : Type 0} → (S → (q : Request) → Answer q → S → Type 0) → Type 0
NumbersAreNew {S} did = (s t : State) (c : Call) (r : Reply c) (d e : S) → Runs did (rule s c) d (r, t) e → Numbered s t c r
