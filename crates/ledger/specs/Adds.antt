-- A new opening and a new ticket in the tables, and what an open is told before the disk is asked. Assumes nothing.
use Rattle.std.specs.Prelude.{◌≡◌, ℕ, Bool, ◌&&◌, List, Some, None, Result, MatchResult, nat_lt}
use Rattle.faults.specs.declared.store.Fault.{Fault}
use Rattle.keys.specs.KeyName.{KeyName}
use Rattle.keys.specs.declared.key.Key.{Key}
use Rattle.table.specs.Maps.{fits, taken}
use Rattle.rules.specs.declared.ticket.Ticket.{Ticket}
use Rattle.rules.specs.declared.opening.Opening.{Opening}
use Rattle.rules.specs.State.{State, with_opening, with_ticket, with_admitted, with_given}
use Rattle.rules.specs.Opens.{new_number, open_refused}
use Rattle.rules.specs.Begins.{last_word, new_ticket}

-- there is a place and a number for it
abbrev pub opening_fits : State → Bool
opening_fits s = nat_lt (taken s.openings) 128 && nat_lt s.admitted 1000000

-- and a place for its name
abbrev pub admits : State → KeyName → Bool
admits s q = fits 64 s.names q && opening_fits s

abbrev pub opening_added : State → Opening → State
opening_added s o = with_admitted (with_opening s (new_number s) (Some o)) (new_number s)

abbrev pub ticket_fits : State → Bool
ticket_fits s = nat_lt (taken s.tickets) 256 && nat_lt s.given last_word

abbrev pub ticket_added : State → Ticket → State
ticket_added s k = with_given (with_ticket s (new_ticket s) (Some k)) (new_ticket s)

abbrev pub named : List ℕ → List ℕ → KeyName
named p n = record { partition = p; name = n }

-- the key of q where nothing is refused, or the first refusal
abbrev pub OpenCheck : State → KeyName → ℕ → Result Key Fault → Type 0
OpenCheck s q header r = MatchResult r (λ k. (open_refused s q header ≡ None) × (k ≡ q)) (λ f. open_refused s q header ≡ Some f)
