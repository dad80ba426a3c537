-- What the tables of a store stand for: the state of the rules. Assumes nothing.
use Rattle.table.specs.Of.{map}
use Rattle.rules.specs.State.{State}
use Rattle.pending.specs.Of.{entries}
use Rattle.ledger.specs.declared.tables.Ledger.{Ledger}

abbrev pub state_of : Ledger → State
state_of l = record { names = entries l.names; openings = map l.openings; tickets = map l.tickets; admitted = l.admitted; given = l.given }
