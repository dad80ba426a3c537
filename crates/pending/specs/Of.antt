-- What the entries of names stand for, and how one of them settles. Assumes nothing.
use Rattle.std.specs.Prelude.{ℕ, Bool, Some, None, Option}
use Rattle.keys.specs.KeyName.{KeyName}
use Rattle.table.specs.Maps.{Map}
use Rattle.table.specs.Of.{map}
use Rattle.rules.specs.declared.pending.Entry.{Entry}
use Rattle.rules.specs.declared.tracker.Tracker.{Tracker}
use Rattle.faults.specs.declared.store.Fault.{Fault}
use Rattle.rules.specs.Ends.{settled, unless_free_if}
use Rattle.rules.specs.Opens.{barred_while}
use Rattle.pending.specs.declared.entries.Pending.{Pending}

abbrev pub entries : Pending → Map KeyName Entry
entries p = map p.names

-- why an existing name is not admitted; a name without an entry always is
abbrev pub barring : Bool → Option Entry → Option Fault
barring lives None = None
barring lives (Some e) = barred_while lives e

-- an entry once the opening n has settled: freed where it is clear and its own opening is over
abbrev pub settling : Bool → ℕ → Tracker → Option Entry → Option Entry
settling over n t None = None
settling over n t (Some e) = unless_free_if over (settled n t e)
