-- The map that a table stands for. Assumes nothing.
use Rattle.std.specs.Prelude.{ℕ, vec_items}
use Rattle.table.specs.declared.Identity.{Ghosts}
use Rattle.table.specs.declared.table.Table.{Table}
use Rattle.table.specs.Maps.{Map}
use Rattle.table.specs.Held.{map_of}
use Rattle.table.specs.Slots.{key_of, value_of}

-- its keys are told apart as their type says
abbrev pub map : {K V : Type 0} {N : ℕ} {told : Ghosts K} → Table K V N told → Map K V
map {told = told} t = map_of told.same key_of value_of (vec_items t.items)
