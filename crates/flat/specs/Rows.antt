-- The files as a row of places. Assumes nothing.
use Rattle.std.specs.Prelude.{List}
use Rattle.flat.specs.declared.files.place.Place.{Place}
use Rattle.flat.specs.declared.files.Files.{Files}

-- the places, in order
abbrev pub slots : Files → List Place
slots f = f.slots
