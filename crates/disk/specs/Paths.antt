-- Which writes are durable. Assumes nothing.
use Rattle.std.specs.Prelude.{Bool, false}
use Rattle.disk.specs.declared.path.Path.{Path}
use Rattle.disk.specs.declared.path.Path.TheVariants.{Single, Vectored}

abbrev pub durable : Path → Bool
durable Single = false
durable (Vectored d h) = d
