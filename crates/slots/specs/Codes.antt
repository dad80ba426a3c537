-- The faults that the flat disk gives. Assumes nothing.
use Rattle.faults.specs.declared.disk.DiskFault.{DiskFault}
use Rattle.faults.specs.declared.disk.DiskFault.TheVariants.{Code}

-- no room: ENOSPC
abbrev pub no_room : DiskFault
no_room = Code 28

-- a file that is not held: EBADF
abbrev pub not_held : DiskFault
not_held = Code 9

-- nothing is bound there: ENOENT
abbrev pub not_bound : DiskFault
not_bound = Code 2
