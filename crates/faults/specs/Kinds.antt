-- A disk's fault at each kind of request, and the value that holds it. Assumes nothing.
use Rattle.faults.specs.declared.disk.DiskFault.{DiskFault}
use Rattle.faults.specs.declared.kinds.Failed.{Failed}
use Rattle.faults.specs.declared.kinds.Open.{Open}
use Rattle.faults.specs.declared.kinds.Write.{Write}
use Rattle.faults.specs.declared.kinds.Flush.{Flush}
use Rattle.faults.specs.declared.kinds.Resize.{Resize}
use Rattle.faults.specs.declared.kinds.Length.{Length}
use Rattle.faults.specs.declared.kinds.Unbind.{Unbind}

-- a fault at a request of the kind K
abbrev pub failed : {K : Type 0} → DiskFault → Failed K
failed d = (d, record {})

abbrev pub OpenFault : Type 0
OpenFault = Failed Open

abbrev pub WriteFault : Type 0
WriteFault = Failed Write

abbrev pub FlushFault : Type 0
FlushFault = Failed Flush

abbrev pub ResizeFault : Type 0
ResizeFault = Failed Resize

abbrev pub LengthFault : Type 0
LengthFault = Failed Length

abbrev pub UnbindFault : Type 0
UnbindFault = Failed Unbind
