-- The code of a disk's fault, the number of a refusal, and the refusal of a kept failure. Assumes nothing.
use Rattle.std.specs.Prelude.{ℕ, Some, None, Option}
use Rattle.faults.specs.declared.disk.DiskFault.{DiskFault}
use Rattle.faults.specs.declared.disk.DiskFault.TheVariants.{Code}
use Rattle.faults.specs.declared.store.Fault.{Fault}
use Rattle.faults.specs.declared.store.Fault.TheVariants.{PartitionNameInvalid, BlobNameInvalid, TooLarge, Full, Exhausted, BlobAlreadyOpen, OffsetOverflow, Io, WriteFailed, BlobSyncFailed, BlobResizeFailed, ReadFailed, BlobMissing, PartitionMissing, BlobOpenFailed, Flushing, Unsettled, Unknown, Mismatched}
use Rattle.faults.specs.declared.store.Failure.{Failure}
use Rattle.faults.specs.declared.store.Failure.TheVariants.{Header, Write, Sync}

-- the code that the disk gave
abbrev pub code : DiskFault → ℕ
code (Code c) = c

-- the number that each refusal is known by outside
abbrev pub number : Fault → ℕ
number PartitionNameInvalid = 1
number BlobNameInvalid = 2
number TooLarge = 3
number Full = 4
number Exhausted = 5
number BlobAlreadyOpen = 6
number OffsetOverflow = 7
number (Io _) = 8
number WriteFailed = 9
number (BlobSyncFailed _) = 10
number (BlobResizeFailed _) = 11
number ReadFailed = 12
number BlobMissing = 13
number PartitionMissing = 14
number (BlobOpenFailed _) = 15
number Flushing = 16
number Unsettled = 17
number Unknown = 18
number Mismatched = 19

-- the code that a refusal carries
abbrev pub carried : Fault → Option ℕ
carried PartitionNameInvalid = None
carried BlobNameInvalid = None
carried TooLarge = None
carried Full = None
carried Exhausted = None
carried BlobAlreadyOpen = None
carried OffsetOverflow = None
carried (Io d) = Some (code d)
carried WriteFailed = None
carried (BlobSyncFailed d) = Some (code d)
carried (BlobResizeFailed d) = Some (code d)
carried ReadFailed = None
carried BlobMissing = None
carried PartitionMissing = None
carried (BlobOpenFailed d) = Some (code d)
carried Flushing = None
carried Unsettled = None
carried Unknown = None
carried Mismatched = None

-- the refusal that a kept failure gives
abbrev pub refusal : Failure → Fault
refusal (Header d) = Io d
refusal Write = WriteFailed
refusal (Sync d) = BlobSyncFailed d
