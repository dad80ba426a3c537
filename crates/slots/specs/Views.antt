-- What a view shows of a file. Assumes nothing.
use Rattle.std.specs.Prelude.{Some, None, Option}
use Rattle.keys.specs.KeyName.{KeyName}
use Rattle.disk.specs.Files.{FileState}
use Rattle.slots.specs.declared.view.FileView.{FileView}

-- with its key, a view is the whole file
abbrev pub shown : Option KeyName → FileView → FileState
shown o v = record { key = o; bytes = v.bytes.now; n = v.n; k = v.k; holds = v.holds }

-- so with a view that may be absent
abbrev pub seen : Option KeyName → Option FileView → Option FileState
seen o None = None
seen o (Some v) = Some (shown o v)
