-- Which keys are told, and how a file loses one. Assumes nothing.
use Rattle.std.specs.Prelude.{Bool, false, cond, Some, None, Option}
use Rattle.keys.specs.KeyName.{KeyName}
use Rattle.disk.specs.Files.{FileState, with_key}

-- whether a key is told
abbrev pub told_by : (KeyName → Bool) → Option KeyName → Bool
told_by tells None = false
told_by tells (Some q) = tells q

-- a file without its key, if that is told
abbrev pub forgot : (KeyName → Bool) → FileState → FileState
forgot going x = cond (told_by going x.key) (with_key x None) x
