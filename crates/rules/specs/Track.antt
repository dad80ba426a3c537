-- The counts of an opening. Assumes nothing.
use Rattle.std.specs.Prelude.{ℕ, ◌+◌, min, max, Bool, not, Some, None, Option, ◌==◌}
use Rattle.faults.specs.declared.store.Failure.{Failure}
use Rattle.rules.specs.declared.tracker.Tracker.{Tracker}

-- the first that is there
abbrev pub first : {X : Type 0} → Option X → Option X → Option X
first None y = y
first (Some x) y = Some x

-- one more; a count has 64 bits, and would stay at the largest, which no list of calls reaches
abbrev pub up : ℕ → ℕ
up n = min (n + 1) 18446744073709551615

abbrev pub untouched : Tracker
untouched = record { written = 0; completed = 0; synced = 0; failure = None }

-- a counted mutation is begun
abbrev pub begun : Tracker → Tracker
begun t = record { written = up t.written; completed = t.completed; synced = t.synced; failure = t.failure }

-- a counted mutation is finished
abbrev pub finished : Tracker → Tracker
finished t = record { written = t.written; completed = up t.completed; synced = t.synced; failure = t.failure }

-- a flush that had counted `seen` finished mutations succeeded
abbrev pub credited : Tracker → ℕ → Tracker
credited t seen = record { written = t.written; completed = t.completed; synced = max t.synced seen; failure = t.failure }

-- a failure is kept, unless one is kept already
abbrev pub poisoned : Tracker → Failure → Tracker
poisoned t f = record { written = t.written; completed = t.completed; synced = t.synced; failure = first t.failure (Some f) }

abbrev pub is_dirty : Tracker → Bool
is_dirty t = not (t.written == t.synced)
