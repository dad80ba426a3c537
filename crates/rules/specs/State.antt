-- What a store holds besides its disk. Assumes nothing.
use Rattle.std.specs.Prelude.{ℕ, Bool, true, false, Option, nat_eq}
use Rattle.keys.specs.KeyName.{KeyName, same_key}
use Rattle.table.specs.Maps.{Map, put, none}
use Rattle.rules.specs.declared.opening.Account.{Account}
use Rattle.rules.specs.declared.opening.Opening.{Opening}
use Rattle.rules.specs.declared.opening.Stage.{Stage}
use Rattle.rules.specs.declared.opening.Stage.TheVariants.{Owing, Blob, Ended}
use Rattle.rules.specs.declared.pending.Entry.{Entry}
use Rattle.rules.specs.declared.ticket.Ticket.{Ticket}
use Rattle.rules.specs.declared.tracker.Tracker.{Tracker}

-- the entries of names, the openings and the tickets that have a place, and how many openings and tickets there ever were
pub record State : Type 0 where
  pub names : Map KeyName Entry
  pub openings : Map ℕ Opening
  pub tickets : Map ℕ Ticket
  pub admitted : ℕ
  pub given : ℕ

abbrev pub empty : State
empty = record { names = none; openings = none; tickets = none; admitted = 0; given = 0 }

-- ---- the state with one thing changed; None frees the place

abbrev pub with_name : State → KeyName → Option Entry → State
with_name s q w = record { names = put same_key s.names q w; openings = s.openings; tickets = s.tickets; admitted = s.admitted; given = s.given }

abbrev pub with_names : State → Map KeyName Entry → State
with_names s m = record { names = m; openings = s.openings; tickets = s.tickets; admitted = s.admitted; given = s.given }

abbrev pub with_opening : State → ℕ → Option Opening → State
with_opening s n w = record { names = s.names; openings = put nat_eq s.openings n w; tickets = s.tickets; admitted = s.admitted; given = s.given }

abbrev pub with_ticket : State → ℕ → Option Ticket → State
with_ticket s t w = record { names = s.names; openings = s.openings; tickets = put nat_eq s.tickets t w; admitted = s.admitted; given = s.given }

abbrev pub with_admitted : State → ℕ → State
with_admitted s n = record { names = s.names; openings = s.openings; tickets = s.tickets; admitted = n; given = s.given }

abbrev pub with_given : State → ℕ → State
with_given s n = record { names = s.names; openings = s.openings; tickets = s.tickets; admitted = s.admitted; given = n }

-- ---- an account with one thing changed

abbrev pub with_stage : Account → Stage → Account
with_stage a g = record { file = a.file; offset = a.offset; stage = g; tracker = a.tracker; predecessor = a.predecessor; out = a.out; hinting = a.hinting; flushing = a.flushing; mutations = a.mutations; syncs = a.syncs; skipped = a.skipped }

abbrev pub with_tracker : Account → Tracker → Account
with_tracker a t = record { file = a.file; offset = a.offset; stage = a.stage; tracker = t; predecessor = a.predecessor; out = a.out; hinting = a.hinting; flushing = a.flushing; mutations = a.mutations; syncs = a.syncs; skipped = a.skipped }

abbrev pub with_out : Account → ℕ → Account
with_out a n = record { file = a.file; offset = a.offset; stage = a.stage; tracker = a.tracker; predecessor = a.predecessor; out = n; hinting = a.hinting; flushing = a.flushing; mutations = a.mutations; syncs = a.syncs; skipped = a.skipped }

abbrev pub with_hinting : Account → Bool → Account
with_hinting a b = record { file = a.file; offset = a.offset; stage = a.stage; tracker = a.tracker; predecessor = a.predecessor; out = a.out; hinting = b; flushing = a.flushing; mutations = a.mutations; syncs = a.syncs; skipped = a.skipped }

abbrev pub with_flushing : Account → Bool → Account
with_flushing a b = record { file = a.file; offset = a.offset; stage = a.stage; tracker = a.tracker; predecessor = a.predecessor; out = a.out; hinting = a.hinting; flushing = b; mutations = a.mutations; syncs = a.syncs; skipped = a.skipped }

abbrev pub with_mutations : Account → ℕ → Account
with_mutations a n = record { file = a.file; offset = a.offset; stage = a.stage; tracker = a.tracker; predecessor = a.predecessor; out = a.out; hinting = a.hinting; flushing = a.flushing; mutations = n; syncs = a.syncs; skipped = a.skipped }

abbrev pub with_syncs : Account → ℕ → ℕ → Account
with_syncs a begun skipped = record { file = a.file; offset = a.offset; stage = a.stage; tracker = a.tracker; predecessor = a.predecessor; out = a.out; hinting = a.hinting; flushing = a.flushing; mutations = a.mutations; syncs = begun; skipped = skipped }

-- the opening with another account
abbrev pub with_account : Opening → Account → Opening
with_account o a = record { key = o.key; account = a }

-- ---- stages

abbrev pub is_blob : Stage → Bool
is_blob Owing = false
is_blob Blob = true
is_blob Ended = false

abbrev pub is_owing : Stage → Bool
is_owing Owing = true
is_owing Blob = false
is_owing Ended = false

abbrev pub is_ended : Stage → Bool
is_ended Owing = false
is_ended Blob = false
is_ended Ended = true
