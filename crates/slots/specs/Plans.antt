-- The plan of a flat disk, and what an entry plans. Assumes nothing.
use Rattle.std.specs.Prelude.{ℕ, ◌-◌, Bool, cond, not, ◌&&◌, List, Some, None, Ok, Err, Option, Result, ◌==◌, nat_le, nat_lt, slice_index}
use Rattle.std.specs.Vec.Iter.{into_iter_items}
use Rattle.faults.specs.declared.disk.DiskFault.{DiskFault}
use Rattle.faults.specs.declared.disk.DiskFault.TheVariants.{Code}
use Rattle.slots.specs.declared.plan.Plan.{Plan}

-- the entries that are left
abbrev pub rest : Plan → List ℕ
rest p = into_iter_items p.entries

-- the next of them, which is 0 past the end
abbrev pub first : List ℕ → ℕ
first l = slice_index l 0

-- an entry from 1 to 4,095 is a code
abbrev pub is_code : ℕ → Bool
is_code p = nat_lt 0 p && nat_lt p 4096

-- a code, if the request may give it
abbrev pub planned_if : Bool → ℕ → Option DiskFault
planned_if b p = cond b (Some (Code p)) None

-- 4 is a fault for a write alone
abbrev pub planned : ℕ → Option DiskFault
planned p = planned_if (not (p == 4) && is_code p) p

-- an unbinding answers 2 itself, where nothing is bound
abbrev pub planned_unbind : ℕ → Option DiskFault
planned_unbind p = planned_if (not (p == 2) && (not (p == 4) && is_code p)) p

-- how many bytes of m a write may land; from 4,096 on the entry says it
abbrev pub limit : ℕ → ℕ → ℕ
limit p m = cond (nat_le 4096 p) (p - 4096) m

-- a write under an entry: a fault, or how many bytes of m it may land
abbrev pub landing : ℕ → ℕ → Result ℕ DiskFault
landing p m = cond (is_code p) (Err (Code p)) (Ok (limit p m))
