-- The calls of a store, with anything they may be given, and the rule of each. Assumes nothing.
use Rattle.std.specs.Prelude.{ℕ, Bool, cond, ◌||◌, List, length, Ok, Err, Result, ◌==◌}
use Rattle.faults.specs.Numbers.{number}
use Rattle.faults.specs.declared.store.Fault.{Fault}
use Rattle.keys.specs.KeyName.{KeyName}
use Rattle.rules.specs.declared.opening.Mode.{Mode}
use Rattle.rules.specs.declared.opening.Opening.{Opening}
use Rattle.rules.specs.State.{State}
use Rattle.rules.specs.Tree.{Prog}
use Rattle.rules.specs.Opens.{Opened, open_rule}
use Rattle.rules.specs.Finishes.{owing_stage, blob_stage, finish_rule, give_up_rule, close_rule}
use Rattle.rules.specs.Begins.{Begun, Options, Syncing, write_rule, resize_rule, sync_rule}
use Rattle.rules.specs.Tickets.{Ran, run_rule, start_rule, flush_end_rule, abandon_rule}
use Rattle.rules.specs.Removes.{remove_name_rule, remove_partition_rule}
use Rattle.rules.specs.Asks.{Counts, counts_rule, share_rule, held_rule, read_rule}

-- what a handle is of: a blob, or an opening that owes
pub data Handle : Type 0 where
  of_blob : Handle
  of_owing : Handle

abbrev pub stage_of : Handle → Opening → Bool
stage_of of_blob o = blob_stage o
stage_of of_owing o = owing_stage o

pub data Call : Type 0 where
  to_open : KeyName → Mode → (header : List ℕ) → Call
  to_finish : (opening : ℕ) → Call
  to_give_up : (opening : ℕ) → Call
  to_close : (opening : ℕ) → Call
  to_write : (opening place : ℕ) → (body lengths : List ℕ) → Options → Call
  to_resize : (opening size : ℕ) → Call
  to_sync : (opening : ℕ) → Call
  to_run : (ticket : ℕ) → (body lengths : List ℕ) → Call
  to_start : (ticket : ℕ) → Call
  to_end : (ticket : ℕ) → Call
  to_abandon : (ticket : ℕ) → Call
  to_remove_name : KeyName → Call
  to_remove_partition : List ℕ → Call
  to_count : Handle → (opening : ℕ) → Call
  to_share : Handle → (opening : ℕ) → Call
  to_list : Call
  to_read : (opening place room : ℕ) → Call

-- what a call answers where it succeeds
abbrev pub Success : Call → Type 0
Success (to_open q mode header) = Opened
Success (to_finish n) = ℕ × ℕ
Success (to_give_up n) = Unit {0}
Success (to_close n) = Unit {0}
Success (to_write n at body lengths x) = Begun
Success (to_resize n size) = ℕ
Success (to_sync n) = Syncing
Success (to_run t body lengths) = Ran
Success (to_start t) = Unit {0}
Success (to_end t) = Unit {0}
Success (to_abandon t) = Unit {0}
Success (to_remove_name q) = Unit {0}
Success (to_remove_partition p) = Unit {0}
Success (to_count h n) = Counts
Success (to_share h n) = ℕ
Success to_list = List KeyName
Success (to_read n at room) = List ℕ

abbrev pub Reply : Call → Type 0
Reply c = Result (Success c) Fault

-- what each call asks of the disk, answers and leaves
abbrev pub rule : State → (c : Call) → Prog (Reply c × State)
rule s (to_open q mode header) = open_rule s q mode header
rule s (to_finish n) = finish_rule s n
rule s (to_give_up n) = give_up_rule s n
rule s (to_close n) = close_rule s n
rule s (to_write n at body lengths x) = write_rule s n at (length body) lengths x
rule s (to_resize n size) = resize_rule s n size
rule s (to_sync n) = sync_rule s n
rule s (to_run t body lengths) = run_rule s t body lengths
rule s (to_start t) = start_rule s t
rule s (to_end t) = flush_end_rule s t
rule s (to_abandon t) = abandon_rule s t
rule s (to_remove_name q) = remove_name_rule s q
rule s (to_remove_partition p) = remove_partition_rule s p
rule s (to_count h n) = counts_rule s (stage_of h) n
rule s (to_share h n) = share_rule s (stage_of h) n
rule s to_list = held_rule s
rule s (to_read n at room) = read_rule s n at room

-- the opening or ticket that a call took comes back with 16, 17 and 19 only
abbrev pub comes_back : Fault → Bool
comes_back f = number f == 16 || (number f == 17 || number f == 19)

-- its number after the call; 0 is spent
abbrev pub left_of : {R : Type 0} → ℕ → Result R Fault → ℕ
left_of n (Ok x) = 0
left_of n (Err f) = cond (comes_back f) n 0
