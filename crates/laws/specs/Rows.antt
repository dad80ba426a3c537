-- The table of refusals: which numbers each call may answer, and which of them change the store. Assumes nothing.
use Rattle.std.specs.Prelude.{ℕ, Bool, false, ◌||◌, List, [], ◌∷◌, ◌==◌}
use Rattle.rules.specs.Calls.{Call, to_open, to_finish, to_give_up, to_close, to_write, to_resize, to_sync, to_run, to_start, to_end, to_abandon, to_remove_name, to_remove_partition, to_count, to_share, to_list, to_read}

abbrev pub among : ℕ → List ℕ → Bool
among n [] = false
among n (m ∷ ms) = n == m || among n ms

-- the refusals that a call may answer
abbrev pub rows : Call → List ℕ
rows (to_open q mode header) = 1 ∷ 2 ∷ 3 ∷ 4 ∷ 5 ∷ 6 ∷ 8 ∷ 9 ∷ 10 ∷ 12 ∷ 15 ∷ []
rows (to_finish n) = 8 ∷ 9 ∷ 10 ∷ 12 ∷ 17 ∷ 18 ∷ []
rows (to_give_up n) = 18 ∷ []
rows (to_close n) = 18 ∷ []
rows (to_write n at body lengths x) = 3 ∷ 4 ∷ 5 ∷ 7 ∷ 8 ∷ 9 ∷ 10 ∷ 18 ∷ []
rows (to_resize n size) = 4 ∷ 5 ∷ 7 ∷ 18 ∷ []
rows (to_sync n) = 4 ∷ 5 ∷ 8 ∷ 9 ∷ 10 ∷ 18 ∷ []
rows (to_run t body lengths) = 8 ∷ 9 ∷ 10 ∷ 11 ∷ 16 ∷ 18 ∷ 19 ∷ []
rows (to_start t) = 8 ∷ 9 ∷ 10 ∷ 16 ∷ 18 ∷ 19 ∷ []
rows (to_end t) = 10 ∷ 18 ∷ 19 ∷ []
rows (to_abandon t) = 18 ∷ []
rows (to_remove_name q) = 1 ∷ 2 ∷ 8 ∷ 13 ∷ []
rows (to_remove_partition p) = 1 ∷ 8 ∷ 14 ∷ []
rows (to_count h n) = 18 ∷ []
rows (to_share h n) = 18 ∷ []
rows to_list = []
rows (to_read n at room) = 7 ∷ 12 ∷ 18 ∷ []

-- those after which the store is not as it was
abbrev pub changing : Call → List ℕ
changing (to_open q mode header) = 8 ∷ 12 ∷ []
changing (to_finish n) = 8 ∷ 9 ∷ 10 ∷ 12 ∷ []
changing (to_give_up n) = []
changing (to_close n) = []
changing (to_write n at body lengths x) = []
changing (to_resize n size) = []
changing (to_sync n) = []
changing (to_run t body lengths) = 8 ∷ 9 ∷ 10 ∷ 11 ∷ []
changing (to_start t) = 8 ∷ 9 ∷ 10 ∷ []
changing (to_end t) = 10 ∷ []
changing (to_abandon t) = []
changing (to_remove_name q) = 8 ∷ []
changing (to_remove_partition p) = 8 ∷ []
changing (to_count h n) = []
changing (to_share h n) = []
changing to_list = []
changing (to_read n at room) = []
