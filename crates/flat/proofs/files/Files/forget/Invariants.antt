use Rattle.std.proofs.Common.{◌≡◌, ◌++◌, map, take, drop}
use Rattle.slots.specs.Told.{forgot}
use Rattle.flat.specs.Places.{file_of, InOrder}
use Rattle.flat.proofs.files.Files.forget.Given as goal

abbrev pub invariant-loop-place : goal.invariant-loop-place
invariant-loop-place g l =
    (map file_of l.place-items ≡ map (forgot (g.T.Tells.told l.going)) (take l.place-index (map file_of l.fn.self.slots)) ++ drop l.place-index (map file_of l.fn.self.slots))
    × InOrder l.place-items
