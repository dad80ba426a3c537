-- Each opening leaves one fewer to open.
use Rattle.store_tests.proofs.tests.+at_once.Given as goal

abbrev pub decreases-at_once : goal.decreases-at_once
decreases-at_once l = l.openings
