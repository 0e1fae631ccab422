-- Demand 3's bounds on N, and where it is held back: s is a quotient, so a binary32. Assumes nothing.
use lib.Ieee.{Float, binary32}
use lib.Ieee.Fits.{div-fits}
use Rattle.float.specs.Arith.{over}
use Rattle.float.specs.Count.{segment_count, held_back, Counted, HeldFor}
use Rattle.float.proofs.Bounds as bounds
use Rattle.float.proofs.Held as held

pub counted : (x y : Float) → Counted (over x y) (segment_count (over x y))
counted x y = bounds.counted (over x y) (div-fits binary32 x y)

pub held_for : (x y : Float) → HeldFor (over x y) (segment_count (over x y)) (held_back (over x y))
held_for x y = held.held_for (over x y) (div-fits binary32 x y)
