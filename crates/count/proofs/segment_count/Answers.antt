-- `count::segment_count` meets its contract: both parts of the answer are read from the root's bits. Assumes nothing.
use mathlib.Core.Path.{◌≡◌, refl}
use lib.IntN.{pos}
use lib.Ieee.{binary32, of_int, of_bits}
use Rattle.float.specs.Arith.{f1000}
use Rattle.count.proofs.segment_count.Goals as goal

-- the limit as a float
limit : of_int binary32 (pos 1000) ≡ f1000
unfolding of_int of_bits
limit = refl

pub returns : goal.returns
returns c = let r = c.count_root-root.ensures in rw (c.clamped_ceiling.ensures, limit, r.count, r.held)
