-- `Rect::empty` meets its contract: the bits of the two infinities. Assumes nothing.
use mathlib.Core.Path.{refl}
use lib.Ieee.{of_bits}
use Rattle.rect.proofs.Rect.empty.Goals as goal

pub returns : goal.returns
unfolding of_bits
returns c = refl
