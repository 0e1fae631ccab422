use Rattle.std.proofs.Common.{refl}
use Rattle.path.proofs.Pairs.{pairs_are}
use Rattle.path.proofs.points.Points.new.Goals as goal

pub returns : goal.returns
returns c = rw (c.as_chunks.ensures.front) (pairs_are c.args.floats.now _ refl)
