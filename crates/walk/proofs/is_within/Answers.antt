-- `is_within` meets its contract. Assumes nothing.
use mathlib.Core.Path.{◌∙◌, ap}
use mathlib.Core.Bool.{not, false}
use native.Mathlib.Nat.{zero-add}
use Prim.Native.Nat.{ℕ}
use lib.Dec.{leb}
use lib.ListN.{length}
use Rattle.polyline.specs.Polylines.{polylines}
use Rattle.vec2.specs.Points.{points_in}
use mathlib.Core.List.{[]}
use Rattle.strokes.specs.Pen.{all_events}
use Rattle.strokes.proofs.Counts.{count_fits}
use Rattle.strokes.proofs.Lays.{all_drawn}
use Rattle.walk.proofs.is_within.Goals as goal

pub returns : goal.returns
returns c =
    let s = c.args.start in
    let ps = polylines 0 (points_in c.args.lines.scratch.points.now) c.args.lines.scratch.ends.now in
    ap not (c.is_full.ensures [] [])
    ∙ count_fits _ _ (all_events s.cycle.now s.pos ps) c.walk_all-all.ensures
    ∙ rw (c.default.ensures.0, c.default.ensures.1) (ap (λ (n : ℕ). leb n c.args.cap) (zero-add _ ∙ ap length (all_drawn s.cycle.now s.pos ps false)))
