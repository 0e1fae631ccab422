-- What the measuring promises: the totals so far, segment by segment, and their range. Definitions only.
use Rattle.std.specs.Prelude.{ℕ, ◌+◌, ◌*◌, ◌≤◌, not, Option, is_none, List, [], ◌∷◌, Float}
use Rattle.std.specs.Option.{unwrap_or}
use Rattle.vec2.specs.declared.Vec2.{Vec2}
use Rattle.path.specs.declared.Segment.{Segment}
use Rattle.path.specs.Segment.{is_line}
use Rattle.float.specs.declared.SegmentCount.{SegmentCount}
use Rattle.polyline.specs.declared.Spot.{Spot}
use Rattle.polyline.specs.declared.Tally.{Tally}
use Rattle.polyline.specs.declared.Gauge.{Gauge}
use Rattle.polyline.specs.Flatten.{drawn_to, close_adds, after_close, after, one, opens, adds, no_count, curve_count, is_held}

abbrev pub none : Tally
none = record { starts = 0; lines = 0; counts = 0; closings = 0; held = 0 }

unfoldable pub tally : Float → Spot → Segment → Tally → Tally
tally tol w s t =
    record {
      starts = t.starts + one (opens w s);
      lines = t.lines + one (is_line s);
      counts = t.counts + curve_count tol w s;
      closings = t.closings + one (adds w s);
      held = t.held + one (is_held tol w s);
    }

-- the totals so far, and where the flattening stands: with a drawn segment to p more, a curve of so many lines or a line; with a close; with any segment
abbrev pub drawn_more : Gauge → Vec2 → Option SegmentCount → Gauge
drawn_more g p curve =
    let n = unwrap_or curve no_count in
    record {
      sum =
          record {
            starts = g.sum.starts + one (not g.spot.drawn);
            lines = g.sum.lines + one (is_none curve);
            counts = g.sum.counts + n.count;
            closings = g.sum.closings;
            held = g.sum.held + one n.held;
          };
      spot = drawn_to g.spot p;
    }

abbrev pub closed_more : Gauge → Gauge
closed_more g =
    record {
      sum =
          record {
            starts = g.sum.starts;
            lines = g.sum.lines;
            counts = g.sum.counts;
            closings = g.sum.closings + one (close_adds g.spot);
            held = g.sum.held;
          };
      spot = after_close g.spot;
    }

abbrev pub gauged : Float → Segment → Gauge → Gauge
gauged tol s g = record { sum = tally tol g.spot s g.sum; spot = after g.spot s }

unfoldable pub measured : Float → Tally → Spot → List Segment → Tally
unfolding tally
measured tol t w [] = t
measured tol t w (s ∷ ss) = measured tol (tally tol w s t) (after w s) ss

-- after n segments
pub record Small (n : ℕ) (t : Tally) : Type 0 where
  pub starts : t.starts ≤ n
  pub lines : t.lines ≤ n
  pub counts : t.counts ≤ 1000 * n
  pub closings : t.closings ≤ n
  pub held : t.held ≤ n
