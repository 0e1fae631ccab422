-- The marks (W4) in one pass over the segments, as code reads them. Definitions only.
use Rattle.std.specs.Prelude.{ℕ, ◌-◌, Bool, List, [], ◌∷◌, ◌++◌, get_or}
use Rattle.path.specs.declared.Segment.{Segment}
use Rattle.path.specs.Segment.{is_close, seg_at}
use Rattle.polyline.specs.declared.Spot.{Spot}
use Rattle.polyline.specs.Subpaths.{mark}
use Rattle.polyline.specs.Flatten.{after, stops, only_if}

-- `shut` says whether the verb read last is a close
unfoldable pub marks_from : Bool → Spot → List Segment → List ℕ
marks_from shut w [] = only_if w.drawn (mark shut)
marks_from shut w (s ∷ ss) = only_if (stops w s) (mark shut) ++ marks_from (is_close s) (after w s) ss

-- whether the verb before verb i is a close
abbrev pub close_before : List ℕ → ℕ → Bool
close_before vs i = is_close (seg_at (get_or vs (i - 1) 0) [] 0)
