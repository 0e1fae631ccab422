-- Demand 3, whole: what the builder's, the flattening's and the dashing's own theorems say together of a list of calls. Assumes nothing.
use mathlib.Core.Path.{refl, ap, subst, ◌∙◌}
use mathlib.Core.List.{List}
use Rattle.path.specs.declared.Segment.{Segment}
use Rattle.builder.specs.Laid.{path_verbs, path_floats}
use Rattle.builder.proofs.Sound.{good}
use Rattle.builder.proofs.Kept as kept
use Rattle.std.specs.Prelude.{Ok}
use Rattle.float.specs.declared.SegmentCount.{SegmentCount}
use Rattle.polyline.specs.Flatten.{carried_count}
use Rattle.polyline.specs.Kept.{Kept}
use Rattle.polyline.specs.Polylines.{source}
use Rattle.polyline.proofs.Counts.{asked}
use Rattle.polyline.proofs.Kept.{filled, call_kept}
use Rattle.polyline.proofs.Source as sourced
use Rattle.outline.specs.Runs.{CutIntoRuns}
use Rattle.outline.proofs.Runs.{dash_runs, dash_uncut}
use Rattle.demand.specs.Demand.{built, flattening, points_left, ends_left, marks_left, dashing, Demand3}

pub demand3 : Demand3
unfolding carried_count
demand3 cs bs fs =
    let v = path_verbs (built cs bs fs) in
    let p = path_floats (built cs bs fs) in
    record {
      sound = good cs bs fs;
      path = kept.built cs bs fs;
      flattens =
          λ tolerance out ends marks t h.
          let f = flattening cs bs fs tolerance out ends marks in
          subst (λ (ss : List Segment). Kept tolerance ss t (points_left t f) (ends_left t f) (marks_left t f)) (kept.built cs bs fs) (call_kept v p tolerance out ends marks t h);
      as_source =
          λ tolerance out ends marks t h.
          let f = filled v p tolerance out ends marks t h in
          rw (f.points, f.polys) (sourced.as_source v p tolerance (good cs bs fs) ∙ ap (source tolerance) (kept.built cs bs fs));
      carries = λ tolerance pre s post e h. rw (good cs bs fs, kept.built cs bs fs, e) (ap (λ (n : SegmentCount). Ok n) (asked tolerance pre s post h));
      dashes =
          λ rule intervals phase tolerance scratch ends marks verbs points o h.
          let d = dashing cs bs fs rule intervals phase tolerance scratch ends marks verbs points in
          subst (λ (ss : List Segment). CutIntoRuns ss intervals phase tolerance rule o d) (kept.built cs bs fs)
          (dash_runs v p rule intervals phase tolerance scratch ends marks verbs points d o refl h);
      uncut = λ rule intervals phase tolerance scratch ends marks verbs points. dash_uncut v p rule intervals phase tolerance scratch ends marks verbs points;
    }
