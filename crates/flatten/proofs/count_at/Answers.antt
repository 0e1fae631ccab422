use mathlib.Core.Path.{◌≡◌, sym, ap, ◌∙◌}
use Rattle.std.proofs.Common.{rules}
use lib.ListN.{take}
use Rattle.std.specs.List.{fold, slice_get}
use Rattle.std.proofs.lemmas.Iterator.{YieldsList-from_take}
use Rattle.std.proofs.lemmas.Iterator.Consumers.{YieldsList-from_first, fold_from_yields_List, nth_from_yields_List}
use Rattle.std.proofs.lemmas.Iterator.Adapters.{option_map_id}
use Rattle.path.specs.Segment.{segments}
use Rattle.segments.specs.Read.{left}
use Rattle.polyline.specs.Flatten.{nowhere, after}
use Rattle.flatten.proofs.Call.{count_at_is}
use Rattle.flatten.proofs.count_at.Goals as goal

pub returns : goal.returns
returns c =
    let a = c.args in
    let before : c.fold-w.result ≡ fold after nowhere (take a.index (segments a.path.now.verbs a.path.now.points)) =
    rw (← c.start_of_path.ensures)
    (fold_from_yields_List _ after _ _ c.fold-w.ensures.ran
    (YieldsList-from_take a.index (YieldsList-from_first (λ s. s) left _ (ap left c.take.ensures.source ∙ c.segments.ensures.all)) c.take.ensures.count)
    (λ w s v q k. search rules)) in
    let there : c.nth.result ≡ slice_get (segments a.path.now.verbs a.path.now.points) a.index =
    sym (option_map_id c.nth.result) ∙ nth_from_yields_List c.nth.result c.nth.new.self a.index c.nth.ensures.ran (YieldsList-from_first (λ s. s) left _ c.segments-2.ensures.all) in
    rw (count_at_is, ← before, ← there) (search rules)
