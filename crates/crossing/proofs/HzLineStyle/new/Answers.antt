use Rattle.std.proofs.Common.{◌≤◌, length}
use Rattle.std.proofs.lemmas.Result.{IfOk-at_ok}
use Rattle.crossing.proofs.Styles.{filled}
use Rattle.crossing.proofs.HzLineStyle.new.Goals as goal

pub returns-in-Ok : goal.returns-in-Ok
returns-in-Ok c = rw c.in-Ok.is (filled c.in-Ok.intervals.now _ _ (IfOk-at_ok (λ s. length s.now ≤ 64) c.in-Ok.is c.requires) c.copy_from_slice.ensures.after)
