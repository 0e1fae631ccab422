use Rattle.crossing.proofs.Dashes.{dash_out}
use Rattle.capi.proofs.hz_dash_path.Goals as goal

pub returns : goal.returns
returns c = dash_out _ _ _ _ _ _ _ _ _ _ _ _ _ c.into-2.ensures c.dash_path.ensures c.into.ensures
