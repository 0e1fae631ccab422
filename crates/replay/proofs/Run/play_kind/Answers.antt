-- `replay::Run::play_kind` meets its contract: an arm for each kind. Assumes nothing.
use native.Mathlib.Omega.{arith}
use Rattle.replay.proofs.Runs.{no_call}
use Rattle.replay.proofs.Run.play_kind.Goals as goal

pub returns-in_default : goal.returns-in_default
returns-in_default c = no_call _ _ _ c.requires (omega arith)
