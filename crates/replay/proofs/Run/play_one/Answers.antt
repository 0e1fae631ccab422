-- `replay::Run::play_one` meets its contract. Assumes nothing.
use Rattle.replay.proofs.Runs.{went_on}
use Rattle.replay.proofs.Run.play_one.Goals as goal

pub returns : goal.returns
returns g c = went_on c.play-reply.result c.in-Some.ensures c.play-reply.ensures c.go_on.ensures
