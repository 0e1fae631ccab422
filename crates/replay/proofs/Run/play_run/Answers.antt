-- `replay::Run::play_run` meets its contract. Assumes nothing.
use Rattle.replay.proofs.Runs.{turned}
use Rattle.replay.proofs.Run.play_run.Goals as goal

pub loop-own-preserved : goal.loop-own-preserved
loop-own-preserved g c = turned c.play-reply.result c.loop-own.invariant c.in-Some.ensures c.play-reply.ensures c.go_on-q.ensures
