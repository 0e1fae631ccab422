use Rattle.write.proofs.Writes.{wrote_curve}
use Rattle.write.proofs.draw.Goals as goal

pub returns-clause-written : goal.returns-clause-written
returns-clause-written g c = λ eval h. wrote_curve c.args.w eval _ _ c.requires.count.0 c.put_if-first.ensures (c.write_inner.ensures eval h) c.put.ensures
