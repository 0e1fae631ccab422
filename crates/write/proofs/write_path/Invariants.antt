use Rattle.std.specs.Iterator.Adapters.{enumerate_source, enumerate_count}
use Rattle.segments.specs.Read.{left}
use Rattle.write.proofs.Writes.{Reading}
use Rattle.write.proofs.write_path.Given as goal

abbrev pub invariant-loop-i : goal.invariant-loop-i
invariant-loop-i l =
    Reading l.fn.path.verbs l.fn.path.points l.fn.tolerance l.initial.out l.initial.ends l.initial.marks
    l.w (enumerate_count l.i-iterator) l.at l.k (left (enumerate_source l.i-iterator)) l.out l.ends l.marks
