use mathlib.Core.Path.{ap}
use native.Mathlib.Omega.{arith}
use lib.ListN.{length}
use Rattle.std.proofs.Common.{rules}
use Rattle.curve.specs.Count.{eval_quad, eval_cubic}
use Rattle.write.proofs.Writes.{a_line, a_quad, a_cubic, a_close}
use Rattle.write.proofs.write_segment.Goals as goal

pub draw-requires-clause-room : goal.draw-requires-clause-room
draw-requires-clause-room c = let a = c.args in omega (arith, c.requires, (a_line a.tolerance a.w a.s _ c.in-Line.is).long)

pub draw-requires-in-Quad-clause-count : goal.draw-requires-in-Quad-clause-count
draw-requires-in-Quad-clause-count c = let a = c.args in (a_quad a.tolerance a.w a.s _ _ c.in-Quad.is _ c.quad_segment_count-n.ensures).count

pub draw-requires-in-Quad-clause-room : goal.draw-requires-in-Quad-clause-room
draw-requires-in-Quad-clause-room c = let a = c.args in omega (arith, c.requires, (a_quad a.tolerance a.w a.s _ _ c.in-Quad.is _ c.quad_segment_count-n.ensures).long)

pub draw-requires-in-Cubic-clause-count : goal.draw-requires-in-Cubic-clause-count
draw-requires-in-Cubic-clause-count c = let a = c.args in (a_cubic a.tolerance a.w a.s _ _ _ c.in-Cubic.is _ c.cubic_segment_count-n.ensures).count

pub draw-requires-in-Cubic-clause-room : goal.draw-requires-in-Cubic-clause-room
draw-requires-in-Cubic-clause-room c = let a = c.args in omega (arith, c.requires, (a_cubic a.tolerance a.w a.s _ _ _ c.in-Cubic.is _ c.cubic_segment_count-n.ensures).long)

pub put_if-requires : goal.put_if-requires
put_if-requires c = let a = c.args in omega (arith, c.requires, ap length (a_close a.tolerance a.w a.s _ c.in-Close.is c.close_adds.ensures))

pub returns-in-Line-clause-written : goal.returns-in-Line-clause-written
returns-in-Line-clause-written c =
    let a = c.args in
    let p = c.in-Line.p in
    rw (a_line a.tolerance a.w a.s _ c.in-Line.is).is (c.draw.ensures.written (λ t. p) (λ t q e. search rules))

pub returns-in-Quad-clause-written : goal.returns-in-Quad-clause-written
returns-in-Quad-clause-written c =
    let a = c.args in
    rw (a_quad a.tolerance a.w a.s _ _ c.in-Quad.is _ c.quad_segment_count-n.ensures).is (c.draw-in-Quad.ensures.written (eval_quad _ _ _) (λ t q e. search rules))

pub returns-in-Cubic-clause-written : goal.returns-in-Cubic-clause-written
returns-in-Cubic-clause-written c =
    let a = c.args in
    rw (a_cubic a.tolerance a.w a.s _ _ _ c.in-Cubic.is _ c.cubic_segment_count-n.ensures).is (c.draw-in-Cubic.ensures.written (eval_cubic _ _ _ _) (λ t q e. search rules))

pub returns-in-Close-clause-written : goal.returns-in-Close-clause-written
returns-in-Close-clause-written c = let a = c.args in rw (a_close a.tolerance a.w a.s _ c.in-Close.is c.close_adds.ensures) c.put_if.ensures
