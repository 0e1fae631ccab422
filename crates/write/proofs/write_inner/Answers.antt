use Prim.Native.Nat.{◌-◌}
use native.Mathlib.Numerals.{sub-one}
use native.Mathlib.Omega.{arith}
use Rattle.std.proofs.Common.{◌≡◌}
use Rattle.polyline.proofs.Points.{one_more}
use Rattle.write.proofs.write_inner.Goals as goal

pub loop-i-preserved : goal.loop-i-preserved
loop-i-preserved g c = λ eval h. one_more _ _ _ _ (c.loop-i.i - 1) eval _ (c.loop-i.invariant eval h) c.loop-i.i (omega (arith, c.loop-i.auto.i)) _ (h _ _ c.curve.ensures) c.put.ensures

pub returns : goal.returns
returns g c = λ eval h.
    let e : c.loop-i.i ≡ c.args.n = omega (arith, c.loop-i.auto.i-end, c.loop-i-test.false, c.requires.room) in
    rw (e, sub-one) at (c.loop-i.invariant eval h)
