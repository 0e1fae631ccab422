-- `count::clamped_ceiling` meets its contract: `float/proofs/Clamped` has the ceiling of each range of patterns. Assumes nothing.
use mathlib.Core.Path.{sym, ◌∙◌}
use Prim.Native.Nat.{◌-◌, ◌/◌, ◌^◌}
use native.Mathlib.Omega.{arith}
use lib.Pow.{pow_pos}
use Rattle.float.proofs.Clamped.{from_low, from_high, from_finite, power_le, power_is, at_most}
use Rattle.count.proofs.clamped_ceiling.Goals as goal

pub returns-then-b-lt1065353216 : goal.returns-then-b-lt1065353216
returns-then-b-lt1065353216 c = sym (from_low c.args.b c.if-b-lt1065353216.true)

pub returns-then-b-ge1149239296 : goal.returns-then-b-ge1149239296
returns-then-b-ge1149239296 c = sym (from_high c.args.b c.if-b-ge1149239296.true)

pub overflow_sub-n : goal.overflow_sub-n
overflow_sub-n c =
    let b = c.args.b in
    rw (power_is b c.if-b-lt1065353216.false c.if-b-ge1149239296.false) (pow_pos (150 - b / 2 ^ 23))

pub overflow_add-n : goal.overflow_add-n
overflow_add-n c =
    let b = c.args.b in
    rw (power_is b c.if-b-lt1065353216.false c.if-b-ge1149239296.false) (omega (arith, power_le b c.if-b-lt1065353216.false c.if-b-ge1149239296.false))

pub returns : goal.returns
returns c =
    let b = c.args.b in
    c.min.ensures ∙ at_most b c.if-b-lt1065353216.false c.if-b-ge1149239296.false ∙ sym (from_finite b (omega (arith, c.if-b-ge1149239296.false)))
