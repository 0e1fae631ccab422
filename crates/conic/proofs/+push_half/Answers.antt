-- `push_half` calls itself on both halves; the measure is k. Assumes nothing.
use mathlib.Core.Path.{◌≡◌, ◌∙◌, sym}
use mathlib.Core.Bool.{false}
use mathlib.Core.List.{◌++◌}
use Prim.Native.Nat.{◌-◌, ◌≤◌}
use native.Mathlib.Omega.{arith}
use Rattle.halves.specs.Halves.{single, pieces}
use Rattle.halves.proofs.Pieces.{pieces_two, split_more, pieces_floats, pieces_most, most_twice}
use Rattle.conic.proofs.Levels.{kept_none, kept_down}
use Rattle.conic.proofs.Stores.{put_one, put_two}
use Rattle.conic.proofs.+push_half.Goals as goal

pub returns-then-is_quad : goal.returns-then-is_quad
returns-then-is_quad t c = (put_one _ _ _ (sym c.is_quad.ensures ∙ c.if-is_quad.true) c.put_quad.ensures, kept_none _ _ _ c.requires.2)

pub returns : goal.returns
returns t c =
    let a = c.args in
    let u = c.level_weight-u.result in
    let split : single a.k a.h a.weight ≡ false = sym c.is_quad.ensures ∙ c.if-is_quad.false in
    let m : 1 ≤ a.k = split_more _ _ _ split in
    let w = c.level_weight-u.ensures in
    let l = c.push_half-l.ensures in
    let r = c.push_half-r.ensures in
    -- it is the quads of its halves, one after the other
    let halves : pieces a.k a.h a.weight ≡ pieces (a.k - 1) c.left_half-left.result u ++ pieces (a.k - 1) c.right_half-right.result u =
    pieces_two _ _ _ split ∙ rw (w.0, c.left_half-left.ensures, c.right_half-right.ensures) in (
      rw halves (put_two _ _ _ _ (pieces_floats _ _ _) (pieces_floats _ _ _) (omega (arith, pieces_most, most_twice a.k m)) l.0 r.0),
      kept_down _ _ _ m w.0 (kept_down _ _ _ m w.0 w.1 l.1) r.1,
    )
