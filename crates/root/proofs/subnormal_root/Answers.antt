-- `root::subnormal_root` meets its contract: `float/proofs/Whole` has the arithmetic, of which the code's shift is taken modulo 2 ^ 64. Assumes nothing.
use mathlib.Core.Path.{◌≡◌, sym, ap, ◌∙◌, subst}
use Prim.Native.Nat.{ℕ, ◌+◌, ◌*◌, ◌/◌, ◌%◌, ◌^◌, ◌<◌}
use native.Mathlib.Nat.{lt_of_lt_of_le, mod-eq_of_lt}
use native.Mathlib.Omega.{arith}
use lib.Dec.{lit≤}
use lib.Ieee.{binary32, of_bits}
use Rattle.float.specs.Root.{square_root}
use Rattle.float.specs.Pattern.{Normal, WholeRoot, rounded}
use Rattle.float.specs.Exact.{ExactRoot}
use Rattle.float.proofs.Whole.{whole, whole_lt, exact_of, root_bits, bits_lt}
use Rattle.root.proofs.subnormal_root.Goals.{After-rounded_root-r}
use Rattle.root.proofs.subnormal_root.Goals as goal

module _ (b sig a : ℕ) (normal : Normal b sig a) where
  shifted : whole sig a % 2 ^ 64 ≡ whole sig a
  shifted = mod-eq_of_lt (lt_of_lt_of_le (whole_lt b sig a normal) (lit≤ tt))

  module _ (h : b < 0x7f80_0000) (root rest : ℕ) (is : WholeRoot (whole sig a % 2 ^ 64) root rest) where
    exact : ExactRoot (of_bits binary32 b) ((a + 102) / 2) root rest
    exact = exact_of b sig a normal h root rest (subst (λ (n : ℕ). WholeRoot n root rest) shifted is)

    small : root < 2 ^ 24
    small = exact.most

    module _ (pos : 0 < b) (s : ℕ) (e : s ≡ rounded root rest) where
      in_range : (a + 102) / 2 * 2 ^ 23 + s < 0x7f80_0000
      in_range = subst (λ (x : ℕ). (a + 102) / 2 * 2 ^ 23 + x < 0x7f80_0000) (sym e) (bits_lt b h ((a + 102) / 2) root rest exact pos)

      right : of_bits binary32 ((a + 102) / 2 * 2 ^ 23 + s) ≡ square_root binary32 (of_bits binary32 b)
      right = ap (λ (x : ℕ). of_bits binary32 ((a + 102) / 2 * 2 ^ 23 + x)) e ∙ root_bits b h ((a + 102) / 2) root rest exact pos

pub newton_root-requires : goal.newton_root-requires
newton_root-requires c =
    let p = c.subnormal_parts-p in
    let b = c.args.b in (
      subst (λ (n : ℕ). n < 2 ^ 48) (sym (shifted b p.result.significand p.result.exponent p.ensures))
          (whole_lt b p.result.significand p.result.exponent p.ensures),
      lit≤ tt,
      lit≤ tt,
    )

pub rounded_root-r-requires : goal.rounded_root-r-requires
rounded_root-r-requires c =
    let p = c.subnormal_parts-p in
    let w = c.newton_root in
    small c.args.b p.result.significand p.result.exponent p.ensures (omega arith) w.result.root w.result.remainder w.ensures

-- the pattern is below that of the infinity
below : (c : After-rounded_root-r) → (c.subnormal_parts-p.result.exponent + 102) / 2 * 2 ^ 23 + c.rounded_root-r.result < 0x7f80_0000
below c =
    let p = c.subnormal_parts-p in
    let w = c.newton_root in
    in_range c.args.b p.result.significand p.result.exponent p.ensures (omega arith) w.result.root w.result.remainder w.ensures (omega arith) c.rounded_root-r.result c.rounded_root-r.ensures

pub overflow_cast-result : goal.overflow_cast-result
overflow_cast-result c = omega (arith, below c)

pub overflow_add-result-2 : goal.overflow_add-result-2
overflow_add-result-2 c = omega (arith, below c)

pub returns : goal.returns
returns c =
    let b = c.args.b in
    let p = c.subnormal_parts-p in
    let w = c.newton_root in
    (right b p.result.significand p.result.exponent p.ensures (omega arith) w.result.root w.result.remainder w.ensures (omega arith) c.rounded_root-r.result c.rounded_root-r.ensures, below c)
