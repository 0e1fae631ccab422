-- `root::normal_root` meets its contract: `float/proofs/Whole` has the arithmetic, here at the parts of a normal pattern. Assumes nothing.
use mathlib.Core.Path.{◌≡◌, sym, ap, ◌∙◌, subst}
use Prim.Native.Nat.{ℕ, ◌+◌, ◌-◌, ◌*◌, ◌/◌, ◌%◌, ◌^◌, ◌≤◌, ◌<◌}
use native.Mathlib.Nat.{lt_of_lt_of_le, mod-eq_of_lt}
use native.Mathlib.Omega.{arith}
use lib.Dec.{lit≤}
use lib.Ieee.{binary32, of_bits}
use Rattle.float.specs.Root.{square_root}
use Rattle.float.specs.Pattern.{Normal, WholeRoot, rounded}
use Rattle.float.specs.Exact.{ExactRoot}
use Rattle.float.proofs.Normal.{high_normal}
use Rattle.float.proofs.Whole.{whole, whole_lt, exact_of, root_bits, bits_lt}
use Rattle.root.proofs.normal_root.Goals.{After-rounded_root-r}
use Rattle.root.proofs.normal_root.Goals as goal

-- what the code shifts, and its result
abbrev operand : ℕ → ℕ
operand b = (8388608 + b % 8388608) * 2 ^ (24 - b / 8388608 % 2) % 2 ^ 64

abbrev packed : ℕ → ℕ → ℕ
packed b s = (b + 0x3e800000) / 16777216 * 8388608 + s

module _ (b : ℕ) (l : 8388608 ≤ b) (h : b < 0x7f800000) where
  parts : Normal b (8388608 + b % 8388608) (b / 8388608 + 23)
  parts = high_normal b h l

  operand_is : operand b ≡ whole (8388608 + b % 8388608) (b / 8388608 + 23)
  operand_is =
      ap (λ (x : ℕ). (8388608 + b % 8388608) * 2 ^ x % 2 ^ 64) (odd b)
      ∙ mod-eq_of_lt (lt_of_lt_of_le (whole_lt b (8388608 + b % 8388608) (b / 8388608 + 23) parts) (lit≤ tt))
    where
      odd : (b : ℕ) → 24 - b / 8388608 % 2 ≡ 23 + (b / 8388608 + 23) % 2
      odd b = omega arith

  operand_lt : operand b < 2 ^ 48
  operand_lt = subst (λ (n : ℕ). n < 2 ^ 48) (sym operand_is) (whole_lt b (8388608 + b % 8388608) (b / 8388608 + 23) parts)

  packed_is : (s : ℕ) → packed b s ≡ (b / 8388608 + 23 + 102) / 2 * 8388608 + s
  packed_is s = ap (λ (x : ℕ). x * 8388608 + s) (halved b)
    where
      halved : (b : ℕ) → (b + 0x3e800000) / 16777216 ≡ (b / 8388608 + 23 + 102) / 2
      halved b = omega arith

  module _ (root rest : ℕ) (is : WholeRoot (operand b) root rest) where
    is_root : WholeRoot (whole (8388608 + b % 8388608) (b / 8388608 + 23)) root rest
    is_root = subst (λ (n : ℕ). WholeRoot n root rest) operand_is is

    exact : ExactRoot (of_bits binary32 b) ((b / 8388608 + 23 + 102) / 2) root rest
    exact = exact_of b (8388608 + b % 8388608) (b / 8388608 + 23) parts h root rest is_root

    small : root < 2 ^ 24
    small = exact.most

    module _ (s : ℕ) (e : s ≡ rounded root rest) where
      same : packed b s ≡ (b / 8388608 + 23 + 102) / 2 * 8388608 + rounded root rest
      same = packed_is s ∙ ap (λ (x : ℕ). (b / 8388608 + 23 + 102) / 2 * 8388608 + x) e

      positive : 0 < b
      positive = omega arith

      in_range : packed b s < 0x7f800000
      in_range = subst (λ (x : ℕ). x < 0x7f800000) (sym same) (bits_lt b h ((b / 8388608 + 23 + 102) / 2) root rest exact positive)

      right : of_bits binary32 (packed b s) ≡ square_root binary32 (of_bits binary32 b)
      right = ap (of_bits binary32) same ∙ root_bits b h ((b / 8388608 + 23 + 102) / 2) root rest exact positive

pub whole_root-requires : goal.whole_root-requires
whole_root-requires c = operand_lt c.args.b c.requires.0 c.requires.1

pub rounded_root-r-requires : goal.rounded_root-r-requires
rounded_root-r-requires c =
    let a = c.before.before in
    let w = c.whole_root in
    small a.args.b a.requires.0 a.requires.1 w.result.root w.result.remainder w.ensures

-- the pattern is below that of the infinity
below : (c : After-rounded_root-r) → packed c.args.b c.rounded_root-r.result < 0x7f800000
below c =
    let a = c.before.before.before in
    let w = c.whole_root in
    in_range a.args.b a.requires.0 a.requires.1 w.result.root w.result.remainder w.ensures c.rounded_root-r.result c.rounded_root-r.ensures

pub overflow_cast-result : goal.overflow_cast-result
overflow_cast-result c = omega (arith, below c)

pub overflow_add-result-2 : goal.overflow_add-result-2
overflow_add-result-2 c = omega (arith, below c)

pub returns : goal.returns
returns c =
    let a = c.before.before.before in
    let w = c.whole_root in
    (right a.args.b a.requires.0 a.requires.1 w.result.root w.result.remainder w.ensures c.rounded_root-r.result c.rounded_root-r.ensures, below c)
