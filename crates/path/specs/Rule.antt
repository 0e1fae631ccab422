-- The fill rule by a byte: 0 is the non-zero rule, any other byte even-odd, whose own is 1. Definitions only.
use Rattle.std.specs.Prelude.{ℕ, cond, eqb}
use Rattle.path.specs.declared.FillRule.{FillRule}
use Rattle.path.specs.declared.FillRule.TheVariants.{NonZero, EvenOdd}

unfoldable pub rule_in : ℕ → FillRule
rule_in n = cond (eqb n 0) NonZero EvenOdd

abbrev pub rule_out : FillRule → ℕ
rule_out NonZero = 0
rule_out EvenOdd = 1
