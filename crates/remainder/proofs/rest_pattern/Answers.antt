-- A size with fewer zeros is the smaller; else the divisor's zeros are left out. Assumes nothing.
use mathlib.Core.Path.{sym, ap, ◌∙◌}
use Prim.Native.Nat.{ℕ, ◌*◌, ◌^◌}
use native.Mathlib.Nat.{mod-eq_of_lt}
use Rattle.remainder.proofs.Sizes.{smaller, divided}
use Rattle.remainder.proofs.rest_pattern.Goals as goal

pub returns-then-x-y : goal.returns-then-x-y
returns-then-x-y c =
    let x = c.size_of-x in
    let y = c.size_of-y in
    (sym (mod-eq_of_lt (smaller c.args.a x.result.digits x.result.zeros c.args.m y.result.digits y.result.zeros x.ensures y.ensures c.if-x-y.true)), c.requires.0)

pub returns : goal.returns
returns c =
    let x = c.size_of-x in
    let y = c.size_of-y in (
      c.pattern_of.ensures.0
          ∙ ap (λ (n : ℕ). n * 2 ^ y.result.zeros) c.rest_of-digits.ensures.0
          ∙ divided c.args.a x.result.digits x.result.zeros c.args.m y.result.digits y.result.zeros x.ensures y.ensures c.if-x-y.false (y.ensures.some c.requires.1),
      c.pattern_of.ensures.1,
    )
