-- The absolute value of d is at most 0.001 exactly where −0.001 <= d <= 0.001, and never for a NaN (`within_both`, `over_one`; `near_sides` of a weight). Assumes nothing.
use mathlib.Core.Path.{◌≡◌, refl, sym, ap, ◌∙◌}
use mathlib.Core.Bool.{Bool, true, false, ◌&&◌, ◌||◌}
use Prim.Native.Nat.{ℕ, zero, suc, ◌+◌, ◌*◌}
use native.Mathlib.Omega.{arith}
use lib.IntN.{ℤ, negsuc}
use lib.Dec.{ltb, eqb}
use lib.Ieee.{Float, nan, inf, fin, up, down, lt, le, eq, neg, of_bits}
use borrow.Author.Tests.{lt-ltb, eq-eqb, ne_eqb, eqb-true, eqb-false}
use Rattle.float.specs.Small.{abs}
use Rattle.float.specs.Arith.{minus, f1}
use Rattle.halves.specs.Conic.{thousandth, near_one}

-- −a is at most b
below_zero : (a b : ℕ) → (ltb 0 (a + b) || (eqb a b && eqb a 0)) ≡ true
below_zero zero zero = refl
below_zero zero (suc b) = rw (lt-ltb 0 (0 + suc b) (omega arith))
below_zero (suc a) b = rw (lt-ltb 0 (suc a + b) (omega arith))

eqb_swap : (a b : ℕ) (c : Bool) → eqb a b ≡ c → eqb b a ≡ c
eqb_swap a b true e = eq-eqb b a (sym (eqb-true a b e))
eqb_swap a b false e = ne_eqb b a (λ (h : b ≡ a). eqb-false a b e (sym h))

always : (b c : Bool) → c ≡ true → b ≡ (b && c)
always true c e = sym e
always false c e = refl

-- by any finite bound that is not negative
module _ (n : ℕ) (q : ℤ) where
  both : (d : Float) → le (abs d) (fin false n q) ≡ (le d (fin false n q) && le (neg (fin false n q)) d)
  unfolding le lt eq neg abs
  both nan = refl
  both (inf true) = refl
  both (inf false) = refl
  both (fin false m e) = always _ _ (below_zero (n * up q * down e) (m * up e * down q))
  both (fin true m e) =
      let a = m * up e * down q in
      let b = n * up q * down e in
      rw (below_zero a b, eqb_swap a b (eqb a b) refl)

thousandth_is : thousandth ≡ fin false 8589935 (negsuc 32)
unfolding of_bits
thousandth_is = refl

sides : (d : Float) → le (abs d) thousandth ≡ (le d thousandth && le (neg thousandth) d)
sides d = rw thousandth_is (both 8589935 (negsuc 32) d)

-- one test after the other, of any d
pub within_both : (d : Float) → le d thousandth ≡ true → le (neg thousandth) d ≡ le (abs d) thousandth
within_both d h = sym (sides d ∙ ap (λ (b : Bool). b && le (neg thousandth) d) h)

pub over_one : (d : Float) → le d thousandth ≡ false → false ≡ le (abs d) thousandth
over_one d h = sym (sides d ∙ ap (λ (b : Bool). b && le (neg thousandth) d) h)

-- by two tests, as code has them
pub near_sides : (w : Float) → near_one w ≡ (le (minus w f1) thousandth && le (neg thousandth) (minus w f1))
unfolding near_one
near_sides w = sides (minus w f1)
