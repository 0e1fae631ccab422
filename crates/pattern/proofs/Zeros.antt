-- A pattern of zeros alone is not usable. Assumes nothing.
use mathlib.Core.Path.{◌≡◌, refl, ◌∙◌, ap}
use mathlib.Core.Logic.{◌⊎◌, inl, inr}
use mathlib.Core.Bool.{false}
use mathlib.Core.List.{List, [], ◌∷◌}
use lib.Count.{count_trailing_zeros}
use lib.Ieee.{Float, binary32, add, sum, round, size, units, odd, span, climb, lt, of_bits, of_fields}
use native.Mathlib.Omega.{arith}
use Rattle.std.proofs.lemmas.Grind.{common_steps}
use Rattle.float.specs.Arith.{plus, f0}
use Rattle.pattern.specs.Cycle.{sum_from, AllZero, cuts}

add_zero : plus f0 f0 ≡ f0
unfolding add sum round size units odd span climb of_bits of_fields count_trailing_zeros
add_zero = refl

add_minus_zero : plus f0 (of_bits binary32 0x8000_0000) ≡ f0
unfolding add sum round size units odd span climb of_bits of_fields count_trailing_zeros
add_minus_zero = refl

adds_none : (x : Float) → (x ≡ f0) ⊎ (x ≡ of_bits binary32 0x8000_0000) → plus f0 x ≡ f0
adds_none x (inl e) = ap (plus f0) e ∙ add_zero
adds_none x (inr e) = ap (plus f0) e ∙ add_minus_zero

sum_zero : (xs : List Float) → AllZero xs → sum_from f0 xs ≡ f0
sum_zero [] h = refl
sum_zero (x ∷ xs) h = ap (λ (s : Float). sum_from s xs) (adds_none x h.0) ∙ sum_zero xs h.1

not_above : lt f0 f0 ≡ false
unfolding lt of_bits of_fields count_trailing_zeros
not_above = refl

pub zeros_alone : (ps : List Float) → AllZero ps → (phase tolerance : Float) → cuts ps phase tolerance ≡ false
zeros_alone ps h phase tolerance = let n : lt f0 (sum_from f0 ps) ≡ false = ap (lt f0) (sum_zero ps h) ∙ not_above in grind (arith, common_steps, n)
