-- `count::count_root` meets its contract: `float/proofs/Count` has the answer for each kind of operand. Assumes nothing.
use mathlib.Core.Path.{◌≡◌, refl, sym, ap, ◌∙◌, subst}
use mathlib.Core.Bool.{true, false, not}
use Prim.Native.Nat.{ℕ, ◌≤◌, ◌<◌}
use native.Mathlib.Nat.{le_of_lt}
use native.Mathlib.Omega.{arith}
use lib.Dec.{T}
use lib.Ieee.{Float, binary32, inf, fits, lt, of_fields, of_bits, to_bits}
use lib.Ieee.Bits.{of_bits-to_bits}
use Rattle.float.specs.Arith.{f1000}
use Rattle.float.specs.Root.{square_root}
use Rattle.float.specs.Pattern.{CountRoot}
use Rattle.float.specs.Count.{clamped, ceiling, segment_count, held_back}
use Rattle.float.proofs.Signs.{above}
use Rattle.float.proofs.Clamped.{from_low, from_high, from_finite}
use Rattle.float.proofs.Count.{above_of_test, none_of_test, no_nan, count_none, count_infinite, count_of, back_none, back_infinite, back_of, above_pos, above_top, positive_bits}
use Rattle.count.proofs.count_root.Goals.{Start}
use Rattle.count.proofs.count_root.Goals as goal

fits_by : (c : Start) → T (fits binary32 c.args.squared)
fits_by c = subst T (sym c.well_formed.0.1) tt

over_thousand : lt f1000 (of_bits binary32 0x7f80_0000) ≡ true
unfolding lt of_bits of_fields
over_thousand = refl

zero_below : lt f1000 (of_bits binary32 0) ≡ false
unfolding lt of_bits of_fields
zero_below = refl

-- of a value above zero
module _ (x : Float) (fit : T (fits binary32 x)) (over : T (above x)) where
  abbrev b : ℕ
  b = to_bits binary32 x

  back : of_bits binary32 b ≡ x
  back = of_bits-to_bits binary32 x fit

  bits_above : T (above (of_bits binary32 b))
  bits_above = subst (λ (v : Float). T (above v)) (sym back) over

  infinite : 0x7f80_0000 ≤ b → CountRoot x 0x7f80_0000
  infinite l =
      let e : inf false ≡ x = sym (above_top b l bits_above) ∙ back in
      record {
        count = from_high 0x7f80_0000 (omega arith) ∙ sym count_infinite ∙ ap segment_count e;
        held = over_thousand ∙ sym back_infinite ∙ ap held_back e;
        range = omega arith;
      }

  bits_pos : 0 < b
  bits_pos = above_pos b bits_above

  finite : b < 0x7f80_0000 → (r : ℕ) → of_bits binary32 r ≡ square_root binary32 (of_bits binary32 b) → r < 0x7f80_0000 → CountRoot x r
  finite h r e f =
      let p = positive_bits b h bits_above in
      record {
        count = from_finite r f ∙ ap (λ (v : Float). clamped (ceiling v)) e ∙ sym (count_of (of_bits binary32 b) p) ∙ ap segment_count back;
        held = ap (lt f1000) e ∙ sym (back_of (of_bits binary32 b) p) ∙ ap held_back back;
        range = le_of_lt f;
      }

-- of any other
none : (x : Float) → T (not (above x)) → CountRoot x 0
none x h = record { count = from_low 0 (omega arith) ∙ sym (count_none x h); held = zero_below ∙ sym (back_none x h); range = omega arith }

pub float_to_bits-b : goal.float_to_bits-b
float_to_bits-b c = no_nan c.args.squared (above_of_test c.args.squared c.if-squared.true)

pub returns-then-b-ge2139095040 : goal.returns-then-b-ge2139095040
returns-then-b-ge2139095040 c =
    let x = c.args.squared in
    infinite x (fits_by c.before.before) (above_of_test x c.if-squared.true) c.if-b-ge2139095040.true

pub root_pattern-requires : goal.root_pattern-requires
root_pattern-requires c =
    let x = c.args.squared in
    (bits_pos x (fits_by c.before.before) (above_of_test x c.if-squared.true), c.if-b-ge2139095040.false)

pub returns-then-squared : goal.returns-then-squared
returns-then-squared c =
    let at-start = c.before.before.before in
    let x = at-start.args.squared in
    finite x (fits_by at-start) (above_of_test x c.if-squared.true) c.if-b-ge2139095040.false
    c.root_pattern.result c.root_pattern.ensures.0 c.root_pattern.ensures.1

pub returns : goal.returns
returns c = let x = c.args.squared in none x (none_of_test x c.if-squared.false)
