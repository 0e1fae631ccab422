-- `root::sqrt` meets its contract: a value that is no NaN is read back from its bits, and `float/proofs/Patterns` has the root of each kind of pattern. Assumes nothing.
use mathlib.Core.Path.{◌≡◌, refl, sym, ap, ◌∙◌, subst}
use mathlib.Core.Bool.{true}
use Prim.Native.Nat.{ℕ, ◌^◌, ◌≤◌, ◌<◌}
use native.Mathlib.Nat.{not-le_of_lt}
use lib.Dec.{T}
use lib.Ieee.{Float, nan, inf, fin, binary32, is_nan, fits, of_bits, to_bits}
use lib.Ieee.Bits.{of_bits-to_bits, to_bits-lt}
use Rattle.std.proofs.lemmas.Float.{T_from_true}
use Rattle.float.specs.Root.{square_root}
use Rattle.float.proofs.Patterns.{root_negative, root_top, root_zero}
use Rattle.root.proofs.sqrt.Goals.{After-is_nan, Then-b-ge8388608-2, then-b-ge8388608+else-b-lt2139095040, else-b-ge8388608}
use Rattle.root.proofs.sqrt.Goals as goal

-- what owning an `f32` tells: the format holds it
fits_by : (c : After-is_nan) → T (fits binary32 c.args.x)
fits_by c = T_from_true _ c.well_formed.0.1

nan_root : (x : Float) → is_nan x ≡ true → x ≡ square_root binary32 x
unfolding square_root is_nan
nan_root nan h = refl
nan_root (inf s) h = absurd (subst T (sym h) tt)
nan_root (fin s m e) h = absurd (subst T (sym h) tt)

module _ (x : Float) (fit : T (fits binary32 x)) where
  read_back : of_bits binary32 (to_bits binary32 x) ≡ x
  read_back = of_bits-to_bits binary32 x fit

  of_negative : 2 ^ 31 < to_bits binary32 x → nan ≡ square_root binary32 x
  of_negative l = sym (root_negative (to_bits binary32 x) l (to_bits-lt binary32 x fit)) ∙ ap (square_root binary32) read_back

  of_zero : to_bits binary32 x ≡ 0 → x ≡ square_root binary32 x
  of_zero e = let i : x ≡ of_bits binary32 0 = sym read_back ∙ ap (of_bits binary32) e in i ∙ sym root_zero ∙ ap (square_root binary32) (sym i)

  of_top : 0x7f80_0000 ≤ to_bits binary32 x → to_bits binary32 x ≤ 2 ^ 31 → x ≡ square_root binary32 x
  of_top l h = sym read_back ∙ sym (root_top (to_bits binary32 x) l h) ∙ ap (square_root binary32) read_back

  of_root : (r : ℕ) → of_bits binary32 r ≡ square_root binary32 (of_bits binary32 (to_bits binary32 x)) → of_bits binary32 r ≡ square_root binary32 x
  of_root r e = e ∙ ap (square_root binary32) read_back

pub returns-then-is_nan : goal.returns-then-is_nan
returns-then-is_nan c = nan_root c.args.x (sym c.is_nan.ensures.value ∙ c.if-is_nan.true)

pub returns-then-b-lt2139095040 : goal.returns-then-b-lt2139095040
returns-then-b-lt2139095040 c = of_root c.args.x (fits_by c.before.before.before.before) c.normal_root.result c.normal_root.ensures.0

pub returns-then-b-gt2147483648 : goal.returns-then-b-gt2147483648
unfolding of_bits
returns-then-b-gt2147483648 c = of_negative c.args.x (fits_by c.before.before.before) c.if-b-gt2147483648.true

pub returns-then-b-eq0 : goal.returns-then-b-eq0
returns-then-b-eq0 c = of_zero c.args.x (fits_by c.before.before.before.before) c.if-b-eq0.true

-- a pattern from 2 ^ 23 on that came past the first test is at least that of the infinity
top : (c : Then-b-ge8388608-2) → 0x7f800000 ≤ to_bits binary32 c.args.x
top c = elim c.if-b-ge8388608.branch [ then-b-ge8388608+else-b-lt2139095040 w ↦ w.if-b-lt2139095040.false | else-b-ge8388608 w ↦ absurd (not-le_of_lt w.if-b-ge8388608.false c.if-b-ge8388608-2.true) ]

pub returns-then-b-ge8388608-2 : goal.returns-then-b-ge8388608-2
returns-then-b-ge8388608-2 c = of_top c.args.x (fits_by c.before.before.before.before.before) (top c) c.if-b-gt2147483648.false

pub returns : goal.returns
returns c = of_root c.args.x (fits_by c.before.before.before.before.before.before) c.subnormal_root.result c.subnormal_root.ensures.0
