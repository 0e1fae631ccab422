-- The small functions on floats, as "Floats" of the scope reads them. Definitions only.
use Rattle.std.specs.Prelude.{Bool, true, false, cond, Float}
use Rattle.std.specs.Float.{nan, inf, fin, binary32}
use Rattle.std.specs.Float.Ieee.{lt, rem, is_nan}
use Rattle.float.specs.Arith.{plus, f0}

-- the sign cleared
unfoldable pub abs : Float → Float
abs nan = nan
abs (inf s) = inf false
abs (fin s m e) = fin false m e

unfoldable pub is_finite : Float → Bool
is_finite nan = false
is_finite (inf s) = false
is_finite (fin s m e) = true

-- the larger and the smaller of two: a NaN is passed over, and of two equals the first is kept
unfoldable pub maximum : Float → Float → Float
maximum a b = cond (is_nan a) b (cond (lt a b) b a)

unfoldable pub minimum : Float → Float → Float
minimum a b = cond (is_nan a) b (cond (lt b a) b a)

-- r = a % m, plus |m| if r < 0
unfoldable pub rem_euclid : Float → Float → Float
unfolding abs
rem_euclid a m = let r = rem binary32 a m in cond (lt r f0) (plus r (abs m)) r
