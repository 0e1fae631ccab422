-- The root in IEEE 754's order (W3): first the exact result, as a whole root and what remains (`Pattern.WholeRoot`); then the rounding, from these two alone (`Pattern.rounded`).
-- Definitions only.
-- `HasValue x s a c` is the kit's: x is finite, has the sign s, and is a / c in size.
use Rattle.std.specs.Prelude.{◌≡◌, ℕ, ◌+◌, ◌*◌, ◌/◌, ◌^◌, ◌≤◌, ◌<◌, false, T, Float}
use Rattle.std.specs.Float.{nan, inf, fin, binary32}
use Rattle.std.specs.Float.Ieee.{up, down, size, fits, lt, of_bits}
use Rattle.std.specs.Float.Ieee.Exact.{HasValue}
use Rattle.float.specs.Arith.{f0}
use Rattle.float.specs.Small.{is_finite}
use Rattle.float.specs.Root.{square_root}
use Rattle.float.specs.Pattern.{WholeRoot, rounded}

-- ---- the power of four

-- IEEE 754's logB of a positive finite x, the k with 2 ^ k ≤ x < 2 ^ (k + 1), plus 150: how many binary digits x has in units of the smallest value, 2 ^ -149.
unfoldable pub exponent : Float → ℕ
unfolding size
exponent nan = 0
exponent (inf s) = 0
exponent (fin s m e) = size (m * up e * 2 ^ 149 / down e)

-- Half of logB, rounded down, plus 126. With this power x is n * 4 ^ (power - 149) for a whole number n from 4 ^ 23 up to, but not at, 4 ^ 24. So x times
-- 4 ^ (149 - power) is n; where power is over 149, x divided by 4 ^ (power - 149).
abbrev pub power_of : Float → ℕ
power_of x = (exponent x + 102) / 2

-- ---- first the exact result

-- The exact result for a positive finite operand x: times a power of four x is the whole number n, and n's whole root has 24 bits. So √x is √n times 2 ^ (power - 149).
-- `least` and `most` follow from the choice of the power; they are said because the rounding asks for them.
pub record ExactRoot (x : Float) (power root remainder : ℕ) : Type 0 where
  pub n : ℕ
  pub chosen : power ≡ power_of x
  pub scaled : HasValue x false (n * 4 ^ power) (4 ^ 149)
  pub whole : WholeRoot n root remainder
  pub least : 2 ^ 23 ≤ root
  pub most : root < 2 ^ 24

-- ---- then the rounding

-- the bit pattern of root * 2 ^ (power - 149), for a root of 24 bits: its first bit adds one to the exponent's field
abbrev pub pack : ℕ → ℕ → ℕ
pack power root = power * 2 ^ 23 + root

-- of the bits of a root: they are the exact result, rounded
pub record RoundedLast (x : Float) (bits : ℕ) : Type 0 where
  pub power : ℕ
  pub root : ℕ
  pub remainder : ℕ
  pub first : ExactRoot x power root remainder
  pub last : bits ≡ pack power (rounded root remainder)

-- ---- both

-- x has this exact result and no other, and its square_root is root and remainder rounded, times 2 ^ (power - 149); so it is by its bits too
pub record InOrder (x : Float) : Type 0 where
  pub power : ℕ
  pub root : ℕ
  pub remainder : ℕ
  pub first : ExactRoot x power root remainder
  pub alone : (p r m : ℕ) → ExactRoot x p r m → (p ≡ power) × (r ≡ root) × (m ≡ remainder)
  pub last : HasValue (square_root binary32 x) false (rounded root remainder * 2 ^ power) (2 ^ 149)
  pub written : square_root binary32 x ≡ of_bits binary32 (pack power (rounded root remainder))

-- so it is of every positive finite binary32
abbrev pub RootsInOrder : Type 0
RootsInOrder = (x : Float) → T (fits binary32 x) → T (lt f0 x) → T (is_finite x) → InOrder x
