-- Intervals by their numbers in the cycle: one that is 0 is passed over, however many stand in a row (W6). Definitions only.
use Rattle.std.specs.Prelude.{◌≡◌, ℕ, zero, suc, ◌+◌, ◌%◌, ◌<◌, Bool, true, false, not, ◌&&◌, ◌||◌, List, [], ◌∷◌, length, get_or, drop, Float}
use Rattle.std.specs.Float.{nan}
use Rattle.std.specs.Float.Ieee.{le}
use Rattle.float.specs.Arith.{f0}

-- the next number, the first behind the last
abbrev pub after : List Float → ℕ → ℕ
after cs i = (i + 1) % length cs

-- 0 or −0: the source's own test, and a usable pattern has no interval below 0
abbrev pub is_zero : Float → Bool
is_zero x = le x f0

abbrev pub zero_at : List Float → ℕ → Bool
zero_at cs i = is_zero (get_or cs i nan)

-- the first number from i on whose interval is not 0, k steps at most; the Bool says whether the interval at i is 0
unfoldable pub above : List Float → ℕ → Bool → ℕ → ℕ
above cs zero b i = i
above cs (suc k) false i = i
above cs (suc k) true i = above cs k (zero_at cs (after cs i)) (after cs i)

-- once round is enough
abbrev pub first_above : List Float → ℕ → ℕ
first_above cs i = above cs (length cs) (zero_at cs i) i

abbrev pub next : List Float → ℕ → ℕ
next cs i = first_above cs (after cs i)

-- the number m places on from i
unfoldable pub ahead : List Float → ℕ → ℕ → ℕ
ahead cs zero i = i
ahead cs (suc m) i = ahead cs m (after cs i)

-- j is i, or comes behind zeros and nothing else from i on
pub record BehindZeros (cs : List Float) (i j : ℕ) : Type 0 where
  pub many : ℕ
  pub lands : j ≡ ahead cs many i
  pub zeros : (m : ℕ) → m < many → zero_at cs (ahead cs m i) ≡ true

-- one of the intervals of number 0, 2, 4, .. is not 0
abbrev pub one_above : List Float → Bool
one_above [] = false
one_above (x ∷ []) = not (is_zero x)
one_above (x ∷ y ∷ xs) = not (is_zero x) || one_above xs

-- every drawn interval is 0, and some gap is not
abbrev pub gaps_only : List Float → Bool
gaps_only cs = not (one_above cs) && one_above (drop 1 cs)
