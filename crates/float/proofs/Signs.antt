-- Which floats are above zero, and what a count says of one as a fraction `num s` / `den s`: the form in which the count's law is proved. Assumes nothing.
use mathlib.Core.Path.{◌≡◌}
use Prim.Native.Nat.{ℕ, zero, suc, ◌-◌, ◌*◌, ◌^◌, ◌≤◌, ◌<◌}
use mathlib.Core.Bool.{Bool, true, false, not}
use lib.Dec.{T}
use lib.Ieee.{Float, nan, inf, fin}
use lib.Ieee.Positive.{num, den}

-- above zero, the infinity with it
abbrev pub above : Float → Bool
above nan = false
above (inf s) = not s
above (fin true m e) = false
above (fin false zero e) = false
above (fin false (suc m) e) = true

-- and finite besides
abbrev pub positive : Float → Bool
positive nan = false
positive (inf s) = false
positive (fin true m e) = false
positive (fin false zero e) = false
positive (fin false (suc m) e) = true

pub record Counts (s : Float) (n : ℕ) : Type 0 where
  pub least : 1 ≤ n
  pub most : n ≤ 1000
  pub none : T (not (above s)) → n ≡ 1
  pub infinite : s ≡ inf false → n ≡ 1000
  pub needed : T (positive s) → (n - 1) * (n - 1) * den s < num s
  pub enough : T (positive s) → n < 1000 → num s * (2 ^ 23 - 1) ≤ n * n * 2 ^ 23 * den s
