-- The size of a finite pattern as digits and zeros behind them. Definitions only.
use Rattle.std.specs.Prelude.{◌≡◌, ℕ, ◌*◌, ◌^◌, ◌≤◌, ◌<◌}
use Rattle.float.specs.Pattern.{magnitude}

-- at most 24 digits, and 24 where zeros follow
pub record Parts (b digits zeros : ℕ) : Type 0 where
  pub most : digits < 2 ^ 24
  pub range : zeros ≤ 253
  pub full : 0 < zeros → 2 ^ 23 ≤ digits
  pub some : 0 < b → 0 < digits
  pub value : digits * 2 ^ zeros ≡ magnitude b
