-- `root::newton_root` meets its contract. The invariant of its loop: r is no smaller than the root, and below 2 ^ 25, so that no step leaves 64 bits. The measure is r.
-- Assumes nothing.
use Prim.Native.Nat.{ℕ, ◌+◌, ◌*◌, ◌/◌, ◌^◌, ◌≤◌, ◌<◌}
use native.Mathlib.Nat.{lt_of_lt_of_le, mul-le-mul_left, div-lt_iff_lt-mul}
use native.Mathlib.Omega.{arith}
use Rattle.float.proofs.Newton.{newton_above, newton_below, square_pos}
use Rattle.root.proofs.newton_root.Goals as goal

-- a guess of 24 digits or more
module _ (n g : ℕ) (h : n < 2 ^ 48) (l : 2 ^ 23 ≤ g) (m : g < 2 ^ 25) where
  guess_pos : 0 < g
  guess_pos = omega arith

  quotient : n / g < 2 ^ 25
  quotient = (div-lt_iff_lt-mul guess_pos).1 (lt_of_lt_of_le h (mul-le-mul_left (2 ^ 25) l))

  first : (n < ((g + n / g) / 2 + 1) * ((g + n / g) / 2 + 1)) × ((g + n / g) / 2 < 2 ^ 25)
  first = (newton_above n g guess_pos, let q : n / g < 2 ^ 25 = quotient in omega arith)

pub loop-r-init : goal.loop-r-init
loop-r-init c = first c.args.n c.args.guess c.requires.0 c.requires.1 c.requires.2

pub loop-r-preserved : goal.loop-r-preserved
loop-r-preserved c =
    let n = c.args.n in
    let r = c.loop-r.r in
    (newton_above n r (square_pos n r c.loop-r-test.true), let l : (r + n / r) / 2 < r = newton_below n r c.loop-r-test.true in omega arith)
