-- A rect's width and height are at least 0, whatever its corners. Assumes nothing.
use mathlib.Core.Path.{◌≡◌, refl, sym}
use mathlib.Core.Bool.{Bool, true, false, ◌&&◌, ◌||◌, cond}
use Prim.Native.Nat.{ℕ, zero, suc, ◌+◌, ◌*◌, ◌≤◌}
use native.Mathlib.Nat.{zero-mul}
use native.Mathlib.Omega.{arith}
use borrow.Author.Tests.{lt-ltb, ltb-false}
use lib.Dec.{ltb, eqb}
use lib.Ieee.{Float, nan, inf, fin, up, down, of_bits, is_nan, lt, le, eq}
use Rattle.float.specs.Small as float
use Rattle.float.specs.Arith.{f0}
use Rattle.rect.specs.declared.Rect.{Rect}
use Rattle.rect.specs.Rect.{width_of, height_of}

at_least : (a b : ℕ) → a ≡ 0 → (ltb a b || (eqb a b && true)) ≡ true
at_least a zero h = rw h
at_least a (suc b) h = rw (h, lt-ltb 0 (suc b) (omega arith))

both_none : (a b : ℕ) → b ≡ 0 → a ≡ 0 → (eqb b a && eqb b 0) ≡ true
both_none a b h g = rw (h, g)

-- what is no NaN and not below 0
not_below : (x : Float) → is_nan x ≡ false → lt x f0 ≡ false → le f0 x ≡ true
unfolding is_nan lt le eq of_bits
not_below nan n h = sym n
not_below (inf true) n h = sym h
not_below (inf false) n h = refl
not_below (fin false m e) n h = at_least (0 * 1 * down e) (m * up e * 1) (zero-mul (down e))
not_below (fin true m e) n h =
    let z : 0 * 1 * down e ≡ 0 = zero-mul (down e) in
    let l : m * up e * 1 + 0 * 1 * down e ≤ 0 = ltb-false 0 (m * up e * 1 + 0 * 1 * down e) h in
    both_none (m * up e * 1) (0 * 1 * down e) z (omega arith)

not_below_itself : le f0 f0 ≡ true
unfolding is_nan lt of_bits
not_below_itself = not_below f0 refl refl

pub floor : (x : Float) → le f0 (float.maximum x f0) ≡ true
unfolding float.maximum
floor x = go (is_nan x) refl (lt x f0) refl
  where
    go : (n : Bool) → is_nan x ≡ n → (l : Bool) → lt x f0 ≡ l → le f0 (cond n f0 (cond l f0 x)) ≡ true
    go true p l q = not_below_itself
    go false p true q = not_below_itself
    go false p false q = not_below x p q

pub width_floor : (r : Rect) → le f0 (width_of r) ≡ true
width_floor r = floor _

pub height_floor : (r : Rect) → le f0 (height_of r) ≡ true
height_floor r = floor _
