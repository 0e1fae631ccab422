-- How far rounding goes: a product by a constant and a root are each within one part in 1024 of what they are rounded from (`times_near`, `root_near`).
-- That is far from sharp, and enough for the test of the midpoints. Assumes nothing.
use mathlib.Core.Path.{◌≡◌, sym, ap, ◌∙◌, subst}
use mathlib.Core.Logic.{inl, inr}
use mathlib.Core.Bool.{false}
use Prim.Native.Nat.{ℕ, suc, ◌+◌, ◌-◌, ◌*◌, ◌/◌, ◌%◌, ◌^◌, ◌≤◌, ◌<◌, compare}
use native.Mathlib.Nat.{le_trans, le_of_eq, lt_of_le_of_lt, mul_comm, mul_assoc, mul-pos, mul-le-mul_right, le_of_mul-le-mul_right, div-mul-le_self, div-lt_iff_lt-mul, le-div_iff_mul-le}
use native.Mathlib.Omega.{arith}
use lib.Dec.{T}
use lib.Pow.{pow-add, pow_pos}
use lib.Ieee.{Float, binary32, size, mul, of_bits}
use lib.Ieee.Digits.{size_reaches}
use lib.Ieee.Exact.{HasValue}
use lib.Ieee.Fits.{nearest-le}
use lib.Ieee.Nearest.{closest, nearest-ge}
use lib.Ieee.Positive.{positive, mul_at}
use lib.Ieee.Scale.{grid, round_val, normal_of_fraction}
use Rattle.float.specs.Root.{square_root}
use Rattle.float.specs.Pattern.{magnitude, rounded}
use Rattle.float.proofs.Law.{root_in_order, operand, Way, way, suc_square, scale}

-- v is some number of smallest values, and d of it are near n
pub record Near (v : Float) (d n : ℕ) : Type 0 where
  pub units : ℕ
  pub value : HasValue v false units (2 ^ 149)
  pub under : 1024 * (units * d) ≤ 1025 * n
  pub over : 1024 * n ≤ 1025 * (units * d)

-- ---- a fraction n / c rounded to a multiple of 2 ^ k, which is little beside it

module _ (n c k q : ℕ) where
  near_multiple : 0 < c → 2 ^ 23 * (c * 2 ^ k) ≤ n → n / (c * 2 ^ k) ≤ q → q ≤ suc (n / (c * 2 ^ k)) →
      (1024 * (q * 2 ^ k * c) ≤ 1025 * n) × (1024 * n ≤ 1025 * (q * 2 ^ k * c))
  near_multiple C small lo hi =
      let u = c * 2 ^ k in
      let U : 0 < u = mul-pos C (pow_pos k) in
      let e : q * 2 ^ k * c ≡ q * u = mul_assoc q (2 ^ k) c ∙ ap (λ (x : ℕ). q * x) (mul_comm (2 ^ k) c) in
      let a : n / u * u ≤ n = div-mul-le_self n u in
      let b : n < suc (n / u) * u = (div-lt_iff_lt-mul U).0 (omega arith) in
      let f : suc (n / u) * u ≡ n / u * u + u = omega arith in
      let g : n / u * u ≤ q * u = mul-le-mul_right u lo in
      let h : q * u ≤ suc (n / u) * u = mul-le-mul_right u hi in
      (omega (arith, e, a, f, h, small), omega (arith, e, b, f, g, small))

few : (z : ℕ) → 24 ≤ z → z - 1 ≡ 23 + (z - 24)
few z h = omega arith

grid_near : (a c : ℕ) → 0 < c → 2 ^ 23 * c ≤ a * 2 ^ 149 →
    (1024 * (grid binary32 a c * c) ≤ 1025 * (a * 2 ^ 149)) × (1024 * (a * 2 ^ 149) ≤ 1025 * (grid binary32 a c * c))
grid_near a c C h =
    let n = a * 2 ^ 149 in
    let z = size (n / c) in
    let k = z - 24 in
    let l : 24 ≤ z = normal_of_fraction binary32 a c C h in
    let r : 2 ^ (z - 1) ≤ n / c = size_reaches (n / c) (z - 1) (omega arith) in
    let s : 2 ^ (z - 1) * c ≤ n = (le-div_iff_mul-le C).0 r in
    let t : 2 ^ (z - 1) * c ≡ 2 ^ 23 * (c * 2 ^ k) =
    ap (λ (x : ℕ). 2 ^ x * c) (few z l) ∙ ap (λ (x : ℕ). x * c) (pow-add 2 23 k) ∙ mul_assoc (2 ^ 23) (2 ^ k) c ∙ ap (λ (x : ℕ). 2 ^ 23 * x) (mul_comm (2 ^ k) c) in
    near_multiple n c k (closest n (c * 2 ^ k)) C (le_trans (le_of_eq (sym t)) s)
    (nearest-ge (n / (c * 2 ^ k)) (compare (n % (c * 2 ^ k) * 2) (c * 2 ^ k)))
    (nearest-le (n / (c * 2 ^ k)) (compare (n % (c * 2 ^ k) * 2) (c * 2 ^ k)))

-- ---- a constant m / d, at most a half, times x units

module _ (p d u n : ℕ) (U : 0 < u) where
  p_side : (k : ℕ) → k * (p * (d * u)) ≡ k * (p * d) * u
  p_side k = ap (λ (x : ℕ). k * x) (sym (mul_assoc p d u)) ∙ sym (mul_assoc k (p * d) u)

  n_side : (k : ℕ) → k * (n * u) ≡ k * n * u
  n_side k = sym (mul_assoc k n u)

  cancel_under : 1024 * (p * (d * u)) ≤ 1025 * (n * u) → 1024 * (p * d) ≤ 1025 * n
  cancel_under h = le_of_mul-le-mul_right (le_trans (le_of_eq (sym (p_side 1024))) (le_trans h (le_of_eq (n_side 1025)))) U

  cancel_over : 1024 * (n * u) ≤ 1025 * (p * (d * u)) → 1024 * n ≤ 1025 * (p * d)
  cancel_over h = le_of_mul-le-mul_right (le_trans (le_of_eq (sym (n_side 1024))) (le_trans h (le_of_eq (p_side 1025)))) U

-- no more than x units themselves
no_more : (p d m x : ℕ) → 0 < d → 2 * m ≤ d → 1024 * (p * d) ≤ 1025 * (m * x) → p ≤ x
no_more p d m x D h k =
    let a : 2 * m * x ≤ d * x = mul-le-mul_right x h in
    let b : 2 * m * x ≡ 2 * (m * x) = mul_assoc 2 m x in
    let c : d * x ≡ x * d = mul_comm d x in
    le_of_mul-le-mul_right {k = d} (omega (arith, a, b, c, k)) D

module _ (constant v : Float) (m d x : ℕ) (P : T (positive constant)) (Q : T (positive v)) (D : 0 < d)
    (is : HasValue constant false m d) (of : HasValue v false x (2 ^ 149)) (half : 2 * m ≤ d) (normal : 2 ^ 23 * d ≤ m * x) (top : x < 2 ^ 277) where
  pub times_near : Near (mul binary32 constant v) d (m * x)
  times_near =
      let U : 0 < 2 ^ 149 = pow_pos 149 in
      let e : 2 ^ 23 * (d * 2 ^ 149) ≤ m * x * 2 ^ 149 = le_trans (le_of_eq (sym (mul_assoc (2 ^ 23) d (2 ^ 149)))) (mul-le-mul_right (2 ^ 149) normal) in
      let g = grid binary32 (m * x) (d * 2 ^ 149) in
      let n = grid_near (m * x) (d * 2 ^ 149) (mul-pos D U) e in
      let lo = cancel_under g d (2 ^ 149) (m * x) U n.0 in
      record {
        units = g;
        value =
            subst (λ (r : Float). HasValue r false g (2 ^ 149)) (sym (mul_at binary32 constant v m d x (2 ^ 149) P Q D U is of))
            (round_val binary32 (m * x) (d * 2 ^ 149) (lt_of_le_of_lt (no_more g d m x D half lo) top));
        under = lo;
        over = cancel_over g d (2 ^ 149) (m * x) U n.1;
      }

-- ---- the root, whose square is near

module _ (q e p : ℕ) (least : 2 ^ 23 ≤ q) (left : e ≤ 2 * q) where
  square_near : Way q e p → (1024 * (p * p) ≤ 1025 * (q * q + e)) × (1024 * (q * q + e) ≤ 1025 * (p * p))
  square_near (inl w) =
      let s : p * p ≡ q * q + 2 * q + 1 = ap (λ (x : ℕ). x * x) w.1 ∙ suc_square q in
      let l : 2 ^ 23 * q ≤ q * q = mul-le-mul_right q least in
      (omega (arith, s, l, least, left), omega (arith, s, l, least, left))
  square_near (inr w) =
      let s : p * p ≡ q * q = ap (λ (x : ℕ). x * x) w.1 in
      let l : 2 ^ 23 * q ≤ q * q = mul-le-mul_right q least in
      (omega (arith, s, l, least, left), omega (arith, s, l, least, left))

-- w times as much
carried : (s t w x y : ℕ) → 1024 * s ≤ 1025 * t → x ≡ s * w → y ≡ t * w → 1024 * x ≤ 1025 * y
carried s t w x y h e f = omega (arith, mul-le-mul_right w h, mul_assoc 1024 s w, mul_assoc 1025 t w, e, f)

pub root_near : (b : ℕ) → 0 < b → b < 0x7f80_0000 →
    (r : ℕ) × HasValue (square_root binary32 (of_bits binary32 b)) false r (2 ^ 149) × (1024 * (r * r) ≤ 1025 * (magnitude b * 2 ^ 149)) × (1024 * (magnitude b * 2 ^ 149) ≤ 1025 * (r * r))
root_near b l h =
    let z = root_in_order b l h in
    let q = z.root in
    let e = z.remainder in
    let p = rounded q e in
    let u = 2 ^ z.power in
    let s = square_near q e p z.first.least z.first.whole.least (way q e) in
    let f : p * u * (p * u) ≡ p * p * (u * u) = scale p p u in
    (p * u, z.last, carried (p * p) (q * q + e) (u * u) (p * u * (p * u)) (magnitude b * 2 ^ 149) s.0 f (operand b h z), carried (q * q + e) (p * p) (u * u) (magnitude b * 2 ^ 149) (p * u * (p * u)) s.1 (operand b h z) f)
