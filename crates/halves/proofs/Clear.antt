-- The midpoints' test by squares: where one square is clearly below a millionth of the other, or clearly above, the rounded roots compare likewise (`clear_near`, `clear_far`).
-- Assumes nothing.
use mathlib.Core.Path.{◌≡◌, refl, sym, ap, ◌∙◌, subst}
use mathlib.Core.Bool.{true, false}
use Rattle.std.proofs.lemmas.Bool.{false_from_ne_true}
use Prim.Native.Nat.{ℕ, zero, suc, ◌+◌, ◌-◌, ◌*◌, ◌/◌, ◌^◌, ◌≤◌, ◌<◌}
use native.Mathlib.Nat.{le_trans, le_of_eq, le_of_lt, lt_of_lt_of_le, lt_of_not-le, zero-mul, mul-one, mul_comm, mul_assoc, mul-pos, mul-le-mul, mul-le-mul_right, mul-mul-mul_comm, le_of_mul-le-mul_right, zero-lt-suc}
use native.Mathlib.Omega.{arith}
use lib.Dec.{T, ltb→lt}
use lib.Pow.{pow_pos, pow_mono}
use lib.Ieee.{Float, nan, inf, fin, binary32, up, down, fits, lt, le, eq, of_bits, to_bits}
use lib.Ieee.Bits.{of_bits-to_bits, is_true}
use lib.Ieee.Exact.{HasValue}
use lib.Ieee.Fits.{and_l, and_r, up_pos}
use lib.Ieee.Order.{le_of_values}
use lib.Ieee.Positive.{positive, above, above_of_le, between, values_of_le, positive_of_value, value_pos}
use borrow.Author.Tests.{lt-ltb}
use Rattle.float.specs.Root.{square_root}
use Rattle.float.specs.Pattern.{magnitude}
use Rattle.float.specs.Arith.{times, f0}
use Rattle.float.proofs.Signs as count
use Rattle.float.proofs.Patterns.{value_of}
use Rattle.float.proofs.Squares.{le_of_square_le}
use Rattle.float.proofs.Clamped.{magnitude_lt}
use Rattle.float.proofs.Count.{above_pos, below_top}
use Rattle.halves.specs.Conic.{thousandth, within}
use Rattle.halves.specs.Halves.{lowest, highest, moderate}
use Rattle.halves.proofs.Rounded.{Near, times_near, root_near}

-- ---- whole numbers: c and g are the squares, r and q their roots, p is a thousandth of r, u the unit

square_of : (k x : ℕ) → k * x * (k * x) ≡ k * k * (x * x)
square_of k x = mul-mul-mul_comm k x k x

module _ (c g r q p u : ℕ) where
  below_roots : 1024 * (q * q) ≤ 1025 * (g * u) → 1024 * (c * u) ≤ 1025 * (r * r) → r ≤ 1001 * p → 1004044 * g ≤ c → q ≤ p
  below_roots hq hr hp h =
      let a : 1004044 * g * u ≤ c * u = mul-le-mul_right u h in
      let b : 1004044 * g * u ≡ 1004044 * (g * u) = mul_assoc 1004044 g u in
      let d : r * r ≤ 1001 * p * (1001 * p) = mul-le-mul hp hp in
      let e : 1001 * p * (1001 * p) ≡ 1001 * 1001 * (p * p) = square_of 1001 p in
      le_of_square_le q p (omega (arith, hq, hr, a, b, d, e))

  above_roots : 1024 * (g * u) ≤ 1025 * (q * q) → 1024 * (r * r) ≤ 1025 * (c * u) → 999 * p ≤ r → c ≤ 995997 * g → 0 < q → q ≤ p → ⊥
  above_roots hq hr hp h Q le =
      let a : c * u ≤ 995997 * g * u = mul-le-mul_right u h in
      let b : 995997 * g * u ≡ 995997 * (g * u) = mul_assoc 995997 g u in
      let d : 999 * p * (999 * p) ≤ r * r = mul-le-mul hp hp in
      let e : 999 * p * (999 * p) ≡ 999 * 999 * (p * p) = square_of 999 p in
      let f : q * q ≤ p * p = mul-le-mul le le in
      let z : 0 < q * q = mul-pos Q Q in
      omega (arith, hq, hr, a, b, d, e, f, z)

-- ---- the products by a constant, as whole numbers

module _ (p r : ℕ) where
  thousand_over : 1024 * (8589935 * r) ≤ 1025 * (p * 2 ^ 33) → r ≤ 1001 * p
  thousand_over h = omega (arith, h)

  thousand_under : 1024 * (p * 2 ^ 33) ≤ 1025 * (8589935 * r) → 999 * p ≤ r
  thousand_under h = omega (arith, h)

module _ (a c g : ℕ) where
  million_over : 1024 * (a * 2 ^ 43) ≤ 1025 * (8752113 * c) → g ≤ a → 1004044 * g ≤ c
  million_over h k = omega (arith, h, k)

  million_under : 1024 * (8840073 * c) ≤ 1025 * (a * 2 ^ 43) → a ≤ g → c ≤ 995997 * g
  million_under h k = omega (arith, h, k)

-- ---- a finite float above zero, in units of the smallest value, with its root

pub record Measured (x : Float) : Type 0 where
  pub units : ℕ
  pub value : HasValue x false units (2 ^ 149)
  pub least : 0 < units
  pub most : units < 2 ^ 277
  pub root : ℕ
  pub rooted : HasValue (square_root binary32 x) false root (2 ^ 149)
  pub under : 1024 * (root * root) ≤ 1025 * (units * 2 ^ 149)
  pub over : 1024 * (units * 2 ^ 149) ≤ 1025 * (root * root)

counted : (x : Float) → T (positive x) → T (count.positive x)
counted nan p = p
counted (inf s) p = p
counted (fin true m e) p = p
counted (fin false zero e) p = p
counted (fin false (suc m) e) p = tt

over_zero : (x : Float) → T (count.positive x) → T (count.above x)
over_zero nan p = p
over_zero (inf s) p = absurd p
over_zero (fin true m e) p = p
over_zero (fin false zero e) p = p
over_zero (fin false (suc m) e) p = tt

measured_bits : (b : ℕ) → T (positive (of_bits binary32 b)) → Measured (of_bits binary32 b)
measured_bits b p =
    let x = of_bits binary32 b in
    let q = counted x p in
    let l : 0 < b = above_pos b (over_zero x q) in
    let h : b < 0x7f80_0000 = below_top b q in
    let r = root_near b l h in
    record {
      units = magnitude b;
      value = value_of b h;
      least = value_pos x (magnitude b) (2 ^ 149) p (pow_pos 149) (value_of b h);
      most = lt_of_lt_of_le (magnitude_lt b) (pow_mono (few b h));
      root = r.0;
      rooted = r.1;
      under = r.2;
      over = r.3;
    }
  where
    few : (b : ℕ) → b < 0x7f80_0000 → 24 + (b / 2 ^ 23 - 1) ≤ 277
    few b h = omega arith

measured : (x : Float) → T (fits binary32 x) → T (positive x) → Measured x
measured x f p =
    let e = of_bits-to_bits binary32 x f in
    subst Measured e (measured_bits (to_bits binary32 x) (subst (λ (v : Float). T (positive v)) (sym e) p))

-- ---- the root is inside the range, too

module _ (r c u : ℕ) (C : 0 < c) (over : 1024 * (c * u) ≤ 1025 * (r * r)) (U : 2 ^ 80 ≤ u) where
  root_least : 2 ^ 33 ≤ r
  root_least = le_of_lt (lt_of_not-le (λ (g : r ≤ 2 ^ 33).
      let a : r * r ≤ 2 ^ 33 * 2 ^ 33 = mul-le-mul g g in
      let b : 1 * u ≤ c * u = mul-le-mul_right u C in
      omega (arith, a, b, over, U)))

module _ (r c u t : ℕ) (C : c < t) (under : 1024 * (r * r) ≤ 1025 * (c * u)) (U : 2 * u ≤ t) where
  root_most : r < t
  root_most = lt_of_not-le (λ (g : t ≤ r).
      let a : t * t ≤ r * r = mul-le-mul g g in
      let b : c * u ≤ t * u = mul-le-mul_right u (le_of_lt C) in
      let d : 2 * u * t ≤ t * t = mul-le-mul_right t U in
      let e : 2 * u * t ≡ 2 * (t * u) = mul_assoc 2 u t ∙ ap (λ (x : ℕ). 2 * x) (mul_comm u t) in
      let o : 0 < t = omega (arith, C) in
      let z : 0 < t * t = mul-pos o o in
      omega (arith, a, b, d, e, z, under))

-- ---- the constants, as fractions

-- 0.995 and 1.005 millionths
abbrev little_less : Float
little_less = of_bits binary32 0x3585_8bf1

abbrev little_more : Float
little_more = of_bits binary32 0x3586_e389

thousandth_is : HasValue thousandth false 8589935 (2 ^ 33)
unfolding of_bits
thousandth_is = (refl, refl)

less_is : HasValue little_less false 8752113 (2 ^ 43)
unfolding of_bits
less_is = (refl, refl)

more_is : HasValue little_more false 8840073 (2 ^ 43)
unfolding of_bits
more_is = (refl, refl)

lowest_is : HasValue lowest false 332307 (2 ^ 118)
unfolding of_bits
lowest_is = (refl, refl)

lowest_positive : T (positive lowest)
lowest_positive = positive_of_value lowest 332307 (2 ^ 118) lowest_is (omega arith)

highest_is : HasValue highest false (6617445 * 2 ^ 77) 1
unfolding of_bits
highest_is = (refl, refl)

highest_positive : T (positive highest)
highest_positive = positive_of_value highest (6617445 * 2 ^ 77) 1 highest_is (omega arith)

-- ---- moderate squares

above_zero : (x : Float) → T (positive x) → lt f0 x ≡ true
unfolding lt of_bits
above_zero nan p = absurd p
above_zero (inf s) p = absurd p
above_zero (fin true m e) p = absurd p
above_zero (fin false m e) p =
    let z : 0 * down e ≡ 0 = zero-mul (down e) in
    let i : m * up e * 1 ≡ m * up e = mul-one (m * up e) in
    let o : 0 < m * up e = mul-pos (ltb→lt 0 m p) (up_pos e) in
    lt-ltb (0 * down e) (m * up e * 1) (omega (arith, z, i, o))

module _ (x : Float) (h : moderate x ≡ true) where
  from : T (le lowest x)
  from = and_l (le lowest x) (le x highest) (subst T (sym h) tt)

  to : T (le x highest)
  to = and_r (le lowest x) (le x highest) (subst T (sym h) tt)

  moderate_positive : T (positive x)
  moderate_positive = between lowest x highest lowest_positive highest_positive from to

  moderate_least : (m : Measured x) → 332307 * 2 ^ 31 ≤ m.units
  moderate_least m =
      let l : 332307 * 2 ^ 149 ≤ m.units * 2 ^ 118 = values_of_le lowest x 332307 (2 ^ 118) m.units (2 ^ 149) lowest_positive moderate_positive lowest_is m.value from in
      le_of_mul-le-mul_right {k = 2 ^ 118} (le_trans (le_of_eq refl) l) (pow_pos 118)

-- the root of an infinity is one, and over every finite float
infinite_over : (p : Float) → T (positive p) → le (square_root binary32 (inf false)) p ≡ false
unfolding square_root le lt eq
infinite_over nan h = absurd h
infinite_over (inf s) h = absurd h
infinite_over (fin true m e) h = absurd h
infinite_over (fin false m e) h = refl

root_some : (r n : ℕ) → 0 < n → 1024 * n ≤ 1025 * (r * r) → 0 < r
root_some zero n l h = omega (arith, l, h)
root_some (suc r) n l h = zero-lt-suc r

-- ---- The test: c and g are the squares of the chord and of the gap, C and G what they measure; P is a thousandth of the chord, M about a millionth of its square.

module _ (c : Float) (fc : fits binary32 c ≡ true) (mc : moderate c ≡ true) where
  pc : T (positive c)
  pc = moderate_positive c mc

  C : Measured c
  C = measured c (subst T (sym fc) tt) pc

  C-root : 0 < C.root
  C-root = root_some C.root (C.units * 2 ^ 149) (mul-pos C.least (pow_pos 149)) C.over

  pr : T (positive (square_root binary32 c))
  pr = positive_of_value (square_root binary32 c) C.root (2 ^ 149) C.rooted C-root

  P : Near (times thousandth (square_root binary32 c)) (2 ^ 33) (8589935 * C.root)
  P =
      let l : 2 ^ 33 ≤ C.root = root_least C.root C.units (2 ^ 149) C.least C.over (pow_mono {i = 80} {j = 149} (omega arith)) in
      times_near thousandth (square_root binary32 c) 8589935 (2 ^ 33) C.root (positive_of_value thousandth 8589935 (2 ^ 33) thousandth_is (omega arith)) pr (pow_pos 33)
      thousandth_is C.rooted (omega arith) (omega (arith, l)) (root_most C.root C.units (2 ^ 149) (2 ^ 277) C.most C.under (pow_mono {i = 150} {j = 277} (omega arith)))

  P-some : 0 < P.units
  P-some = omega (arith, C-root, P.over)

  module _ (k : Float) (m : ℕ) (is : HasValue k false m (2 ^ 43)) (lo : 8388608 ≤ m) (hi : m < 16777216) where
    M : Near (times k c) (2 ^ 43) (m * C.units)
    M =
        let l = moderate_least c mc C in
        let n : 8388608 * C.units ≤ m * C.units = mul-le-mul_right C.units lo in
        times_near k c m (2 ^ 43) C.units (positive_of_value k m (2 ^ 43) is (omega (arith, lo))) pc (pow_pos 43) is C.value (omega (arith, hi)) (omega (arith, l, n)) C.most

    M-some : 0 < M.units
    M-some =
        let n : 8388608 * C.units ≤ m * C.units = mul-le-mul_right C.units lo in
        omega (arith, n, C.least, M.over)

    pm : T (positive (times k c))
    pm = positive_of_value (times k c) M.units (2 ^ 149) M.value M-some

  less_from : 8388608 ≤ 8752113
  less_from = omega arith

  less_to : 8752113 < 16777216
  less_to = omega arith

  more_from : 8388608 ≤ 8840073
  more_from = omega arith

  more_to : 8840073 < 16777216
  more_to = omega arith

  module _ (g : Float) (fg : T (fits binary32 g)) (pg : T (positive g)) where
    G : Measured g
    G = measured g fg pg

    G-root : 0 < G.root
    G-root = root_some G.root (G.units * 2 ^ 149) (mul-pos G.least (pow_pos 149)) G.over

    pq : T (positive (square_root binary32 g))
    pq = positive_of_value (square_root binary32 g) G.root (2 ^ 149) G.rooted G-root

    near_roots : T (le g (times little_less c)) → G.root ≤ P.units
    near_roots h =
        let m = M little_less 8752113 less_is less_from less_to in
        let p = pm little_less 8752113 less_is less_from less_to in
        let o : G.units ≤ m.units = le_of_mul-le-mul_right {k = 2 ^ 149} (values_of_le g (times little_less c) G.units (2 ^ 149) m.units (2 ^ 149) pg p G.value m.value h) (pow_pos 149) in
        let b = million_over m.units C.units G.units m.under o in
        below_roots C.units G.units C.root G.root P.units (2 ^ 149) G.under C.over (thousand_over P.units C.root P.over) b

    far_roots : T (le (times little_more c) g) → G.root ≤ P.units → ⊥
    far_roots h =
        let m = M little_more 8840073 more_is more_from more_to in
        let p = pm little_more 8840073 more_is more_from more_to in
        let o : m.units ≤ G.units = le_of_mul-le-mul_right {k = 2 ^ 149} (values_of_le (times little_more c) g m.units (2 ^ 149) G.units (2 ^ 149) p pg m.value G.value h) (pow_pos 149) in
        let b = million_under m.units C.units G.units m.over o in
        above_roots C.units G.units C.root G.root P.units (2 ^ 149) G.over C.under (thousand_under P.units C.root P.under) b G-root

    -- the rounded roots compare as the whole numbers do
    within_yes : G.root ≤ P.units → within (square_root binary32 c) (square_root binary32 g) ≡ true
    within_yes h =
        let l = le_of_values (square_root binary32 g) (times thousandth (square_root binary32 c)) G.root (2 ^ 149) P.units (2 ^ 149) (pow_pos 149) (pow_pos 149) G.rooted P.value (mul-le-mul_right (2 ^ 149) h) in
        rw (above_zero (square_root binary32 c) pr, is_true (le (square_root binary32 g) (times thousandth (square_root binary32 c))) l)

    within_no : (G.root ≤ P.units → ⊥) → within (square_root binary32 c) (square_root binary32 g) ≡ false
    within_no n =
        let p = times thousandth (square_root binary32 c) in
        let pp : T (positive p) = positive_of_value p P.units (2 ^ 149) P.value P-some in
        let no_le : le (square_root binary32 g) p ≡ true → ⊥ =
        λ (e : le (square_root binary32 g) p ≡ true). n (le_of_mul-le-mul_right {k = 2 ^ 149} (values_of_le (square_root binary32 g) p G.root (2 ^ 149) P.units (2 ^ 149) pq pp G.rooted P.value (subst T (sym e) tt)) (pow_pos 149)) in
        rw (above_zero (square_root binary32 c) pr, false_from_ne_true (le (square_root binary32 g) p) no_le)

  -- a gap that is no longer finite is over every thousandth
  within_never : within (square_root binary32 c) (square_root binary32 (inf false)) ≡ false
  within_never =
      let p = times thousandth (square_root binary32 c) in
      rw (above_zero (square_root binary32 c) pr, infinite_over p (positive_of_value p P.units (2 ^ 149) P.value P-some))

  far : (g : Float) → T (fits binary32 g) → T (above g) → T (le (times little_more c) g) → within (square_root binary32 c) (square_root binary32 g) ≡ false
  far nan f a h = absurd a
  far (inf true) f a h = absurd a
  far (inf false) f a h = within_never
  far (fin true m e) f a h = absurd a
  far (fin false m e) f a h = within_no (fin false m e) f a (far_roots (fin false m e) f a h)

  pub clear_near : (g : Float) → fits binary32 g ≡ true → le lowest g ≡ true → le g (times little_less c) ≡ true → true ≡ within (square_root binary32 c) (square_root binary32 g)
  clear_near g e l h =
      let f = subst T (sym e) tt in
      let p = between lowest g (times little_less c) lowest_positive (pm little_less 8752113 less_is less_from less_to) (subst T (sym l) tt) (subst T (sym h) tt) in
      sym (within_yes g f p (near_roots g f p (subst T (sym h) tt)))

  pub clear_far : (g : Float) → fits binary32 g ≡ true → le (times little_more c) g ≡ true → false ≡ within (square_root binary32 c) (square_root binary32 g)
  clear_far g f h =
      let t = subst T (sym h) tt in
      sym (far g (subst T (sym f) tt) (above_of_le (times little_more c) g (pm little_more 8840073 more_is more_from more_to) t) t)
