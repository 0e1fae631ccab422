-- The remainder of two finite values, from their sizes (`plain_rem` and `turned_rem`, by the sign), and the cases in which the code tells it at once. Assumes nothing.
use mathlib.Core.Path.{◌≡◌, refl, sym, ap, ◌∙◌, subst}
use mathlib.Core.Logic.{◌⊎◌, inl, inr}
use Prim.Native.Nat.{ℕ, zero, suc, ◌+◌, ◌-◌, ◌*◌, ◌/◌, ◌%◌, ◌^◌, ◌≤◌, ◌<◌}
use native.Mathlib.Nat.{lt_irrefl, lt_of_lt_of_le, not-le_of_lt, mul_assoc, mul_comm, mul_right_comm, zero-mul, mul-pos, mul-div_cancel, eq_of_mul-eq-mul_right, eq-or-lt_of_le, eq-zero-or-pos}
use native.Mathlib.Omega.{arith}
use mathlib.Core.Bool.{Bool, true, false, not, cond}
use lib.Dec.{T, leb, eqb, nltb→le}
use lib.Pow.{pow_pos, pow_mono, shl_lt}
use lib.Ieee.{Float, nan, inf, fin, binary32, up, down, size, hid, top, prec, round, neg, rem, fits, is_nan, of_fields, of_bits, to_bits}
use lib.Ieee.Bits.{of_bits-to_bits, of_bits-fits, nan_bits_is, nan_bits_above}
use lib.Ieee.Fits.{up_pos, down_pos, rem-fits, neg-fits}
use lib.Ieee.Exact.{HasValue, round_exact}
use borrow.Author.Tests.{ne_eqb}
use Rattle.float.specs.Pattern.{magnitude}
use Rattle.float.proofs.Patterns.{value_fields, value_of}
use Rattle.remainder.proofs.Sizes.{parts_of, above_zero, scale_mod}

-- ---- a pattern that is no NaN's is finite, or an infinity's

abbrev View : Float → Bool → ℕ → Type 0
View v s a = ((a < 0x7f80_0000) × HasValue v s (magnitude a) (2 ^ 149)) ⊎ ((a ≡ 0x7f80_0000) × (v ≡ inf s))

infinity : (s : Bool) → of_fields binary32 s 255 0 ≡ inf s
unfolding of_fields
infinity s = refl

view_fields : (s : Bool) (a : ℕ) → a ≤ 0x7f80_0000 → View (of_fields binary32 s (a / 2 ^ 23) (a % 2 ^ 23)) s a
view_fields s a h = elim (eq-or-lt_of_le h) [ inl e ↦ inr (e, ap (λ (x : ℕ). of_fields binary32 s (x / 2 ^ 23) (x % 2 ^ 23)) e ∙ infinity s) | inr l ↦ inl (l, value_fields s a l) ]

view_bits : (b : ℕ) → T (not (is_nan (of_bits binary32 b))) → View (of_bits binary32 b) (leb (2 ^ 31) b) (b % 2 ^ 31)
unfolding of_bits
view_bits b h =
    let l : b % 2 ^ 31 ≤ 0x7f80_0000 = nltb→le 0x7f80_0000 (b % 2 ^ 31) (subst (λ (t : Bool). T (not t)) (sym (nan_bits_is binary32 b) ∙ nan_bits_above binary32 b) h) in
    subst (λ (t : ℕ). View (of_fields binary32 (leb (2 ^ 31) b) (b % 2 ^ 31 / 2 ^ 23) t) (leb (2 ^ 31) b) (b % 2 ^ 31)) (omega arith) (view_fields (leb (2 ^ 31) b) (b % 2 ^ 31) l)

-- the sign of a value, and its pattern without it
abbrev pub sign : Float → Bool
sign x = leb (2 ^ 31) (to_bits binary32 x)

abbrev pub rest : Float → ℕ
rest x = to_bits binary32 x % 2 ^ 31

view_of : (x : Float) → T (fits binary32 x) → T (not (is_nan x)) → View x (sign x) (rest x)
view_of x f n =
    let e = of_bits-to_bits binary32 x f in
    subst (λ (v : Float). View v (sign x) (rest x)) e (view_bits (to_bits binary32 x) (subst (λ (v : Float). T (not (is_nan v))) (sym e) n))

value : (x : Float) → T (fits binary32 x) → T (not (is_nan x)) → rest x < 0x7f80_0000 → HasValue x (sign x) (magnitude (rest x)) (2 ^ 149)
value x f n h = elim (view_of x f n) [ inl v ↦ v.1 | inr v ↦ absurd (lt_irrefl 0x7f80_0000 (subst (λ (a : ℕ). a < 0x7f80_0000) v.0 h)) ]

unlimited : (x : Float) → T (fits binary32 x) → T (not (is_nan x)) → 0x7f80_0000 ≤ rest x → x ≡ inf (sign x)
unlimited x f n h = elim (view_of x f n) [ inl v ↦ absurd (not-le_of_lt v.0 h) | inr v ↦ v.1 ]

-- ---- two values of one size and sign are the same

abbrev bits : Bool → ℕ → ℕ
bits s n = let k = size n - prec binary32 in cond s (top binary32) 0 + k * hid binary32 + n / 2 ^ k

bits_of : (x : Float) (s : Bool) (a : ℕ) → HasValue x s a (2 ^ 149) → to_bits binary32 x ≡ bits s a
unfolding to_bits
bits_of nan s a v = elim v [ ]
bits_of (inf t) s a v = elim v [ ]
bits_of (fin t m e) s a v = ap (λ (n : ℕ). bits t n) (ap (λ (n : ℕ). n / down e) v.1 ∙ mul-div_cancel a (down_pos e)) ∙ ap (λ (b : Bool). bits b a) v.0

same : (x y : Float) (s : Bool) (a : ℕ) → T (fits binary32 x) → T (fits binary32 y) → HasValue x s a (2 ^ 149) → HasValue y s a (2 ^ 149) → x ≡ y
same x y s a f g v w = sym (of_bits-to_bits binary32 x f) ∙ ap (of_bits binary32) (bits_of x s a v ∙ sym (bits_of y s a w)) ∙ of_bits-to_bits binary32 y g

turned : (x : Float) (s : Bool) (a c : ℕ) → HasValue x s a c → HasValue (neg x) (not s) a c
unfolding neg
turned nan s a c v = v
turned (inf t) s a c v = v
turned (fin t m e) s a c v = (ap not v.0, v.1)

-- ---- the remainder, by the sizes

-- from one fraction to another of the same size
rescale : (x : Float) (s : Bool) (w l num den : ℕ) → 0 < l → num * l ≡ w * den → HasValue x s w l → HasValue x s num den
rescale nan s w l num den p h v = v
rescale (inf t) s w l num den p h v = v
rescale (fin t m e) s w l num den p h v = (
  v.0,
  eq_of_mul-eq-mul_right l p (m * up e * den) (num * down e)
      (mul_right_comm (m * up e) den l
      ∙ ap (λ (x : ℕ). x * den) v.1
      ∙ mul_right_comm w (down e) den
      ∙ ap (λ (x : ℕ). x * down e) (sym h)
      ∙ mul_right_comm num l (down e)),
)

room : (q j : ℕ) → q < 2 ^ 24 → j ≤ 253 → q * 2 ^ j < 2 ^ 277
room q j h l = lt_of_lt_of_le (shl_lt 24 j h) (pow_mono (most j l))
  where
    most : (j : ℕ) → j ≤ 253 → 24 + j ≤ 277
    most j l = omega arith

-- what two values' fractions leave, in units of the smallest value; u and v are the numerators
left : (u v d e A M : ℕ) → 0 < d → 0 < e → 0 < M → u * 2 ^ 149 ≡ A * d → v * 2 ^ 149 ≡ M * e → u * e % (v * d) * 2 ^ 149 ≡ A % M * (d * e)
left u v d e A M p q z g h =
    sym (scale_mod (u * e) (v * d) (2 ^ 149) positive (pow_pos 149))
    ∙ ap (λ (n : ℕ). n % (v * d * 2 ^ 149)) (mul_right_comm u e (2 ^ 149) ∙ ap (λ (n : ℕ). n * e) g ∙ mul_assoc A d e)
    ∙ ap (λ (n : ℕ). A * (d * e) % n) (mul_right_comm v d (2 ^ 149) ∙ ap (λ (n : ℕ). n * d) h ∙ mul_assoc M e d ∙ ap (λ (n : ℕ). M * n) (mul_comm e d))
    ∙ scale_mod A M (d * e) z (mul-pos p q)
  where
    not_zero : v ≡ 0 → 0 < v
    not_zero i = absurd (lt_irrefl 0 (subst (λ (n : ℕ). 0 < n) (sym h ∙ ap (λ (n : ℕ). n * 2 ^ 149) i ∙ zero-mul (2 ^ 149)) (mul-pos z q)))

    v_positive : 0 < v
    v_positive = elim (eq-zero-or-pos v) [ inl i ↦ not_zero i | inr i ↦ i ]

    positive : 0 < v * d
    positive = mul-pos v_positive p

rem_value : (x y : Float) (s t : Bool) (A M q j : ℕ) → HasValue x s A (2 ^ 149) → HasValue y t M (2 ^ 149) → 0 < M → q < 2 ^ 24 → j ≤ 253 → A % M ≡ q * 2 ^ j
    → HasValue (rem binary32 x y) s (A % M) (2 ^ 149)
unfolding rem
rem_value nan y s t A M q j v w z h l e = elim v [ ]
rem_value (inf _) y s t A M q j v w z h l e = elim v [ ]
rem_value (fin _ _ _) nan s t A M q j v w z h l e = elim w [ ]
rem_value (fin _ _ _) (inf _) s t A M q j v w z h l e = elim w [ ]
rem_value (fin a m b) (fin c zero d) s t A M q j v w z h l e =
    absurd (lt_irrefl 0 (subst (λ (n : ℕ). 0 < n) (sym w.1 ∙ ap (λ (n : ℕ). n * 2 ^ 149) (zero-mul (up d)) ∙ zero-mul (2 ^ 149)) (mul-pos z (down_pos d))))
rem_value (fin a m b) (fin c (suc n) d) s t A M q j v w z h l e =
    let den = down b * down d in
    let num = m * up b * down d % (suc n * up d * down b) in
    let p : 0 < den = mul-pos (down_pos b) (down_pos d) in
    let k : num * 2 ^ 149 ≡ A % M * den = left (m * up b) (suc n * up d) (down b) (down d) A M (down_pos b) (down_pos d) z v.1 w.1 in
    subst (λ (x : Bool). HasValue (cond x nan (round binary32 a num den)) s (A % M) (2 ^ 149)) (sym (not_zero n))
    (subst (λ (i : Bool). HasValue (round binary32 a num den) i (A % M) (2 ^ 149)) v.0
    (rescale (round binary32 a num den) a num den (A % M) (2 ^ 149) p (sym k)
    (round_exact binary32 a num den q j p h (room q j h l) (k ∙ ap (λ (x : ℕ). x * den) e))))
  where
    not_zero : (n : ℕ) → eqb (suc n) 0 ≡ false
    not_zero n = ne_eqb (suc n) 0 (λ (i : suc n ≡ 0). omega arith)

-- ---- the answers

pub nan_first : (x y : Float) → is_nan x ≡ true → x ≡ rem binary32 x y
unfolding rem is_nan
nan_first nan y h = refl
nan_first (inf s) y h = absurd (subst T (sym h) tt)
nan_first (fin s m e) y h = absurd (subst T (sym h) tt)

pub nan_second : (x y : Float) → is_nan y ≡ true → y ≡ rem binary32 x y
unfolding rem is_nan
nan_second nan nan h = refl
nan_second (inf s) nan h = refl
nan_second (fin s m e) nan h = refl
nan_second x (inf s) h = absurd (subst T (sym h) tt)
nan_second x (fin s m e) h = absurd (subst T (sym h) tt)

of_infinity : (s : Bool) (y : Float) → nan ≡ rem binary32 (inf s) y
unfolding rem
of_infinity s y = refl

pub infinite_first : (x y : Float) → T (fits binary32 x) → T (not (is_nan x)) → 0x7f80_0000 ≤ rest x → nan ≡ rem binary32 x y
infinite_first x y f n h = of_infinity (sign x) y ∙ ap (λ (v : Float). rem binary32 v y) (sym (unlimited x f n h))

by_infinity : (x : Float) (s t : Bool) (a : ℕ) → HasValue x s a (2 ^ 149) → x ≡ rem binary32 x (inf t)
unfolding rem
by_infinity nan s t a v = elim v [ ]
by_infinity (inf _) s t a v = elim v [ ]
by_infinity (fin b m e) s t a v = refl

pub infinite_second : (x y : Float) → T (fits binary32 x) → T (not (is_nan x)) → rest x < 0x7f80_0000 → T (fits binary32 y) → T (not (is_nan y)) → 0x7f80_0000 ≤ rest y → x ≡ rem binary32 x y
infinite_second x y f n l g o h = by_infinity x (sign x) (sign y) (magnitude (rest x)) (value x f n l) ∙ ap (rem binary32 x) (sym (unlimited y g o h))

by_zero : (x y : Float) (s t : Bool) (a : ℕ) → HasValue x s a (2 ^ 149) → HasValue y t 0 (2 ^ 149) → nan ≡ rem binary32 x y
unfolding rem
by_zero nan y s t a v w = elim v [ ]
by_zero (inf _) y s t a v w = elim v [ ]
by_zero (fin _ _ _) nan s t a v w = elim w [ ]
by_zero (fin _ _ _) (inf _) s t a v w = elim w [ ]
by_zero (fin b m e) (fin c zero d) s t a v w = refl
by_zero (fin b m e) (fin c (suc n) d) s t a v w =
    absurd (lt_irrefl 0 (subst (λ (n : ℕ). 0 < n) (w.1 ∙ zero-mul (down d)) (mul-pos (mul-pos (positive n) (up_pos d)) (pow_pos 149))))
  where
    positive : (n : ℕ) → 0 < suc n
    positive n = omega arith

pub zero_second : (x y : Float) → T (fits binary32 x) → T (not (is_nan x)) → rest x < 0x7f80_0000 → T (fits binary32 y) → T (not (is_nan y)) → rest y ≡ 0 → nan ≡ rem binary32 x y
unfolding magnitude
zero_second x y f n l g o h =
    by_zero x y (sign x) (sign y) (magnitude (rest x)) (value x f n l)
    (subst (λ (a : ℕ). HasValue y (sign y) (magnitude a) (2 ^ 149)) h (value y g o (subst (λ (a : ℕ). a < 0x7f80_0000) (sym h) (omega arith))))

-- a result that has the remainder's size and the first operand's sign
module _ (x y : Float) (p : ℕ) (f : T (fits binary32 x)) (g : T (fits binary32 y)) (n : T (not (is_nan x))) (o : T (not (is_nan y)))
    (l : rest x < 0x7f80_0000) (z : 0 < rest y) (k : rest y < 0x7f80_0000) (e : magnitude p ≡ magnitude (rest x) % magnitude (rest y)) (h : p < 0x7f80_0000) where
  rem_is : HasValue (rem binary32 x y) (sign x) (magnitude p) (2 ^ 149)
  rem_is =
      let a = parts_of p h in
      let b = parts_of (rest y) k in
      subst (λ (r : ℕ). HasValue (rem binary32 x y) (sign x) r (2 ^ 149)) (sym e)
      (rem_value x y (sign x) (sign y) (magnitude (rest x)) (magnitude (rest y)) a.0 a.1 (value x f n l) (value y g o k)
      (above_zero (rest y) b.0 b.1 z b.2) a.2.most a.2.range (sym e ∙ sym a.2.value))

  pub plain_rem : sign x ≡ false → of_bits binary32 p ≡ rem binary32 x y
  plain_rem s =
      same (of_bits binary32 p) (rem binary32 x y) false (magnitude p) (of_bits-fits binary32 p) (rem-fits binary32 x y f) (value_of p h)
      (subst (λ (b : Bool). HasValue (rem binary32 x y) b (magnitude p) (2 ^ 149)) s rem_is)

  pub turned_rem : sign x ≡ true → neg (of_bits binary32 p) ≡ rem binary32 x y
  turned_rem s =
      same (neg (of_bits binary32 p)) (rem binary32 x y) true (magnitude p) (neg-fits binary32 (of_bits binary32 p) (of_bits-fits binary32 p)) (rem-fits binary32 x y f)
      (turned (of_bits binary32 p) false (magnitude p) (2 ^ 149) (value_of p h))
      (subst (λ (b : Bool). HasValue (rem binary32 x y) b (magnitude p) (2 ^ 149)) s rem_is)
