-- Sizes as digits and zeros: those of a pattern, what is left of one that is divided by another, and the pattern of one. Assumes nothing.
use mathlib.Core.Path.{◌≡◌, sym, ap, ◌∙◌, subst}
use Prim.Native.Nat.{ℕ, zero, suc, ◌+◌, ◌-◌, ◌*◌, ◌/◌, ◌%◌, ◌^◌, ◌≤◌, ◌<◌}
use native.Mathlib.Nat.{le_trans, le_of_eq, lt_of_lt_of_le, lt_irrefl, mul_assoc, mul-one, add-mul, mul-pos, mul-le-mul_right, mul-lt-mul_of_pos_right, mod-lt, div-add-mod', pow-succ', mul_comm}
use native.Mathlib.Numerals.{add-one}
use native.Mathlib.Omega.{arith}
use mathlib.Core.Bool.{Bool, true, false, not}
use lib.Dec.{T, ltb, ltb→lt, nltb→le}
use lib.Pow.{pow-add, pow_pos, pow_mono, shl_lt}
use Rattle.std.proofs.lemmas.Nat.{mod-mul-add}
use Rattle.float.specs.Pattern.{magnitude}
use Rattle.float.proofs.Normal.{magnitude_low, magnitude_high}
use Rattle.remainder.specs.Parts.{Parts}

-- ---- the parts of a pattern

pub low_parts : (b : ℕ) → b < 2 ^ 23 → Parts b b 0
low_parts b h = record { most = omega arith; range = omega arith; full = λ (z : 0 < 0). absurd (lt_irrefl 0 z); some = λ (z : 0 < b). z; value = mul-one b ∙ sym (magnitude_low b h) }

pub high_parts : (b : ℕ) → 2 ^ 23 ≤ b → b < 0x7f80_0000 → Parts b (2 ^ 23 + b % 2 ^ 23) (b / 2 ^ 23 - 1)
high_parts b l h = record { most = most b; range = range b h; full = λ (z : 0 < b / 2 ^ 23 - 1). full b; some = λ (z : 0 < b). some b; value = sym (magnitude_high b l) }
  where
    most : (b : ℕ) → 8388608 + b % 8388608 < 16777216
    most b = omega arith

    range : (b : ℕ) → b < 2139095040 → b / 8388608 - 1 ≤ 253
    range b h = omega arith

    full : (b : ℕ) → 8388608 ≤ 8388608 + b % 8388608
    full b = omega arith

    some : (b : ℕ) → 0 < 8388608 + b % 8388608
    some b = omega arith

pub parts_of : (b : ℕ) → b < 0x7f80_0000 → (q : ℕ) × (j : ℕ) × Parts b q j
parts_of b h = go (ltb b (2 ^ 23)) (ltb→lt b (2 ^ 23)) (nltb→le b (2 ^ 23))
  where
    go : (c : Bool) → (T c → b < 2 ^ 23) → (T (not c) → 2 ^ 23 ≤ b) → (q : ℕ) × (j : ℕ) × Parts b q j
    go true l g = (b, 0, low_parts b (l tt))
    go false l g = (2 ^ 23 + b % 2 ^ 23, b / 2 ^ 23 - 1, high_parts b (g tt) h)

-- a pattern above zero has a size above zero
pub above_zero : (b q j : ℕ) → 0 < b → Parts b q j → 0 < magnitude b
above_zero b q j h p = subst (λ (x : ℕ). 0 < x) p.value (mul-pos (p.some h) (pow_pos j))

-- ---- more zeros, and fewer

pub one_zero_more : (n k : ℕ) → n * 2 ^ k * 2 ≡ n * 2 ^ (k + 1)
one_zero_more n k = rw (add-one k) (mul_assoc n (2 ^ k) 2 ∙ ap (λ (x : ℕ). n * x) (mul_comm (2 ^ k) 2 ∙ sym (pow-succ' 2 k)))

pub double : (r k : ℕ) → 0 < k → r * 2 * 2 ^ (k - 1) ≡ r * 2 ^ k
double r zero h = absurd (lt_irrefl 0 h)
double r (suc k) h = ap (λ (x : ℕ). r * 2 * 2 ^ x) (less k) ∙ mul_assoc r 2 (2 ^ k) ∙ ap (λ (x : ℕ). r * x) (sym (pow-succ' 2 k))
  where
    less : (k : ℕ) → suc k - 1 ≡ k
    less k = omega arith

-- ---- what is left after a division

-- of two numbers times c it is c times as much
pub scale_mod : (x y c : ℕ) → 0 < y → 0 < c → x * c % (y * c) ≡ x % y * c
scale_mod x y c p q =
    ap (λ (n : ℕ). n % (y * c))
    (ap (λ (n : ℕ). n * c) (sym (div-add-mod' x y))
    ∙ add-mul (x / y * y) (x % y) c
    ∙ ap (λ (n : ℕ). n + x % y * c) (mul_assoc (x / y) y c))
    ∙ mod-mul-add (x / y) (y * c) (x % y * c) (mul-lt-mul_of_pos_right (mod-lt x p) q)

-- fewer zeros, and 24 digits behind more of them: the first is less
pub smaller : (a x i b y j : ℕ) → Parts a x i → Parts b y j → i < j → magnitude a < magnitude b
smaller a x i b y j p q h =
    subst (λ (n : ℕ). n < magnitude b) p.value
    (lt_of_lt_of_le (shl_lt 24 i p.most)
    (le_trans (pow_mono (next i j h))
    (le_trans (le_of_eq (pow-add 2 23 j))
    (le_trans (mul-le-mul_right (2 ^ j) (q.full (above i j h))) (le_of_eq q.value)))))
  where
    next : (i j : ℕ) → i < j → 24 + i ≤ 23 + j
    next i j h = omega arith

    above : (i j : ℕ) → i < j → 0 < j
    above i j h = omega arith

-- the divisor's zeros are left out while it is divided
pub divided : (a x i b y j : ℕ) → Parts a x i → Parts b y j → j ≤ i → 0 < y → x * 2 ^ (i - j) % y * 2 ^ j ≡ magnitude a % magnitude b
divided a x i b y j p q h z =
    sym (scale_mod (x * 2 ^ (i - j)) y (2 ^ j) z (pow_pos j))
    ∙ ap (λ (n : ℕ). n % (y * 2 ^ j)) (mul_assoc x (2 ^ (i - j)) (2 ^ j) ∙ ap (λ (n : ℕ). x * n) (sym (pow-add 2 (i - j) j) ∙ ap (λ (n : ℕ). 2 ^ n) (back i j h)) ∙ p.value)
    ∙ ap (λ (n : ℕ). magnitude a % n) q.value
  where
    back : (i j : ℕ) → j ≤ i → i - j + j ≡ i
    back i j h = omega arith

-- ---- the pattern of a size

pub full_pattern : (r k : ℕ) → 2 ^ 23 ≤ r → r < 2 ^ 24 → magnitude (k * 2 ^ 23 + r) ≡ r * 2 ^ k
full_pattern r k l h =
    magnitude_high (k * 2 ^ 23 + r) (at_least r k l)
    ∙ ap (λ (x : ℕ). x * 2 ^ ((k * 2 ^ 23 + r) / 2 ^ 23 - 1)) (digits r k l h)
    ∙ ap (λ (x : ℕ). r * 2 ^ x) (zeros r k l h)
  where
    at_least : (r k : ℕ) → 8388608 ≤ r → 8388608 ≤ k * 8388608 + r
    at_least r k l = omega arith

    digits : (r k : ℕ) → 8388608 ≤ r → r < 16777216 → 8388608 + (k * 8388608 + r) % 8388608 ≡ r
    digits r k l h = omega arith

    zeros : (r k : ℕ) → 8388608 ≤ r → r < 16777216 → (k * 8388608 + r) / 8388608 - 1 ≡ k
    zeros r k l h = omega arith

pub low_pattern : (r k : ℕ) → k ≤ 0 → r < 2 ^ 23 → magnitude (k * 2 ^ 23 + r) ≡ r * 2 ^ k
low_pattern r zero z h = ap magnitude (omega arith) ∙ magnitude_low r h ∙ sym (mul-one r)
low_pattern r (suc k) z h = absurd (omega arith)

pub any_pattern : (r k : ℕ) → k ≤ 0 → r < 2 ^ 24 → magnitude (k * 2 ^ 23 + r) ≡ r * 2 ^ k
any_pattern r k z h = go (ltb r (2 ^ 23)) (ltb→lt r (2 ^ 23)) (nltb→le r (2 ^ 23))
  where
    go : (c : Bool) → (T c → r < 2 ^ 23) → (T (not c) → 2 ^ 23 ≤ r) → magnitude (k * 2 ^ 23 + r) ≡ r * 2 ^ k
    go true l g = low_pattern r k z (l tt)
    go false l g = full_pattern r k (g tt) h
