-- Which lengths are walked: those above zero with a pattern below the infinity's. Assumes nothing.
use mathlib.Core.Path.{◌≡◌, refl, sym, ap, ◌∙◌, subst}
use mathlib.Core.Bool.{Bool, true, false, not, ◌&&◌, ◌||◌, beq}
use Prim.Native.Nat.{ℕ, zero, suc, ◌+◌, ◌*◌, ◌<◌}
use native.Mathlib.Nat.{zero-mul, mul-pos, zero-lt-suc}
use native.Mathlib.Omega.{arith}
use lib.Dec.{T, ltb, eqb}
use lib.Ieee.{Float, nan, inf, fin, binary32, up, down, lt, eq, le, fits, of_bits, to_bits}
use lib.Ieee.Bits.{of_bits-to_bits}
use lib.Ieee.Fits.{up_pos}
use borrow.Author.Tests.{ltb-true, ltb-false, lt-ltb, le-ltb, ne_eqb}
use Rattle.float.specs.Arith.{f0}
use Rattle.float.specs.Small.{is_finite}
use Rattle.float.proofs.Signs.{above, positive}
use Rattle.float.proofs.Count.{above_top, positive_bits}

abbrev pub walks : Float → Bool
walks x = is_finite x && not (le x f0)

-- above zero and finite
finite_walks : (x : Float) → T (positive x) → true ≡ walks x
unfolding le lt eq of_bits is_finite
finite_walks (fin false (suc m) e) h =
    let z : 0 * 1 * down e ≡ 0 = zero-mul (down e) in
    let p : 0 < suc m * up e = mul-pos (zero-lt-suc m) (up_pos e) in
    let a : ltb (suc m * up e * 1) (0 * 1 * down e) ≡ false = le-ltb (suc m * up e * 1) (0 * 1 * down e) (omega arith) in
    let b : eqb (suc m * up e * 1) (0 * 1 * down e) ≡ false = ne_eqb (suc m * up e * 1) (0 * 1 * down e) (λ q. omega (arith, q, p, z)) in
    rw (a, b)
finite_walks nan h = elim h [ ]
finite_walks (inf _) h = elim h [ ]
finite_walks (fin false zero e) h = elim h [ ]
finite_walks (fin true _ e) h = elim h [ ]

pub above_walks : (x : Float) → T (fits binary32 x) → T (above x) → ltb (to_bits binary32 x) 0x7f80_0000 ≡ walks x
unfolding is_finite
above_walks x f h = go (ltb (to_bits binary32 x) 0x7f80_0000) refl
  where
    back : of_bits binary32 (to_bits binary32 x) ≡ x
    back = of_bits-to_bits binary32 x f

    over : T (above (of_bits binary32 (to_bits binary32 x)))
    over = subst (λ (v : Float). T (above v)) (sym back) h

    go : (b : Bool) → ltb (to_bits binary32 x) 0x7f80_0000 ≡ b → b ≡ walks x
    go true e = finite_walks x (subst (λ (v : Float). T (positive v)) back (positive_bits (to_bits binary32 x) (ltb-true _ _ e) over))
    go false e = ap walks (sym (above_top (to_bits binary32 x) (ltb-false _ _ e) over) ∙ back)

-- the others
below_zero : (a b : ℕ) → b ≡ 0 → ltb 0 (a + b) || (eqb a b && (beq true false || eqb a 0)) ≡ true
below_zero zero b e = rw e
below_zero (suc a) b e = let p : ltb 0 (suc a + b) ≡ true = lt-ltb 0 (suc a + b) (omega arith) in rw p

at_zero : (a b : ℕ) → a ≡ 0 → b ≡ 0 → ltb a b || (eqb a b && (beq false false || eqb a 0)) ≡ true
at_zero a b p q = rw (p, q)

pub none_walks : (x : Float) → T (not (above x)) → false ≡ walks x
unfolding le lt eq of_bits is_finite
none_walks nan h = refl
none_walks (inf s) h = refl
none_walks (fin true m e) h = ap not (sym (below_zero (m * up e * 1) (0 * 1 * down e) (zero-mul (down e))))
none_walks (fin false zero e) h = ap not (sym (at_zero (0 * up e * 1) (0 * 1 * down e) (ap (λ (n : ℕ). n * 1) (zero-mul (up e))) (zero-mul (down e))))
none_walks (fin false (suc m) e) h = absurd h
