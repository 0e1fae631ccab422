-- Laws of a half's quads that the recursion cites.
--     single_by                  the three tests of one quad
--     pieces_one, pieces_two     a half that is one quad; a half that is split
--     split_more                 one that is split may be split
--     pieces_most, most_twice    at most 2 ^ k quads, and that is two halves'; most_few: at most 64
--     pieces_quads               the whole conic
--     pieces_floats              a quad has four floats
-- Assumes nothing.
use mathlib.Core.Path.{◌≡◌, refl}
use mathlib.Core.Bool.{Bool, true, false, ◌||◌}
use mathlib.Core.List.{[], ◌∷◌, ◌++◌}
use Prim.Native.Nat.{ℕ, zero, suc, ◌+◌, ◌*◌, ◌-◌, ◌^◌, ◌≤◌}
use native.Mathlib.Nat.{pow-suc}
use native.Mathlib.Omega.{arith}
use lib.Pow.{pow_mono}
use lib.Dec.{eqb}
use borrow.Author.Tests.{ne_eqb}
use lib.ListN.{length}
use lib.Ieee.{Float}
use Rattle.vec2.specs.declared.Vec2.{Vec2}
use Rattle.vec2.specs.Points.{flat}
use Rattle.vec2.proofs.Points.{length-flat}
use Rattle.path.specs.declared.Segment.TheVariants.{Quad}
use Rattle.path.specs.Segment.{all_points}
use Rattle.halves.specs.Conic.{near_one, near_mid, near, half_weight, split, quads}
use Rattle.halves.specs.Halves.{Half, from_of, ctrl_of, to_of, half_of, left_half, right_half, single, pieces}
use Rattle.halves.proofs.Laws.{split_most, split_points}

-- ---- whether a half is one quad

pub single_by : (k : ℕ) (h : Half) (w : Float) → single k h w ≡ (eqb k 0 || (near_one w || near_mid (from_of h) (ctrl_of h) (to_of h) w))
unfolding near
single_by zero h w = refl
single_by (suc k) h w = rw (ne_eqb (suc k) 0 (λ (e : suc k ≡ 0). omega (arith, e)))

pub split_more : (k : ℕ) (h : Half) (w : Float) → single k h w ≡ false → 1 ≤ k
split_more zero h w e = let z : ◌≡◌ {A = ℕ} 0 1 = cc in omega arith
split_more (suc k) h w e = omega arith

-- ---- its quads

one_of : (k : ℕ) (b : Bool) (a c t : Vec2) (w : Float) → b ≡ true → split k b a c t w ≡ Quad c t ∷ []
unfolding split
one_of zero b a c t w e = refl
one_of (suc k) true a c t w e = refl
one_of (suc k) false a c t w e = cc

pub pieces_one : (k : ℕ) (h : Half) (w : Float) → single k h w ≡ true → pieces k h w ≡ Quad (ctrl_of h) (to_of h) ∷ []
unfolding pieces split
pieces_one zero h w e = refl
pieces_one (suc k) h w e = one_of (suc k) (near (from_of h) (ctrl_of h) (to_of h) w) (from_of h) (ctrl_of h) (to_of h) w e

pub pieces_two : (k : ℕ) (h : Half) (w : Float) → single k h w ≡ false
    → pieces k h w ≡ pieces (k - 1) (left_half h w) (half_weight w) ++ pieces (k - 1) (right_half h w) (half_weight w)
unfolding pieces split
pieces_two zero h w e = cc
pieces_two (suc k) h w e = let p : suc k - 1 ≡ k = omega arith in rw (p, e)

pub pieces_most : (k : ℕ) (h : Half) (w : Float) → length (pieces k h w) ≤ 2 ^ k
unfolding pieces
pieces_most k h w = split_most k (near (from_of h) (ctrl_of h) (to_of h) w) (from_of h) (ctrl_of h) (to_of h) w

pub most_twice : (k : ℕ) → 1 ≤ k → 2 ^ k ≡ 2 ^ (k - 1) + 2 ^ (k - 1)
most_twice zero l = absurd (omega (arith, l))
most_twice (suc k) l = let p : suc k - 1 ≡ k = omega arith in rw p (omega (arith, pow-suc 2 k))

pub most_few : (k : ℕ) → k ≤ 6 → 2 ^ k ≤ 64
most_few k l = pow_mono l

-- a conic is a half that may be split 6 times more
pub pieces_quads : (a c t : Vec2) (w : Float) {h : Half} → h ≡ half_of a c t → pieces 6 h w ≡ quads a c t w
unfolding pieces quads
pieces_quads a c t w e = rw e

pub pieces_floats : (k : ℕ) (h : Half) (w : Float) → length (flat (all_points (pieces k h w))) ≡ 4 * length (pieces k h w)
unfolding pieces
pieces_floats k h w =
    let qs = pieces k h w in
    omega (arith, length-flat (all_points qs), split_points k (near (from_of h) (ctrl_of h) (to_of h) w) (from_of h) (ctrl_of h) (to_of h) w)
