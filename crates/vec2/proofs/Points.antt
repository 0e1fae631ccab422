-- Lists of points in a float buffer: their lengths, one behind another, and what stands at a place. Assumes nothing.
use mathlib.Core.Path.{◌≡◌, refl, sym, ap, ◌∙◌}
use mathlib.Core.List.{List, [], ◌∷◌, ◌++◌}
use Prim.Native.Nat.{ℕ, zero, suc, ◌+◌, ◌*◌, ◌/◌, ◌<◌}
use native.Mathlib.Nat.{add-zero, add-suc, suc-add}
use native.Mathlib.Numerals.{add-one}
use native.Mathlib.Omega.{arith}
use lib.ListN.{length, get_or, set}
use lib.Seq.{sets}
use lib.Ieee.{Float, nan}
use Rattle.vec2.specs.declared.Vec2.{Vec2}
use Rattle.vec2.specs.Vec2.{vec}
use Rattle.vec2.specs.Points.{flat, points_in, point_at}

pub flat_append : (a b : List Vec2) → flat (a ++ b) ≡ flat a ++ flat b
flat_append [] b = refl
flat_append (p ∷ ps) b = ap (λ (r : List Float). p.x ∷ p.y ∷ r) (flat_append ps b)

pub length-flat : (ps : List Vec2) → length (flat ps) ≡ 2 * length ps
length-flat [] = refl
length-flat (p ∷ ps) = omega (arith, length-flat ps)

pub points_in-flat : (ps : List Vec2) → points_in (flat ps) ≡ ps
points_in-flat [] = refl
points_in-flat (p ∷ ps) = ap (λ (r : List Vec2). p ∷ r) (points_in-flat ps)

double_suc : (k : ℕ) → 2 * suc k ≡ suc (suc (2 * k))
double_suc k = omega arith

pub point_at-flat : (ps : List Vec2) (k : ℕ) → point_at (flat ps) k ≡ get_or ps k (vec nan nan)
point_at-flat [] k = refl
point_at-flat (p ∷ ps) zero = refl
point_at-flat (p ∷ ps) (suc k) = rw (double_suc k, suc-add, suc-add) (point_at-flat ps k)

-- ---- the points of a buffer, by index

pub length-points_in : (fs : List Float) → length (points_in fs) ≡ length fs / 2
length-points_in [] = refl
length-points_in (a ∷ []) = refl
length-points_in (a ∷ b ∷ fs) = ap suc (length-points_in fs) ∙ omega arith

pub points_in-at : (fs : List Float) (k : ℕ) → 2 * k + 1 < length fs → get_or (points_in fs) k (vec nan nan) ≡ point_at fs k
points_in-at [] k h = absurd (omega arith)
points_in-at (a ∷ []) k h = absurd (omega arith)
points_in-at (a ∷ b ∷ fs) zero h = refl
points_in-at (a ∷ b ∷ fs) (suc k) h = rw (double_suc k, suc-add, suc-add) (points_in-at fs k (omega arith))

-- ---- stored in a buffer

module _ {A : Type 0} where
  pub sets-append : (xs ys l : List A) (i : ℕ) → sets l i (xs ++ ys) ≡ sets (sets l i xs) (i + length xs) ys
  sets-append [] ys l i = rw add-zero
  sets-append (x ∷ xs) ys l i =
      sets-append xs ys (set l i x) (suc i)
      ∙ ap (λ (k : ℕ). sets (sets (set l i x) (suc i) xs) k ys) (suc-add i (length xs) ∙ sym (add-suc i (length xs)))

-- one point more, as code stores it
pub stored_point : (l : List Float) (at k : ℕ) (ps : List Vec2) (q : Vec2) → length ps ≡ k →
    set (set (sets l (2 * at) (flat ps)) (2 * (at + k)) q.x) (2 * (at + k) + 1) q.y ≡ sets l (2 * at) (flat (ps ++ q ∷ []))
stored_point l at k ps q e =
    let f : 2 * at + length (flat ps) ≡ 2 * (at + k) = omega (arith, length-flat ps) in
    rw (flat_append, sets-append, f, add-one)
