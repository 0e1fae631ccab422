-- The points of a float buffer, pair by pair. Assumes nothing.
use Rattle.std.proofs.Common.{◌≡◌, ℕ, zero, suc, ◌/◌, refl, ap, List, [], ◌∷◌, map, length, Float, arith}
use Rattle.std.specs.Simd.{first_chunks}
use Rattle.vec2.specs.declared.Vec2.{Vec2}
use Rattle.vec2.specs.Vec2.{vec}
use Rattle.vec2.specs.Points.{points_in, point_at}

pub pairs_are : (fs : List Float) (k : ℕ) → k ≡ length fs / 2 → map (λ (pair : List Float). point_at pair 0) (first_chunks 2 k fs) ≡ points_in fs
pairs_are [] zero h = refl
pairs_are [] (suc k) h = absurd (omega arith)
pairs_are (a ∷ []) zero h = refl
pairs_are (a ∷ []) (suc k) h = absurd (omega arith)
pairs_are (a ∷ b ∷ fs) zero h = absurd (omega arith)
pairs_are (a ∷ b ∷ fs) (suc k) h = ap (λ (r : List Vec2). vec a b ∷ r) (pairs_are fs k (omega arith))
