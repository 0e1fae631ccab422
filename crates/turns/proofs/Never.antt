-- Past an edge whose ends differ, the search for a point that differs from the edge's end finds one, at the latest the edge's start. So at every junction
-- the next point differs from the present one, for any points. Assumes nothing.
use mathlib.Core.Path.{◌≡◌, refl, sym, ap, ◌∙◌}
use mathlib.Core.Bool.{Bool, true, false, true≢false}
use mathlib.Core.List.{List, [], ◌∷◌}
use Prim.Native.Nat.{ℕ, zero, suc, ◌+◌, ◌-◌, ◌%◌, ◌≤◌, ◌<◌}
use native.Mathlib.Omega.{arith}
use native.Mathlib.Nat.{mod-lt, mod-add-mod, mod-eq_of_lt, add-mod_right, add-zero}
use lib.ListN.{length}
use Rattle.turns.specs.Walk.{Plane, Junction, at, seek, next, junction_at, unless_same, junctions_from, junctions}

module _ {P : Type 0} (g : Plane P) (ps : List P) where
  -- the point m steps past k
  past : ℕ → ℕ → P
  past k m = at g ps ((k + m) % length ps)

  past_none : (k : ℕ) → k < length ps → past k 0 ≡ at g ps k
  unfolding past
  past_none k h = rw (add-zero, mod-eq_of_lt h)

  past_next : (k m : ℕ) → past ((k + 1) % length ps) m ≡ past k (suc m)
  unfolding past
  past_next k m = let one : k + 1 + m ≡ k + suc m = omega arith in rw (mod-add-mod, one)

  -- a point that differs is m steps on, and as many may be passed over
  finds : (b : P) (m left k : ℕ) (s : Bool) → g.same (at g ps k) b ≡ s → k < length ps → m ≤ left → g.same (past k m) b ≡ false
      → g.same (at g ps (seek g ps left s b k)) b ≡ false
  unfolding seek
  finds b zero zero k false q h l d = q
  finds b zero (suc left) k false q h l d = q
  finds b zero left k true q h l d = absurd (true≢false (sym q ∙ sym (ap (λ (p : P). g.same p b) (past_none k h)) ∙ d))
  finds b (suc m) zero k s q h l d = absurd (omega arith)
  finds b (suc m) (suc left) k false q h l d = q
  finds b (suc m) (suc left) k true q h l d =
      finds b m left ((k + 1) % length ps) _ refl (mod-lt (k + 1) (omega arith)) (omega arith) (ap (λ (p : P). g.same p b) (past_next k m) ∙ d)

  -- n - 2 steps past the point after the edge's end is the edge's start
  round : (i : ℕ) → i < length ps → 2 ≤ length ps → past ((i + 2) % length ps) (length ps - 2) ≡ at g ps i
  unfolding past
  round i h two =
      let all : i + 2 + (length ps - 2) ≡ i + length ps = omega arith in
      rw (mod-add-mod, all, add-mod_right, mod-eq_of_lt h)

  pub next_differs : (i : ℕ) → i < length ps → 2 ≤ length ps → (b : P) → g.same (at g ps i) b ≡ false → g.same (at g ps (next g ps b ((i + 2) % length ps))) b ≡ false
  unfolding next
  next_differs i h two b d =
      finds b (length ps - 2) (length ps) ((i + 2) % length ps) _ refl (mod-lt (i + 2) (omega arith)) (omega arith) (ap (λ (p : P). g.same p b) (round i h two) ∙ d)

-- of every junction of a list
pub data Every {A : Type 0} (R : A → Type 0) : List A → Type 0 where
  nil : Every R []
  cons : {x : A} {xs : List A} → R x → Every R xs → Every R (x ∷ xs)

module _ {P : Type 0} (g : Plane P) (ps : List P) (two : 2 ≤ length ps) where
  abbrev pub Differs : Junction P → Type 0
  Differs j = g.same j.c j.b ≡ false

  differs_at : (i : ℕ) → i < length ps → (s : Bool) → g.same (at g ps i) (at g ps ((i + 1) % length ps)) ≡ s → (js : List (Junction P)) → Every Differs js
      → Every Differs (unless_same g ps s (junction_at g ps i) js)
  unfolding junction_at
  differs_at i h true q js rest = rest
  differs_at i h false q js rest = cons (next_differs g ps i h two _ q) rest

  differs_from : (i k : ℕ) → i + k ≤ length ps → Every Differs (junctions_from g ps i k)
  unfolding junctions_from
  differs_from i zero h = nil
  differs_from i (suc k) h = differs_at i (omega arith) _ refl _ (differs_from (suc i) k (omega arith))

  pub always_differs : Every Differs (junctions g ps)
  unfolding junctions
  always_differs = differs_from 0 (length ps) (omega arith)
