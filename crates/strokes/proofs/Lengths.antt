-- Lengths of legs, worked out once: what they are for a part of the points. Assumes nothing.
use mathlib.Core.Path.{◌≡◌, refl, sym, ap, ap₂, ◌∙◌}
use mathlib.Core.List.{List, [], ◌∷◌}
use Prim.Native.Nat.{ℕ, zero, suc, ◌+◌, ◌-◌, ◌*◌, ◌≤◌, ◌<◌}
use native.Mathlib.Omega.{arith}
use lib.ListN.{length, get_or, take, drop, length-drop}
use lib.Seq.{get_or-take, get_or-drop, length-take-le}
use lib.Ieee.{Float, nan}
use Rattle.vec2.specs.declared.Vec2.{Vec2}
use Rattle.vec2.specs.Vec2.{vec, ◌⊖◌, len}
use Rattle.vec2.specs.Points.{points_in, point_at}
use Rattle.events.specs.declared.Leg.{Leg}
use Rattle.events.specs.Walk.{leg_of}
use Rattle.strokes.specs.Lengths.{all_legs, length_at, KeptLengths}

-- ---- one leg behind another

pub legs_next : (fs : List Float) → 4 ≤ length fs → all_legs (points_in fs) ≡ leg_of (point_at fs 0) (point_at fs 1) ∷ all_legs (points_in (drop 2 fs))
legs_next (a ∷ b ∷ c ∷ d ∷ fs) h = refl
legs_next [] h = absurd (omega (arith, h))
legs_next (a ∷ []) h = absurd (omega (arith, h))
legs_next (a ∷ b ∷ []) h = absurd (omega (arith, h))
legs_next (a ∷ b ∷ c ∷ []) h = absurd (omega (arith, h))

point_behind : (a b : Float) (fs : List Float) (j k : ℕ) → j ≡ k + 1 → point_at (a ∷ b ∷ fs) j ≡ point_at fs k
point_behind a b fs j k e =
    let x : 2 * j ≡ suc (suc (2 * k)) = omega (arith, e) in
    let y : 2 * j + 1 ≡ suc (suc (2 * k + 1)) = omega (arith, e) in
    ap₂ vec (ap (λ (n : ℕ). get_or (a ∷ b ∷ fs) n nan) x) (ap (λ (n : ℕ). get_or (a ∷ b ∷ fs) n nan) y)

pub kept_next : (ls fs : List Float) → KeptLengths ls fs → KeptLengths (drop 1 ls) (drop 2 fs)
kept_next [] fs t k h r = absurd (omega (arith, h))
kept_next (l ∷ ls) [] t k h r = absurd (omega (arith, r))
kept_next (l ∷ ls) (a ∷ []) t k h r = absurd (omega (arith, r))
kept_next (l ∷ ls) (a ∷ b ∷ fs) t k h r =
    t (suc k) (omega (arith, h)) (omega (arith, r))
    ∙ ap₂ (λ (p q : Vec2). len (q ⊖ p)) (point_behind a b fs (suc k) k (omega arith)) (point_behind a b fs (suc k + 1) (k + 1) (omega arith))

-- the leg number i, and those behind it
pub leg_is : (fs : List Float) (i : ℕ) (g : Leg) (gs : List Leg) → drop i (all_legs (points_in fs)) ≡ g ∷ gs →
    (g.length ≡ length_at fs i) × (drop (i + 1) (all_legs (points_in fs)) ≡ gs)
leg_is (a ∷ b ∷ c ∷ d ∷ fs) zero g gs e = (cc, cc)
leg_is (a ∷ b ∷ c ∷ d ∷ fs) (suc i) g gs e =
    let n : suc i + 1 ≡ suc (i + 1) = omega arith in
    let r = leg_is (c ∷ d ∷ fs) i g gs e in (
      r.0 ∙ sym (ap₂ (λ (p q : Vec2). len (q ⊖ p)) (point_behind a b (c ∷ d ∷ fs) (suc i) i (omega arith)) (point_behind a b (c ∷ d ∷ fs) (suc i + 1) (i + 1) (omega arith))),
      rw n r.1,
    )
leg_is [] i g gs e = absurd (omega (arith, ap length e, length-drop i (all_legs [])))
leg_is (a ∷ []) i g gs e = absurd (omega (arith, ap length e, length-drop i (all_legs [])))
leg_is (a ∷ b ∷ []) i g gs e = absurd (omega (arith, ap length e, length-drop i (all_legs [])))
leg_is (a ∷ b ∷ c ∷ []) i g gs e = absurd (omega (arith, ap length e, length-drop i (all_legs [])))

pub no_leg : (fs : List Float) (i : ℕ) → drop i (all_legs (points_in fs)) ≡ [] → length fs ≤ 2 * i + 3
no_leg (a ∷ b ∷ c ∷ d ∷ fs) zero e = absurd (cc)
no_leg (a ∷ b ∷ c ∷ d ∷ fs) (suc i) e = omega (arith, no_leg (c ∷ d ∷ fs) i e)
no_leg [] i e = omega arith
no_leg (a ∷ []) i e = omega arith
no_leg (a ∷ b ∷ []) i e = omega arith
no_leg (a ∷ b ∷ c ∷ []) i e = omega arith

-- ---- a part of the points

-- the points from `from` up to e, as a part of the floats, and the lengths from `from` on
module _ (fs : List Float) (from e : ℕ) (h : from ≤ e) (r : 2 * e ≤ length fs) where
  abbrev part : List Float
  part = take (2 * e - 2 * from) (drop (2 * from) fs)

  long : length part ≡ 2 * e - 2 * from
  long = length-take-le (2 * e - 2 * from) (drop (2 * from) fs) (omega (arith, r, h, length-drop (2 * from) fs))

  float_in : (i j : ℕ) → i < 2 * e - 2 * from → j ≡ 2 * from + i → get_or part i nan ≡ get_or fs j nan
  float_in i j l q = get_or-take (2 * e - 2 * from) (drop (2 * from) fs) i nan l ∙ get_or-drop (2 * from) fs i nan ∙ sym (ap (λ (m : ℕ). get_or fs m nan) q)

  point_in : (k n : ℕ) → 2 * k + 1 < 2 * e - 2 * from → n ≡ from + k → point_at part k ≡ point_at fs n
  point_in k n l q = rw (float_in (2 * k) (2 * n) (omega (arith, l)) (omega (arith, q)), float_in (2 * k + 1) (2 * n + 1) l (omega (arith, q)))

  pub kept_part : (ls : List Float) → KeptLengths ls fs → KeptLengths (drop from ls) (take (2 * e - 2 * from) (drop (2 * from) fs))
  kept_part ls t k l p =
      get_or-drop from ls k nan
      ∙ t (from + k) (omega (arith, l, length-drop from ls)) (omega (arith, p, long, r, h))
      ∙ sym (both (point_in k (from + k) (omega (arith, p, long)) refl) (point_in (k + 1) (from + k + 1) (omega (arith, p, long)) (omega arith)))
    where
      both : {a b c d : Vec2} → a ≡ b → c ≡ d → len (c ⊖ a) ≡ len (d ⊖ b)
      both x y = rw (x, y)
