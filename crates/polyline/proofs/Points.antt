-- The points of a curve, stored one behind the other: the law of the inner loop, for any evaluator. Assumes nothing.
use mathlib.Core.Path.{◌≡◌, refl, sym, ap, ◌∙◌}
use mathlib.Core.List.{List, [], ◌∷◌, ◌++◌}
use Prim.Native.Nat.{ℕ, zero, suc, pred, ◌+◌, ◌-◌, ◌*◌}
use native.Mathlib.Nat.{add-zero, add-suc, suc-add}
use native.Mathlib.Numerals.{sub-one}
use native.Mathlib.Omega.{arith}
use lib.ListN.{length}
use lib.Seq.{sets}
use lib.Ieee.{Float}
use Rattle.vec2.specs.declared.Vec2.{Vec2}
use Rattle.vec2.specs.Points.{flat}
use Rattle.vec2.proofs.Points.{flat_append, length-flat, sets-append}
use Rattle.curve.specs.Count.{param}
use Rattle.polyline.specs.Flatten.{steps, curved}

steps_snoc : (f : ℕ → Vec2) (i k : ℕ) → steps f i (suc k) ≡ steps f i k ++ f (i + k) ∷ []
steps_snoc f i zero = rw add-zero
steps_snoc f i (suc k) =
    ap (λ (r : List Vec2). f i ∷ r) (steps_snoc f (suc i) k ∙ ap (λ (j : ℕ). steps f (suc i) k ++ f j ∷ []) (suc-add i k ∙ sym (add-suc i k)))

pub length-steps : (f : ℕ → Vec2) (i k : ℕ) → length (steps f i k) ≡ k
length-steps f i zero = refl
length-steps f i (suc k) = ap suc (length-steps f (suc i) k)

-- the first k inner points of a curve of n lines
abbrev pub inner : (Float → Vec2) → ℕ → ℕ → List Vec2
inner eval n k = steps (λ i. eval (param i n)) 1 k

module _ (l out next : List Float) (at k : ℕ) (eval : Float → Vec2) (n : ℕ) (e : out ≡ sets l (2 * at) (flat (inner eval n k))) where
  behind : (q : Vec2) → next ≡ sets out (2 * (at + k)) (flat (q ∷ [])) → next ≡ sets l (2 * at) (flat (inner eval n k ++ q ∷ []))
  behind q h =
      let f : 2 * at + length (flat (inner eval n k)) ≡ 2 * (at + k) = omega (arith, length-flat (inner eval n k), length-steps (λ i. eval (param i n)) 1 k) in
      h ∙ rw (e, flat_append, sets-append, f)

  -- the loop's turn: the inner point i, behind k others
  pub one_more : (i : ℕ) → i ≡ k + 1 → (q : Vec2) → q ≡ eval (param i n) → next ≡ sets out (2 * (at + i - 1)) (flat (q ∷ [])) →
      next ≡ sets l (2 * at) (flat (inner eval n (i + 1 - 1)))
  one_more i ei q h s =
      let f : ℕ → Vec2 = λ j. eval (param j n) in
      let one : i ≡ 1 + k = omega (arith, ei) in
      let place : at + i - 1 ≡ at + k = omega (arith, ei) in
      let more : i + 1 - 1 ≡ suc k = omega (arith, ei) in
      behind q (s ∙ ap (λ (j : ℕ). sets out (2 * j) (flat (q ∷ []))) place)
      ∙ ap (λ (ps : List Vec2). sets l (2 * at) (flat ps))
      (ap (λ (x : Vec2). steps f 1 k ++ x ∷ []) (h ∙ ap f one) ∙ sym (steps_snoc f 1 k) ∙ ap (λ (j : ℕ). steps f 1 j) (sym more))

  -- after it: the end
  pub the_end : (p : Vec2) → n ≡ k + 1 → next ≡ sets out (2 * (at + n - 1)) (flat (p ∷ [])) → next ≡ sets l (2 * at) (flat (curved eval n p))
  the_end p h s =
      let g : pred n ≡ k = omega (arith, h, sub-one n) in
      let place : at + n - 1 ≡ at + k = omega (arith, h) in
      rw g (behind p (s ∙ ap (λ (j : ℕ). sets out (2 * j) (flat (p ∷ []))) place))
