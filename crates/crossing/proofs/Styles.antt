-- A line style's intervals copied to the front of an array; and what C gets of each style: its row of the table, zeros behind it. Assumes nothing.
use Rattle.std.proofs.Common.{◌≡◌, ℕ, zero, suc, ◌≤◌, ◌<◌, List, [], ◌++◌, length, take, drop, get_or, replicate, Float, refl, sym, ap, ◌∙◌}
use lib.Seq.{sets, sets-eq}
use native.Mathlib.Nat.{zero-add}
use native.Mathlib.Omega.{arith}
use Rattle.float.specs.Arith.{f0}
use Rattle.path.proofs.Styles.{rows, lengths}
use Rattle.pattern.specs.Style.{line_style}
use Rattle.crossing.specs.declared.HzLineStyle.{HzLineStyle}
use Rattle.crossing.specs.Answers.{style_out}

stored : (xs z : List Float) → length xs ≤ length z → xs ++ drop (length xs) z ≡ sets z 0 xs
stored xs z h = sym (sets-eq xs z 0 (omega (arith, h)) ∙ ap (λ (k : ℕ). xs ++ drop k z) (zero-add (length xs)))

abbrev styled : List Float → ℕ → HzLineStyle
styled vs n = record { values = vs; len = n; refused = 0 }

pub filled : (xs ys z : List Float) → length xs ≤ length z → ys ≡ xs → styled (ys ++ drop (length xs) z) (length xs) ≡ styled (sets z 0 xs) (length xs)
filled xs ys z h e = ap (λ (v : List Float). styled v (length xs)) (ap (λ (v : List Float). v ++ drop (length xs) z) e ∙ stored xs z h)

-- ---- what C gets of a style by its number

-- `given` is that style's row and length, and 58 zeros behind the row
abbrev Given : ℕ → HzLineStyle → Type 0
Given n given =
    (take 6 given.values ≡ get_or rows n []) × (drop 6 given.values ≡ replicate 58 f0) × (given.len ≡ get_or lengths n 0) × ◌≡◌ {A = ℕ} given.refused 0

pub row_out : (n : ℕ) → n < 9 → Given n (style_out (line_style n))
row_out zero h = (refl, refl, refl, refl)
row_out (suc zero) h = (refl, refl, refl, refl)
row_out (suc (suc zero)) h = (refl, refl, refl, refl)
row_out (suc (suc (suc zero))) h = (refl, refl, refl, refl)
row_out (suc (suc (suc (suc zero)))) h = (refl, refl, refl, refl)
row_out (suc (suc (suc (suc (suc zero))))) h = (refl, refl, refl, refl)
row_out (suc (suc (suc (suc (suc (suc zero)))))) h = (refl, refl, refl, refl)
row_out (suc (suc (suc (suc (suc (suc (suc zero))))))) h = (refl, refl, refl, refl)
row_out (suc (suc (suc (suc (suc (suc (suc (suc zero)))))))) h = (refl, refl, refl, refl)
row_out (suc (suc (suc (suc (suc (suc (suc (suc (suc n))))))))) h = absurd (omega arith)
