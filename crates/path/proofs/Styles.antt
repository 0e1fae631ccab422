-- No line style is long; and the table written out as rows of six, zeros behind the intervals, with their lengths. Assumes nothing.
use Rattle.std.proofs.Common.{◌≡◌, ℕ, zero, suc, ◌≤◌, ◌<◌, List, [], ◌∷◌, length, get_or, replicate, Float, refl, arith}
use lib.Seq.{sets}
use Rattle.float.specs.Arith.{f0, f1, f2, f4}
use Rattle.path.specs.Style.{f6, f8, f12, f24, style_of}

pub most_six : (n : ℕ) → length (style_of n) ≤ 6
most_six zero = omega arith
most_six (suc zero) = omega arith
most_six (suc (suc zero)) = omega arith
most_six (suc (suc (suc zero))) = omega arith
most_six (suc (suc (suc (suc zero)))) = omega arith
most_six (suc (suc (suc (suc (suc zero))))) = omega arith
most_six (suc (suc (suc (suc (suc (suc zero)))))) = omega arith
most_six (suc (suc (suc (suc (suc (suc (suc zero))))))) = omega arith
most_six (suc (suc (suc (suc (suc (suc (suc (suc zero)))))))) = omega arith
most_six (suc (suc (suc (suc (suc (suc (suc (suc (suc n))))))))) = omega arith

-- ---- the rows, as C gets them

abbrev pub rows : List (List Float)
rows =
    (f0 ∷ f0 ∷ f0 ∷ f0 ∷ f0 ∷ f0 ∷ [])
    ∷ (f12 ∷ f6 ∷ f0 ∷ f0 ∷ f0 ∷ f0 ∷ [])
    ∷ (f6 ∷ f6 ∷ f0 ∷ f0 ∷ f0 ∷ f0 ∷ [])
    ∷ (f2 ∷ f4 ∷ f0 ∷ f0 ∷ f0 ∷ f0 ∷ [])
    ∷ (f12 ∷ f4 ∷ f2 ∷ f4 ∷ f0 ∷ f0 ∷ [])
    ∷ (f12 ∷ f4 ∷ f2 ∷ f4 ∷ f2 ∷ f4 ∷ [])
    ∷ (f8 ∷ f0 ∷ f0 ∷ f0 ∷ f0 ∷ f0 ∷ [])
    ∷ (f4 ∷ f2 ∷ f1 ∷ f0 ∷ f0 ∷ f0 ∷ [])
    ∷ (f24 ∷ f8 ∷ f0 ∷ f0 ∷ f0 ∷ f0 ∷ [])
    ∷ []

abbrev pub lengths : List ℕ
lengths = 0 ∷ 2 ∷ 2 ∷ 2 ∷ 4 ∷ 6 ∷ 1 ∷ 3 ∷ 2 ∷ []

-- they are the definition's styles, filled up with zeros, and their lengths
pub row_is : (n : ℕ) → n < 9 → (get_or rows n [] ≡ sets (replicate 6 f0) 0 (style_of n)) × (get_or lengths n 0 ≡ length (style_of n))
row_is zero h = (refl, refl)
row_is (suc zero) h = (refl, refl)
row_is (suc (suc zero)) h = (refl, refl)
row_is (suc (suc (suc zero))) h = (refl, refl)
row_is (suc (suc (suc (suc zero)))) h = (refl, refl)
row_is (suc (suc (suc (suc (suc zero))))) h = (refl, refl)
row_is (suc (suc (suc (suc (suc (suc zero)))))) h = (refl, refl)
row_is (suc (suc (suc (suc (suc (suc (suc zero))))))) h = (refl, refl)
row_is (suc (suc (suc (suc (suc (suc (suc (suc zero)))))))) h = (refl, refl)
row_is (suc (suc (suc (suc (suc (suc (suc (suc (suc n))))))))) h = absurd (omega arith)
