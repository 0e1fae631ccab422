-- The table of line styles by number ("Dash" of the scope). Definitions only.
use Rattle.std.specs.Prelude.{ℕ, List, [], ◌∷◌, get_or, Float}
use Rattle.std.specs.Float.{binary32}
use Rattle.std.specs.Float.Ieee.{of_bits}
use Rattle.float.specs.Arith.{f1, f2, f4}

abbrev pub f6 : Float
f6 = of_bits binary32 0x40c0_0000

abbrev pub f8 : Float
f8 = of_bits binary32 0x4100_0000

abbrev pub f12 : Float
f12 = of_bits binary32 0x4140_0000

abbrev pub f24 : Float
f24 = of_bits binary32 0x41c0_0000

-- 0 none; 1: 12 6; 2: 6 6; 3: 2 4; 4: 12 4 2 4; 5: 12 4 2 4 2 4; 6: 8; 7: 4 2 1; 8: 24 8
abbrev pub styles : List (List Float)
styles =
    []
    ∷ (f12 ∷ f6 ∷ [])
    ∷ (f6 ∷ f6 ∷ [])
    ∷ (f2 ∷ f4 ∷ [])
    ∷ (f12 ∷ f4 ∷ f2 ∷ f4 ∷ [])
    ∷ (f12 ∷ f4 ∷ f2 ∷ f4 ∷ f2 ∷ f4 ∷ [])
    ∷ (f8 ∷ [])
    ∷ (f4 ∷ f2 ∷ f1 ∷ [])
    ∷ (f24 ∷ f8 ∷ [])
    ∷ []

-- the intervals of style n; none for a number that is no style
abbrev pub style_of : ℕ → List Float
style_of n = get_or styles n []
