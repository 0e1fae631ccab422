-- binary32 arithmetic under short names, each operation rounded once, and the constants of the scope by their bits, as the code's literals are read.
-- Definitions only.
use Rattle.std.specs.Prelude.{ℕ, pos, Float}
use Rattle.std.specs.Float.{binary32}
use Rattle.std.specs.Float.Ieee.{add, sub, mul, div, of_int, of_bits}

abbrev pub plus : Float → Float → Float
plus x y = add binary32 x y

abbrev pub minus : Float → Float → Float
minus x y = sub binary32 x y

abbrev pub times : Float → Float → Float
times x y = mul binary32 x y

abbrev pub over : Float → Float → Float
over x y = div binary32 x y

-- a whole number, rounded
abbrev pub whole : ℕ → Float
whole n = of_int binary32 (pos n)

abbrev pub f0 : Float
f0 = of_bits binary32 0

abbrev pub f1 : Float
f1 = of_bits binary32 0x3f80_0000

abbrev pub f2 : Float
f2 = of_bits binary32 0x4000_0000

abbrev pub f3 : Float
f3 = of_bits binary32 0x4040_0000

abbrev pub f4 : Float
f4 = of_bits binary32 0x4080_0000

abbrev pub f1000 : Float
f1000 = of_bits binary32 0x447a_0000

abbrev pub half : Float
half = of_bits binary32 0x3f00_0000

abbrev pub quarter : Float
quarter = of_bits binary32 0x3e80_0000
