-- `float::abs` meets its contract. Assumes nothing.
use mathlib.Core.Path.{sym, ap, ◌∙◌}
use Prim.Native.Nat.{◌%◌, ◌^◌}
use lib.Dec.{T}
use lib.Ieee.{binary32, is_nan, fits, to_bits}
use lib.Ieee.Bits.{nan_bits_is}
use Rattle.std.proofs.lemmas.Float.{T_from_true, T_from_false}
use Rattle.float.proofs.Small.{abs_nan, abs_of_lem, abs_no_nan}
use Rattle.float.proofs.abs.Goals.{Else-is_nan}
use Rattle.float.proofs.abs.Goals as goal

fits_by : (c : Else-is_nan) → T (fits binary32 c.args.x)
fits_by c = T_from_true _ c.well_formed.0.1

pub returns-then-is_nan : goal.returns-then-is_nan
returns-then-is_nan c = abs_nan c.args.x (sym c.is_nan.ensures.value ∙ c.if-is_nan.true)

pub float_from_bits-result : goal.float_from_bits-result
float_from_bits-result c =
    let x = c.args.x in
    T_from_false _ (nan_bits_is binary32 (to_bits binary32 x % 2 ^ 31) ∙ ap is_nan (abs_of_lem x (fits_by c)) ∙ abs_no_nan x ∙ sym c.is_nan.ensures.value ∙ c.if-is_nan.false)

pub returns : goal.returns
returns c = abs_of_lem c.args.x (fits_by c)
