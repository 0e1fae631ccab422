-- `remainder::rem` meets its contract: `Values` has the answers, here at the operands' bits. Assumes nothing.
use mathlib.Core.Path.{sym, ◌∙◌}
use native.Mathlib.Omega.{arith}
use lib.Dec.{T}
use lib.Ieee.{binary32, fits, to_bits}
use borrow.Author.Tests.{lt-leb, le-leb}
use Rattle.std.proofs.lemmas.Float.{T_from_true}
use Rattle.float.proofs.Small.{not_a_number}
use Rattle.remainder.proofs.Values.{nan_first, nan_second, infinite_first, infinite_second, zero_second, plain_rem, turned_rem}
use Rattle.remainder.proofs.rem.Goals.{Else-is_nan}
use Rattle.remainder.proofs.rem.Goals as goal

-- what owning an `f32` tells: the format holds it
first_fits : (c : Else-is_nan) → T (fits binary32 c.args.a)
first_fits c = T_from_true _ c.well_formed.0.1

second_fits : (c : Else-is_nan) → T (fits binary32 c.args.m)
second_fits c = T_from_true _ c.well_formed.1.0.1

pub returns-then-is_nan : goal.returns-then-is_nan
returns-then-is_nan c = nan_first c.args.a c.args.m (sym c.is_nan.ensures.value ∙ c.if-is_nan.true)

pub returns-then-is_nan-2 : goal.returns-then-is_nan-2
returns-then-is_nan-2 c = nan_second c.args.a c.args.m (sym c.is_nan-2.ensures.value ∙ c.if-is_nan-2.true)

pub returns-then-x-ge2139095040 : goal.returns-then-x-ge2139095040
returns-then-x-ge2139095040 c =
    let s = c.before.before.before in
    not_a_number ∙ infinite_first c.args.a c.args.m (first_fits s) c.if-is_nan.ensures.not_nan c.if-x-ge2139095040.true

pub returns-then-y-eq0 : goal.returns-then-y-eq0
returns-then-y-eq0 c =
    let s = c.before.before.before.before in
    not_a_number
    ∙ zero_second c.args.a c.args.m (first_fits s) c.if-is_nan.ensures.not_nan c.if-x-ge2139095040.false (second_fits s) c.if-is_nan-2.ensures.not_nan c.if-y-eq0.true

pub returns-then-y-ge2139095040 : goal.returns-then-y-ge2139095040
returns-then-y-ge2139095040 c =
    let s = c.before.before.before.before.before in
    infinite_second c.args.a c.args.m (first_fits s) c.if-is_nan.ensures.not_nan c.if-x-ge2139095040.false (second_fits s) c.if-is_nan-2.ensures.not_nan
    c.if-y-ge2139095040.true

pub returns-then-n-lt2147483648 : goal.returns-then-n-lt2147483648
returns-then-n-lt2147483648 c =
    let s = c.before.before.before.before.before.before.before in
    let r = c.rest_pattern-r in
    plain_rem c.args.a c.args.m r.result (first_fits s) (second_fits s) c.if-is_nan.ensures.not_nan c.if-is_nan-2.ensures.not_nan c.if-x-ge2139095040.false
    (omega (arith, c.if-y-eq0.false)) c.if-y-ge2139095040.false r.ensures.0 r.ensures.1 (lt-leb 2147483648 (to_bits binary32 c.args.a) c.if-n-lt2147483648.true)

pub returns-else-n-lt2147483648 : goal.returns-else-n-lt2147483648
returns-else-n-lt2147483648 c =
    let s = c.before.before.before.before.before.before.before in
    let r = c.rest_pattern-r in
    turned_rem c.args.a c.args.m r.result (first_fits s) (second_fits s) c.if-is_nan.ensures.not_nan c.if-is_nan-2.ensures.not_nan c.if-x-ge2139095040.false
    (omega (arith, c.if-y-eq0.false)) c.if-y-ge2139095040.false r.ensures.0 r.ensures.1 (le-leb 2147483648 (to_bits binary32 c.args.a) c.if-n-lt2147483648.false)
