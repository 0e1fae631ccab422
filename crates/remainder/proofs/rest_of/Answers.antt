-- Dividing earlier leaves the same. Assumes nothing.
use Rattle.std.proofs.Common.{ℕ, ◌*◌, ◌%◌, ◌^◌, ap, ◌∙◌}
use native.Mathlib.Nat.{mod-lt}
use Rattle.std.proofs.lemmas.Nat.{mul-mod_first}
use Rattle.remainder.proofs.Sizes.{one_zero_more}
use Rattle.remainder.proofs.rest_of.Goals as goal

pub loop-zero-preserved : goal.loop-zero-preserved
loop-zero-preserved c =
    let l = c.loop-zero in
    let m = c.args.m in (
      ap (λ (r : ℕ). r * 2 % m) l.invariant.0
          ∙ mul-mod_first (c.args.n.digits * 2 ^ l._zero) 2 m
          ∙ ap (λ (r : ℕ). r % m) (one_zero_more c.args.n.digits l._zero),
      mod-lt (l.r * 2) c.requires.0,
    )
