-- The kinds of the two fill rules, which take no numbers. The two laws of a kind stand here, since an impl cites of its own crate what stands in specs. Assumes nothing.
use Rattle.std.specs.Prelude.{◌≡◌, ℕ, ◌≤◌, Bool, true, false, refl}
use Rattle.std.proofs.Common.{arith}
use Rattle.replay.specs.Calls.{taken}

abbrev pub rule_kind : Bool → ℕ
rule_kind true = 7
rule_kind false = 6

pub rule_is_kind : (even_odd : Bool) → rule_kind even_odd ≤ 8
rule_is_kind true = omega arith
rule_is_kind false = omega arith

pub rule_takes : (even_odd : Bool) → taken (rule_kind even_odd) ≡ 0
rule_takes true = refl
rule_takes false = refl
