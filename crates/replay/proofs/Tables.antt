-- The call of each kind, and what a call answers. Assumes nothing.
use mathlib.Core.Path.{◌≡◌, refl}
use mathlib.Core.Bool.{false}
use mathlib.Core.List.{List}
use Prim.Native.Nat.{ℕ, zero, suc, ◌≤◌}
use native.Mathlib.Omega.{arith}
use Rattle.std.proofs.Common.{rules}
use lib.ListN.{take}
use lib.Ieee.{Float}
use Rattle.std.proofs.lemmas.List.{get_or-take}
use Rattle.builder.specs.declared.PathBuilder.{PathBuilder}
use Rattle.builder.specs.declared.Call.{Call}
use Rattle.builder.specs.Build.{outcome, settled, set_by, buffered, called}
use Rattle.replay.specs.Calls.{taken, call_of}

-- a call reads the numbers that its kind takes, and none behind them
pub its_own : (k : ℕ) → k ≤ 8 → (fs : List Float) → call_of k (take (taken k) fs) ≡ call_of k fs
its_own zero h fs = search (rules, get_or-take)
its_own (suc zero) h fs = search (rules, get_or-take)
its_own (suc (suc zero)) h fs = search (rules, get_or-take)
its_own (suc (suc (suc zero))) h fs = search (rules, get_or-take)
its_own (suc (suc (suc (suc zero)))) h fs = refl
its_own (suc (suc (suc (suc (suc zero))))) h fs = search (rules, get_or-take)
its_own (suc (suc (suc (suc (suc (suc zero)))))) h fs = refl
its_own (suc (suc (suc (suc (suc (suc (suc zero))))))) h fs = refl
its_own (suc (suc (suc (suc (suc (suc (suc (suc zero)))))))) h fs = search (rules, get_or-take)
its_own (suc (suc (suc (suc (suc (suc (suc (suc (suc k))))))))) h fs = absurd (omega (arith, h))

-- what a call that takes no buffer answers and leaves
pub told_called : (b : PathBuilder) (vs : List ℕ) (fs : List Float) (c : Call) → buffered c ≡ false → outcome (settled (set_by b c)) vs fs ≡ called b vs fs c
unfolding called
told_called b vs fs c e = rw e
