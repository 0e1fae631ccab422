-- `root::subnormal_parts` meets its contract. Assumes nothing.
use Prim.Native.Nat.{ℕ}
use native.Mathlib.Omega.{arith}
use Rattle.float.proofs.Normal.{Digits, digits, low_normal}
use Rattle.root.proofs.subnormal_parts.Goals.{Start}
use Rattle.root.proofs.subnormal_parts.Goals as goal

of : (c : Start) → (j : ℕ) × Digits c.args.b j
of c = digits c.args.b c.requires.0 c.requires.1

pub overflow_sub-shift : goal.overflow_sub-shift
overflow_sub-shift c = let d = (of c).1 in omega (arith, d.0, d.1)

pub returns : goal.returns
returns c = low_normal c.args.b (of c).0 c.requires.1 (of c).1
