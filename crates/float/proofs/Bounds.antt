-- Demand 3's bounds on N hold of the segment count of every float. Assumes nothing.
use mathlib.Core.Path.{◌≡◌, refl}
use mathlib.Core.Bool.{true, false}
use Prim.Native.Nat.{ℕ, zero, suc, ◌-◌, ◌*◌, ◌<◌}
use native.Mathlib.Omega.{arith}
use lib.Dec.{T}
use lib.Ieee.{Float, nan, inf, fin, binary32, fits, lt}
use Rattle.float.specs.Arith.{f0}
use Rattle.float.specs.Count.{segment_count, Under, Nearly, Counted}
use Rattle.float.proofs.Signs.{Counts}
use Rattle.float.proofs.Count.{counts, above_of_test, none_of_test}

above : (s : Float) (n : ℕ) → Counts s n → lt f0 s ≡ true → Under ((n - 1) * (n - 1)) s
above nan n l h = above_of_test nan h
above (inf true) n l h = above_of_test (inf true) h
above (inf false) n l h = tt
above (fin true m e) n l h = above_of_test (fin true m e) h
above (fin false zero e) n l h = absurd (above_of_test (fin false zero e) h)
above (fin false (suc m) e) n l h = l.needed tt

near : (s : Float) (n : ℕ) → Counts s n → lt f0 s ≡ true → n < 1000 → Nearly s (n * n)
near nan n l h g = above_of_test nan h
near (inf true) n l h g = above_of_test (inf true) h
near (inf false) n l h g = omega (arith, l.infinite refl)
near (fin true m e) n l h g = above_of_test (fin true m e) h
near (fin false zero e) n l h g = absurd (above_of_test (fin false zero e) h)
near (fin false (suc m) e) n l h g = l.enough tt g

pub counted : (s : Float) → T (fits binary32 s) → Counted s (segment_count s)
counted s f =
    let l : Counts s (segment_count s) = counts s f in
    record { one = l.least; most = l.most; flat = λ h. l.none (none_of_test s h); above = above s _ l; near = near s _ l }
