-- Every list of calls has an encoding: what `kinds` and `numbers` write is read as the list, and so replayed as it. Assumes nothing.
use mathlib.Core.Path.{◌≡◌, refl, ap}
use mathlib.Core.Bool.{false}
use mathlib.Core.List.{List, [], ◌∷◌}
use Prim.Native.Nat.{ℕ, ◌≤◌}
use native.Mathlib.Omega.{arith}
use borrow.Author.Tests.{le-ltb}
use lib.ListN.{length}
use lib.Ieee.{Float}
use Rattle.path.specs.declared.FillRule.TheVariants.{NonZero, EvenOdd}
use Rattle.builder.specs.declared.Call.{Call}
use Rattle.builder.specs.declared.Call.TheVariants.{MoveTo, LineTo, QuadTo, ConicTo, CubicTo, Close, WithFillRule, AsRoundedRect}
use Rattle.replay.specs.Calls.{taken, ends, calls, kind_of, pair, kinds, numbers, AllKinds}
use Rattle.replay.specs.Replay.{run_of, replayed, Encodes}

kind_is : (c : Call) → kind_of c ≤ 8
kind_is (MoveTo p) = omega arith
kind_is (LineTo p) = omega arith
kind_is (QuadTo c p) = omega arith
kind_is (CubicTo c d p) = omega arith
kind_is Close = omega arith
kind_is (ConicTo c p w) = omega arith
kind_is (WithFillRule NonZero) = omega arith
kind_is (WithFillRule EvenOdd) = omega arith
kind_is (AsRoundedRect r w) = omega arith

all_kinds : (cs : List Call) → AllKinds (kinds cs)
unfolding kinds
all_kinds [] = tt
all_kinds (c ∷ cs) = (kind_is c, all_kinds cs)

-- a call of kind k stands here, where its numbers do
stands : (k : ℕ) (fs : List Float) → taken k ≤ length fs → k ≤ 8 → ends k fs ≡ false
stands k fs h g = rw (le-ltb 8 k g, le-ltb (length fs) (taken k) h)

read : (cs : List Call) → calls (kinds cs) (numbers cs) ≡ cs
unfolding calls kinds numbers
read [] = refl
read (MoveTo p ∷ cs) = rw (stands 0 (pair p (numbers cs)) (omega arith) (omega arith)) (ap (λ (l : List Call). MoveTo p ∷ l) (read cs))
read (LineTo p ∷ cs) = rw (stands 1 (pair p (numbers cs)) (omega arith) (omega arith)) (ap (λ (l : List Call). LineTo p ∷ l) (read cs))
read (QuadTo c p ∷ cs) = rw (stands 2 (pair c (pair p (numbers cs))) (omega arith) (omega arith)) (ap (λ (l : List Call). QuadTo c p ∷ l) (read cs))
read (CubicTo c d p ∷ cs) = rw (stands 3 (pair c (pair d (pair p (numbers cs)))) (omega arith) (omega arith)) (ap (λ (l : List Call). CubicTo c d p ∷ l) (read cs))
read (Close ∷ cs) = rw (stands 4 (numbers cs) (omega arith) (omega arith)) (ap (λ (l : List Call). Close ∷ l) (read cs))
read (ConicTo c p w ∷ cs) = rw (stands 5 (pair c (pair p (w ∷ numbers cs))) (omega arith) (omega arith)) (ap (λ (l : List Call). ConicTo c p w ∷ l) (read cs))
read (WithFillRule NonZero ∷ cs) = rw (stands 6 (numbers cs) (omega arith) (omega arith)) (ap (λ (l : List Call). WithFillRule NonZero ∷ l) (read cs))
read (WithFillRule EvenOdd ∷ cs) = rw (stands 7 (numbers cs) (omega arith) (omega arith)) (ap (λ (l : List Call). WithFillRule EvenOdd ∷ l) (read cs))
read (AsRoundedRect r w ∷ cs) = rw (stands 8 (pair r.min (pair r.max (w ∷ numbers cs))) (omega arith) (omega arith)) (ap (λ (l : List Call). AsRoundedRect r w ∷ l) (read cs))

played : (cs : List Call) (bs : List ℕ) (fs : List Float) → replayed (kinds cs) (numbers cs) bs fs ≡ run_of cs bs fs
unfolding replayed
played cs bs fs = ap (λ (l : List Call). run_of l bs fs) (read cs)

pub encoded : (cs : List Call) → Encodes cs
encoded cs = record { bytes = all_kinds cs; read = read cs; played = played cs }
