-- Every positive finite binary32 has its root in IEEE's order (`roots_in_order`). Assumes nothing.
use mathlib.Core.Path.{◌≡◌, refl, sym, subst}
use mathlib.Core.Bool.{Bool, true, false}
use Prim.Native.Nat.{suc}
use lib.Dec.{T}
use lib.Ieee.{Float, fin, binary32, of_bits, to_bits}
use lib.Ieee.Bits.{of_bits-to_bits}
use Rattle.float.specs.Small.{is_finite}
use Rattle.float.specs.Exact.{InOrder, RootsInOrder}
use Rattle.float.proofs.Signs.{above, positive}
use Rattle.float.proofs.Law.{root_in_order}
use Rattle.float.proofs.Count.{above_of_test, above_pos, positive_above, below_top}

finite_above : (x : Float) → T (above x) → T (is_finite x) → T (positive x)
unfolding is_finite
finite_above (fin false (suc m) e) a f = tt
finite_above lib.Ieee.nan a f = elim a [ ]
finite_above (lib.Ieee.inf _) a f = elim f [ ]
finite_above (fin false Prim.Native.Nat.zero e) a f = elim a [ ]
finite_above (fin true _ e) a f = elim a [ ]

pub roots_in_order : RootsInOrder
roots_in_order x fit over finite =
    let b = to_bits binary32 x in
    let back : of_bits binary32 b ≡ x = of_bits-to_bits binary32 x fit in
    let p : T (positive (of_bits binary32 b)) = subst (λ (v : Float). T (positive v)) (sym back) (finite_above x (above_of_test x (is_true over)) finite) in
    subst InOrder back (root_in_order b (above_pos b (positive_above (of_bits binary32 b) p)) (below_top b p))
  where
    is_true : {c : Bool} → T c → c ≡ true
    is_true {c = true} t = refl
    is_true {c = false} t = elim t [ ]
