-- Lists, where a loop goes through one by its index, and where values are stored in one. Assumes nothing.
use mathlib.Core.Path.{◌≡◌, sym, ◌∙◌, ap}
use Prim.Native.Nat.{ℕ, ◌+◌, ◌≤◌, ◌<◌}
use native.Mathlib.Nat.{zero-add}
use native.Mathlib.Numerals.{add-one}
use native.Mathlib.Omega.{arith}
use mathlib.Core.List.{List, ◌∷◌, ◌++◌}
use lib.ListN.{length, get_or, take, drop, length-append}
use lib.Seq.{drop-cons, sets, sets-eq, take_at, length-take-le}

pub drop-next : {A : Type 0} (xs : List A) (i : ℕ) (d : A) → i < length xs → drop i xs ≡ get_or xs i d ∷ drop (i + 1) xs
drop-next xs i d h = drop-cons xs i d h ∙ ap (λ (k : ℕ). get_or xs i d ∷ drop k xs) (sym (add-one i))

-- the front of a buffer, up to the end of what is stored in it
pub take-stored : {A : Type 0} (l : List A) (i : ℕ) (vs : List A) (n : ℕ) → n ≡ i + length vs → n ≤ length l → take n (sets l i vs) ≡ take i l ++ vs
take-stored l i vs n e h =
    let fit : i + length vs ≤ length l = omega arith in
    rw (sets-eq vs l i fit)
    (take_at (take i l ++ vs) (drop (i + length vs) l) n
    (length-append (take i l) vs ∙ rw (length-take-le i l (omega arith)) (sym e)))

-- the same, of what is stored from the first place on
pub front : {A : Type 0} (l vs : List A) (n : ℕ) → n ≡ length vs → length vs ≤ length l → take n (sets l 0 vs) ≡ vs
front l vs n e h = take-stored l 0 vs n (e ∙ sym (zero-add (length vs))) (omega (arith, e, h))
