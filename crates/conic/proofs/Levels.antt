-- The weights of the levels: those of a quarter of a circle (`levels_quarter`), read one level down (`levels_first`, `levels_next`), and kept (`kept_none`, `kept_one`, `kept_down`). Assumes nothing.
use mathlib.Core.Path.{◌≡◌, refl, sym, ap, ◌∙◌, subst}
use mathlib.Core.List.{List, [], ◌∷◌}
use Prim.Native.Nat.{ℕ, zero, suc, ◌-◌, ◌≤◌}
use native.Mathlib.Omega.{arith}
use lib.ListN.{get_or, set, drop}
use lib.Seq.{get_or-set_other, drop-set-lt}
use Rattle.std.proofs.lemmas.List.{get_or-drop, drop-drop}
use native.Mathlib.Nat.{add-zero}
use native.Mathlib.Numerals.{add-one}
use lib.Ieee.{Float, binary32, add, mul, of_bits, to_bits, fits}
use lib.Ieee.Bits.{of_bits-to_bits}
use lib.Dec.{T}
use mathlib.Core.Bool.{true}
use Rattle.std.specs.Prelude.{Option, Some, None}
use Rattle.float.specs.Root.{square_root}
use Rattle.halves.specs.Conic.{half_weight}
use Rattle.conic.specs.Lay.{Levels, KeptLevels}

-- a weight that is known is v
abbrev Is : Option Float → Float → Type 0
Is g v = (u : Float) → g ≡ Some u → u ≡ v

unknown : (v : Float) → Is None v
unknown v u e = absurd (cc)

known : (g v : Float) → g ≡ v → Is (Some g) v
known g v e u h = cc

module _ (w : Float) (ws : List (Option Float)) where
  pub levels_first : (k : ℕ) → 1 ≤ k → Levels k w ws → Is (get_or ws (k - 1) None) (half_weight w)
  levels_first zero l h = absurd (omega (arith, l))
  levels_first (suc k) l h = let p : suc k - 1 ≡ k = omega arith in rw p h.0

  pub levels_next : (k : ℕ) (u : Float) → 1 ≤ k → u ≡ half_weight w → Levels k w ws → Levels (k - 1) u ws
  levels_next zero u l e h = absurd (omega (arith, l))
  levels_next (suc k) u l e h = let p : suc k - 1 ≡ k = omega arith in rw (p, e) h.1

-- ---- a weight is kept: none, that of the halves, those of the levels below

pub kept_none : (k : ℕ) (w : Float) (ws : List (Option Float)) → Levels k w ws → KeptLevels k w ws ws
kept_none k w ws h = record { below = h; above = refl }

-- a store behind the levels that are asked for
levels_set : (j : ℕ) (v : Float) (ws : List (Option Float)) (p : ℕ) (u : Option Float) → j ≤ p → Levels j v ws → Levels j v (set ws p u)
levels_set zero v ws p u l h = tt
levels_set (suc j) v ws p u l h =
    let ne : j ≡ p → ⊥ = λ (e : j ≡ p). omega (arith, l, e) in
    (rw (get_or-set_other ws p j u None ne) h.0, levels_set j (half_weight v) ws p u (omega (arith, l)) h.1)

-- what a store left: a place behind the end holds nothing
stored : (ws : List (Option Float)) (j : ℕ) (u : Float) → Is (get_or (set ws j (Some u)) j None) u
stored [] j u v e = absurd (cc)
stored (w ∷ ws) zero u v e = cc
stored (w ∷ ws) (suc j) u v e = stored ws j u v e

pub kept_one : (k : ℕ) (w u : Float) (ws : List (Option Float)) → 1 ≤ k → u ≡ half_weight w → Levels k w ws → KeptLevels k w ws (set ws (k - 1) (Some u))
kept_one zero w u ws l e h = absurd (omega (arith, l))
kept_one (suc j) w u ws l e h =
    let p : suc j - 1 ≡ j = omega arith in
    rw p (record {
      below = (λ (v : Float) (g : get_or (set ws j (Some u)) j None ≡ Some v). stored ws j u v g ∙ e, levels_set j (half_weight w) ws j (Some u) (omega arith) h.1);
      above = drop-set-lt (suc j) ws j (Some u) (omega arith);
    })

pub kept_down : (k : ℕ) (w u : Float) {ws ws' ws'' : List (Option Float)} → 1 ≤ k → u ≡ half_weight w → KeptLevels k w ws ws' → KeptLevels (k - 1) u ws' ws'' → KeptLevels k w ws ws''
kept_down zero w u l e p q = absurd (omega (arith, l))
kept_down (suc j) w u {ws} {ws'} {ws''} l e p q =
    let r : suc j - 1 ≡ j = omega arith in
    let s : KeptLevels j (half_weight w) ws' ws'' = rw (← r, ← e) q in
    let g : get_or ws'' j None ≡ get_or ws' j None = simp (get_or-drop, add-zero) at (ap (λ (m : List (Option Float)). get_or m 0 None) s.above) in
    let d : (m : List (Option Float)) → drop (suc j) m ≡ drop 1 (drop j m) = λ (m : List (Option Float)). ap (λ (n : ℕ). drop n m) (sym (add-one j)) ∙ sym (drop-drop 1 j m) in
    record {
      below = (rw g p.below.0, s.below);
      above = d ws'' ∙ ap (drop 1) s.above ∙ sym (d ws') ∙ p.above;
    }

-- ---- a quarter of a circle: the root of a half, and the weights of its levels

abbrev pub quarter : Float
quarter = of_bits binary32 0x3f35_04f3

abbrev first : Float
first = of_bits binary32 0x3f6c_835f

abbrev second : Float
second = of_bits binary32 0x3f7b_14bf

abbrev third : Float
third = of_bits binary32 0x3f7e_c46d

abbrev fourth : Float
fourth = of_bits binary32 0x3f7f_b10f

is_first : first ≡ half_weight quarter
unfolding half_weight square_root of_bits add mul
is_first = refl

is_second : second ≡ half_weight first
unfolding half_weight square_root of_bits add mul
is_second = refl

is_third : third ≡ half_weight second
unfolding half_weight square_root of_bits add mul
is_third = refl

is_fourth : fourth ≡ half_weight third
unfolding half_weight square_root of_bits add mul
is_fourth = refl

abbrev pub quarter_levels : List (Option Float)
quarter_levels = None ∷ None ∷ Some fourth ∷ Some third ∷ Some second ∷ Some first ∷ []

pub levels_quarter : Levels 6 quarter quarter_levels
levels_quarter =
    let two : second ≡ half_weight (half_weight quarter) = is_second ∙ ap half_weight is_first in
    let three : third ≡ half_weight (half_weight (half_weight quarter)) = is_third ∙ ap half_weight two in
    let four : fourth ≡ half_weight (half_weight (half_weight (half_weight quarter))) = is_fourth ∙ ap half_weight three in
    (known _ _ is_first, (known _ _ two, (known _ _ three, (known _ _ four, (unknown _, (unknown _, tt))))))

-- by its bits
pub levels_of : (w : Float) → fits binary32 w ≡ true → to_bits binary32 w ≡ 0x3f35_04f3 → Levels 6 w quarter_levels
levels_of w f e =
    let q : quarter ≡ w = ap (of_bits binary32) (sym e) ∙ of_bits-to_bits binary32 w (subst T (sym f) tt) in
    rw (← q) levels_quarter
