-- The laws of the search and of the walk that the loops follow, over any points. Assumes nothing.
use mathlib.Core.Path.{◌≡◌, refl, sym, ap, ap₂, ◌∙◌}
use mathlib.Core.Bool.{Bool, true, false}
use mathlib.Core.List.{List, [], ◌∷◌}
use Prim.Native.Nat.{ℕ, zero, suc, ◌+◌, ◌-◌, ◌/◌, ◌%◌, ◌≤◌, ◌<◌}
use native.Mathlib.Omega.{arith}
use native.Mathlib.Numerals.{add-one}
use lib.ListN.{length}
use lib.Ieee.{Float}
use Rattle.vec2.specs.declared.Vec2.{Vec2}
use Rattle.vec2.specs.Points.{points_in, point_at}
use Rattle.vec2.proofs.Points.{points_in-at}
use Rattle.turns.specs.declared.Turn.{Turn}
use Rattle.turns.specs.declared.Tally.{Tally}
use Rattle.turns.specs.declared.Reason.{Reason}
use Rattle.turns.specs.declared.Reason.TheVariants.{Opposing}
use Rattle.turns.specs.declared.Side.{Side}
use Rattle.turns.specs.declared.Side.TheVariants.{Straight, Left, Right}
use Rattle.turns.specs.Turn.{start, opposed, counted_as, counted, ended}
use Rattle.turns.specs.Walk.{Plane, Junction, at, seek, next, junction_at, unless_same, junctions_from, judge}
use Rattle.turns.specs.Plane.{floats}
use Rattle.turns.proofs.Never.{next_differs}

-- a point that is read from the buffer is that point of the list
pub read : (fs : List Float) (k : ℕ) (p : Vec2) → k < length fs / 2 → p ≡ point_at fs k → p ≡ at floats (points_in fs) k
read fs k p h e = e ∙ sym (points_in-at fs k (omega arith))

abbrev tally : Side → ℕ → ℕ → Tally
tally s l r = record { side = s; left = l; right = r }

-- the tally of no turn, by its fields
pub is_start : (t : Tally) → t.side ≡ Straight → t.left ≡ 0 → t.right ≡ 0 → t ≡ start
is_start t s l r = ap (λ (x : Side). tally x t.left t.right) s ∙ ap₂ (tally Straight) l r

-- whatever its side, a turn adds at most three quadrants to either sum
counted_as_lem : (t : Tally) (side : Side) (q : ℕ) → q ≤ 3 → ((counted_as side t q).left ≤ t.left + 3) × ((counted_as side t q).right ≤ t.right + 3)
counted_as_lem t Straight q h = (omega arith, omega arith)
counted_as_lem t Left q h = (omega arith, omega arith)
counted_as_lem t Right q h = (omega arith, omega arith)

pub counted_most : (t u : Tally) (turned : Turn) → u ≡ counted t turned → turned.advance ≤ 3 → (u.left ≤ t.left + 3) × (u.right ≤ t.right + 3)
counted_most t u turned e h = rw e (counted_as_lem t turned.side turned.advance h)

module _ {P : Type 0} (g : Plane P) (ps : List P) (n : ℕ) (e : length ps ≡ n) where
  -- ---- the search: `left` more may be passed over
  module _ (b : P) where
    pub seek_stop : (left k : ℕ) (s : Bool) → s ≡ false → k ≡ seek g ps left s b k
    unfolding seek
    seek_stop zero k s h = refl
    seek_stop (suc left) k s h = sym (ap (λ (z : Bool). seek g ps (suc left) z b k) h)

    pub seek_end : (left k : ℕ) (s : Bool) → left ≤ 0 → k ≡ seek g ps left s b k
    unfolding seek
    seek_end zero k s h = refl
    seek_end (suc left) k s h = absurd (omega arith)

    pub seek_pass : (left k k' : ℕ) (s : Bool) → 0 < left → s ≡ true → k' ≡ (k + 1) % n → seek g ps (left - 1) (g.same (at g ps k') b) b k' ≡ seek g ps left s b k
    unfolding seek
    seek_pass zero k k' s h t q = absurd (omega arith)
    seek_pass (suc left) k k' s h t q =
        let one : suc left - 1 ≡ left = omega arith in
        rw (one, q, ← e) (sym (ap (λ (z : Bool). seek g ps (suc left) z b k) t))

  -- ---- the walk
  -- the junctions of the edges from i on
  unfoldable pub ahead : ℕ → List (Junction P)
  ahead i = junctions_from g ps i (n - i)

  ahead_next : (i : ℕ) → i < n → ahead i ≡ unless_same g ps (g.same (at g ps i) (at g ps ((i + 1) % n))) (junction_at g ps i) (ahead (i + 1))
  unfolding ahead junctions_from
  ahead_next i h =
      let one : n - i ≡ suc (n - (i + 1)) = omega arith in
      rw (one, add-one, e)

  ahead_none : (i : ℕ) → n ≤ i → ahead i ≡ []
  unfolding ahead junctions_from
  ahead_none i h = let z : n - i ≡ 0 = omega arith in rw z

  -- a turn of the loop: judging the junctions from i on gives r, and the edge from i goes from a to b, the point at j
  module _ (t : Tally) (i j : ℕ) (h : i < n) (isJ : j ≡ (i + 1) % n) (r : Reason) (inv : judge g t (ahead i) ≡ r)
      (a b : P) (is_a : a ≡ at g ps i) (is_b : b ≡ at g ps j) where
    at_edge : (s : Bool) → g.same a b ≡ s → judge g t (unless_same g ps s (junction_at g ps i) (ahead (i + 1))) ≡ r
    at_edge s q =
        let same : g.same (at g ps i) (at g ps ((i + 1) % n)) ≡ s = rw (← is_a, ← isJ, ← is_b) q in
        sym (ap (judge g t) (ahead_next i h ∙ ap (λ (z : Bool). unless_same g ps z (junction_at g ps i) (ahead (i + 1))) same)) ∙ inv

    pub on_none : g.same a b ≡ true → judge g t (ahead (i + 1)) ≡ r
    on_none s = at_edge true s

    module _ (two : 2 ≤ n) (long : g.same a b ≡ false) (m : ℕ) (isM : m ≡ (i + 2) % n) (k : ℕ) (isK : k ≡ next g ps b m) (c : P) (isC : c ≡ at g ps k) where
      here : Junction P
      here = record { index = j; a = a; b = b; c = c }

      is_here : junction_at g ps i ≡ here
      unfolding junction_at here
      is_here = rw (e, ← isJ, ← is_a, ← is_b, ← isM, ← isK, ← isC)

      at_here : judge g t (here ∷ ahead (i + 1)) ≡ r
      at_here = sym (ap (λ (z : Junction P). judge g t (z ∷ ahead (i + 1))) is_here) ∙ at_edge false long

      differs : g.same c b ≡ false
      differs =
          rw (isC, isK, isM, ← e)
          (next_differs g ps i (omega arith) (omega arith) b (rw (← is_a) long))

      module _ (turned : Turn) (isTurn : turned ≡ g.turn a b c) where
        pub on_opposed : opposed t.side turned.side ≡ true → Opposing j ≡ r
        unfolding judge here
        on_opposed o = sym (rw (differs, ← isTurn, o)) ∙ at_here

        pub on_counted : (u : Tally) → opposed t.side turned.side ≡ false → u ≡ counted t turned → judge g u (ahead (i + 1)) ≡ r
        unfolding judge here
        on_counted u o q = rw q (sym (rw (differs, ← isTurn, o)) ∙ at_here)

  pub on_end : (t : Tally) (i : ℕ) → n ≤ i → (r : Reason) → judge g t (ahead i) ≡ r → ended t ≡ r
  unfolding judge
  on_end t i h r inv = sym (ap (judge g t) (ahead_none i h)) ∙ inv
