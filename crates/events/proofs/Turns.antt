-- The laws by which a proof uses `cut_from`: where the walk of a leg goes no further, and one turn of it. The position grows at each turn. Assumes nothing.
use mathlib.Core.Path.{◌≡◌, refl, sym, ◌∙◌, ap}
use mathlib.Core.Logic.{◌⊎◌, inl, inr}
use Prim.Native.Nat.{ℕ, zero, suc, ◌+◌, ◌-◌, ◌%◌, ◌≤◌, ◌<◌}
use lib.ListN.{length}
use native.Mathlib.Nat.{mod-lt, mod_self, mod-eq_of_lt}
use native.Mathlib.Omega.{arith}
use mathlib.Core.Bool.{Bool, true, false, not, ◌&&◌, true≢false}
use mathlib.Core.List.{List, [], ◌∷◌}
use lib.Dec.{T}
use lib.Ieee.{Float, binary32, lt, le, fits}
use lib.Ieee.Fits.{add-fits}
use Rattle.events.specs.declared.Leg.{Leg}
use Rattle.events.specs.declared.Event.{Event}
use Rattle.float.specs.Arith.{plus, minus}
use Rattle.events.specs.declared.Place.{Place}
use Rattle.events.specs.Walk.{resting, rested, goes, onward, tells, finish, Told, cut_from}
use Rattle.events.specs.Zeros.{after, zero_at, above, first_above}
use Rattle.events.proofs.Loops.{traced_stop, traced_step}
use Rattle.float.specs.Rank.{rise}
use Rattle.float.proofs.Rank.{rises, lt_second, sub_second, rise_small}

pub both_left : (a b : Bool) → a && b ≡ true → a ≡ true
both_left true b h = refl
both_left false b h = h

pub both_second : (a b : Bool) → a && b ≡ true → b ≡ true
both_second true b h = h
both_second false b h = absurd (true≢false (sym h))

pub both_right : (a b : Bool) → a && not b ≡ true → b ≡ false
both_right true true h = sym h
both_right true false h = refl
both_right false b h = absurd (true≢false (sym h))

pub goes_yes : (a b : Bool) → a ≡ true → b ≡ false → a && not b ≡ true
goes_yes a b p q = rw (p, q)

pub goes_no : (a b : Bool) → (a ≡ false) ⊎ (b ≡ true) → a && not b ≡ false
goes_no a b (inl p) = rw p
goes_no true b (inr q) = rw q
goes_no false b (inr q) = refl

abbrev pub telling : Event → Told → Told
telling e c = record { events = e ∷ c.events; pos = c.pos }

abbrev pub last : Leg → Place → Told
last g s = record { events = resting g s.pos s.t ∷ []; pos = rested g s.pos s.t }

-- a turn makes the position grow
pub grows : (cs : List Float) (g : Leg) (s : Place) → T (fits binary32 s.t) → goes cs g s ≡ true → rise (plus s.t s.pos.left) < rise s.t
grows cs g s f h =
    let t = s.t in
    let l = s.pos.left in
    rises t (plus t l) f (add-fits binary32 t l) (sub_second g.length t (lt_second l (minus g.length t) (both_left (lt l (minus g.length t)) (not (le (plus t l) t)) h)))
    (both_right (lt l (minus g.length t)) (le (plus t l) t) h)

module _ (cs : List Float) (g : Leg) where
  pub cut_stop : (s : Place) → goes cs g s ≡ false → cut_from cs g s ≡ last g s
  unfolding cut_from
  cut_stop s h = ap (finish cs g) (traced_stop (goes cs g) (onward cs g) (tells cs g) s h)

  pub cut_step : (s : Place) → T (fits binary32 s.t) → goes cs g s ≡ true → cut_from cs g s ≡ telling (tells cs g s) (cut_from cs g (onward cs g s))
  unfolding cut_from
  cut_step s f h =
      ap (finish cs g)
      (traced_step (goes cs g) (onward cs g) (tells cs g) (λ z. T (fits binary32 z.t)) (λ z. rise z.t)
      (λ z k e. add-fits binary32 z.t z.pos.left) (λ z k e. grows cs g z k e) s f (rise_small s.t) h)

-- ---- the cycle's index

pub after_in : (i n : ℕ) → i < n → (i + 1) % n < n
after_in i n h = mod-lt (i + 1) (omega arith)

pub next_index : (i n : ℕ) → i + 1 < n → i + 1 ≡ (i + 1) % n
next_index i n h = sym (mod-eq_of_lt h)

pub first_index : (i n : ℕ) → i < n → n ≤ i + 1 → 0 ≡ (i + 1) % n
first_index i n h g = let e : n ≡ i + 1 = omega arith in rw e (sym (mod_self (i + 1)))

-- ---- zeros passed over

pub above_in : (cs : List Float) (k : ℕ) (b : Bool) (i : ℕ) → i < length cs → above cs k b i < length cs
unfolding above
above_in cs zero b i h = h
above_in cs (suc k) false i h = h
above_in cs (suc k) true i h = above_in cs k (zero_at cs (after cs i)) (after cs i) (after_in i (length cs) h)

above_none : (cs : List Float) (b : Bool) (i : ℕ) → i ≡ above cs zero b i
unfolding above
above_none cs b i = refl

above_this : (cs : List Float) (m i : ℕ) → i ≡ above cs (suc m) false i
unfolding above
above_this cs m i = refl

above_by : (cs : List Float) (i m : ℕ) (b : Bool) → b ≡ false → i ≡ above cs m b i
above_by cs i m true e = absurd (true≢false e)
above_by cs i zero false e = above_none cs false i
above_by cs i (suc m) false e = above_this cs m i

-- an interval that is not 0 is not passed over
pub above_here : (cs : List Float) (i : ℕ) → zero_at cs i ≡ false → i ≡ first_above cs i
above_here cs i h = above_by cs i (length cs) (zero_at cs i) h

-- one more is passed over
above_next : (cs : List Float) (k i : ℕ) → zero_at cs i ≡ true → above cs (suc k) (zero_at cs i) i ≡ above cs k (zero_at cs (after cs i)) (after cs i)
unfolding above
above_next cs k i h = rw h

-- one 0 is passed over, and what stands behind it is none
pub above_second : (cs : List Float) (i : ℕ) → i < length cs → zero_at cs i ≡ true → zero_at cs (after cs i) ≡ false → after cs i ≡ first_above cs i
above_second cs i l z h =
    let n : suc (length cs - 1) ≡ length cs = omega (arith, l) in
    above_by cs (after cs i) (length cs - 1) (zero_at cs (after cs i)) h
    ∙ sym (above_next cs (length cs - 1) i z)
    ∙ ap (λ (k : ℕ). above cs k (zero_at cs i) i) n

-- all from i on are passed over, up to j
above_up : (cs : List Float) (d i j k : ℕ) → i + d ≡ j → j < length cs → d ≤ k → ((m : ℕ) → i ≤ m → m < j → zero_at cs m ≡ true) →
    above cs k (zero_at cs i) i ≡ above cs (k - d) (zero_at cs j) j
above_up cs zero i j k e l n z =
    let p : i ≡ j = omega (arith, e) in
    let q : k - 0 ≡ k = omega arith in
    rw (q, p)
above_up cs (suc d) i j zero e l n z = absurd (omega (arith, n))
above_up cs (suc d) i j (suc k) e l n z =
    let q : suc k - suc d ≡ k - d = omega arith in
    above_next cs k i (z i (omega arith) (omega (arith, e)))
    ∙ sym (ap (λ (m : ℕ). above cs k (zero_at cs m) m) (next_index i (length cs) (omega (arith, e, l))))
    ∙ above_up cs d (i + 1) j k (omega (arith, e)) l (omega (arith, n)) (λ m a b. z m (omega (arith, a)) b)
    ∙ sym (ap (λ (m : ℕ). above cs m (zero_at cs j) j) q)

module _ (cs : List Float) (i : ℕ) where
  -- the first that is not 0 stands from i on
  pub above_behind : (j : ℕ) → i ≤ j → j < length cs → ((m : ℕ) → i ≤ m → m < j → zero_at cs m ≡ true) → zero_at cs j ≡ false → j ≡ first_above cs i
  above_behind j g l z h =
      above_by cs j (length cs - (j - i)) (zero_at cs j) h
      ∙ sym (above_up cs (j - i) i j (length cs) (omega (arith, g)) l (omega (arith, l)) z)

  module _ (l : i < length cs) (z : (m : ℕ) → i ≤ m → m < length cs → zero_at cs m ≡ true) where
    above_round : first_above cs i ≡ above cs i (zero_at cs 0) 0
    above_round =
        let last = length cs - 1 in
        let n : length cs - (last - i) ≡ suc i = omega (arith, l) in
        above_up cs (last - i) i last (length cs) (omega (arith, l)) (omega (arith, l)) (omega (arith, l)) (λ m a b. z m a (omega (arith, b)))
        ∙ ap (λ (k : ℕ). above cs k (zero_at cs last) last) n
        ∙ above_next cs i last (z last (omega (arith, l)) (omega (arith, l)))
        ∙ sym (ap (λ (m : ℕ). above cs i (zero_at cs m) m) (first_index last (length cs) (omega (arith, l)) (omega (arith, l))))

    -- it stands before i
    pub above_before : (j : ℕ) → j < i → ((m : ℕ) → m < j → zero_at cs m ≡ true) → zero_at cs j ≡ false → j ≡ first_above cs i
    above_before j g y h =
        above_by cs j (i - j) (zero_at cs j) h
        ∙ sym (above_up cs j 0 j i (omega arith) (omega (arith, g, l)) (omega (arith, g)) (λ m a b. y m b))
        ∙ sym above_round

    -- there is none
    pub above_all : ((m : ℕ) → m < i → zero_at cs m ≡ true) → i ≡ first_above cs i
    above_all y =
        let n : i - i ≡ 0 = omega arith in
        above_none cs (zero_at cs i) i
        ∙ sym (ap (λ (k : ℕ). above cs k (zero_at cs i) i) n)
        ∙ sym (above_up cs i 0 i i (omega arith) l (omega arith) (λ m a b. y m b))
        ∙ sym above_round
