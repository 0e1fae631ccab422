-- Once round every interval is met: none that is 0 is entered; and where no drawn interval is above 0, nothing is drawn. Assumes nothing.
use mathlib.Core.Path.{◌≡◌, refl, sym, ◌∙◌, ap, subst}
use Prim.Native.Nat.{ℕ, zero, suc, ◌+◌, ◌-◌, ◌*◌, ◌/◌, ◌%◌, ◌≤◌, ◌<◌}
use native.Mathlib.Omega.{arith}
use native.Mathlib.Nat.{mod-lt}
use mathlib.Core.Bool.{Bool, true, false, not, ◌||◌, true≢false}
use mathlib.Core.List.{List, [], ◌∷◌, ◌++◌, append_assoc, cons≢nil}
use lib.ListN.{length, drop, length-drop}
use lib.Seq.{get_or-drop}
use lib.Dec.{eqb, leb}
use lib.Ieee.{Float, nan, le}
use borrow.Author.Tests.{eqb-true, leb-true, leb-false, not-true, not-false}
use Rattle.float.specs.Arith.{plus, f0}
use Rattle.float.specs.Small.{rem_euclid}
use Rattle.vec2.specs.declared.Vec2.{Vec2}
use Rattle.events.specs.declared.Pos.{Pos}
use Rattle.events.specs.declared.Leg.{Leg}
use Rattle.events.specs.declared.Event.{Event}
use Rattle.events.specs.declared.Event.TheVariants.{Nothing, Cut, Reach, Pass}
use Rattle.events.specs.Loop.{Trace, traced}
use Rattle.events.specs.Zeros.{after, zero_at, above, first_above, next, ahead, BehindZeros, one_above, gaps_only}
use Rattle.events.specs.Phase.{phase_goes, phase_next, start_of}
use Rattle.events.specs.declared.Place.{Place}
use Rattle.events.specs.Walk.{place, inside, resting, nothing_left, turned, goes, onward, tells, cut_from, beginning_at, cut_leg, passed, leg_of, is_walked, walk_from, walk_polyline, walk_all}
use Rattle.events.specs.Drawn.{drawn}
use Rattle.events.proofs.Loops.{traced_ind}
use Rattle.events.proofs.Turns.{next_index, first_index, above_in, both_left, both_second}
use Rattle.events.proofs.Source.{or_first, or_rest}

-- ---- which are above 0

none_above : (l : List Float) → one_above l ≡ false → (k : ℕ) → 2 * k < length l → zero_at l (2 * k) ≡ true
none_above [] h k m = absurd (omega arith)
none_above (x ∷ []) h zero m = not-false (le x f0) h
none_above (x ∷ []) h (suc k) m = absurd (omega arith)
none_above (x ∷ y ∷ xs) h zero m = not-false (le x f0) (or_first (not (le x f0)) (one_above xs) h)
none_above (x ∷ y ∷ xs) h (suc k) m =
    let e : 2 * suc k ≡ suc (suc (2 * k)) = omega arith in
    ap (zero_at (x ∷ y ∷ xs)) e ∙ none_above xs (or_rest (not (le x f0)) (one_above xs) h) k (omega (arith, m))

-- one that is above 0, of even number
record One (l : List Float) : Type 0 where
  half : ℕ
  within : 2 * half < length l
  found : zero_at l (2 * half) ≡ false

one_found : (l : List Float) → one_above l ≡ true → One l
one_found [] h = absurd (true≢false (sym h))
one_found (x ∷ []) h = record { half = 0; within = omega arith; found = not-true (le x f0) h }
one_found (x ∷ y ∷ xs) h = go (le x f0) refl h (λ k. one_found xs k)
  where
    later : One xs → One (x ∷ y ∷ xs)
    later f = let e : 2 * suc f.half ≡ suc (suc (2 * f.half)) = omega arith in record { half = suc f.half; within = omega (arith, f.within); found = ap (zero_at (x ∷ y ∷ xs)) e ∙ f.found }

    go : (b : Bool) → le x f0 ≡ b → not b || one_above xs ≡ true → (one_above xs ≡ true → One xs) → One (x ∷ y ∷ xs)
    go false e k f = record { half = 0; within = omega arith; found = e }
    go true e k f = later (f k)

-- what looks at each interval of even number, and finds one or none
pub one_of : (b : Bool) (l : List Float) → (b ≡ true → (k : ℕ) × (k * 2 < length l) × (zero_at l (k * 2) ≡ false)) → (b ≡ false → (k : ℕ) → k * 2 < length l → zero_at l (k * 2) ≡ true) →
    b ≡ one_above l
one_of true l found none = go (one_above l) refl
  where
    go : (d : Bool) → one_above l ≡ d → true ≡ d
    go true e = refl
    go false e =
        let f = found refl in
        let k : 2 * f.0 ≡ f.0 * 2 = omega arith in
        absurd (true≢false (sym (ap (zero_at l) (sym k) ∙ none_above l e f.0 (omega (arith, f.1))) ∙ f.2))
one_of false l found none = go (one_above l) refl
  where
    go : (d : Bool) → one_above l ≡ d → false ≡ d
    go true e =
        let f = one_found l e in
        let k : f.half * 2 ≡ 2 * f.half = omega arith in
        absurd (true≢false (sym (ap (zero_at l) (sym k) ∙ none refl f.half (omega (arith, f.within))) ∙ f.found))
    go false e = refl

-- ---- once round, every interval is met

record Found (l : List Float) : Type 0 where
  at : ℕ
  within : at < length l
  found : zero_at l at ≡ false

module _ (cs : List Float) where
  found_by : (k m : ℕ) (b : Bool) (i : ℕ) → zero_at cs i ≡ b → m < k → zero_at cs (ahead cs m i) ≡ false → zero_at cs (above cs k b i) ≡ false
  unfolding above ahead
  found_by zero m b i e l h = absurd (omega arith)
  found_by (suc k) m false i e l h = e
  found_by (suc k) zero true i e l h = absurd (true≢false (sym e ∙ h))
  found_by (suc k) (suc m) true i e l h = found_by k m (zero_at cs (after cs i)) (after cs i) refl (omega arith) h

  climb : (m i : ℕ) → i + m < length cs → ahead cs m i ≡ i + m
  unfolding ahead
  climb zero i h = omega arith
  climb (suc m) i h =
      let e : i + 1 + m ≡ i + suc m = omega arith in
      ap (ahead cs m) (sym (next_index i (length cs) (omega (arith, h)))) ∙ climb m (i + 1) (omega (arith, h)) ∙ e

  wrap : (m j i : ℕ) → i + m + 1 ≡ length cs → j < length cs → ahead cs (suc (m + j)) i ≡ j
  unfolding ahead
  wrap zero j i h l =
      let e : 0 + j ≡ j = omega arith in
      ap (λ (k : ℕ). ahead cs k (after cs i)) e ∙ ap (ahead cs j) (sym (first_index i (length cs) (omega (arith, h)) (omega (arith, h)))) ∙ climb j 0 (omega (arith, l)) ∙ e
  wrap (suc m) j i h l =
      let e : suc m + j ≡ suc (m + j) = omega arith in
      ap (λ (k : ℕ). ahead cs k (after cs i)) e ∙ ap (ahead cs (suc (m + j))) (sym (next_index i (length cs) (omega (arith, h)))) ∙ wrap m j (i + 1) (omega (arith, h)) l

  module _ (f : Found cs) where
    met : (i : ℕ) → i < length cs → zero_at cs (first_above cs i) ≡ false
    met i l = go (leb i f.at) refl
      where
        go : (b : Bool) → leb i f.at ≡ b → zero_at cs (first_above cs i) ≡ false
        go true e =
            let h : i ≤ f.at = leb-true _ _ e in
            let s : i + (f.at - i) ≡ f.at = omega (arith, h) in
            found_by (length cs) (f.at - i) (zero_at cs i) i refl (omega (arith, f.within, h)) (ap (zero_at cs) (climb (f.at - i) i (omega (arith, s, f.within)) ∙ s) ∙ f.found)
        go false e =
            let h : f.at < i = leb-false _ _ e in
            let s : i + (length cs - i - 1) + 1 ≡ length cs = omega (arith, l) in
            found_by (length cs) (suc (length cs - i - 1 + f.at)) (zero_at cs i) i refl (omega (arith, h, l)) (ap (zero_at cs) (wrap (length cs - i - 1) f.at i s f.within) ∙ f.found)

-- only zeros are passed over
module _ (cs : List Float) where
  behind_zeros : (k : ℕ) (b : Bool) (i : ℕ) → zero_at cs i ≡ b → BehindZeros cs i (above cs k b i)
  unfolding above ahead
  behind_zeros zero b i e = record { many = 0; lands = refl; zeros = λ m l. absurd (omega arith) }
  behind_zeros (suc k) false i e = record { many = 0; lands = refl; zeros = λ m l. absurd (omega arith) }
  behind_zeros (suc k) true i e = further (behind_zeros k (zero_at cs (after cs i)) (after cs i) refl)
    where
      further : BehindZeros cs (after cs i) (above cs k (zero_at cs (after cs i)) (after cs i)) → BehindZeros cs i (above cs k (zero_at cs (after cs i)) (after cs i))
      further r = record { many = suc r.many; lands = r.lands; zeros = each r }
        where
          each : (r : BehindZeros cs (after cs i) (above cs k (zero_at cs (after cs i)) (after cs i))) (m : ℕ) → m < suc r.many → zero_at cs (ahead cs m i) ≡ true
          each r zero l = e
          each r (suc m) l = r.zeros m (omega (arith, l))

  pub first_behind : (i : ℕ) → BehindZeros cs i (first_above cs i)
  first_behind i = behind_zeros (length cs) (zero_at cs i) i refl

-- so where one interval is not 0 none that is 0 is entered
module _ (cs : List Float) (k : ℕ) (l : k < length cs) (h : zero_at cs k ≡ false) where
  pub next_above_lem : (i : ℕ) → zero_at cs (next cs i) ≡ false
  next_above_lem i = met cs (record { at = k; within = l; found = h }) (after cs i) (mod-lt (i + 1) (omega (arith, l)))

  pub start_above : (phase period : Float) → zero_at cs (start_of cs phase period).index ≡ false
  start_above phase period =
      traced_ind (phase_goes cs) (phase_next cs) (λ z. z.index) (λ s r. zero_at cs s.index ≡ false → zero_at cs r.end.index ≡ false) (λ s e. e) (λ s r f e. f (next_above_lem s.index))
      (record { index = first_above cs 0; remaining = rem_euclid phase period }) (met cs (record { at = k; within = l; found = h }) 0 (omega (arith, l)))

-- ---- where no drawn interval is above 0 nothing is drawn

abbrev Silent : List Event → Type 0
Silent es = (d : Bool) → drawn d es ≡ []

-- events that draw nothing tell of no dash that could begin elsewhere
silent_beginning : (a : Vec2) (es fs : List Event) → Silent (es ++ fs) → Silent (beginning_at a es ++ fs)
silent_beginning a [] fs h = h
silent_beginning a (Nothing ∷ es) fs h = h
silent_beginning a (Cut b z ∷ es) fs h = absurd (cons≢nil (h true))
silent_beginning a (Reach b c ∷ es) fs h = absurd (cons≢nil (h true))
silent_beginning a (Pass c ∷ es) fs h = h

module _ (g : Leg) where
  silent_turn : (drawing : Bool) (i : ℕ) (left t : Float) (es : List Event) → drawing ≡ false → Silent es → Silent (inside g (record { index = i; left = left; drawing = drawing }) t ∷ es)
  silent_turn true i left t es h m = absurd (true≢false h)
  silent_turn false i left t es h m = λ d. m false

  silent_rest : (drawing : Bool) (i : ℕ) (left t : Float) (es : List Event) → drawing ≡ false → Silent es → Silent (resting g (record { index = i; left = left; drawing = drawing }) t ∷ es)
  silent_rest true i left t es h m = absurd (true≢false h)
  silent_rest false i left t es h m = λ d. m false

module _ (cs : List Float) (only : gaps_only cs ≡ true) where
  dashes : one_above cs ≡ false
  dashes = not-true (one_above cs) (both_left (not (one_above cs)) (one_above (drop 1 cs)) only)

  some : Found cs
  some =
      let f = one_found (drop 1 cs) (both_second (not (one_above cs)) (one_above (drop 1 cs)) only) in
      record { at = 1 + 2 * f.half; within = omega (arith, f.within, length-drop 1 cs); found = ap (λ (x : Float). le x f0) (sym (get_or-drop 1 cs (2 * f.half) nan)) ∙ f.found }

  -- an interval that is not passed over is a gap
  gap : (i : ℕ) → i < length cs → zero_at cs i ≡ false → eqb (i % 2) 0 ≡ false
  gap i l h = go (eqb (i % 2) 0) refl
    where
      go : (b : Bool) → eqb (i % 2) 0 ≡ b → b ≡ false
      go true e =
          let z : i % 2 ≡ 0 = eqb-true _ _ e in
          let k : 2 * (i / 2) ≡ i = omega (arith, z) in
          sym (ap (zero_at cs) (sym k) ∙ none_above cs dashes (i / 2) (omega (arith, k, l))) ∙ h
      go false e = refl

  first_gap : (i : ℕ) → i < length cs → eqb (first_above cs i % 2) 0 ≡ false
  first_gap i l = gap (first_above cs i) (above_in cs (length cs) (zero_at cs i) i l) (met cs some i l)

  next_gap : (i : ℕ) → eqb (next cs i % 2) 0 ≡ false
  next_gap i = first_gap (after cs i) (mod-lt (i + 1) (omega (arith, some.within)))

  pub start_gap : (phase period : Float) → (start_of cs phase period).drawing ≡ false
  start_gap phase period =
      traced_ind (phase_goes cs) (phase_next cs) (λ z. z.index) (λ s r. eqb (s.index % 2) 0 ≡ false → eqb (r.end.index % 2) 0 ≡ false) (λ s h. h) (λ s r k h. k (next_gap s.index))
      (record { index = first_above cs 0; remaining = rem_euclid phase period }) (first_gap 0 (omega (arith, some.within)))

  module _ (g : Leg) where
    abbrev Passing : Place → Trace Event Place → Type 0
    Passing s r = s.pos.drawing ≡ false → (r.end.pos.drawing ≡ false) × ((es : List Event) → Silent es → Silent (r.told ++ es))

    passing : (s : Place) → Passing s (traced (goes cs g) (onward cs g) (tells cs g) s)
    passing s =
        traced_ind (goes cs g) (onward cs g) (tells cs g) Passing (λ z h. (h, λ es m. m))
        (λ z r k h. let q = k (next_gap z.pos.index) in (q.0, λ es m. silent_turn g z.pos.drawing z.pos.index z.pos.left (plus z.t z.pos.left) (r.told ++ es) h (q.1 es m))) s

    silent_leg : (s : Place) → s.pos.drawing ≡ false → ((cut_from cs g s).pos.drawing ≡ false) × ((es : List Event) → Silent es → Silent ((cut_from cs g s).events ++ es))
    unfolding cut_from
    silent_leg s h =
        let r = traced (goes cs g) (onward cs g) (tells cs g) s in
        let q = passing s h in
        let e = r.end in (
          q.0,
          λ es m. subst Silent (sym (append_assoc r.told (resting g e.pos e.t ∷ []) es))
              (q.1 (resting g e.pos e.t ∷ es) (silent_rest g e.pos.drawing e.pos.index e.pos.left e.t es q.0 m)),
        )

    silent_cut : (b : Bool) (p : Pos) → p.drawing ≡ false → ((cut_leg b cs g p).pos.drawing ≡ false) × ((es : List Event) → Silent es → Silent ((cut_leg b cs g p).events ++ es))
    silent_cut true p h =
        let s = place (turned cs p) f0 in
        let l = silent_leg s (next_gap p.index) in
        (l.0, λ es m d. silent_beginning _ (cut_from cs g s).events es (l.1 es m) false)
    silent_cut false p h = silent_leg (place p f0) h

    silent_passed : (w : Bool) (p : Pos) → p.drawing ≡ false → ((passed w cs g p).pos.drawing ≡ false) × ((es : List Event) → Silent es → Silent ((passed w cs g p).events ++ es))
    silent_passed true p h = silent_cut (nothing_left p) p h
    silent_passed false p h = (h, λ es m. m)

  silent_walk : (a : Vec2) (ps : List Vec2) (p : Pos) → p.drawing ≡ false → Silent (walk_from cs a ps p)
  unfolding walk_from
  silent_walk a [] p h = λ d. refl
  silent_walk a (b ∷ ps) p h =
      let g = leg_of a b in
      let c = passed (is_walked g) cs g p in
      let l = silent_passed g (is_walked g) p h in
      l.1 (walk_from cs b ps c.pos) (silent_walk b ps c.pos l.0)

  silent_line : (start : Pos) (ps : List Vec2) → start.drawing ≡ false → drawn false (walk_polyline cs start ps) ≡ []
  silent_line start [] h = refl
  silent_line start (a ∷ ps) h = silent_walk a ps start h false

  pub silent_all : (start : Pos) (ps : List (List Vec2)) → start.drawing ≡ false → walk_all cs start ps ≡ []
  silent_all start [] h = refl
  silent_all start (p ∷ ps) h = rw (silent_line start p h, silent_all start ps h)

  pub nothing_drawn : (phase period : Float) (ps : List (List Vec2)) → walk_all cs (start_of cs phase period) ps ≡ []
  nothing_drawn phase period ps = silent_all (start_of cs phase period) ps (start_gap phase period)
