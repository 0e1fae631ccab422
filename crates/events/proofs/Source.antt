-- Where no interval is 0 and no walked segment begins with exactly nothing left, the walk is the source's. Assumes nothing.
use mathlib.Core.Path.{◌≡◌, refl, sym, ◌∙◌, ap, subst}
use Prim.Native.Nat.{ℕ, zero, suc, ◌+◌, ◌%◌, ◌^◌, ◌≤◌, ◌<◌}
use native.Mathlib.Omega.{arith}
use mathlib.Core.Bool.{Bool, true, false, not, ◌&&◌, ◌||◌, true≢false}
use mathlib.Core.List.{List, [], ◌∷◌, ◌++◌, append_assoc}
use lib.ListN.{length, get_or}
use lib.Dec.{eqb, ltb}
use lib.Ieee.{Float, nan, le}
use borrow.Author.Tests.{ltb-true, ltb-false, eqb-true, eqb-false, eq-eqb, ne_eqb}
use Rattle.float.specs.Arith.{plus, minus, f0}
use Rattle.float.specs.Small.{rem_euclid}
use Rattle.vec2.specs.declared.Vec2.{Vec2}
use Rattle.path.specs.declared.Segment.{Segment}
use Rattle.events.specs.declared.Pos.{Pos}
use Rattle.events.specs.declared.Leg.{Leg}
use Rattle.events.specs.declared.Event.{Event}
use Rattle.events.specs.declared.Event.TheVariants.{Nothing, Cut, Reach, Pass}
use Rattle.events.specs.Loop.{Trace, then, trace, traced}
use Rattle.events.specs.Zeros.{after, zero_at, above, first_above, next}
use Rattle.events.specs.Phase.{Phase, phase_goes, phase_next, phase_from, started, start_of}
use Rattle.events.specs.declared.Place.{Place}
use Rattle.events.specs.Walk.{place, Told, nothing_left, turned, inside, resting, goes, onward, tells, finish, cut_from, cut_leg, passed, leg_of, is_walked, walk_from, walk_polyline, walk_all}
use Rattle.events.specs.Drawn.{down_to, drawn}
use Rattle.events.specs.Source as source
use Rattle.events.proofs.Loops.{traced_ind}
use Rattle.events.proofs.Turns.{after_in, next_index, first_index}

-- ---- two loops that go alike

module _ {S Z E : Type 0} (go₁ : S → Bool) (next₁ : S → S) (tell₁ : S → E) (go₂ : Z → Bool) (next₂ : Z → Z) (tell₂ : Z → E) (R : S → Z → Type 0) where
  pub record Alike (r : Trace E S) (q : Trace E Z) : Type 0 where
    pub said : r.told ≡ q.told
    pub ends : R r.end q.end

  module _ (gos : (s : S) (z : Z) → R s z → go₁ s ≡ go₂ z) (nexts : (s : S) (z : Z) → R s z → R (next₁ s) (next₂ z)) (says : (s : S) (z : Z) → R s z → tell₁ s ≡ tell₂ z) where
    more : (s : S) (z : Z) → R s z → (r : Trace E S) (q : Trace E Z) → Alike r q → Alike (then go₁ next₁ tell₁ s r) (then go₂ next₂ tell₂ z q)
    more s z h r q a = record { said = ap (λ (e : E). e ∷ r.told) (says s z h) ∙ ap (λ (l : List E). tell₂ z ∷ l) a.said; ends = a.ends }

    alike_by : (N : ℕ) (b : Bool) (s : S) (z : Z) → R s z → Alike (trace go₁ next₁ tell₁ N b s) (trace go₂ next₂ tell₂ N b z)
    unfolding trace
    alike_by zero b s z h = record { said = refl; ends = h }
    alike_by (suc k) false s z h = record { said = refl; ends = h }
    alike_by (suc k) true s z h =
        let n = nexts s z h in
        more s z h (trace go₁ next₁ tell₁ k (go₁ (next₁ s)) (next₁ s)) (trace go₂ next₂ tell₂ k (go₂ (next₂ z)) (next₂ z))
        (subst (λ (b : Bool). Alike (trace go₁ next₁ tell₁ k (go₁ (next₁ s)) (next₁ s)) (trace go₂ next₂ tell₂ k b (next₂ z))) (gos (next₁ s) (next₂ z) n) (alike_by k (go₁ (next₁ s)) (next₁ s) (next₂ z) n))

    alike_in : (N : ℕ) (s : S) (z : Z) → R s z → Alike (trace go₁ next₁ tell₁ N (go₁ s) s) (trace go₂ next₂ tell₂ N (go₂ z) z)
    alike_in N s z h = subst (λ (b : Bool). Alike (trace go₁ next₁ tell₁ N (go₁ s) s) (trace go₂ next₂ tell₂ N b z)) (gos s z h) (alike_by N (go₁ s) s z h)

    pub alike : (s : S) (z : Z) → R s z → Alike (traced go₁ next₁ tell₁ s) (traced go₂ next₂ tell₂ z)
    unfolding traced
    alike s z h = alike_in (2 ^ 33) s z h

-- ---- small laws

not_first : (a b : Bool) → not a && b ≡ true → a ≡ false
not_first true b h = absurd (true≢false (sym h))
not_first false b h = refl

not_rest : (a b : Bool) → not a && b ≡ true → b ≡ true
not_rest true b h = absurd (true≢false (sym h))
not_rest false b h = h

pub or_first : (a b : Bool) → a || b ≡ false → a ≡ false
or_first true b h = h
or_first false b h = refl

pub or_rest : (a b : Bool) → a || b ≡ false → b ≡ false
or_rest true b h = absurd (true≢false h)
or_rest false b h = h

flips : (a b : ℕ) → (a + b) % 2 ≡ 1 → eqb (a % 2) 0 ≡ not (eqb (b % 2) 0)
flips a b h = go (eqb (b % 2) 0) refl
  where
    go : (t : Bool) → eqb (b % 2) 0 ≡ t → eqb (a % 2) 0 ≡ not t
    go true e = let q : b % 2 ≡ 0 = eqb-true _ _ e in ne_eqb (a % 2) 0 (λ z. omega (arith, h, z, q))
    go false e = let q : b % 2 ≡ 0 → ⊥ = eqb-false _ _ e in eq-eqb (a % 2) 0 (odd q)
      where
        odd : (b % 2 ≡ 0 → ⊥) → a % 2 ≡ 0
        odd q = go2 (eqb (a % 2) 0) refl
          where
            go2 : (t : Bool) → eqb (a % 2) 0 ≡ t → a % 2 ≡ 0
            go2 true z = eqb-true _ _ z
            go2 false z = let y : a % 2 ≡ 0 → ⊥ = eqb-false _ _ z in absurd (omega (arith, h, q, y))

-- the next number of a cycle of even length is even where this one is odd
even_after : (n i : ℕ) → n % 2 ≡ 0 → i < n → eqb (((i + 1) % n) % 2) 0 ≡ not (eqb (i % 2) 0)
even_after n i h l = go (ltb (i + 1) n) refl
  where
    go : (t : Bool) → ltb (i + 1) n ≡ t → eqb (((i + 1) % n) % 2) 0 ≡ not (eqb (i % 2) 0)
    go true e = let q = next_index i n (ltb-true _ _ e) in flips ((i + 1) % n) i (omega (arith, q))
    go false e = let q = first_index i n l (ltb-false _ _ e) in let m : n ≤ i + 1 = ltb-false _ _ e in flips ((i + 1) % n) i (omega (arith, q, m, l, h))

none_zero : (cs : List Float) → source.no_zero cs ≡ true → (i : ℕ) → i < length cs → zero_at cs i ≡ false
none_zero [] h i l = absurd (omega arith)
none_zero (x ∷ xs) h zero l = not_first (le x f0) (source.no_zero xs) h
none_zero (x ∷ xs) h (suc i) l = none_zero xs (not_rest (le x f0) (source.no_zero xs) h) i (omega arith)

above_false : (cs : List Float) (n i : ℕ) → above cs n false i ≡ i
unfolding above
above_false cs zero i = refl
above_false cs (suc n) i = refl

-- ---- the walk of a leg

module _ (cs : List Float) (nz : source.no_zero cs ≡ true) (even : length cs % 2 ≡ 0) where
  first_is : (i : ℕ) → i < length cs → first_above cs i ≡ i
  first_is i l = ap (λ (b : Bool). above cs (length cs) b i) (none_zero cs nz i l) ∙ above_false cs (length cs) i

  next_is : (i : ℕ) → i < length cs → next cs i ≡ after cs i
  next_is i l = first_is (after cs i) (after_in i (length cs) l)

  -- a place in the cycle that the walk comes to
  abbrev Good : Pos → Type 0
  Good p = (p.index < length cs) × (p.drawing ≡ eqb (p.index % 2) 0)

  source_turned : (p : Pos) → Good p → source.turned cs p ≡ source.entered cs (after cs p.index) (not p.drawing)
  source_turned p h = rw (none_zero cs nz (after cs p.index) (after_in p.index (length cs) h.0))

  turned_is : (p : Pos) → Good p → turned cs p ≡ source.entered cs (after cs p.index) (not p.drawing)
  turned_is p h =
      ap (λ (i : ℕ). record { index = i; left = get_or cs i nan; drawing = eqb (i % 2) 0 }) (next_is p.index h.0)
      ∙ ap (λ (d : Bool). source.entered cs (after cs p.index) d) (even_after (length cs) p.index even h.0 ∙ ap not (sym h.1))

  turned_good : (p : Pos) → Good p → Good (source.turned cs p)
  turned_good p h = subst Good (sym (source_turned p h)) (after_in p.index (length cs) h.0, sym (even_after (length cs) p.index even h.0 ∙ ap not (sym h.1)))

  module _ (g : Leg) where
    abbrev Same : Place → Place → Type 0
    Same s z = (s ≡ z) × Good z.pos

    same_next : (s : Place) (z : Place) → Same s z → Same (onward cs g s) (source.onward cs g z)
    same_next s z h = (
      ap (onward cs g) h.0 ∙ ap (λ (p : Pos). place p (plus z.t z.pos.left)) (turned_is z.pos h.1 ∙ sym (source_turned z.pos h.1)),
      turned_good z.pos h.1,
    )

    leg : (p : Pos) → Good p → (cut_from cs g (place p f0) ≡ source.cut_from cs g (place p f0)) × Good (source.cut_from cs g (place p f0)).pos
    unfolding cut_from source.cut_from
    leg p h =
        let a = alike (goes cs g) (onward cs g) (tells cs g) (goes cs g) (source.onward cs g) (tells cs g) Same (λ s z e. ap (goes cs g) e.0) same_next (λ s z e. ap (tells cs g) e.0) (place p f0) (place p f0) (refl, h) in
        let q = traced (goes cs g) (source.onward cs g) (tells cs g) (place p f0) in
        let r = traced (goes cs g) (onward cs g) (tells cs g) (place p f0) in (
          ap (λ (l : List Event). finish cs g (record { told = l; end = r.end })) a.said ∙ ap (λ (s : Place). finish cs g (record { told = q.told; end = s })) a.ends.0,
          a.ends.1,
        )

    leg_same : (w : Bool) (p : Pos) → Good p → w && nothing_left p ≡ false → (passed w cs g p ≡ source.passed w cs g p) × Good (source.passed w cs g p).pos
    leg_same true p h e = let l = leg p h in (ap (λ (z : Bool). cut_leg z cs g p) e ∙ l.0, l.1)
    leg_same false p h e = (refl, h)

  walk_same : (a : Vec2) (ps : List Vec2) (p : Pos) → Good p → source.meets_from cs a ps p ≡ false → walk_from cs a ps p ≡ source.walk_from cs a ps p
  unfolding walk_from source.walk_from source.meets_from
  walk_same a [] p h e = refl
  walk_same a (b ∷ ps) p h e =
      let g = leg_of a b in
      let z = source.passed (is_walked g) cs g p in
      let l = leg_same g (is_walked g) p h (or_first (is_walked g && nothing_left p) (source.meets_from cs b ps z.pos) e) in
      ap (λ (c : Told). c.events ++ walk_from cs b ps c.pos) l.0
      ∙ ap (λ (es : List Event). z.events ++ es) (walk_same b ps z.pos l.1 (or_rest (is_walked g && nothing_left p) (source.meets_from cs b ps z.pos) e))

  pub line_same : (start : Pos) (ps : List Vec2) → Good start → source.meets cs start ps ≡ false → walk_polyline cs start ps ≡ source.walk_polyline cs start ps
  line_same start [] h e = refl
  line_same start (a ∷ ps) h e = walk_same a ps start h e

  -- ---- the start

  abbrev SamePhase : Phase → Phase → Type 0
  SamePhase s z = (s ≡ z) × (z.index < length cs)

  phase_next_lem : (s z : Phase) → SamePhase s z → SamePhase (phase_next cs s) (source.phase_next cs z)
  phase_next_lem s z h = (
    ap (phase_next cs) h.0 ∙ ap (λ (i : ℕ). record { index = i; remaining = minus z.remaining (get_or cs z.index nan) }) (next_is z.index h.1),
    after_in z.index (length cs) h.1,
  )

  phase_same : (s z : Phase) → SamePhase s z → SamePhase (phase_from cs s) (source.phase_from cs z)
  phase_same s z h = (alike (phase_goes cs) (phase_next cs) (λ y. y.index) (phase_goes cs) (source.phase_next cs) (λ y. y.index) SamePhase (λ x y e. ap (phase_goes cs) e.0) phase_next_lem (λ x y e. ap (λ (k : Phase). k.index) e.0) s z h).ends

  start_good : (phase period : Float) → 0 < length cs → (start_of cs phase period ≡ source.start_of cs phase period) × Good (source.start_of cs phase period)
  start_good phase period l =
      let first : Phase = record { index = first_above cs 0; remaining = rem_euclid phase period } in
      let old : Phase = record { index = 0; remaining = rem_euclid phase period } in
      let s = phase_same first old (ap (λ (i : ℕ). record { index = i; remaining = rem_euclid phase period }) (first_is 0 l), l) in
      (ap (started cs) s.0, (s.1, refl))

-- ---- what is drawn: in the source's walk a gap never ends with the pen down

abbrev Calm : Bool → List Event → Type 0
Calm d [] = Unit {0}
Calm d (Nothing ∷ es) = (d ≡ false) × Calm d es
Calm d (Cut a z ∷ es) = Calm false es
Calm d (Reach a c ∷ es) = Calm true es
Calm d (Pass c ∷ es) = Calm false es

calm_drawn : (d : Bool) (es : List Event) → Calm d es → drawn d es ≡ source.drawn d es
calm_drawn d [] h = refl
calm_drawn d (Nothing ∷ es) h = ap (λ (b : Bool). drawn b es) (sym h.0) ∙ calm_drawn d es h.1
calm_drawn d (Cut a z ∷ es) h = ap (λ (l : List Segment). down_to d a z ++ l) (calm_drawn false es h)
calm_drawn d (Reach a c ∷ es) h = ap (λ (l : List Segment). down_to d a c ++ l) (calm_drawn true es h)
calm_drawn d (Pass c ∷ es) h = calm_drawn false es h

-- the pen is down only in a drawn interval
abbrev Under : Bool → Bool → Type 0
Under d drawing = d ≡ true → drawing ≡ true

up : (d : Bool) → Under d false → d ≡ false
up true h = absurd (true≢false (sym (h refl)))
up false h = refl

module _ (cs : List Float) (g : Leg) where
  calm_turn : (drawing : Bool) (i : ℕ) (left t : Float) (d : Bool) (es : List Event) → Under d drawing → Calm false es → Calm d (inside g (record { index = i; left = left; drawing = drawing }) t ∷ es)
  calm_turn true i left t d es u h = h
  calm_turn false i left t d es u h = let e = up d u in (e, subst (λ (b : Bool). Calm b es) (sym e) h)

  calm_rest : (drawing : Bool) (i : ℕ) (left t : Float) (d : Bool) (es : List Event) → Calm drawing es → Calm d (resting g (record { index = i; left = left; drawing = drawing }) t ∷ es)
  calm_rest true i left t d es h = h
  calm_rest false i left t d es h = h

  abbrev Quiet : Place → Trace Event Place → Type 0
  Quiet s r = (d : Bool) (es : List Event) → Under d s.pos.drawing → Calm r.end.pos.drawing es → Calm d (r.told ++ (resting g r.end.pos r.end.t ∷ es))

  quiet : (s : Place) → Quiet s (traced (goes cs g) (source.onward cs g) (tells cs g) s)
  quiet s =
      traced_ind (goes cs g) (source.onward cs g) (tells cs g) Quiet
      (λ z d es u h. calm_rest z.pos.drawing z.pos.index z.pos.left z.t d es h)
      (λ z r k d es u h. calm_turn z.pos.drawing z.pos.index z.pos.left (plus z.t z.pos.left) d (r.told ++ (resting g r.end.pos r.end.t ∷ es)) u (k false es (λ e. absurd (true≢false (sym e))) h)) s

  calm_leg : (p : Pos) (d : Bool) (es : List Event) → Under d p.drawing → Calm (source.cut_from cs g (place p f0)).pos.drawing es → Calm d ((source.cut_from cs g (place p f0)).events ++ es)
  unfolding source.cut_from
  calm_leg p d es u h =
      let r = traced (goes cs g) (source.onward cs g) (tells cs g) (place p f0) in
      subst (Calm d) (sym (append_assoc r.told (resting g r.end.pos r.end.t ∷ []) es)) (quiet (place p f0) d es u h)

module _ (cs : List Float) where
  -- the pen that a walked leg leaves is down where its interval is drawn; one that is passed over leaves it as it is
  calm_passed : (w : Bool) (g : Leg) (p : Pos) (d : Bool) (es : List Event) → Under d p.drawing → ((b : Bool) → Under b (source.passed w cs g p).pos.drawing → Calm b es) → Calm d ((source.passed w cs g p).events ++ es)
  calm_passed true g p d es u h = calm_leg cs g p d es u (h (source.cut_from cs g (place p f0)).pos.drawing (λ e. e))
  calm_passed false g p d es u h = h d u

  calm_walk : (a : Vec2) (ps : List Vec2) (p : Pos) (d : Bool) → Under d p.drawing → Calm d (source.walk_from cs a ps p)
  unfolding source.walk_from
  calm_walk a [] p d u = tt
  calm_walk a (b ∷ ps) p d u =
      let g = leg_of a b in
      let c = source.passed (is_walked g) cs g p in
      calm_passed (is_walked g) g p d (source.walk_from cs b ps c.pos) u (λ e v. calm_walk b ps c.pos e v)

  calm_line : (start : Pos) (ps : List Vec2) → Calm false (source.walk_polyline cs start ps)
  calm_line start [] = tt
  calm_line start (a ∷ ps) = calm_walk a ps start false (λ e. absurd (true≢false (sym e)))

-- ---- the theorem

module _ (cs : List Float) (nz : source.no_zero cs ≡ true) (even : length cs % 2 ≡ 0) (some : 0 < length cs) (phase period : Float) where
  pub start_as_source : start_of cs phase period ≡ source.start_of cs phase period
  start_as_source = (start_good cs nz even phase period some).0

  abbrev start : Pos
  start = source.start_of cs phase period

  line_as_source : (ps : List Vec2) → source.meets cs start ps ≡ false → drawn false (walk_polyline cs start ps) ≡ source.drawn false (source.walk_polyline cs start ps)
  line_as_source ps e =
      ap (drawn false) (line_same cs nz even start ps (start_good cs nz even phase period some).1 e)
      ∙ calm_drawn false (source.walk_polyline cs start ps) (calm_line cs start ps)

  all_from : (ps : List (List Vec2)) → source.any_meets cs start ps ≡ false → walk_all cs start ps ≡ source.walk_all cs start ps
  all_from [] e = refl
  all_from (p ∷ ps) e =
      ap (λ (l : List Segment). l ++ walk_all cs start ps) (line_as_source p (or_first (source.meets cs start p) (source.any_meets cs start ps) e))
      ∙ ap (λ (l : List Segment). source.drawn false (source.walk_polyline cs start p) ++ l) (all_from ps (or_rest (source.meets cs start p) (source.any_meets cs start ps) e))

  -- one polyline, and all of them
  pub walk_as_source : (ps : List Vec2) → source.meets cs start ps ≡ false → drawn false (walk_polyline cs (start_of cs phase period) ps) ≡ source.drawn false (source.walk_polyline cs start ps)
  walk_as_source ps e = ap (λ (s : Pos). drawn false (walk_polyline cs s ps)) start_as_source ∙ line_as_source ps e

  pub all_as_source : (ps : List (List Vec2)) → source.any_meets cs start ps ≡ false → walk_all cs (start_of cs phase period) ps ≡ source.walk_all cs start ps
  all_as_source ps e = ap (λ (s : Pos). walk_all cs s ps) start_as_source ∙ all_from ps e
