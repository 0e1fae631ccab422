-- The walk by any pen: what a leg's loop keeps, its turns, an interval that ended where the leg begins, and one leg behind another. Assumes nothing.
use mathlib.Core.Path.{◌≡◌, refl, sym, ◌∙◌, ap, subst}
use Prim.Native.Nat.{◌<◌}
use mathlib.Core.Bool.{Bool, true, false, cond, true≢false}
use mathlib.Core.List.{List, [], ◌∷◌, ◌++◌}
use lib.ListN.{length}
use lib.Dec.{T}
use lib.Ieee.{Float, binary32, fits}
use lib.Ieee.Fits.{add-fits}
use lib.Ieee.Bits.{of_bits-fits}
use Rattle.float.specs.Arith.{plus, f0}
use Rattle.vec2.specs.declared.Vec2.{Vec2}
use Rattle.events.specs.declared.Pos.{Pos}
use Rattle.events.specs.declared.Leg.{Leg}
use Rattle.events.specs.declared.Event.{Event}
use Rattle.events.specs.declared.Event.TheVariants.{Nothing, Cut, Reach, Pass}
use Rattle.events.specs.declared.Place.{Place}
use Rattle.events.specs.Walk.{inside, resting, rested, goes, onward, tells, place, Told, nothing_left, cut_from, turned, beginning_at, cut_leg, passed, is_walked, leg_of, walk_from, walk_polyline}
use Rattle.strokes.specs.Pen.{told_all, TakesAll, Unless, Led, draws, begun_at, begun_by, BeginsBy, Laws}
use Rattle.strokes.specs.Lengths.{all_legs}
use Rattle.events.proofs.Turns.{cut_stop, cut_step}

-- ---- a leg's first event

-- what a leg tells begins with an event, which draws where the interval is drawn
pub record Head (d : Bool) (es : List Event) : Type 0 where
  pub first : Event
  pub rest : List Event
  pub is : es ≡ first ∷ rest
  pub drawn : d ≡ draws first

inside_draws : (g : Leg) (p : Pos) (t : Float) → p.drawing ≡ draws (inside g p t)
inside_draws g p t = go p.drawing
  where
    go : (d : Bool) → d ≡ draws (inside g (record { index = p.index; left = p.left; drawing = d }) t)
    go true = refl
    go false = refl

resting_draws : (g : Leg) (p : Pos) (t : Float) → p.drawing ≡ draws (resting g p t)
resting_draws g p t = go p.drawing
  where
    go : (d : Bool) → d ≡ draws (resting g (record { index = p.index; left = p.left; drawing = d }) t)
    go true = refl
    go false = refl

head : (cs : List Float) (g : Leg) (q : Place) → T (fits binary32 q.t) → Head q.pos.drawing (cut_from cs g q).events
head cs g q f = go (goes cs g q) refl
  where
    go : (b : Bool) → goes cs g q ≡ b → Head q.pos.drawing (cut_from cs g q).events
    go true e =
        record {
          first = tells cs g q;
          rest = (cut_from cs g (onward cs g q)).events;
          is = ap (λ (c : Told). c.events) (cut_step cs g q f e);
          drawn = inside_draws g q.pos (plus q.t q.pos.left);
        }
    go false e = record { first = resting g q.pos q.t; rest = []; is = ap (λ (c : Told). c.events) (cut_stop cs g q e); drawn = resting_draws g q.pos q.t }

begins_with : (a : Vec2) (e : Event) (es : List Event) → beginning_at a (e ∷ es) ≡ begun_at a e ∷ es
begins_with a Nothing es = refl
begins_with a (Cut b z) es = refl
begins_with a (Reach b c) es = refl
begins_with a (Pass c) es = refl

-- where nothing is drawn nothing begins
undrawn : (a : Vec2) (e : Event) → draws e ≡ false → e ≡ begun_at a e
undrawn a Nothing h = refl
undrawn a (Cut b z) h = absurd (true≢false h)
undrawn a (Reach b c) h = absurd (true≢false h)
undrawn a (Pass c) h = refl

-- ---- a leg that is walked

pub did : (b : Bool) (cs : List Float) (g : Leg) (p : Pos) → b ≡ true → cut_leg (nothing_left p) cs g p ≡ passed b cs g p
did true cs g p h = refl
did false cs g p h = absurd (true≢false (sym h))

-- ---- a pen that is full, or not

pub full_is : {S : Type 0} {full : S → Bool} {all r : S} → Unless full all r → full r ≡ full all
full_is {full = full} {all = all} {r = r} u = go (full r) refl
  where
    go : (b : Bool) → full r ≡ b → b ≡ full all
    go true e = sym (u.over e)
    go false e = sym e ∙ ap full (u.exact e)

-- ---- what the loops keep

-- one leg behind another
abbrev pub walk_legs : List Float → List Leg → Pos → List Event
walk_legs cs [] p = []
walk_legs cs (g ∷ gs) p =
    let c = passed (is_walked g) cs g p in
    c.events ++ walk_legs cs gs c.pos

module _ {S : Type 0} (told : S → Event → S) (full : S → Bool) (takes : S → Event → Type 0) (cs : List Float) where
  -- what is left to tell from q on, to the pen as it is, ends as what there was to tell from q₀ on, to the pen as it was
  pub record Going (g : Leg) (s₀ : S) (q₀ : Place) (s : S) (q : Place) : Type 0 where
    pub walked : (cut_from cs g q).pos ≡ (cut_from cs g q₀).pos
    pub same : told_all told s (cut_from cs g q).events ≡ told_all told s₀ (cut_from cs g q₀).events
    pub fit : T (fits binary32 q.t)
    pub indexed : q.pos.index < length cs
    pub taken : TakesAll told full takes s (cut_from cs g q).events

  -- the same of a polyline, where there was all to tell, and the legs gs are left
  pub record Line (s₀ : S) (all : List Event) (gs : List Leg) (s : S) (p : Pos) : Type 0 where
    pub same : told_all told s (walk_legs cs gs p) ≡ told_all told s₀ all
    pub taken : TakesAll told full takes s (walk_legs cs gs p)
    pub free : full s ≡ false
    pub indexed : p.index < length cs

module _ {S : Type 0} {told : S → Event → S} {begun : S → Vec2 → S} {full : S → Bool} {takes : S → Event → Type 0} {begins : S → Vec2 → Type 0}
    (laws : Laws told begun full takes begins) where
  told_append : (s : S) (es fs : List Event) → told_all told s (es ++ fs) ≡ told_all told (told_all told s es) fs
  told_append s [] fs = refl
  told_append s (e ∷ es) fs = told_append (told s e) es fs

  -- a pen that is full stays so, and one that is not full at the end is not full before
  full_all : (s : S) (es : List Event) → full s ≡ true → full (told_all told s es) ≡ true
  full_all s [] h = h
  full_all s (e ∷ es) h = full_all (told s e) es (laws.stays s e h)

  not_before : (s : S) (es : List Event) → full (told_all told s es) ≡ false → full s ≡ false
  not_before s es h = go (full s) refl
    where
      go : (b : Bool) → full s ≡ b → b ≡ false
      go true e = absurd (true≢false (sym (full_all s es e) ∙ h))
      go false e = refl

  pub takes_first : (s : S) (es fs : List Event) → TakesAll told full takes s (es ++ fs) → TakesAll told full takes s es
  takes_first s [] fs t = tt
  takes_first s (e ∷ es) fs t = (t.0, λ n. takes_first (told s e) es fs (t.1 n))

  takes_rest : (s : S) (es fs : List Event) → TakesAll told full takes s (es ++ fs) → full (told_all told s es) ≡ false → TakesAll told full takes (told_all told s es) fs
  takes_rest s [] fs t h = t
  takes_rest s (e ∷ es) fs t h = takes_rest (told s e) es fs (t.1 (not_before (told s e) es h)) h

  -- a pen that went through to the end
  pub through : {all r : S} → r ≡ all → Unless full all r
  through e = record { exact = λ n. e; over = λ n. subst (λ (z : S). full z ≡ true) e n }

  -- one part, and what is told behind it
  module _ (s r : S) (es fs : List Event) (u : Unless full (told_all told s es) r) where
    pub part_over : full r ≡ true → full (told_all told s (es ++ fs)) ≡ true
    part_over f = subst (λ (z : S). full z ≡ true) (sym (told_append s es fs)) (full_all (told_all told s es) fs (u.over f))

    pub part_on : full r ≡ false → told_all told r fs ≡ told_all told s (es ++ fs)
    part_on f = ap (λ (z : S). told_all told z fs) (u.exact f) ∙ sym (told_append s es fs)

    pub part_left : full r ≡ false → TakesAll told full takes s (es ++ fs) → TakesAll told full takes r fs
    part_left f t =
        let e = u.exact f in
        subst (λ (z : S). TakesAll told full takes z fs) (sym e) (takes_rest s es fs t (subst (λ (z : S). full z ≡ false) e f))

  -- ---- a leg's loop

  module _ {cs : List Float} {g : Leg} {s₀ : S} {q₀ : Place} (s : S) (q : Place) (i : Going told full takes cs g s₀ q₀ s q) where
    stepped : (c : Told) → cut_from cs g q ≡ c → TakesAll told full takes s c.events
    stepped c e = subst (λ (z : Told). TakesAll told full takes s z.events) e i.taken

    -- an interval ends inside the leg, by the event e
    module _ (h : goes cs g q ≡ true) {e : Event} (is : e ≡ tells cs g q) where
      pub cut_taken : takes s e
      cut_taken = subst (takes s) (sym is) (stepped _ (cut_step cs g q i.fit h)).0

      module _ (s' : S) (es : s' ≡ told s e) where
        made : s' ≡ told s (tells cs g q)
        made = es ∙ ap (told s) is

        onward_same : told_all told s' (cut_from cs g (onward cs g q)).events ≡ told_all told s₀ (cut_from cs g q₀).events
        onward_same =
            ap (λ (z : S). told_all told z (cut_from cs g (onward cs g q)).events) made
            ∙ sym (ap (λ (c : Told). told_all told s c.events) (cut_step cs g q i.fit h))
            ∙ i.same

        -- the pen is full inside the leg
        pub filled : full s' ≡ true → (p : Pos) → p.index < length cs → Led told full (length cs) s₀ (cut_from cs g q₀) s' p
        filled f p ip =
            record {
              led =
                  record {
                    exact = λ n. absurd (true≢false (sym f ∙ n));
                    over = λ n. subst (λ (z : S). full z ≡ true) onward_same (full_all s' (cut_from cs g (onward cs g q)).events f);
                  };
              walked = λ n. absurd (true≢false (sym f ∙ n));
              indexed = ip;
            }

        pub going_on : full s' ≡ false → (p' : Pos) → p' ≡ turned cs q.pos → p'.index < length cs → Going told full takes cs g s₀ q₀ s' (place p' (plus q.t q.pos.left))
        going_on f p' ep ip =
            let t' = plus q.t q.pos.left in
            let e : place p' t' ≡ onward cs g q = ap (λ (p : Pos). place p t') ep in
            let rest = (stepped _ (cut_step cs g q i.fit h)).1 (subst (λ (z : S). full z ≡ false) made f) in
            record {
              walked = ap (λ (z : Place). (cut_from cs g z).pos) e ∙ sym (ap (λ (c : Told). c.pos) (cut_step cs g q i.fit h)) ∙ i.walked;
              same = ap (λ (z : Place). told_all told s' (cut_from cs g z).events) e ∙ onward_same;
              fit = add-fits binary32 q.t q.pos.left;
              indexed = ip;
              taken =
                  subst (λ (z : Place). TakesAll told full takes s' (cut_from cs g z).events) (sym e)
                  (subst (λ (z : S). TakesAll told full takes z (cut_from cs g (onward cs g q)).events) (sym made) rest);
            }

    -- the rest of the leg lies inside the interval, by the event e
    module _ (h : goes cs g q ≡ false) {e : Event} (is : e ≡ resting g q.pos q.t) where
      pub rest_taken : takes s e
      rest_taken = subst (takes s) (sym is) (stepped _ (cut_stop cs g q h)).0

      pub gone : (s' : S) → s' ≡ told s e → (p' : Pos) → p' ≡ rested g q.pos q.t → Led told full (length cs) s₀ (cut_from cs g q₀) s' p'
      gone s' es p' ep =
          let stop = cut_stop cs g q h in
          record {
            led = through (es ∙ ap (told s) is ∙ sym (ap (λ (c : Told). told_all told s c.events) stop) ∙ i.same);
            walked = λ n. ep ∙ sym (ap (λ (c : Told). c.pos) stop) ∙ i.walked;
            indexed = subst (λ (p : Pos). p.index < length cs) (sym ep) i.indexed;
          }

  -- ---- an interval that ended where the leg begins

  module _ (cs : List Float) (g : Leg) (p : Pos) (s : S) where
    abbrev next : Place
    next = place (turned cs p) f0

    abbrev first : S
    first = begun_by told begun s g.from (turned cs p).drawing

    module _ (h : Head (turned cs p).drawing (cut_from cs g next).events) where
      all_is : beginning_at g.from (cut_from cs g next).events ≡ begun_at g.from h.first ∷ h.rest
      all_is = ap (beginning_at g.from) h.is ∙ begins_with g.from h.first h.rest

      begun_is : told first h.first ≡ told (told s Nothing) (begun_at g.from h.first)
      begun_is = go (turned cs p).drawing h.drawn
        where
          go : (d : Bool) → d ≡ draws h.first → told (begun_by told begun s g.from d) h.first ≡ told (told s Nothing) (begun_at g.from h.first)
          go true e = laws.begun_so s g.from h.first (sym e)
          go false e = ap (told (told s Nothing)) (undrawn g.from h.first (sym e))

      same_as : told_all told first (cut_from cs g next).events ≡ told_all told s (cut_leg true cs g p).events
      same_as =
          ap (told_all told first) h.is
          ∙ ap (λ (z : S). told_all told z h.rest) begun_is
          ∙ sym (ap (told_all told (told s Nothing)) all_is)

      module _ (free : full s ≡ false) (t : TakesAll told full takes s (cut_leg true cs g p).events) where
        left : TakesAll told full takes (told s Nothing) (begun_at g.from h.first ∷ h.rest)
        left = subst (TakesAll told full takes (told s Nothing)) all_is (t.1 (laws.lifted s ∙ free))

        pair : BeginsBy takes begins s g.from (turned cs p).drawing × takes first h.first
        pair = go (turned cs p).drawing h.drawn
          where
            go : (d : Bool) → d ≡ draws h.first → BeginsBy takes begins s g.from d × takes (begun_by told begun s g.from d) h.first
            go true e = laws.begins_so s g.from h.first (sym e) left.0
            go false e = (t.0, subst (takes (told s Nothing)) (sym (undrawn g.from h.first (sym e))) left.0)

        taken_as : TakesAll told full takes first (cut_from cs g next).events
        taken_as = subst (TakesAll told full takes first) (sym h.is) (pair.1, λ n. subst (λ (z : S). TakesAll told full takes z h.rest) (sym begun_is) (left.1 (subst (λ (z : S). full z ≡ false) begun_is n)))

    begun_head : Head (turned cs p).drawing (cut_from cs g next).events
    begun_head = head cs g next (of_bits-fits binary32 0)

    module _ (free : full s ≡ false) where
      pub turn_begins : (b : Bool) → TakesAll told full takes s (cut_leg b cs g p).events → b ≡ true → BeginsBy takes begins s g.from (turned cs p).drawing
      turn_begins true t h = (pair begun_head free t).0
      turn_begins false t h = absurd (true≢false (sym h))

      taken_by : (b : Bool) → TakesAll told full takes s (cut_leg b cs g p).events → TakesAll told full takes (cond b first s) (cut_from cs g (place (cond b (turned cs p) p) f0)).events
      taken_by true t = taken_as begun_head free t
      taken_by false t = t

      -- from where the code has turned
      pub turn_taken : (b : Bool) → TakesAll told full takes s (cut_leg b cs g p).events → (s' : S) → s' ≡ cond b first s → (p' : Pos) → p' ≡ cond b (turned cs p) p →
          TakesAll told full takes s' (cut_from cs g (place p' f0)).events
      turn_taken b t s' es p' ep =
          subst (λ (z : S). TakesAll told full takes z (cut_from cs g (place p' f0)).events) (sym es)
          (subst (λ (z : Pos). TakesAll told full takes (cond b first s) (cut_from cs g (place z f0)).events) (sym ep) (taken_by b t))

    -- by any pen; `Lines.turn_lays` says it of laying
    pub same_by : (b : Bool) → told_all told (cond b first s) (cut_from cs g (place (cond b (turned cs p) p) f0)).events ≡ told_all told s (cut_leg b cs g p).events
    same_by true = same_as begun_head
    same_by false = refl

    goes_by : (b : Bool) → (cut_from cs g (place (cond b (turned cs p) p) f0)).pos ≡ (cut_leg b cs g p).pos
    goes_by true = refl
    goes_by false = refl

    pub turn_led : (b : Bool) (s' : S) → s' ≡ cond b first s → (p' : Pos) → p' ≡ cond b (turned cs p) p → (r : S) (q : Pos) →
        Led told full (length cs) s' (cut_from cs g (place p' f0)) r q → Led told full (length cs) s (cut_leg b cs g p) r q
    turn_led b s' es p' ep r q l =
        let e =
        ap (λ (z : S). told_all told z (cut_from cs g (place p' f0)).events) es
        ∙ ap (λ (z : Pos). told_all told (cond b first s) (cut_from cs g (place z f0)).events) ep
        ∙ same_by b in
        record {
          led = subst (λ (z : S). Unless full z r) e l.led;
          walked = λ n. l.walked n ∙ ap (λ (z : Pos). (cut_from cs g (place z f0)).pos) ep ∙ goes_by b;
          indexed = l.indexed;
        }

  -- ---- a polyline

  module _ (cs : List Float) where
    legs_are : (ps : List Vec2) (p : Pos) → walk_legs cs (all_legs ps) p ≡ walk_polyline cs p ps
    unfolding walk_from
    legs_are [] p = refl
    legs_are (a ∷ []) p = refl
    legs_are (a ∷ b ∷ ps) p =
        let c = passed (is_walked (leg_of a b)) cs (leg_of a b) p in
        ap (λ (es : List Event). c.events ++ es) (legs_are (b ∷ ps) c.pos)

    pub line_start : (ps : List Vec2) (s : S) (p : Pos) → TakesAll told full takes s (walk_polyline cs p ps) → full s ≡ false → p.index < length cs →
        Line told full takes cs s (walk_polyline cs p ps) (all_legs ps) s p
    line_start ps s p t f h =
        record {
          same = ap (told_all told s) (legs_are ps p);
          taken = subst (TakesAll told full takes s) (sym (legs_are ps p)) t;
          free = f;
          indexed = h;
        }

    module _ {s₀ : S} {all : List Event} {gs : List Leg} {s : S} {p : Pos} (i : Line told full takes cs s₀ all gs s p) where
      pub line_end : gs ≡ [] → Unless full (told_all told s₀ all) s
      line_end e = through (sym (ap (λ (l : List Leg). told_all told s (walk_legs cs l p)) e) ∙ i.same)

      module _ {g : Leg} {rest : List Leg} (e : gs ≡ g ∷ rest) where
        abbrev c : Told
        c = passed (is_walked g) cs g p

        takes_all : TakesAll told full takes s (c.events ++ walk_legs cs rest c.pos)
        takes_all = subst (λ (l : List Leg). TakesAll told full takes s (walk_legs cs l p)) e i.taken

        tells_all : told_all told s (c.events ++ walk_legs cs rest c.pos) ≡ told_all told s₀ all
        tells_all = sym (ap (λ (l : List Leg). told_all told s (walk_legs cs l p)) e) ∙ i.same

        pub line_taken : TakesAll told full takes s c.events
        line_taken = takes_first s c.events (walk_legs cs rest c.pos) takes_all

        module _ (r : S) (q : Pos) (l : Led told full (length cs) s c r q) where
          pub line_over : full r ≡ true → Unless full (told_all told s₀ all) r
          line_over f =
              record {
                exact = λ n. absurd (true≢false (sym f ∙ n));
                over = λ n. subst (λ (z : S). full z ≡ true) tells_all (part_over s r c.events (walk_legs cs rest c.pos) l.led f);
              }

          pub line_on : full r ≡ false → Line told full takes cs s₀ all rest r q
          line_on f =
              record {
                same = ap (λ (z : Pos). told_all told r (walk_legs cs rest z)) (l.walked f) ∙ part_on s r c.events (walk_legs cs rest c.pos) l.led f ∙ tells_all;
                taken = subst (λ (z : Pos). TakesAll told full takes r (walk_legs cs rest z)) (sym (l.walked f)) (part_left s r c.events (walk_legs cs rest c.pos) l.led f takes_all);
                free = f;
                indexed = l.indexed;
              }
