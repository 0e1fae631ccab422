-- Where an interval ends: `EndsThere` holds of every cycle. Assumes nothing.
use mathlib.Core.Path.{◌≡◌, refl, sym, ◌∙◌, ap}
use Prim.Native.Nat.{ℕ}
use mathlib.Core.Bool.{Bool, true, false}
use mathlib.Core.List.{List, [], ◌∷◌, ◌++◌, append-nil}
use lib.Ieee.{Float, binary32}
use lib.Ieee.Bits.{of_bits-fits}
use Rattle.float.specs.Arith.{f0}
use Rattle.vec2.specs.declared.Vec2.{Vec2}
use Rattle.path.specs.declared.Segment.{Segment}
use Rattle.events.specs.declared.Pos.{Pos}
use Rattle.events.specs.declared.Leg.{Leg}
use Rattle.events.specs.declared.Event.{Event}
use Rattle.events.specs.declared.Event.TheVariants.{Nothing, Cut, Reach, Pass}
use Rattle.events.specs.Walk.{nothing_left, turned, inside, Told, place, goes, cut_from, beginning_at, cut_leg, passed, leg_of, is_walked, walk_from}
use Rattle.events.specs.Drawn.{down_to, drawn}
use Rattle.events.specs.Laws.{EndsThere}
use Rattle.events.proofs.Turns.{cut_stop, cut_step}

-- ---- where a leg begins

-- a dash that events begin with is told by the first of them
first_begins : (a : Vec2) (e : Event) (es fs : List Event) → beginning_at a (e ∷ es) ++ fs ≡ beginning_at a ((e ∷ es) ++ fs)
first_begins a Nothing es fs = refl
first_begins a (Cut b z) es fs = refl
first_begins a (Reach b c) es fs = refl
first_begins a (Pass c) es fs = refl

module _ (cs : List Float) (g : Leg) (a : Vec2) (fs : List Event) where
  begins_by : (c : Told) (e : Event) (es : List Event) → c.events ≡ e ∷ es → beginning_at a c.events ++ fs ≡ beginning_at a (c.events ++ fs)
  begins_by c e es h = ap (λ (l : List Event). beginning_at a l ++ fs) h ∙ first_begins a e es fs ∙ sym (ap (λ (l : List Event). beginning_at a (l ++ fs)) h)

  leg_begins : (p : Pos) → beginning_at a (cut_from cs g (place p f0)).events ++ fs ≡ beginning_at a ((cut_from cs g (place p f0)).events ++ fs)
  leg_begins p = go (goes cs g (place p f0)) refl
    where
      c : Told
      c = cut_from cs g (place p f0)

      go : (t : Bool) → goes cs g (place p f0) ≡ t → beginning_at a c.events ++ fs ≡ beginning_at a (c.events ++ fs)
      go true h = begins_by c _ _ (ap (λ (z : Told). z.events) (cut_step cs g (place p f0) (of_bits-fits binary32 0) h))
      go false h = begins_by c _ _ (ap (λ (z : Told). z.events) (cut_stop cs g (place p f0) h))

module _ (cs : List Float) (a b : Vec2) (ps : List Vec2) (p : Pos) (down : Bool) where
  begins : is_walked (leg_of a b) ≡ true → nothing_left p ≡ true → nothing_left (turned cs p) ≡ false →
      drawn down (walk_from cs a (b ∷ ps) p) ≡ drawn false (beginning_at a (walk_from cs a (b ∷ ps) (turned cs p)))
  unfolding walk_from
  begins x y z =
      let g = leg_of a b in
      let q = turned cs p in
      let c = cut_from cs g (place q f0) in
      let rest = walk_from cs b ps c.pos in
      ap (λ (t : Told). drawn down (t.events ++ walk_from cs b ps t.pos)) (ap (λ (t : Bool). passed t cs g p) x ∙ ap (λ (t : Bool). cut_leg t cs g p) y)
      ∙ ap (drawn false) (leg_begins cs g a rest q)
      ∙ sym (ap (λ (t : Told). drawn false (beginning_at a (t.events ++ walk_from cs b ps t.pos))) (ap (λ (t : Bool). passed t cs g q) x ∙ ap (λ (t : Bool). cut_leg t cs g q) z))

-- ---- inside a leg

module _ (g : Leg) (i : ℕ) (left t : Float) (es : List Event) (down : Bool) where
  up_behind : (d : Bool) → drawn down (inside g (record { index = i; left = left; drawing = d }) t ∷ es) ≡ drawn down (inside g (record { index = i; left = left; drawing = d }) t ∷ []) ++ drawn false es
  up_behind true = ap (λ (l : List Segment). l ++ drawn false es) (sym (append-nil (down_to down _ _)))
  up_behind false = refl

pub ends_there : (cs : List Float) → EndsThere cs
ends_there cs =
    record {
      where_a_leg_begins = λ a b ps p down x y z. begins cs a b ps p down x y z;
      inside_a_leg = λ g p t es down. up_behind g p.index p.left t es down p.drawing;
    }
