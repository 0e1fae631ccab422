-- Laying events step by step lays the segments that they draw, and laying is a pen. Assumes nothing.
use mathlib.Core.Path.{◌≡◌, refl, sym, ◌∙◌, ap, subst}
use Prim.Native.Nat.{ℕ, suc, ◌+◌, ◌*◌}
use native.Mathlib.Omega.{arith}
use native.Mathlib.Nat.{add-zero}
use mathlib.Core.Bool.{Bool, true, false, true≢false}
use mathlib.Core.List.{List, [], ◌∷◌, ◌++◌, append_assoc}
use lib.ListN.{length, length-append, length-set}
use lib.Ieee.{Float}
use lib.Seq.{sets}
use Rattle.path.proofs.Encoded.{all_points-append}
use Rattle.vec2.specs.declared.Vec2.{Vec2}
use Rattle.vec2.specs.Points.{flat}
use Rattle.path.specs.declared.Segment.{Segment}
use Rattle.path.specs.Segment.{bytes_of, all_points}
use Rattle.events.specs.declared.Event.{Event}
use Rattle.events.specs.declared.Event.TheVariants.{Nothing, Cut, Reach, Pass}
use Rattle.events.specs.Drawn.{down_to, drawn}
use Rattle.events.specs.declared.Pos.{Pos}
use Rattle.events.specs.Walk.{walk_polyline, walk_all}
use Rattle.strokes.specs.Pen.{TakesAll, all_events, draws, begun_at, Laws}
use Rattle.strokes.specs.Lay.{Out, Room, Sheet, laid, lay_verb, stroke, lay_event, lay_all, lay_begin, Lays, LaysBegin, never}

-- ---- one verb after the other

one_laid : (o : Out) (v : ℕ) (p : Vec2) (bs : List ℕ) (ps : List Vec2) (m n : ℕ) →
    ◌≡◌ {A = Out} (record { verbs = sets (lay_verb o v p).verbs (o.at + 1) bs; floats = sets (lay_verb o v p).floats (2 * (o.used + 1)) (flat ps); at = o.at + 1 + m; used = o.used + 1 + n })
    (record { verbs = sets o.verbs o.at (v ∷ bs); floats = sets o.floats (2 * o.used) (p.x ∷ p.y ∷ flat ps); at = o.at + suc m; used = o.used + suc n })
one_laid o v p bs ps m n =
    let a : o.at + 1 ≡ suc o.at = omega arith in
    let b : 2 * o.used + 1 ≡ suc (2 * o.used) = omega arith in
    let c : 2 * (o.used + 1) ≡ suc (suc (2 * o.used)) = omega arith in
    let d : o.at + 1 + m ≡ o.at + suc m = omega arith in
    let e : o.used + 1 + n ≡ o.used + suc n = omega arith in
    cc

stroke_laid : (d : Bool) (o : Out) (a z : Vec2) (ss : List Segment) → laid (stroke d o a z) ss ≡ laid o (down_to d a z ++ ss)
stroke_laid true o a z ss = one_laid o 1 z (bytes_of ss) (all_points ss) (length ss) (length (all_points ss))
stroke_laid false o a z ss =
    one_laid (lay_verb o 0 a) 1 z (bytes_of ss) (all_points ss) (length ss) (length (all_points ss))
    ∙ one_laid o 0 a (1 ∷ bytes_of ss) (z ∷ all_points ss) (suc (length ss)) (suc (length (all_points ss)))

pub laid_none : (o : Out) → o ≡ laid o []
laid_none o = simp add-zero

pub lay_drawn : (s : Sheet) (es : List Event) → (lay_all s es).page ≡ laid s.page (drawn s.down es)
lay_drawn s [] = laid_none s.page
lay_drawn s (Nothing ∷ es) = lay_drawn (lay_event s Nothing) es
lay_drawn s (Cut a z ∷ es) = lay_drawn (lay_event s (Cut a z)) es ∙ stroke_laid s.down s.page a z (drawn false es)
lay_drawn s (Reach a c ∷ es) = lay_drawn (lay_event s (Reach a c)) es ∙ stroke_laid s.down s.page a c (drawn true es)
lay_drawn s (Pass c ∷ es) = lay_drawn (lay_event s (Pass c)) es

-- ---- the events of all polylines draw what the walk of all draws

drawn_behind : (ts : List Event) (ss : List Segment) → ((d : Bool) → drawn d ts ≡ ss) → (d : Bool) (es : List Event) → drawn d (es ++ ts) ≡ drawn d es ++ ss
drawn_behind ts ss h d [] = h d
drawn_behind ts ss h d (Nothing ∷ es) = drawn_behind ts ss h false es
drawn_behind ts ss h d (Cut a z ∷ es) = ap (λ (l : List Segment). down_to d a z ++ l) (drawn_behind ts ss h false es) ∙ sym (append_assoc (down_to d a z) (drawn false es) ss)
drawn_behind ts ss h d (Reach a c ∷ es) = ap (λ (l : List Segment). down_to d a c ++ l) (drawn_behind ts ss h true es) ∙ sym (append_assoc (down_to d a c) (drawn true es) ss)
drawn_behind ts ss h d (Pass c ∷ es) = drawn_behind ts ss h false es

pub all_drawn : (cs : List Float) (start : Pos) (ps : List (List Vec2)) (d : Bool) → drawn d (all_events cs start ps) ≡ walk_all cs start ps
all_drawn cs start [] d = refl
all_drawn cs start (p ∷ ps) d = drawn_behind (all_events cs start ps) (walk_all cs start ps) (all_drawn cs start ps) false (walk_polyline cs start p)

-- ---- every verb that is drawn has one point

down_to-points : (d : Bool) (a z : Vec2) (ss : List Segment) → length (all_points ss) ≡ length ss → length (all_points (down_to d a z ++ ss)) ≡ length (down_to d a z ++ ss)
down_to-points true a z ss e = ap suc e
down_to-points false a z ss e = ap (λ (n : ℕ). suc (suc n)) e

drawn_points : (d : Bool) (es : List Event) → length (all_points (drawn d es)) ≡ length (drawn d es)
drawn_points d [] = refl
drawn_points d (Nothing ∷ es) = drawn_points false es
drawn_points d (Cut a z ∷ es) = down_to-points d a z (drawn false es) (drawn_points false es)
drawn_points d (Reach a c ∷ es) = down_to-points d a c (drawn true es) (drawn_points true es)
drawn_points d (Pass c ∷ es) = drawn_points false es

points_behind : (a b : List Segment) → length (all_points a) ≡ length a → length (all_points b) ≡ length b → length (all_points (a ++ b)) ≡ length (a ++ b)
points_behind a b p q = rw (all_points-append, length-append, length-append, p, q)

pub walk_points : (cs : List Float) (start : Pos) (ps : List (List Vec2)) → length (all_points (walk_all cs start ps)) ≡ length (walk_all cs start ps)
walk_points cs start [] = refl
walk_points cs start (p ∷ ps) = points_behind (drawn false (walk_polyline cs start p)) _ (drawn_points false (walk_polyline cs start p)) (walk_points cs _ ps)

-- ---- room

-- what is laid first has room where all has
room_front : (n m : ℕ) (o : Out) (ss : List Segment) → Room n m (laid o ss) → Room n m o
room_front n m o ss r = (omega (arith, r.0), omega (arith, r.1))

room_start : (n m : ℕ) (s : Sheet) (es : List Event) → Room n m (lay_all s es).page → Room n m s.page
room_start n m s es r = room_front n m s.page (drawn s.down es) (subst (Room n m) (lay_drawn s es) r)

-- ---- laying is a pen

-- the buffers keep their lengths
pub record Long (o o' : Out) : Type 0 where
  pub verbs : length o'.verbs ≡ length o.verbs
  pub floats : length o'.floats ≡ length o.floats

verb_long : (o : Out) (v : ℕ) (p : Vec2) → Long o (lay_verb o v p)
verb_long o v p = record { verbs = length-set o.verbs _ _; floats = length-set _ _ _ ∙ length-set o.floats _ _ }

stroke_long : (d : Bool) (o : Out) (a z : Vec2) → Long o (stroke d o a z)
stroke_long true o a z = verb_long o 1 z
stroke_long false o a z =
    let b = verb_long (lay_verb o 0 a) 1 z in
    let e = verb_long o 0 a in
    record { verbs = b.verbs ∙ e.verbs; floats = b.floats ∙ e.floats }

event_long : (s : Sheet) (e : Event) → Long s.page (lay_event s e).page
event_long s Nothing = record { verbs = refl; floats = refl }
event_long s (Cut a z) = stroke_long s.down s.page a z
event_long s (Reach a c) = stroke_long s.down s.page a c
event_long s (Pass c) = record { verbs = refl; floats = refl }

begun_so : (s : Sheet) (a : Vec2) (e : Event) → draws e ≡ true → lay_event (lay_begin s a) e ≡ lay_event (lay_event s Nothing) (begun_at a e)
begun_so s a Nothing h = absurd (true≢false (sym h))
begun_so s a (Cut b z) h = refl
begun_so s a (Reach b c) h = refl
begun_so s a (Pass c) h = absurd (true≢false (sym h))

-- a move and then a line have the room that both have
begins_so : (s : Sheet) (a : Vec2) (e : Event) → draws e ≡ true → Lays (lay_event s Nothing) (begun_at a e) → LaysBegin s a × Lays (lay_begin s a) e
begins_so s a Nothing h t = absurd (true≢false (sym h))
begins_so s a (Cut b z) h t = let l = verb_long s.page 0 a in ((omega (arith, t.0), omega (arith, t.1)), rw (l.verbs, l.floats) t)
begins_so s a (Reach b c) h t = let l = verb_long s.page 0 a in ((omega (arith, t.0), omega (arith, t.1)), rw (l.verbs, l.floats) t)
begins_so s a (Pass c) h t = absurd (true≢false (sym h))

pub lay_laws : Laws lay_event lay_begin never Lays LaysBegin
lay_laws = record { stays = λ s e h. h; lifted = λ s. refl; begun_so = begun_so; begins_so = begins_so }

pub lays_all : (s : Sheet) (es : List Event) → Room (length s.page.verbs) (length s.page.floats) (lay_all s es).page → TakesAll lay_event never Lays s es
lays_all s [] r = tt
lays_all s (e ∷ es) r =
    let l = event_long s e in
    (room_start _ _ (lay_event s e) es r, λ n. lays_all (lay_event s e) es (rw (l.verbs, l.floats) r))
