-- Counting: that the count is the number of segments drawn, and that counting is a pen. Assumes nothing.
use mathlib.Core.Path.{◌≡◌, refl, sym, ◌∙◌, ap}
use Prim.Native.Nat.{ℕ, ◌+◌, ◌^◌, ◌≤◌, ◌<◌}
use native.Mathlib.Omega.{arith}
use native.Mathlib.Nat.{add-zero}
use mathlib.Core.Bool.{Bool, true, false, not, cond}
use mathlib.Core.List.{List, [], ◌∷◌}
use lib.ListN.{length, length-append}
use lib.Dec.{ltb, leb}
use borrow.Author.Tests.{ltb-true, ltb-false, lt-ltb, le-leb, lt-leb}
use Rattle.vec2.specs.declared.Vec2.{Vec2}
use Rattle.events.specs.declared.Event.{Event}
use Rattle.events.specs.declared.Event.TheVariants.{Nothing, Cut, Reach, Pass}
use Rattle.events.specs.Drawn.{down_to, drawn}
use Rattle.strokes.specs.declared.Tip.{Tip}
use Rattle.strokes.specs.Pen.{told_all, TakesAll, Unless, draws, begun_at, Laws}
use Rattle.strokes.specs.Count.{tally_stroke, tally_event, tally, Count, count_event, count_begin, is_over, Counts, CountsBegin}
use Rattle.strokes.proofs.Pens.{full_is}

-- ---- what is counted is what is drawn

stroke_count : (d : Bool) (n m : ℕ) (a z : Vec2) → n + cond d 1 2 + m ≡ n + (length (down_to d a z) + m)
stroke_count true n m a z = omega arith
stroke_count false n m a z = omega arith

tally_drawn : (k : Tip) (es : List Event) → (tally k es).at ≡ k.at + length (drawn k.down es)
tally_drawn k [] = sym (add-zero k.at)
tally_drawn k (Nothing ∷ es) = tally_drawn (record { at = k.at; down = false }) es
tally_drawn k (Cut a z ∷ es) =
    tally_drawn (tally_stroke k false) es
    ∙ stroke_count k.down k.at (length (drawn false es)) a z
    ∙ ap (λ (n : ℕ). k.at + n) (sym (length-append (down_to k.down a z) (drawn false es)))
tally_drawn k (Reach a c ∷ es) =
    tally_drawn (tally_stroke k true) es
    ∙ stroke_count k.down k.at (length (drawn true es)) a c
    ∙ ap (λ (n : ℕ). k.at + n) (sym (length-append (down_to k.down a c) (drawn true es)))
tally_drawn k (Pass c ∷ es) = tally_drawn (record { at = k.at; down = false }) es

-- ---- counting is a pen

-- a count does not fall
event_grows : (k : Tip) (e : Event) → k.at ≤ (tally_event k e).at
event_grows k Nothing = omega arith
event_grows k (Cut a z) = omega arith
event_grows k (Reach a c) = omega arith
event_grows k (Pass c) = omega arith

begun_so : (k : Count) (a : Vec2) (e : Event) → draws e ≡ true → count_event (count_begin k a) e ≡ count_event (count_event k Nothing) (begun_at a e)
begun_so k a Nothing h = refl
begun_so k a (Cut b z) h = refl
begun_so k a (Reach b c) h = refl
begun_so k a (Pass c) h = refl

pub count_laws : Laws count_event count_begin is_over Counts CountsBegin
count_laws =
    record {
      stays = λ k e h. lt-ltb k.cap (tally_event k.tip e).at (omega (arith, ltb-true _ _ h, event_grows k.tip e));
      lifted = λ k. refl;
      begun_so = begun_so;
      begins_so = λ k a e h t. (tt, t);
    }

pub counts_all : (k : Count) (es : List Event) → k.cap < 2 ^ 61 → k.tip.at ≤ k.cap → TakesAll count_event is_over Counts k es
counts_all k [] c h = tt
counts_all k (e ∷ es) c h = (omega (arith, c, h), λ n. counts_all (count_event k e) es c (ltb-false _ _ n))

-- ---- whether all fits

count_is : (k : Count) (es : List Event) → told_all count_event k es ≡ record { tip = tally k.tip es; cap = k.cap }
count_is k [] = refl
count_is k (e ∷ es) = count_is (count_event k e) es

not_over : (cap n : ℕ) → not (ltb cap n) ≡ leb n cap
not_over cap n = go (ltb cap n) refl
  where
    go : (b : Bool) → ltb cap n ≡ b → not b ≡ leb n cap
    go true e = sym (lt-leb n cap (ltb-true cap n e))
    go false e = sym (le-leb n cap (ltb-false cap n e))

pub count_fits : (k r : Count) (es : List Event) → Unless is_over (told_all count_event k es) r → not (is_over r) ≡ leb (k.tip.at + length (drawn k.tip.down es)) k.cap
count_fits k r es u =
    ap not (full_is u ∙ ap is_over (count_is k es))
    ∙ not_over k.cap (tally k.tip es).at
    ∙ ap (λ (n : ℕ). leb n k.cap) (tally_drawn k.tip es)
