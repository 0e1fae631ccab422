-- The laws of the walk of many polylines, one behind another. Assumes nothing.
use mathlib.Core.Path.{◌≡◌, refl, sym, ◌∙◌, ap, subst}
use Prim.Native.Nat.{ℕ, zero, suc, ◌+◌, ◌-◌, ◌*◌, ◌≤◌, ◌<◌}
use native.Mathlib.Omega.{arith}
use mathlib.Core.Bool.{Bool, true, false, true≢false}
use mathlib.Core.List.{List, [], ◌∷◌, ◌++◌}
use lib.ListN.{length, get_or, take, drop}
use lib.Seq.{drop-drop}
use lib.Ieee.{Float}
use Rattle.vec2.specs.declared.Vec2.{Vec2}
use Rattle.vec2.specs.Vec2.{vec}
use Rattle.vec2.specs.Points.{points_in}
use Rattle.polyline.specs.Polylines.{polylines}
use Rattle.events.specs.declared.Pos.{Pos}
use Rattle.events.specs.declared.Event.{Event}
use Rattle.events.specs.declared.Event.TheVariants.{Nothing}
use Rattle.events.specs.Walk.{walk_polyline}
use Rattle.strokes.specs.Pen.{told_all, TakesAll, Unless, Laws, all_events}
use Rattle.strokes.proofs.Pens.{takes_first, part_over, part_on, part_left}
use Rattle.vec2.proofs.Lists.{drop-next}
use Rattle.outline.specs.Ends.{Ordered}
use Rattle.std.specs.Coded.{Unit-prop}
use Rattle.std.proofs.Props.{props}

-- ---- points in a part of the floats

points_drop : (n : ℕ) (fs : List Float) → points_in (drop (2 * n) fs) ≡ drop n (points_in fs)
points_drop zero fs = refl
points_drop (suc n) [] = let e : 2 * suc n ≡ suc (suc (2 * n)) = omega arith in rw e
points_drop (suc n) (a ∷ []) = let e : 2 * suc n ≡ suc (suc (2 * n)) = omega arith in rw e
points_drop (suc n) (a ∷ b ∷ fs) = let e : 2 * suc n ≡ suc (suc (2 * n)) = omega arith in rw e (points_drop n fs)

points_take : (n : ℕ) (fs : List Float) → points_in (take (2 * n) fs) ≡ take n (points_in fs)
points_take zero fs = refl
points_take (suc n) [] = let e : 2 * suc n ≡ suc (suc (2 * n)) = omega arith in rw e
points_take (suc n) (a ∷ []) = let e : 2 * suc n ≡ suc (suc (2 * n)) = omega arith in rw e
points_take (suc n) (a ∷ b ∷ fs) = let e : 2 * suc n ≡ suc (suc (2 * n)) = omega arith in rw e (ap (λ (l : List Vec2). vec a b ∷ l) (points_take n fs))

points_part : (from e : ℕ) (fs : List Float) → from ≤ e → points_in (take (2 * e - 2 * from) (drop (2 * from) fs)) ≡ take (e - from) (drop from (points_in fs))
points_part from e fs h =
    let d : 2 * e - 2 * from ≡ 2 * (e - from) = omega arith in
    rw d (points_take (e - from) (drop (2 * from) fs) ∙ ap (take (e - from)) (points_drop from fs))

drop-on : {A : Type 0} (from e : ℕ) (l : List A) → from ≤ e → drop (e - from) (drop from l) ≡ drop e l
drop-on from e l h = let d : from + (e - from) ≡ e = omega arith in drop-drop (e - from) from l ∙ ap (λ (k : ℕ). drop k l) d

-- ---- ends in order

-- a fact with at most one proof
pub Ordered-prop : (n from : ℕ) (es : List ℕ) → IsProp (Ordered n from es)
Ordered-prop n from [] = Unit-prop
Ordered-prop n from (e ∷ es) = Prim.hlevel (props, Ordered-prop n e es)

-- ---- polylines

module _ (cs : List Float) (start : Pos) (fs : List Float) where
  -- what is left to tell: the polylines from the point `from` on, which end at es
  abbrev pub left : ℕ → List ℕ → List Event
  left from es = all_events cs start (polylines from (drop from (points_in fs)) es)

  -- the first of them, as the code hands it on
  abbrev pub one : ℕ → ℕ → List Event
  one from e = Nothing ∷ walk_polyline cs start (points_in (take (2 * e - 2 * from) (drop (2 * from) fs)))

  left_on : (from e : ℕ) (es : List ℕ) → from ≤ e → left from (e ∷ es) ≡ one from e ++ left e es
  left_on from e es h =
      let w : List Vec2 → List Event = λ l. Nothing ∷ walk_polyline cs start l in
      ap (λ (l : List Vec2). w (take (e - from) (drop from (points_in fs))) ++ all_events cs start (polylines e l es)) (drop-on from e (points_in fs) h)
      ∙ sym (ap (λ (l : List Vec2). w l ++ left e es) (points_part from e fs h))

  -- what the loop over the polylines keeps, where the next one begins at the point `from` and ends at es
  pub record Polylines {S : Type 0} (told : S → Event → S) (full : S → Bool) (takes : S → Event → Type 0) (ends : List ℕ) (s₀ : S) (from : ℕ) (es : List ℕ) (s : S) : Type 0 where
    pub same : told_all told s (left from es) ≡ told_all told s₀ (left 0 ends)
    pub taken : TakesAll told full takes s (left from es)
    pub free : full s ≡ false
    pub ordered : Ordered (length fs) from es
    pub inside : 2 * from ≤ length fs

  module _ {S : Type 0} {told : S → Event → S} {begun : S → Vec2 → S} {full : S → Bool} {takes : S → Event → Type 0} {begins : S → Vec2 → Type 0}
      (laws : Laws told begun full takes begins) {ends : List ℕ} {s₀ : S} (from j : ℕ) (s : S) (h : j < length ends) (i : Polylines told full takes ends s₀ from (drop j ends) s) where
    abbrev end : ℕ
    end = get_or ends j 0

    ends_on : drop j ends ≡ end ∷ drop (j + 1) ends
    ends_on = drop-next ends j 0 h

    pub in_order : (from ≤ end) × (2 * end ≤ length fs) × Ordered (length fs) end (drop (j + 1) ends)
    in_order = subst (Ordered (length fs) from) ends_on i.ordered

    next_is : left from (drop j ends) ≡ one from end ++ left end (drop (j + 1) ends)
    next_is = ap (left from) ends_on ∙ left_on from end (drop (j + 1) ends) in_order.0

    both_taken : TakesAll told full takes s (one from end ++ left end (drop (j + 1) ends))
    both_taken = subst (TakesAll told full takes s) next_is i.taken

    pub one_taken : TakesAll told full takes s (one from end)
    one_taken = takes_first laws s (one from end) (left end (drop (j + 1) ends)) both_taken

    module _ (r : S) (u : Unless full (told_all told s (one from end)) r) where
      pub one_over : full r ≡ true → Unless full (told_all told s₀ (left 0 ends)) r
      one_over f =
          record {
            exact = λ n. absurd (true≢false (sym f ∙ n));
            over = λ n. subst (λ (z : S). full z ≡ true) (sym (ap (told_all told s) next_is) ∙ i.same) (part_over laws s r (one from end) (left end (drop (j + 1) ends)) u f);
          }

      pub one_on : full r ≡ false → Polylines told full takes ends s₀ end (drop (j + 1) ends) r
      one_on f =
          record {
            same = part_on laws s r (one from end) (left end (drop (j + 1) ends)) u f ∙ sym (ap (told_all told s) next_is) ∙ i.same;
            taken = part_left laws s r (one from end) (left end (drop (j + 1) ends)) u f both_taken;
            free = f;
            ordered = in_order.2;
            inside = in_order.1;
          }
