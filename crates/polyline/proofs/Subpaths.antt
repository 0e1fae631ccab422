-- The subpaths of a list are its parts, one behind the other. The marks, read in one pass, are those of the subpaths with a drawn verb, and depend on the
-- verbs alone. Assumes nothing.
use mathlib.Core.Path.{◌≡◌, refl, sym, ap, ◌∙◌}
use mathlib.Core.Bool.{Bool, true, false, ◌&&◌, ◌||◌, cond, true≢false}
use mathlib.Core.List.{List, [], ◌∷◌, ◌++◌, append_assoc, append-nil, map}
use Prim.Native.Nat.{ℕ}
use lib.Dec.{eqb}
use Rattle.vec2.specs.declared.Vec2.{Vec2}
use Rattle.path.specs.declared.Segment.{Segment}
use Rattle.path.specs.declared.Segment.TheVariants.{Move, Line, Quad, Cubic, Close}
use Rattle.path.specs.Segment.{is_drawn, is_move, is_close, bytes_of}
use Rattle.polyline.specs.declared.Spot.{Spot}
use Rattle.polyline.specs.Flatten.{nowhere, moved_to, drawn_to, after_close, after, only_if}
use Rattle.polyline.specs.Pass.{marks_from}
use Rattle.polyline.specs.Polylines.{end_to_end}
use Rattle.polyline.specs.Subpaths.{subpaths_from, subpaths, any_drawn, with_drawn, is_closed, mark, mark_of, marks_out, any_move, Subpath, AllSubpaths}

-- ---- what is said of subpaths is said of the list's end, of a move, and of any other segment

module _ (P : List Segment → List Segment → List (List Segment) → Type 0)
    (end : (part : List Segment) → P part [] (part ∷ []))
    (cut : (part : List Segment) (p : Vec2) (ss : List Segment) → P (Move p ∷ []) ss (subpaths_from (Move p ∷ []) ss) → P part (Move p ∷ ss) (part ∷ subpaths_from (Move p ∷ []) ss))
    (on : (part : List Segment) (s : Segment) (ss : List Segment) → is_move s ≡ false →
    P (part ++ s ∷ []) ss (subpaths_from (part ++ s ∷ []) ss) → P part (s ∷ ss) (subpaths_from (part ++ s ∷ []) ss)) where
  pub by_parts : (ss part : List Segment) → P part ss (subpaths_from part ss)
  unfolding subpaths_from
  by_parts [] part = end part
  by_parts (Move p ∷ ss) part = cut part p ss (by_parts ss (Move p ∷ []))
  by_parts (Line p ∷ ss) part = on part (Line p) ss refl (by_parts ss (part ++ Line p ∷ []))
  by_parts (Quad c p ∷ ss) part = on part (Quad c p) ss refl (by_parts ss (part ++ Quad c p ∷ []))
  by_parts (Cubic c d p ∷ ss) part = on part (Cubic c d p) ss refl (by_parts ss (part ++ Cubic c d p ∷ []))
  by_parts (Close ∷ ss) part = on part Close ss refl (by_parts ss (part ++ Close ∷ []))

-- ---- the subpaths are what the list is cut into

-- end to end they are the list
pub subpaths_join : (ss : List Segment) → end_to_end (subpaths ss) ≡ ss
subpaths_join [] = refl
subpaths_join (s ∷ ss) =
    by_parts (λ part ss parts. end_to_end parts ≡ part ++ ss)
    (λ part. refl)
    (λ part p ss h. ap (λ (r : List Segment). part ++ r) h)
    (λ part s ss m h. h ∙ append_assoc part (s ∷ []) ss)
    ss (s ∷ [])

or_false : (b : Bool) → (b || false) ≡ b
or_false true = refl
or_false false = refl

no_move_more : (part : List Segment) (s : Segment) → any_move part ≡ false → is_move s ≡ false → any_move (part ++ s ∷ []) ≡ false
no_move_more [] s h m = or_false (is_move s) ∙ m
no_move_more (t ∷ part) s h m = go (is_move t) (no_move_more part s) h
  where
    go : (b : Bool) {c d : Bool} → (c ≡ false → is_move s ≡ false → d ≡ false) → (b || c) ≡ false → (b || d) ≡ false
    go true f e = absurd (true≢false e)
    go false f e = f e m

subpath_more : (part : List Segment) (s : Segment) → is_move s ≡ false → Subpath part → Subpath (part ++ s ∷ [])
subpath_more [] s m g = absurd g
subpath_more (t ∷ part) s m g = (g.0, no_move_more part s g.1 m)

-- each of a list that begins with a move is a move with what follows up to the next one
pub subpaths_are : (p : Vec2) (ss : List Segment) → AllSubpaths (subpaths (Move p ∷ ss))
subpaths_are p ss =
    by_parts (λ part ss parts. Subpath part → AllSubpaths parts)
    (λ part g. (g, tt))
    (λ part p ss h g. (g, h (refl, refl)))
    (λ part s ss m h g. h (subpath_more part s m g))
    ss (Move p ∷ []) (refl, refl)

-- those with a drawn verb are the same whether the first segment is read already or not
pub drawn_parts : (ss : List Segment) → with_drawn (subpaths_from [] ss) ≡ with_drawn (subpaths ss)
unfolding subpaths_from with_drawn
drawn_parts [] = refl
drawn_parts (Move p ∷ ss) = refl
drawn_parts (Line p ∷ ss) = refl
drawn_parts (Quad c p ∷ ss) = refl
drawn_parts (Cubic c d p ∷ ss) = refl
drawn_parts (Close ∷ ss) = refl

-- ---- a segment more of a part: whether it has a drawn verb, as the flattening finds it, and whether its last verb is a close

or_later : (a b c : Bool) → (a || (b || c)) ≡ ((a || b) || c)
or_later true b c = refl
or_later false b c = refl

or_true : (b : Bool) → (b || true) ≡ true
or_true true = refl
or_true false = refl

any_drawn_more : (part : List Segment) (s : Segment) → any_drawn (part ++ s ∷ []) ≡ (any_drawn part || is_drawn s)
any_drawn_more [] s = or_false (is_drawn s)
any_drawn_more (t ∷ part) s = ap (λ (b : Bool). is_drawn t || b) (any_drawn_more part s) ∙ or_later (is_drawn t) (any_drawn part) (is_drawn s)

drawn_after : (w : Spot) (s : Segment) → is_move s ≡ false → (after w s).drawn ≡ (w.drawn || is_drawn s)
unfolding after
drawn_after w (Move p) m = absurd (true≢false m)
drawn_after w (Line p) m = sym (or_true w.drawn)
drawn_after w (Quad c p) m = sym (or_true w.drawn)
drawn_after w (Cubic c d p) m = sym (or_true w.drawn)
drawn_after w Close m = sym (or_false w.drawn)

pub drawn_more_lem : (w : Spot) (part : List Segment) (s : Segment) → is_move s ≡ false → w.drawn ≡ any_drawn part → (after w s).drawn ≡ any_drawn (part ++ s ∷ [])
drawn_more_lem w part s m d = drawn_after w s m ∙ ap (λ (b : Bool). b || is_drawn s) d ∙ sym (any_drawn_more part s)

pub closed_more_lem : (part : List Segment) (s : Segment) → is_closed (part ++ s ∷ []) ≡ is_close s
closed_more_lem [] s = refl
closed_more_lem (t ∷ []) s = refl
closed_more_lem (t ∷ u ∷ part) s = closed_more_lem (u ∷ part) s

-- ---- the marks, in one pass

mark_first : (part : List Segment) (parts : List (List Segment)) → only_if (any_drawn part) (mark_of part) ++ map mark_of (with_drawn parts) ≡ map mark_of (with_drawn (part ∷ parts))
unfolding with_drawn
mark_first part parts = go (any_drawn part)
  where
    go : (b : Bool) → only_if b (mark_of part) ++ map mark_of (with_drawn parts) ≡ map mark_of (cond b (part ∷ with_drawn parts) (with_drawn parts))
    go true = refl
    go false = refl

-- of what is read of a subpath, the pass knows whether a drawn verb is in it, and whether its last verb is a close
abbrev OnePass : List Segment → List Segment → List (List Segment) → Type 0
OnePass part ss parts = (shut : Bool) (w : Spot) → w.drawn ≡ any_drawn part → shut ≡ is_closed part → marks_from shut w ss ≡ map mark_of (with_drawn parts)

pass_end : (part : List Segment) → OnePass part [] (part ∷ [])
unfolding marks_from with_drawn
pass_end part shut w d c = rw (d, c) (sym (append-nil _) ∙ mark_first part [])

pass_cut : (part : List Segment) (p : Vec2) (ss : List Segment) → OnePass (Move p ∷ []) ss (subpaths_from (Move p ∷ []) ss) → OnePass part (Move p ∷ ss) (part ∷ subpaths_from (Move p ∷ []) ss)
unfolding marks_from after
pass_cut part p ss h shut w d c =
    rw (d, c) (ap (λ (r : List ℕ). only_if (any_drawn part) (mark_of part) ++ r) (h false (moved_to p) refl refl) ∙ mark_first part (subpaths_from (Move p ∷ []) ss))

pass_on : (part : List Segment) (s : Segment) (ss : List Segment) → is_move s ≡ false →
    OnePass (part ++ s ∷ []) ss (subpaths_from (part ++ s ∷ []) ss) → OnePass part (s ∷ ss) (subpaths_from (part ++ s ∷ []) ss)
unfolding marks_from
pass_on part s ss m h shut w d c = rw m (h (is_close s) (after w s) (drawn_more_lem w part s m d) (sym (closed_more_lem part s)))

pub marks_are : (ss : List Segment) → marks_from false nowhere ss ≡ marks_out ss
unfolding marks_out
marks_are ss = by_parts OnePass pass_end pass_cut pass_on ss [] false nowhere refl refl ∙ ap (map mark_of) (drawn_parts ss)

-- ---- they depend on the verbs alone

-- the same pass over the verbs' bytes
abbrev by_verbs : Bool → Bool → List ℕ → List ℕ
by_verbs shut drawn [] = only_if drawn (mark shut)
by_verbs shut drawn (v ∷ vs) = only_if (eqb v 0 && drawn) (mark shut) ++ by_verbs (eqb v 4) (cond (eqb v 0) false (cond (eqb v 4) drawn true)) vs

pass_verbs : (ss : List Segment) (shut : Bool) (w : Spot) → marks_from shut w ss ≡ by_verbs shut w.drawn (bytes_of ss)
unfolding marks_from after
pass_verbs [] shut w = refl
pass_verbs (Move p ∷ ss) shut w = ap (λ (r : List ℕ). only_if w.drawn (mark shut) ++ r) (pass_verbs ss false (moved_to p))
pass_verbs (Line p ∷ ss) shut w = pass_verbs ss false (drawn_to w p)
pass_verbs (Quad c p ∷ ss) shut w = pass_verbs ss false (drawn_to w p)
pass_verbs (Cubic c d p ∷ ss) shut w = pass_verbs ss false (drawn_to w p)
pass_verbs (Close ∷ ss) shut w = pass_verbs ss true (after_close w)

pub marks_verbs : (ss us : List Segment) → bytes_of ss ≡ bytes_of us → marks_out ss ≡ marks_out us
marks_verbs ss us e = sym (marks_are ss) ∙ pass_verbs ss false nowhere ∙ ap (by_verbs false false) e ∙ sym (pass_verbs us false nowhere) ∙ marks_are us

-- ---- the marks of a list cut before a move, and of one subpath

subpaths_from_cut : (p : Vec2) (b a part : List Segment) → subpaths_from part (a ++ Move p ∷ b) ≡ subpaths_from part a ++ subpaths (Move p ∷ b)
unfolding subpaths_from
subpaths_from_cut p b =
    by_parts (λ part a parts. subpaths_from part (a ++ Move p ∷ b) ≡ parts ++ subpaths (Move p ∷ b))
    (λ part. refl)
    (λ part q a h. ap (λ (r : List (List Segment)). part ∷ r) h)
    (λ part s a m h. rw m h)

subpaths_cut : (a : List Segment) (p : Vec2) (b : List Segment) → subpaths (a ++ Move p ∷ b) ≡ subpaths a ++ subpaths (Move p ∷ b)
subpaths_cut [] p b = refl
subpaths_cut (s ∷ a) p b = subpaths_from_cut p b a (s ∷ [])

marks_append : (parts more : List (List Segment)) → map mark_of (with_drawn (parts ++ more)) ≡ map mark_of (with_drawn parts) ++ map mark_of (with_drawn more)
unfolding with_drawn
marks_append [] more = refl
marks_append (part ∷ parts) more =
    sym (mark_first part (parts ++ more))
    ∙ ap (λ (r : List ℕ). only_if (any_drawn part) (mark_of part) ++ r) (marks_append parts more)
    ∙ sym (append_assoc (only_if (any_drawn part) (mark_of part)) (map mark_of (with_drawn parts)) (map mark_of (with_drawn more)))
    ∙ ap (λ (r : List ℕ). r ++ map mark_of (with_drawn more)) (mark_first part parts)

pub marks_cut : (a : List Segment) (p : Vec2) (b : List Segment) → marks_out (a ++ Move p ∷ b) ≡ marks_out a ++ marks_out (Move p ∷ b)
unfolding marks_out
marks_cut a p b = ap (λ (r : List (List Segment)). map mark_of (with_drawn r)) (subpaths_cut a p b) ∙ marks_append (subpaths a) (subpaths (Move p ∷ b))

-- with no move, all belongs to the present subpath
no_move_one : (ss part : List Segment) → any_move ss ≡ false → subpaths_from part ss ≡ (part ++ ss) ∷ []
no_move_one =
    by_parts (λ part ss parts. any_move ss ≡ false → parts ≡ (part ++ ss) ∷ [])
    (λ part g. ap (λ (r : List Segment). r ∷ []) (sym (append-nil part)))
    (λ part p ss h g. absurd (true≢false g))
    (λ part s ss m h g. h (rw m at g) ∙ ap (λ (r : List Segment). r ∷ []) (append_assoc part (s ∷ []) ss))

pub marks_one : (part : List Segment) → Subpath part → marks_out part ≡ only_if (any_drawn part) (mark_of part)
unfolding marks_out with_drawn
marks_one [] g = absurd g
marks_one (s ∷ part) g =
    ap (λ (r : List (List Segment)). map mark_of (with_drawn r)) (no_move_one part (s ∷ []) g.1) ∙ sym (mark_first (s ∷ part) []) ∙ append-nil _
