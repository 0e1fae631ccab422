-- The laws of subpaths hold of every list of segments at every tolerance, those of refusals of every call that is refused. Assumes nothing.
use mathlib.Core.Path.{◌≡◌, refl, sym, ap, ◌∙◌}
use mathlib.Core.Bool.{true, false, cond, false≢true}
use mathlib.Core.List.{List, [], ◌∷◌, ◌++◌, append_assoc, append-nil}
use Prim.Native.Nat.{ℕ}
use Rattle.std.specs.Prelude.{Result, Ok, Err}
use Rattle.path.specs.declared.Refusal.{Refusal}
use lib.Ieee.{Float}
use Rattle.path.specs.declared.Segment.{Segment}
use Rattle.path.specs.declared.Segment.TheVariants.{Move, Line, Quad, Cubic, Close}
use Rattle.path.specs.Segment.{is_close, segments}
use Rattle.polyline.specs.Flatten.{only_if, check_outputs, replied, flatten}
use Rattle.polyline.specs.Subpaths.{subpaths, any_drawn, with_drawn, mark_of, marks_out, Subpath, AllSubpaths}
use Rattle.polyline.specs.Laws.{begins_with_move, SubpathLaws, RefusalLaws}
use Rattle.polyline.proofs.Subpaths.{subpaths_join, subpaths_are, closed_more_lem, marks_are, marks_verbs, marks_cut, marks_one}
use Rattle.polyline.proofs.Polylines.{subpath_points, subpath_ends, subpath_polylines, ends_rise, marks_ends}

all_moves : (ss : List Segment) → begins_with_move ss ≡ true → AllSubpaths (subpaths ss)
all_moves [] h = tt
all_moves (Move p ∷ ss) h = subpaths_are p ss
all_moves (Line p ∷ ss) h = absurd (false≢true h)
all_moves (Quad c p ∷ ss) h = absurd (false≢true h)
all_moves (Cubic c d p ∷ ss) h = absurd (false≢true h)
all_moves (Close ∷ ss) h = absurd (false≢true h)

-- ---- the marks of a list cut before and behind a subpath

marks_apart : (a b : List Segment) → begins_with_move b ≡ true → marks_out (a ++ b) ≡ marks_out a ++ marks_out b
unfolding marks_out with_drawn
marks_apart a [] h = ap marks_out (append-nil a) ∙ sym (append-nil (marks_out a))
marks_apart a (Move p ∷ b) h = marks_cut a p b
marks_apart a (Line p ∷ b) h = absurd (false≢true h)
marks_apart a (Quad c p ∷ b) h = absurd (false≢true h)
marks_apart a (Cubic c d p ∷ b) h = absurd (false≢true h)
marks_apart a (Close ∷ b) h = absurd (false≢true h)

subpath_begins : (part : List Segment) → Subpath part → begins_with_move part ≡ true
subpath_begins [] g = absurd g
subpath_begins (s ∷ part) g = g.0

marks_around : (pre part post : List Segment) → Subpath part → begins_with_move post ≡ true →
    marks_out (pre ++ part ++ post) ≡ marks_out pre ++ only_if (any_drawn part) (mark_of part) ++ marks_out post
marks_around pre part post g h =
    marks_apart (pre ++ part) post h
    ∙ ap (λ (r : List ℕ). r ++ marks_out post)
    (marks_apart pre part (subpath_begins part g) ∙ ap (λ (r : List ℕ). marks_out pre ++ r) (marks_one part g))

marked : (ss pre part : List Segment) (s : Segment) (post : List Segment) → ss ≡ pre ++ (part ++ s ∷ []) ++ post → Subpath (part ++ s ∷ []) →
    begins_with_move post ≡ true → any_drawn (part ++ s ∷ []) ≡ true → marks_out ss ≡ marks_out pre ++ cond (is_close s) 1 0 ∷ marks_out post
marked ss pre part s post e g h d =
    ap marks_out e ∙ marks_around pre (part ++ s ∷ []) post g h ∙ rw (d, closed_more_lem part s) (append_assoc (marks_out pre) (cond (is_close s) 1 0 ∷ []) (marks_out post))

unmarked : (ss pre part post : List Segment) → ss ≡ pre ++ part ++ post → Subpath part →
    begins_with_move post ≡ true → any_drawn part ≡ false → marks_out ss ≡ marks_out pre ++ marks_out post
unmarked ss pre part post e g h d =
    ap marks_out e ∙ marks_around pre part post g h ∙ rw d (ap (λ (r : List ℕ). r ++ marks_out post) (append-nil (marks_out pre)))

pub subpath_laws : (tol : Float) (ss : List Segment) → SubpathLaws tol ss
subpath_laws tol ss =
    record {
      joined = subpaths_join ss;
      moves = all_moves ss;
      points = sym (subpath_points tol ss);
      ends = subpath_ends tol ss;
      polylines = subpath_polylines tol ss;
      rise = ends_rise tol ss;
      many = marks_ends tol ss;
      mark = marked ss;
      no_mark = unmarked ss;
      verbs = marks_verbs ss;
      one_pass = sym (marks_are ss);
    }

-- ---- refusals

replied_laws : (a : Result Unit Refusal) (tol : Float) (ss : List Segment) (out : List Float) (es ms : List ℕ) (e : Refusal) →
    (replied a tol ss out es ms).answer ≡ Err e → RefusalLaws out es ms (replied a tol ss out es ms)
replied_laws (Ok u) tol ss out es ms e h = absurd (cc)
replied_laws (Err r) tol ss out es ms e h = record { none = λ t q. absurd (cc); same_floats = refl; same_ends = refl; same_marks = refl }

pub refusal_laws : (vs : List ℕ) (fs : List Float) (tol : Float) (out : List Float) (es ms : List ℕ) (e : Refusal) →
    (flatten vs fs tol out es ms).answer ≡ Err e → RefusalLaws out es ms (flatten vs fs tol out es ms)
unfolding flatten
refusal_laws vs fs tol out es ms e h = replied_laws (check_outputs vs fs tol out es ms) tol (segments vs fs) out es ms e h
