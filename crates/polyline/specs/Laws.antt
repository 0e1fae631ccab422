-- W4: what holds of the subpaths of any list of segments, of its flattening at any tolerance, and of the marks; and what a refused call says. Definitions only.
use Rattle.std.specs.Prelude.{◌≡◌, ℕ, Bool, true, false, cond, List, [], ◌∷◌, ◌++◌, map, length, Float, Ok}
use Rattle.path.specs.declared.Segment.{Segment}
use Rattle.path.specs.Segment.{is_move, is_close, bytes_of}
use Rattle.polyline.specs.declared.Flattened.{Flattened}
use Rattle.polyline.specs.Flatten.{nowhere, points_out, ends_out, Outcome}
use Rattle.polyline.specs.Polylines as poly
use Rattle.polyline.specs.Polylines.{end_to_end, ends_of, Rising}
use Rattle.polyline.specs.Pass.{marks_from}
use Rattle.polyline.specs.Subpaths.{subpaths, any_drawn, with_drawn, Subpath, AllSubpaths, marks_out}

-- as a path that isn't refused does
abbrev pub begins_with_move : List Segment → Bool
begins_with_move [] = true
begins_with_move (s ∷ ss) = is_move s

pub record SubpathLaws (tol : Float) (ss : List Segment) : Type 0 where
  -- end to end the subpaths are the list, and, where it begins with a move, each is a move with no other behind it
  pub joined : end_to_end (subpaths ss) ≡ ss
  pub moves : begins_with_move ss ≡ true → AllSubpaths (subpaths ss)
  -- flattening the list is flattening its subpaths, end to end
  pub points : points_out tol ss ≡ end_to_end (map (points_out tol) (subpaths ss))
  -- one polyline for each with a drawn verb, and no other
  pub ends : ends_out tol ss ≡ ends_of 0 (map (points_out tol) (with_drawn (subpaths ss)))
  pub polylines : poly.polylines 0 (points_out tol ss) (ends_out tol ss) ≡ map (points_out tol) (with_drawn (subpaths ss))
  -- the ends rise strictly, from above 0 to the number of points
  pub rise : Rising 0 (ends_out tol ss) (length (points_out tol ss))
  -- there are as many marks as ends
  pub many : length (marks_out ss) ≡ length (ends_out tol ss)
  -- of a list cut before and behind a subpath: with a drawn verb it has one mark, 1 exactly where its last verb is a close; without one it has none
  pub mark : (pre part : List Segment) (s : Segment) (post : List Segment) → ss ≡ pre ++ (part ++ s ∷ []) ++ post → Subpath (part ++ s ∷ []) →
      begins_with_move post ≡ true → any_drawn (part ++ s ∷ []) ≡ true → marks_out ss ≡ marks_out pre ++ cond (is_close s) 1 0 ∷ marks_out post
  pub no_mark : (pre part post : List Segment) → ss ≡ pre ++ part ++ post → Subpath part →
      begins_with_move post ≡ true → any_drawn part ≡ false → marks_out ss ≡ marks_out pre ++ marks_out post
  -- the marks depend on the verbs alone
  pub verbs : (us : List Segment) → bytes_of ss ≡ bytes_of us → marks_out ss ≡ marks_out us
  -- and one pass reads them
  pub one_pass : marks_out ss ≡ marks_from false nowhere ss

-- a refused call says its refusal and nothing else, no totals among it, and leaves the three lent outputs as they were
pub record RefusalLaws (out : List Float) (ends marks : List ℕ) (r : Outcome) : Type 0 where
  pub none : (t : Flattened) → r.answer ≡ Ok t → ⊥
  pub same_floats : r.floats ≡ out
  pub same_ends : r.ends ≡ ends
  pub same_marks : r.marks ≡ marks
