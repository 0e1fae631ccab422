-- The subpaths of a list of segments, and the marks of those with a drawn verb ("Laid list" of the scope; W4). Nothing here knows the flattener's state.
-- Definitions only.
use Rattle.std.specs.Prelude.{ℕ, ◌≡◌, Bool, true, false, ◌||◌, cond, List, [], ◌∷◌, ◌++◌, map}
use Rattle.path.specs.declared.Segment.{Segment}
use Rattle.path.specs.Segment.{is_drawn, is_move, is_close}

-- ---- a list of segments, cut at its moves

-- `part` is what is read of the present subpath
unfoldable pub subpaths_from : List Segment → List Segment → List (List Segment)
subpaths_from part [] = part ∷ []
subpaths_from part (s ∷ ss) = cond (is_move s) (part ∷ subpaths_from (s ∷ []) ss) (subpaths_from (part ++ s ∷ []) ss)

-- a subpath is a move with all that follows up to the next move; a path that isn't refused begins with a move
abbrev pub subpaths : List Segment → List (List Segment)
subpaths [] = []
subpaths (s ∷ ss) = subpaths_from (s ∷ []) ss

abbrev pub any_drawn : List Segment → Bool
any_drawn [] = false
any_drawn (s ∷ ss) = is_drawn s || any_drawn ss

-- those with a drawn verb: each has a polyline, the others have none
unfoldable pub with_drawn : List (List Segment) → List (List Segment)
with_drawn [] = []
with_drawn (part ∷ parts) = cond (any_drawn part) (part ∷ with_drawn parts) (with_drawn parts)

-- a subpath, said without the cutting: a move, and no other behind it
abbrev pub any_move : List Segment → Bool
any_move [] = false
any_move (s ∷ ss) = is_move s || any_move ss

abbrev pub Subpath : List Segment → Type 0
Subpath [] = ⊥
Subpath (s ∷ ss) = (is_move s ≡ true) × (any_move ss ≡ false)

abbrev pub AllSubpaths : List (List Segment) → Type 0
AllSubpaths [] = Unit {0}
AllSubpaths (part ∷ parts) = Subpath part × AllSubpaths parts

-- ---- W4: the mark of a polyline

-- the last verb is a close
abbrev pub is_closed : List Segment → Bool
is_closed [] = false
is_closed (s ∷ []) = is_close s
is_closed (s ∷ t ∷ ss) = is_closed (t ∷ ss)

abbrev pub mark : Bool → ℕ
mark shut = cond shut 1 0

-- 1 if the last verb of its subpath is a close, even where no closing point was added, else 0
abbrev pub mark_of : List Segment → ℕ
mark_of part = mark (is_closed part)

-- one for each polyline, in order
unfoldable pub marks_out : List Segment → List ℕ
marks_out ss = map mark_of (with_drawn (subpaths ss))
