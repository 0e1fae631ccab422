-- Small call lists, from the definitions by computation. Assumes nothing.
use mathlib.Core.Path.{◌≡◌, refl, ap}
use mathlib.Core.List.{List, [], ◌∷◌}
use Prim.Native.Nat.{ℕ}
use lib.Ieee.{nan, of_bits, of_int}
use Rattle.float.specs.Arith.{whole, f0, f1}
use Rattle.float.specs.Small.{is_finite}
use Rattle.vec2.specs.declared.Vec2.{Vec2}
use Rattle.vec2.specs.Vec2.{vec, origin, all_finite}
use Rattle.path.specs.declared.Segment.TheVariants.{Move, Line, Close}
use Rattle.store.specs.Refusal.{verb_cap, point_cap, bad_state, no_room, refusal_of}
use Rattle.builder.specs.declared.Call.{Call}
use Rattle.builder.specs.declared.Call.TheVariants.{MoveTo, LineTo, QuadTo, Close as CloseIt, AsRoundedRect}
use Rattle.path.specs.declared.Refusal.TheVariants.{OddFloats, BuilderFull}
use Rattle.std.specs.Prelude.{Result, Ok, Err, None, map}
use Rattle.path.specs.declared.Refusal.{Refusal}
use Rattle.path.specs.Refusal.{number_of}
use Rattle.builder.specs.Call.{lays}
use Rattle.builder.specs.Build.{Built, fresh_over, run, answers, called, quads_laid, pushed, steps, set_by, finite_box, refusal, note_of, pen_of}
use Rattle.builder.specs.Laid.{laid_by, laid_from, lay, puts}

-- four bytes and six floats
abbrev lent : Built
lent = fresh_over (9 ∷ 9 ∷ 9 ∷ 9 ∷ []) (f1 ∷ f1 ∷ f1 ∷ f1 ∷ f1 ∷ f1 ∷ [])

abbrev at : ℕ → ℕ → Vec2
at x y = vec (whole x) (whole y)

-- a line before any move
abbrev line : List Call
line = LineTo (at 3 4) ∷ []

-- the quad of a triangle has no room, and the call after it has
abbrev tight : List Call
tight = MoveTo (at 1 2) ∷ LineTo (at 3 4) ∷ QuadTo (at 5 6) (at 7 8) ∷ CloseIt ∷ LineTo (at 5 6) ∷ CloseIt ∷ []

line_bytes : (run lent line).bytes ≡ 0 ∷ 1 ∷ 9 ∷ 9 ∷ []
unfolding run called pushed lays steps refusal refusal_of bad_state no_room verb_cap point_cap of_bits of_int
line_bytes = refl

line_floats : (run lent line).floats ≡ f0 ∷ f0 ∷ whole 3 ∷ whole 4 ∷ f1 ∷ f1 ∷ []
unfolding run called pushed lays steps refusal refusal_of bad_state no_room verb_cap point_cap of_bits of_int
line_floats = refl

tight_answers : answers lent tight ≡ Ok 0 ∷ Ok 0 ∷ Err BuilderFull ∷ Ok 0 ∷ Ok 0 ∷ Err BuilderFull ∷ []
unfolding answers called quads_laid pushed lays steps refusal refusal_of bad_state no_room verb_cap point_cap of_bits of_int
tight_answers = refl

-- the same by the scope's numbers
tight_refusals : map (λ (r : Result ℕ Refusal). number_of r) (answers lent tight) ≡ 0 ∷ 0 ∷ 2 ∷ 0 ∷ 0 ∷ 2 ∷ []
tight_refusals = ap (map (λ (r : Result ℕ Refusal). number_of r)) tight_answers

tight_laid : laid_by tight (9 ∷ 9 ∷ 9 ∷ 9 ∷ []) (f1 ∷ f1 ∷ f1 ∷ f1 ∷ f1 ∷ f1 ∷ []) ≡ Move (at 1 2) ∷ Line (at 3 4) ∷ Close ∷ Line (at 5 6) ∷ []
unfolding answers called quads_laid pushed lays steps refusal refusal_of bad_state no_room verb_cap point_cap laid_from lay puts of_bits of_int
tight_laid = refl

-- after a close the pen is at the move's point
closed_pen : pen_of (run lent (MoveTo (at 1 2) ∷ LineTo (at 3 4) ∷ CloseIt ∷ [])).state ≡ at 1 2
unfolding run called pushed lays steps refusal refusal_of bad_state no_room verb_cap point_cap of_bits of_int
closed_pen = refl

-- close on an empty builder; an odd number of floats
nothing_closed : answers lent (CloseIt ∷ []) ≡ Ok 0 ∷ []
unfolding answers called quads_laid pushed lays steps refusal refusal_of bad_state no_room verb_cap point_cap of_bits
nothing_closed = refl

odd : answers (fresh_over [] (f1 ∷ [])) (CloseIt ∷ MoveTo origin ∷ []) ≡ Err OddFloats ∷ Err OddFloats ∷ []
unfolding answers called quads_laid pushed lays steps refusal refusal_of of_bits
odd = refl

-- a note that isn't finite clears the one before
cleared : note_of (run lent (AsRoundedRect (record { min = at 1 2; max = at 3 4 }) f1 ∷ AsRoundedRect (record { min = at 1 2; max = at 3 4 }) nan ∷ [])).state ≡ None
unfolding run called set_by finite_box all_finite is_finite of_bits of_int
cleared = refl
