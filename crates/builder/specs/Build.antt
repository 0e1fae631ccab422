-- The builder: its state, and what each call answers and leaves in the two lent buffers ("Builder" and "Numbers" of the scope). Definitions only.
use Rattle.std.specs.Prelude.{ℕ, map, ◌+◌, ◌*◌, Bool, true, false, ◌&&◌, cond, List, [], ◌∷◌, length, Float, Option, Some, None, Result, Ok}
use Rattle.std.specs.Result.{result_and, is_err}
use Rattle.std.proofs.lemmas.List.Edits.{sets}
use Rattle.float.specs.Arith.{f0}
use Rattle.float.specs.Small.{is_finite, maximum}
use Rattle.vec2.specs.declared.Vec2.{Vec2}
use Rattle.vec2.specs.Vec2.{vec, origin, all_finite}
use Rattle.vec2.specs.Points.{flat}
use Rattle.path.specs.declared.Segment.{Segment}
use Rattle.path.specs.declared.Segment.TheVariants.{Move, Line, Quad, Cubic, Close}
use Rattle.path.specs.declared.FillRule.{FillRule}
use Rattle.path.specs.declared.FillRule.TheVariants.{NonZero}
use Rattle.path.specs.Segment.{bytes_of, all_points}
use Rattle.halves.specs.Conic.{straight, quads}
use Rattle.store.specs.Refusal.{refusal_of}
use Rattle.path.specs.declared.Refusal.{Refusal}
use Rattle.path.specs.Refusal.{unless}
use Rattle.store.specs.declared.Standing.{Standing}
use Rattle.builder.specs.declared.PathBuilder.{PathBuilder}
use Rattle.builder.specs.declared.Reply.{Reply}
use Rattle.builder.specs.declared.Call.{Call}
use Rattle.builder.specs.declared.Call.TheVariants.{MoveTo, LineTo, QuadTo, ConicTo, CubicTo, Close as CloseIt, WithFillRule, AsRoundedRect}
use Rattle.builder.specs.declared.RoundedRect.{RoundedRect}
use Rattle.builder.specs.Call.{from, lays}

-- ---- the state

-- a fresh one has no verbs
abbrev pub fresh : PathBuilder
fresh =
    record {
      verbs = 0;
      points = 0;
      start_x = f0;
      start_y = f0;
      pen_x = f0;
      pen_y = f0;
      min_x = f0;
      min_y = f0;
      max_x = f0;
      max_y = f0;
      radius = f0;
      fill_rule = NonZero;
      noted = false;
      started = false;
    }

-- the latest move's point, and the pen
abbrev pub start_of : PathBuilder → Vec2
start_of b = vec b.start_x b.start_y

abbrev pub pen_of : PathBuilder → Vec2
pen_of b = vec b.pen_x b.pen_y

-- where it stands in its buffers
abbrev pub standing : PathBuilder → Standing
standing b = record { verbs = b.verbs; points = b.points; started = b.started }

-- v verbs and k points more, the latest move's point at a and the pen at p
abbrev pub moved : PathBuilder → ℕ → ℕ → Vec2 → Vec2 → PathBuilder
moved b v k a p =
    record {
      verbs = b.verbs + v;
      points = b.points + k;
      start_x = a.x;
      start_y = a.y;
      pen_x = p.x;
      pen_y = p.y;
      min_x = b.min_x;
      min_y = b.min_y;
      max_x = b.max_x;
      max_y = b.max_y;
      radius = b.radius;
      fill_rule = b.fill_rule;
      noted = b.noted;
      started = true;
    }

abbrev pub step : PathBuilder → Segment → PathBuilder
step b (Move p) = moved b 1 1 p p
step b (Line p) = moved b 1 1 (start_of b) p
step b (Quad c p) = moved b 1 2 (start_of b) p
step b (Cubic c d p) = moved b 1 3 (start_of b) p
step b Close = moved b 1 0 (start_of b) (start_of b)

unfoldable pub steps : PathBuilder → List Segment → PathBuilder
steps b [] = b
steps b (s ∷ ss) = steps (step b s) ss

abbrev pub ruled_by : PathBuilder → FillRule → PathBuilder
ruled_by b r =
    record {
      verbs = b.verbs;
      points = b.points;
      start_x = b.start_x;
      start_y = b.start_y;
      pen_x = b.pen_x;
      pen_y = b.pen_y;
      min_x = b.min_x;
      min_y = b.min_y;
      max_x = b.max_x;
      max_y = b.max_y;
      radius = b.radius;
      fill_rule = r;
      noted = b.noted;
      started = b.started;
    }

abbrev pub noted_as : PathBuilder → Bool → Vec2 → Vec2 → Float → PathBuilder
noted_as b t lo hi r =
    record {
      verbs = b.verbs;
      points = b.points;
      start_x = b.start_x;
      start_y = b.start_y;
      pen_x = b.pen_x;
      pen_y = b.pen_y;
      min_x = lo.x;
      min_y = lo.y;
      max_x = hi.x;
      max_y = hi.y;
      radius = r;
      fill_rule = b.fill_rule;
      noted = t;
      started = b.started;
    }

unfoldable pub finite_box : Vec2 → Vec2 → Float → Bool
finite_box lo hi r = all_finite lo && (all_finite hi && is_finite r)

-- the fill rule and the note; a non-finite number records nothing and clears an earlier note
unfoldable pub set_by : PathBuilder → Call → PathBuilder
set_by b (MoveTo p) = b
set_by b (LineTo p) = b
set_by b (QuadTo c p) = b
set_by b (ConicTo c p w) = b
set_by b (CubicTo c d p) = b
set_by b CloseIt = b
set_by b (WithFillRule r) = ruled_by b r
set_by b (AsRoundedRect x r) = cond (finite_box x.min x.max r) (noted_as b true x.min x.max (maximum r f0)) (noted_as b false origin origin f0)

-- ---- questions

abbrev pub current_of : PathBuilder → Option Vec2
current_of b = cond b.started (Some (pen_of b)) None

abbrev pub noted_rect : PathBuilder → RoundedRect
noted_rect b = record { rect = record { min = vec b.min_x b.min_y; max = vec b.max_x b.max_y }; radius = b.radius }

abbrev pub note_of : PathBuilder → Option RoundedRect
note_of b = cond b.noted (Some (noted_rect b)) None

-- ---- refusals

-- a call that takes the buffers
abbrev pub buffered : Call → Bool
buffered (MoveTo p) = true
buffered (LineTo p) = true
buffered (QuadTo c p) = true
buffered (ConicTo c p w) = true
buffered (CubicTo c d p) = true
buffered CloseIt = true
buffered (WithFillRule r) = false
buffered (AsRoundedRect x r) = false

-- whether a call of v verbs and k points is refused, in buffers of nv bytes and nf floats
unfoldable pub refusal : PathBuilder → ℕ → ℕ → ℕ → ℕ → Result Unit Refusal
refusal b nv nf v k = refusal_of (standing b) nv nf v k

-- ---- a call

-- the reply, and what both buffers hold afterwards
pub record Outcome : Type 0 where
  pub reply : Reply
  pub bytes : List ℕ
  pub floats : List Float

abbrev pub outcome : Reply → List ℕ → List Float → Outcome
outcome r vs fs = record { reply = r; bytes = vs; floats = fs }

-- the segments ss behind those that stand, whole, unless r refuses; q is the number of quads
abbrev pub pushed_by : Result Unit Refusal → ℕ → PathBuilder → List ℕ → List Float → List Segment → Outcome
pushed_by r q b vs fs ss =
    record {
      reply = record { state = unless r b (steps b ss); quads = result_and r (Ok q) };
      bytes = unless r vs (sets vs b.verbs (bytes_of ss));
      floats = unless r fs (sets fs (2 * b.points) (flat (all_points ss)));
    }

unfoldable pub pushed : ℕ → PathBuilder → List ℕ → List Float → List Segment → Outcome
pushed q b vs fs ss = pushed_by (refusal b (length vs) (length fs) (length ss) (length (all_points ss))) q b vs fs ss

-- the segments that a call lays on this state
abbrev pub new : PathBuilder → Call → List Segment
new b c = lays b.started (pen_of b) c

-- how many quads a conic lays: 0 where it lays a line
unfoldable pub quads_laid : PathBuilder → Call → ℕ
quads_laid b (MoveTo p) = 0
quads_laid b (LineTo p) = 0
quads_laid b (QuadTo c p) = 0
quads_laid b (ConicTo c p w) = cond (straight c p w) 0 (length (quads (from b.started (pen_of b)) c p w))
quads_laid b (CubicTo c d p) = 0
quads_laid b CloseIt = 0
quads_laid b (WithFillRule r) = 0
quads_laid b (AsRoundedRect x r) = 0

-- a call that refuses nothing
abbrev pub settled : PathBuilder → Reply
settled b = record { state = b; quads = Ok 0 }

-- every call: its entire reply and both buffers; the fill rule and the note take no buffer and refuse nothing
unfoldable pub called : PathBuilder → List ℕ → List Float → Call → Outcome
called b vs fs c = cond (buffered c) (pushed (quads_laid b c) b vs fs (new b c)) (outcome (settled (set_by b c)) vs fs)

-- ---- a list of calls over one pair of buffers

pub record Built : Type 0 where
  pub state : PathBuilder
  pub bytes : List ℕ
  pub floats : List Float

abbrev pub call : Built → Call → Outcome
call b c = called b.state b.bytes b.floats c

-- each later call gets the state that the one before it returned
abbrev pub left_by : Outcome → Built
left_by o = record { state = o.reply.state; bytes = o.bytes; floats = o.floats }

unfoldable pub run : Built → List Call → Built
run b [] = b
run b (c ∷ cs) = run (left_by (call b c)) cs

-- what each was answered: how many quads, or why it was refused
unfoldable pub answers : Built → List Call → List (Result ℕ Refusal)
answers b [] = []
answers b (c ∷ cs) = (call b c).reply.quads ∷ answers (left_by (call b c)) cs

-- whether each was refused
abbrev pub refusals : Built → List Call → List Bool
refusals b cs = map is_err (answers b cs)

-- a fresh builder over lent buffers of any length and content
abbrev pub fresh_over : List ℕ → List Float → Built
fresh_over bs fs = record { state = fresh; bytes = bs; floats = fs }
