-- A builder's state and replies as C has them: the fill rule is 0 for the non-zero rule, a flag is 0 for false, and any other byte is the other. Definitions only.
use Rattle.std.specs.Prelude.{ℕ, Bool, not, cond, List, eqb, Float, Option, Some, None, Result, Ok, Err}
use Rattle.float.specs.Arith.{f0}
use Rattle.vec2.specs.declared.Vec2.{Vec2}
use Rattle.vec2.specs.Vec2.{origin}
use Rattle.path.specs.declared.Refusal.{Refusal}
use Rattle.path.specs.Refusal.{number}
use Rattle.path.specs.Rule.{rule_in, rule_out}
use Rattle.builder.specs.declared.PathBuilder.{PathBuilder}
use Rattle.builder.specs.declared.Reply.{Reply}
use Rattle.builder.specs.declared.RoundedRect.{RoundedRect}
use Rattle.builder.specs.Build.{Outcome}
use Rattle.crossing.specs.declared.HzBuilder.{HzBuilder}
use Rattle.crossing.specs.declared.HzReply.{HzReply}
use Rattle.crossing.specs.declared.HzPoint.{HzPoint}
use Rattle.crossing.specs.declared.HzNote.{HzNote}

abbrev pub flag_in : ℕ → Bool
flag_in n = not (eqb n 0)

abbrev pub flag_out : Bool → ℕ
flag_out b = cond b 1 0

unfoldable pub state_in : HzBuilder → PathBuilder
state_in s =
    record {
      verbs = s.verbs;
      points = s.points;
      start_x = s.start_x;
      start_y = s.start_y;
      pen_x = s.pen_x;
      pen_y = s.pen_y;
      min_x = s.min_x;
      min_y = s.min_y;
      max_x = s.max_x;
      max_y = s.max_y;
      radius = s.radius;
      fill_rule = rule_in s.fill_rule;
      noted = flag_in s.noted;
      started = flag_in s.started;
    }

unfoldable pub state_out : PathBuilder → HzBuilder
state_out b =
    record {
      verbs = b.verbs;
      points = b.points;
      start_x = b.start_x;
      start_y = b.start_y;
      pen_x = b.pen_x;
      pen_y = b.pen_y;
      min_x = b.min_x;
      min_y = b.min_y;
      max_x = b.max_x;
      max_y = b.max_y;
      radius = b.radius;
      fill_rule = rule_out b.fill_rule;
      noted = flag_out b.noted;
      started = flag_out b.started;
    }

-- a refused call gives the state back as it came, beside its number
abbrev pub replied : HzBuilder → PathBuilder → Result ℕ Refusal → HzReply
replied s b (Ok q) = record { state = state_out b; quads = q; refused = 0 }
replied s b (Err r) = record { state = s; quads = 0; refused = number r }

unfoldable pub reply_out : HzBuilder → Reply → HzReply
reply_out s r = replied s r.state r.quads

-- the reply, and what both buffers hold afterwards
pub record HzOutcome : Type 0 where
  pub reply : HzReply
  pub bytes : List ℕ
  pub floats : List Float

abbrev pub outcome : HzReply → List ℕ → List Float → HzOutcome
outcome r vs fs = record { reply = r; bytes = vs; floats = fs }

-- of a call that was handed the state s
abbrev pub outcome_out : HzBuilder → Outcome → HzOutcome
outcome_out s o = outcome (reply_out s o.reply) o.bytes o.floats

abbrev pub point_out : Option Vec2 → HzPoint
point_out (Some p) = record { x = p.x; y = p.y; known = 1 }
point_out None = record { x = f0; y = f0; known = 0 }

abbrev pub note_out : Option RoundedRect → HzNote
note_out (Some n) = record { rect = n.rect; radius = n.radius; known = 1 }
note_out None = record { rect = record { min = origin; max = origin }; radius = f0; known = 0 }
