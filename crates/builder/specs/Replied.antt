-- What the builder's own functions promise each other: the state behind what was laid, and the reply. Definitions only.
use Rattle.std.specs.Prelude.{true, false, Option, Some, None, Result, Ok, Err}
use Rattle.float.specs.Arith.{f0}
use Rattle.vec2.specs.declared.Vec2.{Vec2}
use Rattle.vec2.specs.Vec2.{origin}
use Rattle.path.specs.declared.Refusal.{Refusal}
use Rattle.store.specs.declared.Standing.{Standing}
use Rattle.builder.specs.declared.PathBuilder.{PathBuilder}
use Rattle.builder.specs.declared.Reply.{Reply}
use Rattle.builder.specs.declared.RoundedRect.{RoundedRect}
use Rattle.builder.specs.Build.{noted_as}

-- the state that stands at `at`, with the latest move's point at a and the pen at p
abbrev pub moved_to : PathBuilder → Standing → Vec2 → Vec2 → PathBuilder
moved_to b at a p =
    record {
      verbs = at.verbs;
      points = at.points;
      start_x = a.x;
      start_y = a.y;
      pen_x = p.x;
      pen_y = p.y;
      min_x = b.min_x;
      min_y = b.min_y;
      max_x = b.max_x;
      max_y = b.max_y;
      radius = b.radius;
      fill_rule = b.fill_rule;
      noted = b.noted;
      started = at.started;
    }

-- the state that holds this note, or none
abbrev pub noted_by : PathBuilder → Option RoundedRect → PathBuilder
noted_by b (Some n) = noted_as b true n.rect.min n.rect.max n.radius
noted_by b None = noted_as b false origin origin f0

-- the reply that leaves this state, unless r refuses
abbrev pub replied_by : Result Standing Refusal → PathBuilder → Vec2 → Vec2 → Reply
replied_by (Ok at) b a p = record { state = moved_to b at a p; quads = Ok 0 }
replied_by (Err e) b a p = record { state = b; quads = Err e }
