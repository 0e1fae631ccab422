-- A dashing's answer as C has it: kind 0 is Whole, 1 Cut, any other a refusal; counts that a kind does not have are 0. Definitions only.
use Rattle.std.specs.Prelude.{ℕ, cond, List, length, eqb, Float, Option, Some, None}
use Rattle.std.proofs.Math.Option as math
use Rattle.path.specs.declared.FillRule.{FillRule}
use Rattle.outline.specs.declared.Outline.{Outline}
use Rattle.outline.specs.declared.Dashed.{Dashed}
use Rattle.outline.specs.declared.Dashed.TheVariants.{Whole, Cut}
use Rattle.outline.specs.Answer.{Answer}
use Rattle.outline.specs.Dash.{Outcome, dashing}
use Rattle.outline.specs.Outline.{outline_of}
use Rattle.crossing.specs.declared.HzDashed.{HzDashed}
use Rattle.crossing.specs.declared.HzOutline.{HzOutline}
use Rattle.path.specs.Rule.{rule_in, rule_out}
use Rattle.crossing.specs.Builder.{flag_in, flag_out}

-- what is not cut: `held` is the answer's, 0
abbrev pub uncut : ℕ → ℕ → ℕ → HzDashed
uncut kind held refused = record { verbs = 0; points = 0; scratch = 0; polylines = 0; held = held; kind = kind; fill_rule = 0; refused = refused }

abbrev pub cut_out : Outline → HzDashed
cut_out o =
    record {
      verbs = o.verbs;
      points = o.points;
      scratch = o.scratch;
      polylines = o.polylines;
      held = o.held;
      kind = 1;
      fill_rule = rule_out o.rule;
      refused = 0;
    }

-- what is cut, else the answer a
abbrev pub values_out : math.Option Outline → HzDashed → HzDashed
values_out math.none a = a
values_out (math.some o) a = cut_out o

abbrev pub dashed_out : Answer → HzDashed
dashed_out a = values_out a.cut (uncut (cond a.whole 0 2) a.held a.number)

-- the answer, and what the five lent buffers hold afterwards
pub record HzDashing : Type 0 where
  pub reply : HzDashed
  pub scratch : List Float
  pub ends : List ℕ
  pub marks : List ℕ
  pub verbs : List ℕ
  pub floats : List Float

abbrev pub dash_outcome : HzDashed → List Float → List ℕ → List ℕ → List ℕ → List Float → HzDashing
dash_outcome r s e m vs fs = record { reply = r; scratch = s; ends = e; marks = m; verbs = vs; floats = fs }

abbrev pub dash_outcome_out : Outcome → HzDashing
dash_outcome_out o = dash_outcome (dashed_out o.reply) o.scratch o.ends o.marks o.verbs o.floats

unfoldable pub hz_dashing : List ℕ → List Float → FillRule → List Float → Float → Float → List Float → List ℕ → List ℕ → List ℕ → List Float → HzDashing
hz_dashing verbs points rule intervals phase tolerance scratch ends marks vs fs =
    dash_outcome_out (dashing verbs points rule intervals phase tolerance scratch ends marks vs fs)

abbrev pub outline_in : HzDashed → Outline
outline_in a = record { verbs = a.verbs; points = a.points; scratch = a.scratch; polylines = a.polylines; held = a.held; rule = rule_in a.fill_rule }

-- what was drawn; none for a refusal
unfoldable pub dashed_in : HzDashed → Option Dashed
dashed_in a = cond (eqb a.kind 0) (Some Whole) (cond (eqb a.kind 1) (Some (Cut (outline_in a))) None)

-- the drawn outline is the first floats of the path's buffer where the answer is Whole, else of the dash buffer: so many
unfoldable pub hz_outline : List Float → ℕ → List Float → HzDashed → HzOutline
hz_outline path points dash a = record { floats = length (outline_of path points dash (dashed_in a)); from_dash = flag_out (flag_in a.kind) }
