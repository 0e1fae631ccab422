-- What the writing promises: points, ends and marks stored one behind the other. Definitions only.
use Rattle.std.specs.Prelude.{◌≡◌, ℕ, pred, ◌+◌, ◌*◌, Bool, not, Option, List, ◌++◌, length, Float}
use Rattle.std.specs.Option.{option_len, option_map, option_to_list}
use Rattle.std.proofs.lemmas.List.Edits.{sets}
use Rattle.vec2.specs.declared.Vec2.{Vec2}
use Rattle.vec2.specs.Points.{flat}
use Rattle.polyline.specs.declared.Spot.{Spot}
use Rattle.curve.specs.Count.{param}
use Rattle.polyline.specs.Flatten.{only_if, steps}
use Rattle.polyline.specs.Pass.{close_before}
use Rattle.polyline.specs.Subpaths.{mark}

-- a drawn segment's points, behind the polyline's start where that is not written yet
abbrev pub begun : Spot → List Vec2 → List Vec2
begun w ps = only_if (not w.drawn) w.start ++ ps

-- a curve's points without its end
abbrev pub inner_points : (Float → Vec2) → ℕ → List Vec2
inner_points eval n = steps (λ i. eval (param i n)) 1 (pred n)

-- what a curve's calls return is what eval gives
abbrev pub Evaluates : (Float → Vec2 → Type 0) → (Float → Vec2) → Type 0
Evaluates returns eval = (t : Float) (q : Vec2) → returns t q → q ≡ eval t

-- points stored from point `at` on, and the place behind them
pub record Wrote (before left : List Float) (at next : ℕ) (ps : List Vec2) : Type 0 where
  pub stored : left ≡ sets before (2 * at) (flat ps)
  pub moved : next ≡ at + length ps

-- an end, if there is one, stored with its mark at place `at`, and the place behind them
pub record Ended (ends ends' marks marks' : List ℕ) (at next : ℕ) (end : Option ℕ) (m : ℕ) : Type 0 where
  pub ended : ends' ≡ sets ends at (option_to_list end)
  pub marked : marks' ≡ sets marks at (option_to_list (option_map (λ _. m) end))
  pub moved : next ≡ at + option_len end

-- whether the last of the verbs is a close
abbrev pub last_closes : List ℕ → Bool
last_closes vs = close_before vs (length vs)

-- the mark of a subpath whose last verb that is
abbrev pub last_mark : List ℕ → ℕ
last_mark vs = mark (last_closes vs)
