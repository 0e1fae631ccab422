-- What refuses a call of the builder ("Numbers" of the scope): from what stands, the buffers and what the call lays. Definitions only.
use Rattle.std.specs.Prelude.{ℕ, ◌+◌, ◌*◌, ◌/◌, ◌%◌, ◌≤◌, min, Bool, not, ◌&&◌, ◌||◌, cond, ltb, eqb, Result, Ok, Err}
use Rattle.std.specs.Bool.{beq}
use Rattle.path.specs.Check.{max_verbs, max_points}
use Rattle.path.specs.declared.Refusal.{Refusal}
use Rattle.path.specs.declared.Refusal.TheVariants.{OddFloats, BuilderFull, BadState}
use Rattle.store.specs.declared.Standing.{Standing}

-- what buffers of nv bytes and of nf floats hold, inside the limits
unfoldable pub verb_cap : ℕ → ℕ
verb_cap nv = min nv max_verbs

unfoldable pub point_cap : ℕ → ℕ
point_cap nf = min (nf / 2) max_points

-- 7: counts over the buffers or limits, which hold nv verbs and nk points; "started" not equal to having a verb; started without a point
unfoldable pub bad_state : Standing → ℕ → ℕ → Bool
bad_state at nv nk =
    ltb nv at.verbs
    || (ltb nk at.points || (not (beq at.started (ltb 0 at.verbs)) || (at.started && eqb at.points 0)))

-- 2: dv more verbs or dk more points than the buffers or limits have left
unfoldable pub no_room : Standing → ℕ → ℕ → ℕ → ℕ → Bool
no_room at nv nk dv dk = ltb nv (at.verbs + dv) || ltb nk (at.points + dk)

-- whether a call of dv verbs and dk points is taken, in buffers of nv bytes and nf floats: 1, 7 and 2, in this order
unfoldable pub refusal_of : Standing → ℕ → ℕ → ℕ → ℕ → Result Unit Refusal
refusal_of at nv nf dv dk =
    cond (eqb (nf % 2) 1) (Err OddFloats)
    (cond (bad_state at (verb_cap nv) (point_cap nf)) (Err BadState) (cond (no_room at (verb_cap nv) (point_cap nf) dv dk) (Err BuilderFull) (Ok tt)))

-- dv more verbs and dk more points fit in buffers of nv bytes and nf floats, and inside the limits
pub record Fits (at : Standing) (nv nf dv dk : ℕ) : Type 0 where
  pub verbs : at.verbs + dv ≤ nv
  pub points : 2 * (at.points + dk) ≤ nf
  pub few_verbs : at.verbs + dv ≤ max_verbs
  pub few_points : at.points + dk ≤ max_points
