-- Laws of the refusals.
--     sound            a state that is not at odds is within the buffers
--     refusal_fits     a call that is not refused has room
--     refusal_fewer    a call that lays less is not refused where one that lays more is not
--     fits_fewer       what has room has room for less
-- Assumes nothing.
use mathlib.Core.Path.{◌≡◌, refl}
use mathlib.Core.Bool.{Bool, true, false, cond}
use Prim.Native.Nat.{ℕ, ◌+◌, ◌/◌, ◌%◌, ◌≤◌, min}
use native.Mathlib.Nat.{min-le_left, min-le_right}
use native.Mathlib.Omega.{arith}
use borrow.Author.Tests.{le-ltb, ltb-false}
use lib.Dec.{eqb}
use Rattle.std.specs.Prelude.{Result, Ok, Err}
use Rattle.vec2.proofs.Tests.{first_false}
use Rattle.path.specs.Check.{max_verbs, max_points}
use Rattle.path.specs.declared.Refusal.{Refusal}
use Rattle.path.specs.declared.Refusal.TheVariants.{OddFloats, BuilderFull, BadState}
use Rattle.store.specs.declared.Standing.{Standing}
use Rattle.store.specs.Refusal.{verb_cap, point_cap, bad_state, no_room, refusal_of, Fits}

pub sound : (at : Standing) (nv nk : ℕ) → bad_state at nv nk ≡ false → (at.verbs ≤ nv) × (at.points ≤ nk)
unfolding bad_state
sound at nv nk h =
    let x = first_false _ _ h in
    let y = first_false _ _ x.1 in
    (ltb-false nv at.verbs x.0, ltb-false nk at.points y.0)

-- by the tests in their order
abbrev by_tests : Bool → Bool → Bool → Result Unit Refusal
by_tests odd broken full = cond odd (Err OddFloats) (cond broken (Err BadState) (cond full (Err BuilderFull) (Ok tt)))

has_room : (a c d : Bool) → by_tests a c d ≡ Ok tt → (a ≡ false) × (c ≡ false) × (d ≡ false)
has_room true c d h = absurd (cc)
has_room false true d h = absurd (cc)
has_room false false true h = absurd (cc)
has_room false false false h = (refl, refl, refl)

module _ (at : Standing) (nv nf dv dk : ℕ) where
  pub refusal_fits : refusal_of at nv nf dv dk ≡ Ok tt → Fits at nv nf dv dk
  unfolding refusal_of no_room verb_cap point_cap
  refusal_fits h =
      let x = first_false _ _ (has_room (eqb (nf % 2) 1) (bad_state at (verb_cap nv) (point_cap nf)) _ h).2 in
      let p = ltb-false (min nv max_verbs) (at.verbs + dv) x.0 in
      let q = ltb-false (min (nf / 2) max_points) (at.points + dk) x.1 in
      record {
        verbs = omega (arith, p, min-le_left nv max_verbs);
        points = omega (arith, q, min-le_left (nf / 2) max_points);
        few_verbs = omega (arith, p, min-le_right nv max_verbs);
        few_points = omega (arith, q, min-le_right (nf / 2) max_points);
      }

  pub refusal_fewer : (dv' dk' : ℕ) → dv' ≤ dv → dk' ≤ dk → refusal_of at nv nf dv dk ≡ Ok tt → refusal_of at nv nf dv' dk' ≡ Ok tt
  unfolding refusal_of no_room
  refusal_fewer dv' dk' hv hk h =
      let f = has_room (eqb (nf % 2) 1) (bad_state at (verb_cap nv) (point_cap nf)) _ h in
      let x = first_false _ _ f.2 in
      let p = le-ltb (verb_cap nv) (at.verbs + dv') (omega (arith, ltb-false (verb_cap nv) (at.verbs + dv) x.0)) in
      let q = le-ltb (point_cap nf) (at.points + dk') (omega (arith, ltb-false (point_cap nf) (at.points + dk) x.1)) in
      rw (f.0, f.1, p, q)

pub fits_fewer : {at : Standing} {nv nf dv dk dv' dk' : ℕ} → dv' ≤ dv → dk' ≤ dk → Fits at nv nf dv dk → Fits at nv nf dv' dk'
fits_fewer e d r = record { verbs = omega (arith, r.verbs); points = omega (arith, r.points); few_verbs = omega (arith, r.few_verbs); few_points = omega (arith, r.few_points) }
