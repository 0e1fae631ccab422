-- Laws of what a conic lays.
--     room_left                the room behind what goes before its quads
--     all_verbs, all_twice     how many verbs and points its quads are, with what goes before them
--     bent                     its quads, stored in the rest of both buffers, are what a call lays that is not refused
--     curved_fits              how many are laid, and their room
-- Assumes nothing.
use mathlib.Core.Path.{◌≡◌, refl, ◌∙◌, ap}
use mathlib.Core.Bool.{Bool, true, false}
use mathlib.Core.List.{List, ◌++◌}
use Prim.Native.Nat.{ℕ, ◌+◌, ◌*◌, ◌-◌, ◌≤◌}
use lib.ListN.{length}
use lib.Ieee.{Float}
use Rattle.std.specs.Prelude.{Ok}
use Rattle.path.specs.Segment.{bytes_of, all_points}
use Rattle.halves.proofs.Laws.{quads_points}
use Rattle.conic.specs.declared.Conic.{Conic}
use Rattle.conic.specs.Lay.{quads_of, Bent}
use Rattle.store.specs.declared.Standing.{Standing}
use Rattle.store.specs.Refusal.{refusal_of, Fits}
use Rattle.store.proofs.Refusals.{refusal_fits}
use Rattle.store.specs.Store.{behind, Stored}
use Rattle.store.proofs.Stored.{behind_counts, stored_append, laid_fits}
use Rattle.conic.proofs.Stores.{behind_set}
use borrow.Rule.Slice.PartMut.{mid_of, put_mid}
use Rattle.std.proofs.Math.Seq.{length-sets}
use native.Mathlib.Omega.{arith}
use Rattle.vec2.specs.Points.{flat}
use Rattle.vec2.proofs.Points.{length-flat}
use Rattle.path.proofs.Encoded.{length-bytes}
use Rattle.bending.specs.Bend.{Curved}
use Rattle.drawing.specs.Lay.{opening, lead}
use Rattle.drawing.proofs.Laws.{opened_verbs, opened_points}

led : (t : Bool) → (length (opening t) ≡ lead t) × (length (all_points (opening t)) ≡ lead t)
led true = (refl, refl)
led false = (refl, refl)

-- where q quads have room, they have it behind the opening
pub room_left : (at : Standing) (q : ℕ) {next : Standing} {vs vs' : List ℕ} {fs fs' : List Float} → next ≡ behind at (opening at.started) → Stored at vs fs (opening at.started) vs' fs' →
    refusal_of at (length vs) (length fs) (lead at.started + q) (lead at.started + 2 * q) ≡ Ok tt → (next.verbs + q ≤ length vs') × (2 * next.points + 4 * q ≤ length fs')
room_left at q {next} {vs} {vs'} {fs} {fs'} e g r =
    let o = opening at.started in
    let m = led at.started in
    let n = behind_counts o at in
    let f = refusal_fits at (length vs) (length fs) (lead at.started + q) (lead at.started + 2 * q) r in
    rw (e, g.bytes, g.floats, length-sets vs at.verbs (bytes_of o), length-sets fs (2 * at.points) (flat (all_points o))) (omega (arith, n, m, f.verbs), omega (arith, n, m, f.points))

module _ (at : Standing) (c : Conic) where
  pub all_verbs : length (opening at.started ++ quads_of c) ≡ lead at.started + length (quads_of c)
  all_verbs = opened_verbs at.started (quads_of c)

  pub all_twice : length (all_points (opening at.started ++ quads_of c)) ≡ lead at.started + 2 * length (quads_of c)
  all_twice = opened_points at.started (quads_of c) ∙ ap (λ (n : ℕ). lead at.started + n) (quads_points c.from c.ctrl c.to c.weight)

  -- next is where the quads go, and ws and gs are what they leave of the buffers from there on
  pub bent : {next : Standing} {q : ℕ} {vs vs' ws : List ℕ} {fs fs' gs : List Float} → next ≡ behind at (opening at.started) → Stored at vs fs (opening at.started) vs' fs' →
      refusal_of at (length vs) (length fs) (lead at.started + q) (lead at.started + 2 * q) ≡ Ok tt →
      Bent (quads_of c) q (mid_of next.verbs (length vs' - next.verbs) vs') ws (mid_of (2 * next.points) (length fs' - 2 * next.points) fs') gs →
      Curved (Ok q) at c vs fs (put_mid next.verbs (length vs' - next.verbs) vs' ws) (put_mid (2 * next.points) (length fs' - 2 * next.points) fs' gs)
  bent {next} {q} {vs} {vs'} {ws} {fs} {fs'} {gs} e g r b =
      let qs = quads_of c in
      let m = room_left at q e g r in
      let s = stored_append at (opening at.started) qs g (record {
        bytes = behind_set vs' next.verbs ws (bytes_of qs) b.verbs (omega (arith, m, b.number, length-bytes qs)) ∙ rw e;
        floats = behind_set fs' (2 * next.points) gs (flat (all_points qs)) b.floats (omega (arith, m, b.number, length-flat (all_points qs), quads_points c.from c.ctrl c.to c.weight)) ∙ rw e;
      }) in
      record { answer = rw (all_verbs, all_twice, ← b.number, r); bytes = s.bytes; floats = s.floats }

  pub curved_fits : {q : ℕ} {vs vs' : List ℕ} {fs fs' : List Float} → Curved (Ok q) at c vs fs vs' fs' →
      (q ≡ length (quads_of c)) × Fits at (length vs) (length fs) (lead at.started + q) (lead at.started + 2 * q)
  curved_fits g =
      let f = laid_fits (opening at.started ++ quads_of c) g in
      (f.0, rw (f.0, ← all_verbs, ← all_twice) f.1)
