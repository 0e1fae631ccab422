-- A list that was laid behind what stands, and the state behind it.
--     draws_one, draws_quads, opened    the state behind drawn segments, and behind those with their opening
--     replied, answered, unmoved        the whole outcome of a call, from what was laid
--     close_called                      a close, where something stands and where nothing does
--     conic_line, conic_called          a conic that is a line, or quads
--     past_quads, quads_room            where it stands behind a conic's quads, and their room
-- Assumes nothing.
use mathlib.Core.Path.{◌≡◌, refl, sym, ap, ◌∙◌}
use mathlib.Core.Bool.{Bool, true, false}
use mathlib.Core.List.{List, [], ◌∷◌, ◌++◌}
use Prim.Native.Nat.{ℕ, ◌+◌, ◌*◌, ◌≤◌}
use native.Mathlib.Omega.{arith}
use lib.ListN.{length}
use lib.Seq.{sets}
use lib.Ieee.{Float}
use Rattle.std.specs.Prelude.{Result, Ok, Err}
use Rattle.std.specs.Result.{result_and}
use Rattle.vec2.specs.declared.Vec2.{Vec2}
use Rattle.vec2.specs.Vec2.{origin}
use Rattle.vec2.specs.Points.{flat}
use Rattle.path.specs.declared.Refusal.{Refusal}
use Rattle.path.specs.Refusal.{unless}
use Rattle.path.specs.declared.Segment.{Segment}
use Rattle.path.specs.declared.Segment.TheVariants.{Move, Line, Quad, Cubic, Close}
use Rattle.path.specs.Check.{max_points}
use Rattle.path.specs.Segment.{is_drawn, end_of, bytes_of, all_points}
use Rattle.halves.specs.Conic.{straight, quads}
use Rattle.halves.proofs.Laws.{Quads, one, more}
use Rattle.conic.specs.declared.Conic.{Conic}
use Rattle.conic.specs.Lay.{quads_of}
use Rattle.store.specs.declared.Standing.{Standing}
use Rattle.store.specs.Store.{next, behind, Laid}
use Rattle.store.proofs.Stored.{behind_counts}
use Rattle.drawing.specs.Lay.{opening, lead}
use Rattle.bending.specs.Bend.{Curved}
use Rattle.bending.proofs.Laws.{all_verbs, all_twice, curved_fits}
use Rattle.builder.specs.declared.Call.TheVariants.{LineTo, ConicTo, Close as CloseIt}
use Rattle.builder.specs.declared.PathBuilder.{PathBuilder}
use Rattle.builder.specs.Call.{from, closing, lays}
use Rattle.builder.specs.Build.{standing, start_of, pen_of, step, steps, refusal, Outcome, outcome, pushed_by, pushed, quads_laid, called}
use Rattle.builder.specs.Replied.{moved_to, replied_by}

-- ---- the state

-- segments that leave the latest move's point, and end at p
abbrev pub Draws : List Segment → Vec2 → Type 0
Draws ts p = (b : PathBuilder) → moved_to b (behind (standing b) ts) (start_of b) p ≡ steps b ts

pub draws_one : (s : Segment) → is_drawn s ≡ true → Draws (s ∷ []) (end_of s)
unfolding steps
draws_one (Move p) h b = absurd (cc)
draws_one (Line p) h b = refl
draws_one (Quad c p) h b = refl
draws_one (Cubic c d p) h b = refl
draws_one Close h b = absurd (cc)

pub draws_quads : (t : Vec2) (qs : List Segment) → Quads t qs → Draws qs t
unfolding steps
draws_quads t qs (one c) b = refl
draws_quads t qs (more c p rs h) b = draws_quads t rs h (step b (Quad c p))

pub opened : (t : Bool) (b : PathBuilder) (ts : List Segment) (p : Vec2) → Draws ts p →
    moved_to b (behind (standing b) (opening t ++ ts)) (from t (start_of b)) p ≡ steps b (opening t ++ ts)
unfolding steps
opened true b ts p d = d b
opened false b ts p d = d (step b (Move origin))

-- ---- the outcome

module _ (b : PathBuilder) (vs : List ℕ) (fs : List Float) (ss : List Segment) {vs' : List ℕ} {fs' : List Float} where
  replied_as : (n : Result Unit Refusal) (r : Result Standing Refusal) (a p : Vec2) → r ≡ result_and n (Ok (behind (standing b) ss)) →
      vs' ≡ unless r vs (sets vs b.verbs (bytes_of ss)) → fs' ≡ unless r fs (sets fs (2 * b.points) (flat (all_points ss))) →
      moved_to b (behind (standing b) ss) a p ≡ steps b ss → outcome (replied_by r b a p) vs' fs' ≡ pushed_by n 0 b vs fs ss
  replied_as (Ok x) r a p e ev ef m = rw (ev, ef, e, m)
  replied_as (Err x) r a p e ev ef m = rw (ev, ef, e)

  pub replied : (r : Result Standing Refusal) (a p : Vec2) → Laid r (behind (standing b) ss) (standing b) vs fs ss vs' fs' →
      moved_to b (behind (standing b) ss) a p ≡ steps b ss → outcome (replied_by r b a p) vs' fs' ≡ pushed 0 b vs fs ss
  unfolding pushed refusal
  replied r a p g m = replied_as _ r a p g.answer g.bytes g.floats m

  answered_as : (n : Result Unit Refusal) (r : Result ℕ Refusal) (q : ℕ) → r ≡ result_and n (Ok q) →
      vs' ≡ unless r vs (sets vs b.verbs (bytes_of ss)) → fs' ≡ unless r fs (sets fs (2 * b.points) (flat (all_points ss))) →
      outcome (record { state = unless r b (steps b ss); quads = r }) vs' fs' ≡ pushed_by n q b vs fs ss
  answered_as (Ok x) r q e ev ef = rw (ev, ef, e)
  answered_as (Err x) r q e ev ef = rw (ev, ef, e)

  pub answered : (r : Result ℕ Refusal) (q : ℕ) → Laid r q (standing b) vs fs ss vs' fs' →
      outcome (record { state = unless r b (steps b ss); quads = r }) vs' fs' ≡ pushed q b vs fs ss
  unfolding pushed refusal
  answered r q g = answered_as _ r q g.answer g.bytes g.floats

module _ (b : PathBuilder) (vs : List ℕ) (fs : List Float) where
  unmoved_as : (n : Result Unit Refusal) (r : Result ℕ Refusal) → r ≡ result_and n (Ok 0) → outcome (record { state = b; quads = r }) vs fs ≡ pushed_by n 0 b vs fs []
  unfolding steps
  unmoved_as (Ok x) r e = rw e
  unmoved_as (Err x) r e = rw e

  pub unmoved : (r : Result ℕ Refusal) → r ≡ result_and (refusal b (length vs) (length fs) 0 0) (Ok 0) → outcome (record { state = b; quads = r }) vs fs ≡ pushed 0 b vs fs []
  unfolding pushed
  unmoved r e = unmoved_as _ r e

  -- a close is laid where something stands
  pub close_called : (t : Bool) {o : Outcome} → b.started ≡ t → o ≡ pushed 0 b vs fs (closing t) → o ≡ called b vs fs CloseIt
  unfolding called lays quads_laid
  close_called t e h = h ∙ ap (λ (u : Bool). pushed 0 b vs fs (closing u)) (sym e)

-- ---- conics

module _ (b : PathBuilder) (vs : List ℕ) (fs : List Float) (c t : Vec2) (w : Float) where
  pub conic_line : straight c t w ≡ true → called b vs fs (LineTo t) ≡ called b vs fs (ConicTo c t w)
  unfolding called lays quads_laid
  conic_line e = rw e

  conic_bend : straight c t w ≡ false →
      pushed (length (quads (from b.started (pen_of b)) c t w)) b vs fs (opening b.started ++ quads (from b.started (pen_of b)) c t w) ≡ called b vs fs (ConicTo c t w)
  unfolding called lays quads_laid
  conic_bend e = rw e

  -- as its quads were laid from a, where it begins
  pub conic_called : (a : Vec2) (r : Result ℕ Refusal) {vs' : List ℕ} {fs' : List Float} → straight c t w ≡ false → a ≡ from b.started (pen_of b) →
      Laid r (length (quads a c t w)) (standing b) vs fs (opening b.started ++ quads a c t w) vs' fs' →
      outcome (record { state = unless r b (steps b (opening b.started ++ quads a c t w)); quads = r }) vs' fs' ≡ called b vs fs (ConicTo c t w)
  conic_called a r s e g =
      answered b vs fs (opening b.started ++ quads a c t w) r (length (quads a c t w)) g
      ∙ ap (λ (x : Vec2). pushed (length (quads x c t w)) b vs fs (opening b.started ++ quads x c t w)) e
      ∙ conic_bend s

started_on : (ss : List Segment) (at : Standing) → at.started ≡ true → (behind at ss).started ≡ true
started_on [] at e = e
started_on (s ∷ ss) at e = started_on ss (next at s) refl

started : (t : Bool) (ss : List Segment) (at : Standing) → at.started ≡ t → (behind at (opening t ++ ss)).started ≡ true
started true ss at e = started_on ss at e
started false ss at e = started_on ss (next at (Move origin)) refl

standing_as : (at : Standing) {v k : ℕ} → v ≡ at.verbs → k ≡ at.points → at.started ≡ true → record { verbs = v; points = k; started = true } ≡ at
standing_as at e d f = rw (e, d, ← f)

pub past_quads : (at : Standing) (c : Conic) {l q : ℕ} → l ≡ lead at.started → q ≡ length (quads_of c) →
    record { verbs = at.verbs + (l + q); points = at.points + (l + 2 * q); started = true } ≡ behind at (opening at.started ++ quads_of c)
past_quads at c e d =
    let n = behind_counts (opening at.started ++ quads_of c) at in
    standing_as (behind at (opening at.started ++ quads_of c)) (rw (e, d) (omega (arith, n.0, all_verbs at c))) (rw (e, d) (omega (arith, n.1, all_twice at c))) (started at.started (quads_of c) at refl)

pub quads_room : (at : Standing) (c : Conic) {l q : ℕ} {vs vs' : List ℕ} {fs fs' : List Float} → Curved (Ok q) at c vs fs vs' fs' → l ≡ lead at.started →
    (at.verbs + (l + q) ≤ max_points) × (at.points + (l + 2 * q) ≤ max_points)
quads_room at c g e =
    let f = curved_fits at c g in
    (omega (arith, e, f.1.few_verbs), omega (arith, e, f.1.few_points))
