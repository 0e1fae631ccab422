-- A refused flattening gives C no totals, and leaves the lent outputs as they were. Assumes nothing.
use Rattle.std.proofs.Common.{◌≡◌, ℕ, refl, List, Err, Float}
use Rattle.path.specs.declared.Refusal.{Refusal}
use Rattle.polyline.specs.Flatten.{Outcome, flatten}
use Rattle.polyline.specs.Laws.{RefusalLaws}
use Rattle.polyline.proofs.Laws.{refusal_laws}
use Rattle.crossing.specs.Answers.{flatten_outcome_out, hz_flatten}
use Rattle.crossing.specs.Laws.{RefusedFlattening}

refused_out : (o : Outcome) (out : List Float) (es ms : List ℕ) (e : Refusal) → o.answer ≡ Err e → RefusalLaws out es ms o → RefusedFlattening out es ms e (flatten_outcome_out o)
refused_out o out es ms e h l =
    rw h
    (record {
      points = refl;
      polylines = refl;
      starts = refl;
      lines = refl;
      counts = refl;
      closings = refl;
      held = refl;
      refused = refl;
      same_floats = l.same_floats;
      same_ends = l.same_ends;
      same_marks = l.same_marks;
    })

pub refused_flattening : (vs : List ℕ) (fs : List Float) (tol : Float) (out : List Float) (es ms : List ℕ) (e : Refusal) →
    (flatten vs fs tol out es ms).answer ≡ Err e → RefusedFlattening out es ms e (hz_flatten vs fs tol out es ms)
unfolding hz_flatten
refused_flattening vs fs tol out es ms e h = refused_out (flatten vs fs tol out es ms) out es ms e h (refusal_laws vs fs tol out es ms e h)
