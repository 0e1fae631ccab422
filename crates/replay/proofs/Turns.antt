-- The playing of the list: what the calls that are left make of the present state and buffers, with what was counted, is what the whole list makes of a
-- fresh builder. Assumes nothing.
use mathlib.Core.Path.{◌≡◌, refl, ap, ◌∙◌}
use mathlib.Core.Bool.{Bool, true, false, cond}
use mathlib.Core.List.{List, ◌∷◌}
use Prim.Native.Nat.{ℕ, ◌+◌, ◌*◌}
use native.Mathlib.Omega.{arith}
use lib.ListN.{length}
use lib.Seq.{sets, length-sets}
use lib.Ieee.{Float}
use Rattle.builder.specs.declared.PathBuilder.{PathBuilder}
use Rattle.builder.specs.declared.Reply.{Reply}
use Rattle.builder.specs.declared.Call.{Call}
use Rattle.path.specs.declared.Refusal.{Refusal}
use Rattle.path.specs.Refusal.{unless}
use Rattle.builder.specs.Build as build
use Rattle.builder.specs.Build.{Built, fresh_over, run, answers, refusals, pushed, buffered, called, call}
use Rattle.vec2.specs.Points.{flat}
use Rattle.path.specs.declared.Segment.{Segment}
use Rattle.path.specs.Segment.{bytes_of, all_points}
use Rattle.std.specs.Prelude.{Result, Ok, Err, is_err}
use Rattle.replay.specs.Replay.{one_if, refused_of}
use Rattle.replay.specs.Run.{standing, refused_with}

-- a call that was played first, as the builder's own promise tells it
module _ (b : PathBuilder) (vs : List ℕ) (fs : List Float) (c : Call) (cs : List Call) (r : Reply) (vs' : List ℕ) (fs' : List Float) (e : build.outcome r vs' fs' ≡ called b vs fs c) where
  pub run_more : run (standing r.state vs' fs') cs ≡ run (standing b vs fs) (c ∷ cs)
  unfolding run
  run_more = ap (λ (o : build.Outcome). run (build.left_by o) cs) e

  pub refused_more : (k : ℕ) → refused_with (k + one_if (is_err r.quads)) (standing r.state vs' fs') cs ≡ refused_with k (standing b vs fs) (c ∷ cs)
  unfolding answers refused_of
  refused_more k = omega (arith, ap (λ (o : build.Outcome). one_if (is_err o.reply.quads) + refused_of (refusals (build.left_by o) cs)) e)

-- ---- a call keeps the buffers' lengths

kept : {A : Type 0} (r : Result Unit Refusal) (l : List A) (i : ℕ) (vs : List A) → length (unless r l (sets l i vs)) ≡ length l
kept (Ok u) l i vs = length-sets l i vs
kept (Err e) l i vs = refl

pub record SameLengths (vs vs' : List ℕ) (fs fs' : List Float) : Type 0 where
  pub bytes : length vs' ≡ length vs
  pub floats : length fs' ≡ length fs

pushed_kept : (t : Bool) (q : ℕ) (b : PathBuilder) (vs : List ℕ) (fs : List Float) (ss : List Segment) (r : Reply) →
    let o = cond t (pushed q b vs fs ss) (build.outcome r vs fs) in SameLengths vs o.bytes fs o.floats
unfolding pushed
pushed_kept true q b vs fs ss r =
    let n = build.refusal b (length vs) (length fs) (length ss) (length (all_points ss)) in
    record { bytes = kept n vs b.verbs (bytes_of ss); floats = kept n fs (2 * b.points) (flat (all_points ss)) }
pushed_kept false q b vs fs ss r = record { bytes = refl; floats = refl }

pub call_kept : (b : PathBuilder) (vs : List ℕ) (fs : List Float) (c : Call) (r : Reply) (vs' : List ℕ) (fs' : List Float) →
    build.outcome r vs' fs' ≡ called b vs fs c → SameLengths vs vs' fs fs'
unfolding called
call_kept b vs fs c r vs' fs' e =
    let k = pushed_kept (buffered c) (build.quads_laid b c) b vs fs (build.new b c) (build.settled (build.set_by b c)) in
    record { bytes = ap (λ (o : build.Outcome). length o.bytes) e ∙ k.bytes; floats = ap (λ (o : build.Outcome). length o.floats) e ∙ k.floats }
