-- A run of calls of one kind, of whatever kind: where it stands before each turn, and where it ends.
--     begins, onward       before the first turn; a run behind another
--     turned               a turn
--     run_over, went_on    the end of a run; a run that played some
--     no_call              a byte that is no kind
--     over                 the whole list was played
-- Assumes nothing.
use mathlib.Core.Path.{◌≡◌, refl, sym, ap, ap₂, ◌∙◌}
use mathlib.Core.List.{List, []}
use Prim.Native.Nat.{ℕ, ◌+◌, ◌<◌}
use native.Mathlib.Omega.{arith}
use lib.ListN.{length, get_or, drop}
use lib.Ieee.{Float}
use Rattle.builder.specs.declared.Reply.{Reply}
use Rattle.builder.specs.declared.Call.{Call}
use Rattle.builder.specs.Build as build
use Rattle.builder.specs.Build.{Built, fresh_over, run, answers, refusals, called}
use Rattle.replay.specs.Calls.{call_of, calls}
use Rattle.replay.specs.Replay.{refused_of, played_to, replayed}
use Rattle.replay.specs.declared.Replayed.{Replayed}
use Rattle.replay.specs.declared.Run.{Run}
use Rattle.replay.specs.Run.{calls_of, next_kind, First, Begun, Behind, standing, refused_with, Along, Ran}
use Rattle.replay.proofs.Places.{bad_kind}
use Rattle.replay.proofs.Turns.{run_more, refused_more, call_kept}

pub begins : (r : Run) (vs : List ℕ) (fs : List Float) → Along r vs fs r vs fs
begins r vs fs = record { kinds = refl; on = omega arith; bytes = refl; floats = refl; calls = refl; refused = refl; made = refl }

pub onward : {r q p : Run} {vs vs' vs'' : List ℕ} {fs fs' fs'' : List Float} → Along r vs fs q vs' fs' → Along q vs' fs' p vs'' fs'' → Along r vs fs p vs'' fs''
onward s t =
    record {
      kinds = t.kinds ∙ s.kinds;
      on = omega (arith, s.on, t.on);
      bytes = t.bytes ∙ s.bytes;
      floats = t.floats ∙ s.floats;
      calls = t.calls ∙ s.calls;
      refused = t.refused ∙ s.refused;
      made = t.made ∙ s.made;
    }

-- a call of kind k is played
turn : {k : ℕ} {q p : Run} {own ms : List Float} {vs vs' : List ℕ} {fs fs' : List Float} (o : Reply) →
    First k q own ms → build.outcome o vs' fs' ≡ called q.done.state vs fs (call_of k own) → Behind q o ms p → Along q vs fs p vs' fs'
turn {k} {q} {p} {own} {ms} {vs} {vs'} {fs} {fs'} o f e g =
    let c = call_of k own in
    let cs = calls (drop (q.done.calls + 1) q.kinds.now) ms in
    let n : p.done.calls ≡ q.done.calls + 1 = ap (λ (x : Replayed). x.calls) g.done in
    let left : calls_of p ≡ cs = ap₂ calls (ap₂ drop n g.kinds) g.numbers in
    let kept = call_kept q.done.state vs fs c o vs' fs' e in
    record {
      kinds = g.kinds;
      on = omega (arith, n);
      bytes = kept.bytes;
      floats = kept.floats;
      calls = omega (arith, n, ap length f.calls, ap length left);
      refused =
          ap₂ (λ (d : Replayed) (x : List Call). refused_with d.refused (standing d.state vs' fs') x) g.done left
          ∙ refused_more q.done.state vs fs c cs o vs' fs' e q.done.refused
          ∙ ap (λ (x : List Call). refused_with q.done.refused (standing q.done.state vs fs) x) (sym f.calls);
      made =
          ap₂ (λ (d : Replayed) (x : List Call). run (standing d.state vs' fs') x) g.done left
          ∙ run_more q.done.state vs fs c cs o vs' fs' e
          ∙ ap (λ (x : List Call). run (standing q.done.state vs fs) x) (sym f.calls);
    }

pub turned : {k : ℕ} {r q p : Run} {own ms : List Float} {vs vs' vs'' : List ℕ} {fs fs' fs'' : List Float} (o : Reply) →
    Along r vs fs q vs' fs' → First k q own ms → build.outcome o vs'' fs'' ≡ called q.done.state vs' fs' (call_of k own) → Behind q o ms p → Along r vs fs p vs'' fs''
turned o s f e g = onward s (turn o f e g)

-- none follows: the list is over, or some were played, for the first one is of this kind
pub run_over : {k : ℕ} {r q : Run} {vs vs' : List ℕ} {fs fs' : List Float} → Along r vs fs q vs' fs' → next_kind r ≡ k → (next_kind q ≡ k → calls_of q ≡ []) → Ran r vs fs q vs' fs'
run_over s m h = record { along = s; ended = λ e. h (ap₂ (λ (ks : List ℕ) (i : ℕ). get_or ks i 0) s.kinds e ∙ m) }

-- one was played
pub went_on : {k : ℕ} {r q : Run} {own ms : List Float} {vs vs' : List ℕ} {fs fs' : List Float} (o : Reply) →
    First k r own ms → build.outcome o vs' fs' ≡ called r.done.state vs fs (call_of k own) → Behind r o ms q → Ran r vs fs q vs' fs'
went_on o f e g = record { along = turn o f e g; ended = λ d. absurd (omega (arith, d, ap (λ (x : Replayed). x.calls) g.done)) }

-- a byte that is no kind
pub no_call : {k : ℕ} (r : Run) (vs : List ℕ) (fs : List Float) → next_kind r ≡ k → 8 < k → Ran r vs fs r vs fs
no_call r vs fs m h = run_over (begins r vs fs) m (λ e. bad_kind r.kinds.now r.numbers.now r.done.calls (omega (arith, m, h)))

-- ---- the whole list

-- where the run r leaves nothing behind it, the whole list was played
pub over : {ks : List ℕ} {ns : List Float} {q r : Run} {vs vs' : List ℕ} {fs fs' : List Float} → Begun ks ns q → Along q vs fs r vs' fs' → calls_of r ≡ [] →
    played_to (standing r.done.state vs' fs') r.done.calls r.done.refused ≡ replayed ks ns vs fs
unfolding run answers refused_of replayed
over {ks} {ns} {q} {r} {vs} {vs'} {fs} {fs'} b s h =
    let cs = calls ks ns in
    let n : q.done.calls ≡ 0 = ap (λ (x : Replayed). x.calls) b.done in
    let k : q.done.refused ≡ 0 = ap (λ (x : Replayed). x.refused) b.done in
    let all : calls_of q ≡ cs = ap₂ calls (ap₂ drop n b.kinds) b.numbers in
    let made : standing r.done.state vs' fs' ≡ run (fresh_over vs fs) cs =
    ap (run (standing r.done.state vs' fs')) (sym h) ∙ s.made ∙ ap₂ (λ (d : Replayed) (x : List Call). run (standing d.state vs fs) x) b.done all in
    let refused : r.done.refused ≡ refused_of (refusals (fresh_over vs fs) cs) =
    omega (
      arith,
      k,
      s.refused,
      ap (λ (x : List Call). refused_of (refusals (standing r.done.state vs' fs') x)) h,
      ap₂ (λ (d : Replayed) (x : List Call). refused_of (refusals (standing d.state vs fs) x)) b.done all,
    ) in
    let played : r.done.calls ≡ length cs = omega (arith, n, s.calls, ap length h, ap length all) in
    ap (λ (x : Built). played_to x r.done.calls r.done.refused) made ∙ ap₂ (played_to (run (fresh_over vs fs) cs)) played refused
