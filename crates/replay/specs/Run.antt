-- The playing of an encoded list in runs: what is left of it, and what a run of calls does. Definitions only.
use Rattle.std.specs.Prelude.{◌≡◌, ◌∷◌, [], List, ℕ, ◌+◌, ◌≤◌, ◌<◌, length, get_or, drop, is_err, Float}
use Rattle.builder.specs.declared.PathBuilder.{PathBuilder}
use Rattle.builder.specs.declared.Reply.{Reply}
use Rattle.builder.specs.declared.Call.{Call}
use Rattle.builder.specs.Build.{Built, fresh, run, refusals}
use Rattle.replay.specs.Calls.{call_of, calls}
use Rattle.replay.specs.Replay.{one_if, refused_of}
use Rattle.replay.specs.declared.Run.{Run}

-- the calls that are left
abbrev pub calls_of : Run → List Call
calls_of r = calls (drop r.done.calls r.kinds.now) r.numbers.now

-- the kind of the next, or 0 where there is none
abbrev pub next_kind : Run → ℕ
next_kind r = get_or r.kinds.now r.done.calls 0

-- a call of kind k stands next, whose numbers are ns, with the numbers ms behind them
pub record First (k : ℕ) (r : Run) (ns ms : List Float) : Type 0 where
  pub kinds : r.done.calls < length r.kinds.now
  pub calls : calls_of r ≡ call_of k ns ∷ calls (drop (r.done.calls + 1) r.kinds.now) ms

-- nothing of the list was played, and the builder is fresh
pub record Begun (ks : List ℕ) (ns : List Float) (r : Run) : Type 0 where
  pub kinds : r.kinds.now ≡ ks
  pub numbers : r.numbers.now ≡ ns
  pub done : r.done ≡ record { state = fresh; calls = 0; refused = 0 }

-- where the playing stands behind a call that got the reply o, with the numbers ms left
pub record Behind (r : Run) (o : Reply) (ms : List Float) (q : Run) : Type 0 where
  pub kinds : q.kinds.now ≡ r.kinds.now
  pub numbers : q.numbers.now ≡ ms
  pub done : q.done ≡ record { state = o.state; calls = r.done.calls + 1; refused = r.done.refused + one_if (is_err o.quads) }

abbrev pub standing : PathBuilder → List ℕ → List Float → Built
standing b vs fs = record { state = b; bytes = vs; floats = fs }

-- how many of the calls cs are refused, where n were before
abbrev pub refused_with : ℕ → Built → List Call → ℕ
refused_with n b cs = n + refused_of (refusals b cs)

-- From r and these buffers some calls were played, which led to q and those: what is left then makes the same of them.
pub record Along (r : Run) (vs : List ℕ) (fs : List Float) (q : Run) (vs' : List ℕ) (fs' : List Float) : Type 0 where
  pub kinds : q.kinds.now ≡ r.kinds.now
  pub on : r.done.calls ≤ q.done.calls
  pub bytes : length vs' ≡ length vs
  pub floats : length fs' ≡ length fs
  pub calls : q.done.calls + length (calls_of q) ≡ r.done.calls + length (calls_of r)
  pub refused : refused_with q.done.refused (standing q.done.state vs' fs') (calls_of q) ≡ refused_with r.done.refused (standing r.done.state vs fs) (calls_of r)
  pub made : run (standing q.done.state vs' fs') (calls_of q) ≡ run (standing r.done.state vs fs) (calls_of r)

-- the same of a whole run: where it played nothing, the list ends
pub record Ran (r : Run) (vs : List ℕ) (fs : List Float) (q : Run) (vs' : List ℕ) (fs' : List Float) : Type 0 where
  pub along : Along r vs fs q vs' fs'
  pub ended : q.done.calls ≡ r.done.calls → calls_of q ≡ []
