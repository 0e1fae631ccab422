-- A played list of calls as C has it. Definitions only.
use Rattle.std.specs.Prelude.{ℕ, List, Float}
use Rattle.replay.specs.declared.Replayed.{Replayed}
use Rattle.replay.specs.Replay.{Outcome, replayed}
use Rattle.crossing.specs.declared.HzReplayed.{HzReplayed}
use Rattle.crossing.specs.Builder.{state_out}

abbrev pub replayed_out : Replayed → HzReplayed
replayed_out r = record { state = state_out r.state; calls = r.calls; refused = r.refused }

-- the reply, and what both buffers hold afterwards
pub record HzReplay : Type 0 where
  pub reply : HzReplayed
  pub bytes : List ℕ
  pub floats : List Float

abbrev pub replay_outcome : HzReplayed → List ℕ → List Float → HzReplay
replay_outcome r vs fs = record { reply = r; bytes = vs; floats = fs }

abbrev pub played : Outcome → HzReplay
played o = replay_outcome (replayed_out o.reply) o.bytes o.floats

abbrev pub hz_replayed : List ℕ → List Float → List ℕ → List Float → HzReplay
hz_replayed ks ns bs fs = played (replayed ks ns bs fs)
