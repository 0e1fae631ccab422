-- What `replay` answers and leaves: the run of the encoded list of calls on a fresh builder; and that every list has an encoding. Definitions only.
use Rattle.std.specs.Prelude.{◌≡◌, ℕ, ◌+◌, Bool, true, false, List, [], ◌∷◌, length, Float}
use Rattle.builder.specs.declared.Call.{Call}
use Rattle.builder.specs.Build.{Built, fresh_over, run, refusals}
use Rattle.replay.specs.Calls.{calls, kinds, numbers, AllKinds}
use Rattle.replay.specs.declared.Replayed.{Replayed}

abbrev pub one_if : Bool → ℕ
one_if false = 0
one_if true = 1

-- how many calls are refused
unfoldable pub refused_of : List Bool → ℕ
refused_of [] = 0
refused_of (r ∷ rs) = one_if r + refused_of rs

pub record Outcome : Type 0 where
  pub reply : Replayed
  pub bytes : List ℕ
  pub floats : List Float

abbrev pub outcome : Replayed → List ℕ → List Float → Outcome
outcome r bs fs = record { reply = r; bytes = bs; floats = fs }

abbrev pub played_to : Built → ℕ → ℕ → Outcome
played_to b n k = outcome (record { state = b.state; calls = n; refused = k }) b.bytes b.floats

-- the calls cs, on a fresh builder over lent buffers: what they leave, how many they are, and how many of them are refused
abbrev pub run_of : List Call → List ℕ → List Float → Outcome
run_of cs bs fs = played_to (run (fresh_over bs fs) cs) (length cs) (refused_of (refusals (fresh_over bs fs) cs))

unfoldable pub replayed : List ℕ → List Float → List ℕ → List Float → Outcome
replayed ks ns bs fs = run_of (calls ks ns) bs fs

-- Every list of calls has an encoding: bytes that are kinds, and numbers, from which the same list is read. So what `replay` answers for it, where two slices can
-- hold it, is the run of that list, over any buffers.
pub record Encodes (cs : List Call) : Type 0 where
  pub bytes : AllKinds (kinds cs)
  pub read : calls (kinds cs) (numbers cs) ≡ cs
  pub played : (bs : List ℕ) (fs : List Float) → replayed (kinds cs) (numbers cs) bs fs ≡ run_of cs bs fs
