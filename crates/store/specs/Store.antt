-- What a call leaves in the builder's two lent buffers. Definitions only.
use Rattle.std.specs.Prelude.{◌≡◌, ℕ, ◌+◌, ◌*◌, true, List, [], ◌∷◌, length, Float, Result, Ok}
use Rattle.std.specs.Result.{result_and}
use Rattle.std.proofs.lemmas.List.Edits.{sets}
use Rattle.vec2.specs.Points.{flat}
use Rattle.path.specs.declared.Refusal.{Refusal}
use Rattle.path.specs.declared.Segment.{Segment}
use Rattle.path.specs.Segment.{points_of, bytes_of, all_points}
use Rattle.path.specs.Refusal.{unless}
use Rattle.store.specs.Refusal.{refusal_of}
use Rattle.store.specs.declared.Standing.{Standing}

-- where the builder stands behind a segment, and behind a list of them
abbrev pub next : Standing → Segment → Standing
next at s = record { verbs = at.verbs + 1; points = at.points + length (points_of s); started = true }

abbrev pub behind : Standing → List Segment → Standing
behind at [] = at
behind at (s ∷ ss) = behind (next at s) ss

-- the segments ss were stored behind what stood
pub record Stored (at : Standing) (vs : List ℕ) (fs : List Float) (ss : List Segment) (vs' : List ℕ) (fs' : List Float) : Type 0 where
  pub bytes : vs' ≡ sets vs at.verbs (bytes_of ss)
  pub floats : fs' ≡ sets fs (2 * at.points) (flat (all_points ss))

-- a call that lays the segments ss answered r, which is a unless it was refused, and stored them, unless it was refused
pub record Laid {A : Type 0} (r : Result A Refusal) (a : A) (at : Standing) (vs : List ℕ) (fs : List Float) (ss : List Segment) (vs' : List ℕ) (fs' : List Float) : Type 0 where
  pub answer : r ≡ result_and (refusal_of at (length vs) (length fs) (length ss) (length (all_points ss))) (Ok a)
  pub bytes : vs' ≡ unless r vs (sets vs at.verbs (bytes_of ss))
  pub floats : fs' ≡ unless r fs (sets fs (2 * at.points) (flat (all_points ss)))
