-- What the splitting of a conic has done to the buffers that it is lent. Definitions only.
use Rattle.std.specs.Prelude.{◌≡◌, ℕ, zero, suc, Option, Some, None, List, get_or, drop, length, Float}
use Rattle.std.proofs.lemmas.List.Edits.{sets}
use Rattle.vec2.specs.Points.{flat}
use Rattle.path.specs.declared.Segment.{Segment}
use Rattle.path.specs.Segment.{bytes_of, all_points}
use Rattle.halves.specs.Conic.{half_weight, quads}
use Rattle.conic.specs.declared.Conic.{Conic}

-- Of the k levels below weight w: where ws has a weight at k − 1, it is that of w's halves, and so on down.
abbrev pub Levels : ℕ → Float → List (Option Float) → Type 0
Levels zero w ws = Unit
Levels (suc k) w ws = ((u : Float) → get_or ws k None ≡ Some u → u ≡ half_weight w) × Levels k (half_weight w) ws

-- behind a call for weight w with k levels below it: these still hold, and those above them are as they were
pub record KeptLevels (k : ℕ) (w : Float) (ws ws' : List (Option Float)) : Type 0 where
  pub below : Levels k w ws'
  pub above : drop k ws' ≡ drop k ws

abbrev pub quads_of : Conic → List Segment
quads_of c = quads c.from c.ctrl c.to c.weight

-- the points of the quads have been stored at the front, and r is the number of quads
pub record Put (qs : List Segment) (r : ℕ) (fs fs' : List Float) : Type 0 where
  pub number : r ≡ length qs
  pub floats : fs' ≡ sets fs 0 (flat (all_points qs))

-- the list of quads has been stored at the front of both buffers, and r is its length
pub record Bent (qs : List Segment) (r : ℕ) (vs vs' : List ℕ) (fs fs' : List Float) : Type 0 where
  pub number : r ≡ length qs
  pub verbs : vs' ≡ sets vs 0 (bytes_of qs)
  pub floats : fs' ≡ sets fs 0 (flat (all_points qs))
