-- The walk round a list of points, after `polygon_convexity` (path.rs): first the junctions of its edges that have length, then a reason over them. It asks
-- of points only which are the same and how three of them turn, so that points of floats and of whole numbers share it. Definitions only.
use Rattle.std.specs.Prelude.{ℕ, zero, suc, ◌+◌, ◌%◌, Bool, true, false, cond, List, [], ◌∷◌, ltb, length, get_or}
use Rattle.turns.specs.declared.Turn.{Turn}
use Rattle.turns.specs.declared.Tally.{Tally}
use Rattle.turns.specs.declared.Reason.{Reason}
use Rattle.turns.specs.declared.Reason.TheVariants.{FewPoints, NoTurn, Opposing}
use Rattle.turns.specs.Turn.{start, opposed, counted, ended}

-- What the walk asks of points: equality, and the turn at the second of three. No code reads `nowhere`, which stands past the end.
pub record Plane (P : Type 0) : Type 0 where
  pub same : P → P → Bool
  pub turn : P → P → P → Turn
  pub nowhere : P

-- Where two edges meet: the incoming one from a to b, the outgoing one from b to c; b is the point of that index.
pub record Junction (P : Type 0) : Type 0 where
  pub index : ℕ
  pub a : P
  pub b : P
  pub c : P

-- ---- from points to junctions

module _ {P : Type 0} (g : Plane P) (ps : List P) where
  abbrev pub at : ℕ → P
  at k = get_or ps k g.nowhere

  -- the index at which a search for a point that differs from b ends: `left` more may be passed over, and e says whether the point at k is the same as b
  unfoldable pub seek : ℕ → Bool → P → ℕ → ℕ
  seek zero e b k = k
  seek (suc left) false b k = k
  seek (suc left) true b k = let k' = (k + 1) % length ps in seek left (g.same (at k') b) b k'

  -- from the point at k on, round the list
  unfoldable pub next : P → ℕ → ℕ
  next b k = seek (length ps) (g.same (at k) b) b k

  -- at the end of the edge from point i
  unfoldable pub junction_at : ℕ → Junction P
  junction_at i =
      let j = (i + 1) % length ps in
      record { index = j; a = at i; b = at j; c = at (next (at j) ((i + 2) % length ps)) }

  -- an edge that has no length has no junction
  abbrev pub unless_same : Bool → Junction P → List (Junction P) → List (Junction P)
  unless_same true j js = js
  unless_same false j js = j ∷ js

  -- at the ends of the k edges from point i on
  unfoldable pub junctions_from : ℕ → ℕ → List (Junction P)
  junctions_from i zero = []
  junctions_from i (suc k) = unless_same (g.same (at i) (at ((i + 1) % length ps))) (junction_at i) (junctions_from (suc i) k)

  unfoldable pub junctions : List (Junction P)
  junctions = junctions_from 0 (length ps)

-- ---- from junctions to a reason

module _ {P : Type 0} (g : Plane P) where
  abbrev pub turn_at : Junction P → Turn
  turn_at j = g.turn j.a j.b j.c

  -- the source's tests in their order; the first, whether the next point is the present one, never holds (proofs/Never)
  unfoldable pub judge : Tally → List (Junction P) → Reason
  judge t [] = ended t
  judge t (j ∷ js) =
      cond (g.same j.c j.b) NoTurn
      (cond (opposed t.side (turn_at j).side) (Opposing j.index) (judge (counted t (turn_at j)) js))

  unfoldable pub walked : List P → Reason
  walked ps = judge start (junctions g ps)

  unfoldable pub reason_of : List P → Reason
  reason_of ps = cond (ltb (length ps) 3) FewPoints (walked ps)
