-- Turns, and what is kept of them on the way round: the sign and the two sums of `polygon_convexity` (path.rs). Definitions only.
use Rattle.std.specs.Prelude.{ℕ, ◌+◌, ◌-◌, ◌%◌, Bool, true, false, cond, ltb}
use Rattle.turns.specs.declared.Side.{Side}
use Rattle.turns.specs.declared.Side.TheVariants.{Straight, Left, Right}
use Rattle.turns.specs.declared.Turn.{Turn}
use Rattle.turns.specs.declared.Tally.{Tally}
use Rattle.turns.specs.declared.Reason.{Reason}
use Rattle.turns.specs.declared.Reason.TheVariants.{NoTurn, Agree, FullTurn}

-- no turn so far
abbrev pub start : Tally
start = record { side = Straight; left = 0; right = 0 }

-- a counted turn against the side of the turns so far
abbrev pub opposed : Side → Side → Bool
opposed Straight s = false
opposed Left Straight = false
opposed Left Left = false
opposed Left Right = true
opposed Right Straight = false
opposed Right Left = true
opposed Right Right = false

-- the quadrants are added in both readings, to the left and to the right
abbrev pub advanced : Tally → Side → ℕ → Tally
advanced t s q = record { side = s; left = t.left + q; right = t.right + (4 - q) % 4 }

-- one turn more that doesn't oppose: a small one leaves the side as it was, yet its quadrants count
abbrev pub counted_as : Side → Tally → ℕ → Tally
counted_as Straight t q = advanced t t.side q
counted_as Left t q = advanced t Left q
counted_as Right t q = advanced t Right q

abbrev pub counted : Tally → Turn → Tally
counted t b = counted_as b.side t b.advance

-- more than one full turn
abbrev pub full_turn : ℕ → Reason
full_turn n = cond (ltb 4 n) (FullTurn n) Agree

abbrev pub ended_at : Side → ℕ → ℕ → Reason
ended_at Straight l r = NoTurn
ended_at Left l r = full_turn l
ended_at Right l r = full_turn r

-- the reason where no turn opposes
abbrev pub ended : Tally → Reason
ended t = ended_at t.side t.left t.right
