-- A pattern's tests and its working cycle (`is_usable`, `cycle`, dash.rs; "Dash" of the scope). Definitions only.
use Rattle.std.specs.Prelude.{ℕ, ◌%◌, ◌≡◌, ◌⊎◌, Bool, true, false, ◌&&◌, cond, List, [], ◌∷◌, ◌++◌, length, replicate, eqb, fold, Float}
use Rattle.std.specs.List.{list_all}
use Rattle.std.proofs.lemmas.List.Edits.{sets}
use Rattle.std.specs.Float.{binary32}
use Rattle.std.specs.Float.Ieee.{of_bits, lt, le}
use Rattle.float.specs.Arith.{plus, f0}
use Rattle.float.specs.Small.{is_finite}

-- the most intervals of a pattern, and of its working cycle
abbrev pub max_intervals : ℕ
max_intervals = 64

abbrev pub max_cycle : ℕ
max_cycle = 128

-- the working cycle: an odd pattern laid twice
abbrev pub cycle_of : List Float → List Float
cycle_of ps = cond (eqb (length ps % 2) 0) ps (ps ++ ps)

-- the array that holds it: zeros behind it
abbrev pub working_cycle : List Float → List Float
working_cycle ps = sets (replicate max_cycle f0) 0 (cycle_of ps)

-- added first to last, from s on
abbrev pub sum_from : Float → List Float → Float
sum_from s xs = fold plus s xs

-- finite and 0 or more
abbrev pub good_interval : Float → Bool
good_interval x = is_finite x && le f0 x

abbrev pub all_good : List Float → Bool
all_good xs = list_all good_interval xs

-- not empty
abbrev pub some : List Float → Bool
some [] = false
some (x ∷ xs) = true

-- it is the sum as given that is judged here, not the working cycle's
abbrev pub usable : List Float → Float → Bool
usable ps phase = some ps && (all_good ps && (lt f0 (sum_from f0 ps) && is_finite phase))

-- zeros alone, 0 or −0 (W6)
abbrev pub AllZero : List Float → Type 0
AllZero [] = Unit
AllZero (x ∷ xs) = ((x ≡ f0) ⊎ (x ≡ of_bits binary32 0x8000_0000)) × AllZero xs

-- the working cycle's sum
abbrev pub period : List Float → Float
period ps = sum_from f0 (cycle_of ps)

-- the path is cut, and not drawn whole
abbrev pub cuts : List Float → Float → Float → Bool
cuts ps phase tolerance = usable ps phase && (is_finite (period ps) && lt tolerance (period ps))
