-- How answers are told. Definitions only.
use Rattle.std.specs.Prelude.{Bool, true, false, List, ℕ, ◌++◌, codes, decimal, Option, Some, Result, Ok, Err}
use Rattle.path.specs.declared.Refusal.{Refusal}
use Rattle.path.specs.Refusal.{number}
use Rattle.turns.specs.declared.Convexity.{Convexity}
use Rattle.turns.specs.declared.Convexity.TheVariants.{Convex, Concave}

abbrev pub refused_text : Refusal → List ℕ
refused_text r = codes "refused " ++ decimal (number r)

-- an answer as it is written itself
abbrev pub told_text : {A : Type 0} → (A → Option (List ℕ)) → Result A Refusal → Option (List ℕ)
told_text output (Ok x) = output x
told_text output (Err r) = Some (refused_text r)

abbrev pub shape_text : Convexity → List ℕ
shape_text Convex = codes "Convex"
shape_text Concave = codes "Concave"

abbrev pub yes_no_text : Bool → List ℕ
yes_no_text true = codes "yes"
yes_no_text false = codes "no"
