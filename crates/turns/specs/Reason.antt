-- What a reason says of an outline. Definitions only.
use Rattle.turns.specs.declared.Reason.{Reason}
use Rattle.turns.specs.declared.Reason.TheVariants.{FewPoints, NoTurn, Agree, Opposing, FullTurn, Curve, SecondMove}
use Rattle.turns.specs.declared.Convexity.{Convexity}
use Rattle.turns.specs.declared.Convexity.TheVariants.{Convex, Concave}

abbrev pub convexity_of : Reason → Convexity
convexity_of FewPoints = Convex
convexity_of NoTurn = Convex
convexity_of Agree = Convex
convexity_of (Opposing j) = Concave
convexity_of (FullTurn n) = Concave
convexity_of Curve = Concave
convexity_of SecondMove = Concave
