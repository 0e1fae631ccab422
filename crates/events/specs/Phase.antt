-- Where in the cycle a walk begins (`walk`, dash.rs, with zeros passed over). Definitions only.
use Rattle.std.specs.Prelude.{ℕ, ◌%◌, Bool, not, ◌&&◌, List, get_or, eqb, Float}
use Rattle.std.specs.Float.{nan}
use Rattle.std.specs.Float.Ieee.{le}
use Rattle.float.specs.Small.{maximum, rem_euclid}
use Rattle.events.specs.Loop.{traced}
use Rattle.events.specs.Zeros.{first_above, next}
use Rattle.float.specs.Arith.{minus, f0}
use Rattle.events.specs.declared.Pos.{Pos}

-- an interval's number and what remains of the phase there
pub record Phase : Type 0 where
  pub index : ℕ
  pub remaining : Float

abbrev pub phase_goes : List Float → Phase → Bool
phase_goes cs s =
    let c = get_or cs s.index nan in
    le c s.remaining && not (le s.remaining (minus s.remaining c))

abbrev pub phase_next : List Float → Phase → Phase
phase_next cs s = record { index = next cs s.index; remaining = minus s.remaining (get_or cs s.index nan) }

abbrev pub phase_from : List Float → Phase → Phase
phase_from cs s = (traced (phase_goes cs) (phase_next cs) (λ z. z.index) s).end

abbrev pub started : List Float → Phase → Pos
started cs s = record { index = s.index; left = maximum (minus (get_or cs s.index nan) s.remaining) f0; drawing = eqb (s.index % 2) 0 }

abbrev pub start_of : List Float → Float → Float → Pos
start_of cs phase period = started cs (phase_from cs (record { index = first_above cs 0; remaining = rem_euclid phase period }))
