-- The refusals by the scope's numbers ("Numbers" of the scope). Definitions only.
use Rattle.std.specs.Prelude.{ℕ, Result, Ok, Err}
use Rattle.path.specs.declared.Refusal.{Refusal}
use Rattle.path.specs.declared.Refusal.TheVariants.{OddFloats, BuilderFull, OutputFull, OverLimit, NoVerb, BadPath, BadState, LongPattern, NoStyle}

abbrev pub number : Refusal → ℕ
number OddFloats = 1
number BuilderFull = 2
number OutputFull = 3
number OverLimit = 4
number NoVerb = 5
number BadPath = 6
number BadState = 7
number LongPattern = 8
number NoStyle = 9

-- the number that an answer carries: 0 where it is no refusal
abbrev pub number_of : {A : Type 0} → Result A Refusal → ℕ
number_of (Ok x) = 0
number_of (Err r) = number r

-- what was, where the call is refused; what is new, where it is not
abbrev pub unless : {A B : Type 0} → Result A Refusal → B → B → B
unless (Ok x) was new = new
unless (Err r) was new = was
