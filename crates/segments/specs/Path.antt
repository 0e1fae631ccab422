-- A path whose points are enough for its verbs, and one that the check lets pass ("Path" of the scope). Definitions only.
use Rattle.std.specs.Prelude.{ℕ, List, Result, Ok, Float}
use Rattle.std.specs.Result.{result_and}
use Rattle.path.specs.declared.Refusal.{Refusal}
use Rattle.path.specs.Check.{check}

pub record Parts : Type 0 where
  pub verbs : List ℕ
  pub points : List Float

abbrev pub checked : List ℕ → List Float → Result Parts Refusal
checked vs fs = result_and (check vs fs) (Ok (record { verbs = vs; points = fs }))
