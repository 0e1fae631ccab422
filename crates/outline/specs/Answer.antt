-- The answer of `dash_path` as the scope's number and values, for each case ("Dash" and "Numbers" of the scope). Definitions only.
use Rattle.std.specs.Prelude.{ℕ, Bool, true, false, Result, Ok, Err}
use Rattle.std.proofs.Math.Option.{Option, none, some}
use Rattle.path.specs.declared.Refusal.{Refusal}
use Rattle.path.specs.Refusal.{number}
use Rattle.outline.specs.declared.Outline.{Outline}
use Rattle.outline.specs.declared.Dashed.{Dashed}
use Rattle.outline.specs.declared.Dashed.TheVariants.{Whole, Cut}

pub record Answer : Type 0 where
  -- the number that refuses, 0 for none
  pub number : ℕ
  -- the drawn outline is the path's own part
  pub whole : Bool
  -- W2: how many curves were held back, 0 for Whole and beside a refusal
  pub held : ℕ
  -- what is cut: how much of the dash buffers and the scratch is filled, the same number of held curves, and the fill rule
  pub cut : Option Outline

abbrev pub refused_by : Refusal → Answer
refused_by r = record { number = number r; whole = false; held = 0; cut = none }

abbrev pub drawn_whole : Answer
drawn_whole = record { number = 0; whole = true; held = 0; cut = none }

abbrev pub cut_into : Outline → Answer
cut_into o = record { number = 0; whole = false; held = o.held; cut = some o }

abbrev pub answer_of : Result Dashed Refusal → Answer
answer_of (Ok Whole) = drawn_whole
answer_of (Ok (Cut o)) = cut_into o
answer_of (Err r) = refused_by r
