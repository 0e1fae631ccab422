-- The refusals of who hands in a path: 1, 4, 5, 6, in this order ("Numbers" of the scope). Definitions only.
use Rattle.std.specs.Prelude.{ℕ, ◌+◌, ◌/◌, ◌%◌, Bool, false, not, ◌||◌, cond, List, [], ◌∷◌, length, ltb, eqb, nat_lt, Float, Result, Ok, Err}
use Rattle.std.specs.List.{list_any}
use Rattle.std.specs.Result.{result_and}
use Rattle.path.specs.declared.Refusal.{Refusal}
use Rattle.path.specs.declared.Refusal.TheVariants.{OddFloats, OverLimit, NoVerb, BadPath}
use Rattle.path.specs.Segment.{used}

abbrev pub max_verbs : ℕ
max_verbs = 65536

abbrev pub max_points : ℕ
max_points = 131072

-- the points that the verbs use
abbrev pub used_by : List ℕ → ℕ
used_by [] = 0
used_by (v ∷ vs) = used v + used_by vs

-- 5: a verb byte over 4
abbrev pub any_over4 : List ℕ → Bool
any_over4 vs = list_any (λ v. nat_lt 4 v) vs

-- 6: not empty and first verb not 0
abbrev pub bad_first : List ℕ → Bool
bad_first [] = false
bad_first (v ∷ vs) = not (eqb v 0)

-- a bare point list: 1, 4
unfoldable pub check_points : List Float → Result Unit Refusal
check_points fs = cond (eqb (length fs % 2) 1) (Err OddFloats) (cond (ltb max_points (length fs / 2)) (Err OverLimit) (Ok tt))

-- a path: 1 and 4 of its points, 4 of its verbs, 5, 6
unfoldable pub check : List ℕ → List Float → Result Unit Refusal
check vs fs =
    result_and (check_points fs)
    (cond (ltb max_verbs (length vs)) (Err OverLimit)
    (cond (any_over4 vs) (Err NoVerb) (cond (bad_first vs || not (eqb (used_by vs) (length fs / 2))) (Err BadPath) (Ok tt))))
