-- What holds of a path, and of a list of points, that is not refused; and that what holds so is not refused. Assumes nothing.
use mathlib.Core.Path.{◌≡◌, refl}
use mathlib.Core.Bool.{Bool, true, false, not, ◌||◌, cond}
use mathlib.Core.List.{List}
use Prim.Native.Nat.{ℕ, ◌/◌, ◌%◌, ◌≤◌}
use borrow.Author.Tests.{le-ltb, ltb-false, eq-eqb, eqb-true, ne_eqb, not-false}
use lib.Dec.{ltb, eqb}
use lib.ListN.{length}
use lib.Ieee.{Float}
use Rattle.vec2.proofs.Tests.{first_false}
use Rattle.std.specs.Prelude.{Result, Ok, Err}
use Rattle.std.specs.Result.{result_and}
use Rattle.path.specs.declared.Refusal.{Refusal}
use Rattle.path.specs.declared.Refusal.TheVariants.{OddFloats, OverLimit, NoVerb, BadPath}
use Rattle.path.specs.Check.{max_verbs, max_points, any_over4, bad_first, check_points, check, used_by}

pub record Sound (vs : List ℕ) (fs : List Float) : Type 0 where
  pub few : length vs ≤ max_verbs
  pub room : length fs / 2 ≤ max_points
  pub known : any_over4 vs ≡ false
  pub first : bad_first vs ≡ false
  pub used : used_by vs ≡ length fs / 2

-- by the tests in their order
abbrev points_by : Bool → Bool → Result Unit Refusal
points_by odd over = cond odd (Err OddFloats) (cond over (Err OverLimit) (Ok tt))

abbrev verbs_by : Bool → Bool → Bool → Result Unit Refusal
verbs_by many strange bad = cond many (Err OverLimit) (cond strange (Err NoVerb) (cond bad (Err BadPath) (Ok tt)))

points_pass : (odd over : Bool) → points_by odd over ≡ Ok tt → over ≡ false
points_pass true over h = absurd (cc)
points_pass false true h = absurd (cc)
points_pass false false h = refl

all_pass : (odd over many strange bad : Bool) → result_and (points_by odd over) (verbs_by many strange bad) ≡ Ok tt →
    (over ≡ false) × (many ≡ false) × (strange ≡ false) × (bad ≡ false)
all_pass true over many strange bad h = absurd (cc)
all_pass false true many strange bad h = absurd (cc)
all_pass false false true strange bad h = absurd (cc)
all_pass false false false true bad h = absurd (cc)
all_pass false false false false true h = absurd (cc)
all_pass false false false false false h = (refl, refl, refl, refl)

pub list_room : (fs : List Float) → check_points fs ≡ Ok tt → length fs / 2 ≤ max_points
unfolding check_points
list_room fs h = ltb-false max_points (length fs / 2) (points_pass (eqb (length fs % 2) 1) (ltb max_points (length fs / 2)) h)

module _ (vs : List ℕ) (fs : List Float) where
  pub sound : check vs fs ≡ Ok tt → Sound vs fs
  unfolding check check_points
  sound h =
      let n = all_pass (eqb (length fs % 2) 1) (ltb max_points (length fs / 2)) (ltb max_verbs (length vs)) (any_over4 vs) (bad_first vs || not (eqb (used_by vs) (length fs / 2))) h in
      let f = first_false (bad_first vs) (not (eqb (used_by vs) (length fs / 2))) n.3 in
      record {
        few = ltb-false max_verbs (length vs) n.1;
        room = ltb-false max_points (length fs / 2) n.0;
        known = n.2;
        first = f.0;
        used = eqb-true (used_by vs) (length fs / 2) (not-false _ f.1);
      }

  pub taken : (length fs % 2 ≡ 1 → ⊥) → Sound vs fs → check vs fs ≡ Ok tt
  unfolding check check_points
  taken even s =
      rw (ne_eqb (length fs % 2) 1 even, le-ltb max_points (length fs / 2) s.room, le-ltb max_verbs (length vs) s.few, s.known, s.first, eq-eqb (used_by vs) (length fs / 2) s.used)
