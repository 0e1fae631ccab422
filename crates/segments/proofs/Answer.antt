-- What the check's answer shows. Assumes nothing.
use Rattle.std.proofs.Common.{◌≡◌, ◌*◌, ◌≤◌, ℕ, refl, List, length, Result, Ok, Err, Float}
use native.Mathlib.Omega.{arith}
use Rattle.std.specs.Result.{result_and}
use Rattle.path.specs.declared.Refusal.{Refusal}
use Rattle.path.specs.Check.{max_verbs, check, used_by}
use Rattle.path.proofs.Checks.{sound}
use Rattle.segments.specs.Path.{Parts, checked}

passed_by : (r : Result Unit Refusal) (q p : Parts) → ◌≡◌ {A = Result Parts Refusal} (result_and r (Ok q)) (Ok p) → (r ≡ Ok tt) × (p ≡ q)
passed_by (Ok u) q p h = (refl, cc)
passed_by (Err e) q p h = absurd (cc)

refused_by : (r : Result Unit Refusal) (q : Parts) (x : Refusal) → ◌≡◌ {A = Result Parts Refusal} (result_and r (Ok q)) (Err x) → r ≡ Err x
refused_by (Ok u) q x h = absurd (cc)
refused_by (Err e) q x h = cc

module _ (vs : List ℕ) (fs : List Float) where
  pub enough : (u : Unit) → check vs fs ≡ Ok u → 2 * used_by vs ≤ length fs
  enough tt h = omega (arith, (sound vs fs h).used)

  pub passed : (p : Parts) → checked vs fs ≡ Ok p → (check vs fs ≡ Ok tt) × (p ≡ record { verbs = vs; points = fs })
  passed p h = passed_by (check vs fs) _ p h

  pub refused : (x : Refusal) → checked vs fs ≡ Err x → check vs fs ≡ Err x
  refused x h = refused_by (check vs fs) _ x h

  pub few : (p : Parts) → checked vs fs ≡ Ok p → length p.verbs ≤ max_verbs
  few p h =
      let k = passed p h in
      rw k.1 (sound vs fs k.0).few
