-- The laws of `traced`, once for every loop, and the rule of induction over its turns. Assumes nothing.
use mathlib.Core.Path.{◌≡◌, refl, ◌∙◌, ap}
use Prim.Native.Nat.{ℕ, zero, suc, ◌^◌, ◌<◌}
use native.Mathlib.Omega.{arith}
use mathlib.Core.Bool.{Bool, true, false}
use mathlib.Core.List.{[]}
use Rattle.events.specs.Loop.{Trace, then, trace, traced}

module _ {S E : Type 0} (go : S → Bool) (next : S → S) (tell : S → E) where
  stop_at : (N : ℕ) (s : S) → trace go next tell N false s ≡ record { told = []; end = s }
  unfolding trace
  stop_at zero s = refl
  stop_at (suc k) s = refl

  pub traced_stop : (s : S) → go s ≡ false → traced go next tell s ≡ record { told = []; end = s }
  unfolding traced
  traced_stop s h = ap (λ (b : Bool). trace go next tell (2 ^ 33) b s) h ∙ stop_at (2 ^ 33) s

  -- what holds where a loop ends, and over each turn, holds of the whole: no measure is wanted
  ind_at : (P : S → Trace E S → Type 0) → ((s : S) → P s (record { told = []; end = s })) → ((s : S) (r : Trace E S) → P (next s) r → P s (then go next tell s r))
      → (N : ℕ) (b : Bool) (s : S) → P s (trace go next tell N b s)
  unfolding trace
  ind_at P z st zero b s = z s
  ind_at P z st (suc k) false s = z s
  ind_at P z st (suc k) true s = st s (trace go next tell k (go (next s)) (next s)) (ind_at P z st k (go (next s)) (next s))

  pub traced_ind : (P : S → Trace E S → Type 0) → ((s : S) → P s (record { told = []; end = s })) → ((s : S) (r : Trace E S) → P (next s) r → P s (then go next tell s r))
      → (s : S) → P s (traced go next tell s)
  unfolding traced
  traced_ind P z st s = ind_at P z st (2 ^ 33) (go s) s

-- `Ok` is kept by each step, and under it `μ` falls
module _ {S E : Type 0} (go : S → Bool) (next : S → S) (tell : S → E) (Ok : S → Type 0) (μ : S → ℕ)
    (keeps : (s : S) → Ok s → go s ≡ true → Ok (next s)) (less : (s : S) → Ok s → go s ≡ true → μ (next s) < μ s) where
  same : (j k : ℕ) (b : Bool) (s : S) → go s ≡ b → Ok s → μ s < j → μ s < k → trace go next tell j b s ≡ trace go next tell k b s
  unfolding trace
  same zero k b s e o h l = absurd (omega arith)
  same (suc j) zero b s e o h l = absurd (omega arith)
  same (suc j) (suc k) false s e o h l = refl
  same (suc j) (suc k) true s e o h l = let d = less s o e in ap (then go next tell s) (same j k (go (next s)) (next s) refl (keeps s o e) (omega arith) (omega arith))

  step_at : (N : ℕ) (s : S) → Ok s → μ s < N → go s ≡ true → trace go next tell N (go s) s ≡ then go next tell s (trace go next tell N (go (next s)) (next s))
  unfolding trace
  step_at zero s o l h = absurd (omega arith)
  step_at (suc k) s o l h =
      let d = less s o h in
      ap (λ (b : Bool). trace go next tell (suc k) b s) h ∙ ap (then go next tell s) (same k (suc k) (go (next s)) (next s) refl (keeps s o h) (omega arith) (omega arith))

  pub traced_step : (s : S) → Ok s → μ s < 2 ^ 33 → go s ≡ true → traced go next tell s ≡ then go next tell s (traced go next tell (next s))
  unfolding traced
  traced_step s o l h = step_at (2 ^ 33) s o l h
