-- Segments stored behind what stands.
--     behind_append, behind_counts    where it stands behind them
--     stored_append                   one list behind another
--     laid_fits                       the answer of a call that was not refused, and its room
-- Assumes nothing.
use mathlib.Core.Path.{◌≡◌, refl, ◌∙◌}
use mathlib.Core.List.{List, [], ◌∷◌, ◌++◌}
use Prim.Native.Nat.{ℕ, ◌+◌, ◌*◌}
use native.Mathlib.Omega.{arith}
use lib.ListN.{length, length-append}
use lib.Ieee.{Float}
use Rattle.std.specs.Prelude.{Result, Ok, Err}
use Rattle.std.specs.Result.{result_and}
use Rattle.path.specs.declared.Refusal.{Refusal}
use Rattle.vec2.specs.Points.{flat}
use Rattle.vec2.proofs.Points.{flat_append, length-flat, sets-append}
use Rattle.path.specs.declared.Segment.{Segment}
use Rattle.path.specs.Segment.{bytes_of, all_points}
use Rattle.path.proofs.Encoded.{bytes_of-append, all_points-append, length-bytes}
use Rattle.store.specs.declared.Standing.{Standing}
use Rattle.store.specs.Refusal.{refusal_of, Fits}
use Rattle.store.specs.Store.{next, behind, Stored, Laid}
use Rattle.store.proofs.Refusals.{refusal_fits}

pub behind_append : (ss ts : List Segment) (at : Standing) → behind at (ss ++ ts) ≡ behind (behind at ss) ts
behind_append [] ts at = refl
behind_append (s ∷ ss) ts at = behind_append ss ts (next at s)

pub behind_counts : (ss : List Segment) (at : Standing) → ((behind at ss).verbs ≡ at.verbs + length ss) × ((behind at ss).points ≡ at.points + length (all_points ss))
behind_counts [] at = (omega arith, omega arith)
behind_counts (s ∷ ss) at =
    let h = behind_counts ss (next at s) in
    (omega arith, simp length-append (omega arith))

pub stored_append : (at : Standing) (ss ts : List Segment) {vs vs' vs'' : List ℕ} {fs fs' fs'' : List Float} →
    Stored at vs fs ss vs' fs' → Stored (behind at ss) vs' fs' ts vs'' fs'' → Stored at vs fs (ss ++ ts) vs'' fs''
stored_append at ss ts {vs} {fs = fs} g h =
    let n = behind_counts ss at in
    let i : (behind at ss).verbs ≡ at.verbs + length (bytes_of ss) = omega (arith, n.0, length-bytes ss) in
    let j : 2 * (behind at ss).points ≡ 2 * at.points + length (flat (all_points ss)) = omega (arith, n.1, length-flat (all_points ss)) in
    record {
      bytes = h.bytes ∙ rw (g.bytes, i, bytes_of-append ss ts, sets-append (bytes_of ss) (bytes_of ts) vs at.verbs);
      floats = h.floats ∙ rw (g.floats, j, all_points-append ss ts, flat_append (all_points ss) (all_points ts), sets-append (flat (all_points ss)) (flat (all_points ts)) fs (2 * at.points));
    }

-- ---- what a call that was not refused laid, by its answer

taken : {A : Type 0} (n : Result Unit Refusal) (x a : A) → Ok x ≡ result_and n (Ok a) → (n ≡ Ok tt) × (x ≡ a)
taken (Ok u) x a e = (refl, cc)
taken (Err r) x a e = absurd (cc)

pub laid_fits : {A : Type 0} {x a : A} {at : Standing} {vs vs' : List ℕ} {fs fs' : List Float} (ss : List Segment) → Laid (Ok x) a at vs fs ss vs' fs' →
    (x ≡ a) × Fits at (length vs) (length fs) (length ss) (length (all_points ss))
laid_fits {A} {x} {a} {at} {vs} {fs = fs} ss g =
    let t = taken (refusal_of at (length vs) (length fs) (length ss) (length (all_points ss))) x a g.answer in
    (t.1, refusal_fits at (length vs) (length fs) (length ss) (length (all_points ss)) t.0)
