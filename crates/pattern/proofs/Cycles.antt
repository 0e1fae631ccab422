-- The array of the working cycle: a part of it, overwritten (`part_set`); what stands in front where an odd pattern is stored in any array and once more behind
-- itself (`twice`); the pattern stored once (`even`), or twice (`odd`), and zeros behind it; and what a caller may take from it (`front`). Assumes nothing.
use Rattle.std.proofs.Common.{◌≡◌, ◌+◌, ◌-◌, ◌*◌, ◌%◌, ◌≤◌, ℕ, Bool, true, false, cond, List, ◌++◌, length, take, drop, replicate, Float, refl, ap, ◌∙◌, arith}
use Rattle.std.proofs.lemmas.List.{length-append, length-replicate, drop-drop}
use Rattle.std.proofs.Math.Seq.{take-append_seam}
use Rattle.std.proofs.lemmas.Slice.{take-put_mid}
use borrow.Rule.Slice.PartMut.{put_mid, post_of}
use native.Mathlib.Nat.{zero-add}
use mathlib.Core.List.{append_assoc}
use lib.Seq.{sets, sets-eq}
use lib.Dec.{eqb}
use borrow.Author.Tests.{eq-eqb, ne_eqb}
use Rattle.float.specs.Arith.{f0}
use Rattle.vec2.proofs.Lists.{front as stored-front}
use Rattle.vec2.proofs.Points.{sets-append}
use Rattle.pattern.specs.Cycle.{max_intervals, max_cycle, cycle_of, working_cycle}

-- the part of a slice from i on that is as long as what it is overwritten with
pub part_set : {A : Type 0} (l : List A) (i k : ℕ) (ys zs : List A) → ys ≡ zs → k ≡ length zs → i + length zs ≤ length l → put_mid i k l ys ≡ sets l i zs
part_set l i k ys zs e n h =
    let p : post_of i k l ≡ drop (i + length zs) l = drop-drop k i l ∙ ap (λ (m : ℕ). drop (i + m) l) n in
    rw (p, e, sets-eq zs l i h, append_assoc)

pub twice : (ps z s p : List Float) → (length ps % 2 ≡ 0 → ⊥) → s ≡ ps → p ≡ ps →
    take (2 * length ps) (put_mid (length ps) (2 * length ps - length ps) (s ++ drop (length ps) z) p) ≡ cycle_of ps
twice ps z s p odd isS isP =
    rw (isS, isP, ne_eqb (length ps % 2) 0 odd)
    (take-put_mid (length ps) (2 * length ps - length ps) (ps ++ drop (length ps) z) ps (2 * length ps) (omega arith) (omega (arith, length-append ps (drop (length ps) z)))
    ∙ ap (λ (r : List Float). r ++ ps) (take-append_seam ps (drop (length ps) z)))

-- how the array comes to be, and how many intervals are in it
module _ (ps v : List Float) where
  -- an even pattern, stored once
  pub even : length ps % 2 ≡ 0 → v ≡ sets (replicate max_cycle f0) 0 ps → (v ≡ working_cycle ps) × (length ps ≡ length (cycle_of ps))
  even h e = rw (eq-eqb (length ps % 2) 0 h) (e, refl)

  -- an odd one, stored twice
  pub odd : (length ps % 2 ≡ 0 → ⊥) → v ≡ sets (sets (replicate max_cycle f0) 0 ps) (length ps) ps →
      (v ≡ working_cycle ps) × (length ps + length ps ≡ length (cycle_of ps))
  odd h e = rw (ne_eqb (length ps % 2) 0 h, e, length-append ps ps, sets-append ps ps (replicate max_cycle f0) 0, zero-add (length ps)) (refl, refl)

-- ---- what a caller may take from it

pub most : (ps : List Float) → length ps ≤ max_intervals → length (cycle_of ps) ≤ max_cycle
most ps few = go (eqb (length ps % 2) 0)
  where
    go : (b : Bool) → length (cond b ps (ps ++ ps)) ≤ max_cycle
    go true = omega (arith, few)
    go false = omega (arith, few, length-append ps ps)

module _ (ps : List Float) (few : length ps ≤ max_intervals) (v : List Float) (n : ℕ) (whole : v ≡ working_cycle ps) (count : n ≡ length (cycle_of ps)) where
  pub front : take n v ≡ cycle_of ps
  front = rw (whole, count) (stored-front (replicate max_cycle f0) (cycle_of ps) (length (cycle_of ps)) refl (omega (arith, most ps few, length-replicate max_cycle f0)))
