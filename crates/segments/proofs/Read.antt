-- Where no verb lacks points, the segments that are read are the path's. Assumes nothing.
use mathlib.Core.Path.{◌≡◌, refl, ap, ap₂, ◌∙◌}
use mathlib.Core.List.{List, [], ◌∷◌}
use Prim.Native.Nat.{ℕ, zero, suc, ◌+◌, ◌*◌, ◌≤◌}
use native.Mathlib.Omega.{arith}
use borrow.Author.Tests.{le-ltb}
use lib.ListN.{length, get_or, drop}
use lib.Ieee.{Float, nan}
use Rattle.std.proofs.lemmas.List.{get_or-drop, drop-drop, length-drop}
use Rattle.vec2.specs.Vec2.{vec}
use Rattle.vec2.specs.Points.{point_at}
use Rattle.path.specs.declared.Segment.TheVariants.{Move, Line, Quad}
use Rattle.path.specs.Segment.{used, seg_at, segs_from, segments}
use Rattle.path.specs.Check.{used_by}
use Rattle.segments.specs.Read.{read}

module _ (fs : List Float) (k : ℕ) where
  point_behind : (i : ℕ) → point_at (drop (2 * k) fs) i ≡ point_at fs (k + i)
  point_behind i =
      let x : 2 * k + 2 * i ≡ 2 * (k + i) = omega arith in
      let y : 2 * k + (2 * i + 1) ≡ 2 * (k + i) + 1 = omega arith in
      ap₂ vec (get_or-drop (2 * k) fs (2 * i) nan ∙ ap (λ (j : ℕ). get_or fs j nan) x) (get_or-drop (2 * k) fs (2 * i + 1) nan ∙ ap (λ (j : ℕ). get_or fs j nan) y)

  first_behind : point_at (drop (2 * k) fs) 0 ≡ point_at fs k
  first_behind =
      let z : k + 0 ≡ k = omega arith in
      point_behind 0 ∙ ap (point_at fs) z

  seg_behind : (v : ℕ) → seg_at v (drop (2 * k) fs) 0 ≡ seg_at v fs k
  seg_behind zero = ap Move first_behind
  seg_behind (suc zero) = ap Line first_behind
  seg_behind (suc (suc zero)) = ap₂ Quad first_behind (point_behind 1)
  seg_behind (suc (suc (suc zero))) = rw (first_behind, point_behind 1, point_behind 2)
  seg_behind (suc (suc (suc (suc v)))) = refl

read_from : (vs : List ℕ) (fs : List Float) (k : ℕ) → 2 * (k + used_by vs) ≤ length fs → read vs (drop (2 * k) fs) ≡ segs_from vs fs k
read_from [] fs k h = refl
read_from (v ∷ vs) fs k h =
    let e : 2 * k + 2 * used v ≡ 2 * (k + used v) = omega arith in
    rw (
      le-ltb (length (drop (2 * k) fs)) (2 * used v) (omega (arith, h, length-drop (2 * k) fs)),
      drop-drop (2 * used v) (2 * k) fs,
      e,
      seg_behind fs k v,
      read_from vs fs (k + used v) (omega (arith, h)),
    )

pub length-segs : (vs : List ℕ) (fs : List Float) (k : ℕ) → length (segs_from vs fs k) ≡ length vs
length-segs [] fs k = refl
length-segs (v ∷ vs) fs k = ap suc (length-segs vs fs (k + used v))

module _ (vs : List ℕ) (fs : List Float) (h : 2 * used_by vs ≤ length fs) where
  pub read_all : read vs fs ≡ segments vs fs
  read_all = read_from vs fs 0 (omega (arith, h))

  pub few_read : length (read vs fs) ≤ length vs
  few_read = omega (arith, ap length read_all, length-segs vs fs 0)
