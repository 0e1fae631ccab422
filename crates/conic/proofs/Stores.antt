-- Quads in the buffers.
--     front_set, front_filled, behind_set    a part of a slice, overwritten
--     put_one, put_two                       the quad of a half that is one; the quads of the left half, then those of the right half, are those of the whole
--     bent_apart                             a conic's points, laid apart, and its verbs
-- Assumes nothing.
use mathlib.Core.Path.{◌≡◌, refl, sym, ap, ◌∙◌}
use mathlib.Core.Bool.{true}
use mathlib.Core.List.{List, [], ◌∷◌, ◌++◌, append_assoc}
use Prim.Native.Nat.{ℕ, ◌+◌, ◌*◌, ◌-◌, ◌/◌, ◌≤◌}
use native.Mathlib.Omega.{arith}
use lib.ListN.{length, drop, take, replicate, length-append, length-replicate, length-drop}
use Rattle.std.proofs.Math.Seq.{length-sets}
use lib.Seq.{sets, sets-eq, length-take-le}
use borrow.Rule.Slice.PartMut.{put_mid, mid_of, post_of}
use Rattle.std.proofs.lemmas.List.{drop-drop, take_all, drop_all, append-nil}
use lib.Ieee.{Float}
use Rattle.vec2.specs.Points.{flat}
use Rattle.vec2.proofs.Lists.{front}
use Rattle.vec2.proofs.Points.{flat_append, length-flat, sets-append}
use Rattle.path.specs.declared.Segment.{Segment}
use Rattle.path.specs.declared.Segment.TheVariants.{Quad}
use Rattle.path.specs.Segment.{all_points}
use Rattle.path.proofs.Encoded.{all_points-append}
use Rattle.halves.specs.Halves.{Half, ctrl_of, to_of, single, pieces}
use Rattle.halves.proofs.Laws.{quads_bytes, quads_points, quads_most}
use Rattle.halves.proofs.Pieces.{pieces_one}
use Rattle.conic.specs.Lay.{quads_of, Put, Bent}
use Rattle.conic.specs.declared.Conic.{Conic}

-- the front of a slice, overwritten
pub front_set : {A : Type 0} (l : List A) (n : ℕ) (ys zs : List A) → ys ≡ zs → length zs ≡ n → n ≤ length l → ys ++ drop n l ≡ sets l 0 zs
front_set l n ys zs e m h =
    let fit : 0 + length zs ≤ length l = omega (arith, m, h) in
    let z : 0 + length zs ≡ n = omega (arith, m) in
    rw (e, sets-eq zs l 0 fit, z)

pub front_filled : {A : Type 0} (l : List A) (n : ℕ) (x : A) (ys : List A) → ys ≡ replicate (length (take n l)) x → n ≤ length l → ys ++ drop n l ≡ sets l 0 (replicate n x)
front_filled l n x ys e h = front_set l n ys (replicate n x) (e ∙ ap (λ (m : ℕ). replicate m x) (length-take-le n l h)) (length-replicate n x) h

-- what was stored at the front of all that stands from i on
pub behind_set : {A : Type 0} (l : List A) (i : ℕ) (ys zs : List A) → ys ≡ sets (mid_of i (length l - i) l) 0 zs → i + length zs ≤ length l → put_mid i (length l - i) l ys ≡ sets l i zs
behind_set l i ys zs e h =
    let k : length (drop i l) ≤ length l - i = omega (arith, length-drop i l) in
    let m : mid_of i (length l - i) l ≡ drop i l = take_all (length l - i) (drop i l) k in
    let p : post_of i (length l - i) l ≡ [] = drop_all (length l - i) (drop i l) k in
    let f : sets (drop i l) 0 zs ≡ zs ++ drop (length zs) (drop i l) = sym (front_set (drop i l) (length zs) zs zs refl refl (omega (arith, length-drop i l, h))) in
    rw (p, e, m, f, drop-drop (length zs) i l, append-nil, sets-eq zs l i h, append_assoc)

-- a half that is one quad
pub put_one : (k : ℕ) (h : Half) (w : Float) {r : ℕ} {fs fs' : List Float} → single k h w ≡ true → Put (Quad (ctrl_of h) (to_of h) ∷ []) r fs fs' → Put (pieces k h w) r fs fs'
put_one k h w e p = rw (pieces_one k h w e) p

-- l quads of the left half, and r quads of the right half behind them
pub put_two : (ps qs : List Segment) (l r : ℕ) {fs fs' ms : List Float} → length (flat (all_points ps)) ≡ 4 * length ps → length (flat (all_points qs)) ≡ 4 * length qs →
    4 * (length ps + length qs) ≤ length fs →
    Put ps l fs fs' → Put qs r (mid_of (4 * l) (length fs' - 4 * l) fs') ms → Put (ps ++ qs) (l + r) fs (put_mid (4 * l) (length fs' - 4 * l) fs' ms)
put_two ps qs l r {fs} {fs'} {ms} a b h p q =
    let xs = flat (all_points ps) in
    let ys = flat (all_points qs) in
    let e : 4 * l ≡ 0 + length xs = omega (arith, a, p.number) in
    let n : length fs' ≡ length fs = rw p.floats (length-sets fs 0 xs) in
    record {
      number = omega (arith, length-append ps qs, p.number, q.number);
      floats =
          behind_set fs' (4 * l) ms ys q.floats (omega (arith, n, h, b, p.number))
          ∙ rw (all_points-append ps qs, flat_append (all_points ps) (all_points qs), sets-append xs ys fs 0, ← p.floats, ← e);
    }

module _ (c : Conic) {r : ℕ} where
  -- points that stand apart, at the front of zs', and verbs
  pub bent_apart : {zs zs' : List Float} {vs vs' : List ℕ} {fs fs' : List Float}
      → 256 ≤ length zs → Put (quads_of c) r zs zs' → vs' ≡ sets vs 0 (replicate (length (take (4 * r) zs') / 4) 2) → fs' ≡ sets fs 0 (take (4 * r) zs') → Bent (quads_of c) r vs vs' fs fs'
  bent_apart {zs} {zs'} {vs} {vs'} {fs} l p e g =
      let xs = flat (all_points (quads_of c)) in
      let n : 4 * r ≡ length xs = omega (arith, length-flat (all_points (quads_of c)), quads_points c.from c.ctrl c.to c.weight, p.number) in
      let s : take (4 * r) zs' ≡ xs = ap (take (4 * r)) p.floats ∙ front zs xs (4 * r) n (omega (arith, l, n, p.number, quads_most c.from c.ctrl c.to c.weight)) in
      let k : length (take (4 * r) zs') / 4 ≡ length (quads_of c) = rw s (omega (arith, n, p.number)) in
      record {
        number = p.number;
        verbs = e ∙ rw (k, quads_bytes c.from c.ctrl c.to c.weight);
        floats = g ∙ ap (sets fs 0) s;
      }
