-- What flattening leaves in the scratch, and that its ends are in order. Assumes nothing.
use mathlib.Core.Path.{◌≡◌, refl, ◌∙◌, ap}
use Prim.Native.Nat.{ℕ, ◌*◌, ◌/◌, ◌%◌, ◌≤◌}
use native.Mathlib.Omega.{arith}
use mathlib.Core.Bool.{Bool, true, false, cond, not, ◌&&◌, ◌||◌}
use mathlib.Core.List.{List, [], ◌∷◌}
use lib.ListN.{length, take}
use lib.Seq.{sets, length-sets}
use lib.Dec.{leb, ltb}
use lib.Ieee.{Float}
use borrow.Author.Tests.{leb-true, ne_eqb}
use Rattle.vec2.specs.declared.Vec2.{Vec2}
use Rattle.vec2.specs.Points.{flat}
use Rattle.path.specs.declared.Segment.{Segment}
use Rattle.path.specs.Segment.{segments}
use Rattle.std.specs.Prelude.{Result, Ok, Err}
use Rattle.path.specs.declared.Refusal.{Refusal}
use Rattle.path.specs.declared.Refusal.TheVariants.{OutputFull}
use Rattle.path.specs.Check.{check}
use Rattle.polyline.specs.declared.Flattened.{Flattened}
use Rattle.polyline.specs.Flatten.{points_out, ends_out, held_curves, totals, check_outputs, replied, flatten, Outcome, outcome}
use Rattle.polyline.specs.Polylines.{Rising}
use Rattle.polyline.specs.Subpaths.{marks_out}
use Rattle.polyline.proofs.Polylines.{ends_rise}
use Rattle.vec2.proofs.Lists.{front}
use Rattle.vec2.proofs.Points.{length-flat}
use Rattle.std.proofs.lemmas.Bool.{and_parts}
use Rattle.std.proofs.lemmas.Bool.Decides.{nat_tests}
use Rattle.std.proofs.lemmas.Grind.{common_steps}
use Rattle.outline.specs.Ends.{Ordered}
use Rattle.outline.specs.Dash.{scratch_fits}

-- ---- the ends

rising_last : (n last : ℕ) (es : List ℕ) → Rising n es last → n ≤ last
rising_last n last [] h = omega (arith, h)
rising_last n last (e ∷ es) h = omega (arith, h.0, rising_last e last es h.1)

rising_ordered : (n last : ℕ) (es : List ℕ) → Rising n es last → Ordered (2 * last) n es
rising_ordered n last [] h = tt
rising_ordered n last (e ∷ es) h = (omega (arith, h.0), omega (arith, rising_last e last es h.1), rising_ordered e last es h.1)

pub ends_ordered : (tol : Float) (ss : List Segment) → Ordered (2 * length (points_out tol ss)) 0 (ends_out tol ss)
ends_ordered tol ss = rising_ordered 0 (length (points_out tol ss)) (ends_out tol ss) (ends_rise tol ss)

-- ---- the flattening's answer, where nothing is refused before it

over_under : (a b : ℕ) → ltb a b ≡ not (leb b a)
over_under a b = grind (arith, nat_tests)

or_and : {A : Type 0} (a b d : Bool) (x y : A) → cond (not a || (not b || not d)) x y ≡ cond (a && (b && d)) y x
or_and a b d x y = grind (arith, common_steps)

module _ (vs : List ℕ) (fs : List Float) (tol : Float) (scratch : List Float) (ends marks : List ℕ) (even : length scratch % 2 ≡ 0) (good : check vs fs ≡ Ok tt) where
  abbrev path : List Segment
  path = segments vs fs

  abbrev ps : List Vec2
  ps = points_out tol path

  abbrev es : List ℕ
  es = ends_out tol path

  abbrev ms : List ℕ
  ms = marks_out path

  abbrev takes : Bool
  takes = scratch_fits ps es ms scratch ends marks

  checked : check_outputs vs fs tol scratch ends marks ≡ cond takes (Ok tt) (Err OutputFull)
  unfolding check_outputs
  checked =
      rw (
        ne_eqb (length scratch % 2) 1 (λ e. omega (arith, e, even)),
        good,
        over_under (length scratch / 2) (length ps),
        over_under (length ends) (length es),
        over_under (length marks) (length ms),
      )
      (or_and (leb (length ps) (length scratch / 2)) (leb (length es) (length ends)) (leb (length ms) (length marks)) (Err OutputFull) (Ok tt))

  reply : (o : Outcome) → o ≡ flatten vs fs tol scratch ends marks → o ≡ replied (cond takes (Ok tt) (Err OutputFull)) tol path scratch ends marks
  unfolding flatten
  reply o e = e ∙ ap (λ (r : Result Unit Refusal). replied r tol path scratch ends marks) checked

  -- the scratch is too small, and is as it was
  pub record Full (x : Refusal) (s' : List Float) (e' m' : List ℕ) : Type 0 where
    pub refusal : x ≡ OutputFull
    pub misfit : takes ≡ false
    pub scratch_is : s' ≡ scratch
    pub ends_are : e' ≡ ends
    pub marks_are : m' ≡ marks

  -- or it keeps the polylines
  pub record KeptScratch (r : Flattened) (s' : List Float) (e' m' : List ℕ) : Type 0 where
    pub fit : takes ≡ true
    pub scratch_is : s' ≡ sets scratch 0 (flat ps)
    pub ends_are : e' ≡ sets ends 0 es
    pub marks_are : m' ≡ sets marks 0 ms
    pub room : 2 * r.points ≤ length s'
    pub rooms : r.polylines ≤ length e'
    pub points : take (2 * r.points) s' ≡ flat ps
    pub polylines : take r.polylines e' ≡ es
    pub ordered : Ordered (length (take (2 * r.points) s')) 0 (take r.polylines e')
    pub held : r.held ≡ held_curves tol path

  module _ (a : Result Flattened Refusal) (s' : List Float) (e' m' : List ℕ) (e : outcome a s' e' m' ≡ flatten vs fs tol scratch ends marks) where
    pub full : (x : Refusal) → a ≡ Err x → Full x s' e' m'
    full x h = go takes refl (reply _ e)
      where
        go : (b : Bool) → takes ≡ b → outcome a s' e' m' ≡ replied (cond b (Ok tt) (Err OutputFull)) tol path scratch ends marks → Full x s' e' m'
        go true q z = let d : a ≡ Ok (totals tol path) = ap (λ (o : Outcome). o.answer) z in absurd (cc)
        go false q z =
            let d : a ≡ Err OutputFull = ap (λ (o : Outcome). o.answer) z in
            record {
              refusal = cc;
              misfit = q;
              scratch_is = ap (λ (o : Outcome). o.floats) z;
              ends_are = ap (λ (o : Outcome). o.ends) z;
              marks_are = ap (λ (o : Outcome). o.marks) z;
            }

    kept : (r : Flattened) → a ≡ Ok r → KeptScratch r s' e' m'
    kept r h = go takes refl (reply _ e)
      where
        go : (b : Bool) → takes ≡ b → outcome a s' e' m' ≡ replied (cond b (Ok tt) (Err OutputFull)) tol path scratch ends marks → KeptScratch r s' e' m'
        go true q z =
            let f = and_parts (leb (length ps) (length scratch / 2)) (leb (length es) (length ends) && leb (length ms) (length marks)) q in
            let g = and_parts (leb (length es) (length ends)) (leb (length ms) (length marks)) f.1 in
            let l : 2 * length ps ≤ length scratch = omega (arith, leb-true (length ps) (length scratch / 2) f.0) in
            let k : length es ≤ length ends = leb-true (length es) (length ends) g.0 in
            let d : a ≡ Ok (totals tol path) = ap (λ (o : Outcome). o.answer) z in
            let c : r ≡ totals tol path = cc in
            let n : r.points ≡ length ps = ap (λ (u : Flattened). u.points) c in
            let m : r.polylines ≡ length es = ap (λ (u : Flattened). u.polylines) c in
            let s : s' ≡ sets scratch 0 (flat ps) = ap (λ (o : Outcome). o.floats) z in
            let t : e' ≡ sets ends 0 es = ap (λ (o : Outcome). o.ends) z in
            let p : take (2 * r.points) s' ≡ flat ps = ap (take (2 * r.points)) s ∙ front scratch (flat ps) (2 * r.points) (omega (arith, n, length-flat ps)) (omega (arith, l, length-flat ps)) in
            let w : take r.polylines e' ≡ es = ap (take r.polylines) t ∙ front ends es r.polylines m k in
            record {
              fit = q;
              scratch_is = s;
              ends_are = t;
              marks_are = ap (λ (o : Outcome). o.marks) z;
              room = omega (arith, l, n, ap length s, length-sets scratch 0 (flat ps));
              rooms = omega (arith, k, m, ap length t, length-sets ends 0 es);
              points = p;
              polylines = w;
              ordered = rw (p, w, length-flat ps) (ends_ordered tol path);
              held = ap (λ (u : Flattened). u.held) c;
            }
        go false q z = let d : a ≡ Err OutputFull = ap (λ (o : Outcome). o.answer) z in absurd (cc)

-- what is left where nothing is refused
pub left : {vs : List ℕ} {fs : List Float} {tol : Float} {scratch : List Float} {ends marks : List ℕ} (n : (length scratch % 2 ≡ 0) × (check vs fs ≡ Ok tt))
    {a : Result Flattened Refusal} {s' : List Float} {e' m' : List ℕ} → outcome a s' e' m' ≡ flatten vs fs tol scratch ends marks
    → {r : Flattened} → a ≡ Ok r → KeptScratch vs fs tol scratch ends marks n.0 n.1 r s' e' m'
left n e h = kept _ _ _ _ _ _ n.0 n.1 _ _ _ _ e _ h
