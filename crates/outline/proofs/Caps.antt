-- How many verbs the dash buffers take, and what the count says of the output's room. Assumes nothing.
use mathlib.Core.Path.{◌≡◌, refl, sym, ◌∙◌, ap}
use Prim.Native.Nat.{ℕ, ◌/◌, ◌≤◌}
use native.Mathlib.Omega.{arith}
use native.Mathlib.Nat.{zero-add, le_refl}
use mathlib.Core.Bool.{Bool, true, false}
use mathlib.Core.List.{List}
use lib.ListN.{length}
use lib.Seq.{sets}
use lib.Dec.{leb}
use lib.Ieee.{Float}
use borrow.Author.Tests.{le-leb, leb-true, leb-false}
use Rattle.std.proofs.lemmas.Bool.{and_parts}
use Rattle.vec2.specs.Points.{flat}
use Rattle.path.specs.declared.Segment.{Segment}
use Rattle.path.specs.declared.FillRule.{FillRule}
use Rattle.path.specs.Segment.{bytes_of, all_points}
use Rattle.path.specs.Check.{max_verbs}
use Rattle.vec2.specs.declared.Vec2.{Vec2}
use Rattle.events.specs.declared.Pos.{Pos}
use Rattle.events.specs.Walk.{walk_all}
use Rattle.strokes.proofs.Lays.{walk_points}
use Rattle.strokes.specs.Lay.{Out, out, laid, Room}
use Rattle.path.specs.declared.Refusal.TheVariants.{OutputFull}
use Rattle.outline.specs.Answer.{refused_by, cut_into}
use Rattle.outline.specs.Dash.{fits_both, out_fits, Cap, cut_outcome, out_if, out_outcome}

-- ---- what fits

pub record Fits (v p verbs floats : ℕ) : Type 0 where
  pub verb : v ≤ verbs
  pub limit : v ≤ 65536
  pub point : p ≤ floats / 2

pub fits : (v p verbs floats : ℕ) → fits_both v p verbs floats ≡ true → Fits v p verbs floats
fits v p verbs floats h =
    let a = and_parts (leb v verbs) _ h in
    let b = and_parts (leb v max_verbs) _ a.1 in
    let c = and_parts (leb p (floats / 2)) _ b.1 in
    record { verb = leb-true _ _ a.0; limit = leb-true _ _ b.0; point = leb-true _ _ c.0 }

-- the cap is the largest number that is no more than the buffers and the limit take: what the walk's `room` works out
pub cap_is : (verbs floats r : ℕ) → r ≤ verbs → r ≤ 65536 → r ≤ floats / 2 → ((n : ℕ) → n ≤ verbs → n ≤ 65536 → n ≤ floats / 2 → n ≤ r) → Cap verbs floats r
cap_is verbs floats r a b c most n = go (leb n r) refl
  where
    go : (d : Bool) → leb n r ≡ d → fits_both n n verbs floats ≡ d
    go true e =
        let l = leb-true n r e in
        rw (le-leb n verbs (omega (arith, l, a)), le-leb n 65536 (omega (arith, l, b)), le-leb n (floats / 2) (omega (arith, l, c)), le-leb n 131072 (omega (arith, l, b)))
    go false e = not_so (fits_both n n verbs floats) refl
      where
        not_so : (d : Bool) → fits_both n n verbs floats ≡ d → d ≡ false
        not_so true q = let f = fits n n verbs floats q in absurd (omega (arith, leb-false n r e, most n f.verb f.limit f.point))
        not_so false q = refl

pub cap_small : (verbs floats r : ℕ) → Cap verbs floats r → r ≤ 65536
cap_small verbs floats r c = (fits r r verbs floats (c r ∙ le-leb r r (le_refl r))).limit

-- ---- what it says of the segments that they are no more than the cap, or are

module _ (cs : List Float) (start : Pos) (ls : List (List Vec2)) (us : List ℕ) (gs : List Float) (cap : ℕ) (c : Cap (length us) (length gs) cap) where
  abbrev ss : List Segment
  ss = walk_all cs start ls

  one : length (all_points ss) ≡ length ss
  one = walk_points cs start ls

  fits_is : out_fits ss us gs ≡ leb (length ss) cap
  fits_is = rw one (c (length ss))

  module _ (np k held : ℕ) (rule : FillRule) where
    pub too_many : leb (length ss) cap ≡ false → cut_outcome (refused_by OutputFull) us gs ≡ out_outcome ss np k held rule us gs
    too_many h = ap (λ (b : Bool). out_if b ss np k held rule us gs) (sym (fits_is ∙ h))

  module _ (h : leb (length ss) cap ≡ true) where
    all_fits : out_fits ss us gs ≡ true
    all_fits = fits_is ∙ h

    pub has_room : Room (length us) (length gs) (laid (out us gs 0) ss)
    has_room = let f = fits (length ss) (length (all_points ss)) (length us) (length gs) all_fits in (omega (arith, f.verb), omega (arith, f.point))

    pub laid_out : (np k held : ℕ) (rule : FillRule) (vs : List ℕ) (fs : List Float) (m : ℕ) → out vs fs m ≡ laid (out us gs 0) ss →
        cut_outcome (cut_into (record { verbs = m; points = m; scratch = np; polylines = k; held = held; rule = rule })) vs fs ≡ out_outcome ss np k held rule us gs
    laid_out np k held rule vs fs m e =
        let a : m ≡ length ss = ap (λ (o : Out). o.at) e ∙ zero-add (length ss) in
        let b : m ≡ length (all_points ss) = a ∙ sym one in
        let d : vs ≡ sets us 0 (bytes_of ss) = ap (λ (o : Out). o.verbs) e in
        let f : fs ≡ sets gs 0 (flat (all_points ss)) = ap (λ (o : Out). o.floats) e in
        rw all_fits (cc)
