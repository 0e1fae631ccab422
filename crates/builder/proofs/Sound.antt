-- A path that builder calls leave is taken: it is met by none of 1, 4, 5 and 6.
--     good     from a fresh builder over lent buffers of any length and content
-- Assumes nothing.
use mathlib.Core.Path.{◌≡◌, refl, sym, ap, ◌∙◌}
use mathlib.Core.Bool.{Bool, true, false, true≢false}
use mathlib.Core.List.{List, [], ◌∷◌, ◌++◌}
use Prim.Native.Nat.{ℕ, ◌*◌, ◌/◌, ◌%◌, ◌≤◌}
use native.Mathlib.Omega.{arith}
use lib.ListN.{length}
use lib.Seq.{length-take-le}
use lib.Ieee.{Float}
use Rattle.std.specs.Prelude.{Ok}
use Rattle.vec2.specs.declared.Vec2.{Vec2}
use Rattle.vec2.specs.Points.{flat}
use Rattle.vec2.proofs.Points.{length-flat}
use Rattle.path.specs.declared.Segment.{Segment}
use Rattle.path.specs.declared.Segment.TheVariants.{Move, Line, Quad, Cubic, Close}
use Rattle.path.specs.Segment.{bytes_of, all_points}
use Rattle.path.specs.Check.{max_verbs, max_points, used_by, any_over4, bad_first, check}
use Rattle.path.proofs.Checks.{taken}
use Rattle.path.proofs.Encoded.{length-bytes}
use Rattle.builder.specs.declared.Call.{Call}
use Rattle.builder.specs.declared.Call.TheVariants.{MoveTo, LineTo, QuadTo, ConicTo, CubicTo, Close as CloseIt, WithFillRule, AsRoundedRect}
use Rattle.builder.specs.Call.{lays}
use Rattle.builder.specs.Build.{Built, run, fresh_over, refusals}
use Rattle.builder.specs.Laid.{Laid, nothing, some, lay, feed, laid_from, path_verbs, path_floats}
use Rattle.builder.proofs.Kept.{Inv, ran, begins, puts_segs}

-- ---- the laid list begins with a move

abbrev Begins : List Segment → Type 0
Begins [] = Unit {0}
Begins (Move p ∷ ss) = Unit {0}
Begins (Line p ∷ ss) = ⊥
Begins (Quad c p ∷ ss) = ⊥
Begins (Cubic c d p ∷ ss) = ⊥
Begins (Close ∷ ss) = ⊥

begins_append : (a b : List Segment) → Begins a → (some a ≡ false → Begins b) → Begins (a ++ b)
begins_append [] b h k = k refl
begins_append (Move p ∷ ss) b h k = tt
begins_append (Line p ∷ ss) b h k = h
begins_append (Quad c p ∷ ss) b h k = h
begins_append (Cubic c d p ∷ ss) b h k = h
begins_append (Close ∷ ss) b h k = h

-- what a call lays where nothing stands
lays_begins : (t : Bool) (a : Vec2) (c : Call) → t ≡ false → Begins (lays t a c)
unfolding lays
lays_begins true a c e = absurd (true≢false e)
lays_begins false a (MoveTo p) e = tt
lays_begins false a (LineTo p) e = tt
lays_begins false a (QuadTo c p) e = tt
lays_begins false a (ConicTo c p w) e = tt
lays_begins false a (CubicTo c d p) e = tt
lays_begins false a CloseIt e = tt
lays_begins false a (WithFillRule r) e = tt
lays_begins false a (AsRoundedRect x r) e = tt

feed_begins : (refused : Bool) (l : Laid) (c : Call) → Begins l.segs → Begins (feed refused l c).segs
unfolding lay
feed_begins false l c h =
    rw (puts_segs (lays (some l.segs) l.pen c) l) (begins_append l.segs _ h (lays_begins (some l.segs) l.pen c))
feed_begins true l c h = h

laid_begins : (cs : List Call) (rs : List Bool) (l : Laid) → Begins l.segs → Begins (laid_from l cs rs).segs
unfolding laid_from
laid_begins [] rs l h = h
laid_begins (c ∷ cs) [] l h = h
laid_begins (c ∷ cs) (r ∷ rs) l h = laid_begins cs rs (feed r l c) (feed_begins r l c h)

-- ---- the bytes of segments

none_over_4 : (ss : List Segment) → any_over4 (bytes_of ss) ≡ false
none_over_4 [] = refl
none_over_4 (Move p ∷ ss) = none_over_4 ss
none_over_4 (Line p ∷ ss) = none_over_4 ss
none_over_4 (Quad c p ∷ ss) = none_over_4 ss
none_over_4 (Cubic c d p ∷ ss) = none_over_4 ss
none_over_4 (Close ∷ ss) = none_over_4 ss

good_first : (ss : List Segment) → Begins ss → bad_first (bytes_of ss) ≡ false
good_first [] h = refl
good_first (Move p ∷ ss) h = refl
good_first (Line p ∷ ss) h = absurd h
good_first (Quad c p ∷ ss) h = absurd h
good_first (Cubic c d p ∷ ss) h = absurd h
good_first (Close ∷ ss) h = absurd h

used_all : (ss : List Segment) → used_by (bytes_of ss) ≡ length (all_points ss)
used_all [] = refl
used_all (Move p ∷ ss) = omega (arith, used_all ss)
used_all (Line p ∷ ss) = omega (arith, used_all ss)
used_all (Quad c p ∷ ss) = omega (arith, used_all ss)
used_all (Cubic c d p ∷ ss) = omega (arith, used_all ss)
used_all (Close ∷ ss) = omega (arith, used_all ss)

-- ---- the path

half_flat : (ps : List Vec2) → length (flat ps) / 2 ≡ length ps
half_flat ps = omega (arith, length-flat ps)

code_good : (ss : List Segment) → Begins ss → length ss ≤ max_verbs → length (all_points ss) ≤ max_points → check (bytes_of ss) (flat (all_points ss)) ≡ Ok tt
code_good ss h v p =
    taken (bytes_of ss) (flat (all_points ss)) (λ (e : length (flat (all_points ss)) % 2 ≡ 1). omega (arith, length-flat (all_points ss)))
    (record {
      few = omega (arith, length-bytes ss);
      room = omega (arith, half_flat (all_points ss));
      known = none_over_4 ss;
      first = good_first ss h;
      used = used_all ss ∙ sym (half_flat (all_points ss));
    })

-- the counts are those of the laid list
verbs_laid : (b : Built) (l : Laid) → Inv b l → length l.segs ≡ b.state.verbs
verbs_laid b l i = sym (length-bytes l.segs) ∙ ap length (sym i.verbs) ∙ length-take-le b.state.verbs b.bytes i.fit_verbs

points_laid : (b : Built) (l : Laid) → Inv b l → length (all_points l.segs) ≡ b.state.points
points_laid b l i =
    let e : length (flat (all_points l.segs)) ≡ 2 * b.state.points
    = ap length (sym i.points) ∙ length-take-le (2 * b.state.points) b.floats i.fit_points in
    omega (arith, length-flat (all_points l.segs))

pub good : (cs : List Call) (bs : List ℕ) (fs : List Float) → check (path_verbs (run (fresh_over bs fs) cs)) (path_floats (run (fresh_over bs fs) cs)) ≡ Ok tt
good cs bs fs =
    let b : Built = run (fresh_over bs fs) cs in
    let l : Laid = laid_from nothing cs (refusals (fresh_over bs fs) cs) in
    let i : Inv b l = ran cs (fresh_over bs fs) nothing (begins bs fs) in
    rw (i.verbs, i.points)
    (code_good l.segs (laid_begins cs (refusals (fresh_over bs fs) cs) nothing tt)
    (omega (arith, i.few_verbs, verbs_laid b l i)) (omega (arith, i.few_points, points_laid b l i)))
