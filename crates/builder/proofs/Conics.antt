-- A conic that is a curve lays 1 to 64 quads, and the pen ends at its end.
--     quads_1_64     the number in the answer of a conic that is not refused and lays no line
--     after_conic    the laid list's pen; by Kept.ran the builder's too
-- Assumes nothing.
use mathlib.Core.Path.{◌≡◌, refl, ap, ◌∙◌}
use mathlib.Core.Bool.{Bool, true, false}
use mathlib.Core.List.{List, [], ◌∷◌, ◌++◌}
use Prim.Native.Nat.{◌≤◌}
use lib.Ieee.{Float}
use Rattle.vec2.specs.declared.Vec2.{Vec2}
use Rattle.path.specs.declared.Segment.{Segment}
use Rattle.path.specs.declared.Segment.TheVariants.{Quad}
use Rattle.halves.specs.Conic.{straight, quads}
use Rattle.halves.proofs.Laws.{Quads, one, more, quads_quads, quads_least, quads_most}
use Rattle.drawing.specs.Lay.{opening}
use Rattle.builder.specs.declared.PathBuilder.{PathBuilder}
use Rattle.builder.specs.declared.Call.TheVariants.{ConicTo}
use Rattle.builder.specs.Call.{from, conic_segs, lays}
use Rattle.builder.specs.Build.{quads_laid}
use Rattle.builder.specs.Laid.{Laid, put, puts, some, lay}

pub quads_1_64 : (b : PathBuilder) (c t : Vec2) (w : Float) → straight c t w ≡ false → (1 ≤ quads_laid b (ConicTo c t w)) × (quads_laid b (ConicTo c t w) ≤ 64)
unfolding quads_laid
quads_1_64 b c t w e = rw e (quads_least _ c t w, quads_most _ c t w)

pub no_quads : (b : PathBuilder) (c t : Vec2) (w : Float) → straight c t w ≡ true → quads_laid b (ConicTo c t w) ≡ 0
unfolding quads_laid
no_quads b c t w e = rw e

-- ---- the pen

puts_append : (x y : List Segment) (l : Laid) → puts l (x ++ y) ≡ puts (puts l x) y
unfolding puts
puts_append [] y l = refl
puts_append (s ∷ x) y l = puts_append x y (put l s)

quads_pen : (t : Vec2) (qs : List Segment) → Quads t qs → (l : Laid) → (puts l qs).pen ≡ t
unfolding puts
quads_pen t qs (one c) l = refl
quads_pen t qs (more c p rs h) l = quads_pen t rs h (put l (Quad c p))

conic_pen : (b : Bool) (a c t : Vec2) (w : Float) (l : Laid) → (puts l (conic_segs b t (quads a c t w))).pen ≡ t
unfolding puts
conic_pen true a c t w l = refl
conic_pen false a c t w l = quads_pen t (quads a c t w) (quads_quads a c t w) l

pub after_conic : (l : Laid) (c t : Vec2) (w : Float) → (lay l (ConicTo c t w)).pen ≡ t
unfolding lay lays
after_conic l c t w =
    let o = some l.segs in
    ap (λ (m : Laid). m.pen) (puts_append (opening o) (conic_segs (straight c t w) t (quads (from o l.pen) c t w)) l) ∙ conic_pen (straight c t w) (from o l.pen) c t w (puts l (opening o))
