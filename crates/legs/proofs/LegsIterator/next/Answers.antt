-- `Legs::next` meets its contract. Assumes nothing.
use Rattle.std.proofs.Common.{arith, ℕ, ◌≡◌, sym, ◌∙◌, ap, ap₂, subst, ◌-◌, List, length, length-drop, Bor}
use Rattle.std.proofs.lemmas.List.{take_all}
use lib.ListN.{take, drop}
use lib.Ieee.{Float}
use Rattle.vec2.specs.declared.Vec2.{Vec2}
use Rattle.vec2.specs.Vec2.{◌⊖◌, len}
use Rattle.strokes.specs.Lengths.{KeptLengths}
use Rattle.strokes.proofs.Lengths.{legs_next, kept_next}
use Rattle.legs.proofs.LegsIterator.next.Goals.{in_default, in-len1-up}
use Rattle.legs.proofs.LegsIterator.next.Goals as goal

-- a slice from number n on
rest : {A : Type 0} (n : ℕ) (l : List A) → take (length l - n) (drop n l) ≡ drop n l
rest n l = take_all _ _ (omega (arith, length-drop n l))

pub invariant_of-self : goal.invariant_of-self
invariant_of-self c =
    let s = c.args.self.now in
    let lengths : KeptLengths c.if-self-lt1.length.1.now (drop 2 s.points.now) =
    elim c.if-self-lt1.branch [
      | in_default w ↦ subst (λ (z : Float × Bor (List Float)). KeptLengths z.1.now (drop 2 s.points.now)) (sym w.length-is) (λ k h r. absurd (omega (arith, h, w.in_default.len_below)))
      | in-len1-up w ↦ subst (λ (z : Float × Bor (List Float)). KeptLengths z.1.now (drop 2 s.points.now)) (sym w.length-is)
          (subst (λ (ls : List Float). KeptLengths ls (drop 2 s.points.now)) (sym (rest 1 s.lengths.now)) (kept_next s.lengths.now s.points.now s.kept))
    ] in
    record { kept = subst (KeptLengths c.if-self-lt1.length.1.now) (sym (rest 2 s.points.now)) lengths }

pub returns-clause-steps : goal.returns-clause-steps
returns-clause-steps c =
    let s = c.args.self.now in
    let e = c.sub-way.ensures ∙ ap₂ (λ (p q : Vec2). p ⊖ q) c.point_at-to.ensures c.point_at-from.ensures in
    let n : c.if-self-lt1.length.0 ≡ len c.sub-way.result =
    elim c.if-self-lt1.branch [
      | in_default w ↦ ap (λ (z : Float × Bor (List Float)). z.0) w.length-is ∙ w.length.ensures
      | in-len1-up w ↦ ap (λ (z : Float × Bor (List Float)). z.0) w.length-is ∙ s.kept 0 (omega (arith, w.in-len1-up.len_at_least)) (omega (arith, c.if-self-lt4.false)) ∙ sym (ap len e)
    ] in
    rw (n, e, c.point_at-to.ensures, c.point_at-from.ensures, rest 2 s.points.now) (legs_next s.points.now c.if-self-lt4.false)
