-- `pass_leg` meets its contract. Assumes nothing.
use mathlib.Core.Path.{sym, ◌∙◌, subst}
use lib.ListN.{length}
use Rattle.events.specs.Walk.{nothing_left, Told, is_walked}
use Rattle.strokes.specs.Pen.{TakesAll, Led}
use Rattle.strokes.proofs.Pens.{did, turn_begins, turn_taken, turn_led}
use Rattle.pen.proofs.pass_leg.Goals as goal

pub turn-v-requires : goal.turn-v-requires
turn-v-requires g c =
    let a = c.args in
    let m = g.P.Pen in
    let s = m.on a.w.pen a.verbs.now a.floats.now in
    let d = did (is_walked a.g) a.cycle.now a.g a.w.pos (sym c.is_walked.ensures ∙ c.if-is_walked.true) in
    let t = subst (λ (z : Told). TakesAll m.told m.full m.takes s z.events) (sym d) c.requires.2 in
    (c.requires.0, turn_begins g.met.P.Pen.laws a.cycle.now a.g a.w.pos s c.requires.1 (nothing_left a.w.pos) t)

pub walk_leg-requires : goal.walk_leg-requires
walk_leg-requires g c =
    let a = c.args in
    let m = g.P.Pen in
    let s = m.on a.w.pen a.verbs.now a.floats.now in
    let v = c.turn-v.ensures in
    let d = did (is_walked a.g) a.cycle.now a.g a.w.pos (sym c.is_walked.ensures ∙ c.if-is_walked.true) in
    let t = subst (λ (z : Told). TakesAll m.told m.full m.takes s z.events) (sym d) c.requires.2 in
    (v.turned.1, turn_taken g.met.P.Pen.laws a.cycle.now a.g a.w.pos s c.requires.1 (nothing_left a.w.pos) t _ v.begun _ v.turned.0)

pub returns-then-is_walked : goal.returns-then-is_walked
returns-then-is_walked g c =
    let a = c.args in
    let m = g.P.Pen in
    let s = m.on a.w.pen a.verbs.now a.floats.now in
    let v = c.turn-v.ensures in
    let w = c.walk_leg in
    let d = did (is_walked a.g) a.cycle.now a.g a.w.pos (sym c.is_walked.ensures ∙ c.if-is_walked.true) in
    subst (λ (z : Told). Led m.told m.full (length a.cycle.now) s z (m.on w.result.pen w.new.verbs w.new.floats) w.result.pos) d
    (turn_led g.met.P.Pen.laws a.cycle.now a.g a.w.pos s (nothing_left a.w.pos) _ v.begun _ v.turned.0 _ _ w.ensures)
