use Rattle.std.proofs.Common.{rules, sym, ◌∙◌}
use Rattle.vec2.specs.Vec2.{all_finite}
use Rattle.bounds.proofs.All.{all_asked}
use Rattle.bounds.proofs.is_finite.Goals as goal

pub returns : goal.returns
returns c = all_asked all_finite _ _ c.new.result c.all.new.self _ _ (sym c.check.ensures ∙ c.in_ok-check.was) c.new.ensures c.all.ensures.ran (λ p b q k. search rules)
