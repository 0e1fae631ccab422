-- What `all` over the points of a path that the check lets pass answers. Assumes nothing.
use Rattle.std.proofs.Common.{◌≡◌, ℕ, Bool, List, Float, Ok, ap}
use denote.Param.Members.{Mut, Called}
use Rattle.std.specs.Iterator.{YieldsFirst, ChecksAll}
use Rattle.std.proofs.lemmas.Iterator.Search.{all_from_yields_List}
use Rattle.std.proofs.lemmas.Iterator.Consumers.{YieldsList-from_first}
use Rattle.vec2.specs.declared.Vec2.{Vec2}
use Rattle.vec2.specs.Points.{points_in}
use Rattle.path.specs.declared.points.Points.{Points}
use Rattle.path.specs.Points.{left}
use Rattle.path.specs.Check.{check}
use Rattle.bounds.specs.Range.{all_pass}
use Rattle.bounds.specs.Answer.{asked}

pub all_asked : {F : Type 0} {g : Mut F (Vec2 × Unit {0}) Bool} (test : Vec2 → Bool) (vs : List ℕ) (fs : List Float) (s u : Points) (f : F) (r : Bool) →
    check vs fs ≡ Ok tt → left s ≡ points_in fs → ChecksAll (YieldsFirst left) g s f r u → ((p : Vec2) (b : Bool) (q : F) → Called g f (p, tt) b q → (q ≡ f) × (b ≡ test p)) →
    Ok r ≡ asked test vs fs
unfolding all_pass
all_asked test vs fs s u f r ok e ran computes =
    rw ok (ap Ok (all_from_yields_List test u f r ran (YieldsList-from_first (λ (p : Vec2). p) left {s = s} (points_in fs) e) computes))
