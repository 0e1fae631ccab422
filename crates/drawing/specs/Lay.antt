-- What a drawn verb lays ("Builder" of the scope): a move to (0, 0) where nothing stands, then itself. Definitions only.
use Rattle.std.specs.Prelude.{Bool, true, false, List, [], ◌∷◌, ◌++◌, ℕ, Float, Result}
use Rattle.vec2.specs.Vec2.{origin}
use Rattle.path.specs.declared.Refusal.{Refusal}
use Rattle.path.specs.declared.Segment.{Segment}
use Rattle.path.specs.declared.Segment.TheVariants.{Move}
use Rattle.store.specs.Store.{behind, Laid}
use Rattle.store.specs.declared.Standing.{Standing}

-- a drawn verb on an empty builder first lays a move to (0, 0); the Bool says whether a segment stands already
abbrev pub opening : Bool → List Segment
opening true = []
opening false = Move origin ∷ []

-- its verbs, and its points
abbrev pub lead : Bool → ℕ
lead true = 0
lead false = 1

-- the opening and the drawn segments ts, behind what stands: whether they are refused, and what both buffers hold afterwards
abbrev pub Drawn : Result Standing Refusal → Standing → List ℕ → List Float → List Segment → List ℕ → List Float → Type 0
Drawn r at vs fs ts vs' fs' = Laid r (behind at (opening at.started ++ ts)) at vs fs (opening at.started ++ ts) vs' fs'
