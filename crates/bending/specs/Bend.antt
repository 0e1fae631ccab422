-- What a conic that is a curve lays ("Conic" of the scope): all its quads or none, behind a move to (0, 0) where nothing stands. Definitions only.
use Rattle.std.specs.Prelude.{List, ◌++◌, ℕ, length, Float, Result}
use Rattle.path.specs.declared.Refusal.{Refusal}
use Rattle.conic.specs.declared.Conic.{Conic}
use Rattle.conic.specs.Lay.{quads_of}
use Rattle.store.specs.Store.{Laid}
use Rattle.store.specs.declared.Standing.{Standing}
use Rattle.drawing.specs.Lay.{opening}

-- the conic c behind what stands: how many quads are laid, or why they are refused; and what both buffers hold afterwards
abbrev pub Curved : Result ℕ Refusal → Standing → Conic → List ℕ → List Float → List ℕ → List Float → Type 0
Curved r at c vs fs vs' fs' = Laid r (length (quads_of c)) at vs fs (opening at.started ++ quads_of c) vs' fs'
