-- What a walk's events do to a pen, which counts what they draw or lays it, and may be full before the walk ends. `told` is what one event does, `takes` what
-- the pen asks of one; `begun` and `begins` the same of a drawn interval that begins where a leg begins, behind one that ended there. Definitions only.
use Rattle.std.specs.Prelude.{◌≡◌, ℕ, ◌<◌, Bool, true, false, cond, List, [], ◌∷◌, ◌++◌, Float}
use Rattle.vec2.specs.declared.Vec2.{Vec2}
use Rattle.events.specs.declared.Pos.{Pos}
use Rattle.events.specs.declared.Event.{Event}
use Rattle.events.specs.declared.Event.TheVariants.{Nothing, Cut, Reach, Pass}
use Rattle.events.specs.Walk.{Told, walk_polyline}

module _ {S : Type 0} (told : S → Event → S) where
  -- one event after the other
  abbrev pub told_all : S → List Event → S
  told_all s [] = s
  told_all s (e ∷ es) = told_all (told s e) es

  -- each event is taken where it comes, unless the pen is full before it
  abbrev pub TakesAll : (S → Bool) → (S → Event → Type 0) → S → List Event → Type 0
  TakesAll full takes s [] = Unit
  TakesAll full takes s (e ∷ es) = takes s e × (full (told s e) ≡ false → TakesAll full takes (told s e) es)

-- r is all, or is full: then all is, too
pub record Unless {S : Type 0} (full : S → Bool) (all r : S) : Type 0 where
  pub exact : full r ≡ false → r ≡ all
  pub over : full r ≡ true → full all ≡ true

-- where what a leg tells leads the pen s, and the walk: to r, and to p, an interval of n; or r is full
pub record Led {S : Type 0} (told : S → Event → S) (full : S → Bool) (n : ℕ) (s : S) (c : Told) (r : S) (p : Pos) : Type 0 where
  pub led : Unless full (told_all told s c.events) r
  pub walked : full r ≡ false → p ≡ c.pos
  pub indexed : p.index < n

-- whether an event is of a dash, and the event with the dash begun at a, copied, where an interval ended where the leg begins (W6)
abbrev pub draws : Event → Bool
draws Nothing = false
draws (Cut b z) = true
draws (Reach b c) = true
draws (Pass c) = false

abbrev pub begun_at : Vec2 → Event → Event
begun_at a Nothing = Nothing
begun_at a (Cut b z) = Cut a z
begun_at a (Reach b c) = Reach a c
begun_at a (Pass c) = Pass c

-- a pen that is full stays so, `Nothing` fills none, and a drawn interval is begun as `Nothing` and a first event from a do it
pub record Laws {S : Type 0} (told : S → Event → S) (begun : S → Vec2 → S) (full : S → Bool) (takes : S → Event → Type 0) (begins : S → Vec2 → Type 0) : Type 0 where
  pub stays : (s : S) (e : Event) → full s ≡ true → full (told s e) ≡ true
  pub lifted : (s : S) → full (told s Nothing) ≡ full s
  pub begun_so : (s : S) (a : Vec2) (e : Event) → draws e ≡ true → told (begun s a) e ≡ told (told s Nothing) (begun_at a e)
  pub begins_so : (s : S) (a : Vec2) (e : Event) → draws e ≡ true → takes (told s Nothing) (begun_at a e) → begins s a × takes (begun s a) e

-- an interval ended where a leg begins, at a, and the next one begins, drawn or not
abbrev pub begun_by : {S : Type 0} → (S → Event → S) → (S → Vec2 → S) → S → Vec2 → Bool → S
begun_by told begun s a drawn = cond drawn (begun s a) (told s Nothing)

abbrev pub BeginsBy : {S : Type 0} → (S → Event → Type 0) → (S → Vec2 → Type 0) → S → Vec2 → Bool → Type 0
BeginsBy takes begins s a true = begins s a
BeginsBy takes begins s a false = takes s Nothing

-- what the walk of all polylines tells: the pen is lifted before each
abbrev pub all_events : List Float → Pos → List (List Vec2) → List Event
all_events cs start [] = []
all_events cs start (p ∷ ps) = Nothing ∷ (walk_polyline cs start p ++ all_events cs start ps)
