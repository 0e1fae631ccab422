-- An encoded list of builder calls: a byte for each call's kind, and its numbers. Kinds 0 to 4 are the verbs' (move, line, quad, cubic, close),
-- 5 a conic, 6 and 7 the fill rules non-zero and even-odd, 8 the note. The list ends at its last byte, at a byte over 8, or where fewer numbers
-- are left than the call takes. `calls` reads it; `kinds` and `numbers` write it. Definitions only.
use Rattle.std.specs.Prelude.{ℕ, suc, ◌≤◌, Bool, true, false, ◌||◌, List, [], ◌∷◌, ◌++◌, length, get_or, drop, ltb, Float}
use Rattle.std.specs.Float.{nan}
use Rattle.vec2.specs.declared.Vec2.{Vec2}
use Rattle.vec2.specs.Vec2.{vec}
use Rattle.path.specs.declared.FillRule.TheVariants.{NonZero, EvenOdd}
use Rattle.builder.specs.declared.Call.{Call}
use Rattle.builder.specs.declared.Call.TheVariants.{MoveTo, LineTo, QuadTo, ConicTo, CubicTo, Close, WithFillRule, AsRoundedRect}

-- the numbers that each kind takes
abbrev pub table : List ℕ
table = 2 ∷ 2 ∷ 4 ∷ 6 ∷ 0 ∷ 5 ∷ 0 ∷ 0 ∷ 5 ∷ []

abbrev pub taken : ℕ → ℕ
taken k = get_or table k 0

-- number j of those that a call takes, and the point that begins there
abbrev pub number : List Float → ℕ → Float
number fs j = get_or fs j nan

abbrev pub point : List Float → ℕ → Vec2
point fs j = vec (number fs j) (number fs (suc j))

abbrev pub note : List Float → Call
note fs = AsRoundedRect (record { min = point fs 0; max = point fs 2 }) (number fs 4)

-- the call whose numbers are the first of fs, by its kind
abbrev pub by_kind : List (List Float → Call)
by_kind =
    (λ fs. MoveTo (point fs 0))
    ∷ (λ fs. LineTo (point fs 0))
    ∷ (λ fs. QuadTo (point fs 0) (point fs 2))
    ∷ (λ fs. CubicTo (point fs 0) (point fs 2) (point fs 4))
    ∷ (λ fs. Close)
    ∷ (λ fs. ConicTo (point fs 0) (point fs 2) (number fs 4))
    ∷ (λ fs. WithFillRule NonZero)
    ∷ (λ fs. WithFillRule EvenOdd)
    ∷ note
    ∷ []

abbrev pub call_of : ℕ → List Float → Call
call_of k fs = get_or by_kind k note fs

-- no call of kind k stands here
abbrev pub ends : ℕ → List Float → Bool
ends k fs = ltb 8 k || ltb (length fs) (taken k)

abbrev pub unless_ends : Bool → Call → List Call → List Call
unless_ends true c cs = []
unless_ends false c cs = c ∷ cs

-- the calls that the kinds ks and the numbers fs say
unfoldable pub calls : List ℕ → List Float → List Call
calls [] fs = []
calls (k ∷ ks) fs = unless_ends (ends k fs) (call_of k fs) (calls ks (drop (taken k) fs))

-- ---- the encoding of any list of calls

abbrev pub kind_of : Call → ℕ
kind_of (MoveTo p) = 0
kind_of (LineTo p) = 1
kind_of (QuadTo c p) = 2
kind_of (CubicTo c d p) = 3
kind_of Close = 4
kind_of (ConicTo c p w) = 5
kind_of (WithFillRule NonZero) = 6
kind_of (WithFillRule EvenOdd) = 7
kind_of (AsRoundedRect r w) = 8

abbrev pub pair : Vec2 → List Float → List Float
pair p fs = p.x ∷ p.y ∷ fs

abbrev pub numbers_of : Call → List Float
numbers_of (MoveTo p) = pair p []
numbers_of (LineTo p) = pair p []
numbers_of (QuadTo c p) = pair c (pair p [])
numbers_of (CubicTo c d p) = pair c (pair d (pair p []))
numbers_of Close = []
numbers_of (ConicTo c p w) = pair c (pair p (w ∷ []))
numbers_of (WithFillRule r) = []
numbers_of (AsRoundedRect r w) = pair r.min (pair r.max (w ∷ []))

unfoldable pub kinds : List Call → List ℕ
kinds [] = []
kinds (c ∷ cs) = kind_of c ∷ kinds cs

unfoldable pub numbers : List Call → List Float
numbers [] = []
numbers (c ∷ cs) = numbers_of c ++ numbers cs

-- each is a kind, and so a byte
abbrev pub AllKinds : List ℕ → Type 0
AllKinds [] = Unit
AllKinds (k ∷ ks) = (k ≤ 8) × AllKinds ks
