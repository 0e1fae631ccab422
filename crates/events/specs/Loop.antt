-- A loop that tells something at each turn, as a function: `traced go next tell s` is what its turns tell, first to last, and the state that they end in,
-- after as many steps `next` as `go` allows, 2 ^ 33 at most. The test is an argument to match on, since antt evaluates a recursive call that stands under
-- a `cond`. Definitions only.
use Rattle.std.specs.Prelude.{ℕ, zero, suc, ◌^◌, Bool, true, false, List, [], ◌∷◌}

pub record Trace (E S : Type 0) : Type 0 where
  pub told : List E
  pub end : S

module _ {S E : Type 0} (go : S → Bool) (next : S → S) (tell : S → E) where
  abbrev pub then : S → Trace E S → Trace E S
  then s r = record { told = tell s ∷ r.told; end = r.end }

  unfoldable pub trace : ℕ → Bool → S → Trace E S
  trace zero b s = record { told = []; end = s }
  trace (suc k) false s = record { told = []; end = s }
  trace (suc k) true s = then s (trace k (go (next s)) (next s))

  unfoldable pub traced : S → Trace E S
  unfolding trace
  traced s = trace (2 ^ 33) (go s) s
