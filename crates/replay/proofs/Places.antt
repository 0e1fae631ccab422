-- The calls that a list says: none, or one and those behind it. Assumes nothing.
use mathlib.Core.Path.{◌≡◌}
use native.Mathlib.Omega.{arith}
use mathlib.Core.List.{List, [], ◌∷◌}
use native.Mathlib.Numerals.{add-one}
use Prim.Native.Nat.{ℕ, zero, suc, ◌+◌, ◌≤◌, ◌<◌}
use borrow.Author.Tests.{lt-ltb, le-ltb}
use lib.ListN.{length, get_or, take, drop, drop_of_length-le}
use lib.Seq.{drop-cons}
use lib.Ieee.{Float}
use Rattle.replay.specs.Calls.{taken, call_of, calls}
use Rattle.replay.proofs.Tables.{its_own}

within : (i : ℕ) (ks : List ℕ) → 0 < get_or ks i 0 → i < length ks
within i [] h = absurd (omega (arith, h))
within zero (k ∷ ks) h = omega arith
within (suc i) (k ∷ ks) h = omega (arith, within i ks h)

module _ (ks : List ℕ) (fs : List Float) (i : ℕ) where
  pub no_kinds : length ks ≤ i → calls (drop i ks) fs ≡ []
  unfolding calls
  no_kinds h = rw (drop_of_length-le ks h)

  pub bad_kind : 8 < get_or ks i 0 → calls (drop i ks) fs ≡ []
  unfolding calls
  bad_kind h =
      let at : i < length ks = within i ks (omega (arith, h)) in
      rw (drop-cons ks i 0 at, lt-ltb 8 (get_or ks i 0) h)

  -- a call of a kind k, which takes n numbers, stands next
  module _ {k n : ℕ} (good : k ≤ 8) (t : taken k ≡ n) (at : i < length ks) (e : get_or ks i 0 ≡ k) where
    pub few_numbers : length fs < n → calls (drop i ks) fs ≡ []
    unfolding calls
    few_numbers h = rw (drop-cons ks i 0 at, e, le-ltb 8 k good, t, lt-ltb (length fs) n h)

    pub one_more : n ≤ length fs → calls (drop i ks) fs ≡ call_of k (take n fs) ∷ calls (drop (i + 1) ks) (drop n fs)
    unfolding calls
    one_more h =
        let its : call_of k (take n fs) ≡ call_of k fs = rw (← t) (its_own k good fs) in
        rw (drop-cons ks i 0 at, e, le-ltb 8 k good, t, le-ltb (length fs) n h, its, add-one)
