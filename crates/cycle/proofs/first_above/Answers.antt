-- `first_above` meets its contract. Assumes nothing.
use Rattle.std.proofs.Common.{rules, arith, ◌≡◌, ℕ, ◌≤◌, ◌<◌, true, false, List, length, Option, None, Some}
use Rattle.std.proofs.lemmas.Iterator.{first_from_Range}
use Rattle.std.specs.Option.{MatchOption, unwrap_or}
use lib.Ieee.{Float}
use Rattle.events.specs.Zeros.{zero_at, first_above}
use Rattle.events.proofs.Turns.{above_behind, above_before, above_all}
use Rattle.cycle.proofs.first_above.Goals as goal

-- what `find` says of the numbers from a up to b
abbrev Found : List Float → ℕ → ℕ → Option ℕ → Type 0
Found cs a b r = MatchOption r ((k : ℕ) → a ≤ k → k < b → zero_at cs k ≡ true) (λ i. (a ≤ i) × (i < b) × (zero_at cs i ≡ false) × ((k : ℕ) → a ≤ k → k < i → zero_at cs k ≡ true))

before : (cs : List Float) (i : ℕ) → i < length cs → Found cs i (length cs) None → (r : Option ℕ) → Found cs 0 i r → (unwrap_or r i ≡ first_above cs i) × (unwrap_or r i < length cs)
before cs i l z None f = (above_all cs i l z (λ m b. f m (omega arith) b), l)
before cs i l z (Some j) f = (above_before cs i l z j f.1 (λ m b. f.3 m (omega arith) b) f.2, omega (arith, f.1, l))

pub returns-in-Some : goal.returns-in-Some
returns-in-Some c =
    let cs = c.args.cycle.now in
    let i = c.args.index in
    let f : Found cs i (length cs) (Some c.in-Some.i) =
    first_from_Range (record { start = i; end = length cs }) _ _ (Some c.in-Some.i) (λ k. zero_at cs k ≡ false) (λ k. zero_at cs k ≡ true) c.in-Some.ensures.ran (λ x q h. search rules) (λ x q h. search rules) in
    (above_behind cs i c.in-Some.i f.0 f.1 f.3 f.2, f.1)

pub returns : goal.returns
returns c =
    let cs = c.args.cycle.now in
    let i = c.args.index in
    let z : Found cs i (length cs) None =
    first_from_Range (record { start = i; end = length cs }) _ _ None (λ k. zero_at cs k ≡ false) (λ k. zero_at cs k ≡ true) c.in_default.ensures.ran (λ x q h. search rules) (λ x q h. search rules) in
    let f : Found cs 0 i c.find-2.result =
    first_from_Range (record { start = 0; end = i }) _ _ c.find-2.result (λ k. zero_at cs k ≡ false) (λ k. zero_at cs k ≡ true) c.find-2.ensures.ran (λ x q h. search rules) (λ x q h. search rules) in
    let e = before cs i c.requires z c.find-2.result f in
    rw c.unwrap_or.ensures e
