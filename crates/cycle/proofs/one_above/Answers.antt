-- `one_above` meets its contract. Assumes nothing.
use Rattle.std.proofs.Common.{rules, ◌≡◌, ℕ, ◌*◌, ◌<◌, true, false, length}
use Rattle.std.proofs.iter.runs.Made.{chains}
use Rattle.events.specs.Zeros.{zero_at}
use Rattle.events.proofs.Gaps.{one_of}
use Rattle.cycle.proofs.one_above.Goals as goal

pub returns : goal.returns
returns c =
    let cs = c.args.intervals.now in
    let found : c.any.result ≡ true → (k : ℕ) × (k * 2 < length cs) × (zero_at cs (k * 2) ≡ false) = search (rules, chains) in
    let none : c.any.result ≡ false → (k : ℕ) → k * 2 < length cs → zero_at cs (k * 2) ≡ true = search (rules, chains) in
    one_of c.any.result cs found none
