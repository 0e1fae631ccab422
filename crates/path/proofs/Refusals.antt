-- Refusals are told apart by their numbers. Assumes nothing.
use Rattle.std.proofs.Common.{◌≡◌, ℕ, zero, suc, refl, sym, ap, ◌∙◌}
use Rattle.path.specs.declared.Refusal.{Refusal}
use Rattle.path.specs.declared.Refusal.TheVariants.{OddFloats, BuilderFull, OutputFull, OverLimit, NoVerb, BadPath, BadState, LongPattern, NoStyle}
use Rattle.path.specs.Refusal.{number}

-- the refusal of a number
abbrev named : ℕ → Refusal
named zero = OddFloats
named (suc zero) = OddFloats
named (suc (suc zero)) = BuilderFull
named (suc (suc (suc zero))) = OutputFull
named (suc (suc (suc (suc zero)))) = OverLimit
named (suc (suc (suc (suc (suc zero))))) = NoVerb
named (suc (suc (suc (suc (suc (suc zero)))))) = BadPath
named (suc (suc (suc (suc (suc (suc (suc zero))))))) = BadState
named (suc (suc (suc (suc (suc (suc (suc (suc zero)))))))) = LongPattern
named (suc (suc (suc (suc (suc (suc (suc (suc (suc n))))))))) = NoStyle

named_is : (r : Refusal) → named (number r) ≡ r
named_is OddFloats = refl
named_is BuilderFull = refl
named_is OutputFull = refl
named_is OverLimit = refl
named_is NoVerb = refl
named_is BadPath = refl
named_is BadState = refl
named_is LongPattern = refl
named_is NoStyle = refl

pub number_tells : (r s : Refusal) → number r ≡ number s → r ≡ s
number_tells r s h = sym (named_is r) ∙ ap named h ∙ named_is s
