-- What `line_style` answers ("Dash" and "Numbers" of the scope). Definitions only.
use Rattle.std.specs.Prelude.{ℕ, cond, List, nat_lt, Float, Result, Ok, Err}
use Rattle.path.specs.declared.Refusal.{Refusal}
use Rattle.path.specs.declared.Refusal.TheVariants.{NoStyle}
use Rattle.path.specs.Style.{style_of}

-- style n of the table; 9 for a style over 8
abbrev pub line_style : ℕ → Result (List Float) Refusal
line_style n = cond (nat_lt 8 n) (Err NoStyle) (Ok (style_of n))
