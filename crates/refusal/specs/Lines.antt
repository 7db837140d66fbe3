-- The line that a program prints for a refusal, byte for byte, without the line end.
use Rattle.std.specs.Prelude.{ℕ, List, ◌++◌, codes, decimal}
use Rattle.refusal.specs.declared.Refusal.{Refusal}
use Rattle.refusal.specs.Numbers.{number}

-- `refused`, the number of the reason, and the place
abbrev pub refusal_line : Refusal → List ℕ
refusal_line r = codes "refused " ++ (decimal (number r.reason) ++ (codes " " ++ decimal r.place))
