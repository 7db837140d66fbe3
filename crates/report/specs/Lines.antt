-- The lines that programs print, byte for byte, without the line end.
use Rattle.std.specs.Prelude.{ℕ, List, ◌++◌, length, Some, None, codes, decimal}
use Rattle.refusal.specs.Lines.{refusal_line}
use Rattle.formula.specs.Formula.{Formula}
use Rattle.formula.specs.Matrix.{all_literals}
use Rattle.qdimacs.specs.Reading.{reading, left_formula}

-- `read`, and how many variables, blocks, rows and literals the formula has
abbrev pub read_line : Formula → List ℕ
read_line f =
    codes "read " ++ (decimal f.size ++ (codes " " ++ (decimal (length f.blocks)
    ++ (codes " " ++ (decimal (length f.rows) ++ (codes " " ++ decimal (length (all_literals f.rows))))))))

-- the line for a formula text: its refusal, or what was read
abbrev pub formula_line : List ℕ → List ℕ
formula_line text = elim (reading text).refusal [
  | Some r ↦ refusal_line r
  | None ↦ read_line (left_formula (reading text).left)
]
