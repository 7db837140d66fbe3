-- The rows of a formula, one after another.
use Rattle.std.specs.Prelude.{List, slice_range}
use Rattle.formula.specs.declared.letter.Literal.{Literal}
use Rattle.formula.specs.Formula.{Formula}
use Rattle.ground.specs.declared.rows.Rows.{Rows}

-- the rows that are still to come
abbrev pub rows_left : {F : Type 0} → (F → Formula) → Rows F → List (List Literal)
rows_left whole rows = slice_range (whole rows.formula.now).rows rows.places.start rows.places.end
