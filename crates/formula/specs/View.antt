-- What a prefix and a matrix of the code hold.
use Rattle.formula.specs.declared.matrix.Matrix.{Matrix}
use Rattle.formula.specs.declared.prefix.Prefix.{Prefix}
use Rattle.formula.specs.Matrix.{MatrixModel, rows_in}
use Rattle.formula.specs.Prefix.{PrefixModel, blocks_in}

abbrev pub matrix_of : Matrix → MatrixModel
matrix_of m = record { due = m.due; rows = rows_in m.rows.complete; begun = m.rows.begun }

abbrev pub prefix_of : Prefix → PrefixModel
prefix_of p = record { size = p.variables; blocks = blocks_in p.blocks.complete; begun = p.blocks.begun }
