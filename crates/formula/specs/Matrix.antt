-- The matrix: rows of literals.
use Rattle.std.specs.Prelude.{◌≡◌, ℕ, ◌+◌, ◌<◌, ◌≤◌, Bool, false, cond, ◌||◌, List, [], ◌∷◌, ◌++◌, length, map, Some, None, Ok, Err, Option, Result, ◌==◌, nat_le, slice_index}
use Rattle.std.specs.List.{flat_map}
use Rattle.refusal.specs.declared.Reason.{Reason}
use Rattle.refusal.specs.declared.Reason.TheVariants.{VariableOutOfRange, VariableTwice, WrongRowCount, TooMany}
use Rattle.formula.specs.declared.letter.Literal.{Literal}
use Rattle.formula.specs.Sections.{Section}

-- whether the row names x
abbrev pub names : List Literal → ℕ → Bool
names [] x = false
names (l ∷ ls) x = l.variable == x || names ls x

-- all literals, row after row
abbrev pub all_literals : List (List Literal) → List Literal
all_literals rows = flat_map (λ (row : List Literal). row) rows

-- ---- a matrix that is being read

-- m, the complete rows, and the literals of the row that is being read
pub record MatrixModel : Type 0 where
  pub due : ℕ
  pub rows : List (List Literal)
  pub begun : List Literal

-- a matrix of which m rows are due, and none is read
abbrev pub no_rows : ℕ → MatrixModel
no_rows m = record { due = m; rows = []; begun = [] }

-- how many literals there are, those of the row that is being read among them
abbrev pub literal_count : MatrixModel → ℕ
literal_count m = length (all_literals m.rows) + length m.begun

abbrev pub with_literal : Literal → MatrixModel → MatrixModel
with_literal l m = record { due = m.due; rows = m.rows; begun = m.begun ++ l ∷ [] }

abbrev pub with_row : MatrixModel → MatrixModel
with_row m = record { due = m.due; rows = m.rows ++ m.begun ∷ []; begun = [] }

-- all rows that were announced are there
abbrev pub complete : MatrixModel → Bool
complete m = nat_le m.due (length m.rows)

-- what forbids a literal in the row that is being read, room aside
abbrev pub forbidden : Literal → MatrixModel → Option Reason
forbidden l m = cond (complete m) (Some WrongRowCount)
    (cond (nat_le l.variable 1024) (cond (names m.begun l.variable) (Some VariableTwice) None) (Some VariableOutOfRange))

-- one literal more in the row that is being read
abbrev pub add_literal : Literal → MatrixModel → Result MatrixModel Reason
add_literal l m = elim (forbidden l m) [
  | Some r ↦ Err r
  | None ↦ cond (nat_le 16384 (literal_count m)) (Err TooMany) (Ok (with_literal l m))
]

-- the end of the row that is being read
abbrev pub end_row : MatrixModel → Result MatrixModel Reason
end_row m = cond (complete m) (Err WrongRowCount) (Ok (with_row m))

-- ---- how a matrix is kept: the rows as sections of the literals, whose heads tell nothing

abbrev pub as_row : Section (Unit {0}) Literal → List Literal
as_row s = s.items

abbrev pub rows_in : List (Section (Unit {0}) Literal) → List (List Literal)
rows_in ss = map as_row ss

-- Each variable has a mark: the number of the last row that named it. So a variable stands in the row that is being
-- read, which is one more than there are rows, exactly if its mark is that row's number.
abbrev pub MarksTold : List ℕ → ℕ → List Literal → Type 0
MarksTold seen rows begun = (x : ℕ) → x < 1025 → ((slice_index seen x == rows + 1) ≡ names begun x) × (slice_index seen x ≤ rows + 1)
