-- A formula: its prefix and its rows, and when it is well-formed.
use Rattle.std.specs.Prelude.{◌≡◌, ℕ, ◌≤◌, Bool, true, not, ◌&&◌, List, [], ◌∷◌, length, ◌==◌, nat_le}
use Rattle.formula.specs.declared.letter.Literal.{Literal}
use Rattle.formula.specs.Prefix.{Block, PrefixModel, same_letter, has_var, order, all_in_range}
use Rattle.formula.specs.Matrix.{MatrixModel, names, all_literals}

-- n, the blocks of the prefix, m, and the rows
pub record Formula : Type 0 where
  pub size : ℕ
  pub blocks : List Block
  pub due : ℕ
  pub rows : List (List Literal)

-- what is complete of a prefix and a matrix that are being read
abbrev pub complete_part : PrefixModel → MatrixModel → Formula
complete_part p m = record { size = p.size; blocks = p.blocks; due = m.due; rows = m.rows }

-- no variable stands twice in the list
abbrev pub distinct : List ℕ → Bool
distinct [] = true
distinct (x ∷ xs) = not (has_var xs x) && distinct xs

-- neighbouring blocks have different letters
abbrev pub alternating : List Block → Bool
alternating [] = true
alternating (b ∷ []) = true
alternating (b ∷ c ∷ bs) = not (same_letter b.letter c.letter) && alternating (c ∷ bs)

-- every block has a variable
abbrev pub none_empty : List Block → Bool
none_empty [] = true
none_empty (b ∷ bs) = not (length b.vars == 0) && none_empty bs

-- no variable stands twice in the row
abbrev pub row_distinct : List Literal → Bool
row_distinct [] = true
row_distinct (l ∷ ls) = not (names ls l.variable) && row_distinct ls

-- every literal's variable is bound
abbrev pub row_bound : List ℕ → List Literal → Bool
row_bound vars [] = true
row_bound vars (l ∷ ls) = has_var vars l.variable && row_bound vars ls

-- every row is a row: its variables are bound, and no one stands twice in it
abbrev pub rows_good : List ℕ → List (List Literal) → Bool
rows_good vars [] = true
rows_good vars (r ∷ rs) = (row_bound vars r && row_distinct r) && rows_good vars rs

-- A well-formed formula: at most 1,024 variables, at most 64 blocks of which neighbours differ in letter and none is empty,
-- no variable bound twice or out of 1..n; as many rows as announced, at most 4,096; at most 16,384 literals; each row over
-- bound variables, none of them twice.
pub record WellFormed (F : Formula) : Type 0 where
  pub variables : F.size ≤ 1024
  pub few_blocks : length F.blocks ≤ 64
  pub letters : alternating F.blocks ≡ true
  pub filled : none_empty F.blocks ≡ true
  pub in_size : all_in_range F.size (order F.blocks) ≡ true
  pub once : distinct (order F.blocks) ≡ true
  pub announced : length F.rows ≡ F.due
  pub few_rows : F.due ≤ 4096
  pub few_literals : length (all_literals F.rows) ≤ 16384
  pub rows_are : rows_good (order F.blocks) F.rows ≡ true

-- the same as one test
abbrev pub well_formed : Formula → Bool
well_formed F =
    nat_le F.size 1024 && (nat_le (length F.blocks) 64 && (alternating F.blocks && (none_empty F.blocks
    && (all_in_range F.size (order F.blocks) && (distinct (order F.blocks) && (length F.rows == F.due
    && (nat_le F.due 4096 && (nat_le (length (all_literals F.rows)) 16384 && rows_good (order F.blocks) F.rows))))))))
