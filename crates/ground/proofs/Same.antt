-- What the tests of rows by a leaf's signs tell. Assumes nothing.
use Rattle.std.proofs.Common.{◌≡◌, Bool, true, ◌&&◌, eqb, List, [], ◌∷◌, length, refl, arith}
use Rattle.std.specs.List.{list_all, list_any}
use Rattle.std.proofs.lemmas.Grind.{common_steps}
use Rattle.formula.specs.declared.letter.Literal.{Literal}
use Rattle.formula.specs.Prefix.{order}
use Rattle.formula.specs.Formula.{Formula, row_distinct, rows_good, well_formed}
use Rattle.formula.proofs.WellFormed.{tested}
use Rattle.game.specs.Leaves.{each_literal}
use Rattle.game.specs.Grounds.{leaf_over, some_literal, some_row, each_row, has_literal, clause_ground, cube_ground}
use Rattle.ground.specs.Admits.{admits_leaf}
use Rattle.ground.proofs.LeafSigns.{rising_distinct}
use Rattle.ground.proofs.Counted.{same_by_count}

module _ (F : Formula) (whole : well_formed F ≡ true) (ls : List Literal) (leaf : leaf_over F ls ≡ true) (has : Literal → Bool) (told : (l : Literal) → has l ≡ has_literal ls l) where
  -- the test by signs is that of the leaf
  each_same : (row : List Literal) → each_literal has row ≡ each_literal (has_literal ls) row
  unfolding each_literal
  each_same [] = refl
  each_same (l ∷ row) = grind (arith, common_steps, told l, each_same row)

  some_same : (row : List Literal) → some_literal has row ≡ some_literal (has_literal ls) row
  unfolding some_literal
  some_same [] = refl
  some_same (l ∷ row) = grind (arith, common_steps, told l, some_same row)

  once : row_distinct ls ≡ true
  once = grind (arith, common_steps, rising_distinct 0 ls)

  rows_same : (rows : List (List Literal)) → rows_good (order F.blocks) rows ≡ true
      → list_any (λ row. eqb (length row) (length ls) && each_literal has row) rows ≡ some_row (λ row. each_literal (has_literal row) ls && each_literal (has_literal ls) row) rows
  unfolding some_row
  rows_same [] ok = refl
  rows_same (row ∷ rows) ok = grind (arith, common_steps, once, each_same row, same_by_count row ls, rows_same rows)

  -- a row has the leaf's literals where it is as long as the leaf and lies in it
  pub clause_admits : list_any (λ row. eqb (length row) (length ls) && each_literal has row) F.rows ≡ admits_leaf (clause_ground F) ls
  clause_admits = grind (arith, common_steps, rows_same F.rows (tested F whole).rows_are)

  rows_met : (rows : List (List Literal)) → list_all (some_literal has) rows ≡ each_row (λ row. some_literal (has_literal ls) row) rows
  unfolding each_row
  rows_met [] = refl
  rows_met (row ∷ rows) = grind (arith, common_steps, some_same row, rows_met rows)

  -- each row has a literal of the leaf
  pub cube_admits : list_all (some_literal has) F.rows ≡ admits_leaf (cube_ground F) ls
  cube_admits = grind (arith, common_steps, rows_met F.rows)
