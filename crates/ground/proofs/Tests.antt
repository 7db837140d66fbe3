-- The tests of literals and of rows are std's tests of a list. Assumes nothing.
use Rattle.std.proofs.Common.{◌≡◌, ℕ, zero, suc, ◌-◌, Bool, not, ◌&&◌, ◌||◌, List, [], ◌∷◌, get_or, refl, ap, arith}
use Rattle.std.proofs.lemmas.Grind.{common_steps}
use Rattle.std.specs.List.{list_all, list_any}
use Rattle.formula.specs.declared.letter.Literal.{Literal}
use Rattle.formula.specs.Prefix.{has_var}
use Rattle.formula.specs.Formula.{Formula, row_bound}
use Rattle.game.specs.Leaves.{each_literal}
use Rattle.game.specs.Game.{value}
use Rattle.game.specs.Grounds.{each_row, none_false, row_false, some_literal, some_row}

pub each_is : (f : Literal → Bool) (ls : List Literal) → each_literal f ls ≡ list_all f ls
unfolding each_literal
each_is f [] = refl
each_is f (l ∷ ls) = ap (λ b. f l && b) (each_is f ls)

pub some_is : (f : Literal → Bool) (ls : List Literal) → some_literal f ls ≡ list_any f ls
unfolding some_literal
some_is f [] = refl
some_is f (l ∷ ls) = ap (λ b. f l || b) (some_is f ls)

pub bound_is : (vars : List ℕ) (ls : List Literal) → row_bound vars ls ≡ list_all (λ (l : Literal). has_var vars l.variable) ls
bound_is vars [] = refl
bound_is vars (l ∷ ls) = ap (λ b. has_var vars l.variable && b) (bound_is vars ls)

pub each_row_is : (f : List Literal → Bool) (rows : List (List Literal)) → each_row f rows ≡ list_all f rows
unfolding each_row
each_row_is f [] = refl
each_row_is f (row ∷ rows) = ap (λ b. f row && b) (each_row_is f rows)

pub some_row_is : (f : List Literal → Bool) (rows : List (List Literal)) → some_row f rows ≡ list_any f rows
unfolding some_row
some_row_is f [] = refl
some_row_is f (row ∷ rows) = ap (λ b. f row || b) (some_row_is f rows)

-- no row is false exactly where none can be found, so of one formula and play the two kinds of ground judge the opposite
pub none_found : (F : Formula) (p : List ℕ) → not (some_row (row_false p) F.rows) ≡ none_false F p
unfolding some_row each_row
none_found F p = by F.rows
  where
    by : (rows : List (List Literal)) → not (some_row (row_false p) rows) ≡ each_row (λ row. not (row_false p row)) rows
    by [] = refl
    by (row ∷ rows) = grind (arith, common_steps, by rows)

-- the value of a variable, by its place
pub value_at : (p : List ℕ) (x : ℕ) → (x ≡ 0 → ⊥) → value p x ≡ get_or p (x - 1) 2
value_at p zero some = absurd (some refl)
value_at p (suc k) some = ap (λ n. get_or p n 2) {x = k} {y = suc k - 1} (omega arith)
