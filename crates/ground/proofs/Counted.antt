-- Two lists of literals, no variable twice in either: if one is as long as the other and lies in it, they have the same literals. Assumes nothing.
use Rattle.std.proofs.Common.{◌≡◌, ℕ, suc, ◌≤◌, Bool, true, false, cond, ◌&&◌, eqb, List, [], ◌∷◌, length, refl, arith}
use Rattle.std.proofs.lemmas.Grind.{common_steps}
use Rattle.std.proofs.lemmas.Bool.{or_right, cases_eq}
use Rattle.formula.specs.declared.letter.Literal.{Literal}
use Rattle.formula.specs.Matrix.{names}
use Rattle.formula.specs.Formula.{row_distinct}
use Rattle.game.specs.Leaves.{each_literal}
use Rattle.game.specs.Grounds.{some_literal, same_literal, has_literal}
use Rattle.ground.proofs.LeafSigns.{has_signed}

-- the list without its literal of the variable x
without : ℕ → List Literal → List Literal
without x [] = []
without x (l ∷ ls) = cond (eqb l.variable x) ls (l ∷ without x ls)

-- a literal of the list is one less without it
shorter : (ls : List Literal) (k : Literal) → has_literal ls k ≡ true → length ls ≡ suc (length (without k.variable ls))
unfolding some_literal without
shorter [] k there = grind (arith, common_steps)
shorter (l ∷ ls) k there = grind (arith, common_steps, cases_eq l.variable k.variable, shorter ls k)

-- a literal of another variable stays
stays : (ls : List Literal) (x : ℕ) (k : Literal) → (k.variable ≡ x → ⊥) → has_literal ls k ≡ true → has_literal (without x ls) k ≡ true
unfolding some_literal without
stays [] x k apart there = there
stays (l ∷ ls) x k apart there = grind (arith, common_steps, cases_eq l.variable x, stays ls x k apart)

-- what names no variable x lies in the list without it
lies_on : (row ls : List Literal) (x : ℕ) → names row x ≡ false → each_literal (has_literal ls) row ≡ true → each_literal (has_literal (without x ls)) row ≡ true
unfolding each_literal
lies_on [] ls x new all = refl
lies_on (k ∷ row) ls x new all = grind (arith, common_steps, stays ls x k, lies_on row ls x)

-- a list that lies in another is not longer
fits : (row ls : List Literal) → row_distinct row ≡ true → each_literal (has_literal ls) row ≡ true → length row ≤ length ls
unfolding each_literal
fits [] ls once all = omega arith
fits (k ∷ row) ls once all = grind (arith, common_steps, shorter ls k, fits row (without k.variable ls), lies_on row ls k.variable)

-- two literals of one variable in such a list are the same
one_of : (ls : List Literal) (k l : Literal) → row_distinct ls ≡ true → k.variable ≡ l.variable → has_literal ls k ≡ true → has_literal ls l ≡ true → same_literal l k ≡ true
one_of ls k l once same has there = grind (arith, common_steps, has_signed ls k once, has_signed ls l once)

-- what a row does not have, the row lies beside
beside : (row ls : List Literal) (l : Literal) → row_distinct ls ≡ true → has_literal ls l ≡ true → has_literal row l ≡ false
    → each_literal (has_literal ls) row ≡ true → each_literal (has_literal (without l.variable ls)) row ≡ true
unfolding each_literal some_literal
beside [] ls l once there new all = refl
beside (k ∷ row) ls l once there new all = grind (arith, common_steps, stays ls l.variable k, one_of ls k l once, beside row ls l once there)

-- the first literal stands in its list
has_first : (l : Literal) (ls : List Literal) → has_literal (l ∷ ls) l ≡ true
unfolding some_literal
has_first l ls = grind (arith, common_steps)

-- a test that each literal of a list passes
each_from : (f : Literal → Bool) (ls : List Literal) → ((l : Literal) → has_literal ls l ≡ true → f l ≡ true) → each_literal f ls ≡ true
unfolding each_literal some_literal
each_from f [] all = refl
each_from f (l ∷ ls) all = grind (arith, common_steps, all l (has_first l ls), each_from f ls (λ k h. all k (or_right (same_literal k l) (some_literal (same_literal k) ls) h)))

-- what is as long as a list and lies in it has all its literals
covered : (row ls : List Literal) → row_distinct row ≡ true → row_distinct ls ≡ true → length row ≡ length ls
    → each_literal (has_literal ls) row ≡ true → each_literal (has_literal row) ls ≡ true
covered row ls once twice same all = each_from (has_literal row) ls (λ l there. grind (arith, common_steps, shorter ls l, fits row (without l.variable ls) once, beside row ls l twice there))

-- where the first is as long as the second and lies in it, and only there, they have the same literals
pub same_by_count : (row ls : List Literal) → row_distinct row ≡ true → row_distinct ls ≡ true
    → (eqb (length row) (length ls) && each_literal (has_literal ls) row) ≡ (each_literal (has_literal row) ls && each_literal (has_literal ls) row)
same_by_count row ls once twice = grind (arith, common_steps, cases_eq (length row) (length ls), covered row ls once twice, fits row ls once, fits ls row twice)
