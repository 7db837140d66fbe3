-- Rows as they are kept: one literal more, and how many there are. Assumes nothing.
use Rattle.std.proofs.Common.{◌≡◌, ℕ, ◌+◌, ◌<◌, ◌||◌, eqb, List, [], ◌∷◌, ◌++◌, length, set, replicate, None, sym, refl, ap, ◌∙◌, ⊎_elim, arith}
use Rattle.std.proofs.lemmas.List.{get_or-replicate, get_or-set_same, get_or-set_other, length-append}
use Rattle.std.proofs.Math.Bool.{or-false, or_assoc}
use Rattle.std.proofs.lemmas.Bool.Decides.{nat_tests}
use Rattle.std.proofs.lemmas.Bool.{cases_eq}
use Rattle.formula.specs.declared.letter.Literal.{Literal}
use Rattle.formula.specs.Sections.{Section, Sections, all_items, items_of}
use Rattle.formula.specs.Matrix.{names, rows_in, MarksTold, all_literals, MatrixModel, forbidden}

-- no variable has a mark
pub no_marks : MarksTold (replicate 1025 0) 0 []
no_marks x h = let is = get_or-replicate 1025 x 0 0 h in (ap (λ k. eqb k 1) is, omega (arith, is))

names_push : (ls : List Literal) (l : Literal) (x : ℕ) → names (ls ++ l ∷ []) x ≡ (names ls x || eqb l.variable x)
names_push [] l x = or-false (eqb l.variable x)
names_push (k ∷ ls) l x = ap (λ b. eqb k.variable x || b) (names_push ls l x) ∙ sym (or_assoc (eqb k.variable x) (names ls x) (eqb l.variable x))

-- one literal more
pub literal_marks : (seen : List ℕ) (rows : ℕ) (begun : List Literal) (l : Literal) → length seen ≡ 1025 → l.variable < 1025 → MarksTold seen rows begun
    → MarksTold (set seen l.variable (rows + 1)) rows (begun ++ l ∷ [])
literal_marks seen rows begun l size fits told x h =
    let named = names_push begun l x in
    let there = told x h in
    ⊎_elim
    (λ (same : x ≡ l.variable). let is = get_or-set_same seen l.variable (rows + 1) 0 (omega arith) in grind (arith, nat_tests))
    (λ (other : x ≡ l.variable → ⊥). let is = get_or-set_other seen l.variable x (rows + 1) 0 other in grind (arith, nat_tests))
    (cases_eq x l.variable)

-- the literals of the complete rows
pub literals_kept : (ss : List (Section (Unit {0}) Literal)) → all_literals (rows_in ss) ≡ items_of ss
literals_kept [] = refl
literals_kept (s ∷ ss) = ap (λ l. s.items ++ l) (literals_kept ss)

-- how many literals there are
pub literal_total : (rows : Sections (Unit {0}) Literal) → length (all_literals (rows_in rows.complete)) + length rows.begun ≡ length (all_items rows)
literal_total rows = omega (arith, ap length (literals_kept rows.complete), length-append (items_of rows.complete) rows.begun)

-- the number of a literal that nothing forbids
pub fitting : (l : Literal) (m : MatrixModel) → forbidden l m ≡ None → l.variable < 1025
fitting l m fine = grind (arith, nat_tests)
