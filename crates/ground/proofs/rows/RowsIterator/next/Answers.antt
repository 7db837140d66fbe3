use Rattle.std.proofs.Common.{◌≡◌, ℕ, suc, ◌+◌, ◌-◌, ◌<◌, List, [], ◌∷◌, take, drop, Some, None, Option, Bor, MatchOption, slice_get, slice_index_or, slice_range, sym, ap, ◌∙◌, arith, rules}
use Rattle.std.specs.Option.{option_map}
use Rattle.std.proofs.lemmas.Grind.{common_steps}
use Rattle.std.proofs.lemmas.List.{at_drop_more}
use Rattle.std.proofs.lemmas.Option.{gets, get_or_from_slice_get, slice_get_within}
use Rattle.formula.specs.declared.letter.Literal.{Literal}
use Rattle.ground.proofs.rows.RowsIterator.next.Goals as goal

-- the row at a place is the first of those from the place on
first_row : (rows : List (List Literal)) (a b : ℕ) (row : Option (Bor (List Literal))) → a < b → option_map (λ s. s.now) row ≡ slice_get rows a
    → MatchOption row ((slice_range rows a b ≡ []) × (slice_range rows (a + 1) b ≡ [])) (λ s. slice_range rows a b ≡ s.now ∷ slice_range rows (a + 1) b)
first_row rows a b None more is = grind (arith, common_steps, gets)
first_row rows a b (Some row) more is =
    let e : b - a ≡ suc (b - (a + 1)) = omega arith in
    at_drop_more (take (b - a)) rows a row.now (slice_get_within rows a row.now (sym is))
    ∙ ap (λ n. take n (slice_index_or rows a row.now ∷ drop (a + 1) rows)) e
    ∙ ap (λ r. r ∷ slice_range rows (a + 1) b) (get_or_from_slice_get rows a row.now row.now (sym is))

pub returns-clause-steps : goal.returns-clause-steps
returns-clause-steps g c = search (rules, first_row)
