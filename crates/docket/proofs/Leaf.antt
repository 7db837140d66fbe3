-- The literals of a leaf as marks.
use Rattle.std.proofs.Common.{◌≡◌, ℕ, true, ltb, List, [], ◌∷◌, map, length, refl, ap, ◌∙◌}
use Rattle.std.proofs.lemmas.Bool.{and_parts, and_from}
use Rattle.std.proofs.lemmas.List.{length-map}
use Rattle.formula.specs.declared.letter.Literal.{Literal}
use Rattle.game.specs.Leaves.{entry_from, rising, marked}
use Rattle.docket.specs.Stored.{rises}

pub marked_map : (ls : List Literal) → marked ls ≡ map entry_from ls
unfolding marked
marked_map [] = refl
marked_map (l ∷ ls) = ap (λ r. entry_from l ∷ r) (marked_map ls)

pub length_marked : (ls : List Literal) → length (marked ls) ≡ length ls
length_marked ls = ap length (marked_map ls) ∙ length-map ls entry_from

-- literals that rise are a record that rises
pub marked_rises : (a : ℕ) (ls : List Literal) → rising a ls ≡ true → rises a (marked ls) ≡ true
unfolding rising rises marked
marked_rises a [] up = refl
marked_rises a (l ∷ ls) up =
    let both = and_parts (ltb a l.variable) (rising l.variable ls) up in
    and_from _ _ both.0 (marked_rises l.variable ls both.1)
