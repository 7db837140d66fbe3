-- How sections are kept: their items one after another, and where each complete one ends among them.
use Rattle.std.specs.Prelude.{◌≡◌, ℕ, ◌≤◌, true, List, length, drop}
use Rattle.formula.specs.declared.sections.End.{End}
use Rattle.formula.specs.Cuts.{cut, last_end, climbs}
use Rattle.formula.specs.Sections.{Section, Sections}

abbrev pub end_of : {H : Type 0} → End H → ℕ
end_of e = e.end

module _ {H X : Type 0} where
  abbrev pub as_section : End H → List X → Section H X
  as_section e xs = record { head = e.head; items = xs }

  abbrev pub sections_in : List (End H) → List X → Sections H X
  sections_in ends xs = record { complete = cut end_of as_section 0 ends xs; begun = drop (last_end end_of 0 ends) xs }

  -- the complete sections do not overlap, and end within the items
  abbrev pub SectionsLie : List (End H) → List X → Type 0
  SectionsLie ends xs = (climbs end_of 0 ends ≡ true) × (last_end end_of 0 ends ≤ length xs)
