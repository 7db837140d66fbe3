-- A list in sections, each with a head: blocks of variables, rows of literals.
use Rattle.std.specs.Prelude.{List, [], ◌∷◌, ◌++◌, refl}
use Rattle.std.specs.List.{flat_map}
use Rattle.std.specs.Coded.{Coded, code_by, coded×, coded_list}

pub record Section (H X : Type 0) : Type 0 where
  pub head : H
  pub items : List X

-- the complete sections, and the items of the one that is begun
pub record Sections (H X : Type 0) : Type 0 where
  pub complete : List (Section H X)
  pub begun : List X

-- a section is stored as the pair of its fields
abbrev pub section_code : {H X : Type 0} → Coded H → Coded X → Coded (Section H X)
section_code {H} {X} h x = code_by (H × List X) (coded× h (coded_list x)) (λ s. (s.head, s.items)) (λ p. record { head = p.0; items = p.1 }) (λ _. refl)

abbrev pub sections_code : {H X : Type 0} → Coded H → Coded X → Coded (Sections H X)
sections_code {H} {X} h x =
    code_by (List (Section H X) × List X) (coded× (coded_list (section_code h x)) (coded_list x)) (λ s. (s.complete, s.begun))
    (λ p. record { complete = p.0; begun = p.1 }) (λ _. refl)

module _ {H X : Type 0} where
  -- the items of some sections, one after another
  abbrev pub items_of : List (Section H X) → List X
  items_of ss = flat_map (λ (s : Section H X). s.items) ss

  abbrev pub all_items : Sections H X → List X
  all_items s = items_of s.complete ++ s.begun

  -- no section is complete, and the begun one has no item
  abbrev pub empty : Sections H X
  empty = record { complete = []; begun = [] }

  abbrev pub with_item : X → Sections H X → Sections H X
  with_item x s = record { complete = s.complete; begun = s.begun ++ x ∷ [] }

  abbrev pub with_section : H → Sections H X → Sections H X
  with_section h s = record { complete = s.complete ++ record { head = h; items = s.begun } ∷ []; begun = [] }
