-- Sections as they are kept, as they and their items grow. Assumes nothing.
use Rattle.std.proofs.Common.{◌≡◌, ℕ, zero, suc, ◌+◌, ◌-◌, ◌<◌, ◌≤◌, true, List, [], ◌∷◌, ◌++◌, length, get_or, take, drop, Some, sym, refl, ap, ◌∙◌, ap₂, append_assoc, append-nil, length-append, arith}
use Rattle.std.specs.List.{slice_get, slice_range}
use Rattle.std.specs.Option.{option_map}
use Rattle.std.proofs.lemmas.List.{length-take-le, drop-append-le, drop_all, take_rest, take-append-drop, flat_map_more}
use Rattle.std.proofs.lemmas.Option.{slice_get_within, get_or_from_slice_get}
use Rattle.formula.specs.declared.sections.End.{End}
use Rattle.formula.specs.Cuts.{cut, part, last_end, climbs}
use Rattle.formula.specs.Ends.{end_of, as_section, sections_in, SectionsLie}
use Rattle.formula.specs.Sections.{Section, Sections, items_of, all_items, with_item, with_section}
use Rattle.formula.proofs.Parts.{cut_grown, cut_push, take_cut, length_cut, joined_cut, nth_cut, last_push, climbs_push, climbs_front, climbs_at}

module _ {H X : Type 0} where
  pub all_items-with_item : (x : X) (s : Sections H X) → all_items (with_item x s) ≡ all_items s ++ x ∷ []
  all_items-with_item x s = sym (append_assoc (items_of s.complete) s.begun (x ∷ []))

  pub length_with_item : (x : X) (s : Sections H X) → length (all_items (with_item x s)) ≡ length (all_items s) + 1
  length_with_item x s = omega (arith, ap length (all_items-with_item x s), length-append (all_items s) (x ∷ []))

  pub all_items-with_section : (h : H) (s : Sections H X) → all_items (with_section h s) ≡ all_items s
  all_items-with_section h s =
      append-nil (items_of (s.complete ++ record { head = h; items = s.begun } ∷ []))
      ∙ sym (flat_map_more (λ (t : Section H X). t.items) [] s.complete (record { head = h; items = s.begun }))

  pub length_with_section : (h : H) (s : Sections H X) → length (all_items (with_section h s)) ≡ length (all_items s)
  length_with_section h s = ap length (all_items-with_section h s)

  -- ---- sections as they are kept

  pub count_kept : (ends : List (End H)) (xs : List X) → length (sections_in ends xs).complete ≡ length ends
  count_kept ends xs = length_cut end_of as_section 0 ends xs

  head_in : (at : ℕ) (ends : List (End H)) (xs : List X) (i : ℕ)
      → option_map (λ (s : Section H X). s.head) (slice_get (cut end_of as_section at ends xs) i) ≡ option_map (λ (e : End H). e.head) (slice_get ends i)
  head_in at [] xs i = refl
  head_in at (e ∷ es) xs zero = refl
  head_in at (e ∷ es) xs (suc i) = head_in e.end es xs i

  -- the head of a section
  pub head_kept : (ends : List (End H)) (xs : List X) (i : ℕ)
      → option_map (λ (s : Section H X). s.head) (slice_get (sections_in ends xs).complete i) ≡ option_map (λ (e : End H). e.head) (slice_get ends i)
  head_kept ends xs i = head_in 0 ends xs i

  joined : (ends : List (End H)) (xs : List X) → climbs end_of 0 ends ≡ true → items_of (sections_in ends xs).complete ≡ take (last_end end_of 0 ends) xs
  joined ends xs up =
      joined_cut end_of as_section (λ (s : Section H X). s.items) (λ _ _. refl) 0 ends xs up
      ∙ ap (λ n. take n xs) {x = last_end end_of 0 ends - 0} {y = last_end end_of 0 ends} (omega arith)

module _ {H X : Type 0} (ends : List (End H)) (xs : List X) (lie : SectionsLie ends xs) where
  -- where a section begins
  pub start_kept : (i : ℕ) → last_end end_of 0 (take i ends) ≡ length (items_of (take i (sections_in ends xs).complete))
  start_kept i =
      let front = climbs_front end_of i 0 ends lie.0 in
      sym
      (
      ap (λ ss. length (items_of ss)) (take_cut end_of as_section i 0 ends xs) ∙ ap length (joined (take i ends) xs front.0)
      ∙ length-take-le _ xs (omega (arith, front.1, lie.1))
      )

  -- the items of the complete sections
  pub complete_kept : items_of (sections_in ends xs).complete ≡ take (last_end end_of 0 ends) xs
  complete_kept = joined ends xs lie.0

  pub all_kept : all_items (sections_in ends xs) ≡ xs
  all_kept = ap (λ l. l ++ drop (last_end end_of 0 ends) xs) complete_kept ∙ take-append-drop (last_end end_of 0 ends) xs

  -- one item more
  pub item_more : (x : X) → sections_in ends (xs ++ x ∷ []) ≡ with_item x (sections_in ends xs)
  item_more x =
      ap₂ (λ (ss : List (Section H X)) (b : List X). record { complete = ss; begun = b })
      (cut_grown end_of as_section 0 ends xs (x ∷ []) lie.0 lie.1)
      (drop-append-le (last_end end_of 0 ends) xs (x ∷ []) lie.1)

  -- one section more
  pub section_more : (h : H) → sections_in (ends ++ record { head = h; end = length xs } ∷ []) xs ≡ with_section h (sections_in ends xs)
  section_more h =
      ap₂ (λ (ss : List (Section H X)) (b : List X). record { complete = ss; begun = b })
      (cut_push end_of as_section 0 ends (record { head = h; end = length xs }) xs
      ∙ ap (λ r. cut end_of as_section 0 ends xs ++ record { head = h; items = r } ∷ []) (take_rest xs (last_end end_of 0 ends)))
      (ap (λ n. drop n xs) (last_push end_of 0 ends (record { head = h; end = length xs })) ∙ drop_all (length xs) xs (omega arith))

  pub section_lies : (h : H) → SectionsLie (ends ++ record { head = h; end = length xs } ∷ []) xs
  section_lies h =
      (climbs_push end_of 0 ends (record { head = h; end = length xs }) lie.0 lie.1, omega (arith, last_push end_of 0 ends (record { head = h; end = length xs })))

  module _ (i from : ℕ) (e : End H) (there : slice_get ends i ≡ Some e) (start : from ≡ length (items_of (take i (sections_in ends xs).complete))) where
    low : i < length ends
    low = slice_get_within ends i e there

    is : get_or ends i e ≡ e
    is = get_or_from_slice_get ends i e e there

    begins : last_end end_of 0 (take i ends) ≡ from
    begins = start_kept i ∙ sym start

    -- a section lies within the items
    pub section_within : (from ≤ e.end) × (e.end ≤ length xs)
    section_within =
        let up = climbs_at end_of 0 ends i e lie.0 low in
        (omega (arith, begins, up.0, ap end_of is), omega (arith, up.1, lie.1, ap end_of is))

    -- its items
    pub section_kept : Some (slice_range xs from e.end) ≡ option_map (λ (s : Section H X). s.items) (slice_get (sections_in ends xs).complete i)
    section_kept =
        ap₂ (λ (n : ℕ) (d : End H). Some (part n d.end xs)) (sym begins) (sym is)
        ∙ sym (ap (option_map (λ (s : Section H X). s.items)) (nth_cut end_of as_section 0 ends xs i e low))
