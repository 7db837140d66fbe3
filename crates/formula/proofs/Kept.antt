-- What a prefix of the code tells of what it holds. Assumes nothing.
use Rattle.std.proofs.Common.{◌≡◌, ℕ, ◌+◌, ◌<◌, ◌≤◌, true, false, not, [], ◌∷◌, ◌++◌, length, get_or, set, None, sym, refl, ap, ◌∙◌, ⊎_elim, arith}
use Rattle.std.proofs.lemmas.List.{get_or_past}
use Rattle.std.proofs.lemmas.Bool.{eqb-true, cases_lt}
use Rattle.std.proofs.lemmas.Bool.Decides.{nat_tests}
use Rattle.formula.specs.declared.prefix.Prefix.{Prefix}
use Rattle.formula.specs.Prefix.{LevelsTold, all_in_range, bound, in_range, level_so_far, marked, unbindable}
use Rattle.formula.specs.Sections.{all_items, with_item}
use Rattle.formula.specs.View.{prefix_of}
use Rattle.formula.proofs.SectionLemmas.{all_items-with_item, length_with_item}
use Rattle.formula.proofs.Blocks.{bindable, level_out, level_unbound, mark_left, marked_set, order_kept, range_push, var_levels}

module _ (p : Prefix) where
  level_past : (x : ℕ) → in_range p.variables x ≡ false → level_so_far (prefix_of p) x ≡ 0
  level_past x out =
      level_out (prefix_of p).blocks p.blocks.begun p.variables x
      (ap (λ l. all_in_range p.variables (l ++ p.blocks.begun)) (order_kept p.blocks.complete) ∙ p.range) out

  -- the marks are the levels, of whatever number
  pub mark_is : (x : ℕ) → get_or p.levels x 0 ≡ level_so_far (prefix_of p) x
  mark_is x =
      ⊎_elim (λ low. p.told x low)
      (λ high. get_or_past p.levels x 0 (omega (arith, p.each_level)) ∙ sym (level_past x (grind (arith, nat_tests))))
      (cases_lt x 1025)

  -- a level tells whether the variable is bound
  pub unbound_at : (x : ℕ) → level_so_far (prefix_of p) x ≡ 0 → bound (prefix_of p) x ≡ false
  unbound_at x none = grind (arith, nat_tests, level_unbound (prefix_of p).blocks p.blocks.begun x)

  pub bound_at : (x : ℕ) → (level_so_far (prefix_of p) x ≡ 0 → ⊥) → bound (prefix_of p) x ≡ true
  bound_at x some = grind (arith, nat_tests, level_unbound (prefix_of p).blocks p.blocks.begun x)

  -- ---- a variable that may be bound

  module _ (x : ℕ) (fine : unbindable x (prefix_of p) ≡ None) where
    low_of : (1 ≤ x) × (x < 1025)
    low_of = grind (arith, nat_tests)

    unmarked : get_or p.levels x 0 ≡ 0
    unmarked = mark_is x ∙ eqb-true _ 0 (level_unbound (prefix_of p).blocks p.blocks.begun x ∙ ap not (bindable x (prefix_of p) fine).1)

    -- there is a place for it
    pub place_left : length (all_items p.blocks) < 1024
    place_left =
        let none = mark_is 0 ∙ level_past 0 refl in
        omega (arith, p.count, mark_left p.levels 1024 x p.each_level low_of.0 (omega (arith, low_of.1)) none unmarked)

    pub range_kept : all_in_range p.variables (all_items (with_item x p.blocks)) ≡ true
    range_kept =
        ap (all_in_range p.variables) (all_items-with_item x p.blocks) ∙ range_push p.variables (all_items p.blocks) x p.range (bindable x (prefix_of p) fine).0

    pub told_kept : (level : ℕ) → level ≡ length (prefix_of p).blocks → LevelsTold (set p.levels x (level + 1)) (prefix_of p).blocks (p.blocks.begun ++ x ∷ [])
    told_kept level is = rw is (var_levels p.levels (prefix_of p).blocks p.blocks.begun p.told x p.each_level low_of.1 (bindable x (prefix_of p) fine).1)

    pub marked_kept : (level : ℕ) → (level ≡ 0 → ⊥) → marked (set p.levels x level) ≡ length (all_items (with_item x p.blocks))
    marked_kept level some =
        marked_set p.levels x level (omega (arith, low_of.1, p.each_level)) unmarked some
        ∙ omega (arith, p.count, length_with_item x p.blocks)
