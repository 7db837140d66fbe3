-- A table that was pushed to, as an array that was set.
use Rattle.std.proofs.Common.{◌≡◌, ℕ, ◌+◌, ◌<◌, List, [], ◌∷◌, ◌++◌, length, take, drop, set, sym, ap, ◌∙◌, ap₂, add-one, arith, length-drop}
use Rattle.std.proofs.lemmas.List.{take-append-drop, set_split, append_assoc, drop-drop}
use Rattle.table.specs.declared.slab.Table.{Table}
use Rattle.table.specs.Entries.{entries, free, Grown}

module _ {T : Type 0} (slots : List T) (len : ℕ) (view : Table T) (memory : view.slots.now ≡ slots) (size : view.len ≡ len) where
  was : entries view ≡ take len slots
  was = ap₂ take size memory

  was_free : free view ≡ drop len slots
  was_free = ap₂ drop size memory

  pub room : len < length slots → 0 < length (free view)
  room within = omega (arith, ap length was_free, length-drop len slots)

  pub put : {done : Table T} (x : T) (after : List T) → after ≡ done.slots.now → len < length slots → Grown view (x ∷ []) done → after ≡ set slots len x
  put {done} x after seen within grown =
      seen ∙ sym (take-append-drop done.len done.slots.now)
      ∙ ap₂ ◌++◌ (grown.longer ∙ ap (λ l. l ++ x ∷ []) was) (grown.rest ∙ ap (drop 1) was_free ∙ drop-drop 1 len slots)
      ∙ append_assoc (take len slots) (x ∷ []) (drop (len + 1) slots)
      ∙ ap (λ n. take len slots ++ x ∷ drop n slots) (add-one len)
      ∙ sym (set_split slots len x within)
