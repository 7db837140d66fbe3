-- Why the words of a text are its parts between separators.
-- Each fact is shown of `words inside i bs`, where bs is the text from offset i on, byte by byte.
use Rattle.std.proofs.Common.{◌≡◌, ℕ, zero, suc, ◌+◌, ◌-◌, ◌<◌, ◌≤◌, Bool, true, false, cond, not, ◌⊎◌, List, [], ◌∷◌, length, get_or, take, drop, Some, sym, refl, ap, ◌∙◌, subst, inl, inr, ⊎_elim, add-one, arith}
use Rattle.std.proofs.lemmas.List.{length-drop, get_or-drop, get_or-take, drop-drop}
use Rattle.std.proofs.lemmas.Bool.{cases_lt, not-true, not-false, true≢false}
use Rattle.std.proofs.lemmas.List.Sums.{prefix_len_passes, prefix_len_stops}
use Rattle.words.proofs.Cut.{word_len, length_front, up_to_separator}
use Rattle.std.specs.List.{slice_get}
use Rattle.words.specs.Text.{separator, front, Word, words, words_from}
use Rattle.words.specs.Laws.{past, Part, Covered, WordsAreParts}

-- The front of a list: no separator stands in it, it begins the list, and a separator or the end follows it.
front_solid : (l : List ℕ) (k : ℕ) → k < length (front l) → separator (get_or (front l) k 0) ≡ false
front_solid l k h =
    let within : k < word_len l = omega (arith, length_front l) in
    ap (λ w. separator (get_or w k 0)) (sym (up_to_separator l)) ∙ ap separator (get_or-take (word_len l) l k 0 within)
    ∙ not-true _ (prefix_len_passes (λ b. not (separator b)) l k 0 within)

front_stands : (l : List ℕ) → take (length (front l)) l ≡ front l
front_stands l = ap (λ k. take k l) (length_front l) ∙ up_to_separator l

front_stops : (l : List ℕ) → length (front l) < length l → separator (get_or l (length (front l)) 0) ≡ true
front_stops l h = ap (λ k. separator (get_or l k 0)) (length_front l) ∙ not-false _ (prefix_len_stops (λ b. not (separator b)) l 0 (omega (arith, length_front l)))

-- the word that begins with the byte b at offset i
abbrev begun : ℕ → ℕ → List ℕ → Word
begun i b bs = record { at = i; bytes = b ∷ front bs }

-- the words from the byte b at offset i on, where s says whether b is a separator
abbrev words_by : Bool → Bool → ℕ → ℕ → List ℕ → List Word
words_by s inside i b bs = cond s (words false (i + 1) bs) (cond inside (words true (i + 1) bs) (begun i b bs ∷ words true (i + 1) bs))

module _ (text : List ℕ) where
  -- the text from offset i on begins with b and goes on with bs
  record At (i b : ℕ) (bs : List ℕ) : Type 0 where
    within : i < length text
    byte : get_or text i 0 ≡ b
    rest : drop (i + 1) text ≡ bs

  at : (i b : ℕ) (bs : List ℕ) → drop i text ≡ b ∷ bs → At i b bs
  at i b bs e = record {
    within = omega (arith, length-drop i text, ap length e);
    byte = let same : i + 0 ≡ i = omega arith in
        ap (λ k. get_or text k 0) (sym same) ∙ sym (get_or-drop i text 0 0) ∙ ap (λ l. get_or l 0 0) e;
    rest = sym (drop-drop 1 i text) ∙ ap (drop 1) e;
  }

  -- where no word goes on at offset i, the text begins there or a separator stands before it
  abbrev Free : Bool → ℕ → Type 0
  Free inside i = inside ≡ false → 0 < i → separator (get_or text (i - 1) 0) ≡ true

  free_after : (i : ℕ) (inside : Bool) → separator (get_or text i 0) ≡ true → Free inside (i + 1)
  free_after i inside e _ _ = let same : i + 1 - 1 ≡ i = omega arith in ap (λ k. separator (get_or text k 0)) same ∙ e

  -- the word that begins at offset i is such a part
  begun_part : (i b : ℕ) (bs : List ℕ) → drop i text ≡ b ∷ bs → separator b ≡ false → (0 < i → separator (get_or text (i - 1) 0) ≡ true) → Part text (begun i b bs)
  begun_part i b bs e solid before = record {
    some = omega arith;
    solid = subst (λ l. (k : ℕ) → k < length l → separator (get_or l k 0) ≡ false) same (front_solid (b ∷ bs));
    stands = subst (λ l. take (length l) (drop i text) ≡ l) same (ap (take (length (front (b ∷ bs)))) e ∙ front_stands (b ∷ bs));
    before = before;
    after = λ h. ap separator (sym (get_or-drop i text (length (b ∷ front bs)) 0) ∙ ap (λ l. get_or l (length (b ∷ front bs)) 0) e)
        ∙ subst (λ l. length l < length (b ∷ bs) → separator (get_or (b ∷ bs) (length l) 0) ≡ true) same (front_stops (b ∷ bs)) (omega (arith, length-drop i text, ap length e));
  }
    where
      same : front (b ∷ bs) ≡ b ∷ front bs
      same = ap (λ s. cond s [] (b ∷ front bs)) solid

  -- each word is such a part
  abbrev AllParts : List Word → Type 0
  AllParts ws = (k : ℕ) (w : Word) → slice_get ws k ≡ Some w → Part text w

  parts_step : (i b : ℕ) (bs : List ℕ) → drop i text ≡ b ∷ bs → ((inside : Bool) → Free inside (i + 1) → AllParts (words inside (i + 1) bs))
      → (s inside : Bool) → separator b ≡ s → Free inside i → AllParts (words_by s inside i b bs)
  parts_step i b bs e more true inside sep free k w m = more false (free_after i false (ap separator (at i b bs e).byte ∙ sep)) k w m
  parts_step i b bs e more false true sep free k w m = more true (λ no. absurd (true≢false no)) k w m
  parts_step i b bs e more false false sep free zero w m = let is : begun i b bs ≡ w = cc in subst (Part text) is (begun_part i b bs e sep (free refl))
  parts_step i b bs e more false false sep free (suc k) w m = more true (λ no. absurd (true≢false no)) k w m

  parts : (bs : List ℕ) (i : ℕ) → drop i text ≡ bs → (inside : Bool) → Free inside i → AllParts (words inside i bs)
  parts [] i e inside free k w m = cc
  parts (b ∷ bs) i e inside free k w m = parts_step i b bs e (parts bs (i + 1) (at i b bs e).rest) (separator b) inside refl free k w m

  -- a byte from offset i on that is no separator lies in a word that begins there, or in one that goes on there
  abbrev Reached : List Word → Bool → ℕ → List ℕ → ℕ → Type 0
  Reached ws inside i front_here j = Covered ws j ⊎ ((inside ≡ true) × (j < i + length front_here))

  covered_later : (w : Word) (ws : List Word) (j : ℕ) → Covered ws j → Covered (w ∷ ws) j
  covered_later w ws j (k, v, m, low, high) = (suc k, v, m, low, high)

  covered_step : (i b : ℕ) (bs : List ℕ) (j : ℕ) → get_or text i 0 ≡ b → separator (get_or text j 0) ≡ false
      → ((inside : Bool) → i + 1 ≤ j → Reached (words inside (i + 1) bs) inside (i + 1) (front bs) j)
      → (s inside : Bool) → separator b ≡ s → i ≤ j → Reached (words_by s inside i b bs) inside i (cond s [] (b ∷ front bs)) j
  covered_step i b bs j byte solid more true inside sep h =
      ⊎_elim
      (λ later. ⊎_elim inl (λ r. absurd (true≢false (sym r.0))) (more false (omega arith)))
      (λ here. let same : i ≡ j = omega arith in
      absurd (true≢false (sym sep ∙ ap separator (sym byte) ∙ ap (λ k. separator (get_or text k 0)) same ∙ solid)))
      (cases_lt i j)
  covered_step i b bs j byte solid more false true sep h =
      ⊎_elim
      (λ later. ⊎_elim inl (λ r. inr (refl, omega (arith, r.1))) (more true (omega arith)))
      (λ here. inr (refl, omega arith))
      (cases_lt i j)
  covered_step i b bs j byte solid more false false sep h =
      ⊎_elim
      (λ later. ⊎_elim (λ c. inl (covered_later (begun i b bs) _ j c)) (λ r. inl (zero, begun i b bs, refl, h, omega (arith, r.1))) (more true (omega arith)))
      (λ here. inl (zero, begun i b bs, refl, h, omega arith))
      (cases_lt i j)

  covered : (bs : List ℕ) (i : ℕ) → drop i text ≡ bs → (inside : Bool) (j : ℕ) → i ≤ j → j < length text → separator (get_or text j 0) ≡ false
      → Reached (words inside i bs) inside i (front bs) j
  covered [] i e inside j h below solid = absurd (omega (arith, length-drop i text, ap length e))
  covered (b ∷ bs) i e inside j h below solid =
      covered_step i b bs j (at i b bs e).byte solid (λ inside h. covered bs (i + 1) (at i b bs e).rest inside j h below solid) (separator b) inside refl h

-- each word lies from offset i on, and after a word that goes on there
abbrev Later : Bool → ℕ → List ℕ → List Word → Type 0
Later inside i front_here ws = (k : ℕ) (w : Word) → slice_get ws k ≡ Some w → cond inside (i + length front_here < w.at) (i ≤ w.at)

later_step : (i b : ℕ) (bs : List ℕ) → ((inside : Bool) → Later inside (i + 1) (front bs) (words inside (i + 1) bs))
    → (s inside : Bool) → Later inside i (cond s [] (b ∷ front bs)) (words_by s inside i b bs)
later_step i b bs more true true k w m = omega (arith, more false k w m)
later_step i b bs more true false k w m = omega (arith, more false k w m)
later_step i b bs more false true k w m = omega (arith, more true k w m)
later_step i b bs more false false zero w m = let is : begun i b bs ≡ w = cc in omega (arith, ap (λ (v : Word). v.at) is)
later_step i b bs more false false (suc k) w m = omega (arith, more true k w m)

later : (bs : List ℕ) (i : ℕ) (inside : Bool) → Later inside i (front bs) (words inside i bs)
later [] i inside k w m = cc
later (b ∷ bs) i inside k w m = later_step i b bs (later bs (i + 1)) (separator b) inside k w m

-- each word lies after the one before it
abbrev Ordered : List Word → Type 0
Ordered ws = (k : ℕ) (v w : Word) → slice_get ws k ≡ Some v → slice_get ws (suc k) ≡ Some w → past v < w.at

ordered_step : (i b : ℕ) (bs : List ℕ) → ((inside : Bool) → Ordered (words inside (i + 1) bs)) → (s inside : Bool) → Ordered (words_by s inside i b bs)
ordered_step i b bs more true inside k v w m n = more false k v w m n
ordered_step i b bs more false true k v w m n = more true k v w m n
ordered_step i b bs more false false zero v w m n =
    let is : begun i b bs ≡ v = cc in omega (arith, later bs (i + 1) true zero w n, ap past is)
ordered_step i b bs more false false (suc k) v w m n = more true k v w m n

ordered : (bs : List ℕ) (i : ℕ) (inside : Bool) → Ordered (words inside i bs)
ordered [] i inside k v w m n = cc
ordered (b ∷ bs) i inside k v w m n = ordered_step i b bs (ordered bs (i + 1)) (separator b) inside k v w m n

pub words_are_parts : WordsAreParts
words_are_parts text = record {
  parts = parts text text 0 refl false (λ _ h. absurd (omega arith));
  covered = λ i below solid. ⊎_elim (λ c. c) (λ r. absurd (true≢false (sym r.0))) (covered text text 0 refl false i (omega arith) below solid);
  ordered = λ k v w m n. ordered text 0 false k v w m (ap (slice_get (words_from text 0)) (sym (add-one k)) ∙ n);
}
