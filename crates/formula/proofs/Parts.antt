-- A list cut into parts, as it and its cuts grow. Assumes nothing.
use Rattle.std.proofs.Common.{◌≡◌, ℕ, zero, suc, ◌+◌, ◌-◌, ◌<◌, ◌≤◌, true, leb, List, [], ◌∷◌, ◌++◌, length, get_or, take, drop, Some, sym, refl, ap, ◌∙◌, ap₂, arith}
use Rattle.std.specs.List.{slice_get, flat_map}
use Rattle.std.specs.Option.{option_map_or}
use Rattle.std.proofs.lemmas.List.{take-append-le, drop-append-le, length-drop, drop-drop, take-take, drop-take, take_more}
use Rattle.std.proofs.lemmas.Bool.{and_parts, and_from, leb-true, le-leb}
use Rattle.formula.specs.Cuts.{part, last_end, climbs, cut}

module _ {X : Type 0} where
  part_grown : (a b : ℕ) (xs ys : List X) → a ≤ b → b ≤ length xs → part a b (xs ++ ys) ≡ part a b xs
  part_grown a b xs ys low high =
      ap (take (b - a)) (drop-append-le a xs ys (omega arith)) ∙ take-append-le (b - a) (drop a xs) ys (simp length-drop (omega arith))

  -- a part, and the part behind it
  part_joined : (a b c : ℕ) (xs : List X) → a ≤ b → b ≤ c → part a b xs ++ part b c xs ≡ part a c xs
  part_joined a b c xs low high =
      let near : b ≡ a + (b - a) = omega arith in
      let far : c - b ≡ (c - a) - (b - a) = omega arith in
      ap (λ l. take (b - a) (drop a xs) ++ l) (ap₂ take far (ap (λ n. drop n xs) near ∙ sym (drop-drop (b - a) a xs))) ∙ split (b - a) (c - a) (drop a xs) (omega arith)
    where
      split : (m n : ℕ) (zs : List X) → m ≤ n → take m zs ++ take (n - m) (drop m zs) ≡ take n zs
      split zero n zs h = ap (λ k. take k zs) (omega arith)
      split (suc m) zero zs h = absurd (omega arith)
      split (suc m) (suc n) [] h = none (suc n - suc m)
        where
          none : (k : ℕ) → take {A = X} k [] ≡ []
          none zero = refl
          none (suc k) = refl
      split (suc m) (suc n) (z ∷ zs) h = let less : suc n - suc m ≡ n - m = omega arith in
          ap (λ k. z ∷ (take m zs ++ take k (drop m zs))) less ∙ ap (λ l. z ∷ l) (split m n zs (omega arith))

  -- a part of a front that holds it
  pub part_taken : (a b n : ℕ) (xs : List X) → a ≤ b → b ≤ n → part a b (take n xs) ≡ part a b xs
  part_taken a b n xs low high =
      let far : a + (n - a) ≡ n = omega arith in
      ap (take (b - a)) (ap (λ k. drop a (take k xs)) (sym far) ∙ drop-take a (n - a) xs) ∙ take-take (b - a) (n - a) (drop a xs) (omega arith)

module _ {E : Type 0} (end : E → ℕ) where
  -- the parts do not end before they begin
  pub last_above : (at : ℕ) (es : List E) → climbs end at es ≡ true → at ≤ last_end end at es
  last_above at [] up = omega arith
  last_above at (e ∷ es) up =
      let both = and_parts (leb at (end e)) (climbs end (end e) es) up in
      omega (arith, leb-true at (end e) both.0, last_above (end e) es both.1)

  pub last_push : (at : ℕ) (es : List E) (e : E) → last_end end at (es ++ e ∷ []) ≡ end e
  last_push at [] e = refl
  last_push at (d ∷ es) e = last_push (end d) es e

  last_more : (at : ℕ) (e : E) (es : List E) → last_end end (end e) es ≡ option_map_or end (slice_get (e ∷ es) (length es)) at
  last_more at e [] = refl
  last_more at e (d ∷ es) = last_more at d es

  -- the last entry tells where the last part ends
  pub last_or : (at : ℕ) (es : List E) → last_end end at es ≡ option_map_or end (slice_get es (length es - 1)) at
  last_or at [] = refl
  last_or at (e ∷ es) = last_more at e es ∙ ap (λ n. option_map_or end (slice_get (e ∷ es) n) at) {x = length es} {y = suc (length es) - 1} (omega arith)

  -- where the part before the one at k + 1 ends
  pub last_at : (at : ℕ) (es : List E) (k : ℕ) (d : E) → k < length es → last_end end at (take (k + 1) es) ≡ end (get_or es k d)
  last_at at es k d low = ap (last_end end at) (take_more es k d low) ∙ last_push at (take k es) (get_or es k d)

  -- a part begins where the one before ends, and ends before the last one does
  pub climbs_at : (at : ℕ) (es : List E) (k : ℕ) (d : E) → climbs end at es ≡ true → k < length es
      → (last_end end at (take k es) ≤ end (get_or es k d)) × (end (get_or es k d) ≤ last_end end at es)
  climbs_at at [] k d up low = absurd (omega arith)
  climbs_at at (e ∷ es) zero d up low =
      let both = and_parts (leb at (end e)) (climbs end (end e) es) up in
      (leb-true at (end e) both.0, last_above (end e) es both.1)
  climbs_at at (e ∷ es) (suc k) d up low =
      let both = and_parts (leb at (end e)) (climbs end (end e) es) up in
      climbs_at (end e) es k d both.1 (omega arith)

  -- the first parts lie as all do
  pub climbs_front : (k at : ℕ) (es : List E) → climbs end at es ≡ true → (climbs end at (take k es) ≡ true) × (last_end end at (take k es) ≤ last_end end at es)
  climbs_front zero at es up = (refl, last_above at es up)
  climbs_front (suc k) at [] up = (refl, omega arith)
  climbs_front (suc k) at (e ∷ es) up =
      let both = and_parts (leb at (end e)) (climbs end (end e) es) up in
      let rest = climbs_front k (end e) es both.1 in
      (and_from _ _ both.0 rest.0, rest.1)

  pub climbs_push : (at : ℕ) (es : List E) (e : E) → climbs end at es ≡ true → last_end end at es ≤ end e → climbs end at (es ++ e ∷ []) ≡ true
  climbs_push at [] e up low = and_from _ _ (le-leb at (end e) low) refl
  climbs_push at (d ∷ es) e up low =
      let both = and_parts (leb at (end d)) (climbs end (end d) es) up in
      and_from _ _ both.0 (climbs_push (end d) es e both.1 low)

  module _ {X Y : Type 0} (make : E → List X → Y) where
    -- more elements behind the parts
    pub cut_grown : (at : ℕ) (es : List E) (xs ys : List X) → climbs end at es ≡ true → last_end end at es ≤ length xs → cut end make at es (xs ++ ys) ≡ cut end make at es xs
    cut_grown at [] xs ys up high = refl
    cut_grown at (e ∷ es) xs ys up high =
        let both = and_parts (leb at (end e)) (climbs end (end e) es) up in
        ap₂ ◌∷◌
        (ap (make e) (part_grown at (end e) xs ys (leb-true at (end e) both.0) (omega (arith, last_above (end e) es both.1))))
        (cut_grown (end e) es xs ys both.1 high)

    -- one part more
    pub cut_push : (at : ℕ) (es : List E) (e : E) (xs : List X) → cut end make at (es ++ e ∷ []) xs ≡ cut end make at es xs ++ make e (part (last_end end at es) (end e) xs) ∷ []
    cut_push at [] e xs = refl
    cut_push at (d ∷ es) e xs = ap (λ l. make d (part at (end d) xs) ∷ l) (cut_push (end d) es e xs)

    pub take_cut : (k at : ℕ) (es : List E) (xs : List X) → take k (cut end make at es xs) ≡ cut end make at (take k es) xs
    take_cut zero at es xs = refl
    take_cut (suc k) at [] xs = refl
    take_cut (suc k) at (e ∷ es) xs = ap (λ l. make e (part at (end e) xs) ∷ l) (take_cut k (end e) es xs)

    pub length_cut : (at : ℕ) (es : List E) (xs : List X) → length (cut end make at es xs) ≡ length es
    length_cut at [] xs = refl
    length_cut at (e ∷ es) xs = ap suc (length_cut (end e) es xs)

    -- the parts together
    pub joined_cut : (f : Y → List X) → ((e : E) (xs : List X) → f (make e xs) ≡ xs) → (at : ℕ) (es : List E) (xs : List X)
        → climbs end at es ≡ true → flat_map f (cut end make at es xs) ≡ part at (last_end end at es) xs
    joined_cut f is at [] xs up = sym (ap (λ n. take n (drop at xs)) {x = at - at} {y = 0} (omega arith))
    joined_cut f is at (e ∷ es) xs up =
        let both = and_parts (leb at (end e)) (climbs end (end e) es) up in
        ap₂ ◌++◌ (is e (part at (end e) xs)) (joined_cut f is (end e) es xs both.1)
        ∙ part_joined at (end e) (last_end end (end e) es) xs (leb-true at (end e) both.0) (last_above (end e) es both.1)

    -- the part at k
    pub nth_cut : (at : ℕ) (es : List E) (xs : List X) (k : ℕ) (d : E) → k < length es
        → slice_get (cut end make at es xs) k ≡ Some (make (get_or es k d) (part (last_end end at (take k es)) (end (get_or es k d)) xs))
    nth_cut at [] xs k d low = absurd (omega arith)
    nth_cut at (e ∷ es) xs zero d low = refl
    nth_cut at (e ∷ es) xs (suc k) d low = nth_cut (end e) es xs k d (omega arith)
