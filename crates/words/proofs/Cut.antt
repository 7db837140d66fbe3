-- How a text is cut: into what stands in front of a word, the word, and what is left behind it.
use Rattle.std.proofs.Common.{◌≡◌, ℕ, ◌+◌, ◌-◌, ◌<◌, ◌≤◌, Bool, true, false, cond, not, ◌==◌, List, [], ◌∷◌, map, length, take, drop, sym, ap, subst, refl, ◌∙◌, add-zero, arith}
use Rattle.std.proofs.lemmas.Bool.{cond-true, cond-false}
use Rattle.std.proofs.lemmas.List.{drop-drop, length-drop, take_rest}
use Rattle.std.proofs.lemmas.List.Folds.{length-prefix_len}
use Rattle.std.proofs.lemmas.List.Sums.{prefix_len-le-length}
use Rattle.std.specs.List.{prefix_len, take_while}
use Rattle.words.specs.Text.{separator, front, from_word, from_line_end, Word, words, words_from, lexeme, placed, tokens_from}

-- how many bytes stand in front of the first word, of the first separator, and of the first line's end
abbrev pub gap : List ℕ → ℕ
gap bs = prefix_len separator bs

abbrev pub word_len : List ℕ → ℕ
word_len bs = prefix_len (λ b. not (separator b)) bs

abbrev pub line_len : List ℕ → ℕ
line_len bs = prefix_len (λ b. not (b == 10)) bs

-- the cuts stand there
pub behind_gap : (bs : List ℕ) → drop (gap bs) bs ≡ from_word bs
behind_gap [] = refl
behind_gap (b ∷ bs) = by (behind_gap bs) (separator b)
  where
    by : drop (gap bs) bs ≡ from_word bs → (s : Bool) → drop (cond s (1 + gap bs) 0) (b ∷ bs) ≡ cond s (from_word bs) (b ∷ bs)
    by more true = grind arith
    by more false = refl

pub up_to_separator : (bs : List ℕ) → take (word_len bs) bs ≡ front bs
up_to_separator [] = refl
up_to_separator (b ∷ bs) = by (up_to_separator bs) (separator b)
  where
    by : take (word_len bs) bs ≡ front bs → (s : Bool) → take (cond (not s) (1 + word_len bs) 0) (b ∷ bs) ≡ cond s [] (b ∷ front bs)
    by more true = refl
    by more false = grind arith

pub behind_line : (bs : List ℕ) → drop (line_len bs) bs ≡ from_line_end bs
behind_line [] = refl
behind_line (b ∷ bs) = by (behind_line bs) (b == 10)
  where
    by : drop (line_len bs) bs ≡ from_line_end bs → (s : Bool) → drop (cond (not s) (1 + line_len bs) 0) (b ∷ bs) ≡ cond s (b ∷ bs) (from_line_end bs)
    by more true = refl
    by more false = grind arith

-- the same as the code counts those bytes
module _ (bs : List ℕ) (n : ℕ) where
  counted : (test : ℕ → Bool) → n ≡ length (take_while test bs) → n ≡ prefix_len test bs
  counted test is = is ∙ length-prefix_len test bs

  pub from_word_cut : n ≡ length (take_while separator bs) → take (length bs - n) (drop n bs) ≡ from_word bs
  from_word_cut is = take_rest bs n ∙ ap (λ k. drop k bs) (counted separator is) ∙ behind_gap bs

  pub front_cut : n ≡ length (take_while (λ b. not (separator b)) bs) → take n bs ≡ front bs
  front_cut is = ap (λ k. take k bs) (counted (λ b. not (separator b)) is) ∙ up_to_separator bs

  pub line_end_cut : n ≡ length (take_while (λ b. not (b == 10)) bs) → take (length bs - n) (drop n bs) ≡ from_line_end bs
  line_end_cut is = take_rest bs n ∙ ap (λ k. drop k bs) (counted (λ b. not (b == 10)) is) ∙ behind_line bs

pub gap_short : (bs : List ℕ) → gap bs ≤ length bs
gap_short bs = prefix_len-le-length separator bs

pub length-from_word : (bs : List ℕ) → length (from_word bs) ≡ length bs - gap bs
length-from_word bs = ap length (sym (behind_gap bs)) ∙ length-drop (gap bs) bs

pub length_front : (bs : List ℕ) → length (front bs) ≡ word_len bs
length_front bs = ap length (sym (up_to_separator bs)) ∙ length-prefix_len (λ b. not (separator b)) bs

pub front_short : (bs : List ℕ) → length (front bs) ≤ length bs
front_short bs = omega (arith, length_front bs, prefix_len-le-length (λ b. not (separator b)) bs)

pub line_short : (bs : List ℕ) → line_len bs ≤ length bs
line_short bs = prefix_len-le-length (λ b. not (b == 10)) bs

pub length-from_line_end : (bs : List ℕ) → length (from_line_end bs) ≡ length bs - line_len bs
length-from_line_end bs = ap length (sym (behind_line bs)) ∙ length-drop (line_len bs) bs

pub from_word_twice : (bs : List ℕ) → from_word (from_word bs) ≡ from_word bs
from_word_twice [] = refl
from_word_twice (b ∷ bs) = by (from_word_twice bs) (separator b) refl
  where
    by : from_word (from_word bs) ≡ from_word bs → (s : Bool) → separator b ≡ s → from_word (cond s (from_word bs) (b ∷ bs)) ≡ cond s (from_word bs) (b ∷ bs)
    by more true e = more
    by more false e = cond-false _ _ _ e

-- what passes over separators, and counts offsets on, passes over the gap
module _ {X : Type 0} (F : ℕ → List ℕ → X) (past : (i b : ℕ) (bs : List ℕ) → separator b ≡ true → F i (b ∷ bs) ≡ F (i + 1) bs) where
  pub past_gap : (bs : List ℕ) (i : ℕ) → F i bs ≡ F (i + gap bs) (from_word bs)
  past_gap [] i = ap (λ n. F n []) (sym (add-zero i))
  past_gap (b ∷ bs) i = by (past_gap bs (i + 1)) (separator b) refl
    where
      by : F (i + 1) bs ≡ F (i + 1 + gap bs) (from_word bs) → (s : Bool) → separator b ≡ s → F i (b ∷ bs) ≡ F (i + cond s (1 + gap bs) 0) (cond s (from_word bs) (b ∷ bs))
      by more true e = past i b bs e ∙ more ∙ ap (λ n. F n (from_word bs)) (omega arith)
      by more false e = ap (λ n. F n (b ∷ bs)) (omega arith)

pub no_word : (bs : List ℕ) → length (front (from_word bs)) ≡ 0 → from_word bs ≡ []
no_word [] none = refl
no_word (b ∷ bs) none = by (no_word bs) (separator b) refl none
  where
    by : (length (front (from_word bs)) ≡ 0 → from_word bs ≡ []) → (s : Bool) → separator b ≡ s
        → length (front (cond s (from_word bs) (b ∷ bs))) ≡ 0 → cond s (from_word bs) (b ∷ bs) ≡ []
    by more true e none = more none
    by more false e none = absurd (omega (arith, none, ap length (cond-false (separator b) [] (b ∷ front bs) e)))

-- a word goes on to its end, and the next ones begin behind it
pub words_behind_front : (bs : List ℕ) (i : ℕ) → words true i bs ≡ words false (i + length (front bs)) (drop (length (front bs)) bs)
words_behind_front [] i = refl
words_behind_front (b ∷ bs) i = by (words_behind_front bs (i + 1)) (separator b) refl
  where
    by : words true (i + 1) bs ≡ words false (i + 1 + length (front bs)) (drop (length (front bs)) bs) → (s : Bool) → separator b ≡ s
        → words true i (b ∷ bs) ≡ words false (i + length (cond s [] (b ∷ front bs))) (drop (length (cond s [] (b ∷ front bs))) (b ∷ bs))
    by more true e = cond-true _ _ _ e ∙ sym (cond-true _ _ _ e) ∙ ap (λ n. words false n (b ∷ bs)) (omega arith)
    by more false e = cond-false _ _ _ e ∙ more ∙ ap (λ n. words false n (drop (length (front bs)) bs)) (omega arith)

pub first_word : (bs : List ℕ) (i : ℕ) → 0 < length (front bs)
    → words false i bs ≡ record { at = i; bytes = front bs } ∷ words false (i + length (front bs)) (drop (length (front bs)) bs)
first_word [] i some = absurd (omega arith)
first_word (b ∷ bs) i some = by (words_behind_front (b ∷ bs) i) (separator b) refl some
  where
    behind : List Word
    behind = words false (i + length (front (b ∷ bs))) (drop (length (front (b ∷ bs))) (b ∷ bs))

    by : words true i (b ∷ bs) ≡ behind → (s : Bool) → separator b ≡ s → 0 < length (cond s [] (b ∷ front bs))
        → cond s (words false (i + 1) bs) (record { at = i; bytes = b ∷ front bs } ∷ words true (i + 1) bs) ≡ record { at = i; bytes = cond s [] (b ∷ front bs) } ∷ behind
    by more true e some = absurd (omega arith)
    by more false e some = ap (λ ws. record { at = i; bytes = b ∷ front bs } ∷ ws) (sym (cond-false _ _ _ e) ∙ more)

-- `rest` is the text from its first word at offset `at` or later on
pub record RestFrom (text : List ℕ) (at : ℕ) (rest : List ℕ) : Type 0 where
  pub short : length rest ≤ length text
  pub stands : drop (length text - length rest) text ≡ rest
  pub words : words_from text at ≡ words false (length text - length rest) rest
  pub none : length (front rest) ≡ 0 → rest ≡ []

pub rest_from : (text : List ℕ) (at : ℕ) (rest : List ℕ) → at ≤ length text → rest ≡ from_word (take (length text - at) (drop at text)) → RestFrom text at rest
rest_from text at rest within is = record {
  short = omega (arith, ap length same, length-from_word ahead, length-drop at text);
  stands = ap (λ n. drop n text) start ∙ sym (drop-drop (gap ahead) at text) ∙ behind_gap ahead ∙ sym same;
  words = past_gap (words false) (λ i b bs e. cond-true _ _ _ e) ahead at ∙ ap (λ n. words false n (from_word ahead)) (sym start) ∙ ap (words false (length text - length rest)) (sym same);
  none = subst (λ l. length (front l) ≡ 0 → l ≡ []) (sym same) (no_word ahead);
}
  where
    ahead : List ℕ
    ahead = drop at text

    same : rest ≡ from_word ahead
    same = is ∙ ap from_word (take_rest text at)

    start : length text - length rest ≡ at + gap ahead
    start = omega (arith, ap length same, length-from_word ahead, gap_short ahead, length-drop at text)

module _ (text : List ℕ) (at : ℕ) (rest word : List ℕ) (so : RestFrom text at rest) (is : word ≡ front rest) where
  pub no_token : length word ≡ 0 → tokens_from text at ≡ []
  no_token none = ap (map placed) (so.words ∙ ap (words false (length text - length rest)) (so.none (sym (ap length is) ∙ none)))

  pub one_token : 0 < length word → tokens_from text at ≡ (length text - length rest, lexeme word) ∷ tokens_from text (length text - length rest + length word)
  one_token some = rw is (
      ap (map placed) (so.words ∙ first_word rest (length text - length rest) (subst (λ w. 0 < length w) is some))
      ∙ ap (λ l. (length text - length rest, lexeme (front rest)) ∷ map placed (words false (length text - length rest + length (front rest)) l)) behind)
    where
      behind : drop (length (front rest)) rest ≡ drop (length text - length rest + length (front rest)) text
      behind = ap (drop (length (front rest))) (sym so.stands) ∙ drop-drop (length (front rest)) (length text - length rest) text
