-- How the reader passes the comments at the front of a text, one after the other.
use Rattle.std.proofs.Common.{◌≡◌, ℕ, ◌+◌, ◌-◌, ◌<◌, ◌≤◌, Bool, true, false, cond, not, ◌==◌, ◌&&◌, List, [], ◌∷◌, length, sym, ap, subst, refl, ◌∙◌, arith}
use Rattle.std.proofs.lemmas.Bool.{cond-true, cond-false, eqb-true, and_parts, false≢true}
use Rattle.std.specs.Str.{bytes_eq}
use Rattle.words.specs.Text.{separator, front, from_word, from_line_end, alone, past_comments, body}
use Rattle.words.proofs.Cut.{gap, past_gap, gap_short, from_word_twice, length-from_word, line_len, line_short, length-from_line_end}

-- the word `c`
abbrev pub comment : List ℕ → Bool
comment bs = bytes_eq (front bs) (99 ∷ [])

comments_behind_gap : (bs : List ℕ) (i : ℕ) → past_comments false i bs ≡ past_comments false (i + gap bs) (from_word bs)
comments_behind_gap = past_gap (past_comments false) (λ i b bs e. cond-true _ _ _ e)

-- a comment goes up to the line's end, which is a separator
comment_behind_line : (bs : List ℕ) (i : ℕ) → past_comments true i bs ≡ past_comments false (i + line_len bs) (from_line_end bs)
comment_behind_line [] i = omega arith
comment_behind_line (b ∷ bs) i = by (comment_behind_line bs (i + 1)) (b == 10) refl
  where
    by : past_comments true (i + 1) bs ≡ past_comments false (i + 1 + line_len bs) (from_line_end bs) → (s : Bool) → (b == 10) ≡ s
        → past_comments (not s) (i + 1) bs ≡ past_comments false (i + cond (not s) (1 + line_len bs) 0) (cond s (b ∷ bs) (from_line_end bs))
    by more true e = sym (cond-true _ _ _ (ap separator (eqb-true b 10 e))) ∙ ap (λ n. past_comments false n (b ∷ bs)) (omega arith)
    by more false e = more ∙ ap (λ n. past_comments false n (from_line_end bs)) (omega arith)

-- a word of one byte
alone_front : (bs : List ℕ) → bytes_eq (front bs) [] ≡ alone bs
alone_front [] = refl
alone_front (b ∷ bs) = by (separator b)
  where
    by : (s : Bool) → bytes_eq (cond s [] (b ∷ front bs)) [] ≡ s
    by true = refl
    by false = refl

comment_is : (b : ℕ) (bs : List ℕ) → separator b ≡ false → comment (b ∷ bs) ≡ (b == 99 && alone bs)
comment_is b bs e = ap (λ l. bytes_eq l (99 ∷ [])) (cond-false _ _ _ e) ∙ ap (λ x. b == 99 && x) (alone_front bs)

at_word : (b : ℕ) (bs : List ℕ) → from_word (b ∷ bs) ≡ b ∷ bs → separator b ≡ false
at_word b bs word = by (separator b) word
  where
    by : (s : Bool) → cond s (from_word bs) (b ∷ bs) ≡ b ∷ bs → s ≡ false
    by true same = absurd (omega (arith, ap length same, length-from_word bs))
    by false same = refl

module _ (b : ℕ) (bs : List ℕ) (word : from_word (b ∷ bs) ≡ b ∷ bs) (c : comment (b ∷ bs) ≡ true) where
  is_comment : (b == 99 && alone bs) ≡ true
  is_comment = sym (comment_is b bs (at_word b bs word)) ∙ c

  is_c : 99 ≡ b
  is_c = sym (eqb-true b 99 (and_parts _ _ is_comment).0)

past_comment : (bs : List ℕ) (i : ℕ) → from_word bs ≡ bs → comment bs ≡ true → past_comments false i bs ≡ past_comments false (i + line_len bs) (from_line_end bs)
past_comment [] i word c = omega arith
past_comment (b ∷ bs) i word c =
    cond-false _ _ _ (at_word b bs word) ∙ cond-true _ _ _ (is_comment b bs word c)
    ∙ ap (λ x. past_comments (not (x == 10)) (i + 1) bs) (is_c b bs word c) ∙ comment_behind_line (b ∷ bs) i

line_some : (bs : List ℕ) → from_word bs ≡ bs → comment bs ≡ true → 0 < line_len bs
line_some [] word c = absurd (false≢true c)
line_some (b ∷ bs) word c = subst (λ x. 0 < cond (not (x == 10)) (1 + line_len bs) 0) (is_c b bs word c) (omega arith)

-- any other word ends the comments
past_none : (bs : List ℕ) (i : ℕ) → from_word bs ≡ bs → comment bs ≡ false → past_comments false i bs ≡ i
past_none [] i word c = refl
past_none (b ∷ bs) i word c = cond-false _ _ _ (at_word b bs word) ∙ cond-false _ _ _ (sym (comment_is b bs (at_word b bs word)) ∙ c)

-- `rest` is the text from a word on, with comments alone in front of it
pub record Behind (text rest : List ℕ) : Type 0 where
  pub short : length rest ≤ length text
  pub same : past_comments false (length text - length rest) rest ≡ body text
  pub word : from_word rest ≡ rest

-- the first word
pub begins : (text rest : List ℕ) → rest ≡ from_word text → Behind text rest
begins text rest is = record {
  short = omega (arith, ap length is, length-from_word text, gap_short text);
  same = rw is (ap (λ n. past_comments false n (from_word text)) (omega (arith, length-from_word text, gap_short text)) ∙ sym (comments_behind_gap text 0));
  word = rw is (from_word_twice text);
}

-- the word behind a comment
module _ (text rest next : List ℕ) (so : Behind text rest) (c : comment rest ≡ true) (is : next ≡ from_word (from_line_end rest)) where
  abbrev tail : List ℕ
  tail = from_line_end rest

  long : length next ≡ length rest - line_len rest - gap tail
  long = ap length is ∙ length-from_word tail ∙ ap (λ n. n - gap tail) (length-from_line_end rest)

  pub goes_on : Behind text next
  goes_on = record {
    short = omega (arith, long, so.short);
    same = rw is (ap (λ n. past_comments false n (from_word tail)) offset ∙ sym (comments_behind_gap tail (length text - length rest + line_len rest))
        ∙ sym (past_comment rest (length text - length rest) so.word c) ∙ so.same);
    word = rw is (from_word_twice tail);
  }
    where
      offset : length text - length (from_word tail) ≡ length text - length rest + line_len rest + gap tail
      offset = omega (arith, so.short, length-from_word tail, gap_short tail, length-from_line_end rest, line_short rest)

  pub shorter : length next < length rest
  shorter = omega (arith, long, line_some rest so.word c, line_short rest)

-- the word behind the last comment
pub ends : (text rest : List ℕ) → Behind text rest → comment rest ≡ false → length text - length rest ≡ body text
ends text rest so c = sym (past_none rest (length text - length rest) so.word c) ∙ so.same

pub ruleset passing = (begins, goes_on, shorter, ends)
