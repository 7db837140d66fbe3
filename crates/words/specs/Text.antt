-- The words of a text, where its comments end, and what each word is.
use Rattle.std.specs.Prelude.{ℕ, ◌+◌, Bool, true, false, cond, not, ◌&&◌, ◌||◌, List, [], ◌∷◌, map, drop, ℤ, Some, None, Option, ◌==◌, nat_le}
use Rattle.std.specs.List.{list_all}
use Rattle.words.specs.Number.{number}

-- a blank, a tab, CR or LF: what parts the words
abbrev pub separator : ℕ → Bool
separator b = b == 32 || b == 9 || b == 13 || b == 10

-- the bytes up to the first separator
abbrev pub front : List ℕ → List ℕ
front [] = []
front (b ∷ bs) = cond (separator b) [] (b ∷ front bs)

-- the bytes from the first word on
abbrev pub from_word : List ℕ → List ℕ
from_word [] = []
from_word (b ∷ bs) = cond (separator b) (from_word bs) (b ∷ bs)

-- the bytes from the first LF (10) on
abbrev pub from_line_end : List ℕ → List ℕ
from_line_end [] = []
from_line_end (b ∷ bs) = cond (b == 10) (b ∷ bs) (from_line_end bs)

-- a word: its offset in the text, and its bytes
pub record Word : Type 0 where
  pub at : ℕ
  pub bytes : List ℕ

-- The words that begin in bs, whose first byte stands at offset i of the text.
-- `inside` says that the byte before bs belongs to a word, which then goes on here: no word begins before the next separator.
abbrev pub words : Bool → ℕ → List ℕ → List Word
words inside i [] = []
words inside i (b ∷ bs) = cond (separator b) (words false (i + 1) bs)
    (cond inside (words true (i + 1) bs) (record { at = i; bytes = b ∷ front bs } ∷ words true (i + 1) bs))

-- the words of the text from offset i on, where a word may begin
abbrev pub words_from : List ℕ → ℕ → List Word
words_from text i = words false i (drop i text)

-- a word of which the byte before bs is the first ends here, so it has that one byte alone
abbrev pub alone : List ℕ → Bool
alone [] = true
alone (b ∷ bs) = separator b

-- The offset at which bs, whose first byte stands at offset i, goes on after its comments.
-- The word `c` (99) begins a comment, which goes up to the next LF (10), or to the end; `comment` says that bs begins inside one.
abbrev pub past_comments : Bool → ℕ → List ℕ → ℕ
past_comments comment i [] = i
past_comments true i (b ∷ bs) = past_comments (not (b == 10)) (i + 1) bs
past_comments false i (b ∷ bs) = cond (separator b) (past_comments false (i + 1) bs)
    (cond (b == 99 && alone bs) (past_comments true (i + 1) bs) i)

-- where the text goes on after the comments at its front: the first word that is not `c`, or the text's end
abbrev pub body : List ℕ → ℕ
body text = past_comments false 0 text

-- what a word is: a small letter, a number, or any other word
pub data Lexeme : Type 0 where
  letter : ℕ → Lexeme
  number_of : ℤ → Lexeme
  stray : List ℕ → Lexeme

-- a byte from `a` (97) to `z` (122)
abbrev pub lowercase : ℕ → Bool
lowercase b = nat_le 97 b && nat_le b 122

abbrev pub number_or_stray : Option ℤ → List ℕ → Lexeme
number_or_stray (Some n) bs = number_of n
number_or_stray None bs = stray bs

-- one small letter, a number, or any other word
abbrev pub lexeme : List ℕ → Lexeme
lexeme [] = stray []
lexeme (b ∷ []) = cond (lowercase b) (letter b) (number_or_stray (number (b ∷ [])) (b ∷ []))
lexeme (b ∷ c ∷ bs) = number_or_stray (number (b ∷ c ∷ bs)) (b ∷ c ∷ bs)

-- a word by its offset and what it is
abbrev pub placed : Word → ℕ × Lexeme
placed w = (w.at, lexeme w.bytes)

-- the words of the text from offset i on, each by its offset and what it is
abbrev pub tokens_from : List ℕ → ℕ → List (ℕ × Lexeme)
tokens_from text i = map placed (words_from text i)

-- a byte that shows in print, from `!` (33) to `~` (126)
abbrev pub visible : ℕ → Bool
visible b = nat_le 33 b && nat_le b 126

-- every byte shows in print
abbrev pub printable : List ℕ → Bool
printable bs = list_all visible bs
