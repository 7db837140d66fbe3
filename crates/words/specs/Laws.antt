-- The words of a text, in the format's own words: they are its parts between separators, each once and in order.
use Rattle.std.specs.Prelude.{◌≡◌, ℕ, ◌+◌, ◌-◌, ◌<◌, ◌≤◌, true, false, List, length, take, drop, Some, slice_index}
use Rattle.std.specs.List.{slice_get}
use Rattle.words.specs.Text.{separator, Word, words_from}

-- the offset after the word's last byte
abbrev pub past : Word → ℕ
past w = w.at + length w.bytes

-- w is one or more bytes of the text, none of them a separator, and a separator or the text's end stands on either side
pub record Part (text : List ℕ) (w : Word) : Type 0 where
  pub some : 0 < length w.bytes
  pub solid : (k : ℕ) → k < length w.bytes → separator (slice_index w.bytes k) ≡ false
  pub stands : take (length w.bytes) (drop w.at text) ≡ w.bytes
  pub before : 0 < w.at → separator (slice_index text (w.at - 1)) ≡ true
  pub after : past w < length text → separator (slice_index text (past w)) ≡ true

-- the byte at offset i lies in one of the words
abbrev pub Covered : List Word → ℕ → Type 0
Covered ws i = (k : ℕ) × (w : Word) × (slice_get ws k ≡ Some w) × (w.at ≤ i) × (i < past w)

pub record Partition (text : List ℕ) (ws : List Word) : Type 0 where
  -- each word is such a part
  pub parts : (k : ℕ) (w : Word) → slice_get ws k ≡ Some w → Part text w
  -- each byte that is no separator lies in a word
  pub covered : (i : ℕ) → i < length text → separator (slice_index text i) ≡ false → Covered ws i
  -- each word lies after the one before it
  pub ordered : (k : ℕ) (v w : Word) → slice_get ws k ≡ Some v → slice_get ws (k + 1) ≡ Some w → past v < w.at

abbrev pub WordsAreParts : Type 0
WordsAreParts = (text : List ℕ) → Partition text (words_from text 0)
