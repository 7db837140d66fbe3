-- What a call of `next` gives: the first of the words that are left.
use Rattle.std.specs.Prelude.{◌≡◌, ℕ, ◌+◌, [], ◌∷◌, List, length, drop, Option, IfSome, MatchOption}
use Rattle.words.specs.declared.reader.Words.{Words}
use Rattle.words.specs.declared.token.Token.{Token}
use Rattle.words.specs.Text.{Lexeme, front, tokens_from}
use Rattle.words.specs.Said.{said, part}

-- the words that are left, each by its offset in the text and what it is
abbrev pub left : Words → List (ℕ × Lexeme)
left s = tokens_from s.text.now s.at

pub record GivesWord (old : Words) (result : Option (ℕ × Token)) (new : Words) : Type 0 where
  -- the text stays
  pub same : new.text.now ≡ old.text.now
  -- it is the first of the words that were left, and the others are left; or none was left
  pub cases : MatchOption result (left old ≡ []) (λ w. left old ≡ (w.0, said w.1) ∷ left new)
  -- the token borrows the bytes of the word
  pub word : IfSome result (λ w. (part w.1).now ≡ front (drop w.0 old.text.now))
  -- the reader goes on behind the word; where no word was left, it stays
  pub place : MatchOption result (new.at ≡ old.at) (λ w. new.at ≡ w.0 + length (front (drop w.0 old.text.now)))
