-- What a token says, and the part of the text that it borrows.
use Rattle.std.specs.Borrow.{Bor}
use Rattle.std.specs.Prelude.{ℕ, List}
use Rattle.words.specs.declared.token.Token.{Token}
use Rattle.words.specs.declared.token.Token.TheVariants.{Letter, Number, Stray}
use Rattle.words.specs.Text.{Lexeme, letter, number_of, stray}

-- what the word is, without the place in memory that the token borrows
abbrev pub said : Token → Lexeme
said (Letter b word) = letter b
said (Number n word) = number_of n
said (Stray word) = stray word.now

-- the bytes of the word, as the token borrows them
abbrev pub part : Token → Bor (List ℕ)
part (Letter b word) = word
part (Number n word) = word
part (Stray word) = word
