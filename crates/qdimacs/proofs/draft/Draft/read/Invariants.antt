use Rattle.std.proofs.Common.{◌≡◌, length}
use Rattle.words.specs.Text.{tokens_from}
use Rattle.qdimacs.specs.Reading.{run, reading}
use Rattle.qdimacs.specs.View.{state_of}
use Rattle.qdimacs.proofs.draft.Draft.read.Given as goal

-- the words that are left give the outcome, after what is read so far
abbrev pub invariant-loop-place : goal.invariant-loop-place
invariant-loop-place l = (l.place-iterator.text.now ≡ l.text)
    × (run (length l.text) (state_of l.self) (tokens_from l.text l.place-iterator.at) ≡ reading l.text)
