-- What a draft of the code holds.
use Rattle.formula.specs.View.{prefix_of, matrix_of}
use Rattle.qdimacs.specs.declared.draft.Draft.{Draft}
use Rattle.qdimacs.specs.Reading.{State}

abbrev pub state_of : Draft → State
state_of d = record { phase = d.phase; prefix = prefix_of d.prefix; matrix = matrix_of d.matrix }
