-- What the lines of a cycle leave open: the rows of inputs and states.
use Rattle.std.specs.Prelude.{◌≡◌, List, length, All}
use Rattle.btor_core.specs.Meaning.{Values}
use Rattle.btor_core.specs.declared.line.Word.{Word}

-- each of these words has a row of its width
abbrev pub AreChoices : List Word → Values → Type 0
AreChoices words choice = All (λ a. length (choice a.nid) ≡ a.width) words

-- each of these words has the same row in both
abbrev pub Agree : List Word → Values → Values → Type 0
Agree words vs us = All (λ a. us a.nid ≡ vs a.nid) words
