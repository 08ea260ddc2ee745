-- The first word of a text.
use Rattle.std.proofs.Common.{◌≡◌, ℕ, ◌+◌, Bool, List, [], ◌∷◌}
use Rattle.cert_stream.specs.Text.{Word, words_from}
use Rattle.cert_stream.specs.declared.mode.ParseFaultKind.TheVariants.{BadLine}
use Rattle.cert_stream.proofs.Wording.{after_word, word_alone, word_alone_says}
use Rattle.cert_stream.specs.LratTelling.{LratSaying}
use Rattle.cert_stream.specs.LratLines.{bad}

abbrev pub after_first : (List Word → List LratSaying) → Bool → ℕ → List ℕ → List LratSaying
after_first = after_word (bad BadLine)

abbrev pub first_alone : (List Word → List LratSaying) → List Word → List LratSaying
first_alone = word_alone (bad BadLine)

pub alone_says : (f : List Word → List LratSaying) (fed : Bool) (at b : ℕ) (bs : List ℕ) → first_alone f (words_from fed (at + 1) (b ∷ []) bs) ≡ after_first f fed (at + 1) bs
alone_says = word_alone_says (bad BadLine)
