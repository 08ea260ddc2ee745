-- Where a stream is cut.
use Rattle.std.proofs.Common.{◌≡◌, ℕ, List, [], ◌∷◌, ◌++◌, refl, ap, sym, ◌∙◌}
use Rattle.btor_witness.specs.Machine.{StandsFor, WitnessesOf, after, fresh, turn}
use Rattle.btor_witness.specs.Shape.{ShapeOf}

pub after_append : (w : WitnessesOf) (a b : List ℕ) → after w (a ++ b) ≡ after (after w a) b
after_append w [] b = refl
after_append w (x ∷ a) b = after_append (turn w x) a b

pub stands_append : (shape : ShapeOf) (most : ℕ) (w : WitnessesOf) (bytes piece : List ℕ) → StandsFor shape most w bytes → StandsFor shape most (after w piece) (bytes ++ piece)
stands_append shape most w bytes piece h = ap (λ v. after v piece) h ∙ sym (after_append (fresh shape most) bytes piece)
