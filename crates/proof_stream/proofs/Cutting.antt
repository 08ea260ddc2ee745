-- Where a file is cut.
use Rattle.std.proofs.Common.{◌≡◌, ℕ, List, [], ◌∷◌, ◌++◌, refl, ap, sym, ◌∙◌, append_assoc}
use Rattle.proof_stream.specs.File.{FileOf, StandsFor, after, fresh, next, said, says}
use Rattle.proof_stream.specs.declared.spot.Form.{Form}

pub after_append : (r : FileOf) (a b : List ℕ) → after r (a ++ b) ≡ after (after r a) b
after_append r [] b = refl
after_append r (x ∷ a) b = after_append (next r x) a b

pub said_append : (r : FileOf) (a b : List ℕ) → said r (a ++ b) ≡ said r a ++ said (after r a) b
said_append r [] b = refl
said_append r (x ∷ a) b = ap (λ z. says r x ++ z) (said_append (next r x) a b) ∙ sym (append_assoc (says r x) (said (next r x) a) (said (after (next r x) a) b))

pub stands_append : (form : Form) (vars : ℕ) (r : FileOf) (a b : List ℕ) → StandsFor form vars r a → StandsFor form vars (after r b) (a ++ b)
stands_append form vars r a b h = ap (λ v. after v b) h ∙ sym (after_append (fresh form vars) a b)
