-- What bytes say, one by one.
use Rattle.std.proofs.Common.{◌≡◌, ℕ, Bool, true, false, List, [], ◌∷◌, ◌++◌, refl, ap, sym, ◌∙◌, append_assoc, cond}
use Rattle.cert_stream.specs.Telling.{Saying, fault_said}
use Rattle.proof_stream.specs.Text.{TextOf, text_next}
use Rattle.proof_stream.specs.File.{FileOf, InText, after, end_fault, end_says, fault, next, said, says, spoken}

abbrev behind : Bool → FileOf → List Saying
behind ended r = cond ended (end_says r ++ fault_said (end_fault r)) (fault_said (fault r))

pub spoken_step : (ended : Bool) (r : FileOf) (b : ℕ) (bs : List ℕ) → spoken ended r (b ∷ bs) ≡ says r b ++ spoken ended (next r b) bs
spoken_step ended r b bs = append_assoc (says r b) (said (next r b) bs) (behind ended (after (next r b) bs))

-- a text's end is a line feed
pub text_ended : (t : TextOf) (bytes : List ℕ) → spoken true (InText t) bytes ≡ spoken false (InText t) (bytes ++ 10 ∷ [])
text_ended t [] = refl
text_ended t (b ∷ bs) =
    spoken_step true (InText t) b bs ∙ ap (λ z. says (InText t) b ++ z) (text_ended (text_next t b) bs) ∙ sym (spoken_step false (InText t) b (bs ++ 10 ∷ []))
