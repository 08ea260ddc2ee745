-- A job's bytes, written piece by piece.
use Rattle.std.proofs.Common.{◌≡◌, ℕ, List, [], ◌++◌, Ok, Err, length, refl, sym, ap, ◌∙◌, subst}
use Rattle.std.specs.Prelude.{Option, OnOk, Result}
use Rattle.std.specs.Int.{w64, to_be_bytes}
use Rattle.std.proofs.lemmas.List.{append_assoc, append-nil}
use Rattle.net_link.specs.Frame.{first_bytes, request}
use Rattle.net_link.specs.Link.{Grew}
use Rattle.net_link.proofs.Written.{grew_both, grew_none}
use Rattle.net_request.specs.Writing.{Sent}

pub sent_none : (bytes : List ℕ) (a : Option (List ℕ)) → Sent bytes bytes a a
sent_none bytes a = record { given = []; is = refl; grew = grew_none a }

pub sent_more : (bytes rest rest' piece : List ℕ) (a b c : Option (List ℕ)) → Sent bytes rest a b → rest ≡ piece ++ rest' → Grew b c piece → Sent bytes rest' a c
sent_more bytes rest rest' piece a b c s e g = record {
  given = s.given ++ piece;
  is = s.is ∙ ap (λ (t : List ℕ). s.given ++ t) e ∙ sym (append_assoc s.given piece rest');
  grew = grew_both a b c s.given piece s.grew g;
}

pub sent_all : (bytes rest : List ℕ) (a b : Option (List ℕ)) → Sent bytes rest a b → rest ≡ [] → Grew a b bytes
sent_all bytes rest a b s e = subst (Grew a b) (sym (s.is ∙ ap (λ (t : List ℕ). s.given ++ t) e ∙ append-nil s.given)) s.grew

-- the parts of a request, written one after the other
pub request_grew : (T E : Type 0) (r : Result T E) (a b c d e : Option (List ℕ)) (budget count : ℕ) (x y job : List ℕ) → Grew a b first_bytes → Grew b c x → x ≡ to_be_bytes w64 budget → Grew c d y → y ≡ to_be_bytes w64 count → count ≡ length job → OnOk r (Grew d e job)
    → OnOk r (Grew a e (request budget job))
request_grew T E (Err f) a b c d e budget count x y job g h is k js len l = tt
request_grew T E (Ok v) a b c d e budget count x y job g h is k js len l =
    let k' : Grew c d (to_be_bytes w64 (length job)) = subst (λ (n : ℕ). Grew c d (to_be_bytes w64 n)) len (subst (Grew c d) js k) in
    grew_both a b e first_bytes (to_be_bytes w64 budget ++ (to_be_bytes w64 (length job) ++ job)) g
    (grew_both b c e (to_be_bytes w64 budget) (to_be_bytes w64 (length job) ++ job) (subst (Grew b c) is h) (grew_both c d e (to_be_bytes w64 (length job)) job k' l))
