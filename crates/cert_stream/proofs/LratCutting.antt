-- Where a stream is cut.
use Rattle.std.proofs.Common.{◌≡◌, ℕ, ◌+◌, List, [], ◌∷◌, ◌++◌, length, refl, ap, sym, ◌∙◌, append_assoc, arith}
use Rattle.cert_stream.specs.LratMachine.{LratOf, turn}
use Rattle.cert_stream.specs.LratTelling.{StandsFor, after, fresh, said, told_by}

pub after_append : (w : LratOf) (a b : List ℕ) → after w (a ++ b) ≡ after (after w a) b
after_append w [] b = refl
after_append w (x ∷ a) b = after_append (turn w x).to a b

pub said_append : (w : LratOf) (a b : List ℕ) → said w (a ++ b) ≡ said w a ++ said (after w a) b
said_append w [] b = refl
said_append w (x ∷ a) b =
    ap (λ z. told_by (turn w x).to (turn w x).event ++ z) (said_append (turn w x).to a b)
    ∙ sym (append_assoc (told_by (turn w x).to (turn w x).event) (said (turn w x).to a) (said (after (turn w x).to a) b))

-- each byte counts
pub after_taken : (w : LratOf) (bytes : List ℕ) → (after w bytes).taken ≡ w.taken + length bytes
after_taken w [] = omega arith
after_taken w (b ∷ bytes) = let e = after_taken (turn w b).to bytes in omega (arith, e)

pub stands_append : (vars : ℕ) (w : LratOf) (a b : List ℕ) → StandsFor vars w a → StandsFor vars (after w b) (a ++ b)
stands_append vars w a b h = ap (λ v. after v b) h ∙ sym (after_append (fresh vars) a b)
