-- Where a stream is cut.
use Rattle.std.proofs.Common.{◌≡◌, ℕ, ◌+◌, Bool, false, List, [], ◌∷◌, ◌++◌, length, refl, ap, sym, ◌∙◌, inl, inr, subst, append_assoc, arith}
use Rattle.cert_stream.specs.Machine.{DrupOf, turn}
use Rattle.cert_stream.specs.Telling.{told_by, after, said, fresh, StandsFor, Gets, TakesMemory}

pub after_append : (w : DrupOf) (a b : List ℕ) → after w (a ++ b) ≡ after (after w a) b
after_append w [] b = refl
after_append w (x ∷ a) b = after_append (turn w x).to a b

pub said_append : (w : DrupOf) (a b : List ℕ) → said w (a ++ b) ≡ said w a ++ said (after w a) b
said_append w [] b = refl
said_append w (x ∷ a) b =
    ap (λ z. told_by (turn w x).to (turn w x).event ++ z) (said_append (turn w x).to a b)
    ∙ sym (append_assoc (told_by (turn w x).to (turn w x).event) (said (turn w x).to a) (said (after (turn w x).to a) b))

-- each byte counts
pub after_taken : (w : DrupOf) (bytes : List ℕ) → (after w bytes).taken ≡ w.taken + length bytes
after_taken w [] = omega arith
after_taken w (b ∷ bytes) = let e = after_taken (turn w b).to bytes in omega (arith, e)

pub stands_append : (vars : ℕ) (w : DrupOf) (a b : List ℕ) → StandsFor vars w a → StandsFor vars (after w b) (a ++ b)
stands_append vars w a b h = ap (λ v. after v b) h ∙ sym (after_append (fresh vars) a b)

-- a receiver that did not stop goes on with what comes then
pub gets_append : {A S : Type 0} (gets : A → S → A → Type 0) (stops : A → Bool) (x y z : A) (ss ts : List S) (stopped : Bool)
    → Gets gets stops x ss y false → Gets gets stops y ts z stopped → Gets gets stops x (ss ++ ts) z stopped
gets_append gets stops x y z [] ts stopped (e, f) k = subst (λ a. Gets gets stops a ts z stopped) (sym e) k
gets_append gets stops x y z (s ∷ ss) ts stopped (a, g, inl (t, e, f)) k = cc
gets_append gets stops x y z (s ∷ ss) ts stopped (a, g, inr (t, h)) k = (a, g, inr (t, gets_append gets stops a y z ss ts stopped h k))

pub memory_append : (w : DrupOf) (a b : List ℕ) → TakesMemory (after w a) b → TakesMemory w (a ++ b)
memory_append w [] b h = h
memory_append w (x ∷ a) b h = inr (inr (memory_append (turn w x).to a b h))
