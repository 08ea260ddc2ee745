-- What was written to a connection.
use Rattle.std.proofs.Common.{◌≡◌, ℕ, List, [], ◌++◌, Some, None, refl, sym, ap, subst}
use Rattle.std.specs.Prelude.{Option, IfSome, option_map}
use Rattle.net_link.specs.Frame.{CanAsk, Framed}
use Rattle.net_answer.specs.Written.{Wrote}
use Rattle.net_answer.specs.Sent.{IsAnswered}
use Rattle.net_serve.specs.Serving.{IsAnswer, IsServed}

-- the first bytes that were written
pub wrote_first : (such : List ℕ → Type 0) (a b : Option (List ℕ)) → IfSome a (λ bytes. bytes ≡ []) → Wrote a b such → IfSome b such
wrote_first such None b e w = subst (λ (o : Option (List ℕ)). IfSome o such) (sym w.2) tt
wrote_first such (Some x) b e w =
    subst (λ (o : Option (List ℕ)). IfSome o such) (sym w.2) (subst such (sym (ap (λ (l : List ℕ). l ++ w.0) e)) w.1)

answered_told : (streams : List ℕ → Type 0) (told written : Option (List ℕ)) → IfSome told streams → IsAnswered told written → IfSome written (IsAnswer streams)
answered_told streams None written s e = subst (λ (o : Option (List ℕ)). IfSome o (IsAnswer streams)) (sym e) tt
answered_told streams (Some stream) written s e = subst (λ (o : Option (List ℕ)). IfSome o (IsAnswer streams)) (sym e.2) (stream, s, e.1)

-- a sink on a link to which nothing was written took a stream, and was finished
pub answered_so : (streams : List ℕ → Type 0) (link took written : Option (List ℕ)) → Wrote (option_map (λ _. []) link) took streams → IsAnswered took written → IfSome written (IsAnswer streams)
answered_so streams None took written w e = answered_told streams took written (wrote_first streams None took tt w) e
answered_so streams (Some x) took written w e = answered_told streams took written (wrote_first streams (Some []) took refl w) e

pub served_so : (may_answer : ℕ → List ℕ → List ℕ → Type 0) (came written : Option (List ℕ)) (budget : ℕ) (job : List ℕ) → CanAsk budget job → IfSome came (λ bytes. Framed bytes budget job) → IfSome written (IsAnswer (may_answer budget job)) → IsServed may_answer came written
served_so may_answer came written budget job can asked answered = record { budget = budget; job = job; can_ask = can; asked = asked; answered = answered }
