-- What is said goes on with more bytes, and with the file's end.
use Rattle.std.proofs.Common.{◌≡◌, ℕ, Bool, false, ◌&&◌, eqb, List, [], ◌∷◌, ◌++◌, Option, Some, None, refl, sym, ap, ◌∙◌, subst, inl, inr, append_assoc}
use Rattle.std.proofs.lemmas.Bool.{cases_Bool}
use Rattle.std.proofs.lemmas.List.{append-nil}
use Rattle.cnf_form.specs.Cnf.{LitOf}
use Rattle.cert_stream.specs.Machine.{DrupOf, fault_of, turn}
use Rattle.cert_stream.specs.Telling.{Saying, fault_said, told_by}
use Rattle.cert_stream.specs.declared.mode.Mode.TheVariants.{Bad}
use Rattle.cert_stream.specs.declared.mode.ParseFault.{ParseFault}
use Rattle.cert_stream.proofs.Faults.{with_mode}
use Rattle.cert_stream.proofs.GoingOn.{Starts}
use Rattle.proof_stream.specs.Text.{fault_or, is_claim, text_says}
use Rattle.proof_stream.specs.Binary.{BinaryOf, binary_told, binary_turn, spot_fault}
use Rattle.proof_stream.specs.File.{FileOf, InText, InBinary, after, fault, next, said, says, spoken}
use Rattle.proof_stream.specs.declared.spot.Spot.TheVariants.{Bad as BadSpot}
use Rattle.proof_stream.proofs.Cutting.{after_append, said_append}
use Rattle.proof_stream.proofs.Faults.{fault_stays, mode_bad, next_stays, spot_bad}
use Rattle.proof_stream.proofs.Passing.{text}

module _ (f : ParseFault) where
  bad_event : (vars taken place : ℕ) (lits : List LitOf) (b : ℕ) → (turn (record { vars = vars; taken = taken; place = place; mode = Bad f; lits = lits }) b).event ≡ None
  bad_event vars taken place lits b =
      elim (cases_Bool (eqb b 10)) [
        | inl t ↦ rw t refl
        | inr n ↦ rw n (elim (cases_Bool (eqb b 32)) [ inl t ↦ rw t refl | inr k ↦ rw k (elim (cases_Bool (eqb b 9)) [ inl t ↦ rw t refl | inr j ↦ rw j (elim (cases_Bool (eqb b 13)) [ inl t ↦ rw t refl | inr i ↦ rw i refl ]) ]) ])
      ]

  bad_told : (w : DrupOf) (b : ℕ) → w.mode ≡ Bad f → told_by (turn w b).to (turn w b).event ≡ []
  bad_told w b e =
      let k : (turn w b).event ≡ None = subst (λ m. (turn (with_mode w m) b).event ≡ None) (sym e) (bad_event w.vars w.taken w.place w.lits b) in
      ap (told_by (turn w b).to) k

  or_none : (o : Option ParseFault) → fault_or o None ≡ Some f → o ≡ Some f
  or_none None e = e
  or_none (Some g) e = e

  text_quiet : (w : DrupOf) (s : Bool) (r : Option ParseFault) (b : ℕ) → fault (InText (text w s r)) ≡ Some f → text_says (text w s r) b ≡ []
  text_quiet w s (Some g) b e = refl
  text_quiet w s None b e =
      let k = bad_told w b (mode_bad f w.mode (or_none (fault_of w.mode) e)) in
      elim (cases_Bool (s && is_claim b)) [ inl t ↦ rw t refl | inr n ↦ rw n k ]

  binary_quiet : (w : BinaryOf) (b : ℕ) → spot_fault w.spot ≡ Some f → binary_told (binary_turn w b).to (binary_turn w b).event ≡ []
  binary_quiet w b e = let k : w.spot ≡ BadSpot f = spot_bad f w.spot e in rw k refl

  quiet : (r : FileOf) (b : ℕ) → fault r ≡ Some f → says r b ≡ []
  quiet (InText t) b e = text_quiet t.parser t.starts t.refused b e
  quiet (InBinary w) b e = binary_quiet w b e

  -- nothing is said after a fault
  pub said_quiet : (r : FileOf) (bytes : List ℕ) → fault r ≡ Some f → said r bytes ≡ []
  said_quiet r [] e = refl
  said_quiet r (b ∷ bs) e = ap (λ z. z ++ said (next r b) bs) (quiet r b e) ∙ said_quiet (next r b) bs (next_stays f r b e)

on_by : (o : Option ParseFault) (s rest tail : List Saying) → ((f : ParseFault) → o ≡ Some f → (rest ++ tail) ≡ fault_said (Some f)) → Starts (s ++ fault_said o) ((s ++ rest) ++ tail)
on_by None s rest tail h = (rest ++ tail, append_assoc s rest tail ∙ ap (λ z. z ++ (rest ++ tail)) (sym (append-nil s)))
on_by (Some f) s rest tail h = ([], append_assoc s rest tail ∙ ap (λ z. s ++ z) (h f refl) ∙ sym (append-nil (s ++ fault_said (Some f))))

pub spoken_more : (r : FileOf) (bytes rest : List ℕ) → (more : List Saying) × (spoken false r (bytes ++ rest) ≡ spoken false r bytes ++ more)
spoken_more r bytes rest =
    let v : FileOf = after r bytes in
    let k = on_by (fault v) (said r bytes) (said v rest) (fault_said (fault (after v rest)))
    (λ f e. ap (λ z. z ++ fault_said (fault (after v rest))) (said_quiet f v rest e) ∙ ap fault_said (fault_stays v rest f e)) in
    (k.0, ap (λ z. z ++ fault_said (fault (after r (bytes ++ rest)))) (said_append r bytes rest) ∙ ap (λ (z : FileOf). (said r bytes ++ said v rest) ++ fault_said (fault z)) (after_append r bytes rest) ∙ k.1)
