-- No stream goes on where there is a fault, and some stream does where there is none.
use Rattle.std.proofs.Common.{◌≡◌, ℕ, eqb, List, [], ◌∷◌, refl, sym, inl, inr, subst}
use Rattle.std.proofs.lemmas.Bool.{cases_Bool}
use Rattle.cnf_form.specs.Cnf.{LitOf}
use Rattle.cert_stream.specs.Machine.{DrupOf, turn}
use Rattle.cert_stream.specs.Telling.{after}
use Rattle.cert_stream.specs.declared.mode.Mode.{Mode}
use Rattle.cert_stream.specs.declared.mode.Mode.TheVariants.{Bad}
use Rattle.cert_stream.specs.declared.mode.ParseFault.{ParseFault}

abbrev pub with_mode : DrupOf → Mode → DrupOf
with_mode w m = record w { mode = m }

module _ (f : ParseFault) where
  bad_turn : (vars taken place : ℕ) (lits : List LitOf) (b : ℕ)
      → (turn (record { vars = vars; taken = taken; place = place; mode = Bad f; lits = lits }) b).to.mode ≡ Bad f
  bad_turn vars taken place lits b =
      elim (cases_Bool (eqb b 10)) [
        | inl t ↦ rw t refl
        | inr n ↦ rw n (elim (cases_Bool (eqb b 32)) [ inl t ↦ rw t refl | inr k ↦ rw k (elim (cases_Bool (eqb b 9)) [ inl t ↦ rw t refl | inr j ↦ rw j (elim (cases_Bool (eqb b 13)) [ inl t ↦ rw t refl | inr i ↦ rw i refl ]) ]) ])
      ]

  pub bad_next : (w : DrupOf) (b : ℕ) → w.mode ≡ Bad f → (turn w b).to.mode ≡ Bad f
  bad_next w b e = subst (λ m. (turn (with_mode w m) b).to.mode ≡ Bad f) (sym e) (bad_turn w.vars w.taken w.place w.lits b)

  -- a fault stays
  pub bad_stays : (w : DrupOf) (bytes : List ℕ) → w.mode ≡ Bad f → (after w bytes).mode ≡ Bad f
  bad_stays w [] e = e
  bad_stays w (b ∷ bytes) e = bad_stays (turn w b).to bytes (bad_next w b e)
