-- No stream goes on where there is a fault.
use Rattle.std.proofs.Common.{◌≡◌, ℕ, eqb, List, [], ◌∷◌, refl, sym, inl, inr, subst}
use Rattle.std.proofs.lemmas.Bool.{cases_Bool}
use Rattle.cert_stream.specs.Text.{is_blank}
use Rattle.cert_stream.specs.declared.mode.ParseFault.{ParseFault}
use Rattle.cert_stream.specs.LratMachine.{LratOf, turn}
use Rattle.cert_stream.specs.LratTelling.{after}
use Rattle.cert_stream.specs.declared.lrat.mode.Mode.{Mode}
use Rattle.cert_stream.specs.declared.lrat.mode.Mode.TheVariants.{Bad}

abbrev with_mode : LratOf → Mode → LratOf
with_mode w m = record w { mode = m }

module _ (f : ParseFault) where
  bad_turn : (w : LratOf) (b : ℕ) → (turn (with_mode w (Bad f)) b).to.mode ≡ Bad f
  bad_turn w b =
      elim (cases_Bool (eqb b 10)) [
        | inl t ↦ rw t refl
        | inr n ↦ rw n (elim (cases_Bool (is_blank b)) [ inl t ↦ rw t refl | inr k ↦ rw k refl ])
      ]

  pub bad_next : (w : LratOf) (b : ℕ) → w.mode ≡ Bad f → (turn w b).to.mode ≡ Bad f
  bad_next w b e = subst (λ m. (turn (with_mode w m) b).to.mode ≡ Bad f) (sym e) (bad_turn w b)

  -- a fault stays
  pub bad_stays : (w : LratOf) (bytes : List ℕ) → w.mode ≡ Bad f → (after w bytes).mode ≡ Bad f
  bad_stays w [] e = e
  bad_stays w (b ∷ bytes) e = bad_stays (turn w b).to bytes (bad_next w b e)
