-- The bytes of a hinted stream say what its lines say.
use Rattle.std.proofs.Common.{◌≡◌, ℕ, zero, suc, ◌+◌, ◌≤◌, Bool, true, false, List, [], ◌∷◌, length, refl, ap, sym, ◌∙◌, inl, inr, arith}
use Rattle.std.proofs.lemmas.List.{append-nil, length-append}
use Rattle.cert_stream.specs.Text.{lines_of, words_from}
use Rattle.cert_stream.specs.declared.mode.ParseFaultKind.TheVariants.{BadLine}
use Rattle.cert_stream.proofs.Streams.{IsLast, cut, some_line}
use Rattle.cert_stream.specs.LratTelling.{fresh, spoken}
use Rattle.cert_stream.specs.LratLines.{bad, line_says, lines_say, sayings}
use Rattle.cert_stream.proofs.LratTurning.{nothing}
use Rattle.cert_stream.proofs.LratSpeaking.{speak_is, from_line}
use Rattle.cert_stream.proofs.LratTails.{fed_tail, no_tail}
use Rattle.cert_stream.proofs.LratLining.{start_text}

module _ (vars : ℕ) (ended : Bool) where
  -- what a line says after which others come
  pub fed_says : (amid : Bool) (at : ℕ) (t : List ℕ) (ts : List (List ℕ)) (u : List ℕ) (us : List (List ℕ)) → ts ≡ u ∷ us
      → lines_say vars ended amid at (t ∷ ts)
      ≡ line_says vars true amid (bad BadLine (at + length t)) (lines_say vars ended true (at + length t + 1) ts) (lines_say vars ended false (at + length t + 1) ts) (words_from true at [] t)
  fed_says amid at t ts u us e = rw e refl

  last_spoken : (bytes : List ℕ) (at : ℕ) (amid : Bool) → IsLast bytes → from_line vars ended at amid bytes ≡ lines_say vars ended amid at (lines_of bytes)
  last_spoken bytes at amid h =
      ap (from_line vars ended at amid) (sym (append-nil bytes))
      ∙ start_text vars ended false ended [] [] [] (at + length bytes) [] (no_tail vars ended (at + length bytes)) amid bytes at 0 nothing h.none refl
      ∙ ap (lines_say vars ended amid at) (sym h.lines)

  pub lines_spoken : (fuel : ℕ) (bytes : List ℕ) (at : ℕ) (amid : Bool) → length bytes ≤ fuel → from_line vars ended at amid bytes ≡ lines_say vars ended amid at (lines_of bytes)
  lines_spoken zero [] at amid l = last_spoken [] at amid (record { none = tt; lines = refl })
  lines_spoken zero (b ∷ bs) at amid l = absurd (omega arith)
  lines_spoken (suc fuel) bytes at amid l =
      elim (cut bytes) [
        | inr h ↦ last_spoken bytes at amid h
        | inl h ↦
            let feed : ℕ = at + length h.text in
            let len : length bytes ≡ length h.text + length (10 ∷ h.rest) = ap length h.are ∙ length-append h.text (10 ∷ h.rest) in
            let short : length h.rest ≤ fuel = omega (arith, len, l) in
            let w = some_line h.rest in
            ap (from_line vars ended at amid) h.are
            ∙ start_text vars ended true true (bad BadLine feed) (from_line vars ended (feed + 1) true h.rest) (from_line vars ended (feed + 1) false h.rest) feed (10 ∷ h.rest)
            (fed_tail vars ended feed h.rest) amid h.text at 0 nothing h.none refl
            ∙ ap (λ z. line_says vars true amid (bad BadLine feed) z (from_line vars ended (feed + 1) false h.rest) (words_from true at [] h.text)) (lines_spoken fuel h.rest (feed + 1) true short)
            ∙ ap (λ z. line_says vars true amid (bad BadLine feed) (lines_say vars ended true (feed + 1) (lines_of h.rest)) z (words_from true at [] h.text)) (lines_spoken fuel h.rest (feed + 1) false short)
            ∙ sym (ap (lines_say vars ended amid at) h.lines ∙ fed_says amid at h.text (lines_of h.rest) w.0 w.1 w.2)
      ]

  pub stream_spoken : (bytes : List ℕ) → spoken ended (fresh vars) bytes ≡ sayings vars ended bytes
  stream_spoken bytes = sym (speak_is ended (fresh vars) bytes) ∙ lines_spoken (length bytes) bytes 0 false (omega arith)
