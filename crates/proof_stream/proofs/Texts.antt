-- A proof file in text says what its lines say.
use Rattle.std.proofs.Common.{◌≡◌, ℕ, Bool, true, false, ◌&&◌, List, [], ◌∷◌, ◌++◌, length, Option, Some, None, refl, ap, sym, ◌∙◌, inl, inr, arith, append_assoc, cond, subst}
use Rattle.std.proofs.lemmas.List.{append-nil}
use Rattle.cert_stream.specs.Machine.{DrupOf, fault_of, turn}
use Rattle.cert_stream.specs.Telling.{Saying, fault_said, told_by, after as parser_after, said as parser_said, fresh as parser_fresh}
use Rattle.cert_stream.specs.Stream.{bad, sayings}
use Rattle.cert_stream.specs.declared.mode.Event.{Event}
use Rattle.cert_stream.specs.declared.mode.Event.TheVariants.{Clause, Delete, Value, ValuesEnd, Unknown}
use Rattle.cert_stream.specs.declared.mode.ParseFault.{ParseFault}
use Rattle.cert_stream.specs.declared.mode.ParseFaultKind.TheVariants.{BadLine}
use Rattle.cert_stream.proofs.Streams.{stream_spoken}
use Rattle.cert_stream.proofs.Cutting.{after_taken}
use Rattle.cert_stream.proofs.Digits.{both_true}
use Rattle.proof_stream.specs.Text.{fault_or, is_claim, text_fresh}
use Rattle.proof_stream.specs.Passing.{Passes, starts_after}
use Rattle.proof_stream.specs.File.{FileOf, InText, after, fault, said, spoken}
use Rattle.proof_stream.specs.Lines.{TextSays, Plain, Refused, up_to_fault}
use Rattle.proof_stream.proofs.Passing.{text, said_passing, after_passing, said_claim, after_claim, refusal}
use Rattle.proof_stream.proofs.Heads.{split, starts_head, claim_here, passes_none, none_passes}
use Rattle.proof_stream.proofs.Spoken.{text_ended}

-- no fault is told by the way
up_told : (w : DrupOf) (o : Option Event) (ss : List Saying) → up_to_fault (told_by w o ++ ss) ≡ told_by w o ++ up_to_fault ss
up_told w None ss = refl
up_told w (Some Clause) ss = refl
up_told w (Some Delete) ss = refl
up_told w (Some (Value l)) ss = refl
up_told w (Some ValuesEnd) ss = refl
up_told w (Some Unknown) ss = refl

up_said : (w : DrupOf) (a : List ℕ) (ss : List Saying) → up_to_fault (parser_said w a ++ ss) ≡ parser_said w a ++ up_to_fault ss
up_said w [] ss = refl
up_said w (b ∷ a) ss =
    let told : List Saying = told_by (turn w b).to (turn w b).event in
    let more : List Saying = parser_said (turn w b).to a in
    ap up_to_fault (append_assoc told more ss) ∙ up_told (turn w b).to (turn w b).event (more ++ ss) ∙ ap (λ z. told ++ z) (up_said (turn w b).to a ss) ∙ sym (append_assoc told more (up_to_fault ss))

up_fault : (o : Option ParseFault) (n : ℕ) → up_to_fault (fault_said o ++ bad BadLine n) ≡ fault_said (fault_or o (Some (record { kind = BadLine; byte = n })))
up_fault None n = refl
up_fault (Some f) n = refl

or_none : (o : Option ParseFault) → fault_or o None ≡ o
or_none None = refl
or_none (Some f) = refl

module _ (vars : ℕ) where
  abbrev start : DrupOf
  start = parser_fresh vars

  abbrev spoken_text : List ℕ → List Saying
  spoken_text bytes = spoken false (InText (text_fresh vars)) bytes

  said_stream : (front : List ℕ) → parser_said start front ++ fault_said (fault_of (parser_after start front).mode) ≡ sayings vars false front
  said_stream front = stream_spoken vars false front

  plain_spoken : (bytes : List ℕ) → Passes true bytes → spoken_text bytes ≡ sayings vars false bytes
  plain_spoken bytes p =
      let e : bytes ++ [] ≡ bytes = append-nil bytes in
      let s : said (InText (text_fresh vars)) bytes ≡ parser_said start bytes = ap (said (InText (text_fresh vars))) (sym e) ∙ said_passing start true bytes [] p ∙ append-nil (parser_said start bytes) in
      let a : after (InText (text_fresh vars)) bytes ≡ InText (text (parser_after start bytes) (starts_after true bytes) None) = ap (after (InText (text_fresh vars))) (sym e) ∙ after_passing start true bytes [] p in
      ap (λ z. z ++ fault_said (fault (after (InText (text_fresh vars)) bytes))) s
      ∙ ap (λ (r : FileOf). parser_said start bytes ++ fault_said (fault r)) a
      ∙ ap (λ o. parser_said start bytes ++ fault_said o) (or_none (fault_of (parser_after start bytes).mode))
      ∙ said_stream bytes

  module _ (front : List ℕ) (b : ℕ) (rest : List ℕ) (p : Passes true front) (t : (starts_after true front && is_claim b) ≡ true) where
    abbrev there : DrupOf
    there = parser_after start front

    said_front : said (InText (text_fresh vars)) (front ++ b ∷ rest) ≡ parser_said start front
    said_front = said_passing start true front (b ∷ rest) p ∙ ap (λ z. parser_said start front ++ z) (said_claim there (starts_after true front) b rest t) ∙ append-nil (parser_said start front)

    after_front : after (InText (text_fresh vars)) (front ++ b ∷ rest) ≡ InText (text there (starts_after true front) (refusal there))
    after_front = after_passing start true front (b ∷ rest) p ∙ after_claim there (starts_after true front) b rest t

    taken_there : there.taken ≡ length front
    taken_there = let e = after_taken start front in omega (arith, e)

    refused_spoken : spoken_text (front ++ b ∷ rest) ≡ up_to_fault (sayings vars false front ++ bad BadLine (length front))
    refused_spoken =
        ap (λ z. z ++ fault_said (fault (after (InText (text_fresh vars)) (front ++ b ∷ rest)))) said_front
        ∙ ap (λ (r : FileOf). parser_said start front ++ fault_said (fault r)) after_front
        ∙ ap (λ n. parser_said start front ++ fault_said (fault_or (fault_of there.mode) (Some (record { kind = BadLine; byte = n })))) taken_there
        ∙ ap (λ z. parser_said start front ++ z) (sym (up_fault (fault_of there.mode) (length front)))
        ∙ sym (up_said start front (fault_said (fault_of there.mode) ++ bad BadLine (length front)))
        ∙ ap up_to_fault (sym (append_assoc (parser_said start front) (fault_said (fault_of there.mode)) (bad BadLine (length front))))
        ∙ ap (λ z. up_to_fault (z ++ bad BadLine (length front))) (said_stream front)

  text_says : (bytes : List ℕ) → TextSays vars bytes (spoken_text bytes)
  text_says bytes =
      elim (split true bytes) [
        | inl p ↦ Plain (passes_none bytes p) (plain_spoken bytes p)
        | inr (front, b, rest, e, p, t) ↦
            let k = both_true (starts_after true front) (is_claim b) t in
            Refused front b rest e (starts_head front k.0) k.1 (passes_none front p) (ap spoken_text e ∙ refused_spoken front b rest p t)
      ]

  text_once : (bytes : List ℕ) (ss : List Saying) → TextSays vars bytes ss → ss ≡ spoken_text bytes
  text_once bytes ss (Plain n e) = e ∙ sym (plain_spoken bytes (none_passes bytes n))
  text_once bytes ss (Refused front b rest g h t n e) = e ∙ sym (ap spoken_text g ∙ refused_spoken front b rest (none_passes front n) (claim_here front b h t))

  abbrev read : Bool → List ℕ → List ℕ
  read ended bytes = cond ended (bytes ++ 10 ∷ []) bytes

  ended_spoken : (ended : Bool) (bytes : List ℕ) → spoken ended (InText (text_fresh vars)) bytes ≡ spoken_text (read ended bytes)
  ended_spoken true bytes = text_ended (text_fresh vars) bytes
  ended_spoken false bytes = refl

  pub text_spoken : (ended : Bool) (bytes : List ℕ) → TextSays vars (read ended bytes) (spoken ended (InText (text_fresh vars)) bytes)
  text_spoken ended bytes = subst (TextSays vars (read ended bytes)) (sym (ended_spoken ended bytes)) (text_says (read ended bytes))

  pub text_spoken_once : (ended : Bool) (bytes : List ℕ) (ss : List Saying) → TextSays vars (read ended bytes) ss → ss ≡ spoken ended (InText (text_fresh vars)) bytes
  text_spoken_once ended bytes ss h = text_once (read ended bytes) ss h ∙ sym (ended_spoken ended bytes)
