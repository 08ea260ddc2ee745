-- A stream of whole lines that begins with a certificate is found to be one.
use Rattle.std.proofs.Common.{◌≡◌, ℕ, true, false, eqb, List, [], ◌∷◌, ◌++◌, Some, None, refl, sym, ap, ◌∙◌, subst, inl, inr, append_assoc}
use Rattle.std.proofs.lemmas.Bool.{cases_Bool, eqb-true}
use Rattle.std.proofs.lemmas.List.{append-nil}
use Rattle.cnf_form.specs.Cnf.{LitOf, Assignment}
use Rattle.cert_stream.specs.Text.{is_blank}
use Rattle.cert_stream.specs.Machine.{DrupOf, Turn, at_end, counted, end_line, end_word, ended, fault_of, turn, unended}
use Rattle.cert_stream.specs.Telling.{Saying, IsUnknown, IsFault, after, fault_said, fresh, said, saying, told_by}
use Rattle.cert_stream.specs.Stream.{sayings}
use Rattle.cert_stream.specs.declared.mode.ListKind.{ListKind}
use Rattle.cert_stream.specs.declared.mode.ListKind.TheVariants.{Clause, Deletion, Values}
use Rattle.cert_stream.specs.declared.mode.Mode.{Mode}
use Rattle.cert_stream.specs.declared.mode.Mode.TheVariants.{Start, Skip, Head, StatusHead, StatusGap, Spelled, Whole, InList, Closed, Bad, Lost}
use Rattle.cert_stream.specs.declared.mode.Part.TheVariants.{Gap, Minus, Zero, Digits}
use Rattle.cert_stream.specs.declared.mode.ParseFault.{ParseFault}
use Rattle.cert_stream.specs.declared.mode.ParseFaultKind.TheVariants.{BadLiteral}
use Rattle.cert_stream.proofs.Cutting.{after_append, said_append}
use Rattle.cert_stream.proofs.Faults.{bad_stays, with_mode}
use Rattle.cert_stream.proofs.Streams.{stream_spoken}
use Rattle.cert_stream.proofs.Turning.{turn_blank, turn_visible}
use Rattle.sby_terms.specs.declared.names.Answer.TheVariants.{Unsat}
use Rattle.cert_judge.specs.Fate.{Found}
use Rattle.cert_judge.specs.Drup.{SayingsFate}
use Rattle.cert_judge.proofs.DrupFates.{comes_more}
use Rattle.cert_judge.proofs.DrupFollowing.{found_before_unknown}
use Rattle.proof_stream.specs.Binary.{line_said}
use Rattle.proof_stream.specs.Spelling.{AreSaid, ProofLine}
use Rattle.proof_stream.specs.declared.spot.LineKind.{LineKind}
use Rattle.proof_stream.specs.declared.spot.LineKind.TheVariants.{Clause as ClauseLine, Deletion as DeletionLine}

abbrev Finds : List (List LitOf) → List (List LitOf) → Assignment → List Saying → Type 0
Finds C F x ss = SayingsFate C F x ss (Some (Found Unsat))

-- lines have no fault
no_line : (kind : LineKind) (p : ℕ) (c : List LitOf) (f : ParseFault) (ss ts : List Saying) → IsFault f ∷ ss ≡ line_said kind p c ∷ ts → ⊥
no_line ClauseLine p c f ss ts e = let k = e in cc
no_line DeletionLine p c f ss ts e = let k = e in cc

tails : (s t : Saying) (ss ts : List Saying) → s ∷ ss ≡ t ∷ ts → ss ≡ ts
tails s t ss ts e = cc

no_fault : (ls : List ProofLine) (ss : List Saying) (f : ParseFault) → AreSaid ls (ss ++ IsFault f ∷ []) → ⊥
no_fault [] [] f e = let k = e in cc
no_fault [] (s ∷ ss) f e = let k = e in cc
no_fault (l ∷ ls) [] f (p, rest, e, a) = no_line l.kind p l.lits f [] rest e
no_fault (l ∷ ls) (s ∷ ss) f (p, rest, e, a) = no_fault ls ss f (subst (AreSaid ls) (sym (tails s (line_said l.kind p l.lits) (ss ++ IsFault f ∷ []) rest e)) a)

-- after a line feed nothing waits for the stream's end
unended_none : (w : DrupOf) (kind : ListKind) → at_end (unended w kind).to.mode ≡ None
unended_none w Clause = refl
unended_none w Deletion = refl
unended_none w Values = refl

feed_none : (w : DrupOf) (m : Mode) → at_end (end_line w m).to.mode ≡ None
feed_none w (Start amid) = refl
feed_none w (Skip amid) = refl
feed_none w (Head kind) = unended_none w kind
feed_none w StatusHead = refl
feed_none w StatusGap = refl
feed_none w (Spelled n) = refl
feed_none w Whole = refl
feed_none w (InList kind part) = unended_none w kind
feed_none w Closed = refl
feed_none w (Bad f) = refl
feed_none w Lost = refl

turn_none : (w : DrupOf) → at_end (turn w 10).to.mode ≡ None
turn_none w = feed_none (end_word w w.mode).to (end_word w w.mode).to.mode

-- a 0 counts once white space or a line feed follows
abbrev turned : DrupOf → ℕ → List Saying
turned w b = told_by (turn w b).to (turn w b).event

zero_fed : (w : DrupOf) (kind : ListKind) → turned (with_mode w (InList kind Zero)) 10 ≡ saying w (ended kind) ∷ []
zero_fed w Clause = refl
zero_fed w Deletion = refl
zero_fed w Values = refl

zero_parted : (w : DrupOf) (kind : ListKind) → (let t = counted w.taken (end_word (with_mode w (InList kind Zero)) (InList kind Zero)) in told_by t.to t.event) ≡ saying w (ended kind) ∷ []
zero_parted w Clause = refl
zero_parted w Deletion = refl
zero_parted w Values = refl

zero_told : (w : DrupOf) (kind : ListKind) (b : ℕ) (f : eqb b 10 ≡ false) (t : is_blank b ≡ true) → turned (with_mode w (InList kind Zero)) b ≡ saying w (ended kind) ∷ []
zero_told w kind b f t = ap (λ (z : Turn). told_by z.to z.event) (turn_blank (with_mode w (InList kind Zero)) b f t) ∙ zero_parted w kind

zero_bad : (w : DrupOf) (kind : ListKind) (b : ℕ) → eqb b 10 ≡ false → is_blank b ≡ false → (turn (with_mode w (InList kind Zero)) b).to.mode ≡ Bad (record { kind = BadLiteral; byte = w.taken })
zero_bad w kind b f t = ap (λ (z : Turn). z.to.mode) (turn_visible (with_mode w (InList kind Zero)) b f t)

module _ (C F : List (List LitOf)) (x : Assignment) (vars : ℕ) (cert rest : List ℕ) (ls : List ProofLine) (lines : AreSaid ls (sayings vars false (cert ++ rest))) (u : List ℕ) (fed : cert ++ rest ≡ u ++ 10 ∷ []) where
  abbrev w : DrupOf
  w = after (fresh vars) cert

  abbrev more : List Saying
  more = said w rest ++ fault_said (fault_of (after w rest).mode)

  whole_spoken : sayings vars false (cert ++ rest) ≡ said (fresh vars) cert ++ more
  whole_spoken =
      sym (stream_spoken vars false (cert ++ rest))
      ∙ ap (λ z. z ++ fault_said (fault_of (after (fresh vars) (cert ++ rest)).mode)) (said_append (fresh vars) cert rest)
      ∙ ap (λ (v : DrupOf). (said (fresh vars) cert ++ said w rest) ++ fault_said (fault_of v.mode)) (after_append (fresh vars) cert rest)
      ∙ append_assoc (said (fresh vars) cert) (said w rest) (fault_said (fault_of (after w rest).mode))

  not_after : (f : ParseFault) → (after w rest).mode ≡ Bad f → ⊥
  not_after f e =
      let k : said (fresh vars) cert ++ more ≡ (said (fresh vars) cert ++ said w rest) ++ IsFault f ∷ [] =
      ap (λ m. said (fresh vars) cert ++ (said w rest ++ fault_said (fault_of m))) e ∙ sym (append_assoc (said (fresh vars) cert) (said w rest) (IsFault f ∷ [])) in
      no_fault ls (said (fresh vars) cert ++ said w rest) f (subst (AreSaid ls) (whole_spoken ∙ k) lines)

  abbrev Goal : Type 0
  Goal = Finds C F x (said (fresh vars) cert ++ more)

  quiet : Finds C F x (said (fresh vars) cert ++ []) → Goal
  quiet h = comes_more C F x (said (fresh vars) cert) more (Found Unsat) (subst (λ (z : List Saying). Finds C F x z) (append-nil (said (fresh vars) cert)) h)

  unknown : Finds C F x (said (fresh vars) cert ++ IsUnknown ∷ []) → Goal
  unknown h = comes_more C F x (said (fresh vars) cert) more (Found Unsat) (found_before_unknown C F x Unsat (said (fresh vars) cert) h)

  -- a 0 that ends the certificate
  module _ (kind : ListKind) (e : w.mode ≡ InList kind Zero) (h : Finds C F x (said (fresh vars) cert ++ saying w (ended kind) ∷ [])) where
    said_next : (b : ℕ) (bs : List ℕ) → rest ≡ b ∷ bs → turned (with_mode w (InList kind Zero)) b ≡ saying w (ended kind) ∷ [] → Goal
    said_next b bs r t =
        let s : turned w b ≡ saying w (ended kind) ∷ [] = subst (λ m. turned (with_mode w m) b ≡ saying w (ended kind) ∷ []) (sym e) t in
        let tail : List Saying = said (turn w b).to bs ++ fault_said (fault_of (after w rest).mode) in
        let k : more ≡ (saying w (ended kind) ∷ []) ++ tail =
        ap (λ z. said w z ++ fault_said (fault_of (after w rest).mode)) r ∙ append_assoc (turned w b) (said (turn w b).to bs) (fault_said (fault_of (after w rest).mode)) ∙ ap (λ z. z ++ tail) s in
        subst (λ z. Finds C F x (said (fresh vars) cert ++ z)) (sym k)
        (subst (λ (z : List Saying). Finds C F x z) (append_assoc (said (fresh vars) cert) (saying w (ended kind) ∷ []) tail) (comes_more C F x (said (fresh vars) cert ++ saying w (ended kind) ∷ []) tail (Found Unsat) h))

    zero_ends : (bytes : List ℕ) → rest ≡ bytes → Goal
    zero_ends [] r =
        let c : cert ≡ u ++ 10 ∷ [] = sym (append-nil cert) ∙ ap (λ z. cert ++ z) (sym r) ∙ fed in
        let k : at_end w.mode ≡ None = ap (λ z. at_end (after (fresh vars) z).mode) c ∙ ap (λ (v : DrupOf). at_end v.mode) (after_append (fresh vars) u (10 ∷ [])) ∙ turn_none (after (fresh vars) u) in
        let q : at_end (InList kind Zero) ≡ None = ap at_end (sym e) ∙ k in
        absurd (let z = q in cc)
    zero_ends (b ∷ bs) r =
        elim (cases_Bool (eqb b 10)) [
          | inl t ↦ said_next b bs r (subst (λ z. turned (with_mode w (InList kind Zero)) z ≡ saying w (ended kind) ∷ []) (sym (eqb-true b 10 t)) (zero_fed w kind))
          | inr f ↦ elim (cases_Bool (is_blank b)) [
            | inl t ↦ said_next b bs r (zero_told w kind b f t)
            | inr t ↦
                let m = subst (λ m. (turn (with_mode w m) b).to.mode ≡ Bad (record { kind = BadLiteral; byte = w.taken })) (sym e) (zero_bad w kind b f t) in
                absurd (not_after (record { kind = BadLiteral; byte = w.taken }) (ap (λ z. (after w z).mode) r ∙ bad_stays (record { kind = BadLiteral; byte = w.taken }) (turn w b).to bs m))
          ]
        ]

  by_mode : (m : Mode) → w.mode ≡ m → Finds C F x (said (fresh vars) cert ++ (told_by w (at_end m) ++ fault_said (fault_of m))) → Goal
  by_mode (Start a) e h = quiet h
  by_mode (Skip a) e h = quiet h
  by_mode (Head kind) e h = quiet h
  by_mode StatusHead e h = quiet h
  by_mode StatusGap e h = quiet h
  by_mode (Spelled n) e h = elim (cases_Bool (eqb n 7)) [ inl t ↦ unknown (rw t at h) | inr t ↦ quiet (rw t at h) ]
  by_mode Whole e h = unknown h
  by_mode (InList kind Gap) e h = quiet h
  by_mode (InList kind Minus) e h = quiet h
  by_mode (InList kind Zero) e h = zero_ends kind e h rest refl
  by_mode (InList kind (Digits l)) e h = quiet h
  by_mode Closed e h = quiet h
  by_mode (Bad f) e h = absurd (not_after f (bad_stays f w rest e))
  by_mode Lost e h = quiet h

  pub prefix_found : Finds C F x (sayings vars true cert) → Finds C F x (sayings vars false (cert ++ rest))
  prefix_found h = subst (λ (z : List Saying). Finds C F x z) (sym whole_spoken) (by_mode w.mode refl (subst (λ (z : List Saying). Finds C F x z) (sym (stream_spoken vars true cert)) h))
