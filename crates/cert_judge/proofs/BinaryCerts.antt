-- Binary proofs that are certificates.
use Rattle.std.proofs.Common.{◌≡◌, ◌⊎◌, ℕ, Bool, true, false, List, [], ◌∷◌, ◌++◌, length, Option, Some, None, refl, sym, ap, ◌∙◌, subst, inl, inr, arith, append_assoc}
use Rattle.std.proofs.lemmas.List.{append-nil}
use Rattle.cnf_form.specs.Cnf.{LitOf, FormulaOf, IsAdmitted}
use Rattle.cert_stream.specs.Telling.{Saying, IsClause}
use Rattle.cert_stream.specs.Stream.{bad}
use Rattle.cert_stream.specs.declared.mode.ParseFaultKind.{ParseFaultKind}
use Rattle.proof_stream.specs.Binary.{line_said}
use Rattle.proof_stream.specs.File.{fresh, spoken}
use Rattle.proof_stream.specs.Spelling.{AreNumbers, AreSaid, IsBinaryProof, ProofLine, SaysLines, letter}
use Rattle.proof_stream.specs.declared.spot.Form.TheVariants.{Binary}
use Rattle.proof_stream.specs.declared.spot.LineKind.{LineKind}
use Rattle.proof_stream.specs.declared.spot.LineKind.TheVariants.{Clause, Deletion}
use Rattle.proof_stream.proofs.AnyLines.{binary_says}
use Rattle.proof_stream.proofs.BinaryLines.{binary_lines}
use Rattle.proof_stream.proofs.Files.{file_spoken}
use Rattle.sby_terms.specs.declared.names.Answer.TheVariants.{Unsat}
use Rattle.cert_judge.specs.BinaryCert.{IsRefutation, LineLeads, LinesLead}
use Rattle.cert_judge.specs.Drup.{StreamFate, SayingsFate}
use Rattle.cert_judge.specs.Fate.{Fate, Found}
use Rattle.cert_judge.specs.KindCert.{IsClosedCert, IsOpenCert}
use Rattle.cert_judge.specs.ProofFile.{BytesFate, LinesFate, tried}
use Rattle.cert_judge.specs.Values.{unnamed}
use Rattle.cert_judge.specs.declared.stream.StreamKind.TheVariants.{ProofBinary}
use Rattle.cert_judge.proofs.Deletions.{Clauses}
use Rattle.cert_judge.proofs.FileFates.{found_at_end}

-- the line of the empty clause
abbrev pub empty : ProofLine
empty = record { kind = Clause; lits = [] }

-- lines one after the other
said_append : (ls ms : List ProofLine) (ss : List Saying) → AreSaid (ls ++ ms) ss → (front : List Saying) × (back : List Saying) × (ss ≡ front ++ back) × AreSaid ls front × AreSaid ms back
said_append [] ms ss h = ([], ss, refl, refl, h)
said_append (l ∷ ls) ms ss (p, s, e, h) =
    let k = said_append ls ms s h in
    (line_said l.kind p l.lits ∷ k.0, k.1, e ∙ ap (λ z. line_said l.kind p l.lits ∷ z) k.2, (p, k.0, refl, k.3), k.4)

proof_append : (vars : ℕ) (ls ms : List ProofLine) (a b : List ℕ) → IsBinaryProof vars a ls → IsBinaryProof vars b ms → IsBinaryProof vars (a ++ b) (ls ++ ms)
proof_append vars [] ms a b e h = subst (λ z. IsBinaryProof vars z ms) (sym (ap (λ z. z ++ b) e)) h
proof_append vars (l ∷ ls) ms a b (text, rest, e, n, len, k) h =
    (text, rest ++ b, ap (λ z. z ++ b) e ∙ ap (λ z. letter l.kind ∷ z) (append_assoc text (0 ∷ rest) b), n, len, proof_append vars ls ms rest b k h)

module _ (C : Clauses) where
  abbrev SayFate : Clauses → List Saying → Option Fate → Type 0
  SayFate F ss fate = SayingsFate C F unnamed ss fate

  -- what comes after lines that lead from F to G
  line_leads : (kind : LineKind) (c : List LitOf) (p : ℕ) (F H : Clauses) (ss : List Saying) (fate : Option Fate) → LineLeads kind c F H → SayFate H ss fate → SayFate F (line_said kind p c ∷ ss) fate
  line_leads Clause c p F H ss fate (n, a, e) h = inr (inl (a, n, subst (λ K. SayFate K ss fate) e h))
  line_leads Deletion c p F H ss fate d h = (H, d, h)

  lines_lead : (ls : List ProofLine) (F G : Clauses) (ss ts : List Saying) (fate : Option Fate) → AreSaid ls ss → LinesLead ls F G → SayFate G ts fate → SayFate F (ss ++ ts) fate
  lines_lead [] F G ss ts fate e g h = subst (λ (z : List Saying). SayFate F (z ++ ts) fate) (sym e) (subst (λ K. SayFate K ts fate) g h)
  lines_lead (l ∷ ls) F G ss ts fate (p, s, e, a) (H, k, g) h =
      subst (λ (z : List Saying). SayFate F (z ++ ts) fate) (sym e) (line_leads l.kind l.lits p F H (s ++ ts) fate k (lines_lead ls H G s ts fate a g h))

  -- and back: lines that are a certificate have a line of the empty clause, admitted, or lead to where the rest is one
  abbrev Refuted : Clauses → List ProofLine → Type 0
  Refuted F ls = (ms : List ProofLine) × (ns : List ProofLine) × (G : Clauses) × (ls ≡ ms ++ empty ∷ ns) × LinesLead ms F G × IsAdmitted G []

  abbrev Split : Clauses → List ProofLine → List Saying → Type 0
  Split F ls ts = Refuted F ls ⊎ ((G : Clauses) × LinesLead ls F G × SayFate G ts (Some (Found Unsat)))

  later : (l : ProofLine) (ls : List ProofLine) (F H : Clauses) (ts : List Saying) → LineLeads l.kind l.lits F H → Split H ls ts → Split F (l ∷ ls) ts
  later l ls F H ts k (inl (ms, ns, G, e, g, a)) = inl (l ∷ ms, ns, G, ap (λ z. l ∷ z) e, (H, k, g), a)
  later l ls F H ts k (inr (G, g, h)) = inr (G, (H, k, g), h)

  line_splits : (kind : LineKind) (c : List LitOf) (p : ℕ) (ls : List ProofLine) (F : Clauses) (ss ts : List Saying) → ((H : Clauses) → SayFate H ss (Some (Found Unsat)) → Split H ls ts)
      → SayFate F (line_said kind p c ∷ ss) (Some (Found Unsat)) → Split F (record { kind = kind; lits = c } ∷ ls) ts
  line_splits Clause c p ls F ss ts again (inl (a, e, h)) = inl ([], ls, F, ap (λ z. record { kind = Clause; lits = z } ∷ ls) e, refl, subst (λ z. IsAdmitted F z) e a)
  line_splits Clause c p ls F ss ts again (inr (inl (a, n, h))) = later (record { kind = Clause; lits = c }) ls F (F ++ c ∷ []) ts (n, a, refl) (again (F ++ c ∷ []) h)
  line_splits Clause c p ls F ss ts again (inr (inr (a, e))) = absurd (let k = e in cc)
  line_splits Deletion c p ls F ss ts again (H, d, h) = later (record { kind = Deletion; lits = c }) ls F H ts d (again H h)

  lines_split : (ls : List ProofLine) (F : Clauses) (ss ts : List Saying) → AreSaid ls ss → SayFate F (ss ++ ts) (Some (Found Unsat)) → Split F ls ts
  lines_split [] F ss ts e h = inr (F, refl, subst (λ (z : List Saying). SayFate F (z ++ ts) (Some (Found Unsat))) e h)
  lines_split (l ∷ ls) F ss ts (p, s, e, a) h =
      line_splits l.kind l.lits p ls F (s ++ ts) ts (λ H k. lines_split ls H s ts a k) (subst (λ (z : List Saying). SayFate F (z ++ ts) (Some (Found Unsat))) e h)

  -- the empty clause
  empty_found : (G : Clauses) (p : ℕ) (ts : List Saying) → IsAdmitted G [] → SayFate G (IsClause [] p ∷ ts) (Some (Found Unsat))
  empty_found G p ts a = inl (a, refl, refl)

  last_admitted : (G : Clauses) (p : ℕ) → SayFate G (IsClause [] p ∷ []) (Some (Found Unsat)) → IsAdmitted G []
  last_admitted G p (inl (a, e, h)) = a
  last_admitted G p (inr (inl (a, n, h))) = a
  last_admitted G p (inr (inr (a, e))) = absurd (let k = e in cc)

-- the bytes before a line of the empty clause
no_numbers : (vars : ℕ) (text : List ℕ) → AreNumbers vars text [] → text ≡ []
no_numbers vars text e = e

cut_lines : (vars : ℕ) (ms ns : List ProofLine) (bytes : List ℕ) → IsBinaryProof vars bytes (ms ++ empty ∷ ns) → (front : List ℕ) × (rest : List ℕ) × (bytes ≡ front ++ 97 ∷ 0 ∷ rest) × IsBinaryProof vars front ms
cut_lines vars [] ns bytes (text, rest, e, n, len, h) = ([], rest, e ∙ ap (λ z. 97 ∷ z ++ 0 ∷ rest) (no_numbers vars text n), refl)
cut_lines vars (l ∷ ms) ns bytes (text, rest, e, n, len, h) =
    let k = cut_lines vars ms ns rest h in (
      letter l.kind ∷ text ++ 0 ∷ k.0,
      k.1,
      e ∙ ap (λ z. letter l.kind ∷ text ++ 0 ∷ z) k.2 ∙ ap (λ z. letter l.kind ∷ z) (sym (append_assoc text (0 ∷ k.0) (97 ∷ 0 ∷ k.1))),
      (text, k.0, refl, n, len, k.3),
    )

module _ (f : FormulaOf) where
  abbrev Finds : List Saying → Type 0
  Finds ss = StreamFate f ss (Some (Found Unsat))

  abbrev says : Bool → List ℕ → List Saying
  says ended bytes = spoken ended (fresh Binary f.vars) bytes

  -- a file that its end completes
  pub binary_open : (bytes : List ℕ) → IsRefutation f bytes → BytesFate Binary f true bytes (Some (Found Unsat))
  binary_open bytes (ls, G, p, g, a) =
      let s = file_spoken Binary f.vars false bytes in
      let t = file_spoken Binary f.vars true bytes in
      let n : StreamFate f (says false bytes) None =
      subst (λ (z : List Saying). StreamFate f z None) (append-nil (says false bytes))
      (lines_lead f.clauses ls f.clauses G (says false bytes) [] None (subst (AreSaid ls) (sym s) (binary_says f.vars (length bytes) false ls bytes p)) g refl) in
      let k = lines_lead f.clauses ls f.clauses G (says true bytes) (IsClause [] (length bytes) ∷ []) (Some (Found Unsat)) (subst (AreSaid ls) (sym t) (binary_says f.vars (length bytes) true ls bytes p)) g
      (empty_found f.clauses G (length bytes) [] a) in
      inr ((says false bytes, s, n), (says true bytes, Found Unsat, t, k, refl))

  empty_line : IsBinaryProof f.vars (97 ∷ 0 ∷ []) (empty ∷ [])
  empty_line = ([], [], refl, refl, omega arith, refl)

  -- one with a line of the empty clause
  pub binary_closed : (front : List ℕ) → IsRefutation f front → BytesFate Binary f false (front ++ 97 ∷ 0 ∷ []) (Some (Found Unsat))
  binary_closed front (ls, G, p, g, a) =
      let bytes : List ℕ = front ++ 97 ∷ 0 ∷ [] in
      let s = file_spoken Binary f.vars false bytes in
      let q = proof_append f.vars ls (empty ∷ []) front (97 ∷ 0 ∷ []) p empty_line in
      let k = said_append ls (empty ∷ []) (says false bytes) (subst (AreSaid (ls ++ empty ∷ [])) (sym s) (binary_says f.vars (length bytes) false (ls ++ empty ∷ []) bytes q)) in
      let h : Finds (k.0 ++ k.1) =
      subst (λ (z : List Saying). Finds (k.0 ++ z)) (sym k.4.2) (lines_lead f.clauses ls f.clauses G k.0 (IsClause [] k.4.0 ∷ k.4.1) (Some (Found Unsat)) k.3 g (empty_found f.clauses G k.4.0 k.4.1 a)) in
      (says false bytes, s, subst Finds (sym k.2) h)

  -- a certificate with which the bytes begin
  abbrev Closed : List ℕ → Type 0
  Closed bytes = (cert : List ℕ) × (rest : List ℕ) × (bytes ≡ cert ++ rest) × IsClosedCert ProofBinary f cert Unsat × Unit {0}

  closed_in : (bytes front rest : List ℕ) (ls : List ProofLine) → bytes ≡ front ++ rest → IsBinaryProof f.vars front ls → Refuted f.clauses f.clauses ls → Closed bytes
  closed_in bytes front rest ls e p (ms, ns, G, q, g, a) =
      let k = cut_lines f.vars ms ns front (subst (IsBinaryProof f.vars front) q p) in
      let cert : List ℕ = k.0 ++ 97 ∷ 0 ∷ [] in
      let whole : bytes ≡ cert ++ (k.1 ++ rest) =
      e ∙ ap (λ z. z ++ rest) k.2 ∙ append_assoc k.0 (97 ∷ 0 ∷ k.1) rest ∙ sym (append_assoc k.0 (97 ∷ 0 ∷ []) (k.1 ++ rest)) in
      (cert, k.1 ++ rest, whole, (refl, (k.0, refl, (ms, G, k.3, g, a))), tt)

  nothing_found : (tail : List Saying) (G : Clauses) → ((kind : ParseFaultKind) × (byte : ℕ) × (tail ≡ bad kind byte)) → (more : List Saying) → SayingsFate f.clauses G unnamed (tail ++ more) (Some (Found Unsat)) → ⊥
  nothing_found tail G (kind, byte, e) more h = let k = subst (λ (z : List Saying). SayingsFate f.clauses G unnamed (z ++ more) (Some (Found Unsat))) e h in cc

  pub binary_lines_cert : (bytes : List ℕ) → LinesFate Binary f bytes (Some (Found Unsat)) → Closed bytes
  binary_lines_cert bytes (ss, s, h) = by (binary_lines f.vars false bytes ss s)
    where
      by : SaysLines f.vars false bytes ss → Closed bytes
      by k =
          elim (lines_split f.clauses k.lines f.clauses k.said k.tail k.told (subst Finds k.says h)) [
            | inl r ↦ closed_in bytes k.front k.rest k.lines k.are k.proof r
            | inr (G, g, t) ↦ absurd (elim k.ends [
              | inl (e, r) ↦ let q = subst (λ (z : List Saying). SayingsFate f.clauses G unnamed z (Some (Found Unsat))) e t in cc
              | inr b ↦ nothing_found k.tail G b [] (subst (λ (z : List Saying). SayingsFate f.clauses G unnamed z (Some (Found Unsat))) (sym (append-nil k.tail)) t)
            ])
          ]

  end_cert : (bytes : List ℕ) (ss : List Saying) → SaysLines f.vars true bytes ss → Finds (tried (length bytes) ss) → Closed bytes ⊎ IsOpenCert ProofBinary f bytes Unsat
  end_cert bytes ss k h =
      let last : List Saying = IsClause [] (length bytes) ∷ [] in
      elim (lines_split f.clauses k.lines f.clauses k.said (k.tail ++ last) k.told (subst Finds (ap (λ z. z ++ last) k.says ∙ append_assoc k.said k.tail last) h)) [
        | inl r ↦ inl (closed_in bytes k.front k.rest k.lines k.are k.proof r)
        | inr (G, g, t) ↦ elim k.ends [
          | inl (e, r) ↦
              let q : bytes ≡ k.front = k.are ∙ ap (λ z. k.front ++ z) (r refl) ∙ append-nil k.front in
              let a = last_admitted f.clauses G (length bytes) (subst (λ (z : List Saying). SayingsFate f.clauses G unnamed (z ++ last) (Some (Found Unsat))) e t) in
              inr (refl, (k.lines, G, subst (λ z. IsBinaryProof f.vars z k.lines) (sym q) k.proof, g, a))
          | inr b ↦ absurd (nothing_found k.tail G b last t)
        ]
      ]

  pub binary_cert : (bytes : List ℕ) → BytesFate Binary f true bytes (Some (Found Unsat)) → Closed bytes ⊎ IsOpenCert ProofBinary f bytes Unsat
  binary_cert bytes (inl h) = inl (binary_lines_cert bytes h)
  binary_cert bytes (inr (k, (ss, v, s, h, e))) =
      end_cert bytes ss (binary_lines f.vars true bytes ss s) (subst (λ z. StreamFate f (tried (length bytes) ss) (Some z)) (found_at_end (length bytes) Unsat v e) h)
