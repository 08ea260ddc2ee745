-- Proofs and certificates.
use Rattle.std.proofs.Common.{◌≡◌, ℕ, ◌+◌, ◌-◌, ◌≤◌, true, false, List, [], ◌∷◌, ◌++◌, length, take, drop, take-append-drop, Some, refl, sym, ap, ◌∙◌, subst, inl, inr, arith, append_assoc}
use Rattle.cnf_form.specs.Cnf.{LitOf, FormulaOf}
use Rattle.cnf_form.specs.Dimacs.{IsDimacs}
use Rattle.cnf_form.proofs.Reading.{IsDimacs-one}
use Rattle.cert_stream.specs.Stream.{sayings}
use Rattle.cert_stream.specs.Telling.{Saying, IsClause}
use Rattle.sby_terms.specs.declared.names.Answer.TheVariants.{Unsat}
use Rattle.cert_judge.specs.DrupCert.{IsCert, IsCertOf}
use Rattle.cert_judge.specs.Drup.{SayingsFate}
use Rattle.cert_judge.specs.Fate.{Found}
use Rattle.cert_judge.specs.Kinds.{FateOf, IsFate}
use Rattle.cert_judge.specs.ProofFile.{BytesFate, tried}
use Rattle.cert_judge.specs.Values.{unnamed}
use Rattle.cert_judge.specs.declared.stream.StreamKind.TheVariants.{Drup, Proof}
use Rattle.cert_judge.proofs.Deletions.{Clauses}
use Rattle.cert_judge.proofs.DrupAccepting.{cert_fate}
use Rattle.cert_judge.proofs.DrupCerts.{cert_found as drup_found}
use Rattle.cert_judge.proofs.CertSayings.{comes_cut}
use Rattle.cert_judge.proofs.DrupFates.{comes_more}
use Rattle.cert_judge.proofs.FileFates.{found_at_end}
use Rattle.cert_judge.proofs.FilePrefixes.{prefix_found}
use Rattle.cert_judge.proofs.FileSpelling.{StreamFate, comes_of, empty}
use Rattle.proof_stream.specs.Binary.{line_said}
use Rattle.proof_stream.specs.File.{fresh, spoken}
use Rattle.proof_stream.specs.Spelling.{AreSaid, IsTextProof, ProofLine, Spelt}
use Rattle.proof_stream.specs.declared.spot.LineKind.{LineKind}
use Rattle.proof_stream.specs.declared.spot.LineKind.TheVariants.{Clause, Deletion}
use Rattle.proof_stream.specs.declared.spot.Form.TheVariants.{Text}
use Rattle.proof_stream.proofs.Files.{file_spoken}
use Rattle.proof_stream.proofs.AnyLines.{text_file_says, text_says}

-- what lines are found to be, wherever they stand
module _ (C : Clauses) where
  abbrev pub Finds : Clauses → List Saying → Type 0
  Finds F ss = SayingsFate C F unnamed ss (Some (Found Unsat))

  line_moves : (kind : LineKind) (c : List LitOf) (p q : ℕ) (F : Clauses) (ss ts : List Saying) → ((H : Clauses) → Finds H ss → Finds H ts) → Finds F (line_said kind p c ∷ ss) → Finds F (line_said kind q c ∷ ts)
  line_moves Clause c p q F ss ts again (inl h) = inl h
  line_moves Clause c p q F ss ts again (inr (inl (a, n, h))) = inr (inl (a, n, again (F ++ c ∷ []) h))
  line_moves Clause c p q F ss ts again (inr (inr (a, e))) = absurd (let k = e in cc)
  line_moves Deletion c p q F ss ts again (G, d, h) = (G, d, again G h)

  pub lines_move : (ls : List ProofLine) (ss ts : List Saying) (F : Clauses) → AreSaid ls ss → AreSaid ls ts → Finds F ss → Finds F ts
  lines_move [] ss ts F e f h = absurd (let k = subst (λ (z : List Saying). Finds F z) e h in cc)
  lines_move (l ∷ ls) ss ts F (p, s, e, a) (q, t, f, b) h =
      subst (λ (z : List Saying). Finds F z) (sym f) (line_moves l.kind l.lits p q F s t (λ H k. lines_move ls s t H a b k) (subst (λ (z : List Saying). Finds F z) e h))

said_tried : (ls : List ProofLine) (ss : List Saying) (n : ℕ) → AreSaid ls ss → AreSaid (ls ++ empty ∷ []) (tried n ss)
said_tried [] ss n e = (n, [], ap (tried n) e, refl)
said_tried (l ∷ ls) ss n (p, s, e, a) = (p, tried n s, ap (tried n) e, said_tried ls s n a)

-- a last line 0
pub last_line : (vars at : ℕ) (t : List ℕ) (ls : List ProofLine) → IsTextProof vars at t ls → IsTextProof vars at (t ++ 48 ∷ 10 ∷ []) (ls ++ empty ∷ [])
last_line vars at t [] e = (
  48 ∷ [],
  [],
  at + 1 - 1,
  ap (λ z. z ++ 48 ∷ 10 ∷ []) e,
  (refl, tt),
  ([], record { place = at + 1 - 1; text = 48 ∷ []; done = true }, refl, (tt, refl, omega arith), (refl, refl), record { place = at + 1 - 1; text = 48 ∷ []; done = true }, [], refl, refl),
  refl,
)
last_line vars at t (l ∷ ls) (text, rest, place, e, f, i, h) = (
  text,
  rest ++ 48 ∷ 10 ∷ [],
  place,
  ap (λ z. z ++ 48 ∷ 10 ∷ []) e ∙ append_assoc text (10 ∷ rest) (48 ∷ 10 ∷ []),
  f,
  i,
  last_line vars (at + length text + 1) rest ls h,
)

module _ (f : FormulaOf) (ls : List ProofLine) (t : List ℕ) (most : ℕ) (h : IsTextProof f.vars 0 t ls) (l : length t ≤ most) where
  abbrev whole : List ℕ
  whole = t ++ 48 ∷ 10 ∷ []

  whole_said : AreSaid (ls ++ empty ∷ []) (sayings f.vars false whole)
  whole_said =
      text_says f.vars 0 (ls ++ empty ∷ []) whole (last_line f.vars 0 t ls h)

  found_tried : StreamFate f (AreSaid ls) most (length t) (Found Unsat) → (us : List Saying) × AreSaid (ls ++ empty ∷ []) us × Finds f.clauses f.clauses us
  found_tried (inl (ss, a, k)) = (tried (length t) ss, said_tried ls ss (length t) a, comes_more f.clauses f.clauses unnamed ss (IsClause [] (length t) ∷ []) (Found Unsat) k)
  found_tried (inr (ss, a, k, us, v, c, i, e)) =
      (tried (length t) us, said_tried ls us (length t) c, subst (λ z. SayingsFate f.clauses f.clauses unnamed (tried (length t) us) (Some z)) (found_at_end (length t) Unsat v e) i)

  pub found_cert : FateOf Proof f t most (Found Unsat) → (n : ℕ) × (n ≤ length whole) × IsCertOf f (take n whole) Unsat
  found_cert k =
      let u = found_tried (comes_of f (AreSaid ls) most Text t (Found Unsat) (text_file_says f.vars ls t h) l k) in
      let c = lines_move f.clauses (ls ++ empty ∷ []) u.0 (sayings f.vars false whole) f.clauses u.1 whole_said u.2 in
      let g = drup_found f Unsat false whole c in
      (g.0, g.1, g.2)

  cert_says : (cert : List ℕ) → FateOf Drup f cert (length cert) (Found Unsat) → Finds f.clauses f.clauses (sayings f.vars true cert)
  cert_says cert g = elim (g.within (omega arith)) [ inl k ↦ k | inr (k, e) ↦ absurd (let z = e in cc) ]

  pub cert_found : (cert rest : List ℕ) → IsCertOf f cert Unsat → whole ≡ cert ++ rest → FateOf Proof f t most (Found Unsat)
  cert_found cert rest w e =
      let g = cert_says cert (cert_fate f cert (length cert) Unsat w (omega arith)) in
      let v : AreSaid (ls ++ empty ∷ []) (sayings f.vars false (cert ++ rest)) = subst (λ z. AreSaid (ls ++ empty ∷ []) (sayings f.vars false z)) e whole_said in
      let m : Finds f.clauses f.clauses (sayings f.vars false whole) =
      subst (λ z. Finds f.clauses f.clauses (sayings f.vars false z)) (sym e)
      (prefix_found f.clauses f.clauses unnamed f.vars cert rest (ls ++ empty ∷ []) v (t ++ 48 ∷ []) (sym e ∙ sym (append_assoc t (48 ∷ []) (10 ∷ []))) g) in
      let ss : List Saying = spoken false (fresh Text f.vars) t in
      let ts : List Saying = spoken true (fresh Text f.vars) t in
      let a : AreSaid ls ss = text_file_says f.vars ls t h false ss (file_spoken Text f.vars false t) in
      let b : AreSaid ls ts = text_file_says f.vars ls t h true ts (file_spoken Text f.vars true t) in
      let i = lines_move f.clauses (ls ++ empty ∷ []) (sayings f.vars false whole) (tried (length t) ss) f.clauses whole_said (said_tried ls ss (length t) a) m in
      let j = lines_move f.clauses (ls ++ empty ∷ []) (sayings f.vars false whole) (tried (length t) ts) f.clauses whole_said (said_tried ls ts (length t) b) m in
      let file : BytesFate Text f true t (Some (Found Unsat)) = elim (comes_cut f.clauses f.clauses unnamed ss (IsClause [] (length t) ∷ []) (Found Unsat) i) [
        | inl k ↦ inl (ss, file_spoken Text f.vars false t, k)
        | inr k ↦ inr ((ss, file_spoken Text f.vars false t, k), (ts, Found Unsat, file_spoken Text f.vars true t, j, refl))
      ] in
      record { within = λ _. inl file; beyond = λ b. absurd (omega (arith, b, l)) }

pub file_found_cert : (job b t : List ℕ) (most : ℕ) (f : FormulaOf) → IsDimacs job f → Spelt f.vars b t → length t ≤ most → IsFate Proof job t most (Found Unsat)
    → (n : ℕ) × (n ≤ length (t ++ 48 ∷ 10 ∷ [])) × IsCert job (take n (t ++ 48 ∷ 10 ∷ [])) Unsat
file_found_cert job b t most f d (ls, h, i) l w =
    let k = found_cert f ls t most i l (subst (λ (z : FormulaOf). FateOf Proof z t most (Found Unsat)) (IsDimacs-one job w.0 f w.1 d) w.2) in
    (k.0, k.1, (f, d, k.2))

pub file_cert_found : (job b t : List ℕ) (n most : ℕ) (f : FormulaOf) → IsDimacs job f → Spelt f.vars b t → length t ≤ most → IsCert job (take n (t ++ 48 ∷ 10 ∷ [])) Unsat
    → IsFate Proof job t most (Found Unsat)
file_cert_found job b t n most f d (ls, h, i) l w = (
  f,
  d,
  cert_found f ls t most i l (take n (t ++ 48 ∷ 10 ∷ [])) (drop n (t ++ 48 ∷ 10 ∷ [])) (subst (λ (z : FormulaOf). IsCertOf z (take n (t ++ 48 ∷ 10 ∷ [])) Unsat) (IsDimacs-one job w.0 f w.1 d) w.2)
      (sym (take-append-drop n (t ++ 48 ∷ 10 ∷ []))),
)
