-- The fates of proof files: one, some, and for good.
use Rattle.std.proofs.Common.{◌≡◌, ℕ, Bool, true, false, eqb, List, [], ◌∷◌, ◌++◌, length, Option, Some, None, refl, sym, ap, ◌∙◌, subst, inl, inr}
use Rattle.std.proofs.lemmas.Bool.{cases_Bool}
use Rattle.cnf_form.specs.Cnf.{Assignment, FormulaOf, IsUnsatisfiable, LitOf}
use Rattle.cert_stream.specs.Telling.{Saying, IsClause, IsDelete, IsValue, IsValuesEnd, IsUnknown, IsFault}
use Rattle.proof_stream.specs.File.{fresh, spoken}
use Rattle.proof_stream.specs.Lines.{AreProofLines, FileSays}
use Rattle.proof_stream.specs.declared.spot.Form.{Form}
use Rattle.proof_stream.proofs.Alone.{file_lines, lines_append}
use Rattle.proof_stream.proofs.Files.{file_once, file_spoken}
use Rattle.sby_terms.specs.declared.names.Answer.{Answer}
use Rattle.sby_terms.specs.declared.names.Answer.TheVariants.{Sat, Unsat}
use Rattle.cert_judge.specs.Drup.{StreamFate, SayingsFate}
use Rattle.cert_judge.specs.Fate.{Fate, Found, Unknown, Bad}
use Rattle.cert_judge.specs.ProofFile.{BytesFate, EndFate, LinesFate, at_end, tried}
use Rattle.cert_judge.specs.Values.{named, unnamed}
use Rattle.cert_judge.specs.declared.stream.CertKind.TheVariants.{EarlyEnd}
use Rattle.cert_judge.proofs.Bounding.{some_same}
use Rattle.cert_judge.proofs.DrupComing.{refuted}
use Rattle.cert_judge.proofs.DrupFates.{comes_more, comes_once, comes_somewhere}
use Rattle.cert_judge.proofs.FileGoing.{spoken_more}
use Rattle.cert_judge.proofs.KindLaws.{Laws}

abbrev Clauses : Type 0
Clauses = List (List LitOf)

-- what the end makes an answer was one
pub found_at_end : (n : ℕ) (a : Answer) (x : Fate) → Found a ≡ at_end n x → x ≡ Found a
found_at_end n a (Found b) e = sym e
found_at_end n a Unknown e = absurd (let k = e in cc)
found_at_end n a (Bad kind byte) e =
    elim (cases_Bool (eqb byte n)) [
      | inl t ↦ absurd (let k : Found a ≡ Bad EarlyEnd n = rw t at e in cc)
      | inr f ↦ absurd (let k : Found a ≡ Bad kind byte = rw f at e in cc)
    ]

-- lines of a proof name no values
never_satisfied : (C F : Clauses) (x : Assignment) (ss : List Saying) → AreProofLines ss → SayingsFate C F x ss (Some (Found Sat)) → ⊥
never_satisfied C F x [] w e = let k = e in cc
never_satisfied C F x (IsClause c place ∷ ss) w (inl (a, n, e)) = let k = e in cc
never_satisfied C F x (IsClause c place ∷ ss) w (inr (inl (a, n, h))) = never_satisfied C (F ++ c ∷ []) x ss w h
never_satisfied C F x (IsClause c place ∷ ss) w (inr (inr (n, e))) = let k = e in cc
never_satisfied C F x (IsDelete c ∷ ss) w (G, d, h) = never_satisfied C G x ss w h
never_satisfied C F x (IsValue c ∷ ss) w h = w
never_satisfied C F x (IsValuesEnd ∷ ss) w h = w
never_satisfied C F x (IsUnknown ∷ ss) w h = w
never_satisfied C F x (IsFault f ∷ ss) w e = let k = e in cc

-- a last empty clause has a fate
pub tried_some : (C F : Clauses) (x : Assignment) (n : ℕ) (ss : List Saying) → SayingsFate C F x (tried n ss) None → ⊥
tried_some C F x n [] (inl (a, m, e)) = let k = e in cc
tried_some C F x n [] (inr (inl (a, m, h))) = m refl
tried_some C F x n [] (inr (inr (m, e))) = let k = e in cc
tried_some C F x n (IsClause c place ∷ ss) (inl (a, m, e)) = let k = e in cc
tried_some C F x n (IsClause c place ∷ ss) (inr (inl (a, m, h))) = tried_some C (F ++ c ∷ []) x n ss h
tried_some C F x n (IsClause c place ∷ ss) (inr (inr (m, e))) = let k = e in cc
tried_some C F x n (IsDelete c ∷ ss) (G, d, h) = tried_some C G x n ss h
tried_some C F x n (IsValue c ∷ ss) h = tried_some C F (named x c) n ss h
tried_some C F x n (IsValuesEnd ∷ ss) (inl (s, e)) = let k = e in cc
tried_some C F x n (IsValuesEnd ∷ ss) (inr (m, u, e)) = let k = e in cc
tried_some C F x n (IsUnknown ∷ ss) e = let k = e in cc
tried_some C F x n (IsFault f ∷ ss) e = let k = e in cc

module _ (form : Form) (f : FormulaOf) where
  abbrev pub all_spoken : Bool → List ℕ → List Saying
  all_spoken ended bytes = spoken ended (fresh form f.vars) bytes

  -- the sayings are what the bytes say
  pub lines_spoken : (bytes : List ℕ) (x : Option Fate) → LinesFate form f bytes x → StreamFate f (all_spoken false bytes) x
  lines_spoken bytes x (ss, s, h) = subst (λ (z : List Saying). StreamFate f z x) (file_once form f.vars false bytes ss s) h

  pub spoken_lines : (bytes : List ℕ) (x : Option Fate) → StreamFate f (all_spoken false bytes) x → LinesFate form f bytes x
  spoken_lines bytes x h = (all_spoken false bytes, file_spoken form f.vars false bytes, h)

  lines_on : (bytes rest : List ℕ) (x : Fate) → LinesFate form f bytes (Some x) → LinesFate form f (bytes ++ rest) (Some x)
  lines_on bytes rest x h =
      let w = spoken_more (fresh form f.vars) bytes rest in
      spoken_lines (bytes ++ rest) (Some x)
      (subst (λ (z : List Saying). StreamFate f z (Some x)) (sym w.1) (comes_more f.clauses f.clauses unnamed (all_spoken false bytes) w.0 x (lines_spoken bytes (Some x) h)))

  on : (ended : Bool) (bytes rest : List ℕ) (x : Fate) → BytesFate form f false bytes (Some x) → BytesFate form f ended (bytes ++ rest) (Some x)
  on true bytes rest x h = inl (lines_on bytes rest x h)
  on false bytes rest x h = lines_on bytes rest x h

  lines_once : (bytes : List ℕ) (x y : Option Fate) → LinesFate form f bytes x → LinesFate form f bytes y → x ≡ y
  lines_once bytes x y h k = comes_once f (all_spoken false bytes) x y (lines_spoken bytes x h) (lines_spoken bytes y k)

  end_spoken : (bytes : List ℕ) (ss : List Saying) (x : Option Fate) → FileSays form f.vars true bytes ss → StreamFate f (tried (length bytes) ss) x → StreamFate f (tried (length bytes) (all_spoken true bytes)) x
  end_spoken bytes ss x s h = subst (λ (z : List Saying). StreamFate f (tried (length bytes) z) x) (file_once form f.vars true bytes ss s) h

  end_once : (bytes : List ℕ) (x y : Fate) → EndFate form f bytes x → EndFate form f bytes y → x ≡ y
  end_once bytes x y (ss, v, s, h, e) (us, w, t, k, g) =
      let q = comes_once f (tried (length bytes) (all_spoken true bytes)) (Some v) (Some w) (end_spoken bytes ss (Some v) s h) (end_spoken bytes us (Some w) t k) in
      e ∙ ap (at_end (length bytes)) (some_same v w q) ∙ sym g

  some_once : (bytes : List ℕ) (x y : Fate) → BytesFate form f true bytes (Some x) → BytesFate form f true bytes (Some y) → x ≡ y
  some_once bytes x y (inl h) (inl k) = some_same x y (lines_once bytes (Some x) (Some y) h k)
  some_once bytes x y (inl h) (inr (k, e)) = absurd (let q = lines_once bytes (Some x) None h k in cc)
  some_once bytes x y (inr (h, e)) (inl k) = absurd (let q = lines_once bytes None (Some y) h k in cc)
  some_once bytes x y (inr (h, e)) (inr (k, g)) = end_once bytes x y e g

  once : (ended : Bool) (bytes : List ℕ) (x y : Option Fate) → BytesFate form f ended bytes x → BytesFate form f ended bytes y → x ≡ y
  once true bytes None y h k = absurd h
  once true bytes (Some x) None h k = absurd k
  once true bytes (Some x) (Some y) h k = ap (λ z. Some z) (some_once bytes x y h k)
  once false bytes x y h k = lines_once bytes x y h k

  end_somewhere : (bytes : List ℕ) → ((x : Fate) → EndFate form f bytes x → ⊥) → ⊥
  end_somewhere bytes k = comes_somewhere f.clauses f.clauses unnamed (tried (length bytes) (all_spoken true bytes)) there
    where
      there : (x : Option Fate) → StreamFate f (tried (length bytes) (all_spoken true bytes)) x → ⊥
      there None h = tried_some f.clauses f.clauses unnamed (length bytes) (all_spoken true bytes) h
      there (Some x) h = k (at_end (length bytes) x) (all_spoken true bytes, x, file_spoken form f.vars true bytes, h, refl)

  somewhere : (ended : Bool) (bytes : List ℕ) → ((x : Option Fate) → BytesFate form f ended bytes x → ⊥) → ⊥
  somewhere false bytes k = comes_somewhere f.clauses f.clauses unnamed (all_spoken false bytes) (λ x h. k x (spoken_lines bytes x h))
  somewhere true bytes k = comes_somewhere f.clauses f.clauses unnamed (all_spoken false bytes) there
    where
      there : (x : Option Fate) → StreamFate f (all_spoken false bytes) x → ⊥
      there None h = end_somewhere bytes (λ x g. k (Some x) (inr (spoken_lines bytes None h, g)))
      there (Some x) h = k (Some x) (inl (spoken_lines bytes (Some x) h))

  lines_refuted : (bytes : List ℕ) → LinesFate form f bytes (Some (Found Unsat)) → IsUnsatisfiable f.clauses
  lines_refuted bytes (ss, s, h) = refuted f.clauses f.clauses unnamed ss h

  file_refuted : (ended : Bool) (bytes : List ℕ) → BytesFate form f ended bytes (Some (Found Unsat)) → IsUnsatisfiable f.clauses
  file_refuted false bytes h = lines_refuted bytes h
  file_refuted true bytes (inl h) = lines_refuted bytes h
  file_refuted true bytes (inr (k, (ss, x, s, h, e))) =
      refuted f.clauses f.clauses unnamed (tried (length bytes) ss) (subst (λ z. StreamFate f (tried (length bytes) ss) (Some z)) (found_at_end (length bytes) Unsat x e) h)

  lines_never : (bytes : List ℕ) → LinesFate form f bytes (Some (Found Sat)) → ⊥
  lines_never bytes (ss, s, h) = never_satisfied f.clauses f.clauses unnamed ss (file_lines form f.vars false bytes ss s) h

  pub file_never : (ended : Bool) (bytes : List ℕ) → BytesFate form f ended bytes (Some (Found Sat)) → ⊥
  file_never false bytes h = lines_never bytes h
  file_never true bytes (inl h) = lines_never bytes h
  file_never true bytes (inr (k, (ss, x, s, h, e))) =
      never_satisfied f.clauses f.clauses unnamed (tried (length bytes) ss) (lines_append ss (IsClause [] (length bytes) ∷ []) (file_lines form f.vars true bytes ss s) tt)
      (subst (λ z. StreamFate f (tried (length bytes) ss) (Some z)) (found_at_end (length bytes) Sat x e) h)

  pub file_laws : Laws f (BytesFate form f) (λ ended bytes. unnamed)
  file_laws = record {
    on = on;
    once = once;
    somewhere = somewhere;
    refuted = file_refuted;
    satisfied = λ ended bytes h. absurd (file_never ended bytes h);
    named = λ ended bytes rest h. refl;
  }
