-- A certificate is found.
use Rattle.std.proofs.Common.{◌≡◌, ℕ, ◌+◌, ◌≤◌, Bool, true, false, cond, ◌||◌, leb, List, [], ◌∷◌, ◌++◌, length, Some, refl, sym, ap, ◌∙◌, subst, inl, inr, arith}
use Rattle.std.specs.Prelude.{codes, slice_index, map, flat_map}
use Rattle.std.proofs.lemmas.Bool.{eq-eqb, lt-leb}
use Rattle.std.proofs.lemmas.List.{length-append}
use Rattle.cnf_form.specs.Cnf.{LitOf, FormulaOf, Assignment, IsAdmitted, Satisfies}
use Rattle.cert_stream.specs.Text.{Word, lines_of, words_from}
use Rattle.cert_stream.specs.Places.{AreDone, IsList}
use Rattle.cert_stream.specs.Telling.{Saying, IsClause, IsDelete, IsValue, IsValuesEnd, IsUnknown}
use Rattle.cert_stream.specs.Stream.{bad, heard_says, line_says, lines_say, list_says, sayings, visible_says}
use Rattle.cert_stream.specs.declared.mode.ListKind.TheVariants.{Clause as ClauseList, Deletion, Values as ValuesList}
use Rattle.cert_stream.specs.declared.mode.ParseFaultKind.TheVariants.{BadLine}
use Rattle.cert_stream.proofs.Apart.{alone_one, list_line, literal_read, words_say}
use Rattle.cert_stream.proofs.Tails.{word_says}
use Rattle.sby_terms.specs.declared.names.Answer.{Answer}
use Rattle.sby_terms.specs.declared.names.Answer.TheVariants.{Sat, Unsat}
use Rattle.cert_judge.specs.Values.{named, named_from, unnamed}
use Rattle.cert_judge.specs.Fate.{Found}
use Rattle.cert_judge.specs.Drup.{StreamFate, SayingsFate}
use Rattle.cert_judge.specs.Kinds.{FateOf}
use Rattle.cert_judge.specs.declared.stream.StreamKind.TheVariants.{Drup}
use Rattle.cert_judge.specs.DrupCert.{words, IsIdle, IsRemark, Writes, IsEnded, Leads, Names, IsCertOf}
use Rattle.cert_judge.proofs.CertLines.{status_idle}
use Rattle.cert_judge.proofs.DrupLines.{texts, line_texts, AreDoneBut, but_rest, done_but, done_all, ends_at, done_front, done_last, writes_read}
use Rattle.cert_judge.proofs.Naming.{names_found}

module _ (vars : ℕ) (C : List (List LitOf)) (a : Answer) where
  abbrev Finds : List (List LitOf) → Assignment → List Saying → Type 0
  Finds F x ss = SayingsFate C F x ss (Some (Found a))

  -- the values of a line are named
  values_named : (F : List (List LitOf)) (x : Assignment) (lits : List LitOf) (ss : List Saying) → Finds F (named_from x lits) ss → Finds F x (flat_map (heard_says ValuesList) lits ++ ss)
  values_named F x [] ss h = h
  values_named F x (l ∷ lits) ss h = values_named F (named x l) lits ss h

  pub none_heard_clause : (lits : List LitOf) → flat_map (heard_says ClauseList) lits ≡ []
  none_heard_clause [] = refl
  none_heard_clause (l ∷ lits) = none_heard_clause lits

  pub none_heard_deletion : (lits : List LitOf) → flat_map (heard_says Deletion) lits ≡ []
  none_heard_deletion [] = refl
  none_heard_deletion (l ∷ lits) = none_heard_deletion lits

  -- a line that a line feed ends
  module _ (at : ℕ) (t : List ℕ) (broken going more : List Saying) where
    abbrev here : List Word
    here = words_from true at [] t

    idle_line : (ws : List Word) → IsIdle (texts ws) → line_says vars true false broken going more ws ≡ more
    idle_line [] i = refl
    idle_line (w ∷ ws) (inl e) = rw (eq-eqb (slice_index w.text 0) 99 e) refl
    idle_line (w ∷ ws) (inr (e, n)) =
        ap (λ x. visible_says vars true false broken going more (slice_index x 0) w ws) e ∙ alone_one w 115 _ e ∙ status_idle IsUnknown more ws n

    remark_line : (amid : Bool) (ws : List Word) → IsRemark (texts ws) → line_says vars true amid broken going more ws ≡ cond amid going more
    remark_line amid [] i = refl
    remark_line amid (w ∷ ws) i = rw (eq-eqb (slice_index w.text 0) 99 i) refl

    -- words that a line has after its first
    abbrev Behind : List Word → List ℕ → List (List ℕ) → Type 0
    Behind ws first rest = (w : Word) × (vs : List Word) × (ws ≡ w ∷ vs) × (w.text ≡ first) × (texts vs ≡ rest) × AreDone vs

    behind : (ws : List Word) (first : List ℕ) (rest : List (List ℕ)) → AreDone ws → texts ws ≡ first ∷ rest → Behind ws first rest
    behind [] first rest d e = cc
    behind (w ∷ ws) first rest d e = (w, ws, refl, (let k : w.text ≡ first = cc in k), (let k : texts ws ≡ rest = cc in k), d.1)

    clause_line : (c : List LitOf) → IsEnded vars (words t) c → (place : ℕ) × (line_says vars true false broken going more here ≡ IsClause c place ∷ more)
    clause_line c (front, e, w, l) =
        let k = ends_at here front (codes "0") (line_texts true at t ∙ e) in
        let d = done_last k.before k.word (subst AreDone k.are (done_all at [] t)) in
        let read = writes_read vars k.before c (subst (λ z. Writes vars z c) (sym k.texts) w) in
        let p = some_first k.before k.word in
        let list : IsList vars ClauseList p.0.place c here = (k.before, k.word, k.are, (d.0, read, l), (k.text, d.1), p.0, p.1, k.are ∙ p.2, refl) in
        (p.0.place, list_line vars true broken going more p.0.place c ClauseList false here list ∙ ap (λ z. z ++ IsClause c p.0.place ∷ more) (none_heard_clause c))
      where
        some_first : (ws : List Word) (w : Word) → (first : Word) × (others : List Word) × (ws ++ w ∷ [] ≡ first ∷ others)
        some_first [] w = (w, [], refl)
        some_first (v ∷ ws) w = (v, ws ++ w ∷ [], refl)

    deletion_line : (rest : List (List ℕ)) (c : List LitOf) → words t ≡ codes "d" ∷ rest → IsEnded vars rest c → line_says vars true false broken going more here ≡ IsDelete c ∷ more
    deletion_line rest c v (front, e, w, l) =
        let b = behind here (codes "d") rest (done_all at [] t) (line_texts true at t ∙ v) in
        let k = ends_at b.1 front (codes "0") (b.4 ∙ e) in
        let d = done_last k.before k.word (subst AreDone k.are b.5) in
        let read = writes_read vars k.before c (subst (λ z. Writes vars z c) (sym k.texts) w) in
        let list : IsList vars Deletion b.0.place c here = (b.0, k.before, k.word, b.2 ∙ ap (λ z. b.0 ∷ z) k.are, b.3, refl, (d.0, read, l), (k.text, d.1)) in
        list_line vars true broken going more b.0.place c Deletion false here list ∙ ap (λ z. z ++ IsDelete c ∷ more) (none_heard_deletion c)

    -- values without a 0
    open_words : (place : ℕ) (lits : List LitOf) (ws : List Word) (c : List LitOf) → AreDone ws → Writes vars (texts ws) c → length lits + length c ≤ vars
        → list_says vars ValuesList true going more place lits ws ≡ flat_map (heard_says ValuesList) c ++ going
    open_words place lits [] [] d w l = refl
    open_words place lits [] (m ∷ c) d w l = cc
    open_words place lits (w ∷ ws) [] d k l = absurd k
    open_words place lits (w ∷ ws) (m ∷ c) (d, ds) (e, k) l =
        let full : leb vars (length lits) ≡ false = lt-leb vars (length lits) (omega (arith, l)) in
        let len : length (lits ++ m ∷ []) ≡ length lits + 1 = length-append lits (m ∷ []) in
        ap (λ s. word_says vars ValuesList true going more place lits s w ws) (literal_read vars (leb vars (length lits)) w.text m full e)
        ∙ ap (λ b. cond b (IsValue m ∷ list_says vars ValuesList true going more place (lits ++ m ∷ []) ws) []) d
        ∙ ap (λ z. IsValue m ∷ z) (open_words place (lits ++ m ∷ []) ws c ds k (omega (arith, l, len)))

    open_line : (amid : Bool) (rest : List (List ℕ)) (c : List LitOf) → words t ≡ codes "v" ∷ rest → Writes vars rest c → length c ≤ vars
        → line_says vars true amid broken going more here ≡ flat_map (heard_says ValuesList) c ++ going
    open_line amid rest c v w l =
        let b = behind here (codes "v") rest (done_all at [] t) (line_texts true at t ∙ v) in
        ap (line_says vars true amid broken going more) b.2 ∙ ap (λ x. visible_says vars true amid broken going more (slice_index x 0) b.0 b.1) b.3
        ∙ alone_one b.0 118 (list_says vars ValuesList true going more b.0.place [] b.1) b.3 ∙ open_words b.0.place [] b.1 c b.5 (subst (λ z. Writes vars z c) (sym b.4) w) (omega (arith, l))

  -- the last line, after which the stream ends
  module _ (at : ℕ) (t : List ℕ) where
    abbrev last : List Word
    last = words_from false at [] t

    or_true : (b : Bool) → (b || true) ≡ true
    or_true true = refl
    or_true false = refl

    zero_last : words t ≡ codes "0" ∷ [] → (place : ℕ) × (line_says vars true false [] [] [] last ≡ IsClause [] place ∷ [])
    zero_last e =
        let k = ends_at last [] (codes "0") (line_texts false at t ∙ e) in
        let n : k.before ≡ [] = none k.before k.texts in
        let i : last ≡ k.word ∷ [] = k.are ∙ ap (λ z. z ++ k.word ∷ []) n in (
          k.word.place,
          ap (line_says vars true false [] [] []) i ∙ ap (λ x. visible_says vars true false [] [] [] (slice_index x 0) k.word []) k.text
              ∙ words_say vars ClauseList true [] [] k.word.place [] k.word [] [] tt refl (omega arith) (k.text, or_true k.word.done),
        )
      where
        none : (ws : List Word) → texts ws ≡ [] → ws ≡ []
        none [] e = refl
        none (w ∷ ws) e = cc

    values_last : (amid : Bool) (rest : List (List ℕ)) (c : List LitOf) → words t ≡ codes "v" ∷ rest → IsEnded vars rest c
        → line_says vars true amid [] [] [] last ≡ flat_map (heard_says ValuesList) c ++ IsValuesEnd ∷ []
    values_last amid rest c v (front, e, w, l) = of last refl (line_texts false at t ∙ v) (done_but false at [] t)
      where
        of : (ws : List Word) → last ≡ ws → texts ws ≡ codes "v" ∷ rest → AreDoneBut ws → line_says vars true amid [] [] [] last ≡ flat_map (heard_says ValuesList) c ++ IsValuesEnd ∷ []
        of [] i q d = cc
        of (u ∷ us) i q d =
            let p : u.text ≡ codes "v" = cc in
            let r : texts us ≡ rest = cc in
            let k = ends_at us front (codes "0") (r ∙ e) in
            let ds : AreDoneBut us = but_rest u us d in
            let read = writes_read vars k.before c (subst (λ z. Writes vars z c) (sym k.texts) w) in
            ap (line_says vars true amid [] [] []) i ∙ ap (λ x. visible_says vars true amid [] [] [] (slice_index x 0) u us) p
            ∙ alone_one u 118 (list_says vars ValuesList true [] [] u.place [] us) p ∙ ap (list_says vars ValuesList true [] [] u.place []) k.are
            ∙ words_say vars ValuesList true [] [] u.place k.before k.word c [] (done_front k.before k.word (subst AreDoneBut k.are ds)) read (omega (arith, l)) (k.text, or_true k.word.done)

  -- what is said where a line lacks its 0, and what the lines after it say
  abbrev fault_at : ℕ → List ℕ → List Saying
  fault_at at t = bad BadLine (at + length t)

  abbrev rest_says : ℕ → List ℕ → List (List ℕ) → Bool → List Saying
  rest_says at t ls amid = lines_say vars true amid (at + length t + 1) ls

  -- the lines of a proof, and those after them
  module _ (G : List (List LitOf)) (first : List (List ℕ)) (others : List (List (List ℕ)))
      (found : (at : ℕ) (ls : List (List ℕ)) → map words ls ≡ first ∷ others → Finds G unnamed (lines_say vars true false at ls)) where
    proof_found : (at : ℕ) (F : List (List LitOf)) (ls : List (List ℕ)) (proof : List (List (List ℕ))) → map words ls ≡ proof ++ first ∷ others → Leads vars proof F G
        → Finds F unnamed (lines_say vars true false at ls)
    proof_found at F ls [] e k = subst (λ (H : List (List LitOf)). Finds H unnamed (lines_say vars true false at ls)) k (found at ls e)
    proof_found at F [] (p ∷ proof) e k = cc
    proof_found at F (t ∷ []) (p ∷ []) e k = cc
    proof_found at F (t ∷ []) (p ∷ r ∷ proof) e k = cc
    proof_found at F (t ∷ u ∷ ts) (p ∷ proof) e k =
        let q : words t ≡ p = cc in
        let m : map words (u ∷ ts) ≡ proof ++ first ∷ others = cc in
        line q k (λ H n. proof_found (at + length t + 1) H (u ∷ ts) proof m n)
      where
        line : words t ≡ p → Leads vars (p ∷ proof) F G → ((H : List (List LitOf)) → Leads vars proof H G → Finds H unnamed (rest_says at t (u ∷ ts) false)) → Finds F unnamed (lines_say vars true false at (t ∷ u ∷ ts))
        line q (inl (i, n)) h =
            subst (λ (ss : List Saying). Finds F unnamed ss) (sym (idle_line at t (fault_at at t) (rest_says at t (u ∷ ts) true) (rest_says at t (u ∷ ts) false) (words_from true at [] t) (subst IsIdle (sym (line_texts true at t ∙ q)) i))) (h F n)
        line q (inr (inl (c, d, n, b, m))) h =
            let s = clause_line at t (fault_at at t) (rest_says at t (u ∷ ts) true) (rest_says at t (u ∷ ts) false) c (subst (λ z. IsEnded vars z c) (sym q) d) in
            subst (λ (ss : List Saying). Finds F unnamed ss) (sym s.1) (inr (inl (b, n, h (F ++ c ∷ []) m)))
        line q (inr (inr (c, ws, H, v, d, b, m))) h =
            subst (λ (ss : List Saying). Finds F unnamed ss) (sym (deletion_line at t (fault_at at t) (rest_says at t (u ∷ ts) true) (rest_says at t (u ∷ ts) false) ws c (q ∙ v) d)) (H, b, h H m)

  -- the last line of a proof, where the empty clause is admitted
  zero_found : (G : List (List LitOf)) → IsAdmitted G [] → a ≡ Unsat → (at : ℕ) (ls : List (List ℕ)) → map words ls ≡ (codes "0" ∷ []) ∷ [] → Finds G unnamed (lines_say vars true false at ls)
  zero_found G admitted n at [] e = cc
  zero_found G admitted n at (t ∷ u ∷ ts) e = cc
  zero_found G admitted n at (t ∷ []) e =
      let z = zero_last at t (let q : words t ≡ codes "0" ∷ [] = cc in q) in
      subst (λ (ss : List Saying). Finds G unnamed ss) (sym z.1) (inl (admitted, refl, ap (λ k. Some (Found k)) n))

  remark_next : (at : ℕ) (t u : List ℕ) (ts : List (List ℕ)) (amid : Bool) → IsRemark (words t) → lines_say vars true amid at (t ∷ u ∷ ts) ≡ rest_says at t (u ∷ ts) amid
  remark_next at t u ts amid r =
      remark_line at t (fault_at at t) (rest_says at t (u ∷ ts) true) (rest_says at t (u ∷ ts) false) amid (words_from true at [] t) (subst IsRemark (sym (line_texts true at t)) r) ∙ same amid
    where
      same : (b : Bool) → cond b (rest_says at t (u ∷ ts) true) (rest_says at t (u ∷ ts) false) ≡ rest_says at t (u ∷ ts) b
      same true = refl
      same false = refl

  -- the lines of values that satisfy the clauses
  values_found : (G : List (List LitOf)) (amid : Bool) (x : Assignment) (at : ℕ) (ls : List (List ℕ)) (end : List (List (List ℕ))) (values : List LitOf) → a ≡ Sat → map words ls ≡ end
      → Names vars end values → Satisfies (named_from x values) C → Finds G x (lines_say vars true amid at ls)
  values_found G amid x at ls end values n =
      names_found vars C (Finds G) (lines_say vars true) (flat_map (heard_says ValuesList)) (IsValuesEnd ∷ []) (λ y s. inl (s, ap (λ k. Some (Found k)) n)) (values_named G) values_last remark_next
      (λ o t u ts b. open_line o t (fault_at o t) (rest_says o t (u ∷ ts) true) (rest_says o t (u ∷ ts) false) b) amid x at ls end values

cert_comes : (f : FormulaOf) (s : List ℕ) (a : Answer) → IsCertOf f s a → StreamFate f (sayings f.vars true s) (Some (Found a))
cert_comes f s Unsat (proof, G, e, k, d) = proof_found f.vars f.clauses Unsat G (codes "0" ∷ []) [] (zero_found f.vars f.clauses Unsat G d refl) 0 f.clauses (lines_of s) proof e k
cert_comes f s Sat (proof, [], G, values, e, k, n, m) = absurd n
cert_comes f s Sat (proof, ws ∷ last, G, values, e, k, n, m) =
    proof_found f.vars f.clauses Sat G ws last (λ at ls q. values_found f.vars f.clauses Sat G false unnamed at ls (ws ∷ last) values refl q n m) 0 f.clauses (lines_of s) proof e k

pub cert_fate : (f : FormulaOf) (s : List ℕ) (most : ℕ) (a : Answer) → IsCertOf f s a → length s ≤ most → FateOf Drup f s most (Found a)
cert_fate f s most a w l = record { within = λ _. inl (cert_comes f s a w); beyond = λ b. absurd (omega arith) }
