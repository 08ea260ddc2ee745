-- A stream that is found to be a certificate begins with one.
use Rattle.std.proofs.Common.{◌≡◌, ◌≢◌, ℕ, ◌+◌, ◌≤◌, Bool, true, false, ◌||◌, leb, eqb, List, [], ◌∷◌, ◌++◌, length, take, drop, Some, refl, sym, ap, ◌∙◌, subst, inl, inr, arith, ◌⊎◌, append_assoc}
use Rattle.std.specs.Prelude.{codes, slice_index, flat_map}
use Rattle.std.proofs.lemmas.Bool.{cases_Bool, eqb-true, leb-false}
use Rattle.std.proofs.lemmas.List.{append-nil, length_push}
use Rattle.cnf_form.specs.Cnf.{LitOf, FormulaOf, Assignment, IsAdmitted, Satisfies}
use Rattle.cert_stream.specs.Text.{Word, is_digit, literal_of, lines_of, words_from}
use Rattle.cert_stream.specs.Scan.{Scanned, Reads, Misfit, scan}
use Rattle.cert_stream.specs.Words.{IsRead}
use Rattle.cert_stream.specs.Telling.{Saying, IsClause, IsDelete, IsValuesEnd, IsUnknown}
use Rattle.cert_stream.specs.Stream.{alone, bad, after_says, ended_says, heard_says, is_unknown, line_says, lines_say, list_says, plain_says, sayings, status_says}
use Rattle.cert_stream.specs.declared.mode.ListKind.{ListKind}
use Rattle.cert_stream.specs.declared.mode.ListKind.TheVariants.{Clause as ClauseList, Deletion, Values as ValuesList}
use Rattle.cert_stream.specs.declared.mode.ParseFaultKind.{ParseFaultKind}
use Rattle.cert_stream.specs.declared.mode.ParseFaultKind.TheVariants.{BadLine, BadLiteral}
use Rattle.cert_stream.specs.declared.mode.Part.{Part}
use Rattle.cert_stream.specs.declared.mode.Part.TheVariants.{Gap, Minus, Zero, Digits}
use Rattle.cert_stream.proofs.Reading.{word_read}
use Rattle.cert_stream.proofs.Tails.{word_says}
use Rattle.sby_terms.specs.declared.names.Answer.{Answer}
use Rattle.sby_terms.specs.declared.names.Answer.TheVariants.{Sat, Unsat}
use Rattle.cert_judge.specs.Values.{named, named_from, unnamed}
use Rattle.cert_judge.specs.Fate.{Found}
use Rattle.cert_judge.specs.Drup.{StreamFate, SayingsFate}
use Rattle.cert_judge.specs.DrupCert.{words, lines, IsIdle, IsRemark, Writes, Leads, Names, IsCertOf}
use Rattle.cert_judge.proofs.DrupLines.{AreFull, IsNext, full, line_texts, texts}
use Rattle.cert_judge.proofs.CertLines as upto
use Rattle.cert_judge.proofs.CertLines.{Upto, names_more, names_remark, one_byte, unknown_words, upto_as, upto_cut, upto_later, upto_now, writes_more, writes_nothing}
use Rattle.cert_judge.proofs.DrupAccepting.{none_heard_clause, none_heard_deletion}

-- nothing is said, or a fault
abbrev Nothing : List Saying → Type 0
Nothing said = (said ≡ []) ⊎ ((k : ParseFaultKind) × (n : ℕ) × (said ≡ bad k n))

module _ (vars : ℕ) (kind : ListKind) (counted : Bool) (unended more : List Saying) (place : ℕ) where
  -- what the words of a list, which are all these, say: its literals, and then nothing, what is said without a 0, or what its 0 says
  record Listed (all : List (List ℕ)) (lits : List LitOf) (said : List Saying) : Type 0 where
    pub new : List LitOf
    pub got : List LitOf
    pub tail : List Saying
    pub gets : got ≡ lits ++ new
    pub are : said ≡ flat_map (heard_says kind) new ++ tail
    pub ends : Nothing tail
        ⊎ ((tail ≡ unended) × Writes vars all got × (length got ≤ vars))
        ⊎ ((front : List (List ℕ)) × (rest : List Word) × (tail ≡ ended_says kind place got ∷ after_says more rest) × (all ≡ front ++ codes "0" ∷ texts rest) × Writes vars front got × (length got ≤ vars))

  nothing : (all : List (List ℕ)) (lits : List LitOf) (said : List Saying) → Nothing said → Listed all lits said
  nothing all lits said n = record { new = []; got = lits; tail = said; gets = sym (append-nil lits); are = refl; ends = inl n }

  word_listed : (all before : List (List ℕ)) (lits : List LitOf) (w : Word) (ws : List Word) (s : Scanned Part) → all ≡ before ++ texts (w ∷ ws) → w.text ≢ [] → Writes vars before lits
      → length lits ≤ vars → IsRead vars (leb vars (length lits)) w.text s
      → ((l : LitOf) → literal_of vars w.text ≡ Some l → length lits + 1 ≤ vars → Listed all (lits ++ l ∷ []) (list_says vars kind counted unended more place (lits ++ l ∷ []) ws))
      → Listed all lits (word_says vars kind counted unended more place lits s w ws)
  word_listed all before lits w ws (Misfit k n) e f h l r again = nothing all lits (bad k (w.place + n)) (inr (k, w.place + n, refl))
  word_listed all before lits w ws (Reads Gap) e f h l r again = absurd (f r)
  word_listed all before lits w ws (Reads Minus) e f h l r again =
      elim (cases_Bool w.done) [
        | inl t ↦ rw t (nothing all lits (bad BadLiteral (w.place + length w.text)) (inr (BadLiteral, w.place + length w.text, refl)))
        | inr t ↦ rw t (nothing all lits [] (inl refl))
      ]
  word_listed all before lits w ws (Reads Zero) e f h l r again =
      elim (cases_Bool (w.done || counted)) [
        | inl t ↦ rw t (record {
          new = [];
          got = lits;
          tail = ended_says kind place lits ∷ after_says more ws;
          gets = sym (append-nil lits);
          are = refl;
          ends = inr (inr (before, ws, refl, e ∙ ap (λ z. before ++ z ∷ texts ws) r, h, l));
        })
        | inr t ↦ rw t (nothing all lits [] (inl refl))
      ]
  word_listed all before lits w ws (Reads (Digits m)) e f h l (n, r) again =
      elim (cases_Bool w.done) [
        | inl t ↦
            let k = again m r (let b = leb-false vars (length lits) n in omega (arith, b)) in
            rw t (record {
              new = m ∷ k.new;
              got = k.got;
              tail = k.tail;
              gets = k.gets ∙ append_assoc lits (m ∷ []) k.new;
              are = ap (λ z. heard_says kind m ++ z) k.are ∙ sym (append_assoc (heard_says kind m) (flat_map (heard_says kind) k.new) k.tail);
              ends = k.ends;
            })
        | inr t ↦ rw t (nothing all lits [] (inl refl))
      ]

  list_listed : (all before : List (List ℕ)) (lits : List LitOf) (ws : List Word) → all ≡ before ++ texts ws → AreFull ws → Writes vars before lits → length lits ≤ vars
      → Listed all lits (list_says vars kind counted unended more place lits ws)
  list_listed all before lits [] e f h l =
      record {
        new = [];
        got = lits;
        tail = unended;
        gets = sym (append-nil lits);
        are = refl;
        ends = inr (inl (refl, subst (λ z. Writes vars z lits) (sym (e ∙ append-nil before)) h, l));
      }
  list_listed all before lits (w ∷ ws) e f h l =
      word_listed all before lits w ws (scan vars (leb vars (length lits)) Gap w.text) e f.0 h l (word_read vars (leb vars (length lits)) w.text)
      (λ m r n. list_listed all (before ++ w.text ∷ []) (lits ++ m ∷ []) ws (e ∙ sym (append_assoc before (w.text ∷ []) (texts ws))) f.1 (writes_more vars before lits w.text m h r)
      (let k = length_push lits m in omega (arith, n, k)))

module _ (vars : ℕ) (C : List (List LitOf)) where
  abbrev NameLines : Assignment → List (List (List ℕ)) → Type 0
  NameLines x ls = upto.NameLines vars C x ls

  -- lines that are a certificate
  abbrev CertLines : Assignment → List (List LitOf) → Answer → List (List (List ℕ)) → Type 0
  CertLines x F Unsat ls = (proof : List (List (List ℕ))) × (G : List (List LitOf)) × (ls ≡ proof ++ (codes "0" ∷ []) ∷ []) × Leads vars proof F G × IsAdmitted G []
  CertLines x F Sat ls =
      (proof : List (List (List ℕ))) × (last : List (List (List ℕ))) × (G : List (List LitOf)) × (values : List LitOf)
      × (ls ≡ proof ++ last) × Leads vars proof F G × Names vars last values × Satisfies (named_from x values) C

  names_cert : (x : Assignment) (F : List (List LitOf)) (a : Answer) (ls : List (List (List ℕ))) → a ≡ Sat → NameLines x ls → CertLines x F a ls
  names_cert x F Unsat ls e n = cc
  names_cert x F Sat ls e (values, n, s) = ([], ls, F, values, refl, refl, n, s)

  cert_step : (x : Assignment) (F H : List (List LitOf)) (a : Answer) (ws : List (List ℕ)) (ls : List (List (List ℕ)))
      → ((G : List (List LitOf)) (ps : List (List (List ℕ))) → Leads vars ps H G → Leads vars (ws ∷ ps) F G) → CertLines x H a ls → CertLines x F a (ws ∷ ls)
  cert_step x F H Unsat ws ls step (proof, G, e, k, d) = (ws ∷ proof, G, ap (λ z. ws ∷ z) e, step G proof k, d)
  cert_step x F H Sat ws ls step (proof, last, G, values, e, k, n, s) = (ws ∷ proof, last, G, values, ap (λ z. ws ∷ z) e, step G proof k, n, s)

  zero_cert : (x : Assignment) (F : List (List LitOf)) (a : Answer) → a ≡ Unsat → IsAdmitted F [] → CertLines x F a ((codes "0" ∷ []) ∷ [])
  zero_cert x F Unsat e d = ([], F, refl, refl, d)
  zero_cert x F Sat e d = cc

  module _ (a : Answer) where
    abbrev Finds : List (List LitOf) → Assignment → List Saying → Type 0
    Finds F x ss = SayingsFate C F x ss (Some (Found a))

    abbrev NamesUpto : Assignment → List (List ℕ) → Type 0
    NamesUpto x ls = (a ≡ Sat) × Upto (NameLines x) ls

    abbrev CertUpto : Assignment → List (List LitOf) → List (List ℕ) → Type 0
    CertUpto x F ls = Upto (CertLines x F a) ls

    nothing_found : (F : List (List LitOf)) (x : Assignment) (ss : List Saying) → Nothing ss → Finds F x ss → ⊥
    nothing_found F x ss (inl e) h = let k = subst (λ (z : List Saying). Finds F x z) e h in cc
    nothing_found F x ss (inr (kind, n, e)) h = let k = subst (λ (z : List Saying). Finds F x z) e h in cc

    fault_found : (F : List (List LitOf)) (x : Assignment) (kind : ParseFaultKind) (n : ℕ) → Finds F x (bad kind n) → ⊥
    fault_found F x kind n h = cc

    after_found : (F : List (List LitOf)) (x : Assignment) (rest : List Word) (more : List Saying) → Finds F x (after_says more rest) → (rest ≡ []) × Finds F x more
    after_found F x [] more h = (refl, h)
    after_found F x (w ∷ rest) more h = absurd (fault_found F x BadLine w.place h)

    named_back : (F : List (List LitOf)) (x : Assignment) (lits : List LitOf) (ss : List Saying) → Finds F x (flat_map (heard_says ValuesList) lits ++ ss) → Finds F (named_from x lits) ss
    named_back F x [] ss h = h
    named_back F x (l ∷ lits) ss h = named_back F (named x l) lits ss h

    -- a line, and the lines after it
    module _ (counted : Bool) (F : List (List LitOf)) (x : Assignment) (t : List ℕ) (ls : List (List ℕ)) (broken going more : List Saying)
        (amid : (y : Assignment) → Finds F y going → NamesUpto y ls) where
      -- a line of values
      module _ (place : ℕ) (vs : List Word) (v : words t ≡ codes "v" ∷ texts vs) (said : List Saying) (k : Listed vars ValuesList counted going more place (texts vs) [] said) (h : Finds F x said) where
        values_now : Finds F (named_from x k.got) k.tail
        values_now = subst (λ z. Finds F (named_from x z) k.tail) (sym k.gets) (named_back F x k.new k.tail (subst (λ (z : List Saying). Finds F x z) k.are h))

        values_end : (front : List (List ℕ)) (rest : List Word) → texts vs ≡ front ++ codes "0" ∷ texts rest → Writes vars front k.got → length k.got ≤ vars
            → SayingsFate C F (named_from x k.got) (IsValuesEnd ∷ after_says more rest) (Some (Found a)) → NamesUpto x (t ∷ ls)
        values_end front rest e w l (inl (s, q)) = (
          (let g : a ≡ Sat = cc in g),
          upto_now (NameLines x) t ls (codes "v" ∷ front) (texts rest) (v ∙ ap (λ z. codes "v" ∷ z) e) (k.got, (front ++ codes "0" ∷ [], refl, (front, refl, w, l)), s),
        )
        values_end front rest e w l (inr (n, s, q)) = cc

        values_upto : NamesUpto x (t ∷ ls)
        values_upto =
            elim k.ends [
              | inl n ↦ absurd (nothing_found F (named_from x k.got) k.tail n values_now)
              | inr r ↦ elim r [
                | inl (e, w, l) ↦
                    let n = amid (named_from x k.got) (subst (λ (z : List Saying). Finds F (named_from x k.got) z) e values_now) in
                    (n.0, upto_later (NameLines x) (NameLines (named_from x k.got)) t ls (λ us m. names_more vars C x (words t) us (texts vs) k.got v w l m) n.1)
                | inr (front, rest, e, q, w, l) ↦ values_end front rest q w l (subst (λ (z : List Saying). Finds F (named_from x k.got) z) e values_now)
              ]
            ]

      values_line : (place : ℕ) (vs : List Word) → words t ≡ codes "v" ∷ texts vs → AreFull vs → Finds F x (list_says vars ValuesList counted going more place [] vs) → NamesUpto x (t ∷ ls)
      values_line place vs v f h =
          values_upto place vs v (list_says vars ValuesList counted going more place [] vs) (list_listed vars ValuesList counted going more place (texts vs) [] [] vs refl f refl (omega arith)) h

      alone_found : (w : Word) (ss : List Saying) → Finds F x (alone w ss) → (eqb (length w.text) 1 ≡ true) × Finds F x ss
      alone_found w ss h = elim (cases_Bool (eqb (length w.text) 1)) [ inl t ↦ (t, rw t at h) | inr f ↦ absurd (fault_found F x BadLine (w.place + 1) (rw f at h)) ]

      values_first : (w : Word) (vs : List Word) → texts (w ∷ vs) ≡ words t → AreFull (w ∷ vs) → eqb (slice_index w.text 0) 118 ≡ true
          → Finds F x (alone w (list_says vars ValuesList counted going more w.place [] vs)) → NamesUpto x (t ∷ ls)
      values_first w vs e f b h =
          let k = alone_found w (list_says vars ValuesList counted going more w.place [] vs) h in
          values_line w.place vs (sym e ∙ ap (λ z. z ∷ texts vs) (one_byte w.text 118 b k.0)) f.1 k.1

      -- a remark, amid values
      amid_line : (ws : List Word) → texts ws ≡ words t → AreFull ws → Finds F x (line_says vars counted true broken going more ws) → NamesUpto x (t ∷ ls)
      amid_line [] e f h =
          let n = amid x h in
          (n.0, upto_later (NameLines x) (NameLines x) t ls (λ us m. names_remark vars C x (words t) us (subst IsRemark e tt) m) n.1)
      amid_line (w ∷ vs) e f h =
          elim (cases_Bool (eqb (slice_index w.text 0) 99)) [
            | inl c ↦
                let g : Finds F x going = rw c at h in
                let n = amid x g in
                (n.0, upto_later (NameLines x) (NameLines x) t ls (λ us m. names_remark vars C x (words t) us (subst IsRemark e (eqb-true (slice_index w.text 0) 99 c)) m) n.1)
            | inr c ↦ elim (cases_Bool (eqb (slice_index w.text 0) 118)) [
              | inl v ↦ values_first w vs e f v (rw (c, v) at h)
              | inr v ↦ absurd (fault_found F x BadLine w.place (rw (c, v) at h))
            ]
          ]

      -- a line of a proof
      module _ (breaks : Nothing broken) (later : (H : List (List LitOf)) → Finds H x more → CertUpto x H ls) where
        cert_of_names : NamesUpto x (t ∷ ls) → CertUpto x F (t ∷ ls)
        cert_of_names n = upto_as (CertLines x F a) (NameLines x) (t ∷ ls) (λ us m. names_cert x F a us n.0 m) n.1

        idle : IsIdle (words t) → Finds F x more → CertUpto x F (t ∷ ls)
        idle i h = upto_later (CertLines x F a) (CertLines x F a) t ls (λ us m. cert_step x F F a (words t) us (λ G ps k. inl (i, k)) m) (later F h)

        refuting : (c : List LitOf) (front more : List (List ℕ)) → a ≡ Unsat → IsAdmitted F c → c ≡ [] → words t ≡ front ++ codes "0" ∷ more → Writes vars front c → CertUpto x F (t ∷ ls)
        refuting c front more unsat admitted n e w =
            let z : front ≡ [] = writes_nothing vars front (subst (λ d. Writes vars front d) n w) in
            let q = rw z at e in
            upto_now (CertLines x F a) t ls [] more q (zero_cert x F a unsat (subst (λ d. IsAdmitted F d) n admitted))

        clause_end : (place : ℕ) (c : List LitOf) (front : List (List ℕ)) (rest : List Word) → words t ≡ front ++ codes "0" ∷ texts rest → Writes vars front c → length c ≤ vars
            → SayingsFate C F x (IsClause c place ∷ after_says more rest) (Some (Found a)) → CertUpto x F (t ∷ ls)
        clause_end place c front rest e w l (inl (d, n, k)) = refuting c front (texts rest) (let g : a ≡ Unsat = cc in g) d n e w
        clause_end place c front rest e w l (inr (inl (d, n, k))) =
            let b = after_found (F ++ c ∷ []) x rest more k in
            let q : words t ≡ front ++ codes "0" ∷ [] = e ∙ ap (λ z. front ++ codes "0" ∷ texts z) b.0 in
            upto_later (CertLines x F a) (CertLines x (F ++ c ∷ []) a) t ls (λ us r. cert_step x F (F ++ c ∷ []) a (words t) us (λ G ps g. inr (inl (c, (front, q, w, l), n, d, g))) r) (later (F ++ c ∷ []) b.1)
        clause_end place c front rest e w l (inr (inr (d, k))) = cc

        clause_upto : (place : ℕ) (said : List Saying) → Listed vars ClauseList counted broken more place (words t) [] said → Finds F x said → CertUpto x F (t ∷ ls)
        clause_upto place said k h =
            let now : Finds F x k.tail = subst (λ (z : List Saying). Finds F x z) (k.are ∙ ap (λ z. z ++ k.tail) (none_heard_clause vars C a k.new)) h in
            elim k.ends [
              | inl n ↦ absurd (nothing_found F x k.tail n now)
              | inr r ↦ elim r [
                | inl (e, w, l) ↦ absurd (nothing_found F x broken breaks (subst (λ (z : List Saying). Finds F x z) e now))
                | inr (front, rest, e, q, w, l) ↦ clause_end place k.got front rest q w l (subst (λ (z : List Saying). Finds F x z) e now)
              ]
            ]

        deletion_end : (c : List LitOf) (front : List (List ℕ)) (vs rest : List Word) → words t ≡ codes "d" ∷ texts vs → texts vs ≡ front ++ codes "0" ∷ texts rest → Writes vars front c → length c ≤ vars
            → SayingsFate C F x (IsDelete c ∷ after_says more rest) (Some (Found a)) → CertUpto x F (t ∷ ls)
        deletion_end c front vs rest v e w l (H, d, k) =
            let b = after_found H x rest more k in
            let q : texts vs ≡ front ++ codes "0" ∷ [] = e ∙ ap (λ z. front ++ codes "0" ∷ texts z) b.0 in
            upto_later (CertLines x F a) (CertLines x H a) t ls (λ us r. cert_step x F H a (words t) us (λ G ps g. inr (inr (c, texts vs, H, v, (front, q, w, l), d, g))) r) (later H b.1)

        deletion_upto : (place : ℕ) (vs : List Word) → words t ≡ codes "d" ∷ texts vs → (said : List Saying) → Listed vars Deletion counted broken more place (texts vs) [] said → Finds F x said → CertUpto x F (t ∷ ls)
        deletion_upto place vs v said k h =
            let now : Finds F x k.tail = subst (λ (z : List Saying). Finds F x z) (k.are ∙ ap (λ z. z ++ k.tail) (none_heard_deletion vars C a k.new)) h in
            elim k.ends [
              | inl n ↦ absurd (nothing_found F x k.tail n now)
              | inr r ↦ elim r [
                | inl (e, w, l) ↦ absurd (nothing_found F x broken breaks (subst (λ (z : List Saying). Finds F x z) e now))
                | inr (front, rest, e, q, w, l) ↦ deletion_end k.got front vs rest v q w l (subst (λ (z : List Saying). Finds F x z) e now)
              ]
            ]

        module _ (whole : counted ≡ false → Finds F x more → ⊥) where
          unknown_found : (ss : List Saying) → Finds F x (IsUnknown ∷ ss) → ⊥
          unknown_found ss h = cc

          status_line : (w : Word) (vs : List Word) → texts (w ∷ vs) ≡ words t → w.text ≡ codes "s" → Finds F x (status_says counted more vs) → CertUpto x F (t ∷ ls)
          status_line w vs e s h =
              elim (cases_Bool (is_unknown vs)) [
                | inl u ↦ elim (cases_Bool counted) [
                  | inl c ↦ absurd (unknown_found more (rw (u, c) at h))
                  | inr c ↦ absurd (whole c (rw (u, c) at h))
                ]
                | inr u ↦ idle (subst IsIdle e (inr (s, λ q. let k = unknown_words vs q in let m = sym u ∙ k in cc))) (rw u at h)
              ]

          plain_line : (w : Word) (vs : List Word) → texts (w ∷ vs) ≡ words t → AreFull (w ∷ vs) → Finds F x (plain_says vars counted broken more (slice_index w.text 0) w vs) → CertUpto x F (t ∷ ls)
          plain_line w vs e f h =
              elim (cases_Bool (eqb (slice_index w.text 0) 115)) [
                | inl s ↦ let k = alone_found w (status_says counted more vs) (rw s at h) in status_line w vs e (one_byte w.text 115 s k.0) k.1
                | inr s ↦ elim (cases_Bool (eqb (slice_index w.text 0) 100)) [
                  | inl d ↦
                      let k = alone_found w (list_says vars Deletion counted broken more w.place [] vs) (rw (s, d) at h) in
                      deletion_upto w.place vs (sym e ∙ ap (λ z. z ∷ texts vs) (one_byte w.text 100 d k.0)) (list_says vars Deletion counted broken more w.place [] vs)
                      (list_listed vars Deletion counted broken more w.place (texts vs) [] [] vs refl f.1 refl (omega arith)) k.1
                  | inr d ↦ elim (cases_Bool (eqb (slice_index w.text 0) 45 || is_digit (slice_index w.text 0))) [
                    | inl b ↦ clause_upto w.place (list_says vars ClauseList counted broken more w.place [] (w ∷ vs))
                        (list_listed vars ClauseList counted broken more w.place (words t) [] [] (w ∷ vs) (sym e) f refl (omega arith)) (rw (s, d, b) at h)
                    | inr b ↦ absurd (fault_found F x BadLine w.place (rw (s, d, b) at h))
                  ]
                ]
              ]

          one_line : (ws : List Word) → texts ws ≡ words t → AreFull ws → Finds F x (line_says vars counted false broken going more ws) → CertUpto x F (t ∷ ls)
          one_line [] e f h = idle (subst IsIdle e tt) h
          one_line (w ∷ vs) e f h =
              elim (cases_Bool (eqb (slice_index w.text 0) 99)) [
                | inl c ↦ idle (subst IsIdle e (inl (eqb-true (slice_index w.text 0) 99 c))) (rw c at h)
                | inr c ↦ elim (cases_Bool (eqb (slice_index w.text 0) 118)) [
                  | inl v ↦ cert_of_names (values_first w vs e f v (rw (c, v) at h))
                  | inr v ↦ plain_line w vs e f (rw (c, v) at h)
                ]
              ]

    none : (F : List (List LitOf)) (x : Assignment) → Finds F x [] → ⊥
    none F x h = nothing_found F x [] (inl refl) h

    amid_names : (ended : Bool) (at : ℕ) (F : List (List LitOf)) (x : Assignment) (ls : List (List ℕ)) → Finds F x (lines_say vars ended true at ls) → NamesUpto x ls
    amid_names ended at F x [] h = absurd (none F x h)
    amid_names ended at F x (t ∷ []) h =
        amid_line ended F x t [] [] [] [] (λ y k. absurd (none F y k)) (words_from false at [] t) (line_texts false at t) (full false at [] t) h
    amid_names ended at F x (t ∷ u ∷ ts) h =
        amid_line true F x t (u ∷ ts) (bad BadLine (at + length t)) (lines_say vars ended true (at + length t + 1) (u ∷ ts)) (lines_say vars ended false (at + length t + 1) (u ∷ ts))
        (λ y k. amid_names ended (at + length t + 1) F y (u ∷ ts) k) (words_from true at [] t) (line_texts true at t) (full true at [] t) h

    comes_upto : (ended : Bool) (at : ℕ) (F : List (List LitOf)) (x : Assignment) (ls : List (List ℕ)) → Finds F x (lines_say vars ended false at ls) → CertUpto x F ls
    comes_upto ended at F x [] h = absurd (none F x h)
    comes_upto ended at F x (t ∷ []) h =
        one_line ended F x t [] [] [] [] (λ y k. absurd (none F y k)) (inl refl) (λ H k. absurd (none H x k)) (λ c k. none F x k) (words_from false at [] t) (line_texts false at t) (full false at [] t) h
    comes_upto ended at F x (t ∷ u ∷ ts) h =
        one_line true F x t (u ∷ ts) (bad BadLine (at + length t)) (lines_say vars ended true (at + length t + 1) (u ∷ ts)) (lines_say vars ended false (at + length t + 1) (u ∷ ts))
        (λ y k. amid_names ended (at + length t + 1) F y (u ∷ ts) k) (inr (BadLine, at + length t, refl)) (λ H k. comes_upto ended (at + length t + 1) H x (u ∷ ts) k) (λ c k. absurd (let q = c in cc))
        (words_from true at [] t) (line_texts true at t) (full true at [] t) h

certifies : (f : FormulaOf) (s : List ℕ) (a : Answer) → CertLines f.vars f.clauses unnamed f.clauses a (lines s) → IsCertOf f s a
certifies f s Unsat h = h
certifies f s Sat h = h

-- up to a word 0, and what follows it
pub cert_found : (f : FormulaOf) (a : Answer) (ended : Bool) (s : List ℕ) → StreamFate f (sayings f.vars ended s) (Some (Found a)) → (n : ℕ) × (n ≤ length s) × IsCertOf f (take n s) a × IsNext (drop n s)
cert_found f a ended s h =
    let k = upto_cut (CertLines f.vars f.clauses unnamed f.clauses a) s (comes_upto f.vars f.clauses a ended 0 f.clauses unnamed (lines_of s) h) in
    (k.0, k.1, certifies f (take k.0 s) a k.2, k.3)
