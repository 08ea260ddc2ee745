-- Proof files in text that are certificates.
use Rattle.std.proofs.Common.{◌≡◌, ◌⊎◌, ℕ, ◌+◌, ◌≤◌, Bool, true, false, ◌&&◌, eqb, List, [], ◌∷◌, ◌++◌, length, take, Some, None, refl, sym, ap, ◌∙◌, subst, inl, inr, arith, append_assoc}
use Rattle.std.specs.Prelude.{codes, map}
use Rattle.std.proofs.lemmas.Bool.{cases_Bool, eqb-true}
use Rattle.std.proofs.Math.Seq.{take-append_seam}
use Rattle.std.proofs.lemmas.List.{append-nil, length-append, map-append}
use Rattle.cnf_form.specs.Cnf.{LitOf, FormulaOf, IsAdmitted}
use Rattle.cert_stream.specs.Machine.{DrupOf, at_end, fault_of, turn}
use Rattle.cert_stream.specs.Text.{is_blank, lines_of, put_first}
use Rattle.cert_stream.specs.Stream.{bad, sayings}
use Rattle.cert_stream.specs.Telling.{Saying, IsClause, IsFault, after, fault_said, fresh, said, told_by}
use Rattle.cert_stream.specs.declared.mode.Mode.TheVariants.{Start, Bad}
use Rattle.cert_stream.specs.declared.mode.ParseFault.{ParseFault}
use Rattle.cert_stream.specs.declared.mode.ParseFaultKind.TheVariants.{BadLine}
use Rattle.cert_stream.proofs.Cutting.{after_append, said_append}
use Rattle.cert_stream.proofs.Faults.{with_mode}
use Rattle.cert_stream.proofs.GoingOn.{sayings_more}
use Rattle.cert_stream.proofs.Streams.{some_line, stream_spoken}
use Rattle.proof_stream.specs.Lines.{FileSays, HasClaim, Plain, Refused, up_to_fault}
use Rattle.proof_stream.specs.Passing.{starts_after}
use Rattle.proof_stream.specs.Text.{is_claim}
use Rattle.proof_stream.specs.declared.spot.Form.TheVariants.{Text}
use Rattle.proof_stream.proofs.Alone.{fed_starts}
use Rattle.proof_stream.proofs.Heads.{none_passes, passes_none}
use Rattle.proof_stream.proofs.Passing.{passes_snoc}
use Rattle.sby_terms.specs.declared.names.Answer.TheVariants.{Unsat}
use Rattle.cert_judge.specs.Drup.{StreamFate}
use Rattle.cert_judge.specs.DrupCert.{Leads, IsCertOf, lines, words}
use Rattle.cert_judge.specs.Fate.{Found}
use Rattle.cert_judge.specs.KindCert.{IsClosedCert, IsOpenCert, IsSpace}
use Rattle.cert_judge.specs.ProofFile.{BytesFate, LinesFate, tried}
use Rattle.cert_judge.specs.Values.{unnamed}
use Rattle.cert_judge.specs.declared.stream.StreamKind.TheVariants.{Proof}
use Rattle.cert_judge.proofs.Bounding.{sides}
use Rattle.cert_judge.proofs.CertSayings.{comes_cut, fault_some, found_before_fault, last_moves}
use Rattle.cert_judge.proofs.DrupAccepting.{cert_fate}
use Rattle.cert_judge.proofs.CertEnds.{Parts, drup_zero, last_same, parts, parts_front}
use Rattle.cert_judge.proofs.DrupCerts.{cert_found}
use Rattle.cert_judge.proofs.DrupFates.{comes_more}
use Rattle.cert_judge.proofs.DrupFollowing.{fate_followed}
use Rattle.cert_judge.proofs.FileFates.{found_at_end}

-- no line of s or v
abbrev pub NoClaim : List ℕ → Type 0
NoClaim bytes = HasClaim bytes → ⊥

no_claim_prefix : (front rest : List ℕ) → NoClaim (front ++ rest) → NoClaim front
no_claim_prefix front rest n (x, b, y, e, h, t) = n (x, b, y ++ rest, ap (λ z. z ++ rest) e ∙ append_assoc x (b ∷ y) rest, h, t)

space_claim : (b : ℕ) → IsSpace b → is_claim b ≡ false
space_claim b (inr e) = ap is_claim e
space_claim b (inl t) =
    elim (cases_Bool (eqb b 115)) [
      | inl e ↦ absurd (let k : is_blank 115 ≡ true = subst (λ z. is_blank z ≡ true) (eqb-true b 115 e) t in cc)
      | inr f ↦ elim (cases_Bool (eqb b 118)) [
        | inl e ↦ absurd (let k : is_blank 118 ≡ true = subst (λ z. is_blank z ≡ true) (eqb-true b 118 e) t in cc)
        | inr g ↦ rw (f, g) refl
      ]
    ]

and_false : (s c : Bool) → c ≡ false → (s && c) ≡ false
and_false true c e = e
and_false false c e = refl

no_claim_space : (bytes : List ℕ) (b : ℕ) → IsSpace b → NoClaim bytes → NoClaim (bytes ++ b ∷ [])
no_claim_space bytes b s h =
    passes_none (bytes ++ b ∷ []) (passes_snoc true bytes b (none_passes bytes h) (and_false (starts_after true bytes) (is_claim b) (space_claim b s)))

-- lines, one after the other
put_append : (b : ℕ) (ls us : List (List ℕ)) → ((t : List ℕ) × (ts : List (List ℕ)) × (ls ≡ t ∷ ts)) → put_first b (ls ++ us) ≡ put_first b ls ++ us
put_append b ls us (t, ts, e) = rw e refl

pub lines_fed : (a b : List ℕ) → lines_of (a ++ 10 ∷ b) ≡ lines_of a ++ lines_of b
lines_fed [] b = refl
lines_fed (c ∷ a) b =
    elim (cases_Bool (eqb c 10)) [
      | inl t ↦ rw t (ap (λ z. [] ∷ z) (lines_fed a b))
      | inr f ↦ rw f (ap (put_first c) (lines_fed a b) ∙ put_append c (lines_of a) (lines_of b) (some_line a))
    ]

-- a certificate with which a text begins
abbrev pub TextParts : FormulaOf → Bool → List ℕ → Type 0
TextParts f ended bytes = Parts (λ c. IsClosedCert Proof f c Unsat) ended bytes

module _ (f : FormulaOf) where
  abbrev Finds : List Saying → Type 0
  Finds ss = StreamFate f ss (Some (Found Unsat))

  finds_more : (ss more : List Saying) → Finds ss → Finds (ss ++ more)
  finds_more ss more h = comes_more f.clauses f.clauses unnamed ss more (Found Unsat) h

  finds_cut : (ss more : List Saying) → Finds (ss ++ more) → Finds ss ⊎ StreamFate f ss None
  finds_cut ss more h = comes_cut f.clauses f.clauses unnamed ss more (Found Unsat) h

  cert_says : (cert : List ℕ) → IsCertOf f cert Unsat → Finds (sayings f.vars true cert)
  cert_says cert w = elim ((cert_fate f cert (length cert) Unsat w (omega arith)).within (omega arith)) [ inl k ↦ k | inr (k, e) ↦ absurd (let z = e in cc) ]

  cert_parts : (ended : Bool) (bytes : List ℕ) → Finds (sayings f.vars ended bytes) → Parts (λ c. IsCertOf f c Unsat) ended bytes
  cert_parts = parts (λ ended s. Finds (sayings f.vars ended s)) (λ c. IsCertOf f c Unsat) (λ ended s h. cert_found f Unsat ended s h)
      (λ s rest h. let m = sayings_more f.vars false s rest in subst Finds (sym m.1) (finds_more (sayings f.vars false s) m.0 h)) (λ s c. drup_zero f Unsat s c)

  -- a space after a certificate
  followed_says : (cert : List ℕ) (b : ℕ) → IsSpace b → IsCertOf f cert Unsat → Finds (sayings f.vars false (cert ++ b ∷ []))
  followed_says cert b s w =
      (fate_followed f Unsat cert [] b (length cert + 1) s (omega arith) (cert_fate f cert (length cert + 1) Unsat w (omega arith))).within (let e = length-append cert (b ∷ []) in omega (arith, e))

  -- where a line starts that is not amid values, a last 0 says the empty clause
  module _ (stream : List ℕ) (none : NoClaim stream) where
    abbrev fed : List ℕ
    fed = stream ++ 10 ∷ []

    abbrev w : DrupOf
    w = after (fresh f.vars) fed

    none_fed : NoClaim fed
    none_fed = no_claim_space stream 10 (inr refl) none

    abbrev last : DrupOf → List Saying
    last v = told_by v (at_end v.mode) ++ fault_said (fault_of v.mode)

    zero_start : w.mode ≡ Start false → said w (48 ∷ []) ++ last (turn w 48).to ≡ IsClause [] w.taken ∷ []
    zero_start e = subst (λ m. said (with_mode w m) (48 ∷ []) ++ last (turn (with_mode w m) 48).to ≡ IsClause [] w.taken ∷ []) (sym e) refl

    fed_said : w.mode ≡ Start false → sayings f.vars false fed ≡ said (fresh f.vars) fed
    fed_said e = sym (stream_spoken f.vars false fed) ∙ ap (λ m. said (fresh f.vars) fed ++ fault_said (fault_of m)) e ∙ append-nil (said (fresh f.vars) fed)

    zero_says : w.mode ≡ Start false → sayings f.vars true (fed ++ 48 ∷ []) ≡ sayings f.vars false fed ++ IsClause [] w.taken ∷ []
    zero_says e =
        sym (stream_spoken f.vars true (fed ++ 48 ∷ []))
        ∙ ap (λ z. z ++ last (after (fresh f.vars) (fed ++ 48 ∷ []))) (said_append (fresh f.vars) fed (48 ∷ []))
        ∙ ap (λ (v : DrupOf). (said (fresh f.vars) fed ++ said w (48 ∷ [])) ++ last v) (after_append (fresh f.vars) fed (48 ∷ []))
        ∙ append_assoc (said (fresh f.vars) fed) (said w (48 ∷ [])) (last (turn w 48).to)
        ∙ ap (λ z. said (fresh f.vars) fed ++ z) (zero_start e)
        ∙ ap (λ z. z ++ IsClause [] w.taken ∷ []) (sym (fed_said e))

    fault_says : (g : ParseFault) → w.mode ≡ Bad g → sayings f.vars false fed ≡ said (fresh f.vars) fed ++ IsFault g ∷ []
    fault_says g e = sym (stream_spoken f.vars false fed) ∙ ap (λ m. said (fresh f.vars) fed ++ fault_said (fault_of m)) e

    starts : StreamFate f (sayings f.vars false fed) None → w.mode ≡ Start false
    starts h =
        elim (fed_starts f.vars stream (none_passes stream none)) [
          | inl e ↦ e
          | inr (g, e) ↦ absurd (fault_some f.clauses f.clauses unnamed (said (fresh f.vars) fed) g (subst (λ (z : List Saying). StreamFate f z None) (fault_says g e) h))
        ]

    -- the file's end completes it
    ends_found : Finds (tried (length stream) (sayings f.vars false fed)) → BytesFate Text f true stream (Some (Found Unsat))
    ends_found h =
        let m = sayings_more f.vars false stream (10 ∷ []) in
        let k : Finds (sayings f.vars false stream ++ (m.0 ++ IsClause [] (length stream) ∷ [])) =
        subst Finds (append_assoc (sayings f.vars false stream) m.0 (IsClause [] (length stream) ∷ [])) (subst (λ (z : List Saying). Finds (tried (length stream) z)) m.1 h) in
        elim (finds_cut (sayings f.vars false stream) (m.0 ++ IsClause [] (length stream) ∷ []) k) [
          | inl g ↦ inl (sayings f.vars false stream, Plain none refl, g)
          | inr g ↦ inr ((sayings f.vars false stream, Plain none refl, g), (sayings f.vars false fed, Found Unsat, Plain none_fed refl, h, refl))
        ]

    closed_comes : IsCertOf f stream Unsat → BytesFate Text f true stream (Some (Found Unsat))
    closed_comes c = ends_found (finds_more (sayings f.vars false fed) (IsClause [] (length stream) ∷ []) (followed_says stream 10 (inr refl) c))

    lines_zero : lines (fed ++ 48 ∷ []) ≡ lines stream ++ (codes "0" ∷ []) ∷ []
    lines_zero = ap lines (append_assoc stream (10 ∷ []) (48 ∷ [])) ∙ ap (map words) (lines_fed stream (48 ∷ [])) ∙ map-append words (lines_of stream) ((48 ∷ []) ∷ [])

    lines_feed : lines fed ≡ lines stream ++ [] ∷ []
    lines_feed = ap (map words) (lines_fed stream []) ∙ map-append words (lines_of stream) ([] ∷ [])

    open_comes : (G : List (List LitOf)) → Leads f.vars (lines stream) f.clauses G → IsAdmitted G [] → BytesFate Text f true stream (Some (Found Unsat))
    open_comes G l a = ends_found (by (finds_cut (sayings f.vars false fed) m.0 (subst Finds m.1 h)))
      where
        h : Finds (sayings f.vars true (fed ++ 48 ∷ []))
        h = cert_says (fed ++ 48 ∷ []) (lines stream, G, lines_zero, l, a)

        m : (more : List Saying) × (sayings f.vars true (fed ++ 48 ∷ []) ≡ sayings f.vars false fed ++ more)
        m = sayings_more f.vars true fed (48 ∷ [])

        by : Finds (sayings f.vars false fed) ⊎ StreamFate f (sayings f.vars false fed) None → Finds (tried (length stream) (sayings f.vars false fed))
        by (inl g) = finds_more (sayings f.vars false fed) (IsClause [] (length stream) ∷ []) g
        by (inr g) = last_moves f.clauses f.clauses unnamed (sayings f.vars false fed) w.taken (length stream) (subst Finds (zero_says (starts g)) h)

    -- no certificate ends with a line feed
    not_fed : IsCertOf f fed Unsat → ⊥
    not_fed (proof, G, e, l, a) = let k = (last_same (lines stream) proof [] (codes "0" ∷ []) (sym lines_feed ∙ e)).1 in let q = k in cc

    length_fed : length fed ≡ length stream + 1
    length_fed = length-append stream (10 ∷ [])

    in_front : (z cert : List ℕ) (b : ℕ) (rest : List ℕ) → stream ++ z ≡ cert ++ b ∷ rest → length cert ≤ length stream → IsCertOf f cert Unsat → IsSpace b → TextParts f true stream
    in_front z cert b rest e l c s =
        let k = parts_front (λ x. IsCertOf f x Unsat) stream z cert b rest e l c s in
        (k.0, k.1, k.2, (refl, no_claim_prefix k.0 k.1 (subst NoClaim k.2 none), k.3), k.4)

    in_fed : Parts (λ c. IsCertOf f c Unsat) false fed → TextParts f true stream
    in_fed (cert, [], e, c, i) = absurd (let k = i in cc)
    in_fed (cert, b ∷ rest, e, c, i) =
        let len : length fed ≡ length cert + length (b ∷ rest) = ap length e ∙ length-append cert (b ∷ rest) in
        let l = length_fed in
        in_front (10 ∷ []) cert b rest e (omega (arith, len, l)) c i

    whole : IsCertOf f (fed ++ 48 ∷ []) Unsat → IsOpenCert Proof f stream Unsat
    whole (proof, G, e, k, a) =
        let p = last_same (lines stream) proof (codes "0" ∷ []) (codes "0" ∷ []) (sym lines_zero ∙ e) in
        (refl, none, (G, subst (λ z. Leads f.vars z f.clauses G) (sym p.0) k, a))

    in_zero : Parts (λ c. IsCertOf f c Unsat) true (fed ++ 48 ∷ []) → TextParts f true stream ⊎ IsOpenCert Proof f stream Unsat
    in_zero (cert, [], e, c, i) = inr (whole (subst (λ z. IsCertOf f z Unsat) (sym (e ∙ append-nil cert)) c))
    in_zero (cert, b ∷ rest, e, c, i) =
        let len : length (fed ++ 48 ∷ []) ≡ length cert + length (b ∷ rest) = ap length e ∙ length-append cert (b ∷ rest) in
        let l = length-append fed (48 ∷ []) in
        let m = length_fed in
        elim (sides (length cert) (length stream)) [
          | inl k ↦ inl (in_front (10 ∷ 48 ∷ []) cert b rest (sym (append_assoc stream (10 ∷ []) (48 ∷ [])) ∙ e) k c i)
          | inr k ↦
              let t : take (length cert) (fed ++ 48 ∷ []) ≡ cert = ap (take (length cert)) e ∙ take-append_seam cert (b ∷ rest) in
              let u : take (length cert) (fed ++ 48 ∷ []) ≡ fed = ap (λ n. take n (fed ++ 48 ∷ [])) (omega (arith, len, l, m, k)) ∙ take-append_seam fed (48 ∷ []) in
              absurd (not_fed (subst (λ z. IsCertOf f z Unsat) (sym t ∙ u) c))
        ]

    tried_cert : Finds (tried (length stream) (sayings f.vars false fed)) → TextParts f true stream ⊎ IsOpenCert Proof f stream Unsat
    tried_cert h =
        elim (finds_cut (sayings f.vars false fed) (IsClause [] (length stream) ∷ []) h) [
          | inl g ↦ inl (in_fed (cert_parts false fed g))
          | inr g ↦
              let z : Finds (sayings f.vars true (fed ++ 48 ∷ [])) = subst Finds (sym (zero_says (starts g))) (last_moves f.clauses f.clauses unnamed (sayings f.vars false fed) (length stream) w.taken h) in
              in_zero (cert_parts true (fed ++ 48 ∷ []) z)
        ]

  closed_parts : (ended : Bool) (bytes : List ℕ) → NoClaim bytes → Parts (λ c. IsCertOf f c Unsat) ended bytes → TextParts f ended bytes
  closed_parts ended bytes none (cert, rest, e, c, i) = (cert, rest, e, (refl, no_claim_prefix cert rest (subst NoClaim e none), c), i)

  -- a text that goes on with a line of s or v is read up to that
  refused_cert : (front : List ℕ) → NoClaim front → (more : List Saying) → Finds (up_to_fault (sayings f.vars false front ++ bad BadLine (length front)) ++ more) → TextParts f false front
  refused_cert front none more h =
      closed_parts false front none (cert_parts false front (found_before_fault f.clauses f.clauses unnamed (sayings f.vars false front) more (record { kind = BadLine; byte = length front }) Unsat h))

  goes_on : (front more : List ℕ) → TextParts f false front → TextParts f false (front ++ more)
  goes_on front more (cert, [], e, c, i) = absurd (let k = i in cc)
  goes_on front more (cert, b ∷ rest, e, c, i) = (cert, b ∷ rest ++ more, ap (λ z. z ++ more) e ∙ append_assoc cert (b ∷ rest) more, c, i)

  pub lines_cert : (bytes : List ℕ) → LinesFate Text f bytes (Some (Found Unsat)) → TextParts f false bytes
  lines_cert bytes (ss, Plain none e, h) = closed_parts false bytes none (cert_parts false bytes (subst Finds e h))
  lines_cert bytes (ss, Refused front b rest g i c none e, h) =
      let k = refused_cert front none [] (subst Finds (sym (append-nil (up_to_fault (sayings f.vars false front ++ bad BadLine (length front))))) (subst Finds e h)) in
      subst (TextParts f false) (sym g) (goes_on front (b ∷ rest) k)

  pub ends_too : (bytes : List ℕ) → TextParts f false bytes → TextParts f true bytes
  ends_too bytes (cert, [], e, c, i) = absurd (let k = i in cc)
  ends_too bytes (cert, b ∷ rest, e, c, i) = (cert, b ∷ rest, e, c, i)

  -- at a file's end
  in_stream : (stream front : List ℕ) (b : ℕ) (rest : List ℕ) → stream ++ 10 ∷ [] ≡ front ++ b ∷ rest → TextParts f false front → TextParts f true stream
  in_stream stream front b rest g (cert, [], e, c, i) = absurd (let k = i in cc)
  in_stream stream front b rest g (cert, d ∷ more, e, c, i) =
      let q : stream ++ 10 ∷ [] ≡ cert ++ d ∷ (more ++ b ∷ rest) = g ∙ ap (λ z. z ++ b ∷ rest) e ∙ append_assoc cert (d ∷ more) (b ∷ rest) in
      let len : length (stream ++ 10 ∷ []) ≡ length cert + length (d ∷ (more ++ b ∷ rest)) = ap length q ∙ length-append cert (d ∷ (more ++ b ∷ rest)) in
      let l = length-append stream (10 ∷ []) in
      parts_front (λ z. IsClosedCert Proof f z Unsat) stream (10 ∷ []) cert d (more ++ b ∷ rest) q (omega (arith, len, l)) c i

  end_cert : (stream : List ℕ) (ss : List Saying) → FileSays Text f.vars true stream ss → Finds (tried (length stream) ss) → TextParts f true stream ⊎ IsOpenCert Proof f stream Unsat
  end_cert stream ss (Plain none e) h = tried_cert stream (no_claim_prefix stream (10 ∷ []) none) (subst (λ (z : List Saying). Finds (tried (length stream) z)) e h)
  end_cert stream ss (Refused front b rest g i c none e) h =
      inl (in_stream stream front b rest g (refused_cert front none (IsClause [] (length stream) ∷ []) (subst (λ (z : List Saying). Finds (tried (length stream) z)) e h)))

  pub text_cert : (stream : List ℕ) → BytesFate Text f true stream (Some (Found Unsat)) → TextParts f true stream ⊎ IsOpenCert Proof f stream Unsat
  text_cert stream (inl h) = inl (ends_too stream (lines_cert stream h))
  text_cert stream (inr (k, (ss, v, s, h, e))) = end_cert stream ss s (subst (λ z. StreamFate f (tried (length stream) ss) (Some z)) (found_at_end (length stream) Unsat v e) h)

  -- a space after a certificate, and whatever comes then
  pub text_followed : (cert : List ℕ) (b : ℕ) → IsSpace b → NoClaim cert → IsCertOf f cert Unsat → BytesFate Text f false (cert ++ b ∷ []) (Some (Found Unsat))
  text_followed cert b s none w = (sayings f.vars false (cert ++ b ∷ []), Plain (no_claim_space cert b s none) refl, followed_says cert b s w)

  pub text_closed : (stream : List ℕ) → NoClaim stream → IsCertOf f stream Unsat → BytesFate Text f true stream (Some (Found Unsat))
  text_closed stream none w = closed_comes stream none w

  pub text_open : (stream : List ℕ) → NoClaim stream → (G : List (List LitOf)) → Leads f.vars (lines stream) f.clauses G → IsAdmitted G [] → BytesFate Text f true stream (Some (Found Unsat))
  text_open stream none G l a = open_comes stream none G l a
