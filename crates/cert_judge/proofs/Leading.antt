-- Sayings lead from one certificate to another.
use Rattle.std.proofs.Common.{◌≡◌, ℕ, ◌+◌, Bool, true, false, List, [], ◌∷◌, ◌++◌, Option, Some, None, Result, Ok, Err, refl, sym, ap, ◌∙◌, subst, inl, inr, append_assoc}
use Rattle.std.specs.Prelude.{is_some}
use Rattle.std.proofs.lemmas.List.{append-nil}
use Rattle.cnf_form.specs.Cnf.{Assignment, FormulaOf}
use Rattle.cert_stream.specs.Telling.{Gets, answer, is_stopped}
use Rattle.cert_stream.specs.declared.feeding.Fed.{Fed}
use Rattle.cert_stream.specs.declared.feeding.Fed.TheVariants.{More, Stopped}
use Rattle.cert_stream.specs.declared.mode.ParseFault.{ParseFault}
use Rattle.cert_judge.specs.Certificate.{CertificateOf, with_outcome}
use Rattle.cert_judge.specs.Fate.{Fate, Bad, cert_kind}
use Rattle.cert_judge.specs.Leading.{FateFrom, Heard, Hears, AwaitsMore, Leads, NamesBy, concluded}
use Rattle.cert_judge.specs.Lines.{AreValuesTold}
use Rattle.cert_judge.specs.Outcomes.{fate_of, fate_told}
use Rattle.cert_judge.specs.Reading.{Meaning, Parsing}
use Rattle.cert_judge.specs.Values.{named_from, unnamed, values_of}
use Rattle.cert_judge.specs.declared.stream.Outcome.{Outcome}
use Rattle.cert_judge.specs.declared.stream.Outcome.TheVariants.{Refuted, Satisfied, Unknown as UnknownOutcome, Bad as BadOutcome}

pub some_outcome : (o : Option Outcome) → is_some o ≡ true → (won : Outcome) × (o ≡ Some won)
some_outcome None e = cc
some_outcome (Some won) e = (won, refl)

pub no_outcome : (o : Option Outcome) → is_some o ≡ false → o ≡ None
no_outcome None e = refl
no_outcome (Some won) e = cc

abbrev pub certificate : {C : Type 0} → FormulaOf → C → List Bool → Option Outcome → CertificateOf C
certificate f c bits o = record { formula = f; checker = c; bits = bits; outcome = o }

module _ {S C : Type 0} (m : Meaning S C) where
  -- nothing more
  pub leads_nothing : (x : CertificateOf C) → x.outcome ≡ None → Leads m x [] x
  leads_nothing x e =
      record {
        formula = refl;
        size = refl;
        fate = λ rest fate h. rw e at h;
        values = λ rest a h. rw e at h;
        satisfied = λ s. absurd (let k = sym e ∙ s in cc);
      }

  -- an outcome that isn't one of values
  module _ (f : FormulaOf) (F G : C) (bits : List Bool) (s : S) (o : Outcome) where
    pub settles : (o ≡ Satisfied → ⊥) → ((rest : List S) (fate : Option Fate) → fate ≡ Some (fate_of o) → m.comes f F (values_of bits) (s ∷ rest) fate)
        → Leads m (certificate f F bits None) (s ∷ []) (certificate f G bits (Some o))
    settles n h = record { formula = refl; size = refl; fate = h; values = λ rest x g. absurd (n g.0); satisfied = λ e. absurd (let k : o ≡ Satisfied = cc in n k) }

  -- where what a certificate was is the value of its fields
  module _ (x : CertificateOf C) (f : FormulaOf) (F : C) (bits : List Bool) (o : Option Outcome) (e : certificate f F bits o ≡ x) (n : x.outcome ≡ None) where
    pub undecided : o ≡ None
    undecided = ap (λ (z : CertificateOf C). z.outcome) e ∙ n

    pub from_fields : (s : S) (y : CertificateOf C) → Leads m (certificate f F bits None) (s ∷ []) y → Leads m x (s ∷ []) y
    from_fields s y h = subst (λ (z : CertificateOf C). Leads m z (s ∷ []) y) (ap (certificate f F bits) (sym undecided) ∙ e) h

  -- sayings, and what comes after them
  pub leads_append : (x y z : CertificateOf C) (ss ts : List S) → Leads m x ss y → y.outcome ≡ None → Leads m y ts z → Leads m x (ss ++ ts) z
  leads_append x y z ss ts h e k =
      record {
        formula = k.formula ∙ h.formula;
        size = k.size ∙ h.size;
        fate = λ rest fate g.
            subst (λ (s : List S). m.comes x.formula x.checker (values_of x.bits) s fate) (sym (append_assoc ss ts rest))
            (h.fate (ts ++ rest) fate (subst (λ o. FateFrom m y o (ts ++ rest) fate) (sym e) (k.fate rest fate g)));
        values = λ rest a g.
            subst (λ (s : List S). named_from (values_of x.bits) (m.lits s) ≡ a) (sym (append_assoc ss ts rest))
            (h.values (ts ++ rest) a (subst (λ o. NamesBy m y o (ts ++ rest) a) (sym e) (k.values rest a g)));
        satisfied = k.satisfied;
      }

  -- after an outcome all else is nothing
  module _ (x y : CertificateOf C) (ss more : List S) (o : Outcome) (h : Leads m x ss y) (e : y.outcome ≡ Some o) where
    fate_ever : (a b : List S) (fate : Option Fate) → FateFrom m y y.outcome a fate → FateFrom m y y.outcome b fate
    fate_ever a b fate g = subst (λ k. FateFrom m y k b fate) (sym e) (subst (λ k. FateFrom m y k a fate) e g)

    names_ever : (a b : List S) (v : Assignment) → NamesBy m y y.outcome a v → NamesBy m y y.outcome b v
    names_ever a b v g = subst (λ k. NamesBy m y k b v) (sym e) (subst (λ k. NamesBy m y k a v) e g)

    pub leads_ever : Leads m x (ss ++ more) y
    leads_ever =
        record {
          formula = h.formula;
          size = h.size;
          fate = λ rest fate g. subst (λ (z : List S). m.comes x.formula x.checker (values_of x.bits) z fate) (sym (append_assoc ss more rest)) (h.fate (more ++ rest) fate (fate_ever rest (more ++ rest) fate g));
          values = λ rest v g. subst (λ (z : List S). named_from (values_of x.bits) (m.lits z) ≡ v) (sym (append_assoc ss more rest)) (h.values (more ++ rest) v (names_ever rest (more ++ rest) v g));
          satisfied = h.satisfied;
        }

  abbrev stops : CertificateOf C → Bool
  stops c = is_some c.outcome

  -- what a receiver gets leads to what it is then
  pub gets_lead : (ss : List S) (x y : CertificateOf C) (stopped : Bool) → x.outcome ≡ None → Gets (Hears m) stops x ss y stopped → Leads m x ss y × (is_some y.outcome ≡ stopped)
  gets_lead [] x y stopped e (p, q) = (subst (Leads m x []) p (leads_nothing x e), subst (λ (z : CertificateOf C). is_some z.outcome ≡ stopped) p (ap is_some e ∙ sym q))
  gets_lead (s ∷ ss) x y stopped e (z, h, inl (t, p, q)) =
      let o = some_outcome z.outcome t in
      (subst (Leads m x (s ∷ ss)) p (leads_ever x z (s ∷ []) ss o.0 (h e) o.1), subst (λ (w : CertificateOf C). is_some w.outcome ≡ stopped) p (t ∙ sym q))
  gets_lead (s ∷ ss) x y stopped e (z, h, inr (f, g)) =
      let n = no_outcome z.outcome f in
      let k = gets_lead ss z y stopped n g in
      (leads_append x z y (s ∷ []) ss (h e) n k.0, k.1)

  -- a fault at the end
  module _ (none_said : m.fault_said None ≡ [])
      (comes_fault : (f : FormulaOf) (c : C) (x : Assignment) (w : ParseFault) (rest : List S) (fate : Option Fate) → fate ≡ Some (Bad (cert_kind w.kind) w.byte) → m.comes f c x (m.fault_said (Some w) ++ rest) fate) where
    hears_fault : (x y : CertificateOf C) (ss : List S) (w : ParseFault) → Leads m x ss y → y.outcome ≡ None
        → Leads m x (ss ++ m.fault_said (Some w)) (with_outcome y (BadOutcome (record { kind = cert_kind w.kind; at = w.byte })))
    hears_fault x y ss w h e =
        record {
          formula = h.formula;
          size = h.size;
          fate = λ rest fate g. subst (λ (z : List S). m.comes x.formula x.checker (values_of x.bits) z fate) (sym (append_assoc ss (m.fault_said (Some w)) rest))
              (h.fate (m.fault_said (Some w) ++ rest) fate (subst (λ o. FateFrom m y o (m.fault_said (Some w) ++ rest) fate) (sym e) (comes_fault y.formula y.checker (values_of y.bits) w rest fate g)));
          values = λ rest a g. absurd (let k = g.0 in cc);
          satisfied = λ s. cc;
        }

    -- what a call of the parser makes of a certificate, with the fault that it answers
    heard_answer : (x y : CertificateOf C) (ss : List S) (fed : Result Fed ParseFault) (fault : Option ParseFault) → Leads m x ss y → is_some y.outcome ≡ is_stopped fed
        → (is_stopped fed ≡ false → fed ≡ answer fault) → Leads m x (ss ++ m.fault_said fault) (concluded y fed) × ((concluded y fed).outcome ≡ None → fault ≡ None)
    heard_answer x y ss (Ok More) None h t a = (subst (λ (z : List S). Leads m x z y) (sym (append-nil ss) ∙ ap (λ z. ss ++ z) (sym none_said)) h, λ n. refl)
    heard_answer x y ss (Ok More) (Some f) h t a = absurd (let k = a refl in cc)
    heard_answer x y ss (Ok Stopped) fault h t a =
        let o = some_outcome y.outcome t in
        (leads_ever x y ss (m.fault_said fault) o.0 h o.1, λ n. absurd (let k = sym o.1 ∙ n in cc))
    heard_answer x y ss (Err f) None h t a = absurd (let k = a refl in cc)
    heard_answer x y ss (Err f) (Some g) h t a =
        let k : f ≡ g = (let q = a refl in cc) in
        (subst (λ (z : ParseFault). Leads m x (ss ++ m.fault_said (Some z)) (concluded y (Err f))) k (hears_fault x y ss f h (no_outcome y.outcome t)), λ n. cc)

    goes_on : (y : CertificateOf C) (fed : Result Fed ParseFault) → is_some y.outcome ≡ is_stopped fed → (concluded y fed).outcome ≡ None → is_stopped fed ≡ false
    goes_on y (Ok More) t q = refl
    goes_on y (Ok Stopped) t q = absurd (let o = some_outcome y.outcome t in let k = sym o.1 ∙ q in cc)
    goes_on y (Err f) t q = refl

    -- a piece
    pub heard_piece : {W : Type 0} (p : Parsing W S) (w v : W) (x y z : CertificateOf C) (piece : List ℕ) (fed : Result Fed ParseFault) → x.outcome ≡ None → Gets (Hears m) stops x (p.said w piece) y (is_stopped fed)
        → (is_stopped fed ≡ false → v ≡ p.after w piece) → (is_stopped fed ≡ false → fed ≡ answer (p.fault (p.after w piece))) → z ≡ concluded y fed → Heard p m w x piece v z
    heard_piece p w v x y z piece fed n g k a e =
        let l = gets_lead (p.said w piece) x y (is_stopped fed) n g in
        let h = heard_answer x y (p.said w piece) fed (p.fault (p.after w piece)) l.0 l.1 a in
        subst (Heard p m w x piece v) (sym e) (record { leads = h.0; kept = λ q. k (goes_on y fed l.1 q); whole = h.1 })

    -- and the end
    pub heard_end : (x y z : CertificateOf C) (ss : List S) (fault : Option ParseFault) (fed : Result Fed ParseFault) → x.outcome ≡ None → Gets (Hears m) stops x ss y (is_stopped fed)
        → (is_stopped fed ≡ false → fed ≡ answer fault) → z ≡ concluded y fed → Leads m x (ss ++ m.fault_said fault) z
    heard_end x y z ss fault fed n g a e =
        let l = gets_lead ss x y (is_stopped fed) n g in
        subst (Leads m x (ss ++ m.fault_said fault)) (sym e) (heard_answer x y ss fed fault l.0 l.1 a).0

  -- from the beginning of a stream
  module _ {W : Type 0} (p : Parsing W S) (start w : W) (c : CertificateOf C) (bytes : List ℕ) (h : AwaitsMore p m start w c bytes) (more : List S) (d : CertificateOf C) (l : Leads m c more d) where
    comes_by : (fate : Option Fate) → FateFrom m d d.outcome [] fate → m.begins c.formula (p.said start bytes ++ more) fate
    comes_by fate g =
        let k = subst (λ (z : List S). m.comes c.formula c.checker (values_of c.bits) z fate) (append-nil more) (l.fate [] fate g) in
        h.fate more fate k

    -- the fate of all; nothing is said after nothing
    pub comes_told : ((f : FormulaOf) (e : C) (x : Assignment) → m.comes f e x [] None) → m.begins c.formula (p.said start bytes ++ more) (fate_told d.outcome)
    comes_told nothing = by d.outcome refl
      where
        by : (o : Option Outcome) → d.outcome ≡ o → m.begins c.formula (p.said start bytes ++ more) (fate_told o)
        by None n = comes_by None (subst (λ z. FateFrom m d z [] None) (sym n) (nothing d.formula d.checker (values_of d.bits)))
        by (Some o) n = comes_by (Some (fate_of o)) (subst (λ z. FateFrom m d z [] (Some (fate_of o))) (sym n) refl)

    values_by : d.outcome ≡ Some Satisfied → values_of d.bits ≡ named_from unnamed (m.lits (p.said start bytes ++ more))
    values_by n =
        let k = l.values [] (values_of d.bits) (subst (λ z. NamesBy m d z [] (values_of d.bits)) (sym n) (refl, refl)) in
        sym k ∙ ap (λ z. named_from (values_of c.bits) (m.lits z)) (append-nil more) ∙ h.values more

    pub values_told : (x : Assignment) → named_from unnamed (m.lits (p.said start bytes ++ more)) ≡ x → AreValuesTold d.formula x d.bits d.outcome
    values_told x q = by d.outcome refl
      where
        by : (o : Option Outcome) → d.outcome ≡ o → AreValuesTold d.formula x d.bits o
        by None n = tt
        by (Some Refuted) n = tt
        by (Some Satisfied) n = (l.size ∙ h.size ∙ ap (λ (f : FormulaOf). f.vars + 1) (sym l.formula), values_by n ∙ q, l.satisfied n)
        by (Some UnknownOutcome) n = tt
        by (Some (BadOutcome b)) n = tt

  -- a piece without an outcome
  module _ {W : Type 0} (p : Parsing W S) (said_append : (w : W) (a b : List ℕ) → p.said w (a ++ b) ≡ p.said w a ++ p.said (p.after w a) b) (after_append : (w : W) (a b : List ℕ) → p.after w (a ++ b) ≡ p.after (p.after w a) b)
      (none_said : m.fault_said None ≡ []) (start w v : W) (c d : CertificateOf C) (bytes piece : List ℕ) (h : AwaitsMore p m start w c bytes) (g : Heard p m w c piece v d) where
    pub said_whole : p.said start (bytes ++ piece) ++ m.fault_said (p.fault (p.after start (bytes ++ piece))) ≡ p.said start bytes ++ (p.said w piece ++ m.fault_said (p.fault (p.after w piece)))
    said_whole =
        ap (λ z. z ++ m.fault_said (p.fault (p.after start (bytes ++ piece)))) (said_append start bytes piece)
        ∙ ap (λ (u : W). (p.said start bytes ++ p.said (p.after start bytes) piece) ++ m.fault_said (p.fault u)) (after_append start bytes piece)
        ∙ append_assoc (p.said start bytes) (p.said (p.after start bytes) piece) (m.fault_said (p.fault (p.after (p.after start bytes) piece)))
        ∙ ap (λ (u : W). p.said start bytes ++ (p.said u piece ++ m.fault_said (p.fault (p.after u piece)))) (sym h.parser)

    module _ (n : d.outcome ≡ None) where
      nothing_else : (rest : List S) → p.said start bytes ++ ((p.said w piece ++ m.fault_said (p.fault (p.after w piece))) ++ rest) ≡ p.said start (bytes ++ piece) ++ rest
      nothing_else rest =
          let z : m.fault_said (p.fault (p.after w piece)) ≡ [] = ap m.fault_said (g.whole n) ∙ none_said in
          let q : (p.said w piece ++ m.fault_said (p.fault (p.after w piece))) ++ rest ≡ p.said w piece ++ rest = ap (λ x. (p.said w piece ++ x) ++ rest) z ∙ ap (λ z. z ++ rest) (append-nil (p.said w piece)) in
          let k : p.said start (bytes ++ piece) ≡ p.said start bytes ++ p.said w piece = said_append start bytes piece ∙ ap (λ (u : W). p.said start bytes ++ p.said u piece) (sym h.parser) in
          ap (λ z. p.said start bytes ++ z) q ∙ sym (append_assoc (p.said start bytes) (p.said w piece) rest) ∙ ap (λ z. z ++ rest) (sym k)

      fate_on : (rest : List S) (fate : Option Fate) → m.comes d.formula d.checker (values_of d.bits) rest fate → m.begins d.formula (p.said start (bytes ++ piece) ++ rest) fate
      fate_on rest fate k =
          let later = g.leads.fate rest fate (subst (λ o. FateFrom m d o rest fate) (sym n) k) in
          subst (λ (f : FormulaOf). m.begins f (p.said start (bytes ++ piece) ++ rest) fate) (sym g.leads.formula)
          (subst (λ (z : List S). m.begins c.formula z fate) (nothing_else rest) (h.fate ((p.said w piece ++ m.fault_said (p.fault (p.after w piece))) ++ rest) fate later))

      values_on : (rest : List S) → named_from (values_of d.bits) (m.lits rest) ≡ named_from unnamed (m.lits (p.said start (bytes ++ piece) ++ rest))
      values_on rest =
          let x = named_from (values_of d.bits) (m.lits rest) in
          let k = g.leads.values rest x (subst (λ o. NamesBy m d o rest x) (sym n) refl) in
          sym k ∙ h.values ((p.said w piece ++ m.fault_said (p.fault (p.after w piece))) ++ rest) ∙ ap (λ z. named_from unnamed (m.lits z)) (nothing_else rest)

      pub at_next : AwaitsMore p m start v d (bytes ++ piece)
      at_next =
          record {
            parser = g.kept n ∙ ap (λ (u : W). p.after u piece) h.parser ∙ sym (after_append start bytes piece);
            whole = ap p.fault (g.kept n) ∙ g.whole n;
            undecided = n;
            size = g.leads.size ∙ h.size ∙ ap (λ (f : FormulaOf). f.vars + 1) (sym g.leads.formula);
            fate = fate_on;
            values = values_on;
          }
