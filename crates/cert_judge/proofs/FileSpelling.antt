-- A binary proof and its text have the same fate.
use Rattle.std.proofs.Common.{◌≡◌, ◌⊎◌, ℕ, ◌≤◌, true, false, eqb, List, [], ◌∷◌, ◌++◌, length, Option, Some, None, refl, sym, ap, ◌∙◌, subst, inl, inr, Bool}
use Rattle.std.proofs.lemmas.Bool.{cases_Bool, eqb-false}
use Rattle.std.specs.Prelude.{Contains}
use Rattle.std.proofs.lemmas.List.Elements.{Contains-append_cases, Contains-append_right}
use Rattle.cnf_form.proofs.Members.{Contains-head, Contains-one}
use Rattle.cnf_form.specs.Cnf.{LitOf, FormulaOf}
use Rattle.cnf_form.specs.Dimacs.{IsDimacs}
use Rattle.cnf_form.proofs.Reading.{IsDimacs-one}
use Rattle.cert_stream.specs.Telling.{Saying}
use Rattle.sby_terms.specs.declared.names.Answer.TheVariants.{Unsat}
use Rattle.cert_stream.specs.declared.mode.ParseFaultKind.{ParseFaultKind}
use Rattle.cert_judge.specs.declared.stream.CertKind.{CertKind}
use Rattle.cert_judge.specs.declared.stream.CertKind.TheVariants.{NotRup, EarlyEnd}
use Rattle.cert_judge.specs.declared.stream.StreamKind.TheVariants.{Proof, ProofBinary}
use Rattle.cert_judge.specs.Drup.{SayingsFate as DrupSayingsFate}
use Rattle.cert_judge.specs.Fate.{Fate, FateBy, Found, Bad, cert_kind}
use Rattle.cert_judge.specs.Kinds.{FateOf, IsFate}
use Rattle.cert_judge.specs.Values.{unnamed}
use Rattle.cert_judge.proofs.Bounding.{some_same}
use Rattle.cert_judge.proofs.Deletions.{Clauses, Alike, alike_itself, alike_admitted, admitted_alike, alike_more, alike_deleted}
use Rattle.proof_stream.specs.Binary.{line_said}
use Rattle.proof_stream.specs.Lines.{FileSays}
use Rattle.proof_stream.specs.AnyLines.{AreSaidTo, Either, IsCrowded, LineFault, SaidBy, SpeltAny, Sure, Tells, fault_in}
use Rattle.proof_stream.specs.Spelling.{ProofLine, Spelt}
use Rattle.proof_stream.specs.declared.spot.LineKind.{LineKind}
use Rattle.proof_stream.specs.declared.spot.LineKind.TheVariants.{Clause, Deletion}
use Rattle.proof_stream.specs.declared.spot.Form.{Form}
use Rattle.proof_stream.specs.declared.spot.Form.TheVariants.{Binary, Text}
use Rattle.proof_stream.proofs.AnyLines.{lines_said, spelt_is_any, spelt_not_crowded}
use Rattle.cert_judge.specs.ProofFile.{BytesFate, at_end, tried}
use Rattle.cert_judge.specs.Same.{IsLiteralFault, IsSameFate}

-- the same but for byte numbers; or a literal is at fault in both, where some line has one of a greater variable after as many as there are variables
module _ (Crowded : Type 0) where
  abbrev pub IsLike : Fate → Fate → Type 0
  IsLike x y = IsSameFate x y ⊎ (Crowded × IsLiteralFault x × IsLiteralFault y)

  abbrev AreSame : Option Fate → Option Fate → Type 0
  AreSame None y = y ≡ None
  AreSame (Some x) y = (z : Fate) × (y ≡ Some z) × IsLike x z

  same_as : (x y z w : Option Fate) → x ≡ z → y ≡ w → AreSame z w → AreSame x y
  same_as x y z w e f h = subst (λ a. AreSame a y) (sym e) (subst (AreSame z) (sym f) h)

  found_same : (x y : Option Fate) → x ≡ Some (Found Unsat) → y ≡ Some (Found Unsat) → AreSame x y
  found_same x y e f = same_as x y (Some (Found Unsat)) (Some (Found Unsat)) e f (Found Unsat, refl, inl refl)

  bad_same : (kind : CertKind) (p q : ℕ) (x y : Option Fate) → x ≡ Some (Bad kind p) → y ≡ Some (Bad kind q) → AreSame x y
  bad_same kind p q x y e f = same_as x y (Some (Bad kind p)) (Some (Bad kind q)) e f (Bad kind q, refl, inl (q, refl))

  literal_fault : (kind : ParseFaultKind) (p : ℕ) → Tells Either kind → IsLiteralFault (Bad (cert_kind kind) p)
  literal_fault kind p (inl e) = (p, inl (ap (λ k. Bad (cert_kind k) p) e))
  literal_fault kind p (inr e) = (p, inr (ap (λ k. Bad (cert_kind k) p) e))

  fault_same : (fault : LineFault) (k m : ParseFaultKind) (p q : ℕ) (x y : Option Fate) → (fault ≡ Either → Crowded) → Tells fault k → Tells fault m → x ≡ Some (Bad (cert_kind k) p) → y ≡ Some (Bad (cert_kind m) q) → AreSame x y
  fault_same (Sure kind) k m p q x y c t u e f = bad_same (cert_kind kind) p q x y (e ∙ ap (λ z. Some (Bad (cert_kind z) p)) t) (f ∙ ap (λ z. Some (Bad (cert_kind z) q)) u)
  fault_same Either k m p q x y c t u e f =
      same_as x y (Some (Bad (cert_kind k) p)) (Some (Bad (cert_kind m) q)) e f (Bad (cert_kind m) q, refl, inr (c refl, literal_fault k p t, literal_fault m q u))

  same_some : (x y : Fate) → AreSame (Some x) (Some y) → IsLike x y
  same_some x y (z, e, h) = let k : z ≡ y = cc in subst (IsLike x) k h

abbrev pub empty : ProofLine
empty = record { kind = Clause; lits = [] }

-- lines have the same fate, wherever they stand
module _ (Crowded : Type 0) (C : Clauses) (vars : ℕ) where
  abbrev pub SayingsFate : Clauses → List Saying → Option Fate → Type 0
  SayingsFate F ss fate = DrupSayingsFate C F unnamed ss fate

  abbrev Again : List Saying → List Saying → Option Fate → Option Fate → Type 0
  Again ss ts x y = (H K : Clauses) → Alike H K → SayingsFate H ss x → SayingsFate K ts y → AreSame Crowded x y

  same_line : (kind : LineKind) (c : List LitOf) (p q : ℕ) (F G : Clauses) (ss ts : List Saying) (x y : Option Fate) → Alike F G → Again ss ts x y → SayingsFate F (line_said kind p c ∷ ss) x
      → SayingsFate G (line_said kind q c ∷ ts) y → AreSame Crowded x y
  same_line Clause c p q F G ss ts x y w again (inl (a, e, h)) (inl (b, f, k)) = found_same Crowded x y h k
  same_line Clause c p q F G ss ts x y w again (inl (a, e, h)) (inr (inl (b, f, k))) = absurd (f e)
  same_line Clause c p q F G ss ts x y w again (inl (a, e, h)) (inr (inr (b, k))) = absurd (b (alike_admitted F G c w a))
  same_line Clause c p q F G ss ts x y w again (inr (inl (a, e, h))) (inl (b, f, k)) = absurd (e f)
  same_line Clause c p q F G ss ts x y w again (inr (inl (a, e, h))) (inr (inl (b, f, k))) = again (F ++ c ∷ []) (G ++ c ∷ []) (alike_more F G c w) h k
  same_line Clause c p q F G ss ts x y w again (inr (inl (a, e, h))) (inr (inr (b, k))) = absurd (b (alike_admitted F G c w a))
  same_line Clause c p q F G ss ts x y w again (inr (inr (a, h))) (inl (b, f, k)) = absurd (a (admitted_alike F G c w b))
  same_line Clause c p q F G ss ts x y w again (inr (inr (a, h))) (inr (inl (b, f, k))) = absurd (a (admitted_alike F G c w b))
  same_line Clause c p q F G ss ts x y w again (inr (inr (a, h))) (inr (inr (b, k))) = bad_same Crowded NotRup p q x y h k
  same_line Deletion c p q F G ss ts x y w again (H, d, h) (K, e, k) = again H K (alike_deleted F G H K c w d e) h k

  -- the same lines have the same fate, and so does what is at fault with them
  same_said : (o : Option LineFault) (l : ProofLine) (ls : List ProofLine) (ss ts : List Saying) (x y : Option Fate) → (o ≡ Some Either → Crowded) → ((s t : List Saying) → AreSaidTo vars ls s → AreSaidTo vars ls t → Again s t x y)
      → SaidBy o l (AreSaidTo vars ls) ss → SaidBy o l (AreSaidTo vars ls) ts → Again ss ts x y
  same_said None l ls ss ts x y c again (p, s, e, a) (q, t, f, b) F G w h k =
      same_line l.kind l.lits p q F G s t x y w (again s t a b) (subst (λ (z : List Saying). SayingsFate F z x) e h) (subst (λ (z : List Saying). SayingsFate G z y) f k)
  same_said (Some fault) l ls ss ts x y c again (k, p, t, e) (m, q, u, f) F G w h i =
      fault_same Crowded fault k m p q x y (λ z. c (ap Some z)) t u (subst (λ (z : List Saying). SayingsFate F z x) e h) (subst (λ (z : List Saying). SayingsFate G z y) f i)

  abbrev MayCrowd : List ProofLine → Type 0
  MayCrowd ls = (l : ProofLine) → Contains ls l → fault_in vars 0 l.lits ≡ Some Either → Crowded

  same_comes : (ls : List ProofLine) (ss ts : List Saying) (x y : Option Fate) → MayCrowd ls → AreSaidTo vars ls ss → AreSaidTo vars ls ts → Again ss ts x y
  same_comes [] ss ts x y c e f F G w h k =
      same_as Crowded x y None None (subst (λ (z : List Saying). SayingsFate F z x) e h) (subst (λ (z : List Saying). SayingsFate G z y) f k) refl
  same_comes (l ∷ ls) ss ts x y c a b F G w h k =
      same_said (fault_in vars 0 l.lits) l ls ss ts x y (c l (Contains-head l ls)) (λ s t i j. same_comes ls s t x y (λ m n. c m (Contains-append_right (l ∷ []) ls m n)) i j) a b F G w h k

  -- undecided lines have no fault: a last empty clause is said after them
  line_none : (kind : LineKind) (c : List LitOf) (p : ℕ) (F : Clauses) (ss : List Saying) → SayingsFate F (line_said kind p c ∷ ss) None → (G : Clauses) × SayingsFate G ss None
  line_none Clause c p F ss (inl (a, e, h)) = absurd (let z = h in cc)
  line_none Clause c p F ss (inr (inl (a, e, h))) = (F ++ c ∷ [], h)
  line_none Clause c p F ss (inr (inr (a, h))) = absurd (let z = h in cc)
  line_none Deletion c p F ss (G, d, h) = (G, h)

  tried_by : (o : Option LineFault) (l : ProofLine) (ls ms : List ProofLine) (ss ts : List Saying) (F : Clauses) (n : ℕ)
      → ((G : Clauses) (s t : List Saying) → AreSaidTo vars ls s → SayingsFate G s None → AreSaidTo vars ls t → AreSaidTo vars ms (tried n t)) → SaidBy o l (AreSaidTo vars ls) ss → SayingsFate F ss None → SaidBy o l (AreSaidTo vars ls) ts
      → SaidBy o l (AreSaidTo vars ms) (tried n ts)
  tried_by None l ls ms ss ts F n again (p, s, e, a) h (q, t, f, b) =
      let k = line_none l.kind l.lits p F s (subst (λ (z : List Saying). SayingsFate F z None) e h) in
      (q, tried n t, ap (tried n) f, again k.0 s t a k.1 b)
  tried_by (Some fault) l ls ms ss ts F n again (k, p, t, e) h b = absurd (let z = subst (λ (z : List Saying). SayingsFate F z None) e h in cc)

  tried_said : (ls : List ProofLine) (ss ts : List Saying) (F : Clauses) (n : ℕ) → AreSaidTo vars ls ss → SayingsFate F ss None → AreSaidTo vars ls ts → AreSaidTo vars (ls ++ empty ∷ []) (tried n ts)
  tried_said [] ss ts F n a h e = (n, [], ap (tried n) e, refl)
  tried_said (l ∷ ls) ss ts F n a h b = tried_by (fault_in vars 0 l.lits) l ls (ls ++ empty ∷ []) ss ts F n (λ G s t c k d. tried_said ls s t G n c k d) a h b

  -- a last empty clause after undecided lines is admitted, or refused there
  abbrev IsLast : ℕ → Fate → Type 0
  IsLast n v = (v ≡ Found Unsat) ⊎ (v ≡ Bad NotRup n)

  last_line : (kind : LineKind) (c : List LitOf) (p q n : ℕ) (F G : Clauses) (ss ts : List Saying) (v : Fate) → Alike F G
      → ((H K : Clauses) → Alike H K → SayingsFate H ss None → SayingsFate K (tried n ts) (Some v) → IsLast n v) → SayingsFate F (line_said kind p c ∷ ss) None → SayingsFate G (line_said kind q c ∷ tried n ts) (Some v) → IsLast n v
  last_line Clause c p q n F G ss ts v w again (inl (a, e, h)) k = absurd (let z = h in cc)
  last_line Clause c p q n F G ss ts v w again (inr (inr (a, h))) k = absurd (let z = h in cc)
  last_line Clause c p q n F G ss ts v w again (inr (inl (a, e, h))) (inl (b, f, k)) = absurd (e f)
  last_line Clause c p q n F G ss ts v w again (inr (inl (a, e, h))) (inr (inl (b, f, k))) = again (F ++ c ∷ []) (G ++ c ∷ []) (alike_more F G c w) h k
  last_line Clause c p q n F G ss ts v w again (inr (inl (a, e, h))) (inr (inr (b, k))) = absurd (b (alike_admitted F G c w a))
  last_line Deletion c p q n F G ss ts v w again (H, d, h) (K, e, k) = again H K (alike_deleted F G H K c w d e) h k

  only : (n : ℕ) (G : Clauses) (v : Fate) → SayingsFate G (tried n []) (Some v) → IsLast n v
  only n G v (inl (a, e, h)) = inl (some_same v (Found Unsat) h)
  only n G v (inr (inl (a, e, h))) = absurd (e refl)
  only n G v (inr (inr (a, h))) = inr (some_same v (Bad NotRup n) h)

  last_said : (o : Option LineFault) (l : ProofLine) (ls : List ProofLine) (ss ts : List Saying) (n : ℕ) (v : Fate) (F G : Clauses) → Alike F G
      → ((s t : List Saying) → AreSaidTo vars ls s → AreSaidTo vars ls t → (H K : Clauses) → Alike H K → SayingsFate H s None → SayingsFate K (tried n t) (Some v) → IsLast n v) → SaidBy o l (AreSaidTo vars ls) ss
      → SaidBy o l (AreSaidTo vars ls) ts → SayingsFate F ss None → SayingsFate G (tried n ts) (Some v) → IsLast n v
  last_said None l ls ss ts n v F G w again (p, s, e, a) (q, t, f, b) h k =
      last_line l.kind l.lits p q n F G s t v w (again s t a b) (subst (λ (z : List Saying). SayingsFate F z None) e h) (subst (λ (z : List Saying). SayingsFate G (tried n z) (Some v)) f k)
  last_said (Some fault) l ls ss ts n v F G w again (m, p, t, e) b h k = absurd (let z = subst (λ (z : List Saying). SayingsFate F z None) e h in cc)

  last_comes : (ls : List ProofLine) (ss ts : List Saying) (n : ℕ) (v : Fate) → AreSaidTo vars ls ss → AreSaidTo vars ls ts → (F G : Clauses) → Alike F G → SayingsFate F ss None → SayingsFate G (tried n ts) (Some v) → IsLast n v
  last_comes [] ss ts n v e f F G w h k = only n G v (subst (λ (z : List Saying). SayingsFate G (tried n z) (Some v)) f k)
  last_comes (l ∷ ls) ss ts n v a b F G w h k = last_said (fault_in vars 0 l.lits) l ls ss ts n v F G w (λ s t c d H K i x y. last_comes ls s t n v c d H K i x y) a b h k

own : (n : ℕ) → eqb n n ≡ true
own n = elim (cases_Bool (eqb n n)) [ inl t ↦ t | inr f ↦ absurd (eqb-false n n f refl) ]

refused_at_end : (n : ℕ) → at_end n (Bad NotRup n) ≡ Bad EarlyEnd n
refused_at_end n = rw (own n) refl

-- the same at the end
ends_same : (n m : ℕ) (v w : Fate) → ((v ≡ Found Unsat) ⊎ (v ≡ Bad NotRup n)) → ((w ≡ Found Unsat) ⊎ (w ≡ Bad NotRup m)) → IsSameFate v w → IsSameFate (at_end n v) (at_end m w)
ends_same n m v w (inl e) (inl f) s = subst (λ z. IsSameFate (at_end n z) (at_end m w)) (sym e) (subst (λ z. IsSameFate (Found Unsat) (at_end m z)) (sym f) refl)
ends_same n m v w (inl e) (inr f) s = absurd (let k : w ≡ Found Unsat = subst (λ z. IsSameFate z w) e s in let q = sym k ∙ f in cc)
ends_same n m v w (inr e) (inl f) s = absurd (let k : (other : ℕ) × (w ≡ Bad NotRup other) = subst (λ z. IsSameFate z w) e s in let q = sym k.1 ∙ f in cc)
ends_same n m v w (inr e) (inr f) s =
    let a : at_end n v ≡ Bad EarlyEnd n = ap (at_end n) e ∙ refused_at_end n in
    let b : at_end m w ≡ Bad EarlyEnd m = ap (at_end m) f ∙ refused_at_end m in
    subst (λ z. IsSameFate z (at_end m w)) (sym a) (m, b)

-- the fate of a file that says so
module _ (f : FormulaOf) (Said : List Saying → Type 0) (most : ℕ) where
  abbrev pub LinesSayFate : List Saying → Option Fate → Type 0
  LinesSayFate ss x = DrupSayingsFate f.clauses f.clauses unnamed ss x

  abbrev pub StreamFate : ℕ → Fate → Type 0
  StreamFate n x =
      ((ss : List Saying) × Said ss × LinesSayFate ss (Some x)) ⊎ ((ss : List Saying) × Said ss × LinesSayFate ss None × (ts : List Saying) × (v : Fate) × Said ts × LinesSayFate (tried n ts) (Some v) × (x ≡ at_end n v))

  whole : (form : Form) (bytes : List ℕ) (x : Fate) → length bytes ≤ most → FateBy (BytesFate form f) bytes most x → BytesFate form f true bytes (Some x)
  whole form bytes x l h = elim (h.within l) [ inl k ↦ k | inr (k, e) ↦ absurd k ]

  pub comes_of : (form : Form) (bytes : List ℕ) (x : Fate) → ((ended : Bool) (ss : List Saying) → FileSays form f.vars ended bytes ss → Said ss) → length bytes ≤ most → FateBy (BytesFate form f) bytes most x
      → StreamFate (length bytes) x
  comes_of form bytes x s l h = by (whole form bytes x l h)
    where
      by : BytesFate form f true bytes (Some x) → StreamFate (length bytes) x
      by (inl (ss, w, k)) = inl (ss, s false ss w, k)
      by (inr ((ss, w, k), (ts, v, t, i, e))) = inr (ss, s false ss w, k, ts, v, s true ts t, i, e)

not_literal : (n : ℕ) (v : Fate) → ((v ≡ Found Unsat) ⊎ (v ≡ Bad NotRup n)) → IsLiteralFault v → ⊥
not_literal n v (inl e) (p, inl k) = let q = sym e ∙ k in cc
not_literal n v (inl e) (p, inr k) = let q = sym e ∙ k in cc
not_literal n v (inr e) (p, inl k) = let q = sym e ∙ k in cc
not_literal n v (inr e) (p, inr k) = let q = sym e ∙ k in cc

module _ (f : FormulaOf) (ls : List ProofLine) (most : ℕ) where
  abbrev C : Clauses
  C = f.clauses

  abbrev Crowded : Type 0
  Crowded = IsCrowded f.vars ls

  abbrev FileFate : ℕ → Fate → Type 0
  FileFate = StreamFate f (AreSaidTo f.vars ls) most

  crowd : (l : ProofLine) → Contains ls l → fault_in f.vars 0 l.lits ≡ Some Either → Crowded
  crowd l c e = (l, c, e)

  crowd_last : (l : ProofLine) → Contains (ls ++ empty ∷ []) l → fault_in f.vars 0 l.lits ≡ Some Either → Crowded
  crowd_last l c e =
      elim (Contains-append_cases ls (empty ∷ []) l c) [
        | inl k ↦ (l, k, e)
        | inr k ↦ let same : empty ≡ l = Contains-one empty l k in absurd (let q = ap (λ (z : ProofLine). fault_in f.vars 0 z.lits) same ∙ e in cc)
      ]

  abbrev Like : Fate → Fate → Type 0
  Like = IsLike Crowded

  same_lines : (ss ts : List Saying) (x y : Option Fate) → AreSaidTo f.vars ls ss → AreSaidTo f.vars ls ts → DrupSayingsFate C C unnamed ss x → DrupSayingsFate C C unnamed ts y → AreSame Crowded x y
  same_lines ss ts x y a b h k = same_comes Crowded C f.vars ls ss ts x y crowd a b C C (alike_itself C) h k

  same_fates : (n m : ℕ) (x y : Fate) → FileFate n x → FileFate m y → Like x y
  same_fates n m x y (inl (ss, a, h)) (inl (ts, b, k)) = same_some Crowded x y (same_lines ss ts (Some x) (Some y) a b h k)
  same_fates n m x y (inl (ss, a, h)) (inr (ts, b, k, us, v, c, i, e)) = absurd (let q = same_lines ss ts (Some x) None a b h k in let r = q.1 in cc)
  same_fates n m x y (inr (ss, a, h, us, v, c, i, e)) (inl (ts, b, k)) = absurd (let q = same_lines ss ts None (Some y) a b h k in cc)
  same_fates n m x y (inr (ss, a, h, us, v, c, i, e)) (inr (ts, b, k, vs, w, d, j, g)) =
      let r = last_comes Crowded C f.vars ls ss us n v a c C C (alike_itself C) h i in
      let z = last_comes Crowded C f.vars ls ts vs m w b d C C (alike_itself C) k j in
      let q = same_some Crowded v w
      (same_comes Crowded C f.vars (ls ++ empty ∷ []) (tried n us) (tried m vs) (Some v) (Some w) crowd_last (tried_said Crowded C f.vars ls ss us C n a h c) (tried_said Crowded C f.vars ls ts vs C m b k d) C C (alike_itself C) i j) in
      elim q [
        | inl s ↦ inl (subst (λ z. IsSameFate z y) (sym e) (subst (IsSameFate (at_end n v)) (sym g) (ends_same n m v w r z s)))
        | inr (c, l, o) ↦ absurd (not_literal n v r l)
      ]

pub any_fates : (job b t : List ℕ) (most : ℕ) (f : FormulaOf) (x y : Fate) → IsDimacs job f → (s : SpeltAny f.vars b t) → length b ≤ most → length t ≤ most → IsFate ProofBinary job b most x → IsFate Proof job t most y
    → IsSameFate x y ⊎ (IsCrowded f.vars s.0 × IsLiteralFault x × IsLiteralFault y)
any_fates job b t most f x y d s l m v w =
    let k = lines_said f.vars b t s in
    let h : FateOf ProofBinary f b most x = subst (λ (z : FormulaOf). FateOf ProofBinary z b most x) (IsDimacs-one job v.0 f v.1 d) v.2 in
    let i : FateOf Proof f t most y = subst (λ (z : FormulaOf). FateOf Proof z t most y) (IsDimacs-one job w.0 f w.1 d) w.2 in
    same_fates f s.0 most (length b) (length t) x y (comes_of f (AreSaidTo f.vars s.0) most Binary b x k.0 l h) (comes_of f (AreSaidTo f.vars s.0) most Text t y k.1 m i)

pub spelt_fates : (job b t : List ℕ) (most : ℕ) (f : FormulaOf) (x y : Fate) → IsDimacs job f → Spelt f.vars b t → length b ≤ most → length t ≤ most → IsFate ProofBinary job b most x
    → IsFate Proof job t most y → IsSameFate x y
spelt_fates job b t most f x y d s l m v w =
    elim (any_fates job b t most f x y d (spelt_is_any f.vars b t s) l m v w) [ inl h ↦ h | inr (c, p, q) ↦ absurd (spelt_not_crowded f.vars b t s c) ]
