-- A judge takes a piece, or the stream's end.
use Rattle.std.proofs.Common.{◌≡◌, ℕ, ◌+◌, ◌-◌, ◌<◌, ◌≤◌, Bool, true, false, leb, List, ◌++◌, length, take, Option, Some, None, Result, Ok, Err, refl, sym, ap, ◌∙◌, subst, inl, inr, arith}
use Rattle.std.specs.Prelude.{IfOk}
use Rattle.std.proofs.lemmas.Bool.{le-leb}
use Rattle.std.proofs.lemmas.List.{length-append, take_all}
use Rattle.std.proofs.Math.Seq.{take-append-add}
use Rattle.cnf_form.specs.Cnf.{FormulaOf, IsUnsatisfiable}
use Rattle.cert_judge.specs.Certificate.{CertificateOf, outcome_or}
use Rattle.cert_judge.specs.Fate.{Bad as BadFate}
use Rattle.cert_judge.specs.Judging.{Feeds, HasOutcome, IsOver, IsSameJudge, JudgeOf, HasTaken, HasTakenWith, bits_of, formula_of, kind_of, outcome_of}
use Rattle.cert_judge.specs.Kinds.{BytesFate, FateOf, FateSoFar, stream_values, values_named}
use Rattle.cert_judge.specs.Lines.{AreValuesOf, AreValuesTold, LinesAwaitMore, Takes, TakesEnd, TakesPiece, Tells, Took, TookEnd, lines_bits, lines_formula, lines_kind, lines_or, lines_outcome, lines_taken}
use Rattle.cert_judge.specs.Outcomes.{fate_of, fate_told}
use Rattle.cert_judge.specs.declared.lines.Lines.{Lines}
use Rattle.cert_judge.specs.declared.lines.Lines.TheVariants.{Drup, Lrat, Proof, ProofBinary}
use Rattle.cert_judge.specs.declared.stream.CertKind.TheVariants.{EarlyEnd, TooLong}
use Rattle.cert_judge.specs.declared.stream.Outcome.{Outcome}
use Rattle.cert_judge.specs.declared.stream.Outcome.TheVariants.{Refuted, Satisfied, Unknown, Bad}
use Rattle.cert_judge.specs.declared.stream.StreamKind.{StreamKind}
use Rattle.cert_judge.proofs.KindFates.{fate_at_end, fate_stays, refuted_at_end, refuted_so_far, values_at_end, values_stay}

-- where a call had its memory, what it ensures has a consequence
pub if_ok : {A E : Type 0} (P Q : A → Type 0) (r : Result A E) → ((a : A) → P a → Q a) → IfOk r P → IfOk r Q
if_ok P Q (Ok a) f h = f a h
if_ok P Q (Err e) f h = tt

-- this many bytes were taken as there are
pub at_taken : {S : Type 0} (l : Lines S) (bytes : List ℕ) → LinesAwaitMore l bytes → lines_taken l ≡ length bytes
at_taken (Drup l) bytes (h, n) = n
at_taken (Lrat l) bytes (h, n) = n
at_taken (Proof l) bytes (h, n) = n
at_taken (ProofBinary l) bytes (h, n) = n

-- an outcome where there is none
or_formula : {C : Type 0} (c : CertificateOf C) (o : Option Outcome) (x : Outcome) → (outcome_or c o x).formula ≡ c.formula
or_formula c None x = refl
or_formula c (Some w) x = refl

or_bits : {C : Type 0} (c : CertificateOf C) (o : Option Outcome) (x : Outcome) → (outcome_or c o x).bits ≡ c.bits
or_bits c None x = refl
or_bits c (Some w) x = refl

abbrev some_or : Option Outcome → Outcome → Option Outcome
some_or None x = Some x
some_or (Some w) x = Some w

or_outcome : {C : Type 0} (c : CertificateOf C) (o : Option Outcome) (x : Outcome) → c.outcome ≡ o → (outcome_or c o x).outcome ≡ some_or o x
or_outcome c None x e = refl
or_outcome c (Some w) x e = e

lines_or_formula : {S : Type 0} (l : Lines S) (x : Outcome) → lines_formula (lines_or l x) ≡ lines_formula l
lines_or_formula (Drup l) x = or_formula l.certificate l.certificate.outcome x
lines_or_formula (Lrat l) x = or_formula l.certificate l.certificate.outcome x
lines_or_formula (Proof l) x = or_formula l.certificate l.certificate.outcome x
lines_or_formula (ProofBinary l) x = or_formula l.certificate l.certificate.outcome x

lines_or_kind : {S : Type 0} (l : Lines S) (x : Outcome) → lines_kind (lines_or l x) ≡ lines_kind l
lines_or_kind (Drup l) x = refl
lines_or_kind (Lrat l) x = refl
lines_or_kind (Proof l) x = refl
lines_or_kind (ProofBinary l) x = refl

lines_or_bits : {S : Type 0} (l : Lines S) (x : Outcome) → lines_bits (lines_or l x) ≡ lines_bits l
lines_or_bits (Drup l) x = or_bits l.certificate l.certificate.outcome x
lines_or_bits (Lrat l) x = or_bits l.certificate l.certificate.outcome x
lines_or_bits (Proof l) x = or_bits l.certificate l.certificate.outcome x
lines_or_bits (ProofBinary l) x = or_bits l.certificate l.certificate.outcome x

lines_or_outcome : {S : Type 0} (l : Lines S) (x : Outcome) → lines_outcome (lines_or l x) ≡ some_or (lines_outcome l) x
lines_or_outcome (Drup l) x = or_outcome l.certificate l.certificate.outcome x refl
lines_or_outcome (Lrat l) x = or_outcome l.certificate l.certificate.outcome x refl
lines_or_outcome (Proof l) x = or_outcome l.certificate l.certificate.outcome x refl
lines_or_outcome (ProofBinary l) x = or_outcome l.certificate l.certificate.outcome x refl

abbrev pub judge : {S : Type 0} → Lines S → ℕ → Bool → JudgeOf S
judge l most wanting = record { lines = l; most = most; wanting = wanting }

-- what an outcome is told with
module _ (kind : StreamKind) (f : FormulaOf) (most : ℕ) where
  told_stay : (bytes rest : List ℕ) (bits : List Bool) (o : Outcome) → FateSoFar kind f bytes most (Some (fate_of o)) → AreValuesOf f (stream_values kind f.vars false bytes most) bits o
      → AreValuesOf f (stream_values kind f.vars false (bytes ++ rest) most) bits o
  told_stay bytes rest bits Refuted h v = tt
  told_stay bytes rest bits Satisfied h v = (v.0, v.1 ∙ values_stay kind f most bytes rest h, v.2)
  told_stay bytes rest bits Unknown h v = tt
  told_stay bytes rest bits (Bad b) h v = tt

  told_at_end : (bytes : List ℕ) (bits : List Bool) (o : Outcome) → FateSoFar kind f bytes most (Some (fate_of o)) → AreValuesOf f (stream_values kind f.vars false bytes most) bits o
      → AreValuesOf f (stream_values kind f.vars true bytes most) bits o
  told_at_end bytes bits Refuted h v = tt
  told_at_end bytes bits Satisfied h v = (v.0, v.1 ∙ values_at_end kind f most bytes h, v.2)
  told_at_end bytes bits Unknown h v = tt
  told_at_end bytes bits (Bad b) h v = tt

  pub refuted_here : (bytes : List ℕ) (o : Option Outcome) → FateSoFar kind f bytes most (fate_told o) → o ≡ Some Refuted → IsUnsatisfiable f.clauses
  refuted_here bytes o h e = refuted_so_far kind f most bytes (subst (λ (z : Option Outcome). FateSoFar kind f bytes most (fate_told z)) e h)

  pub refuted_whole : (bytes : List ℕ) (o : Outcome) → FateOf kind f bytes most (fate_of o) → o ≡ Refuted → IsUnsatisfiable f.clauses
  refuted_whole bytes o h e = refuted_at_end kind f most bytes (subst (λ (z : Outcome). FateOf kind f bytes most (fate_of z)) e h)

-- an answer from what is known of the new judge
module _ {S : Type 0} (old new : JudgeOf S) (same : IsSameJudge old new) (bytes : List ℕ) where
  pub feeds_of : (o : Option Outcome) → outcome_of new ≡ o → HasTaken new bytes → FateSoFar (kind_of new) (formula_of new) bytes new.most (fate_told o)
      → AreValuesTold (formula_of new) (stream_values (kind_of new) (formula_of new).vars false bytes new.most) (bits_of new) o → Feeds old new bytes o
  feeds_of o e s h v =
      let fate : FateSoFar (kind_of old) (formula_of old) bytes old.most (fate_told o) =
      subst (λ k. FateSoFar k (formula_of old) bytes old.most (fate_told o)) same.kind
      (subst (λ (f : FormulaOf). FateSoFar (kind_of new) f bytes old.most (fate_told o)) same.formula (subst (λ m. FateSoFar (kind_of new) (formula_of new) bytes m (fate_told o)) same.most h)) in
      record {
        stands = s;
        outcome = e;
        fate = λ file d. (formula_of old, d, fate);
        values =
            subst (λ k. AreValuesTold (formula_of old) (stream_values k (formula_of old).vars false bytes old.most) (bits_of new) o) same.kind
            (subst (λ (f : FormulaOf). AreValuesTold f (stream_values (kind_of new) f.vars false bytes old.most) (bits_of new) o) same.formula
            (subst (λ m. AreValuesTold (formula_of new) (stream_values (kind_of new) (formula_of new).vars false bytes m) (bits_of new) o) same.most v));
        refuted = refuted_here (kind_of old) (formula_of old) old.most bytes o fate;
      }

pub over_of : {S : Type 0} (j : JudgeOf S) (bytes : List ℕ) (o : Outcome) → outcome_of j ≡ Some o → FateOf (kind_of j) (formula_of j) bytes j.most (fate_of o)
    → AreValuesOf (formula_of j) (stream_values (kind_of j) (formula_of j).vars true bytes j.most) (bits_of j) o → IsOver j bytes o
over_of j bytes o e h v =
    record { outcome = e; whole = h; fate = λ file d. (formula_of j, d, h); values = v; refuted = refuted_whole (kind_of j) (formula_of j) j.most bytes o h }

same_judge : {S : Type 0} (j : JudgeOf S) → IsSameJudge j j
same_judge j = record { formula = refl; kind = refl; most = refl }

-- a judge with an outcome
module _ {S : Type 0} (j : JudgeOf S) (o : Outcome) (e : outcome_of j ≡ Some o) (bytes : List ℕ) (s : HasTaken j bytes) where
  had : HasOutcome j bytes o
  had = subst (HasTakenWith j bytes) e s

  pub feeds_again : (piece : List ℕ) → Feeds j j (bytes ++ piece) (Some o)
  feeds_again piece =
      let fate = fate_stays (kind_of j) (formula_of j) j.most bytes piece (fate_of o) had.fate in
      let values = told_stay (kind_of j) (formula_of j) j.most bytes piece (bits_of j) o had.fate had.values in
      feeds_of j j (same_judge j) (bytes ++ piece) (Some o) e (subst (HasTakenWith j (bytes ++ piece)) (sym e) (record { fate = fate; values = values })) fate values

  pub ends_again : IsOver j bytes o
  ends_again =
      over_of j bytes o e (fate_at_end (kind_of j) (formula_of j) j.most bytes (fate_of o) had.fate)
      (told_at_end (kind_of j) (formula_of j) j.most bytes (bits_of j) o had.fate had.values)

-- a judge without one
module _ {S : Type 0} (most : ℕ) (l : Lines S) (wanting : Bool) (e : lines_outcome l ≡ None) (bytes : List ℕ) (s : HasTaken (judge l most wanting) bytes) where
  at : LinesAwaitMore l bytes × (length bytes ≤ most)
  at = subst (HasTakenWith (judge l most wanting) bytes) e s

  count : lines_taken l ≡ length bytes
  count = at_taken l bytes at.0

  -- a piece for which there is room
  module _ (k : Lines S) (piece : List ℕ) (t : Took l piece k) (fits : length (bytes ++ piece) ≤ most) where
    took : Takes k (bytes ++ piece)
    took = t.1 bytes at.0

    within_fate : FateSoFar (lines_kind k) (lines_formula k) (bytes ++ piece) most (fate_told (lines_outcome k))
    within_fate = record { within = λ _. took.tells.comes; beyond = λ b. absurd (omega (arith, b, fits)) }

    within_values : AreValuesTold (lines_formula k) (stream_values (lines_kind k) (lines_formula k).vars false (bytes ++ piece) most) (lines_bits k) (lines_outcome k)
    within_values =
        subst (λ z. AreValuesTold (lines_formula k) (values_named (lines_kind k) (lines_formula k).vars false z) (lines_bits k) (lines_outcome k)) (sym (take_all most (bytes ++ piece) fits)) took.tells.values

    within_stands : (o : Option Outcome) → lines_outcome k ≡ o → HasTakenWith (judge k most wanting) (bytes ++ piece) o
    within_stands None q = (took.at q, fits)
    within_stands (Some o) q =
        record {
          fate = subst (λ z. FateSoFar (lines_kind k) (lines_formula k) (bytes ++ piece) most (fate_told z)) q within_fate;
          values = subst (λ z. AreValuesTold (lines_formula k) (stream_values (lines_kind k) (lines_formula k).vars false (bytes ++ piece) most) (lines_bits k) z) q within_values;
        }

    feeds_within : Feeds (judge l most wanting) (judge k most wanting) (bytes ++ piece) (lines_outcome k)
    feeds_within =
        feeds_of (judge l most wanting) (judge k most wanting) (record { formula = t.0.formula; kind = t.0.kind; most = refl }) (bytes ++ piece) (lines_outcome k) refl
        (within_stands (lines_outcome k) refl) within_fate within_values

  -- a piece for which there is none
  abbrev too_long : Outcome
  too_long = Bad (record { kind = TooLong; at = most })

  module _ (k : Lines S) (piece : List ℕ) (room : ℕ) (all : lines_taken l + room ≡ most) (more : room < length piece) (t : Took l (take room piece) k) where
    abbrev n : Lines S
    n = lines_or k too_long

    first_most : take most (bytes ++ piece) ≡ bytes ++ take room piece
    first_most =
        let r : length bytes + room ≡ most = omega (arith, all, count) in
        subst (λ n. take n (bytes ++ piece) ≡ bytes ++ take room piece) r (take-append-add bytes piece room)

    past_most : most < length (bytes ++ piece)
    past_most = let n = length-append bytes piece in omega (arith, n, all, count, more)

    first : Takes k (bytes ++ take room piece)
    first = t.1 bytes at.0

    comes_first : BytesFate (lines_kind k) (lines_formula k) false (take most (bytes ++ piece)) (fate_told (lines_outcome k))
    comes_first = subst (λ z. BytesFate (lines_kind k) (lines_formula k) false z (fate_told (lines_outcome k))) (sym first_most) first.tells.comes

    past_fate : (o : Option Outcome) → lines_outcome k ≡ o → FateSoFar (lines_kind k) (lines_formula k) (bytes ++ piece) most (fate_told (some_or o too_long))
    past_fate None q =
        record { within = λ w. absurd (let p = past_most in omega (arith, w, p)); beyond = λ _. inr (subst (λ z. BytesFate (lines_kind k) (lines_formula k) false (take most (bytes ++ piece)) (fate_told z)) q comes_first, refl) }
    past_fate (Some o) q =
        record { within = λ w. absurd (let p = past_most in omega (arith, w, p)); beyond = λ _. inl (fate_of o, subst (λ z. BytesFate (lines_kind k) (lines_formula k) false (take most (bytes ++ piece)) (fate_told z)) q comes_first, refl) }

    abbrev Valued : Option Outcome → Type 0
    Valued o = AreValuesTold (lines_formula k) (stream_values (lines_kind k) (lines_formula k).vars false (bytes ++ piece) most) (lines_bits k) o

    past_values : (o : Option Outcome) → lines_outcome k ≡ o → Valued (some_or o too_long)
    past_values None q = tt
    past_values (Some o) q =
        subst (λ z. AreValuesOf (lines_formula k) (values_named (lines_kind k) (lines_formula k).vars false z) (lines_bits k) o) (sym first_most)
        (subst (λ z. AreValuesTold (lines_formula k) (values_named (lines_kind k) (lines_formula k).vars false (bytes ++ take room piece)) (lines_bits k) z) q first.tells.values)

    fate_now : FateSoFar (lines_kind n) (lines_formula n) (bytes ++ piece) most (fate_told (lines_outcome n))
    fate_now =
        subst (λ z. FateSoFar z (lines_formula n) (bytes ++ piece) most (fate_told (lines_outcome n))) (sym (lines_or_kind k too_long))
        (subst (λ (z : FormulaOf). FateSoFar (lines_kind k) z (bytes ++ piece) most (fate_told (lines_outcome n))) (sym (lines_or_formula k too_long))
        (subst (λ z. FateSoFar (lines_kind k) (lines_formula k) (bytes ++ piece) most (fate_told z)) (sym (lines_or_outcome k too_long)) (past_fate (lines_outcome k) refl)))

    values_now : AreValuesTold (lines_formula n) (stream_values (lines_kind n) (lines_formula n).vars false (bytes ++ piece) most) (lines_bits n) (lines_outcome n)
    values_now =
        subst (λ z. AreValuesTold (lines_formula n) (stream_values z (lines_formula n).vars false (bytes ++ piece) most) (lines_bits n) (lines_outcome n)) (sym (lines_or_kind k too_long))
        (subst (λ (z : FormulaOf). AreValuesTold z (stream_values (lines_kind k) z.vars false (bytes ++ piece) most) (lines_bits n) (lines_outcome n)) (sym (lines_or_formula k too_long))
        (subst (λ z. AreValuesTold (lines_formula k) (stream_values (lines_kind k) (lines_formula k).vars false (bytes ++ piece) most) z (lines_outcome n)) (sym (lines_or_bits k too_long))
        (subst Valued (sym (lines_or_outcome k too_long)) (past_values (lines_outcome k) refl))))

    past_stands : (o : Option Outcome) → lines_outcome k ≡ o → HasTakenWith (judge n most wanting) (bytes ++ piece) (some_or o too_long)
    past_stands None q = settled too_long (lines_or_outcome k too_long ∙ ap (λ z. some_or z too_long) q)
      where
        settled : (x : Outcome) → lines_outcome n ≡ Some x → HasOutcome (judge n most wanting) (bytes ++ piece) x
        settled x r =
            record {
              fate = subst (λ z. FateSoFar (lines_kind n) (lines_formula n) (bytes ++ piece) most (fate_told z)) r fate_now;
              values = subst (λ z. AreValuesTold (lines_formula n) (stream_values (lines_kind n) (lines_formula n).vars false (bytes ++ piece) most) (lines_bits n) z) r values_now;
            }
    past_stands (Some o) q =
        let r : lines_outcome n ≡ Some o = lines_or_outcome k too_long ∙ ap (λ z. some_or z too_long) q in
        record {
          fate = subst (λ z. FateSoFar (lines_kind n) (lines_formula n) (bytes ++ piece) most (fate_told z)) r fate_now;
          values = subst (λ z. AreValuesTold (lines_formula n) (stream_values (lines_kind n) (lines_formula n).vars false (bytes ++ piece) most) (lines_bits n) z) r values_now;
        }

    feeds_past : Feeds (judge l most wanting) (judge n most wanting) (bytes ++ piece) (lines_outcome n)
    feeds_past =
        feeds_of (judge l most wanting) (judge n most wanting)
        (record { formula = lines_or_formula k too_long ∙ t.0.formula; kind = lines_or_kind k too_long ∙ t.0.kind; most = refl }) (bytes ++ piece) (lines_outcome n) refl
        (subst (HasTakenWith (judge n most wanting) (bytes ++ piece)) (sym (lines_or_outcome k too_long)) (past_stands (lines_outcome k) refl)) fate_now values_now

  pub feeds_piece : (k : Lines S) (piece : List ℕ) (room : ℕ) → lines_taken l ≤ most → room ≡ most - lines_taken l → TakesPiece (lines_taken l + room) room l piece k
      → Feeds (judge l most wanting) (judge k most wanting) (bytes ++ piece) (lines_outcome k)
  feeds_piece k piece room m r (inl (f, t)) = feeds_within k piece t (let n = length-append bytes piece in omega (arith, n, count, f, m, r))
  feeds_piece k piece room m r (inr (i, f, t, q)) =
      let all : lines_taken l + room ≡ most = omega (arith, m, r) in
      let q' : k ≡ lines_or i too_long = subst (λ n. k ≡ lines_or i (Bad (record { kind = TooLong; at = n }))) all q in
      subst (λ (z : Lines S). Feeds (judge l most wanting) (judge z most wanting) (bytes ++ piece) (lines_outcome z)) (sym q') (feeds_past i piece room all f t)

  -- the stream's end
  abbrev early_end : Outcome
  early_end = Bad (record { kind = EarlyEnd; at = lines_taken l })

  module _ (k : Lines S) (t : TookEnd l k) where
    tells : Tells true k bytes
    tells = t.1 bytes at.0

    end_fate : (o : Option Outcome) → lines_outcome k ≡ o → (x : Outcome) → some_or o early_end ≡ Some x → FateOf (lines_kind k) (lines_formula k) bytes most (fate_of x)
    end_fate None q x r =
        let i : early_end ≡ x = cc in
        let c = subst (λ z. BytesFate (lines_kind k) (lines_formula k) true bytes (fate_told z)) q tells.comes in
        subst (λ z. FateOf (lines_kind k) (lines_formula k) bytes most (fate_of z)) i
        (record { within = λ _. inr (c, ap (BadFate EarlyEnd) count); beyond = λ b. absurd (let j = at.1 in omega (arith, b, j)) })
    end_fate (Some o) q x r =
        let i : o ≡ x = cc in
        let c = subst (λ z. BytesFate (lines_kind k) (lines_formula k) true bytes (fate_told z)) q tells.comes in
        subst (λ z. FateOf (lines_kind k) (lines_formula k) bytes most (fate_of z)) i (record { within = λ _. inl c; beyond = λ b. absurd (let j = at.1 in omega (arith, b, j)) })

    whole_values : values_named (lines_kind k) (lines_formula k).vars true bytes ≡ stream_values (lines_kind k) (lines_formula k).vars true bytes most
    whole_values =
        ap (λ b. values_named (lines_kind k) (lines_formula k).vars b bytes) (sym (le-leb (length bytes) most at.1))
        ∙ ap (λ z. values_named (lines_kind k) (lines_formula k).vars (leb (length bytes) most) z) (sym (take_all most bytes at.1))

    end_values : (o : Option Outcome) → lines_outcome k ≡ o → (x : Outcome) → some_or o early_end ≡ Some x
        → AreValuesOf (lines_formula k) (stream_values (lines_kind k) (lines_formula k).vars true bytes most) (lines_bits k) x
    end_values None q x r =
        let i : early_end ≡ x = cc in
        subst (λ z. AreValuesOf (lines_formula k) (stream_values (lines_kind k) (lines_formula k).vars true bytes most) (lines_bits k) z) i tt
    end_values (Some o) q x r =
        let i : o ≡ x = cc in
        subst (λ z. AreValuesOf (lines_formula k) (stream_values (lines_kind k) (lines_formula k).vars true bytes most) (lines_bits k) z) i
        (subst (λ z. AreValuesOf (lines_formula k) z (lines_bits k) o) whole_values
        (subst (λ z. AreValuesTold (lines_formula k) (values_named (lines_kind k) (lines_formula k).vars true bytes) (lines_bits k) z) q tells.values))

    over : (x : Outcome) → lines_outcome (lines_or k early_end) ≡ Some x → IsOver (judge (lines_or k early_end) most wanting) bytes x
    over x r =
        let i : some_or (lines_outcome k) early_end ≡ Some x = sym (lines_or_outcome k early_end) ∙ r in
        over_of (judge (lines_or k early_end) most wanting) bytes x r
        (subst (λ z. FateOf z (lines_formula (lines_or k early_end)) bytes most (fate_of x)) (sym (lines_or_kind k early_end))
        (subst (λ (z : FormulaOf). FateOf (lines_kind k) z bytes most (fate_of x)) (sym (lines_or_formula k early_end)) (end_fate (lines_outcome k) refl x i)))
        (subst (λ z. AreValuesOf (lines_formula (lines_or k early_end)) (stream_values z (lines_formula (lines_or k early_end)).vars true bytes most) (lines_bits (lines_or k early_end)) x) (sym (lines_or_kind k early_end))
        (subst (λ (z : FormulaOf). AreValuesOf z (stream_values (lines_kind k) z.vars true bytes most) (lines_bits (lines_or k early_end)) x) (sym (lines_or_formula k early_end))
        (subst (λ z. AreValuesOf (lines_formula k) (stream_values (lines_kind k) (lines_formula k).vars true bytes most) z x) (sym (lines_or_bits k early_end)) (end_values (lines_outcome k) refl x i))))

  pub ends_piece : (k : Lines S) (o : Outcome) → TakesEnd l k → lines_outcome k ≡ Some o → IsOver (judge k most wanting) bytes o
  ends_piece k o (i, t, q) r =
      subst (λ (z : Lines S). IsOver (judge z most wanting) bytes o) (sym q) (over i t o (ap lines_outcome (sym q) ∙ r))
