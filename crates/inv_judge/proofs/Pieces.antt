-- What a judge makes of the bytes of a stream.
use Rattle.std.proofs.Common.{◌≡◌, ◌⊎◌, ℕ, ◌+◌, ◌-◌, ◌≤◌, Bool, true, false, List, [], ◌++◌, length, length-append, map, take, Option, Some, None, refl, sym, ap, ◌∙◌, subst, inl, inr, arith, append_assoc, min}
use Rattle.std.proofs.lemmas.List.{append-nil}
use Rattle.cnf_form.specs.Cnf.{LitOf}
use Rattle.cert_judge.specs.declared.stream.CertKind.TheVariants.{EarlyEnd, TooLong}
use Rattle.pair_form.specs.Pair.{IsInvariant, PairOf}
use Rattle.cert_stream.specs.Machine.{at_end, fault_of}
use Rattle.cert_stream.specs.Telling.{told_by}
use Rattle.cert_stream.specs.declared.mode.Event.{Event}
use Rattle.cert_stream.specs.declared.mode.Mode.{Mode}
use Rattle.cert_stream.specs.declared.mode.Mode.TheVariants as mode
use Rattle.inv_stream.specs.Machine.{InvOf, InvSaying, Says, fault, fault_by, parsed, taken}
use Rattle.inv_stream.specs.declared.mode.Line.{Line}
use Rattle.inv_stream.specs.declared.mode.Line.TheVariants.{Start, Letter, Word, Named, Inside, Refused, Lost}
use Rattle.inv_stream.specs.declared.mode.Part.TheVariants.{Head}
use Rattle.inv_stream.specs.Telling.{after, at_end_by, at_end_says, fault_said, fresh, said, sayings}
use Rattle.inv_stream.proofs.Cutting.{after_append, said_append}
use Rattle.inv_stream.proofs.Pieces.{after_few}
use Rattle.inv_stream.specs.declared.mode.InvFault.{InvFault}
use Rattle.inv_fate.specs.Fate.{Bad, BytesFate, StreamFate, SayingsFate, Found, InvFate, InvFateOf, InvFateSoFar}
use Rattle.inv_fate.proofs.Fates.{comes_more}
use Rattle.inv_fate.proofs.Finding.{head_found}
use Rattle.inv_fate.proofs.Sounding.{is_invariant}
use Rattle.inv_judge.proofs.Staying.{cases_le, so_far_stays, take_short}
use Rattle.inv_judge.specs.Claim.{ClaimOf, FateFrom, Leads, fate_of, fate_told}
use Rattle.inv_judge.specs.Judging.{Feeds, Heard, AwaitsMore, IsOver, JudgeOf, HasTaken, HasTakenWith, TakesEnd, TakesPiece, outcome_of, outcome_or}
use Rattle.inv_judge.specs.declared.outcome.InvOutcome.{InvOutcome}
use Rattle.inv_judge.specs.declared.outcome.InvOutcome.TheVariants as outcome

comes_found : (p : PairOf) (ss : List InvSaying) → StreamFate p ss (Some Found) → (I : List (List LitOf)) × IsInvariant p I
comes_found p ss h = let c = head_found p [] ss h in (c.0, is_invariant p c.0 c.1)

pub so_far_found : (p : PairOf) (bytes : List ℕ) (most : ℕ) (o : InvOutcome) → InvFateSoFar p bytes most (Some (fate_of o)) → o ≡ outcome.Found → (I : List (List LitOf)) × IsInvariant p I
so_far_found p bytes most o h e = elim (cases_le (length bytes) most) [
  | inl l ↦ comes_found p (sayings p.formula.vars false bytes) (subst (λ (z : InvOutcome). BytesFate p false bytes (Some (fate_of z))) e (h.within l))
  | inr l ↦ elim (h.beyond l) [
    | inl (x, c, q) ↦ comes_found p (sayings p.formula.vars false (take most bytes)) (subst (λ (z : Option InvFate). BytesFate p false (take most bytes) z) (sym q ∙ ap (λ (z : InvOutcome). Some (fate_of z)) e) c)
    | inr (c, q) ↦ absurd (let z = sym (ap (λ (z : InvOutcome). Some (fate_of z)) e) ∙ q in cc)
  ]
]

pub over_found : (p : PairOf) (bytes : List ℕ) (most : ℕ) (o : InvOutcome) → InvFateOf p bytes most (fate_of o) → o ≡ outcome.Found → (I : List (List LitOf)) × IsInvariant p I
over_found p bytes most o h e = elim (cases_le (length bytes) most) [
  | inl l ↦ elim (h.within l) [
    | inl c ↦ comes_found p (sayings p.formula.vars true bytes) (subst (λ (z : InvOutcome). BytesFate p true bytes (Some (fate_of z))) e c)
    | inr (c, q) ↦ absurd (let z = sym (ap fate_of e) ∙ q in cc)
  ]
  | inr l ↦ so_far_found p bytes most o (h.beyond l) e
]

-- the fate of a claim by itself
told_by_claim : (d : ClaimOf) (o : Option InvOutcome) → FateFrom d o [] (fate_told o)
told_by_claim d None = refl
told_by_claim d (Some o) = refl

comes_told : (c d : ClaimOf) (ss : List InvSaying) → Leads c ss d → SayingsFate c.pair c.part c.invariant c.present ss (fate_told d.outcome)
comes_told c d ss l = subst (λ (z : List InvSaying). SayingsFate c.pair c.part c.invariant c.present z (fate_told d.outcome)) (append-nil ss) (l.fate [] (fate_told d.outcome) (told_by_claim d d.outcome))

module _ (w v : InvOf) (c d : ClaimOf) (bytes piece : List ℕ) (h : AwaitsMore w c bytes) (g : Heard w c piece v d) where
  abbrev start : InvOf
  start = fresh c.pair.formula.vars

  after_both : after w piece ≡ after (fresh c.pair.formula.vars) (bytes ++ piece)
  after_both = ap (λ (u : InvOf). after u piece) h.parser ∙ sym (after_append (fresh c.pair.formula.vars) bytes piece)

  said_both : said (fresh c.pair.formula.vars) (bytes ++ piece) ≡ said (fresh c.pair.formula.vars) bytes ++ said w piece
  said_both = said_append (fresh c.pair.formula.vars) bytes piece ∙ ap (λ (u : InvOf). said (fresh c.pair.formula.vars) bytes ++ said u piece) (sym h.parser)

  all : said (fresh c.pair.formula.vars) bytes ++ (said w piece ++ fault_said (fault (after w piece))) ≡ sayings c.pair.formula.vars false (bytes ++ piece)
  all =
      sym (append_assoc (said (fresh c.pair.formula.vars) bytes) (said w piece) (fault_said (fault (after w piece))))
      ∙ ap (λ (z : List InvSaying). z ++ fault_said (fault (after w piece))) (sym said_both)
      ∙ ap (λ (u : InvOf). said (fresh c.pair.formula.vars) (bytes ++ piece) ++ fault_said (fault u)) after_both

  pub took_comes : BytesFate c.pair false (bytes ++ piece) (fate_told d.outcome)
  took_comes = subst (λ (z : List InvSaying). StreamFate c.pair z (fate_told d.outcome)) all
      (h.fate (said w piece ++ fault_said (fault (after w piece))) (fate_told d.outcome) (comes_told c d (said w piece ++ fault_said (fault (after w piece))) g.leads))

  abbrev AtBy : PairOf → Type 0
  AtBy p = (v ≡ after (fresh p.formula.vars) (bytes ++ piece))
      × ((rest : List InvSaying) (fate : Option InvFate) → SayingsFate p d.part d.invariant d.present rest fate → StreamFate p (said (fresh p.formula.vars) (bytes ++ piece) ++ rest) fate)

  module _ (n : d.outcome ≡ None) where
    quiet : fault_said (fault (after w piece)) ≡ []
    quiet = ap fault_said (g.whole n)

    regroup : (rest : List InvSaying) → said (fresh c.pair.formula.vars) bytes ++ ((said w piece ++ fault_said (fault (after w piece))) ++ rest) ≡ said (fresh c.pair.formula.vars) (bytes ++ piece) ++ rest
    regroup rest =
        ap (λ (z : List InvSaying). said (fresh c.pair.formula.vars) bytes ++ ((said w piece ++ z) ++ rest)) quiet
        ∙ ap (λ (z : List InvSaying). said (fresh c.pair.formula.vars) bytes ++ (z ++ rest)) (append-nil (said w piece))
        ∙ sym (append_assoc (said (fresh c.pair.formula.vars) bytes) (said w piece) rest)
        ∙ ap (λ (z : List InvSaying). z ++ rest) (sym said_both)

    here : AtBy c.pair
    here = (
      g.kept n ∙ after_both,
      (λ rest fate k. subst (λ (z : List InvSaying). StreamFate c.pair z fate) (regroup rest)
          (h.fate ((said w piece ++ fault_said (fault (after w piece))) ++ rest) fate
          (g.leads.fate rest fate (subst (λ (o : Option InvOutcome). FateFrom d o rest fate) (sym n) (subst (λ (p : PairOf). SayingsFate p d.part d.invariant d.present rest fate) (sym g.leads.pair) k))))),
    )

    pub took_at : AwaitsMore v d (bytes ++ piece)
    took_at =
        let r = subst AtBy (sym g.leads.pair) here in
        record { parser = r.0; whole = ap fault (g.kept n) ∙ g.whole n; undecided = n; fate = r.1 }

-- an outcome that there is stays
or_some : (c : ClaimOf) (o : Option InvOutcome) (p : InvOutcome) (q : InvOutcome) → o ≡ Some q → outcome_or c o p ≡ c
or_some c None p q e = cc
or_some c (Some o) p q e = refl

or_outcome : (c : ClaimOf) (o : Option InvOutcome) (p : InvOutcome) → c.outcome ≡ o → ((q : InvOutcome) × (o ≡ Some q) × ((outcome_or c o p).outcome ≡ Some q)) ⊎ ((o ≡ None) × ((outcome_or c o p).outcome ≡ Some p))
or_outcome c None p e = inr (refl, refl)
or_outcome c (Some q) p e = inl (q, refl, e)

or_pair : (c : ClaimOf) (o : Option InvOutcome) (p : InvOutcome) → (outcome_or c o p).pair ≡ c.pair
or_pair c None p = refl
or_pair c (Some q) p = refl

abbrev pub judge : InvOf → ClaimOf → ℕ → ℕ → Bool → JudgeOf
judge w c count most wanting = record { parser = w; claim = c; count = count; most = most; wanting = wanting }

never : (claim d : ClaimOf) (o : InvOutcome) → d ≡ outcome_or claim claim.outcome o → d.outcome ≡ None → ⊥
never claim d o is e = elim (or_outcome claim claim.outcome o refl) as (λ _. ⊥) [
  | inl (q, f, k) ↦ let z = sym e ∙ ap (λ (z : ClaimOf). z.outcome) is ∙ k in cc
  | inr (f, k) ↦ let z = sym e ∙ ap (λ (z : ClaimOf). z.outcome) is ∙ k in cc
]

-- where there is no outcome all of the piece was taken
open_whole : (w v : InvOf) (c d : ClaimOf) (most room : ℕ) (piece : List ℕ) → TakesPiece most room w c piece v d → d.outcome ≡ None → (length piece ≤ room) × Heard w c piece v d
open_whole w v c d most room piece t e = elim t as (λ _. (length piece ≤ room) × Heard w c piece v d) [
  | inl f ↦ f
  | inr (claim, over, g, is) ↦ absurd (never claim d (outcome.Bad (record { kind = TooLong; at = most })) is e)
]

-- and as many bytes are counted
pub counted : (w v : InvOf) (c d : ClaimOf) (count most room : ℕ) (piece : List ℕ) → TakesPiece most room w c piece v d → taken w ≤ count → count + room ≤ most → d.outcome ≡ None
    → (taken v ≤ count + min (length piece) room) × (count + min (length piece) room ≤ most)
counted w v c d count most room piece t few space e =
    let f = open_whole w v c d most room piece t e in
    let k = after_few w piece in
    let same : taken v ≡ taken (after w piece) = ap taken (f.1.kept e) in
    let fits = f.0 in
    (omega arith, omega arith)

module _ (w v : InvOf) (c d : ClaimOf) (count most room : ℕ) (b : Bool) (bytes piece : List ℕ) (s : HasTaken (judge w c count most b) bytes) (n : c.outcome ≡ None) (space : room ≡ most - count) (t : TakesPiece most room w c piece v d) where
  stood : AwaitsMore w c bytes × (count ≡ length bytes) × (length bytes ≤ most)
  stood = subst (HasTakenWith (judge w c count most b) bytes) n s

  so_far : InvFateSoFar c.pair (bytes ++ piece) most (fate_told d.outcome)
  so_far = elim t as (λ _. InvFateSoFar c.pair (bytes ++ piece) most (fate_told d.outcome)) [
    | inl (fits, g) ↦ record {
      within = λ l. took_comes w v c d bytes piece stood.0 g;
      beyond = λ l. absurd (let k = length-append bytes piece in let e = stood.1 in let m = stood.2 in omega arith);
    }
    | inr (claim, over, g, is) ↦ record {
      within = λ l. absurd (let k = length-append bytes piece in let e = stood.1 in let m = stood.2 in omega arith);
      beyond = λ l. cut claim g is;
    }
  ]
    where
      cut : (claim : ClaimOf) → Heard w c (take room piece) v claim → d ≡ outcome_or claim claim.outcome (outcome.Bad (record { kind = TooLong; at = most }))
          → ((x : InvFate) × BytesFate c.pair false (take most (bytes ++ piece)) (Some x) × (fate_told d.outcome ≡ Some x)) ⊎ (BytesFate c.pair false (take most (bytes ++ piece)) None × (fate_told d.outcome ≡ Some (Bad TooLong most)))
      cut claim g is =
          let e : bytes ++ take room piece ≡ take most (bytes ++ piece) = ap (λ (k : ℕ). bytes ++ take k piece) (space ∙ ap (λ (k : ℕ). most - k) stood.1) ∙ sym (take_short most bytes piece stood.2) in
          let come : BytesFate c.pair false (take most (bytes ++ piece)) (fate_told claim.outcome) = subst (λ (z : List ℕ). BytesFate c.pair false z (fate_told claim.outcome)) e (took_comes w v c claim bytes (take room piece) stood.0 g) in
          elim (or_outcome claim claim.outcome (outcome.Bad (record { kind = TooLong; at = most })) refl) [
            | inl (q, f, k) ↦ inl (fate_of q, subst (λ (z : Option InvOutcome). BytesFate c.pair false (take most (bytes ++ piece)) (fate_told z)) f come, ap (λ (z : ClaimOf). fate_told z.outcome) is ∙ ap fate_told k)
            | inr (f, k) ↦ inr (subst (λ (z : Option InvOutcome). BytesFate c.pair false (take most (bytes ++ piece)) (fate_told z)) f come, ap (λ (z : ClaimOf). fate_told z.outcome) is ∙ ap fate_told k)
          ]

  pub same_pair : d.pair ≡ c.pair
  same_pair = elim t as (λ _. d.pair ≡ c.pair) [
    | inl (fits, g) ↦ g.leads.pair
    | inr (claim, over, g, is) ↦ ap (λ (z : ClaimOf). z.pair) is ∙ or_pair claim claim.outcome (outcome.Bad (record { kind = TooLong; at = most })) ∙ g.leads.pair
  ]

  stands_now : (o : Option InvOutcome) → d.outcome ≡ o → HasTakenWith (judge v d (count + min (length piece) room) most b) (bytes ++ piece) o
  stands_now None e =
      let f = open_whole w v c d most room piece t e in (
        took_at w v c d bytes piece stood.0 f.1 e,
        (let k = length-append bytes piece in let q = stood.1 in let m = f.0 in omega arith),
        (let k = length-append bytes piece in let q = stood.1 in let l = stood.2 in let m = f.0 in omega arith),
      )
  stands_now (Some o) e = subst (λ (p : PairOf). InvFateSoFar p (bytes ++ piece) most (Some (fate_of o))) (sym same_pair) (subst (λ (z : Option InvOutcome). InvFateSoFar c.pair (bytes ++ piece) most (fate_told z)) e so_far)

  pub feeds_piece : Feeds (judge w c count most b) (judge v d (count + min (length piece) room) most b) (bytes ++ piece) d.outcome
  feeds_piece = record { stands = stands_now d.outcome refl; outcome = refl; fate = so_far; found = λ e. so_far_found c.pair (bytes ++ piece) most outcome.Found (subst (λ (z : Option InvOutcome). InvFateSoFar c.pair (bytes ++ piece) most (fate_told z)) e so_far) refl }

-- the end of the stream
module _ (w v : InvOf) (c d : ClaimOf) (count most : ℕ) (b : Bool) (bytes : List ℕ) (s : HasTaken (judge w c count most b) bytes) (n : c.outcome ≡ None) (t : TakesEnd count w c d) where
  at : AwaitsMore w c bytes × (count ≡ length bytes) × (length bytes ≤ most)
  at = subst (HasTakenWith (judge w c count most b) bytes) n s

  ended : said (fresh c.pair.formula.vars) bytes ++ (at_end_says w ++ fault_said (fault w)) ≡ sayings c.pair.formula.vars true bytes
  ended = ap (λ (u : InvOf). said (fresh c.pair.formula.vars) bytes ++ (at_end_says u ++ fault_said (fault u))) at.0.parser

  end_comes : BytesFate c.pair true bytes (fate_told t.0.outcome)
  end_comes = subst (λ (z : List InvSaying). StreamFate c.pair z (fate_told t.0.outcome)) ended
      (at.0.fate (at_end_says w ++ fault_said (fault w)) (fate_told t.0.outcome) (comes_told c t.0 (at_end_says w ++ fault_said (fault w)) t.1))

  pub end_pair : d.pair ≡ c.pair
  end_pair = ap (λ (z : ClaimOf). z.pair) t.2 ∙ or_pair t.0 t.0.outcome (outcome.Bad (record { kind = EarlyEnd; at = count })) ∙ t.1.pair

  end_fate : (o : InvOutcome) → d.outcome ≡ Some o → InvFateOf c.pair bytes most (fate_of o)
  end_fate o e = record {
    within = λ l. elim (or_outcome t.0 t.0.outcome (outcome.Bad (record { kind = EarlyEnd; at = count })) refl) [
      | inl (q, f, k) ↦
          let z : q ≡ o = let r = sym k ∙ sym (ap (λ (z : ClaimOf). z.outcome) t.2) ∙ e in cc in
          inl (subst (λ (z : Option InvFate). BytesFate c.pair true bytes z) (ap fate_told f ∙ ap (λ (z : InvOutcome). Some (fate_of z)) z) end_comes)
      | inr (f, k) ↦
          let z : o ≡ outcome.Bad (record { kind = EarlyEnd; at = count }) = let r = sym e ∙ ap (λ (z : ClaimOf). z.outcome) t.2 ∙ k in cc in
          inr (subst (λ (z : Option InvFate). BytesFate c.pair true bytes z) (ap fate_told f) end_comes, ap fate_of z ∙ ap (λ (k : ℕ). Bad EarlyEnd k) at.1)
    ];
    beyond = λ l. absurd (let m = at.2 in omega arith);
  }

  pub ends_piece : (o : InvOutcome) → d.outcome ≡ Some o → IsOver (judge v d count most b) bytes o
  ends_piece o e = subst (λ (p : PairOf). IsOver (judge v (record d { pair = p }) count most b) bytes o) (sym end_pair) (record {
    outcome = e;
    fate = end_fate o e;
    found = λ f. over_found c.pair bytes most o (end_fate o e) f;
  })

-- an outcome is for good
no_end_by : (w : InvOf) (line : Line) (f : InvFault) → fault_by w line ≡ Some f → at_end_by w line ≡ []
no_end_by w Start f e = refl
no_end_by w Letter f e = refl
no_end_by w (Word s) f e = refl
no_end_by w (Named part) f e = refl
no_end_by w Inside f e = ap (λ (o : Option Event). map Says (told_by w.parser o)) (none_at w.parser.mode f e)
  where
    none_at : (m : Mode) (f : InvFault) → parsed (fault_of m) ≡ Some f → at_end m ≡ None
    none_at (mode.Start amid) f e = cc
    none_at (mode.Skip amid) f e = cc
    none_at (mode.Head kind) f e = cc
    none_at mode.StatusHead f e = cc
    none_at mode.StatusGap f e = cc
    none_at (mode.Spelled n) f e = cc
    none_at mode.Whole f e = cc
    none_at (mode.InList kind part) f e = cc
    none_at mode.Closed f e = cc
    none_at (mode.Bad g) f e = refl
    none_at mode.Lost f e = cc
no_end_by w (Refused g) f e = refl
no_end_by w Lost f e = refl

pub ends_come : (p : PairOf) (bytes : List ℕ) (x : InvFate) → BytesFate p false bytes (Some x) → BytesFate p true bytes (Some x)
ends_come p bytes x h = by (fault (after (fresh p.formula.vars) bytes)) refl
  where
    by : (o : Option InvFault) → fault (after (fresh p.formula.vars) bytes) ≡ o → BytesFate p true bytes (Some x)
    by None e =
        subst (λ (z : List InvSaying). StreamFate p z (Some x))
        (sym (ap (λ (z : List InvSaying). said (fresh p.formula.vars) bytes ++ z) (ap (λ (z : List InvSaying). at_end_says (after (fresh p.formula.vars) bytes) ++ z) (ap fault_said e) ∙ append-nil (at_end_says (after (fresh p.formula.vars) bytes)))))
        (comes_more p Head [] [] (said (fresh p.formula.vars) bytes) (at_end_says (after (fresh p.formula.vars) bytes)) x
        (subst (λ (z : List InvSaying). StreamFate p z (Some x)) (ap (λ (z : List InvSaying). said (fresh p.formula.vars) bytes ++ z) (ap fault_said e) ∙ append-nil (said (fresh p.formula.vars) bytes)) h))
    by (Some f) e =
        subst (λ (z : List InvSaying). StreamFate p (said (fresh p.formula.vars) bytes ++ (z ++ fault_said (fault (after (fresh p.formula.vars) bytes)))) (Some x))
        (sym (no_end_by (after (fresh p.formula.vars) bytes) (after (fresh p.formula.vars) bytes).line f e)) h

pub ends_again : (j : JudgeOf) (o : InvOutcome) → outcome_of j ≡ Some o → (bytes : List ℕ) → HasTaken j bytes → IsOver j bytes o
ends_again j o e bytes s =
    let h : InvFateSoFar j.claim.pair bytes j.most (Some (fate_of o)) = subst (HasTakenWith j bytes) e s in
    record {
      outcome = e;
      fate = record { within = λ l. inl (ends_come j.claim.pair bytes (fate_of o) (h.within l)); beyond = λ l. h };
      found = λ f. so_far_found j.claim.pair bytes j.most o h f;
    }

pub feeds_again : (j : JudgeOf) (o : InvOutcome) → outcome_of j ≡ Some o → (bytes piece : List ℕ) → HasTaken j bytes → Feeds j j (bytes ++ piece) (Some o)
feeds_again j o e bytes piece s =
    let h : InvFateSoFar j.claim.pair bytes j.most (Some (fate_of o)) = subst (HasTakenWith j bytes) e s in
    let k : InvFateSoFar j.claim.pair (bytes ++ piece) j.most (Some (fate_of o)) = so_far_stays j.claim.pair bytes (fate_of o) piece j.most h in
    record {
      stands = subst (HasTakenWith j (bytes ++ piece)) (sym e) k;
      outcome = e;
      fate = k;
      found = λ f. so_far_found j.claim.pair (bytes ++ piece) j.most outcome.Found (subst (λ (z : Option InvOutcome). InvFateSoFar j.claim.pair (bytes ++ piece) j.most (fate_told z)) f k) refl;
    }
