-- Clauses over state bits, said of a cycle by its literals.
use Rattle.std.proofs.Common.{◌≡◌, ℕ, zero, suc, Bool, true, false, List, [], ◌∷◌, ◌++◌, Some, None, refl, sym, ap, ◌∙◌, subst, inl, inr}
use Rattle.std.specs.Prelude.{Option, Contains, slice_get}
use Rattle.cnf_form.specs.Cnf.{LitOf, Assignment, Satisfies, SatisfiesClause, lit_in}
use Rattle.cnf_form.proofs.Members.{Contains-empty, Contains-head, Contains-tail, Contains-one, Contains-cases, Contains-map, Contains-map_from}
use Rattle.gate_graph.proofs.OneTable.{lit_negated}
use Rattle.std.proofs.lemmas.List.Elements.{Contains-append_cases, Contains-append_left, Contains-append_right}
use Rattle.model_core.specs.Meaning.{Cycle}
use Rattle.pair_form.specs.Pair.{PairOf, bit_at, bit_lits, clause_over, clauses_over, lit_by, lit_of, lits_by, lits_over, signed}
use Rattle.pair_form.specs.declared.pair.Frame.{Frame}
use Rattle.pair_form.specs.declared.pair.BitLits.{BitLits}
use Rattle.pair_model.specs.Meaning.{HoldOf, IsTrueOf, signed_bit}

signed_value : (x : Assignment) (negated : Bool) (l : LitOf) → lit_in x (signed negated l) ≡ signed_bit negated (lit_in x l)
signed_value x true l = lit_negated x l
signed_value x false l = refl

module _ (places : List ℕ) (p : PairOf) (t : Frame) (x : Assignment) (c : Cycle)
    (placed : (n : ℕ) (b : BitLits) → bit_at p n ≡ Some b → (place : ℕ) × (slice_get places n ≡ Some place))
    (seen : (n place : ℕ) (b : BitLits) → slice_get places n ≡ Some place → bit_at p n ≡ Some b → lit_in x (lit_of t b) ≡ c place) where
  -- one literal
  by_bits : (negated : Bool) (n : ℕ) (o : Option BitLits) → bit_at p n ≡ o → (m : LitOf) → Contains (lits_by negated (lit_by t o)) m → lit_in x m ≡ true →
      (place : ℕ) × (b : BitLits) × (slice_get places n ≡ Some place) × (bit_at p n ≡ Some b) × (signed_bit negated (c place) ≡ true)
  by_bits negated n None e m k true_in = absurd (Contains-empty m k)
  by_bits negated n (Some b) e m k true_in =
      let at = placed n b e in
      let one : signed negated (lit_of t b) ≡ m = Contains-one (signed negated (lit_of t b)) m k in
      let value : signed_bit negated (lit_in x (lit_of t b)) ≡ true = sym (signed_value x negated (lit_of t b)) ∙ ap (lit_in x) one ∙ true_in in
      (at.0, b, at.1, e, ap (signed_bit negated) (sym (seen n at.0 b at.1 e)) ∙ value)

  by_number : (negated : Bool) (v : ℕ) (m : LitOf) → Contains (lits_by negated (bit_lits p t v)) m → lit_in x m ≡ true →
      (n : ℕ) × (place : ℕ) × (b : BitLits) × (v ≡ suc n) × (slice_get places n ≡ Some place) × (bit_at p n ≡ Some b) × (signed_bit negated (c place) ≡ true)
  by_number negated zero m k true_in = absurd (Contains-empty m k)
  by_number negated (suc n) m k true_in = let r = by_bits negated n (bit_at p n) refl m k true_in in (n, r.0, r.1, refl, r.2, r.3, r.4)

  said_so : (l m : LitOf) → Contains (lits_over p t l) m → lit_in x m ≡ true → IsTrueOf places p c l
  said_so l m k true_in = by_number l.negated l.var m k true_in

  by_place : (negated : Bool) (n place : ℕ) (b : BitLits) → slice_get places n ≡ Some place → bit_at p n ≡ Some b → signed_bit negated (c place) ≡ true →
      SatisfiesClause x (lits_by negated (bit_lits p t (suc n)))
  by_place negated n place b at e v =
      let lit : LitOf = signed negated (lit_of t b) in
      let value : lit_in x lit ≡ true = signed_value x negated (lit_of t b) ∙ ap (signed_bit negated) (seen n place b at e) ∙ v in
      (lit, subst (λ (o : Option BitLits). Contains (lits_by negated (lit_by t o)) lit) (sym e) (Contains-head lit []), value)

  so_said : (l : LitOf) → IsTrueOf places p c l → SatisfiesClause x (lits_over p t l)
  so_said l (n, place, b, v, at, e, s) =
      subst (λ (w : ℕ). SatisfiesClause x (lits_by l.negated (bit_lits p t w))) (sym v) (by_place l.negated n place b at e s)

  -- a clause
  from_clause : (d : List LitOf) (m : LitOf) → Contains (clause_over p t d) m → (l : LitOf) × Contains d l × Contains (lits_over p t l) m
  from_clause [] m k = absurd (Contains-empty m k)
  from_clause (l ∷ d) m k = elim (Contains-append_cases (lits_over p t l) (clause_over p t d) m k) as (λ _. (z : LitOf) × Contains (l ∷ d) z × Contains (lits_over p t z) m) [
    | inl h ↦ (l, Contains-head l d, h)
    | inr h ↦ let r = from_clause d m h in (r.0, Contains-tail l r.0 d r.1, r.2)
  ]

  to_clause : (d : List LitOf) (l m : LitOf) → Contains d l → Contains (lits_over p t l) m → Contains (clause_over p t d) m
  to_clause [] l m k h = absurd (Contains-empty l k)
  to_clause (z ∷ d) l m k h = elim (Contains-cases z l d k) as (λ _. Contains (lits_over p t z ++ clause_over p t d) m) [
    | inl e ↦ Contains-append_left (lits_over p t z) (clause_over p t d) m (subst (λ (w : LitOf). Contains (lits_over p t w) m) (sym e) h)
    | inr i ↦ Contains-append_right (lits_over p t z) (clause_over p t d) m (to_clause d l m i h)
  ]

  -- all clauses
  pub holds_of : (I : List (List LitOf)) → Satisfies x (clauses_over p t I) → HoldOf places p I c
  holds_of I sat d k =
      let s = sat (clause_over p t d) (Contains-map (clause_over p t) d I k) in
      let r = from_clause d s.0 s.1 in
      (r.0, r.1, said_so r.0 s.0 r.2 s.2)

  pub satisfied_by : (I : List (List LitOf)) → HoldOf places p I c → Satisfies x (clauses_over p t I)
  satisfied_by I h d k =
      let r = Contains-map_from (clause_over p t) d I k in
      let s = h r.0 r.1 in
      let w = so_said s.0 s.2 in
      subst (SatisfiesClause x) r.2 (w.0, to_clause r.0 s.0 w.0 s.1 w.1, w.2)
