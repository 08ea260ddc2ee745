-- The clauses that stand in slots.
use Rattle.std.proofs.Common.{◌≡◌, ℕ, ◌<◌, List, [], ◌∷◌, ◌++◌, ◌+◌, length, take, refl, sym, ◌∙◌, ap, subst, inl, inr, arith, zero, suc}
use Rattle.std.specs.Prelude.{Contains, Option, Some, None}
use Rattle.cnf_form.specs.Cnf.{LitOf}
use Rattle.std.proofs.lemmas.List.{get_or_default}
use Rattle.cnf_form.proofs.Members.{Contains-empty, Contains-head, Contains-tail, Contains-cases, take_one_more}
use Rattle.unit_propagation.specs.Propagator.{slot_at, clauses_of, present}

-- a clause that stands at some number is one of the clauses
pub clauses_of-contains : (slots : List (Option (List LitOf))) (j : ℕ) (c : List LitOf) → slot_at slots j ≡ Some c → Contains (clauses_of slots) c
clauses_of-contains [] j c e = absurd (let f : None ≡ Some c = e in cc)
clauses_of-contains (Some d ∷ ss) zero c e = let f : d ≡ c = cc in subst (Contains (d ∷ clauses_of ss)) f (Contains-head d (clauses_of ss))
clauses_of-contains (None ∷ ss) zero c e = absurd (let f : None ≡ Some c = e in cc)
clauses_of-contains (Some d ∷ ss) (suc j) c e = Contains-tail d c (clauses_of ss) (clauses_of-contains ss j c e)
clauses_of-contains (None ∷ ss) (suc j) c e = clauses_of-contains ss j c e

-- and each clause stands at some number
pub clauses_of-slot : (slots : List (Option (List LitOf))) (c : List LitOf) → Contains (clauses_of slots) c → (j : ℕ) × (j < length slots) × (slot_at slots j ≡ Some c)
clauses_of-slot [] c h = absurd (Contains-empty c h)
clauses_of-slot (Some d ∷ ss) c h =
    elim (Contains-cases d c (clauses_of ss) h) [
      | inl e ↦ (zero, omega arith, ap (λ (x : List LitOf). Some x) e)
      | inr k ↦ let w = clauses_of-slot ss c k in (suc w.0, omega (arith, w.1), w.2)
    ]
clauses_of-slot (None ∷ ss) c h = let w = clauses_of-slot ss c h in (suc w.0, omega (arith, w.1), w.2)

present_push : (slots : List (Option (List LitOf))) (c : List LitOf) → present (slots ++ Some c ∷ []) ≡ present slots ++ Some c ∷ []
present_push [] c = refl
present_push (Some d ∷ ss) c = ap (λ z. Some d ∷ z) (present_push ss c)
present_push (None ∷ ss) c = present_push ss c

present_none : (slots : List (Option (List LitOf))) → present (slots ++ None ∷ []) ≡ present slots
present_none [] = refl
present_none (Some d ∷ ss) = ap (λ z. Some d ∷ z) (present_none ss)
present_none (None ∷ ss) = present_none ss

-- the slots up to one of them, as a loop reads it
module _ (slots : List (Option (List LitOf))) (k : ℕ) (room : k < length slots) where
  pub present_more : (c : List LitOf) → slot_at slots k ≡ Some c → present (take (k + 1) slots) ≡ present (take k slots) ++ Some c ∷ []
  present_more c e = ap present (take_one_more slots k (Some c) room (sym e ∙ get_or_default slots k None (Some c) room)) ∙ present_push (take k slots) c

  pub present_same : slot_at slots k ≡ None → present (take (k + 1) slots) ≡ present (take k slots)
  present_same e = ap present (take_one_more slots k None room (sym e)) ∙ present_none (take k slots)
