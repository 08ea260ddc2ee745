-- Clauses at which nothing is left to do.
use Rattle.std.proofs.Common.{◌≢◌, ℕ, ◌+◌, ◌<◌, List, [], ◌∷◌, ◌++◌, length, take, sym, ◌∙◌, subst, inl, inr}
use Rattle.std.specs.Prelude.{Contains, Option, Some}
use Rattle.std.proofs.lemmas.List.Elements.{Contains-append_cases}
use Rattle.cnf_form.specs.Cnf.{LitOf, negate}
use Rattle.cnf_form.proofs.Literals.{lit_cases}
use Rattle.cnf_form.proofs.Members.{Contains-empty, Contains-one}
use Rattle.unit_propagation.specs.Propagation.{IsConsistent, IsSettled, IsFixpoint}
use Rattle.unit_propagation.specs.Propagator.{clauses_of, slot_at}
use Rattle.cdcl_core.proofs.Reductions.{take_slot, clauses_append}

pub settled_true : (t cl : List LitOf) (l : LitOf) → IsConsistent t → Contains cl l → Contains t l → IsSettled t cl
settled_true t cl l ok i on = record {
  not_falsified = λ w. ok.apart l on (w.each l i);
  closed = λ m j w. elim (lit_cases m l) [
    | inl e ↦ subst (Contains t) (sym e) on
    | inr ne ↦ absurd (ok.apart l on (w.each l i (λ q. ne (sym q))))
  ];
}

pub settled_two : (t cl : List LitOf) (a b : LitOf) → Contains cl a → Contains cl b → a ≢ b → (Contains t (negate a) → ⊥) → (Contains t (negate b) → ⊥) → IsSettled t cl
settled_two t cl a b ia ib ne na nb = record {
  not_falsified = λ w. na (w.each a ia);
  closed = λ m j w. elim (lit_cases m a) [
    | inl e ↦ absurd (nb (w.each b ib (λ q. ne (sym e ∙ sym q))))
    | inr d ↦ absurd (na (w.each a ia (λ q. d (sym q))))
  ];
}

pub fixpoint_empty : (t : List LitOf) → IsFixpoint t []
fixpoint_empty t c h = absurd (Contains-empty c h)

pub fixpoint_one : (t c : List LitOf) → IsSettled t c → IsFixpoint t (c ∷ [])
fixpoint_one t c s d h = subst (IsSettled t) (Contains-one c d h) s

pub fixpoint_both : (t : List LitOf) (F G : List (List LitOf)) → IsFixpoint t F → IsFixpoint t G → IsFixpoint t (F ++ G)
fixpoint_both t F G f g c h = elim (Contains-append_cases F G c h) [ inl k ↦ f c k | inr k ↦ g c k ]

pub fixpoint_take : (t : List LitOf) (slots : List (Option (List LitOf))) (k : ℕ) → k < length slots → IsFixpoint t (clauses_of (take k slots)) → IsFixpoint t (clauses_of (slot_at slots k ∷ [])) → IsFixpoint t (clauses_of (take (k + 1) slots))
fixpoint_take t slots k h f g = subst (IsFixpoint t) (sym (take_slot slots k h)) (fixpoint_both t (clauses_of (take k slots)) (clauses_of (slot_at slots k ∷ [])) f g)

pub fixpoint_push : (t : List LitOf) (slots : List (Option (List LitOf))) (c : List LitOf) → IsFixpoint t (clauses_of slots) → IsSettled t c → IsFixpoint t (clauses_of (slots ++ Some c ∷ []))
fixpoint_push t slots c f s = subst (IsFixpoint t) (sym (clauses_append slots (Some c ∷ []))) (fixpoint_both t (clauses_of slots) (c ∷ []) f (fixpoint_one t c s))
