-- What a call for a gate does is a function of the gates and of what is asked.
use Rattle.std.proofs.Common.{◌≡◌, ℕ, zero, suc, ◌+◌, ◌++◌, ◌<◌, Bool, true, false, ◌&&◌, cond, List, [], ◌∷◌, Option, Some, None, refl, ap, ◌∙◌, subst, inl, inr, arith}
use Rattle.std.specs.Prelude.{Contains}
use Rattle.std.proofs.lemmas.Bool.{eq-eqb}
use Rattle.cnf_form.specs.Cnf.{LitOf, index_of}
use Rattle.cnf_form.proofs.Literals.{same_by_eq}
use Rattle.gate_graph.specs.declared.gate.Gate.{Gate}
use Rattle.gate_graph.specs.declared.gate.Gate.TheVariants.{And, Xor, Mux, Maj}
use Rattle.gate_graph.specs.declared.gate.Asked.{Asked}
use Rattle.gate_graph.specs.declared.gate.Asked.TheVariants.{Is, Make}
use Rattle.gate_graph.specs.Circuit.{GatesOf}
use Rattle.gate_graph.specs.Folding.{same}
use Rattle.gate_graph.specs.Kept.{AreKept, IsRefused, Settles, lit_of, signed}
use Rattle.gate_graph.proofs.Tables.{contains_first, contains_later, contains_none}
use Rattle.net_unroll.specs.Making.{CoreOf, core_of, found, made_gate, same_gate, settled}

same_self : (a : LitOf) → same a a ≡ true
same_self a = eq-eqb (index_of a) (index_of a) refl

and_self : (p q : Bool) → p ≡ true → q ≡ true → (p && q) ≡ true
and_self true true h k = refl
and_self true false h k = cc
and_self false q h k = cc

both : (p q : Bool) → (p && q) ≡ true → (p ≡ true) × (q ≡ true)
both true true h = (refl, refl)
both true false h = cc
both false q h = cc

pub same_gate_self : (k : Gate) → same_gate k k ≡ true
same_gate_self (And a b) = and_self _ _ (same_self a) (same_self b)
same_gate_self (Xor a b) = and_self _ _ (same_self a) (same_self b)
same_gate_self (Mux s a b) = and_self _ _ (same_self s) (and_self _ _ (same_self a) (same_self b))
same_gate_self (Maj a b c) = and_self _ _ (same_self a) (and_self _ _ (same_self b) (same_self c))

two : (f : LitOf → LitOf → Gate) (a b c d : LitOf) → (same a c && same b d) ≡ true → f a b ≡ f c d
two f a b c d h = let (p, q) = both (same a c) (same b d) h in ap (λ (l : LitOf). f l b) (same_by_eq a c p) ∙ ap (f c) (same_by_eq b d q)

three : (f : LitOf → LitOf → LitOf → Gate) (s a b t c d : LitOf) → (same s t && (same a c && same b d)) ≡ true → f s a b ≡ f t c d
three f s a b t c d h = let (p, q) = both (same s t) (same a c && same b d) h in ap (λ (l : LitOf). f l a b) (same_by_eq s t p) ∙ two (f t) a b c d q

pub same_gate_exact : (j k : Gate) → same_gate j k ≡ true → j ≡ k
same_gate_exact (And a b) (And c d) h = two And a b c d h
same_gate_exact (And a b) (Xor c d) h = cc
same_gate_exact (And a b) (Mux c d e) h = cc
same_gate_exact (And a b) (Maj c d e) h = cc
same_gate_exact (Xor a b) (And c d) h = cc
same_gate_exact (Xor a b) (Xor c d) h = two Xor a b c d h
same_gate_exact (Xor a b) (Mux c d e) h = cc
same_gate_exact (Xor a b) (Maj c d e) h = cc
same_gate_exact (Mux s a b) (And c d) h = cc
same_gate_exact (Mux s a b) (Xor c d) h = cc
same_gate_exact (Mux s a b) (Mux t c d) h = three Mux s a b t c d h
same_gate_exact (Mux s a b) (Maj c d e) h = cc
same_gate_exact (Maj s a b) (And c d) h = cc
same_gate_exact (Maj s a b) (Xor c d) h = cc
same_gate_exact (Maj s a b) (Mux c d e) h = cc
same_gate_exact (Maj s a b) (Maj t c d) h = three Maj s a b t c d h

pub found_some : (kept : List (Gate × LitOf)) (k : Gate) (l : LitOf) → found kept k ≡ Some l → Contains kept (k, l)
found_some [] k l h = absurd (let z : None ≡ Some l = h in cc)
found_some ((j, m) ∷ kept) k l h = by (same_gate j k) refl (λ i. found_some kept k l i) h
  where
    by : (b : Bool) → same_gate j k ≡ b → (found kept k ≡ Some l → Contains kept (k, l)) → cond b (Some m) (found kept k) ≡ Some l → Contains ((j, m) ∷ kept) (k, l)
    by true e more i = let z : Some m ≡ Some l = i in let f : m ≡ l = cc in
        subst (λ (g : Gate). Contains ((j, m) ∷ kept) (g, l)) (same_gate_exact j k e) (subst (λ (n : LitOf). Contains ((j, m) ∷ kept) (j, n)) f (contains_first (j, m) kept))
    by false e more i = contains_later (j, m) kept (k, l) (more i)

pub found_there : (kept : List (Gate × LitOf)) (k : Gate) (l : LitOf) → Contains kept (k, l) → found kept k ≡ None → ⊥
found_there [] k l c h = contains_none (k, l) c
found_there ((j, m) ∷ kept) k l c h = by (same_gate j k) refl (λ i n. found_there kept k l i n) h c
  where
    by : (b : Bool) → same_gate j k ≡ b → (Contains kept (k, l) → found kept k ≡ None → ⊥) → cond b (Some m) (found kept k) ≡ None → Contains ((j, m) ∷ kept) (k, l) → ⊥
    by true e more i c = let z : Some m ≡ None = i in cc
    by false e more i (zero, a, f) =
        let z : (j, m) ≡ (k, l) = f in
        let g : j ≡ k = ap (λ (p : Gate × LitOf). p.0) z in
        let t : same_gate j k ≡ true = subst (λ (n : Gate). same_gate j n ≡ true) g (same_gate_self j) in cc
    by false e more i (suc n, a, f) = more (n, omega arith, f) i

pub settled_is : (old new : GatesOf) (a : Asked) (l : LitOf) → AreKept old → Settles old a new l → (core_of new ≡ (settled (core_of old) a).0) × (l ≡ (settled (core_of old) a).1)
settled_is old new (Is m) l kept (e, f) = (ap core_of e, f)
settled_is old new (Make k s) l kept (m, h, u) = by (found old.kept k) refl
  where
    one : old.formula.vars + 1 ≡ suc old.formula.vars
    one = omega arith

    by : (o : Option LitOf) → found old.kept k ≡ o → (core_of new ≡ (made_gate (core_of old) k s o).0) × (l ≡ (made_gate (core_of old) k s o).1)
    by None e = elim u [
      | inl (c, f) ↦ absurd (found_there old.kept k m c e)
      | inr (n, f, g) ↦ (
        ap core_of g ∙ ap (λ (v : ℕ). let c : CoreOf = record { vars = v; kept = old.kept ++ (k, lit_of v true) ∷ [] } in c) one,
        h ∙ ap (signed s) f ∙ ap (λ (v : ℕ). signed s (lit_of v true)) one,
      )
    ]
    by (Some r) e = let there = found_some old.kept k r e in elim u [
      | inl (c, f) ↦ (ap core_of f, h ∙ ap (signed s) (kept.one k m r c there))
      | inr (n, f, g) ↦ absurd (n r there)
    ]

-- where a call is refused, there would be more variables than there may be
pub refused_past : (old : GatesOf) (a : Asked) → IsRefused old a → old.most < (settled (core_of old) a).0.vars
refused_past old (Is m) r = absurd r
refused_past old (Make k s) (full, new) = by (found old.kept k) refl
  where
    by : (o : Option LitOf) → found old.kept k ≡ o → old.most < (made_gate (core_of old) k s o).0.vars
    by None e = let f = full.full in omega arith
    by (Some r) e = absurd (new r (found_some old.kept k r e))
