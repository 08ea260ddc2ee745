-- What a scan of a clause knows so far.
use Rattle.std.proofs.Common.{◌≡◌, ◌≢◌, ℕ, ◌<◌, ◌+◌, List, length, take, drop, get_or, length-take, sym, ◌∙◌, subst, inl, inr, arith}
use Rattle.std.proofs.lemmas.List.{take-append-drop, get_or-take}
use Rattle.std.specs.Prelude.{Contains, Option, Some, None, IfSome}
use Rattle.std.proofs.lemmas.List.Elements.{Contains-push_cases, Contains-append_cases}
use Rattle.cnf_form.specs.Cnf.{LitOf, negate}
use Rattle.cnf_form.proofs.Members.{take_one_more}
use Rattle.cnf_form.proofs.Literals.{lit_cases}
use Rattle.unit_propagation.specs.Propagation.{IsFalsifiedBut, IsFalsified}

pub falsified_more : (t cs : List LitOf) (l : LitOf) (i : ℕ) (m : LitOf) → i < length cs → m ≡ get_or cs i m → IsFalsifiedBut t (take i cs) l → (m ≢ l → Contains t (negate m)) → IsFalsifiedBut t (take (i + 1) cs) l
falsified_more t cs l i m h e before here = record {
  each = λ k q d. elim (Contains-push_cases (take i cs) m k (subst (λ z. Contains z k) (take_one_more cs i m h e) q)) [
    | inl q ↦ before.each k q d
    | inr f ↦ subst (λ z. Contains t (negate z)) f (here (λ g. d (sym f ∙ g)))
  ];
}

pub falsified_by_all : (t c : List LitOf) (other : LitOf) → IsFalsifiedBut t c other → Contains t (negate other) → IsFalsified t c
falsified_by_all t c other a n = record { each = λ m h. elim (lit_cases m other) [ inl e ↦ subst (λ z. Contains t (negate z)) (sym e) n | inr d ↦ a.each m h d ] }

-- a clause in two parts
pub falsified_parts : (t c : List LitOf) (other : LitOf) (i : ℕ) → IsFalsifiedBut t (take i c) other → IsFalsifiedBut t (drop i c) other → IsFalsifiedBut t c other
falsified_parts t c other i a b = record {
  each = λ m h d. elim (Contains-append_cases (take i c) (drop i c) m (subst (λ z. Contains z m) (sym (take-append-drop i c)) h)) [
    | inl q ↦ a.each m q d
    | inr q ↦ b.each m q d
  ];
}

-- what was found in the first part is in the clause
pub found_before : (t c : List LitOf) (other : LitOf) (i : ℕ) (r : Option ℕ) → IfSome r (λ k. k < length (take i c))
    → IfSome r (λ k. (d : LitOf) → (get_or (take i c) k d ≢ other) × (Contains t (negate (get_or (take i c) k d)) → ⊥))
    → IfSome r (λ k. (d : LitOf) → (get_or c k d ≢ other) × (Contains t (negate (get_or c k d)) → ⊥))
found_before t c other i None w f = tt
found_before t c other i (Some k) w f = λ d. subst (λ (z : LitOf). (z ≢ other) × (Contains t (negate z) → ⊥)) (get_or-take i c k d (omega (arith, w, length-take i c))) (f d)
