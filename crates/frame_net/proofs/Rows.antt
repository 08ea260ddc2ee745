-- Inputs one after the other, and lists by places.
use Rattle.std.proofs.Common.{◌≡◌, ℕ, zero, suc, ◌+◌, ◌<◌, true, List, [], ◌∷◌, ◌++◌, Some, refl, sym, ap, ◌∙◌, arith, length, map, append_assoc}
use Rattle.std.specs.Prelude.{slice_get}
use Rattle.std.proofs.lemmas.List.{append-nil, map-append}
use Rattle.cnf_form.specs.Cnf.{LitOf}
use Rattle.gate_graph.specs.Circuit.{GatesOf, MakesInput}
use Rattle.gate_graph.specs.Kept.{lit_of, with_input}
use Rattle.gate_graph.specs.Laws.{Continues-refl, Continues-trans}
use Rattle.gate_graph.proofs.Keeping.{lit_from}
use Rattle.bit_net.specs.Reaching.{numbers}
use Rattle.bit_net.proofs.Lists.{numbers_end}
use Rattle.frame_net.specs.Making.{IsFreeRow, row_from}

pub numbers_append : (first m n : ℕ) → numbers first (m + n) ≡ numbers first m ++ numbers (first + m) n
numbers_append first zero n = ap (numbers first) (let z : 0 + n ≡ n = omega arith in z) ∙ ap (λ (k : ℕ). numbers k n) (let e : first ≡ first + 0 = omega arith in e)
numbers_append first (suc m) n =
    ap (numbers first) (let e : suc m + n ≡ suc (m + n) = omega arith in e)
    ∙ ap (λ (xs : List ℕ). first ∷ xs) (numbers_append (suc first) m n ∙ ap (λ (k : ℕ). numbers (suc first) m ++ numbers k n) (let e : suc first + m ≡ first + suc m = omega arith in e))

pub length-numbers : (first n : ℕ) → length (numbers first n) ≡ n
length-numbers first zero = refl
length-numbers first (suc n) = ap suc (length-numbers (suc first) n)

pub numbers-at : (first n k : ℕ) → k < n → slice_get (numbers first n) k ≡ Some (first + k)
numbers-at first zero k h = absurd (omega arith)
numbers-at first (suc n) zero h = ap Some (let e : first ≡ first + 0 = omega arith in e)
numbers-at first (suc n) (suc k) h = numbers-at (suc first) n k (omega arith) ∙ ap Some (let e : suc first + k ≡ first + suc k = omega arith in e)

pub length-row_from : (first n : ℕ) → length (row_from first n) ≡ n
length-row_from first zero = refl
length-row_from first (suc n) = ap suc (length-row_from (suc first) n)

pub row_from-at : (first n k : ℕ) → k < n → slice_get (row_from first n) k ≡ Some (lit_of (first + k) true)
row_from-at first zero k h = absurd (omega arith)
row_from-at first (suc n) zero h = ap (λ (v : ℕ). Some (lit_of v true)) (let e : first ≡ first + 0 = omega arith in e)
row_from-at first (suc n) (suc k) h = row_from-at (suc first) n k (omega arith) ∙ ap (λ (v : ℕ). Some (lit_of v true)) (let e : suc first + k ≡ first + suc k = omega arith in e)

pub row_from-end : (first n : ℕ) → row_from first (suc n) ≡ row_from first n ++ lit_of (first + n) true ∷ []
row_from-end first n = ap (map (λ (v : ℕ). lit_of v true)) (numbers_end first n) ∙ map-append (λ (v : ℕ). lit_of v true) (numbers first n) ((first + n) ∷ [])

pub free_none : (g : GatesOf) → IsFreeRow g g 0 []
free_none g = record { continues = Continues-refl g; vars = omega arith; inputs = sym (append-nil g.inputs); row = refl }

pub free_one : (old new : GatesOf) (l : LitOf) → MakesInput old new l → new ≡ with_input old → IsFreeRow old new 1 (l ∷ [])
free_one old new l m e =
    let vars : new.formula.vars ≡ old.formula.vars + 1 = ap (λ (g : GatesOf). g.formula.vars) e in
    let fresh = m.fresh in
    let within = m.within in
    let v : l.var ≡ suc old.formula.vars = let hi = within.1 in omega arith in
    record {
      continues = m.continues;
      vars = vars;
      inputs = m.inputs ∙ ap (λ (v : ℕ). old.inputs ++ v ∷ []) v;
      row = ap (λ (k : LitOf). k ∷ []) (lit_from l (suc old.formula.vars) v m.plain);
    }

pub free_more : (f g h : GatesOf) (n : ℕ) (lits : List LitOf) (l : LitOf) → IsFreeRow f g n lits → IsFreeRow g h 1 (l ∷ []) → IsFreeRow f h (suc n) (lits ++ l ∷ [])
free_more f g h n lits l p q =
    let a = p.vars in
    let b = q.vars in
    let next : suc g.formula.vars ≡ suc f.formula.vars + n = omega arith in
    record {
      continues = Continues-trans f g h p.continues q.continues;
      vars = omega arith;
      inputs = q.inputs ∙ ap (λ (xs : List ℕ). xs ++ numbers (suc g.formula.vars) 1) p.inputs ∙ append_assoc f.inputs (numbers (suc f.formula.vars) n) (numbers (suc g.formula.vars) 1)
          ∙ ap (λ (v : ℕ). f.inputs ++ (numbers (suc f.formula.vars) n ++ v ∷ [])) next
          ∙ ap (λ (xs : List ℕ). f.inputs ++ xs) (sym (numbers_end (suc f.formula.vars) n));
      row = ap (λ (xs : List LitOf). xs ++ l ∷ []) p.row
          ∙ ap (λ (xs : List LitOf). row_from (suc f.formula.vars) n ++ xs) (q.row ∙ ap (λ (v : ℕ). lit_of v true ∷ []) next)
          ∙ sym (row_from-end (suc f.formula.vars) n);
    }
