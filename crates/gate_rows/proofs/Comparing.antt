-- The comparison chain, place by place.
use Rattle.std.proofs.Common.{◌≡◌, ℕ, ◌+◌, ◌^◌, ◌<◌, Bool, true, false, cond, not, leb, List, length, take, get_or, refl, sym, ◌∙◌, ap, arith}
use Rattle.std.proofs.lemmas.Bool.Decides.{nat_tests}
use Rattle.cnf_form.specs.Cnf.{LitOf, Assignment, Satisfies, LitWithin, lit_in, negate}
use Rattle.gate_graph.specs.Circuit.{GatesOf, MakesGate}
use Rattle.gate_graph.specs.Folding.{majority}
use Rattle.gate_graph.specs.Laws.{keeps}
use Rattle.gate_graph.proofs.OneTable.{lit_negated}
use Rattle.sby_bits.specs.Rows.{num}
use Rattle.sby_bits.proofs.Numbers.{num-take, num-take-lt}
use Rattle.gate_rows.specs.Literals.{row_of}
use Rattle.gate_rows.specs.Sums.{IsAtLeast}
use Rattle.gate_rows.proofs.Building.{Builds-none, Builds-trans, Builds-gate, length-row, read}

-- m and n are the numbers of the lower bits of a and b, w is the place's power of two
pub at_least_next : (w m n : ℕ) (p q g : Bool) → m < w → n < w → g ≡ leb n m → majority p (not q) g ≡ leb (n + cond q w 0) (m + cond p w 0)
at_least_next w m n true true g lm ln e = e ∙ grind (arith, nat_tests)
at_least_next w m n true false g lm ln e = grind (arith, nat_tests)
at_least_next w m n false true g lm ln e = grind (arith, nat_tests)
at_least_next w m n false false g lm ln e = e ∙ grind (arith, nat_tests)

pub AtLeast-none : (g : GatesOf) (a b : List LitOf) (l : LitOf) → LitWithin g.formula.vars l → ((x : Assignment) → Satisfies x g.formula.clauses → lit_in x l ≡ true) → IsAtLeast g g a b 0 l
AtLeast-none g a b l w m = record { builds = Builds-none g 0; within = w; means = λ x s. m x s }

pub AtLeast-next : (f g h : GatesOf) (a b : List LitOf) (i : ℕ) (l p q m : LitOf) → IsAtLeast f g a b i l → i < length a → length a ≡ length b → p ≡ get_or a i p → q ≡ get_or b i q →
    MakesGate g h (λ x. majority (lit_in x p) (lit_in x (negate q)) (lit_in x l)) m → IsAtLeast f h a b (i + 1) m
AtLeast-next f g h a b i l p q m z lt same ep eq w = record {
  builds = Builds-trans f g h i 1 (i + 1) z.builds (Builds-gate g h _ m w) (omega arith);
  within = w.within;
  means = λ x t.
      let old = z.means x (keeps g h w.continues x t) in
      let na = length-row x a in
      let nb = length-row x b in
      let ta : num (take (i + 1) (row_of x a)) ≡ num (take i (row_of x a)) + cond (lit_in x p) (2 ^ i) 0 = num-take (row_of x a) i (omega arith) ∙ ap (λ (e : Bool). num (take i (row_of x a)) + cond e (2 ^ i) 0) (read x a i p lt ep) in
      let tb : num (take (i + 1) (row_of x b)) ≡ num (take i (row_of x b)) + cond (lit_in x q) (2 ^ i) 0 = num-take (row_of x b) i (omega arith) ∙ ap (λ (e : Bool). num (take i (row_of x b)) + cond e (2 ^ i) 0) (read x b i q (omega arith) eq) in
      w.means x t ∙ ap (λ (e : Bool). majority (lit_in x p) e (lit_in x l)) (lit_negated x q)
      ∙ at_least_next (2 ^ i) (num (take i (row_of x a))) (num (take i (row_of x b))) (lit_in x p) (lit_in x q) (lit_in x l)
      (num-take-lt (row_of x a) i (omega arith)) (num-take-lt (row_of x b) i (omega arith)) old
      ∙ sym (ap (λ (n : ℕ). leb (num (take (i + 1) (row_of x b))) n) ta ∙ ap (λ (n : ℕ). leb n (num (take i (row_of x a)) + cond (lit_in x p) (2 ^ i) 0)) tb);
}
