-- Marks and numbers in tables.
use Rattle.std.proofs.Common.{◌≡◌, ℕ, zero, suc, ◌+◌, ◌-◌, ◌<◌, ◌≤◌, Bool, true, false, cond, List, [], ◌∷◌, ◌++◌, length, refl, sym, ap, ◌∙◌, subst, inl, inr, arith}
use Rattle.std.specs.Prelude.{All, slice_index_or, slice_index}
use Rattle.std.proofs.lemmas.Bool.{cases_lt}
use Rattle.std.proofs.lemmas.List.{length-append}
use Rattle.std.proofs.Math.ListN.{get_or-append}
use Rattle.std.proofs.Math.Seq.{get_or-append_seam}
use Rattle.cnf_form.specs.Cnf.{LitOf, LitWithin}
use Rattle.cnf_form.specs.declared.literal.TheConstants.{MAX_VARS}
use Rattle.gate_graph.specs.Circuit.{GatesOf}
use Rattle.gate_graph.specs.Kept.{AreKept, OthersWithin}
use Rattle.gate_graph.specs.declared.gate.Gate.{Gate}
use Rattle.gate_graph.specs.Folding.{operands}
use Rattle.bit_net.specs.Reaching.{spread}
use Rattle.bit_net.proofs.Lists.{others_in}
use Rattle.bit_net.proofs.Spreading.{spread_has}
use Rattle.net_unroll.proofs.Stepping.{all_in}
use Rattle.net_unroll.specs.Encoding.{number}
use Rattle.net_unroll.specs.Finishing.{AreNumbers, HasMarks, HasNumbers, begins}

-- numbers
pub number_same : (f g : ℕ → Bool) (v : ℕ) → ((w : ℕ) → 0 < w → w ≤ v → f w ≡ g w) → number f v ≡ number g v
number_same f g zero h = refl
number_same f g (suc v) h = ap (λ (b : Bool). cond b (suc (number f v)) (number f v)) (h (suc v) (omega arith) (omega arith)) ∙ ap (λ (n : ℕ). cond (g (suc v)) (suc n) n) (number_same f g v (λ w p l. h w p (omega arith)))

pub number_few : (f : ℕ → Bool) (v : ℕ) → number f v ≤ v
number_few f zero = omega arith
number_few f (suc v) = by (f (suc v)) (number_few f v)
  where
    by : (b : Bool) → number f v ≤ v → cond b (suc (number f v)) (number f v) ≤ suc v
    by true h = omega arith
    by false h = omega arith

pub number_some : (f : ℕ → Bool) (v : ℕ) → f 1 ≡ true → 0 < v → 0 < number f v
number_some f zero one p = absurd (omega arith)
number_some f (suc zero) one p = subst (λ (b : Bool). 0 < cond b (suc (number f zero)) (number f zero)) (sym one) (omega arith)
number_some f (suc (suc v)) one p = by (f (suc (suc v))) (number_some f (suc v) one (omega arith))
  where
    by : (b : Bool) → 0 < number f (suc v) → 0 < cond b (suc (number f (suc v))) (number f (suc v))
    by true h = omega arith
    by false h = h

pub numbers_same : (numbers : List ℕ) (marks : List Bool) (test : ℕ → Bool) → length numbers ≡ length marks → HasNumbers numbers (λ v. slice_index_or marks v false) → HasMarks marks test → HasNumbers numbers test
numbers_same numbers marks test size h m = record { each = λ v l. h.each v l ∙ number_same (λ w. slice_index_or marks w false) test v (λ w p q. m.each w (omega arith)) }

-- one number more
pub numbers_more : (numbers : List ℕ) (test : ℕ → Bool) (count : ℕ) → HasNumbers numbers test → number test (length numbers) ≡ count → HasNumbers (numbers ++ count ∷ []) test
numbers_more numbers test count h e = record {
  each = λ v l. (elim (cases_lt v (length numbers)) as (λ _. slice_index (numbers ++ count ∷ []) v ≡ number test v) [
    | inl m ↦ get_or-append numbers (count ∷ []) 0 v m ∙ h.each v m
    | inr m ↦
        let z = length-append numbers (count ∷ []) in
        let same : length numbers ≡ v = omega arith in
        ap (slice_index (numbers ++ count ∷ [])) (sym same) ∙ get_or-append_seam numbers count [] 0 ∙ sym e ∙ ap (number test) same
  ]);
}

pub number_step : (f : ℕ → Bool) (v : ℕ) → 0 < v → number f v ≡ cond (f v) (suc (number f (v - 1))) (number f (v - 1))
number_step f zero p = absurd (omega arith)
number_step f (suc v) p = ap (λ (w : ℕ). cond (f (suc v)) (suc (number f w)) (number f w)) (let e : v ≡ suc v - 1 = omega arith in e)

-- what gates read is within
others_below : (n : ℕ) (ls : List LitOf) → OthersWithin n ls → All (λ l. l.var < n + 1) ls
others_below n ls w = all_in (λ (l : LitOf). l.var < n + 1) ls (λ l c. (let (a, b) = others_in n ls l w c in omega arith))

pub kept_inside : (g : GatesOf) → AreKept g → All (λ (e : Gate × LitOf). All (λ l. l.var < g.formula.vars + 1) (operands e.0) × (e.1.var < g.formula.vars + 1)) g.kept
kept_inside g k = all_in (λ (e : Gate × LitOf). All (λ l. l.var < g.formula.vars + 1) (operands e.0) × (e.1.var < g.formula.vars + 1)) g.kept
    (λ e c. (let is = k.all e.0 e.1 c in let (a, b) = is.within in (others_below g.formula.vars (operands e.0) is.operands, omega arith)))

pub kept_within : (g : GatesOf) → AreKept g → All (λ (e : Gate × LitOf). OthersWithin g.formula.vars (operands e.0) × LitWithin g.formula.vars e.1) g.kept
kept_within g k = all_in (λ (e : Gate × LitOf). OthersWithin g.formula.vars (operands e.0) × LitWithin g.formula.vars e.1) g.kept (λ e c. (let is = k.all e.0 e.1 c in (is.operands, is.within)))

pub are_numbers : (numbers : List ℕ) (test : ℕ → Bool) → test 1 ≡ true → length numbers ≤ MAX_VARS + 1 → HasNumbers numbers test → AreNumbers numbers
are_numbers numbers test one few h v p l =
    let e = h.each v l in
    let a = number_some test v one p in
    let b = number_few test v in
    (subst (λ (n : ℕ). 0 < n) (sym e) a, subst (λ (n : ℕ). n ≤ MAX_VARS) (sym e) (omega arith))

pub truth_kept : (kept : List (Gate × LitOf)) (goals : List LitOf) → spread kept (begins goals) 1 ≡ true
truth_kept kept goals = spread_has kept (begins goals) 1 refl

-- marks and numbers, as they are lent
pub lent : (kept es : List (Gate × LitOf)) (goals ls : List LitOf) (marks ms lent_marks : List Bool) (numbers ns : List ℕ) → es ≡ kept → ls ≡ goals → ms ≡ marks → lent_marks ≡ marks → ns ≡ numbers →
    HasMarks marks (spread es (begins ls)) → length numbers ≡ length ms → HasNumbers numbers (λ v. slice_index_or ms v false) →
    HasMarks lent_marks (spread kept (begins goals)) × HasNumbers ns (spread kept (begins goals))
lent kept es goals ls marks ms lent_marks numbers ns a b d e f has size counts =
    let m : HasMarks marks (spread kept (begins goals)) = subst (λ (ks : List (Gate × LitOf)). HasMarks marks (spread ks (begins goals))) a (subst (λ (ks : List LitOf). HasMarks marks (spread es (begins ks))) b has) in (
      subst (λ (k : List Bool). HasMarks k (spread kept (begins goals))) (sym e) m,
      subst (λ (k : List ℕ). HasNumbers k (spread kept (begins goals))) (sym f)
          (numbers_same numbers ms (spread kept (begins goals)) size counts (subst (λ (k : List Bool). HasMarks k (spread kept (begins goals))) (sym d) m)),
    )
