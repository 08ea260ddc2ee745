-- What is asked can be solved exactly where its encoding can be satisfied.
use Rattle.std.proofs.Common.{◌≡◌, ◌⊎◌, ℕ, zero, suc, ◌-◌, ◌<◌, ◌≤◌, max, Bool, true, false, cond, List, [], ◌∷◌, Option, Some, None, refl, sym, ap, ◌∙◌, subst, inl, inr, arith, map, ltb}
use Rattle.std.specs.Prelude.{All, Contains}
use Rattle.std.specs.List.{flat_map}
use Rattle.std.proofs.lemmas.Bool.{cases_lt}
use Rattle.std.proofs.lemmas.List.{get_or-replicate, length-replicate}
use Rattle.std.proofs.lemmas.List.Elements.{All-append, All-cons, All-nil, All-replicate}
use Rattle.cnf_form.specs.Cnf.{Assignment, LitOf, LitWithin, Satisfies, lit_in}
use Rattle.cnf_form.specs.declared.literal.TheConstants.{MAX_VARS}
use Rattle.gate_graph.specs.Folding.{constant, operands}
use Rattle.gate_graph.specs.Kept.{OthersWithin, clauses_from}
use Rattle.gate_graph.proofs.Keeping.{IsKept-start}
use Rattle.bit_net.specs.Net.{IsNet, NetOf, node_at, vars}
use Rattle.bit_net.specs.Reaching.{numbers}
use Rattle.bit_net.specs.declared.node.Node.{Node}
use Rattle.bit_net.specs.declared.node.Node.TheVariants as node
use Rattle.bit_net.proofs.Lists.{head_in, tail_in}
use Rattle.net_unroll.specs.Encoding.{made_for}
use Rattle.net_unroll.specs.Making.{MadeOf, nothing_made}
use Rattle.net_unroll.specs.Program.{Step, cycle, first_steps, later_steps, moves, needed, program, state_step, values, watch}
use Rattle.net_unroll.specs.Program.Step.{Input, Copy, Move, Assume, Pass, End}
use Rattle.net_unroll.specs.declared.asking.Cycles.{Cycles}
use Rattle.net_unroll.specs.declared.encoded.Free.{Free}
use Rattle.net_unroll.proofs.Means.{IsPlaced, IsWell, Reads, SaidOf, run_reads, run_well}
use Rattle.net_unroll.proofs.Opening.{AreApart, free_pairs, opens_of, pair, program_apart}
use Rattle.net_unroll.proofs.Ordered.{needed_within}
use Rattle.net_unroll.proofs.Saying.{ends, goals_told, nothing_said, program_said}
use Rattle.net_unroll.proofs.Stepping.{all_in, moves_within, node_operands}

-- the beginning
pub begun_well : (n : NetOf) → IsWell (suc (vars n)) (nothing_made n)
begun_well n = record {
  kept = IsKept-start MAX_VARS (omega arith) (omega arith);
  order = tt;
  opens = tt;
  size = length-replicate (suc (vars n)) (constant true);
  table = All-replicate (LitWithin 1) (suc (vars n)) (constant true) (omega arith, omega arith);
  assumed = (omega arith, omega arith);
  ok = (omega arith, omega arith);
  goals = All-nil (LitWithin 1);
}

pub begun_reads : (n : NetOf) (y : Assignment) → y 1 ≡ true → Reads y (nothing_made n) nothing_said
begun_reads n y one = record {
  table = λ v l. ap (lit_in y) (get_or-replicate (suc (vars n)) v (constant true) (constant true) (let e = length-replicate (suc (vars n)) (constant true) in omega arith)) ∙ one;
  assumed = one;
  ok = one;
  goals = refl;
}

less : (a b : ℕ) (ls : List LitOf) → a ≡ b → OthersWithin a ls → OthersWithin b ls
less a b ls e w = subst (λ (k : ℕ). OthersWithin k ls) e w

-- each step has its place
module _ (n : NetOf) (net : IsNet n) (goal : LitOf) (within : LitWithin (vars n) goal) (c : Cycles) where
  first_placed : (v : ℕ) → 1 < v → v ≤ vars n → All (IsPlaced (suc (vars n))) (first_steps c.start v (node_at n v))
  first_placed v lo hi = by (node_at n v) refl
    where
      start : (b : Bool) (d : Option Bool) → IsPlaced (suc (vars n)) (state_step b v d)
      start true (Some x) = omega arith
      start true None = omega arith
      start false d = omega arith

      by : (m : Node) → node_at n v ≡ m → All (IsPlaced (suc (vars n))) (first_steps c.start v m)
      by (node.State s) e = All-cons (IsPlaced (suc (vars n))) (state_step c.start v s.start) [] (start c.start s.start) (All-nil (IsPlaced (suc (vars n))))
      by node.Input e = All-cons (IsPlaced (suc (vars n))) (Input 0 v) [] (let z : v < suc (vars n) = omega arith in z) (All-nil (IsPlaced (suc (vars n))))
      by (node.Gate g) e = All-cons (IsPlaced (suc (vars n))) (Copy v g) [] ((omega arith), less (vars n) (suc (vars n) - 1) (operands g) (omega arith) (node_operands n v g net hi e)) (All-nil (IsPlaced (suc (vars n))))

  later_placed : (t v : ℕ) → 1 < v → v ≤ vars n → All (IsPlaced (suc (vars n))) (later_steps t v (node_at n v))
  later_placed t v lo hi = by (node_at n v) refl
    where
      by : (m : Node) → node_at n v ≡ m → All (IsPlaced (suc (vars n))) (later_steps t v m)
      by (node.State s) e = All-nil (IsPlaced (suc (vars n)))
      by node.Input e = All-cons (IsPlaced (suc (vars n))) (Input t v) [] (let z : v < suc (vars n) = omega arith in z) (All-nil (IsPlaced (suc (vars n))))
      by (node.Gate g) e = All-cons (IsPlaced (suc (vars n))) (Copy v g) [] ((omega arith), less (vars n) (suc (vars n) - 1) (operands g) (omega arith) (node_operands n v g net hi e)) (All-nil (IsPlaced (suc (vars n))))

  flat_placed : (f : ℕ → List Step) (vs : List ℕ) → ((v : ℕ) → Contains vs v → All (IsPlaced (suc (vars n))) (f v)) → All (IsPlaced (suc (vars n))) (flat_map f vs)
  flat_placed f [] h = All-nil (IsPlaced (suc (vars n)))
  flat_placed f (v ∷ vs) h = All-append (IsPlaced (suc (vars n))) (f v) (flat_map f vs) (h v (head_in v vs)) (flat_placed f vs (λ u d. h u (tail_in v u vs d)))

  values_placed : (t : ℕ) → All (IsPlaced (suc (vars n))) (values n c t (needed n goal c t))
  values_placed zero = flat_placed (λ v. first_steps c.start v (node_at n v)) (needed n goal c 0) (λ v d. (let (lo, hi) = needed_within n goal c 0 v d in first_placed v lo hi))
  values_placed (suc t) =
      All-cons (IsPlaced (suc (vars n))) (Move (moves n (needed n goal c (suc t)))) (flat_map (λ v. later_steps (suc t) v (node_at n v)) (needed n goal c (suc t)))
      (λ i d l. (let (a, b) = moves_within n (needed n goal c (suc t)) net (all_in (λ v. (1 < v) × (v ≤ vars n)) (needed n goal c (suc t)) (λ v h. needed_within n goal c (suc t) v h)) i d l in (omega arith, omega arith)))
      (flat_placed (λ v. later_steps (suc t) v (node_at n v)) (needed n goal c (suc t)) (λ v d. (let (lo, hi) = needed_within n goal c (suc t) v d in later_placed (suc t) v lo hi)))

  watch_placed : (a b : Bool) → All (IsPlaced (suc (vars n))) (Assume n.assumed ∷ cond a [] (cond b (Pass goal ∷ []) (End goal ∷ Pass goal ∷ [])))
  watch_placed a b = All-cons (IsPlaced (suc (vars n))) (Assume n.assumed) (cond a [] (cond b (Pass goal ∷ []) (End goal ∷ Pass goal ∷ []))) (let (lo, hi) = net.assumed in (let z : n.assumed.var < suc (vars n) = omega arith in z)) (by a b)
    where
      here : goal.var < suc (vars n)
      here = let (lo, hi) = within in omega arith

      by : (a b : Bool) → All (IsPlaced (suc (vars n))) (cond a [] (cond b (Pass goal ∷ []) (End goal ∷ Pass goal ∷ [])))
      by true b = All-nil (IsPlaced (suc (vars n)))
      by false true = All-cons (IsPlaced (suc (vars n))) (Pass goal) [] here (All-nil (IsPlaced (suc (vars n))))
      by false false = All-cons (IsPlaced (suc (vars n))) (End goal) (Pass goal ∷ []) here (All-cons (IsPlaced (suc (vars n))) (Pass goal) [] here (All-nil (IsPlaced (suc (vars n)))))

  pub program_placed : All (IsPlaced (suc (vars n))) (program n goal c)
  program_placed = flat_placed (cycle n goal c) (numbers 0 c.count) (λ t d.
      All-append (IsPlaced (suc (vars n))) (values n c t (needed n goal c t)) (Assume n.assumed ∷ watch goal c t) (values_placed t) (watch_placed (ltb t c.first) (ltb t c.end)))

  module _ (few : (made_for n goal c).core.vars ≤ MAX_VARS) where
    abbrev m : MadeOf
    m = made_for n goal c

    pub well : IsWell (suc (vars n)) (made_for n goal c)
    well = (run_well (suc (vars n)) (nothing_made n) (program n goal c) (begun_well n) program_placed few).well

    pub pairs : map pair (made_for n goal c).free ≡ opens_of (program n goal c)
    pairs = free_pairs (nothing_made n) (program n goal c)

    pub apart : AreApart (map pair (made_for n goal c).free)
    apart = subst AreApart (sym pairs) (program_apart n net goal c)

    -- what is said, where inputs have the bits of an assignment
    pub goals_are : (i : ℕ → ℕ → Bool) (y : Assignment) → Satisfies y (clauses_from (made_for n goal c).core.kept) → ((f : Free) → Contains (made_for n goal c).free f → y f.var ≡ i f.cycle f.place) →
        map (lit_in y) (made_for n goal c).goals ≡ map (ends n net goal c i) (numbers (max c.first c.end) (c.count - max c.first c.end))
    goals_are i y s fits =
        let r = run_reads (suc (vars n)) (nothing_made n) (program n goal c) i y nothing_said (begun_well n) program_placed few s fits (begun_reads n y (well.kept.truth y s)) in
        r.goals ∙ ap (λ (t : SaidOf). t.goals) (program_said n net goal c i c.count)
        ∙ goals_told n net goal c i (max c.first c.end)
        (λ t l. elim (cases_lt t c.first) as (λ _. (t < c.first) ⊎ (t < c.end)) [ inl a ↦ inl a | inr a ↦ inr (omega arith) ]) (omega arith) (omega arith) c.count
