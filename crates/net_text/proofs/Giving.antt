-- The clauses of a formula, one by one.
use Rattle.std.proofs.Common.{◌≡◌, ℕ, zero, suc, ◌+◌, ◌<◌, ◌≤◌, Bool, true, false, cond, List, [], ◌∷◌, ◌++◌, Some, refl, sym, ap, ◌∙◌, subst, arith, length, drop, get_or, append_assoc}
use Rattle.std.specs.Prelude.{All, slice_get}
use Rattle.std.specs.List.{AllByRecursion, flat_map}
use Rattle.std.proofs.lemmas.List.{drop-drop}
use Rattle.std.proofs.lemmas.List.Elements.{All-append, All-cons, All-from_recursion, recursion_from_All}
use Rattle.std.proofs.lemmas.Option.{slice_get-get_or, slice_get_read}
use Rattle.std.proofs.Math.ListN.{drop_of_length-le}
use Rattle.clause_source.specs.declared.Place.{Place}
use Rattle.cnf_form.specs.Cnf.{ClauseWithin, LitOf, LitWithin, Within}
use Rattle.gate_graph.specs.declared.gate.Gate.{Gate}
use Rattle.gate_graph.specs.Folding.{clauses_of, operands}
use Rattle.gate_graph.specs.Kept.{OthersWithin, clauses_from, lit_of}
use Rattle.net_unroll.specs.Clauses.{IsEncoding}
use Rattle.net_unroll.specs.Encoding.{EncodedOf, formula_of}
use Rattle.net_unroll.proofs.Enclosing.{clauses_within}
use Rattle.net_text.specs.Clauses.{IsAt, IsPlaceOf, clauses_left, gates_left}
use Rattle.net_text.proofs.Writing.{drop_here}

-- each clause is one of the encoding's variables
module _ (e : EncodedOf) (is : IsEncoding e) where
  gates_within : (es : List (Gate × LitOf)) → AllByRecursion (λ (g : Gate × LitOf). OthersWithin e.vars (operands g.0) × LitWithin e.vars g.1) es
      → All (ClauseWithin e.vars) (flat_map (λ (g : Gate × LitOf). clauses_of g.1 g.0) es)
  gates_within [] all = All-from_recursion (ClauseWithin e.vars) [] tt
  gates_within (g ∷ es) (w, all) =
      All-append (ClauseWithin e.vars) (clauses_of g.1 g.0) (flat_map (λ (g : Gate × LitOf). clauses_of g.1 g.0) es) (clauses_within e.vars g.1 g.0 w.1 w.0) (gates_within es all)

  truth_within : ClauseWithin e.vars (lit_of 1 true ∷ [])
  truth_within = All-from_recursion (LitWithin e.vars) (lit_of 1 true ∷ []) ((omega arith, is.some), tt)

  pub formula_within : Within e.vars (formula_of e).clauses
  formula_within = by e.asks
    where
      none : Within e.vars []
      none = All-from_recursion (ClauseWithin e.vars) [] tt

      by : (b : Bool) → Within e.vars (cond b (clauses_from e.gates ++ e.goals ∷ []) ([] ∷ []))
      by true =
          All-append (ClauseWithin e.vars) (clauses_from e.gates) (e.goals ∷ [])
          (All-cons (ClauseWithin e.vars) (lit_of 1 true ∷ []) (flat_map (λ (g : Gate × LitOf). clauses_of g.1 g.0) e.gates) truth_within (gates_within e.gates
          (recursion_from_All (λ (g : Gate × LitOf). OthersWithin e.vars (operands g.0) × LitWithin e.vars g.1) e.gates is.gates)))
          (All-cons (ClauseWithin e.vars) e.goals [] is.goals none)
      by false = All-cons (ClauseWithin e.vars) [] [] (All-from_recursion (LitWithin e.vars) [] tt) none

-- an entry that was read
pub entry_read : (entries gates : List (Gate × LitOf)) (g : ℕ) (x : Gate × LitOf) → entries ≡ gates → g < length entries → x ≡ get_or entries g x → slice_get gates g ≡ Some x
entry_read entries gates g x same lt is = subst (λ (es : List (Gate × LitOf)). slice_get es g ≡ Some x) same (slice_get_read entries (length entries) g x refl lt is)

-- a clause of a gate, and what is left after it
gate_left : (gates : List (Gate × LitOf)) (goals : List LitOf) (g k : ℕ) (x : Gate × LitOf) (c : List LitOf) → slice_get gates g ≡ Some x → slice_get (clauses_of x.1 x.0) k ≡ Some c
    → gates_left (drop g gates) goals k ≡ c ∷ (drop (k + 1) (clauses_of x.1 x.0) ++ gates_left (drop (g + 1) gates) goals 0)
gate_left gates goals g k x c e f =
    ap (λ (es : List (Gate × LitOf)). gates_left es goals k) (drop_here gates g x e)
    ∙ ap (λ (cs : List (List LitOf)). cs ++ gates_left (drop (g + 1) gates) goals 0) (drop_here (clauses_of x.1 x.0) k c f)

-- the goals, and what is left after them
goals_left : (gates : List (Gate × LitOf)) (goals : List LitOf) (g k : ℕ) → length gates ≤ g → gates_left (drop g gates) goals k ≡ drop k (goals ∷ [])
goals_left gates goals g k l = ap (λ (es : List (Gate × LitOf)). gates_left es goals k) (drop_of_length-le gates l)

goal_last : (goals : List LitOf) (k : ℕ) → drop 1 (drop k (goals ∷ [])) ≡ []
goal_last goals zero = refl
goal_last goals (suc zero) = refl
goal_last goals (suc (suc k)) = refl

gates_whole : (gates : List (Gate × LitOf)) (goals : List LitOf) → gates_left gates goals 0 ≡ flat_map (λ (g : Gate × LitOf). clauses_of g.1 g.0) gates ++ goals ∷ []
gates_whole [] goals = refl
gates_whole (x ∷ es) goals =
    ap (λ (cs : List (List LitOf)). clauses_of x.1 x.0 ++ cs) (gates_whole es goals)
    ∙ sym (append_assoc (clauses_of x.1 x.0) (flat_map (λ (g : Gate × LitOf). clauses_of g.1 g.0) es) (goals ∷ []))

-- the first part
module _ (e : EncodedOf) where
  pub zero_asks : (p k : ℕ) → p ≡ 0 → e.asks ≡ true → clauses_left e 1 0 ≡ drop 1 (clauses_left e p k)
  zero_asks p k h asks =
      subst (λ (q : ℕ). clauses_left e 1 0 ≡ drop 1 (clauses_left e q k)) (sym h)
      (gates_whole e.gates e.goals ∙ ap (λ (b : Bool). drop 1 (cond b (clauses_from e.gates ++ e.goals ∷ []) ([] ∷ []))) (sym asks))

  -- the end
  end_left : (r : ℕ) → r ≡ length e.gates + 1 → clauses_left e r 1 ≡ []
  end_left r h =
      let q : r ≡ suc (length e.gates) = omega arith in
      subst (λ (q : ℕ). clauses_left e q 1 ≡ []) (sym q) (goals_left e.gates e.goals (length e.gates) 1 (omega arith))

  -- the part of a gate, or of the goals
  module _ (p g k : ℕ) (h : p ≡ suc g) where
    pub gate_place : IsPlaceOf e p k → (x : Gate × LitOf) → slice_get e.gates g ≡ Some x → k < length (clauses_of x.1 x.0)
    gate_place is = subst (λ (q : ℕ). IsPlaceOf e q k) h is

    pub gate_clause : (x : Gate × LitOf) (c : List LitOf) → slice_get e.gates g ≡ Some x → slice_get (clauses_of x.1 x.0) k ≡ Some c → slice_get (clauses_left e p k) 0 ≡ Some c
    gate_clause x c at is =
        subst (λ (q : ℕ). slice_get (clauses_left e q k) 0 ≡ Some c) (sym h)
        (ap (λ (cs : List (List LitOf)). slice_get cs 0) (gate_left e.gates e.goals g k x c at is))

    pub goals_end : (r : ℕ) → length e.gates ≤ g → r ≡ length e.gates + 1 → clauses_left e r 1 ≡ drop 1 (clauses_left e p k)
    goals_end r over end =
        end_left r end
        ∙ subst (λ (q : ℕ). [] ≡ drop 1 (clauses_left e q k)) (sym h) (sym (ap (λ (cs : List (List LitOf)). drop 1 cs) (goals_left e.gates e.goals g k over) ∙ goal_last e.goals k))

    module _ (x : Gate × LitOf) (at : slice_get e.gates g ≡ Some x) (is : IsPlaceOf e p k) where
      within : k < length (clauses_of x.1 x.0)
      within = gate_place is x at

      after_left : drop 1 (clauses_left e p k) ≡ drop (k + 1) (clauses_of x.1 x.0) ++ gates_left (drop (g + 1) e.gates) e.goals 0
      after_left =
          subst (λ (q : ℕ). drop 1 (clauses_left e q k) ≡ drop (k + 1) (clauses_of x.1 x.0) ++ gates_left (drop (g + 1) e.gates) e.goals 0) (sym h)
          (ap (λ (cs : List (List LitOf)). drop 1 cs) (gate_left e.gates e.goals g k x (get_or (clauses_of x.1 x.0) k []) at (slice_get-get_or (clauses_of x.1 x.0) k [] within)))

      -- the next clause of the same gate
      pub more_left : clauses_left e p (k + 1) ≡ drop 1 (clauses_left e p k)
      more_left =
          subst (λ (q : ℕ). clauses_left e q (k + 1) ≡ drop (k + 1) (clauses_of x.1 x.0) ++ gates_left (drop (g + 1) e.gates) e.goals 0) (sym h)
          (ap (λ (es : List (Gate × LitOf)). gates_left es e.goals (k + 1)) (drop_here e.gates g x at))
          ∙ sym after_left

      pub more_place : k + 1 < length (clauses_of x.1 x.0) → IsPlaceOf e p (k + 1)
      more_place l =
          subst (λ (q : ℕ). IsPlaceOf e q (k + 1)) (sym h)
          (λ y here. let same : Some x ≡ Some y = sym at ∙ here in let xy : x ≡ y = cc in subst (λ (z : Gate × LitOf). k + 1 < length (clauses_of z.1 z.0)) xy l)

      -- the next gate
      pub next_left : length (clauses_of x.1 x.0) ≤ k + 1 → clauses_left e (p + 1) 0 ≡ drop 1 (clauses_left e p k)
      next_left over =
          let q : p + 1 ≡ suc (g + 1) = omega arith in
          subst (λ (q : ℕ). clauses_left e q 0 ≡ gates_left (drop (g + 1) e.gates) e.goals 0) (sym q) refl
          ∙ ap (λ (cs : List (List LitOf)). cs ++ gates_left (drop (g + 1) e.gates) e.goals 0) (sym (drop_of_length-le (clauses_of x.1 x.0) over))
          ∙ sym after_left

-- the place of the next clause
pub next_at : (e : EncodedOf) (p q : Place) (k : ℕ) → IsPlaceOf e q.part q.within → clauses_left e q.part q.within ≡ drop 1 (clauses_left e p.part p.within) → IsAt e p k → IsAt e q (k + 1)
next_at e p q k place left at = record {
  place = place;
  left = sym (drop-drop 1 k (formula_of e).clauses) ∙ ap (λ (cs : List (List LitOf)). drop 1 cs) at.left ∙ sym left;
}
