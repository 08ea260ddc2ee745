-- Which variables an encoding has, and how unit propagation fixes them.
use Rattle.std.proofs.Common.{◌≡◌, ◌⊎◌, ℕ, zero, suc, ◌+◌, ◌-◌, ◌*◌, ◌<◌, ◌≤◌, Bool, true, false, ◌||◌, cond, List, [], ◌∷◌, ◌++◌, Option, Some, None, refl, sym, ap, ◌∙◌, subst, inl, inr, arith, length, map, eqb}
use Rattle.std.specs.Prelude.{Contains}
use Rattle.std.specs.List.{filter, flat_map}
use Rattle.std.proofs.lemmas.Bool.{eqb-true}
use Rattle.std.proofs.lemmas.List.{length-append, length-map}
use Rattle.std.proofs.lemmas.List.Elements.{Contains-append_left}
use Rattle.cnf_form.specs.Cnf.{Assignment, Closure, LitOf, LitWithin, negate, propagated}
use Rattle.cnf_form.specs.declared.literal.TheConstants.{MAX_VARS}
use Rattle.gate_graph.specs.declared.gate.Gate.{Gate}
use Rattle.gate_graph.specs.declared.gate.Gate.TheVariants.{And, Xor, Mux, Maj}
use Rattle.gate_graph.specs.Circuit.{IsFixed}
use Rattle.gate_graph.specs.Folding.{bit, clauses_of, operands}
use Rattle.gate_graph.specs.Kept.{OthersWithin, clauses_from, lit_of}
use Rattle.gate_graph.proofs.Keeping.{lit_from}
use Rattle.gate_graph.proofs.OneTable.{gate_clauses, gate_table, lines, rows_of}
use Rattle.gate_graph.proofs.Tables.{table_fixes}
use Rattle.bit_net.specs.Net.{IsNet, NetOf, vars}
use Rattle.bit_net.specs.Reaching.{is_one_of}
use Rattle.bit_net.proofs.Lists.{IsRisingFrom, cases_in, filter_in, get_in, head_in, in_filter, in_map, map_in, none_in, one_of_in, or_cases, rising_above, tail_in}
use Rattle.bit_net.proofs.Needing.{in_flat_map}
use Rattle.bit_net.proofs.Spreading.{spread_least}
use Rattle.net_unroll.specs.Asking.{goal_of}
use Rattle.net_unroll.specs.Encoding.{encoding, encoding_for, finished, formula_of, is_kept, made, made_for, number, renumbered, renumbered_entry, renumbered_free, renumbered_gate, vars_for}
use Rattle.net_unroll.specs.Making.{MadeOf}
use Rattle.net_unroll.specs.Program.{needed}
use Rattle.net_unroll.specs.Promises.{AreDistinct, HasOrigins, IsBelow, IsFixedByUnit, Propagates, Tight, told_by}
use Rattle.net_unroll.specs.declared.asking.Asked.{Asked}
use Rattle.net_unroll.specs.declared.asking.Cycles.{Cycles}
use Rattle.net_unroll.specs.declared.encoded.Free.{Free}
use Rattle.net_unroll.proofs.Deciding.{free_apart, free_open, goal_within, kept_free}
use Rattle.net_unroll.proofs.Finished.{closed, goal_kept, number_less, number_of, number_up, numbers_within, reads_below, truth_kept}
use Rattle.net_unroll.proofs.Means.{IsWell, gate_vars, open_vars}
use Rattle.net_unroll.proofs.Numbering.{number_few, number_some}
use Rattle.net_unroll.proofs.Opening.{AreApart, pair, program_opened, told_is}
use Rattle.net_unroll.proofs.Solving.{pairs, well}

-- each stands once, by places
pub apart_places : {A : Type 0} (xs : List A) → AreApart xs → AreDistinct xs
apart_places [] a i j x p q = absurd (let z : None ≡ Some x = p in cc)
apart_places (y ∷ xs) a zero zero x p q = refl
apart_places (y ∷ xs) a zero (suc j) x p q = absurd (let z : Some y ≡ Some x = p in let w : y ≡ x = cc in a.0 (subst (Contains xs) (sym w) (get_in xs j x q)))
apart_places (y ∷ xs) a (suc i) zero x p q = absurd (let z : Some y ≡ Some x = q in let w : y ≡ x = cc in a.0 (subst (Contains xs) (sym w) (get_in xs i x p)))
apart_places (y ∷ xs) a (suc i) (suc j) x p q = ap suc (apart_places xs a.1 i j x p q)

-- new numbers go up
new_apart : (k : ℕ → Bool) (fs : List Free) (low : ℕ) → IsRisingFrom low (open_vars fs) → AreApart (map (λ (f : Free). f.var) (map (renumbered_free k) (filter (λ f. k f.var) fs)))
new_apart k [] low r = tt
new_apart k (f ∷ fs) low r = by (k f.var) (new_apart k fs (suc f.var) r.1)
  where
    by : (b : Bool) → AreApart (map (λ (g : Free). g.var) (map (renumbered_free k) (filter (λ g. k g.var) fs))) → AreApart (map (λ (g : Free). g.var) (map (renumbered_free k) (cond b (f ∷ filter (λ g. k g.var) fs) (filter (λ g. k g.var) fs))))
    by false rest = rest
    by true rest = (
      (λ c.
          let (g, d, e) = map_in (λ (h : Free). h.var) (map (renumbered_free k) (filter (λ h. k h.var) fs)) (number k f.var) c in
          let (h, i, z) = map_in (renumbered_free k) (filter (λ h. k h.var) fs) g d in
          let (j, t) = filter_in (λ (h : Free). k h.var) fs h i in
          let above = rising_above (suc f.var) (open_vars fs) h.var r.1 (in_map (λ (q : Free). q.var) fs h j) in
          let less = number_less k f.var h.var (omega arith) t in
          let same : number k h.var ≡ number k f.var = ap (λ (q : Free). q.var) z ∙ e in
          omega arith),
      rest,
    )

-- at most as many as there are numbers
rising_few : (low n : ℕ) (xs : List ℕ) → IsRisingFrom low xs → low ≤ n + 1 → ((v : ℕ) → Contains xs v → v ≤ n) → length xs + low ≤ n + 1
rising_few low n [] r l h = omega arith
rising_few low n (x ∷ xs) r l h = let a = h x (head_in x xs) in let b = r.0 in let c = rising_few (suc x) n xs r.1 (omega arith) (λ v d. h v (tail_in x v xs d)) in omega arith

pub filter_rising : (k : ℕ → Bool) (es : List (Gate × LitOf)) (low : ℕ) → IsRisingFrom low (gate_vars es) → 0 < low → IsRisingFrom (suc (number k (low - 1))) (gate_vars (map (renumbered_entry k) (filter (λ e. k e.1.var) es)))
filter_rising k [] low r lo = tt
filter_rising k (e ∷ es) low r lo = by (k e.1.var) refl (filter_rising k es (suc e.1.var) r.1 (omega arith))
  where
    down : number k (low - 1) ≤ number k (e.1.var - 1)
    down = number_up k (low - 1) (e.1.var - 1) (let a = r.0 in omega arith)

    low_down : (a b : ℕ) (xs : List ℕ) → a ≤ b → IsRisingFrom b xs → IsRisingFrom a xs
    low_down a b [] h s = tt
    low_down a b (x ∷ xs) h s = ((let z = s.0 in omega arith), s.1)

    by : (b : Bool) → k e.1.var ≡ b → IsRisingFrom (suc (number k (suc e.1.var - 1))) (gate_vars (map (renumbered_entry k) (filter (λ d. k d.1.var) es))) →
        IsRisingFrom (suc (number k (low - 1))) (gate_vars (map (renumbered_entry k) (cond b (e ∷ filter (λ d. k d.1.var) es) (filter (λ d. k d.1.var) es))))
    by true t rest =
        let z : suc e.1.var - 1 ≡ e.1.var = omega arith in
        let a = r.0 in
        let less = number_less k (low - 1) e.1.var (omega arith) t in
        ((omega arith), subst (λ (w : ℕ). IsRisingFrom (suc (number k w)) (gate_vars (map (renumbered_entry k) (filter (λ d. k d.1.var) es)))) z rest)
    by false t rest =
        let z : suc e.1.var - 1 ≡ e.1.var = omega arith in
        let a = r.0 in
        let up = number_up k (low - 1) e.1.var (omega arith) in
        low_down (suc (number k (low - 1))) (suc (number k e.1.var)) (gate_vars (map (renumbered_entry k) (filter (λ d. k d.1.var) es))) (omega arith)
        (subst (λ (w : ℕ). IsRisingFrom (suc (number k w)) (gate_vars (map (renumbered_entry k) (filter (λ d. k d.1.var) es)))) z rest)

six : (l : LitOf) (g : Gate) → length (clauses_of l g) ≤ 6
six l (And a b) = omega arith
six l (Xor a b) = omega arith
six l (Mux s a b) = omega arith
six l (Maj a b c) = omega arith

all_six : (es : List (Gate × LitOf)) → length (flat_map (λ (e : Gate × LitOf). clauses_of e.1 e.0) es) ≤ 6 * length es
all_six [] = omega arith
all_six (e ∷ es) =
    let a = six e.1 e.0 in
    let b = all_six es in
    let c = length-append (clauses_of e.1 e.0) (flat_map (λ (e : Gate × LitOf). clauses_of e.1 e.0) es) in
    omega arith

-- a gate and what it reads stand in one of its clauses
pub record Reads2 (y : LitOf) (g : Gate) (o : LitOf) : Type 0 where
  pub clause : List LitOf
  pub there : Contains (clauses_of y g) clause
  pub own : (l : LitOf) × Contains clause l × (l.var ≡ y.var)
  pub other : (l : LitOf) × Contains clause l × (l.var ≡ o.var)
  pub only : (l : LitOf) → Contains clause l → (l.var ≡ y.var) ⊎ ((p : LitOf) × Contains (operands g) p × (l.var ≡ p.var))

two_only : (y a : LitOf) (g : Gate) (l : LitOf) → Contains (operands g) a → Contains (negate y ∷ a ∷ []) l → (l.var ≡ y.var) ⊎ ((p : LitOf) × Contains (operands g) p × (l.var ≡ p.var))
two_only y a g l i c = elim (cases_in (negate y) (a ∷ []) l c) as (λ _. (l.var ≡ y.var) ⊎ ((p : LitOf) × Contains (operands g) p × (l.var ≡ p.var))) [
  | inl e ↦ inl (ap (λ (k : LitOf). k.var) (sym e))
  | inr d ↦ elim (cases_in a [] l d) as (λ _. (l.var ≡ y.var) ⊎ ((p : LitOf) × Contains (operands g) p × (l.var ≡ p.var))) [ inl e ↦ inr (a, i, ap (λ (k : LitOf). k.var) (sym e)) | inr f ↦ absurd (none_in l f) ]
]

three_only : (y a b : LitOf) (g : Gate) (l p q : LitOf) → Contains (operands g) p → Contains (operands g) q → a.var ≡ p.var → b.var ≡ q.var → Contains (negate y ∷ a ∷ b ∷ []) l → (l.var ≡ y.var) ⊎ ((r : LitOf) × Contains (operands g) r × (l.var ≡ r.var))
three_only y a b g l p q i j ea eb c = elim (cases_in (negate y) (a ∷ b ∷ []) l c) as (λ _. (l.var ≡ y.var) ⊎ ((r : LitOf) × Contains (operands g) r × (l.var ≡ r.var))) [
  | inl e ↦ inl (ap (λ (k : LitOf). k.var) (sym e))
  | inr d ↦ elim (cases_in a (b ∷ []) l d) as (λ _. (l.var ≡ y.var) ⊎ ((r : LitOf) × Contains (operands g) r × (l.var ≡ r.var))) [
    | inl e ↦ inr (p, i, ap (λ (k : LitOf). k.var) (sym e) ∙ ea)
    | inr f ↦ elim (cases_in b [] l f) as (λ _. (l.var ≡ y.var) ⊎ ((r : LitOf) × Contains (operands g) r × (l.var ≡ r.var))) [ inl e ↦ inr (q, j, ap (λ (k : LitOf). k.var) (sym e) ∙ eb) | inr h ↦ absurd (none_in l h) ]
  ]
]

reads_two : (y : LitOf) (g : Gate) (o : LitOf) → Contains (operands g) o → Reads2 y g o
reads_two y (And a b) o c = elim (cases_in a (b ∷ []) o c) as (λ _. Reads2 y (And a b) o) [
  | inl e ↦ record {
    clause = negate y ∷ a ∷ [];
    there = (0, omega arith, refl);
    own = (negate y, (0, omega arith, refl), refl);
    other = (a, (1, omega arith, refl), ap (λ (k : LitOf). k.var) e);
    only = λ l d. two_only y a (And a b) l (0, omega arith, refl) d;
  }
  | inr d ↦ elim (cases_in b [] o d) as (λ _. Reads2 y (And a b) o) [
    | inl e ↦ record {
      clause = negate y ∷ b ∷ [];
      there = (1, omega arith, refl);
      own = (negate y, (0, omega arith, refl), refl);
      other = (b, (1, omega arith, refl), ap (λ (k : LitOf). k.var) e);
      only = λ l i. two_only y b (And a b) l (1, omega arith, refl) i;
    }
    | inr f ↦ absurd (none_in o f)
  ]
]
reads_two y (Xor a b) o c = record {
  clause = negate y ∷ a ∷ b ∷ [];
  there = (0, omega arith, refl);
  own = (negate y, (0, omega arith, refl), refl);
  other = elim (cases_in a (b ∷ []) o c) as (λ _. (l : LitOf) × Contains (negate y ∷ a ∷ b ∷ []) l × (l.var ≡ o.var)) [
    | inl e ↦ (a, (1, omega arith, refl), ap (λ (k : LitOf). k.var) e)
    | inr d ↦ elim (cases_in b [] o d) as (λ _. (l : LitOf) × Contains (negate y ∷ a ∷ b ∷ []) l × (l.var ≡ o.var)) [ inl e ↦ (b, (2, omega arith, refl), ap (λ (k : LitOf). k.var) e) | inr f ↦ absurd (none_in o f) ]
  ];
  only = λ l i. three_only y a b (Xor a b) l a b (0, omega arith, refl) (1, omega arith, refl) refl refl i;
}
reads_two y (Mux s a b) o c = elim (cases_in s (a ∷ b ∷ []) o c) as (λ _. Reads2 y (Mux s a b) o) [
  | inl e ↦ record {
    clause = negate y ∷ s ∷ a ∷ [];
    there = (0, omega arith, refl);
    own = (negate y, (0, omega arith, refl), refl);
    other = (s, (1, omega arith, refl), ap (λ (k : LitOf). k.var) e);
    only = λ l i. three_only y s a (Mux s a b) l s a (0, omega arith, refl) (1, omega arith, refl) refl refl i;
  }
  | inr d ↦ elim (cases_in a (b ∷ []) o d) as (λ _. Reads2 y (Mux s a b) o) [
    | inl e ↦ record {
      clause = negate y ∷ s ∷ a ∷ [];
      there = (0, omega arith, refl);
      own = (negate y, (0, omega arith, refl), refl);
      other = (a, (2, omega arith, refl), ap (λ (k : LitOf). k.var) e);
      only = λ l i. three_only y s a (Mux s a b) l s a (0, omega arith, refl) (1, omega arith, refl) refl refl i;
    }
    | inr f ↦ elim (cases_in b [] o f) as (λ _. Reads2 y (Mux s a b) o) [
      | inl e ↦ record {
        clause = negate y ∷ negate s ∷ b ∷ [];
        there = (2, omega arith, refl);
        own = (negate y, (0, omega arith, refl), refl);
        other = (b, (2, omega arith, refl), ap (λ (k : LitOf). k.var) e);
        only = λ l i. three_only y (negate s) b (Mux s a b) l s b (0, omega arith, refl) (2, omega arith, refl) refl refl i;
      }
      | inr h ↦ absurd (none_in o h)
    ]
  ]
]
reads_two y (Maj a b c) o i = elim (cases_in a (b ∷ c ∷ []) o i) as (λ _. Reads2 y (Maj a b c) o) [
  | inl e ↦ record {
    clause = negate y ∷ a ∷ b ∷ [];
    there = (0, omega arith, refl);
    own = (negate y, (0, omega arith, refl), refl);
    other = (a, (1, omega arith, refl), ap (λ (k : LitOf). k.var) e);
    only = λ l j. three_only y a b (Maj a b c) l a b (0, omega arith, refl) (1, omega arith, refl) refl refl j;
  }
  | inr d ↦ elim (cases_in b (c ∷ []) o d) as (λ _. Reads2 y (Maj a b c) o) [
    | inl e ↦ record {
      clause = negate y ∷ a ∷ b ∷ [];
      there = (0, omega arith, refl);
      own = (negate y, (0, omega arith, refl), refl);
      other = (b, (2, omega arith, refl), ap (λ (k : LitOf). k.var) e);
      only = λ l j. three_only y a b (Maj a b c) l a b (0, omega arith, refl) (1, omega arith, refl) refl refl j;
    }
    | inr f ↦ elim (cases_in c [] o f) as (λ _. Reads2 y (Maj a b c) o) [
      | inl e ↦ record {
        clause = negate y ∷ a ∷ c ∷ [];
        there = (1, omega arith, refl);
        own = (negate y, (0, omega arith, refl), refl);
        other = (c, (2, omega arith, refl), ap (λ (k : LitOf). k.var) e);
        only = λ l j. three_only y a c (Maj a b c) l a c (0, omega arith, refl) (2, omega arith, refl) refl refl j;
      }
      | inr h ↦ absurd (none_in o h)
    ]
  ]
]

-- what a gate over new numbers reads
pub new_operands : (k : ℕ → Bool) (g : Gate) → operands (renumbered_gate k g) ≡ map (renumbered k) (operands g)
new_operands k (And a b) = refl
new_operands k (Xor a b) = refl
new_operands k (Mux s a b) = refl
new_operands k (Maj a b c) = refl

all_others : (n : ℕ) (ls : List LitOf) → ((l : LitOf) → Contains ls l → LitWithin n l) → OthersWithin n ls
all_others n [] h = tt
all_others n (l ∷ ls) h = (h l (head_in l ls), all_others n ls (λ k c. h k (tail_in l k ls c)))

module _ (long : ℕ) (m : MadeOf) (w : IsWell long m) where
  abbrev keeps : ℕ → Bool
  keeps = is_kept m

  pub one_is : number keeps 1 ≡ 1
  one_is = ap (λ (b : Bool). cond b (suc (number keeps 0)) (number keeps 0)) (truth_kept long m w)

  -- a gate that is kept, over new numbers, reads lower ones
  pub new_below : (e : Gate × LitOf) (o : LitOf) → Contains m.core.kept e → keeps e.1.var ≡ true → Contains (operands e.0) o → (0 < number keeps o.var) × (number keeps o.var < number keeps e.1.var)
  new_below e o c t i = let (a, b) = reads_below long m w e o c i in (number_some keeps o.var (truth_kept long m w) a, number_less keeps o.var e.1.var b t)

  pub kept_lit : (e : Gate × LitOf) → Contains m.core.kept e → renumbered keeps e.1 ≡ lit_of (number keeps e.1.var) true
  kept_lit e c = ap (renumbered keeps) (lit_from e.1 e.1.var refl (w.kept.rising.above e.0 e.1 c).plain)

  pub entry_in : (e : Gate × LitOf) → Contains m.core.kept e → keeps e.1.var ≡ true → Contains (finished m).gates (renumbered_gate keeps e.0, lit_of (number keeps e.1.var) true)
  entry_in e c t =
      subst (λ (l : LitOf). Contains (finished m).gates (renumbered_gate keeps e.0, l)) (kept_lit e c)
      (in_map (renumbered_entry keeps) (filter (λ d. keeps d.1.var) m.core.kept) e (in_filter (λ (d : Gate × LitOf). keeps d.1.var) m.core.kept e c t))

  clause_in : (e : Gate × LitOf) (k : List LitOf) → Contains (finished m).gates e → Contains (clauses_of e.1 e.0) k → Contains (clauses_from (finished m).gates) k
  clause_in e k c i = tail_in (lit_of 1 true ∷ []) k (flat_map (λ (d : Gate × LitOf). clauses_of d.1 d.0) (finished m).gates) (in_flat_map (λ (d : Gate × LitOf). clauses_of d.1 d.0) (finished m).gates e k c i)

  -- propagation
  module _ (F : List (List LitOf)) (part : (k : List LitOf) → Contains (clauses_from (finished m).gates) k → Contains F k) (fixed : (f : Free) → Contains (finished m).free f → IsFixedByUnit F f.var) where
    unit_fixes : (v : ℕ) (b : Bool) → Contains F (record { var = v; negated = b } ∷ []) → IsFixed F v
    unit_fixes v b c = (
      b,
      propagated (record { var = v; negated = b } ∷ []) (record { var = v; negated = b }) c (head_in (let l : LitOf = record { var = v; negated = b } in l) [])
          (λ l i n. elim (cases_in (let k : LitOf = record { var = v; negated = b } in k) [] l i) as (λ _. Closure F (negate l)) [ inl e ↦ absurd (n (sym e)) | inr d ↦ absurd (none_in l d) ]),
    )

    fixes : (b v : ℕ) → v < b → 0 < v → v ≤ (finished m).vars → IsFixed F v
    fixes zero v l lo hi = absurd (omega arith)
    fixes (suc b) v l lo hi =
        let (u, low, high, t, e) = number_of keeps m.core.vars v lo hi in
        by u low t e (w.kept.rising.each u low high) (λ k p q r. fixes b k p q r)
      where
        by : (u : ℕ) → 0 < u → keeps u ≡ true → number keeps u ≡ v → (u ≡ 1) ⊎ Contains (open_vars m.free) u ⊎ ((k : Gate) × Contains m.core.kept (k, lit_of u true)) → ((k : ℕ) → k < b → 0 < k → k ≤ (finished m).vars → IsFixed F k) → IsFixed F v
        by u low t e (inl one) rest =
            let z : 1 ≡ v = sym one_is ∙ ap (number keeps) (sym one) ∙ e in
            subst (IsFixed F) z (unit_fixes 1 false (part (lit_of 1 true ∷ []) (head_in (lit_of 1 true ∷ []) (flat_map (λ (d : Gate × LitOf). clauses_of d.1 d.0) (finished m).gates))))
        by u low t e (inr (inl c)) rest =
            let (f, i, z) = map_in (λ (f : Free). f.var) m.free u c in
            let there = in_map (renumbered_free keeps) (filter (λ h. keeps h.var) m.free) f (in_filter (λ (h : Free). keeps h.var) m.free f i (subst (λ (x : ℕ). keeps x ≡ true) (sym z) t)) in
            let (sign, unit) = fixed (renumbered_free keeps f) there in
            subst (IsFixed F) (ap (number keeps) z ∙ e) (unit_fixes (number keeps f.var) sign unit)
        by u low t e (inr (inr (g, c))) rest =
            let (k, p) = operands_low in
            table_fixes (v - 1) v (bit (renumbered_gate keeps g)) (rows_of (operands (renumbered_gate keeps g)) (lines (renumbered_gate keeps g))) F (gate_table (v - 1) (renumbered_gate keeps g) p)
            (λ d i. part d (clause_in (renumbered_gate keeps g, lit_of v true) d (subst (λ (x : ℕ). Contains (finished m).gates (renumbered_gate keeps g, lit_of x true)) e (entry_in (g, lit_of u true) c t))
            (subst (λ (ds : List (List LitOf)). Contains ds d) (sym (gate_clauses v (renumbered_gate keeps g))) i)))
            (λ x a z. rest x (omega arith) a (omega arith))
          where
            operands_low : (k : Unit {0}) × OthersWithin (v - 1) (operands (renumbered_gate keeps g))
            operands_low = (
              tt,
              all_others (v - 1) (operands (renumbered_gate keeps g)) (λ l i.
                  (let (o, j, z) = map_in (renumbered keeps) (operands g) l (subst (λ (ls : List LitOf). Contains ls l) (new_operands keeps g) i) in
                  let (p, q) = new_below (g, lit_of u true) o c t j in
                  let r : number keeps o.var ≡ l.var = ap (λ (d : LitOf). d.var) z in
                  (omega arith, omega arith))),
            )

    pub fixes_all : (v : ℕ) → 0 < v → v ≤ (finished m).vars → IsFixed F v
    fixes_all v lo hi = fixes (suc v) v (omega arith) lo hi

  -- nothing is idle
  pub least : (test : ℕ → Bool) → ((l : LitOf) → Contains (finished m).goals l → test l.var ≡ true) → ((v x : ℕ) → test v ≡ true → IsBelow (clauses_from (finished m).gates) v x → test x ≡ true) → (v : ℕ) → 1 < v → v ≤ (finished m).vars → test v ≡ true
  least test begun below v lo hi =
      let (u, low, high, t, e) = number_of keeps m.core.vars v (omega arith) hi in
      let (k, h) = spread_least (λ x. (keeps x ≡ true) × ((x ≡ 1) ⊎ (test (number keeps x) ≡ true))) m.core.kept (λ x. eqb x 1 || is_one_of m.goals x) down start u t in
      elim h as (λ _. test v ≡ true) [
        | inl one ↦ absurd (let z : 1 ≡ v = sym one_is ∙ ap (number keeps) (sym one) ∙ e in omega arith)
        | inr r ↦ subst (λ (x : ℕ). test x ≡ true) e r
      ]
    where
      start : (x : ℕ) → (eqb x 1 || is_one_of m.goals x) ≡ true → (keeps x ≡ true) × ((x ≡ 1) ⊎ (test (number keeps x) ≡ true))
      start x q = elim (or_cases (eqb x 1) (is_one_of m.goals x) q) as (λ _. (keeps x ≡ true) × ((x ≡ 1) ⊎ (test (number keeps x) ≡ true))) [
        | inl a ↦ let one = eqb-true x 1 a in (subst (λ (y : ℕ). keeps y ≡ true) (sym one) (truth_kept long m w), inl one)
        | inr a ↦
            let (l, c, z) = one_of_in m.goals x a in (
              subst (λ (y : ℕ). keeps y ≡ true) z (goal_kept long m w l c),
              inr (subst (λ (y : ℕ). test (number keeps y) ≡ true) z (begun (renumbered keeps l) (in_map (renumbered keeps) m.goals l c))),
            )
      ]

      down : (d : Gate × LitOf) (o : LitOf) → Contains m.core.kept d → (keeps d.1.var ≡ true) × ((d.1.var ≡ 1) ⊎ (test (number keeps d.1.var) ≡ true)) → Contains (operands d.0) o → (keeps o.var ≡ true) × ((o.var ≡ 1) ⊎ (test (number keeps o.var) ≡ true))
      down d o c (k, h) i = (
        closed long m w d o c k i,
        elim h as (λ _. (o.var ≡ 1) ⊎ (test (number keeps o.var) ≡ true)) [
          | inl one ↦ absurd (let later = (w.kept.rising.above d.0 d.1 c).later in omega arith)
          | inr r ↦
              let y : LitOf = lit_of (number keeps d.1.var) true in
              let g : Gate = renumbered_gate keeps d.0 in
              let j : Contains (operands (renumbered_gate keeps d.0)) (renumbered keeps o) = subst (λ (ls : List LitOf). Contains ls (renumbered keeps o)) (sym (new_operands keeps d.0)) (in_map (renumbered keeps) (operands d.0) o i) in
              let two = reads_two (lit_of (number keeps d.1.var) true) (renumbered_gate keeps d.0) (renumbered keeps o) j in
              inr (below (number keeps d.1.var) (number keeps o.var) r (
                two.clause,
                clause_in (renumbered_gate keeps d.0, lit_of (number keeps d.1.var) true) two.clause (entry_in d c k) two.there,
                two.own,
                (λ l q. elim (two.only l q) as (λ _. l.var ≤ number keeps d.1.var) [
                  | inl z ↦ omega arith
                  | inr (p, q2, z) ↦
                      let (o2, s, x) = map_in (renumbered keeps) (operands d.0) p (subst (λ (ls : List LitOf). Contains ls p) (new_operands keeps d.0) q2) in
                      let (a, b) = new_below d o2 c k s in
                      let e2 : number keeps o2.var ≡ p.var = ap (λ (f : LitOf). f.var) x in
                      omega arith
                ]),
                two.other,
              ))
        ],
      )

  pub few_clauses : length (clauses_from (finished m).gates ++ (finished m).goals ∷ []) ≤ 6 * (finished m).vars + 2
  few_clauses =
      let a = all_six (finished m).gates in
      let b = length-append (clauses_from (finished m).gates) ((finished m).goals ∷ []) in
      let rises = filter_rising keeps m.core.kept 2 w.order (omega arith) in
      let one = one_is in
      let some = number_up keeps 1 m.core.vars w.kept.some in
      let c = rising_few (suc (number keeps 1)) (finished m).vars (gate_vars (finished m).gates) rises (omega arith) (λ v d.
      (let (e, i, z) = map_in (λ (e : Gate × LitOf). e.1.var) (finished m).gates v d in
      let (f, j, y) = map_in (renumbered_entry keeps) (filter (λ e. keeps e.1.var) m.core.kept) e i in
      let (k, t) = filter_in (λ (e : Gate × LitOf). keeps e.1.var) m.core.kept f j in
      let is = (w.kept.all f.0 f.1 k).within in
      let hi = is.1 in
      let up = number_up keeps f.1.var m.core.vars hi in
      let q : number keeps f.1.var ≡ v = ap (λ (e : Gate × LitOf). e.1.var) y ∙ z in
      omega arith)) in
      let d = length-map (finished m).gates (λ (e : Gate × LitOf). e.1.var) in
      omega arith

  pub tight : Tight (formula_of (finished m))
  tight = record {
    gates = clauses_from (finished m).gates;
    goal = (finished m).goals;
    last = refl;
    least = least;
    few = few_clauses;
  }

  pub propagates : Propagates (finished m)
  propagates = record {
    rule = λ more fixed. inr (λ v lo hi. fixes_all ((formula_of (finished m)).clauses ++ more)
        (λ k c. Contains-append_left (formula_of (finished m)).clauses more k (Contains-append_left (clauses_from (finished m).gates) ((finished m).goals ∷ []) k c)) fixed v lo hi);
  }

-- the laws
pub vars_law : (n : NetOf) (a : Asked) (c : Cycles) → IsNet n → made n a c ≤ MAX_VARS → (1 ≤ (formula_of (encoding n a c)).vars) × ((formula_of (encoding n a c)).vars ≤ made n a c)
vars_law n a c net few = by (goal_of n a) refl few
  where
    by : (o : Option LitOf) → goal_of n a ≡ o → vars_for n c o ≤ MAX_VARS → (1 ≤ (formula_of (encoding_for n c o)).vars) × ((formula_of (encoding_for n c o)).vars ≤ vars_for n c o)
    by None e l = (omega arith, omega arith)
    by (Some goal) e l =
        let w = well n net goal (goal_within n a goal net e) c l in
        (number_some (is_kept (made_for n goal c)) (made_for n goal c).core.vars (truth_kept (suc (vars n)) (made_for n goal c) w) w.kept.some, number_few (is_kept (made_for n goal c)) (made_for n goal c).core.vars)

pub tight_law : (n : NetOf) (a : Asked) (c : Cycles) → IsNet n → made n a c ≤ MAX_VARS → Tight (formula_of (encoding n a c))
tight_law n a c net few = by (goal_of n a) refl few
  where
    by : (o : Option LitOf) → goal_of n a ≡ o → vars_for n c o ≤ MAX_VARS → Tight (formula_of (encoding_for n c o))
    by None e l = record { gates = []; goal = []; last = refl; least = λ test begun below v lo hi. absurd (omega arith); few = omega arith }
    by (Some goal) e l = tight (suc (vars n)) (made_for n goal c) (well n net goal (goal_within n a goal net e) c l)

pub propagates_law : (n : NetOf) (a : Asked) (c : Cycles) → IsNet n → made n a c ≤ MAX_VARS → Propagates (encoding n a c)
propagates_law n a c net few = by (goal_of n a) refl few
  where
    by : (o : Option LitOf) → goal_of n a ≡ o → vars_for n c o ≤ MAX_VARS → Propagates (encoding_for n c o)
    by None e l = record { rule = λ more fixed. inl ([], Contains-append_left ([] ∷ []) more [] (head_in [] []), λ k i. absurd (none_in k i)) }
    by (Some goal) e l = propagates (suc (vars n)) (made_for n goal c) (well n net goal (goal_within n a goal net e) c l)

pub origins_law : (n : NetOf) (a : Asked) (c : Cycles) → IsNet n → made n a c ≤ MAX_VARS → HasOrigins n a c (encoding n a c)
origins_law n a c net few = by (goal_of n a) refl few
  where
    by : (o : Option LitOf) → goal_of n a ≡ o → vars_for n c o ≤ MAX_VARS → HasOrigins n a c (encoding_for n c o)
    by None e l = record {
      within = λ f i. absurd (none_in f i);
      distinct = λ i j x p q. absurd (let z : None ≡ Some x = p in cc);
      apart = λ i j x p q. absurd (let z : None ≡ Some x = p in cc);
      open_bits = λ f i. absurd (none_in f i);
      needed = λ f i goal q. absurd (none_in f i);
    }
    by (Some goal) e l =
        let within = goal_within n a goal net e in
        let w = well n net goal (goal_within n a goal net e) c l in
        record {
          within = λ f i.
              let (g, d, t, z) = kept_free n net goal within c l f i in
              let (lo, hi) = w.kept.gates.inputs_within g.var (in_map (λ (h : Free). h.var) (made_for n goal c).free g d) in
              let p = numbers_within (suc (vars n)) (made_for n goal c) w g.var lo hi in
              subst (λ (v : ℕ). (0 < v) × (v ≤ (encoding_for n c (Some goal)).vars)) (ap (λ (h : Free). h.var) z) p;
          distinct = apart_places (map (λ (f : Free). f.var) (finished (made_for n goal c)).free) (new_apart (is_kept (made_for n goal c)) (made_for n goal c).free 2 w.opens);
          apart = apart_places (map pair (finished (made_for n goal c)).free) (free_apart n net goal within c l);
          open_bits = free_open n net goal within c l;
          needed = λ f i g q.
              let (h, d, t, z) = kept_free n net goal within c l f i in
              let (k, there, o) = program_opened n net goal c (pair h) (subst (λ (ps : List (ℕ × ℕ)). Contains ps (pair h)) (pairs n net goal within c l) (in_map pair (made_for n goal c).free h d)) in
              let r : Some goal ≡ Some g = sym e ∙ q in
              let s : goal ≡ g = cc in
              subst (λ (p : ℕ × ℕ). Contains (needed n g c p.0) p.1) (ap pair z) (subst (λ (b : LitOf). Contains (needed n b c h.cycle) h.place) s there);
        }

-- a free variable tells its own bit
pub told_once : (n : NetOf) (a : Asked) (c : Cycles) → IsNet n → made n a c ≤ MAX_VARS → (x : Assignment) (f : Free) → Contains (encoding n a c).free f → told_by x (encoding n a c).free f.cycle f.place ≡ x f.var
told_once n a c net few x f = by (goal_of n a) refl few
  where
    by : (o : Option LitOf) → goal_of n a ≡ o → vars_for n c o ≤ MAX_VARS → Contains (encoding_for n c o).free f → told_by x (encoding_for n c o).free f.cycle f.place ≡ x f.var
    by None e l i = absurd (none_in f i)
    by (Some goal) e l i = told_is x (finished (made_for n goal c)).free f (free_apart n net goal (goal_within n a goal net e) c l) i
