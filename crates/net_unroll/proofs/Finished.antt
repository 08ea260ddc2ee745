-- The gates on which goals rest, renumbered: what satisfies them, both ways.
use Rattle.std.proofs.Common.{◌≡◌, ◌⊎◌, ℕ, zero, suc, ◌-◌, ◌<◌, ◌≤◌, Bool, true, false, not, ◌&&◌, ◌||◌, cond, List, [], ◌∷◌, refl, sym, ap, ◌∙◌, subst, inl, inr, arith, eqb}
use Rattle.std.specs.Prelude.{Contains}
use Rattle.std.specs.List.{filter, flat_map}
use Rattle.std.proofs.lemmas.Bool.{cases_eq, cases_lt, eq-eqb, eqb-true}
use Rattle.cnf_form.specs.Cnf.{Assignment, LitOf, LitWithin, Satisfies, lit_in}
use Rattle.gate_graph.specs.declared.gate.Gate.{Gate}
use Rattle.gate_graph.specs.declared.gate.Gate.TheVariants.{And, Xor, Mux, Maj}
use Rattle.gate_graph.specs.Folding.{bit, clauses_of, majority, operands, xor}
use Rattle.gate_graph.specs.Kept.{OthersWithin, clauses_from, lit_of}
use Rattle.gate_graph.proofs.Keeping.{lit_from}
use Rattle.gate_graph.proofs.OneTable.{gate_clauses, gate_table, lines, rows_of}
use Rattle.gate_graph.proofs.Tables.{table_holds, table_says}
use Rattle.bit_net.specs.Reaching.{is_one_of, spread}
use Rattle.bit_net.proofs.Lists.{IsRisingFrom, and_both, both_and, cases_in, filter_in, head_in, in_filter, in_map, in_one_of, map_in, rising_above, none_in, one_of_in, or_cases, or_left, or_right, others_in, tail_in}
use Rattle.bit_net.proofs.Needing.{in_flat_map}
use Rattle.bit_net.proofs.Spreading.{spread_has}
use Rattle.net_unroll.specs.Encoding.{finished, is_kept, number, renumbered, renumbered_entry, renumbered_gate}
use Rattle.net_unroll.specs.Making.{MadeOf}
use Rattle.net_unroll.proofs.Means.{IsWell, flat_in, gate_vars, open_vars}
use Rattle.net_unroll.proofs.Numbering.{number_some}

-- numbers go up at what is kept
pub number_up : (f : ℕ → Bool) (u v : ℕ) → u ≤ v → number f u ≤ number f v
number_up f u zero h = let z : u ≡ 0 = omega arith in subst (λ (w : ℕ). number f w ≤ number f 0) (sym z) (omega arith)
number_up f u (suc v) h = elim (cases_eq u (suc v)) as (λ _. number f u ≤ number f (suc v)) [
  | inl e ↦ subst (λ (w : ℕ). number f w ≤ number f (suc v)) (sym e) (omega arith)
  | inr e ↦ by (f (suc v)) (number_up f u v (omega arith))
]
  where
    by : (b : Bool) → number f u ≤ number f v → number f u ≤ cond b (suc (number f v)) (number f v)
    by true h = omega arith
    by false h = h

pub number_less : (f : ℕ → Bool) (u v : ℕ) → u < v → f v ≡ true → number f u < number f v
number_less f u zero h t = absurd (omega arith)
number_less f u (suc v) h t =
    let up = number_up f u v (omega arith) in
    let e : number f (suc v) ≡ suc (number f v) = ap (λ (b : Bool). cond b (suc (number f v)) (number f v)) t in
    omega arith

pub number_apart : (f : ℕ → Bool) (u v : ℕ) → f u ≡ true → f v ≡ true → number f u ≡ number f v → u ≡ v
number_apart f u v p q e = elim (cases_lt u v) as (λ _. u ≡ v) [
  | inl l ↦ absurd (let a = number_less f u v l q in omega arith)
  | inr l ↦ elim (cases_lt v u) as (λ _. u ≡ v) [
    | inl m ↦ absurd (let a = number_less f v u m p in omega arith)
    | inr m ↦ omega arith
  ]
]

-- each number is that of something kept
pub number_of : (f : ℕ → Bool) (v w : ℕ) → 0 < w → w ≤ number f v → (u : ℕ) × (0 < u) × (u ≤ v) × (f u ≡ true) × (number f u ≡ w)
number_of f zero w p h = absurd (omega arith)
number_of f (suc v) w p h = by (f (suc v)) refl h (λ k. number_of f v w p k)
  where
    Found : ℕ → Type 0
    Found top = (u : ℕ) × (0 < u) × (u ≤ top) × (f u ≡ true) × (number f u ≡ w)

    up : (u : ℕ) × (0 < u) × (u ≤ v) × (f u ≡ true) × (number f u ≡ w) → (u : ℕ) × (0 < u) × (u ≤ suc v) × (f u ≡ true) × (number f u ≡ w)
    up (u, lo, hi, t, e) = (u, lo, (omega arith), t, e)

    by : (b : Bool) → f (suc v) ≡ b → w ≤ cond b (suc (number f v)) (number f v) → (w ≤ number f v → (u : ℕ) × (0 < u) × (u ≤ v) × (f u ≡ true) × (number f u ≡ w)) → (u : ℕ) × (0 < u) × (u ≤ suc v) × (f u ≡ true) × (number f u ≡ w)
    by true t h rest = elim (cases_lt w (suc (number f v))) as (λ _. (u : ℕ) × (0 < u) × (u ≤ suc v) × (f u ≡ true) × (number f u ≡ w)) [
      | inl l ↦ up (rest (omega arith))
      | inr l ↦ (suc v, (omega arith), (omega arith), t, ap (λ (b : Bool). cond b (suc (number f v)) (number f v)) t ∙ (omega arith))
    ]
    by false t h rest = up (rest h)

-- what is kept by a number
abbrev pub back : (ℕ → Bool) → ℕ → ℕ → ℕ
back f zero w = zero
back f (suc v) w = cond (f (suc v) && eqb (number f (suc v)) w) (suc v) (back f v w)

pub back_number : (f : ℕ → Bool) (v u : ℕ) → f u ≡ true → 0 < u → u ≤ v → back f v (number f u) ≡ u
back_number f zero u t lo hi = absurd (omega arith)
back_number f (suc v) u t lo hi = by (f (suc v) && eqb (number f (suc v)) (number f u)) refl (λ l. back_number f v u t lo l)
  where
    by : (b : Bool) → (f (suc v) && eqb (number f (suc v)) (number f u)) ≡ b → (u ≤ v → back f v (number f u) ≡ u) → cond b (suc v) (back f v (number f u)) ≡ u
    by true e rest = let (a, q) = both_and (f (suc v)) (eqb (number f (suc v)) (number f u)) e in number_apart f (suc v) u a t (eqb-true (number f (suc v)) (number f u) q)
    by false e rest = elim (cases_eq u (suc v)) as (λ _. back f v (number f u) ≡ u) [
      | inl z ↦ absurd (
          let a : f (suc v) ≡ true = subst (λ (w : ℕ). f w ≡ true) z t in
          let q : eqb (number f (suc v)) (number f u) ≡ true = eq-eqb (number f (suc v)) (number f u) (ap (number f) (sym z)) in
          let w : true ≡ false = sym (and_both (f (suc v)) (eqb (number f (suc v)) (number f u)) a q) ∙ e in cc)
      | inr z ↦ rest (omega arith)
    ]

-- what a gate's clauses say
pub gate_holds : (v : ℕ) (g : Gate) (n : ℕ) (x : Assignment) → OthersWithin n (operands g) → x v ≡ bit g x → Satisfies x (clauses_of (lit_of v true) g)
gate_holds v g n x w e = subst (Satisfies x) (sym (gate_clauses v g)) (table_holds n v (bit g) x (rows_of (operands g) (lines g)) (gate_table n g w).sound e)

pub gate_says : (v : ℕ) (g : Gate) (n : ℕ) (x : Assignment) → OthersWithin n (operands g) → Satisfies x (clauses_of (lit_of v true) g) → x v ≡ bit g x
gate_says v g n x w s = let t = gate_table n g w in table_says n v (bit g) x (rows_of (operands g) (lines g)) t.sound (t.covers x) (subst (Satisfies x) (gate_clauses v g) s)

-- gates over other numbers
pub renumbered_within : (f : ℕ → Bool) (n m : ℕ) (g : Gate) → ((v : ℕ) → 0 < v → v ≤ n → (0 < number f v) × (number f v ≤ m)) → OthersWithin n (operands g) → OthersWithin m (operands (renumbered_gate f g))
renumbered_within f n m g h = by g
  where
    one : (l : LitOf) → LitWithin n l → LitWithin m (renumbered f l)
    one l (lo, hi) = h l.var lo hi

    by : (g : Gate) → OthersWithin n (operands g) → OthersWithin m (operands (renumbered_gate f g))
    by (And a b) w = (one a w.0, (one b w.1.0, tt))
    by (Xor a b) w = (one a w.0, (one b w.1.0, tt))
    by (Mux s a b) w = (one s w.0, (one a w.1.0, (one b w.1.1.0, tt)))
    by (Maj a b c) w = (one a w.0, (one b w.1.0, (one c w.1.1.0, tt)))

lit_renumbered : (f : ℕ → Bool) (x y : Assignment) (l : LitOf) → x (number f l.var) ≡ y l.var → lit_in x (renumbered f l) ≡ lit_in y l
lit_renumbered f x y l e = ap (λ (b : Bool). cond l.negated (not b) b) e

bit_renumbered : (f : ℕ → Bool) (x y : Assignment) (g : Gate) → ((o : LitOf) → Contains (operands g) o → x (number f o.var) ≡ y o.var) → bit (renumbered_gate f g) x ≡ bit g y
bit_renumbered f x y (And a b) h =
    let p = lit_renumbered f x y a (h a (head_in a (b ∷ []))) in
    let q = lit_renumbered f x y b (h b (tail_in a b (b ∷ []) (head_in b []))) in
    ap (λ (c : Bool). c && lit_in x (renumbered f b)) p ∙ ap (λ (c : Bool). lit_in y a && c) q
bit_renumbered f x y (Xor a b) h =
    let p = lit_renumbered f x y a (h a (head_in a (b ∷ []))) in
    let q = lit_renumbered f x y b (h b (tail_in a b (b ∷ []) (head_in b []))) in
    ap (λ (c : Bool). xor c (lit_in x (renumbered f b))) p ∙ ap (λ (c : Bool). xor (lit_in y a) c) q
bit_renumbered f x y (Mux s a b) h =
    let r = lit_renumbered f x y s (h s (head_in s (a ∷ b ∷ []))) in
    let p = lit_renumbered f x y a (h a (tail_in s a (a ∷ b ∷ []) (head_in a (b ∷ [])))) in
    let q = lit_renumbered f x y b (h b (tail_in s b (a ∷ b ∷ []) (tail_in a b (b ∷ []) (head_in b [])))) in
    ap (λ (c : Bool). cond c (lit_in x (renumbered f b)) (lit_in x (renumbered f a))) r
    ∙ ap (λ (c : Bool). cond (lit_in y s) c (lit_in x (renumbered f a))) q
    ∙ ap (λ (c : Bool). cond (lit_in y s) (lit_in y b) c) p
bit_renumbered f x y (Maj a b c) h =
    let p = lit_renumbered f x y a (h a (head_in a (b ∷ c ∷ []))) in
    let q = lit_renumbered f x y b (h b (tail_in a b (b ∷ c ∷ []) (head_in b (c ∷ [])))) in
    let r = lit_renumbered f x y c (h c (tail_in a c (b ∷ c ∷ []) (tail_in b c (c ∷ []) (head_in c [])))) in
    ap (λ (d : Bool). majority d (lit_in x (renumbered f b)) (lit_in x (renumbered f c))) p
    ∙ ap (λ (d : Bool). majority (lit_in y a) d (lit_in x (renumbered f c))) q
    ∙ ap (λ (d : Bool). majority (lit_in y a) (lit_in y b) d) r

-- what is marked is marked with all that it reads
spread_down : (es : List (Gate × LitOf)) (low : ℕ) (test : ℕ → Bool) (e : Gate × LitOf) (o : LitOf) → IsRisingFrom low (gate_vars es) → ((d : Gate × LitOf) (l : LitOf) → Contains es d → Contains (operands d.0) l → l.var < d.1.var) →
    Contains es e → spread es test e.1.var ≡ true → Contains (operands e.0) o → spread es test o.var ≡ true
spread_down [] low test e o r below c t i = absurd (none_in e c)
spread_down (d ∷ es) low test e o r below c t i = elim (cases_in d es e c) as (λ _. spread (d ∷ es) test o.var ≡ true) [
  | inl q ↦
      let here : spread es test d.1.var ≡ true = elim (or_cases (spread es test e.1.var) (spread es test d.1.var && is_one_of (operands d.0) e.1.var) t) as (λ _. spread es test d.1.var ≡ true) [
        | inl a ↦ subst (λ (k : Gate × LitOf). spread es test k.1.var ≡ true) (sym q) a
        | inr a ↦ (both_and (spread es test d.1.var) (is_one_of (operands d.0) e.1.var) a).0
      ] in
      or_right (spread es test o.var) (spread es test d.1.var && is_one_of (operands d.0) o.var)
      (and_both (spread es test d.1.var) (is_one_of (operands d.0) o.var) here (in_one_of (operands d.0) o (subst (λ (k : Gate × LitOf). Contains (operands k.0) o) (sym q) i)))
  | inr q ↦
      let later : spread es test e.1.var ≡ true = elim (or_cases (spread es test e.1.var) (spread es test d.1.var && is_one_of (operands d.0) e.1.var) t) as (λ _. spread es test e.1.var ≡ true) [
        | inl a ↦ a
        | inr a ↦ absurd (
            let (l, j, z) = one_of_in (operands d.0) e.1.var (both_and (spread es test d.1.var) (is_one_of (operands d.0) e.1.var) a).1 in
            let less = below d l (head_in d es) j in
            let more = rising_above (suc d.1.var) (gate_vars es) e.1.var r.1 (in_map (λ (k : Gate × LitOf). k.1.var) es e q) in
            omega arith)
      ] in
      or_left (spread es test o.var) (spread es test d.1.var && is_one_of (operands d.0) o.var)
      (spread_down es (suc d.1.var) test e o r.1 (λ k l j h. below k l (tail_in d k es j) h) q later i)
]

module _ (long : ℕ) (m : MadeOf) (well : IsWell long m) where
  pub reads_below : (e : Gate × LitOf) (o : LitOf) → Contains m.core.kept e → Contains (operands e.0) o → (0 < o.var) × (o.var < e.1.var)
  reads_below e o c i =
      let up = well.kept.rising.above e.0 e.1 c in
      let later = up.later in
      let (a, b) = others_in (e.1.var - 1) (operands e.0) o up.operands i in
      (a, omega arith)

  pub closed : (e : Gate × LitOf) (o : LitOf) → Contains m.core.kept e → is_kept m e.1.var ≡ true → Contains (operands e.0) o → is_kept m o.var ≡ true
  closed e o c t i = spread_down m.core.kept 2 (λ v. eqb v 1 || is_one_of m.goals v) e o well.order (λ d l j h. (reads_below d l j h).1) c t i

  abbrev keeps : ℕ → Bool
  keeps = is_kept m

  pub truth_kept : keeps 1 ≡ true
  truth_kept = spread_has m.core.kept (λ v. eqb v 1 || is_one_of m.goals v) 1 refl

  pub goal_kept : (l : LitOf) → Contains m.goals l → keeps l.var ≡ true
  goal_kept l c = spread_has m.core.kept (λ v. eqb v 1 || is_one_of m.goals v) l.var (or_right (eqb l.var 1) (is_one_of m.goals l.var) (in_one_of m.goals l c))

  pub numbers_within : (v : ℕ) → 0 < v → v ≤ m.core.vars → (0 < number keeps v) × (number keeps v ≤ number keeps m.core.vars)
  numbers_within v lo hi = (number_some keeps v truth_kept lo, number_up keeps v m.core.vars hi)

  -- a gate that is kept, as it is renumbered
  pub gate_renumbered : (g : Gate) (v : ℕ) → Contains m.core.kept (g, lit_of v true) → keeps v ≡ true → Contains (finished m).gates (renumbered_gate keeps g, lit_of (number keeps v) true)
  gate_renumbered g v c t =
      in_map (renumbered_entry keeps) (filter (λ e. keeps e.1.var) m.core.kept) (g, lit_of v true) (in_filter (λ (e : Gate × LitOf). keeps e.1.var) m.core.kept (g, lit_of v true) c t)

  -- what satisfies both has the same values
  module _ (x y : Assignment) (sx : Satisfies x (clauses_from (finished m).gates)) (sy : Satisfies y (clauses_from m.core.kept))
      (free : (v : ℕ) → Contains (open_vars m.free) v → keeps v ≡ true → x (number keeps v) ≡ y v) where
    one_at : x 1 ≡ true
    one_at =
        let (l, c, e) = sx (lit_of 1 true ∷ []) (head_in (lit_of 1 true ∷ []) (flat_map (λ (d : Gate × LitOf). clauses_of d.1 d.0) (finished m).gates)) in
        elim (cases_in (lit_of 1 true) [] l c) as (λ _. x 1 ≡ true) [ inl z ↦ subst (λ (k : LitOf). lit_in x k ≡ true) (sym z) e | inr d ↦ absurd (none_in l d) ]

    same_below : (b v : ℕ) → v < b → 0 < v → v ≤ m.core.vars → keeps v ≡ true → x (number keeps v) ≡ y v
    same_below zero v l lo hi t = absurd (omega arith)
    same_below (suc b) v l lo hi t = by (well.kept.rising.each v lo hi) (λ u k p q r. same_below b u k p q r)
      where
        by : (v ≡ 1) ⊎ Contains (open_vars m.free) v ⊎ ((k : Gate) × Contains m.core.kept (k, lit_of v true)) → ((u : ℕ) → u < b → 0 < u → u ≤ m.core.vars → keeps u ≡ true → x (number keeps u) ≡ y u) → x (number keeps v) ≡ y v
        by (inl e) rest =
            let z : number keeps v ≡ 1 = ap (number keeps) e ∙ ap (λ (c : Bool). cond c (suc (number keeps 0)) (number keeps 0)) truth_kept in
            ap x z ∙ one_at ∙ sym (well.kept.truth y sy) ∙ ap y (sym e)
        by (inr (inl c)) rest = free v c t
        by (inr (inr (g, c))) rest =
            let up = well.kept.rising.above g (lit_of v true) c in
            let is = well.kept.all g (lit_of v true) c in
            let low : (o : LitOf) → Contains (operands g) o → x (number keeps o.var) ≡ y o.var = λ o i.
            (let (a, z) = others_in (v - 1) (operands g) o up.operands i in rest o.var (omega arith) a (omega arith) (closed (g, lit_of v true) o c t i)) in
            let sat : Satisfies x (clauses_of (lit_of (number keeps v) true) (renumbered_gate keeps g)) = λ d i.
            sx d (tail_in (lit_of 1 true ∷ []) d (flat_map (λ (e : Gate × LitOf). clauses_of e.1 e.0) (finished m).gates)
            (in_flat_map (λ (e : Gate × LitOf). clauses_of e.1 e.0) (finished m).gates (renumbered_gate keeps g, lit_of (number keeps v) true) d (gate_renumbered g v c t) i)) in
            gate_says (number keeps v) (renumbered_gate keeps g) (number keeps m.core.vars) x (renumbered_within keeps m.core.vars (number keeps m.core.vars) g numbers_within is.operands) sat
            ∙ bit_renumbered keeps x y g low ∙ sym (is.means y sy)

    pub same_kept : (v : ℕ) → 0 < v → v ≤ m.core.vars → keeps v ≡ true → x (number keeps v) ≡ y v
    same_kept v lo hi t = same_below (suc v) v (omega arith) lo hi t

  -- each assignment of the new numbers gives one of the old
  pub old_of : (x : Assignment) → Satisfies x (clauses_from (finished m).gates) → (y : Assignment) × Satisfies y (clauses_from m.core.kept) × ((v : ℕ) → 0 < v → v ≤ m.core.vars → keeps v ≡ true → x (number keeps v) ≡ y v)
      × ((v : ℕ) → Contains (open_vars m.free) v → y v ≡ (keeps v && x (number keeps v)))
  old_of x s =
      let (y, t, a) = well.kept.gates.extends (λ v. keeps v && x (number keeps v)) in (
        y,
        t,
        same_kept x y s t (λ v c k. sym (sym (a v c) ∙ ap (λ (b : Bool). b && x (number keeps v)) k)),
        (λ v c. sym (a v c)),
      )

  -- and back
  pub new_of : (y : Assignment) → Satisfies y (clauses_from m.core.kept) → (x : Assignment) × Satisfies x (clauses_from (finished m).gates) × ((v : ℕ) → 0 < v → v ≤ m.core.vars → keeps v ≡ true → x (number keeps v) ≡ y v)
  new_of y s = ((λ w. y (back keeps m.core.vars w)), sat, same)
    where
      same : (v : ℕ) → 0 < v → v ≤ m.core.vars → keeps v ≡ true → y (back keeps m.core.vars (number keeps v)) ≡ y v
      same v lo hi t = ap y (back_number keeps m.core.vars v t lo hi)

      sat : Satisfies (λ w. y (back keeps m.core.vars w)) (clauses_from (finished m).gates)
      sat c h = elim (cases_in (lit_of 1 true ∷ []) (flat_map (λ (d : Gate × LitOf). clauses_of d.1 d.0) (finished m).gates) c h) as (λ _. (l : LitOf) × Contains c l × (lit_in (λ w. y (back keeps m.core.vars w)) l ≡ true)) [
        | inl e ↦ subst (λ (d : List LitOf). (l : LitOf) × Contains d l × (lit_in (λ w. y (back keeps m.core.vars w)) l ≡ true)) e (
          lit_of 1 true,
          head_in (lit_of 1 true) [],
          (let z : number keeps 1 ≡ 1 = ap (λ (b : Bool). cond b (suc (number keeps 0)) (number keeps 0)) truth_kept in
              ap (λ (w : ℕ). y (back keeps m.core.vars w)) (sym z) ∙ same 1 (omega arith) well.kept.some truth_kept ∙ well.kept.truth y s),
        )
        | inr r ↦
            let (e, i, j) = flat_in (λ (d : Gate × LitOf). clauses_of d.1 d.0) (finished m).gates c r in
            let (d, k, z) = map_in (renumbered_entry keeps) (filter (λ e. keeps e.1.var) m.core.kept) e i in
            let (q, t) = filter_in (λ (e : Gate × LitOf). keeps e.1.var) m.core.kept d k in
            let is = well.kept.all d.0 d.1 q in
            let up = well.kept.rising.above d.0 d.1 q in
            let l : d.1 ≡ lit_of d.1.var true = lit_from d.1 d.1.var refl up.plain in
            let value : y d.1.var ≡ bit d.0 y = sym (ap (lit_in y) l) ∙ is.means y s in
            let new = bit_renumbered keeps (λ w. y (back keeps m.core.vars w)) y d.0 (λ o h.
            (let (a, b) = reads_below d o q h in let c = is.within in let f = c.1 in same o.var a (omega arith) (closed d o q t h))) in
            let holds = gate_holds (number keeps d.1.var) (renumbered_gate keeps d.0) (number keeps m.core.vars) (λ w. y (back keeps m.core.vars w))
            (renumbered_within keeps m.core.vars (number keeps m.core.vars) d.0 numbers_within is.operands)
            (let (a, b) = is.within in same d.1.var a b t ∙ value ∙ sym new) in
            let there : e ≡ (renumbered_gate keeps d.0, lit_of (number keeps d.1.var) true) = sym z ∙ ap (λ (g : LitOf). let p : Gate × LitOf = (renumbered_gate keeps d.0, renumbered keeps g) in p) l in
            holds c (subst (λ (p : Gate × LitOf). Contains (clauses_of p.1 p.0) c) there j)
      ]
