-- Levels are in an order in which each variable can be computed.
use Rattle.std.proofs.Common.{◌≡◌, ◌⊎◌, ℕ, zero, suc, ◌+◌, ◌-◌, ◌<◌, ◌≤◌, Bool, true, false, not, cond, List, [], ◌∷◌, ◌++◌, length, refl, sym, ◌∙◌, subst, inl, inr, arith}
use Rattle.std.specs.Prelude.{Contains}
use Rattle.std.specs.List.{filter}
use Rattle.std.proofs.lemmas.Bool.{cases_Bool, cases_lt}
use Rattle.std.proofs.lemmas.List.Elements.{Contains-append_cases}
use Rattle.cnf_form.specs.Cnf.{LitOf}
use Rattle.gate_graph.specs.declared.gate.Gate.{Gate}
use Rattle.gate_graph.specs.Folding.{operands}
use Rattle.bit_net.specs.Net.{IsNet, NetOf, gate_var, node_at, vars}
use Rattle.bit_net.specs.Reaching.{early_before, is_at, level, levels, nearer, nexts, numbers, reached}
use Rattle.bit_net.specs.declared.node.Node.TheVariants as node
use Rattle.bit_net.proofs.Extending.{get_less}
use Rattle.bit_net.proofs.Lists.{and_both, both_and, cases_in, filter_in, head_in, none_in, not_true, numbers_in, others_in, tail_in, true_not}
use Rattle.bit_net.proofs.Needing.{in_levels, levels_end, levels_in}
use Rattle.bit_net.proofs.Reached.{at_gate}
use Rattle.bit_net.proofs.Searching.{node_gate}
use Rattle.net_unroll.specs.Program.{needed}
use Rattle.net_unroll.specs.declared.asking.Cycles.{Cycles}
use Rattle.net_unroll.proofs.Stepping.{needed_early, needed_late}

-- each variable is new, and with a gate those that it reads come before it
abbrev pub IsOrdered : NetOf → (ℕ → Type 0) → List ℕ → Type 0
IsOrdered n P [] = Unit {0}
IsOrdered n P (v ∷ vs) = (P v → ⊥) × (1 < v) × ((g : Gate) (o : LitOf) → node_at n v ≡ node.Gate g → Contains (operands g) o → (o.var ≡ 1) ⊎ P o.var) × IsOrdered n (λ u. P u ⊎ (u ≡ v)) vs

pub ordered_same : (n : NetOf) (P Q : ℕ → Type 0) (vs : List ℕ) → ((u : ℕ) → P u → Q u) → ((u : ℕ) → Q u → P u) → IsOrdered n P vs → IsOrdered n Q vs
ordered_same n P Q [] f g o = tt
ordered_same n P Q (v ∷ vs) f g o = (
  (λ q. o.0 (g v q)),
  o.1,
  (λ k l e c. elim (o.2 k l e c) as (λ _. (l.var ≡ 1) ⊎ Q l.var) [ inl h ↦ inl h | inr h ↦ inr (f l.var h) ]),
  ordered_same n (λ u. P u ⊎ (u ≡ v)) (λ u. Q u ⊎ (u ≡ v)) vs
      (λ u h. elim h as (λ _. Q u ⊎ (u ≡ v)) [ inl p ↦ inl (f u p) | inr e ↦ inr e ])
      (λ u h. elim h as (λ _. P u ⊎ (u ≡ v)) [ inl q ↦ inl (g u q) | inr e ↦ inr e ]) o.3,
)

pub ordered_append : (n : NetOf) (P : ℕ → Type 0) (us ws : List ℕ) → IsOrdered n P us → IsOrdered n (λ u. P u ⊎ Contains us u) ws → IsOrdered n P (us ++ ws)
ordered_append n P [] ws o q = ordered_same n (λ u. P u ⊎ Contains [] u) P ws (λ u h. elim h as (λ _. P u) [ inl p ↦ p | inr c ↦ absurd (none_in u c) ]) (λ u p. inl p) q
ordered_append n P (v ∷ vs) ws o q = (
  o.0,
  o.1,
  o.2,
  ordered_append n (λ u. P u ⊎ (u ≡ v)) vs ws o.3 (ordered_same n (λ u. P u ⊎ Contains (v ∷ vs) u) (λ u. (P u ⊎ (u ≡ v)) ⊎ Contains vs u) ws
      (λ u h. elim h as (λ _. (P u ⊎ (u ≡ v)) ⊎ Contains vs u) [
        | inl p ↦ inl (inl p)
        | inr c ↦ elim (cases_in v vs u c) as (λ _. (P u ⊎ (u ≡ v)) ⊎ Contains vs u) [ inl e ↦ inl (inr (sym e)) | inr d ↦ inr d ]
      ])
      (λ u h. elim h as (λ _. P u ⊎ Contains (v ∷ vs) u) [
        | inl w ↦ elim w as (λ _. P u ⊎ Contains (v ∷ vs) u) [ inl p ↦ inl p | inr e ↦ inr (subst (Contains (v ∷ vs)) (sym e) (head_in v vs)) ]
        | inr d ↦ inr (tail_in v u vs d)
      ]) q),
)

module _ (n : NetOf) (now before : List LitOf) where
  -- found by fewer steps
  abbrev Nearer : ℕ → ℕ → Type 0
  Nearer d u = (1 < u) × (u ≤ vars n) × (nearer n now before d u ≡ true)

  abbrev Here : ℕ → ℕ → ℕ → Type 0
  Here d first u = Nearer d u ⊎ ((1 < u) × (u < first) × (is_at n now before d u ≡ true))

  level_ordered : IsNet n → (d first k : ℕ) → 2 ≤ first → first + k ≡ vars n + 1 → IsOrdered n (Here d first) (filter (is_at n now before d) (numbers first k))
  level_ordered net d first zero lo all = tt
  level_ordered net d first (suc k) lo all = by (is_at n now before d first) refl (level_ordered net d (suc first) k (omega arith) (omega arith))
    where
      by : (b : Bool) → is_at n now before d first ≡ b → IsOrdered n (Here d (suc first)) (filter (is_at n now before d) (numbers (suc first) k)) →
          IsOrdered n (Here d first) (cond b (first ∷ filter (is_at n now before d) (numbers (suc first) k)) (filter (is_at n now before d) (numbers (suc first) k)))
      by false e more = ordered_same n (Here d (suc first)) (Here d first) (filter (is_at n now before d) (numbers (suc first) k))
          (λ u h. elim h as (λ _. Here d first u) [
            | inl p ↦ inl p
            | inr q ↦ elim (cases_lt u first) as (λ _. Here d first u) [
              | inl l ↦ inr (q.0, l, q.2)
              | inr l ↦ absurd (let l2 = q.1 in let z : first ≡ u = omega arith in let a = subst (λ (w : ℕ). is_at n now before d w ≡ false) z e in let t = q.2 in let w : true ≡ false = sym t ∙ a in cc)
            ]
          ])
          (λ u h. elim h as (λ _. Here d (suc first) u) [ inl p ↦ inl p | inr q ↦ inr (q.0, (let l = q.1 in omega arith), q.2) ]) more
      by true e more =
          let both = both_and (reached n now before d first) (not (nearer n now before d first)) e in (
            (λ h. elim h as (λ _. ⊥) [ inl p ↦ true_not (nearer n now before d first) both.1 p.2 | inr q ↦ (let l = q.1 in omega arith) ]),
            (omega arith),
            (λ g o at c.
                let (j, place, var) = node_gate n first g at in
                let inside = get_less n.gates j g place in
                let (olo, ohi) = others_in (gate_var n j - 1) (operands g) o (net.gates j g place) c in
                let r : reached n now before d o.var ≡ true = at_gate n now before d j g o net place (subst (λ (w : ℕ). reached n now before d w ≡ true) (sym var) both.0) c in
                elim (cases_lt 1 o.var) as (λ _. (o.var ≡ 1) ⊎ Here d first o.var) [
                  | inr small ↦ inl (omega arith)
                  | inl big ↦ elim (cases_Bool (nearer n now before d o.var)) as (λ _. (o.var ≡ 1) ⊎ Here d first o.var) [
                    | inl near ↦ inr (inl (big, (omega arith), near))
                    | inr far ↦ inr (inr (big, (omega arith), and_both (reached n now before d o.var) (not (nearer n now before d o.var)) r (not_true (nearer n now before d o.var) far)))
                  ]
                ]),
            ordered_same n (Here d (suc first)) (λ u. Here d first u ⊎ (u ≡ first)) (filter (is_at n now before d) (numbers (suc first) k))
                (λ u h. elim h as (λ _. Here d first u ⊎ (u ≡ first)) [
                  | inl p ↦ inl (inl p)
                  | inr q ↦ elim (cases_lt u first) as (λ _. Here d first u ⊎ (u ≡ first)) [
                    | inl l ↦ inl (inr (q.0, l, q.2))
                    | inr l ↦ inr (let m = q.1 in omega arith)
                  ]
                ])
                (λ u h. elim h as (λ _. Here d (suc first) u) [
                  | inl w ↦ elim w as (λ _. Here d (suc first) u) [ inl p ↦ inl p | inr q ↦ inr (q.0, (let l = q.1 in omega arith), q.2) ]
                  | inr z ↦ inr ((omega arith), (omega arith), subst (λ (w : ℕ). is_at n now before d w ≡ true) (sym z) e)
                ]) more,
          )

  pub inside : (d u : ℕ) → Contains (levels n now before d) u → (1 < u) × (u ≤ vars n)
  inside zero u c = absurd (none_in u c)
  inside (suc e) u c = elim (Contains-append_cases (levels n now before e) (level n now before e) u (subst (λ (vs : List ℕ). Contains vs u) (levels_end n now before e) c)) as (λ _. (1 < u) × (u ≤ vars n)) [
    | inl a ↦ inside e u a
    | inr a ↦
        let (i, t) = filter_in (is_at n now before e) (numbers 2 (length n.states + n.inputs + length n.gates)) u a in
        let (lo, hi) = numbers_in 2 (length n.states + n.inputs + length n.gates) u i in
        (omega arith, omega arith)
  ]

  pub levels_ordered : IsNet n → (many : ℕ) → IsOrdered n (λ u. ⊥) (levels n now before many)
  levels_ordered net zero = tt
  levels_ordered net (suc d) =
      subst (IsOrdered n (λ u. ⊥)) (sym (levels_end n now before d))
      (ordered_append n (λ u. ⊥) (levels n now before d) (level n now before d) (levels_ordered net d)
      (ordered_same n (Here d 2) (λ u. ⊥ ⊎ Contains (levels n now before d) u) (level n now before d)
      (λ u h. elim h as (λ _. ⊥ ⊎ Contains (levels n now before d) u) [
        | inl p ↦ inr (levels_in n now before d u p.0 p.1 p.2)
        | inr q ↦ absurd (let a = q.0 in let b = q.1 in omega arith)
      ])
      (λ u h. elim h as (λ _. Here d 2 u) [
        | inl b ↦ absurd b
        | inr c ↦ inl (let (lo, hi) = inside d u c in (lo, hi, in_levels n now before d u c))
      ])
      (level_ordered net d 2 (length n.states + n.inputs + length n.gates) (omega arith) (omega arith))))

pub needed_ordered : (n : NetOf) (goal : LitOf) (c : Cycles) (t : ℕ) → IsNet n → IsOrdered n (λ u. ⊥) (needed n goal c t)
needed_ordered n goal c t net = elim (cases_lt t c.first) as (λ _. IsOrdered n (λ u. ⊥) (needed n goal c t)) [
  | inl l ↦ subst (IsOrdered n (λ u. ⊥)) (sym (needed_early n goal c t l)) (levels_ordered n (n.assumed ∷ []) (nexts n (early_before n (goal ∷ n.assumed ∷ []))) net (c.count - t))
  | inr l ↦ subst (IsOrdered n (λ u. ⊥)) (sym (needed_late n goal c t l)) (levels_ordered n (goal ∷ n.assumed ∷ []) [] net (c.count - t))
]

pub needed_within : (n : NetOf) (goal : LitOf) (c : Cycles) (t u : ℕ) → Contains (needed n goal c t) u → (1 < u) × (u ≤ vars n)
needed_within n goal c t u h = elim (cases_lt t c.first) as (λ _. (1 < u) × (u ≤ vars n)) [
  | inl l ↦ inside n (n.assumed ∷ []) (nexts n (early_before n (goal ∷ n.assumed ∷ []))) (c.count - t) u (subst (λ (vs : List ℕ). Contains vs u) (needed_early n goal c t l) h)
  | inr l ↦ inside n (goal ∷ n.assumed ∷ []) [] (c.count - t) u (subst (λ (vs : List ℕ). Contains vs u) (needed_late n goal c t l) h)
]
