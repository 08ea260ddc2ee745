-- Which bits are open, each once.
use Rattle.std.proofs.Common.{◌≡◌, ◌⊎◌, ℕ, zero, suc, ◌+◌, ◌<◌, ◌≤◌, Bool, true, false, ◌&&◌, cond, List, [], ◌∷◌, ◌++◌, Option, Some, None, refl, sym, ap, ◌∙◌, subst, inl, inr, arith, map, eqb, append_assoc, ltb}
use Rattle.std.specs.Prelude.{Contains}
use Rattle.std.specs.List.{flat_map}
use Rattle.std.proofs.lemmas.Bool.{eq-eqb, eqb-true}
use Rattle.std.proofs.lemmas.List.{append-nil, map-append}
use Rattle.std.proofs.lemmas.List.Elements.{Contains-append_cases}
use Rattle.cnf_form.specs.Cnf.{Assignment, LitOf}
use Rattle.bit_net.specs.Net.{IsNet, NetOf, node_at, vars}
use Rattle.bit_net.specs.Reaching.{numbers}
use Rattle.bit_net.specs.declared.node.Node.{Node}
use Rattle.bit_net.specs.declared.node.Node.TheVariants as node
use Rattle.bit_net.proofs.Extending.{Kind, kind_of}
use Rattle.bit_net.proofs.Extending.Kind.{truth, state, input, gate}
use Rattle.bit_net.proofs.Lists.{and_both, both_and, cases_in, head_in, in_map, none_in, tail_in}
use Rattle.bit_net.proofs.Needing.{node_of_state}
use Rattle.bit_net.proofs.Searching.{node_of_gate}
use Rattle.net_unroll.specs.Making.{MadeOf, run, step}
use Rattle.net_unroll.specs.Program.{Step, cycle, first_steps, later_steps, needed, program, values, watch}
use Rattle.net_unroll.specs.Program.Step.{Input, Constant, Copy, Move, Assume, Pass, End}
use Rattle.net_unroll.specs.declared.asking.Cycles.{Cycles}
use Rattle.net_unroll.specs.declared.encoded.Free.{Free}
use Rattle.net_unroll.proofs.Ordered.{IsOrdered, needed_ordered, needed_within}
use Rattle.net_unroll.specs.Promises.{IsOpenAt, told_by}
use Rattle.net_unroll.specs.Promises.IsOpenAt.{an_input, a_state}
use Rattle.net_unroll.proofs.Saying.{flat_same}
use Rattle.net_unroll.proofs.Walking.{Act, first_act, first_is, later_act, later_is, state_act, steps_of}
use Rattle.net_unroll.proofs.Walking.Act.{fix, gated, keep, open_at}

-- the bits that steps open
abbrev pub opens_of : List Step → List (ℕ × ℕ)
opens_of [] = []
opens_of (Input t v ∷ steps) = (t, v) ∷ opens_of steps
opens_of (Constant v b ∷ steps) = opens_of steps
opens_of (Copy v g ∷ steps) = opens_of steps
opens_of (Move ms ∷ steps) = opens_of steps
opens_of (Assume l ∷ steps) = opens_of steps
opens_of (Pass l ∷ steps) = opens_of steps
opens_of (End l ∷ steps) = opens_of steps

opens_append : (a b : List Step) → opens_of (a ++ b) ≡ opens_of a ++ opens_of b
opens_append [] b = refl
opens_append (Input t v ∷ a) b = ap (λ (ps : List (ℕ × ℕ)). (t, v) ∷ ps) (opens_append a b)
opens_append (Constant v c ∷ a) b = opens_append a b
opens_append (Copy v g ∷ a) b = opens_append a b
opens_append (Move ms ∷ a) b = opens_append a b
opens_append (Assume l ∷ a) b = opens_append a b
opens_append (Pass l ∷ a) b = opens_append a b
opens_append (End l ∷ a) b = opens_append a b

abbrev pub pair : Free → ℕ × ℕ
pair f = (f.cycle, f.place)

pub free_pairs : (m : MadeOf) (steps : List Step) → map pair (run m steps).free ≡ map pair m.free ++ opens_of steps
free_pairs m [] = sym (append-nil (map pair m.free))
free_pairs m (Input t v ∷ steps) =
    let f : Free = record { cycle = t; place = v; var = suc m.core.vars } in
    free_pairs (step m (Input t v)) steps ∙ ap (λ (ps : List (ℕ × ℕ)). ps ++ opens_of steps) (map-append pair m.free (f ∷ [])) ∙ append_assoc (map pair m.free) ((t, v) ∷ []) (opens_of steps)
free_pairs m (Constant v c ∷ steps) = free_pairs (step m (Constant v c)) steps
free_pairs m (Copy v g ∷ steps) = free_pairs (step m (Copy v g)) steps
free_pairs m (Move ms ∷ steps) = free_pairs (step m (Move ms)) steps
free_pairs m (Assume l ∷ steps) = free_pairs (step m (Assume l)) steps
free_pairs m (Pass l ∷ steps) = free_pairs (step m (Pass l)) steps
free_pairs m (End l ∷ steps) = free_pairs (step m (End l)) steps

-- each stands once
abbrev pub AreApart : {A : Type 0} → List A → Type 0
AreApart [] = Unit {0}
AreApart (p ∷ ps) = (Contains ps p → ⊥) × AreApart ps

apart_append : (ps qs : List (ℕ × ℕ)) → AreApart ps → AreApart qs → ((p : ℕ × ℕ) → Contains ps p → Contains qs p → ⊥) → AreApart (ps ++ qs)
apart_append [] qs a b h = b
apart_append (p ∷ ps) qs a b h = (
  (λ c. elim (Contains-append_cases ps qs p c) as (λ _. ⊥) [ inl d ↦ a.0 d | inr d ↦ h p (head_in p ps) d ]),
  apart_append ps qs a.1 b (λ q c d. h q (tail_in p q ps c) d),
)

-- what steps at variables open
open_act : (v : ℕ) (a : Act) (p : ℕ × ℕ) → Contains (opens_of (steps_of v a)) p → (a ≡ open_at p.0) × (p.1 ≡ v)
open_act v keep p c = absurd (none_in p c)
open_act v (open_at t) p c = elim (cases_in (t, v) [] p c) as (λ _. (open_at t ≡ open_at p.0) × (p.1 ≡ v)) [
  | inl e ↦ (ap (λ (q : ℕ × ℕ). open_at q.0) e, sym (ap (λ (q : ℕ × ℕ). q.1) e))
  | inr d ↦ absurd (none_in p d)
]
open_act v (fix b) p c = absurd (none_in p c)
open_act v (gated g) p c = absurd (none_in p c)

act_apart : (v : ℕ) (a : Act) → AreApart (opens_of (steps_of v a))
act_apart v keep = tt
act_apart v (open_at t) = ((λ c. none_in (t, v) c), tt)
act_apart v (fix b) = tt
act_apart v (gated g) = tt

acts_open : (act : ℕ → Act) (vs : List ℕ) (p : ℕ × ℕ) → Contains (opens_of (flat_map (λ v. steps_of v (act v)) vs)) p → Contains vs p.1 × (act p.1 ≡ open_at p.0)
acts_open act [] p c = absurd (none_in p c)
acts_open act (v ∷ vs) p c = elim (Contains-append_cases (opens_of (steps_of v (act v))) (opens_of (flat_map (λ w. steps_of w (act w)) vs)) p (subst (λ (ps : List (ℕ × ℕ)). Contains ps p) (opens_append (steps_of v (act v)) (flat_map (λ w. steps_of w (act w)) vs)) c)) as (λ _. Contains (v ∷ vs) p.1 × (act p.1 ≡ open_at p.0)) [
  | inl d ↦ let (a, e) = open_act v (act v) p d in (subst (Contains (v ∷ vs)) (sym e) (head_in v vs), ap act e ∙ a)
  | inr d ↦ let (a, e) = acts_open act vs p d in (tail_in v p.1 vs a, e)
]

ordered_new : (n : NetOf) (P : ℕ → Type 0) (vs : List ℕ) (v : ℕ) → IsOrdered n P vs → P v → Contains vs v → ⊥
ordered_new n P [] v o p c = none_in v c
ordered_new n P (u ∷ vs) v o p c = elim (cases_in u vs v c) as (λ _. ⊥) [
  | inl e ↦ o.0 (subst P (sym e) p)
  | inr d ↦ ordered_new n (λ w. P w ⊎ (w ≡ u)) vs v o.3 (inl p) d
]

acts_apart : (n : NetOf) (P : ℕ → Type 0) (act : ℕ → Act) (vs : List ℕ) → IsOrdered n P vs → AreApart (opens_of (flat_map (λ v. steps_of v (act v)) vs))
acts_apart n P act [] o = tt
acts_apart n P act (v ∷ vs) o =
    subst AreApart (sym (opens_append (steps_of v (act v)) (flat_map (λ w. steps_of w (act w)) vs)))
    (apart_append (opens_of (steps_of v (act v))) (opens_of (flat_map (λ w. steps_of w (act w)) vs)) (act_apart v (act v)) (acts_apart n (λ w. P w ⊎ (w ≡ v)) act vs o.3)
    (λ p c d. (let (a, e) = open_act v (act v) p c in let (b, f) = acts_open act vs p d in ordered_new n (λ w. P w ⊎ (w ≡ v)) vs v o.3 (inr refl) (subst (Contains vs) e b))))

module _ (n : NetOf) (net : IsNet n) (goal : LitOf) (c : Cycles) where
  watch_opens : (t : ℕ) → opens_of (Assume n.assumed ∷ watch goal c t) ≡ []
  watch_opens t = by (ltb t c.first) (ltb t c.end)
    where
      by : (a b : Bool) → opens_of (Assume n.assumed ∷ cond a [] (cond b (Pass goal ∷ []) (End goal ∷ Pass goal ∷ []))) ≡ []
      by true b = refl
      by false true = refl
      by false false = refl

  act_at : ℕ → ℕ → Act
  act_at zero v = first_act c.start (node_at n v)
  act_at (suc t) v = later_act (suc t) (node_at n v)

  cycle_opens : (t : ℕ) → opens_of (cycle n goal c t) ≡ opens_of (flat_map (λ v. steps_of v (act_at t v)) (needed n goal c t))
  unfolding act_at
  cycle_opens t =
      opens_append (values n c t (needed n goal c t)) (Assume n.assumed ∷ watch goal c t)
      ∙ ap (λ (ps : List (ℕ × ℕ)). opens_of (values n c t (needed n goal c t)) ++ ps) (watch_opens t)
      ∙ append-nil (opens_of (values n c t (needed n goal c t))) ∙ by t
    where
      by : (t : ℕ) → opens_of (values n c t (needed n goal c t)) ≡ opens_of (flat_map (λ v. steps_of v (act_at t v)) (needed n goal c t))
      by zero = ap opens_of (flat_same (λ v. first_steps c.start v (node_at n v)) (λ v. steps_of v (first_act c.start (node_at n v))) (needed n goal c 0) (λ v. first_is c.start v (node_at n v)))
      by (suc t) = ap opens_of (flat_same (λ v. later_steps (suc t) v (node_at n v)) (λ v. steps_of v (later_act (suc t) (node_at n v))) (needed n goal c (suc t)) (λ v. later_is (suc t) v (node_at n v)))

  open_time : (t v s : ℕ) → act_at t v ≡ open_at s → s ≡ t
  unfolding act_at
  open_time zero v s e = by (node_at n v) e
    where
      same : (b : Bool) (d : Option Bool) → state_act b d ≡ open_at s → s ≡ 0
      same true (Some x) q = absurd (let z : fix x ≡ open_at s = q in cc)
      same true None q = let z : open_at 0 ≡ open_at s = q in cc
      same false d q = let z : open_at 0 ≡ open_at s = q in cc

      by : (m : Node) → first_act c.start m ≡ open_at s → s ≡ 0
      by (node.State r) q = same c.start r.start q
      by node.Input q = let z : open_at 0 ≡ open_at s = q in cc
      by (node.Gate g) q = absurd (let z : gated g ≡ open_at s = q in cc)
  open_time (suc t) v s e = by (node_at n v) e
    where
      by : (m : Node) → later_act (suc t) m ≡ open_at s → s ≡ suc t
      by (node.State r) q = absurd (let z : keep ≡ open_at s = q in cc)
      by node.Input q = let z : open_at (suc t) ≡ open_at s = q in cc
      by (node.Gate g) q = absurd (let z : gated g ≡ open_at s = q in cc)

  is_open : (t v : ℕ) → 1 < v → v ≤ vars n → act_at t v ≡ open_at t → IsOpenAt n c.start t v
  unfolding act_at
  is_open zero v lo hi e = by (kind_of n v (omega arith) hi)
    where
      start : (b : Bool) (d : Option Bool) → state_act b d ≡ open_at 0 → b ≡ true → d ≡ None
      start true (Some x) q z = absurd (let w : fix x ≡ open_at 0 = q in cc)
      start true None q z = refl
      start false d q z = absurd (let w : false ≡ true = z in cc)

      by : Kind n v → IsOpenAt n c.start 0 v
      by (truth q) = absurd (omega arith)
      by (state k s at q) = a_state k s at q refl (start c.start s.start (sym (ap (first_act c.start) (ap (node_at n) q ∙ node_of_state n k s at)) ∙ e))
      by (input k l q) = an_input k l q
      by (gate k g at q) = absurd (let w : gated g ≡ open_at 0 = sym (ap (first_act c.start) (ap (node_at n) q ∙ node_of_gate n k g at)) ∙ e in cc)
  is_open (suc t) v lo hi e = by (kind_of n v (omega arith) hi)
    where
      by : Kind n v → IsOpenAt n c.start (suc t) v
      by (truth q) = absurd (omega arith)
      by (state k s at q) = absurd (let w : keep ≡ open_at (suc t) = sym (ap (later_act (suc t)) (ap (node_at n) q ∙ node_of_state n k s at)) ∙ e in cc)
      by (input k l q) = an_input k l q
      by (gate k g at q) = absurd (let w : gated g ≡ open_at (suc t) = sym (ap (later_act (suc t)) (ap (node_at n) q ∙ node_of_gate n k g at)) ∙ e in cc)

  -- what a cycle opens is open and needed
  pub opened : (t : ℕ) (p : ℕ × ℕ) → Contains (opens_of (cycle n goal c t)) p → (p.0 ≡ t) × Contains (needed n goal c t) p.1 × IsOpenAt n c.start t p.1
  opened t p h =
      let (a, e) = acts_open (act_at t) (needed n goal c t) p (subst (λ (ps : List (ℕ × ℕ)). Contains ps p) (cycle_opens t) h) in
      let s = open_time t p.1 p.0 e in
      let (lo, hi) = needed_within n goal c t p.1 a in
      (s, a, is_open t p.1 lo hi (e ∙ ap open_at s))

  cycle_apart : (t : ℕ) → AreApart (opens_of (cycle n goal c t))
  cycle_apart t = subst AreApart (sym (cycle_opens t)) (acts_apart n (λ u. ⊥) (act_at t) (needed n goal c t) (needed_ordered n goal c t net))

  cycles_opened : (first count : ℕ) (p : ℕ × ℕ) → Contains (opens_of (flat_map (cycle n goal c) (numbers first count))) p → (first ≤ p.0) × (p.0 < first + count) × Contains (needed n goal c p.0) p.1 × IsOpenAt n c.start p.0 p.1
  cycles_opened first zero p h = absurd (none_in p h)
  cycles_opened first (suc count) p h = elim (Contains-append_cases (opens_of (cycle n goal c first)) (opens_of (flat_map (cycle n goal c) (numbers (suc first) count))) p (subst (λ (ps : List (ℕ × ℕ)). Contains ps p) (opens_append (cycle n goal c first) (flat_map (cycle n goal c) (numbers (suc first) count))) h)) as (λ _. (first ≤ p.0) × (p.0 < first + suc count) × Contains (needed n goal c p.0) p.1 × IsOpenAt n c.start p.0 p.1) [
    | inl d ↦
        let (e, a, o) = opened first p d in
        ((omega arith), (omega arith), subst (λ (t : ℕ). Contains (needed n goal c t) p.1) (sym e) a, subst (λ (t : ℕ). IsOpenAt n c.start t p.1) (sym e) o)
    | inr d ↦ let (lo, hi, a, o) = cycles_opened (suc first) count p d in ((omega arith), (omega arith), a, o)
  ]

  cycles_apart : (first count : ℕ) → AreApart (opens_of (flat_map (cycle n goal c) (numbers first count)))
  cycles_apart first zero = tt
  cycles_apart first (suc count) =
      subst AreApart (sym (opens_append (cycle n goal c first) (flat_map (cycle n goal c) (numbers (suc first) count))))
      (apart_append (opens_of (cycle n goal c first)) (opens_of (flat_map (cycle n goal c) (numbers (suc first) count))) (cycle_apart first) (cycles_apart (suc first) count)
      (λ p d e. (let (z, a, o) = opened first p d in let (lo, hi, b, r) = cycles_opened (suc first) count p e in omega arith)))

  pub program_opened : (p : ℕ × ℕ) → Contains (opens_of (program n goal c)) p → (p.0 < c.count) × Contains (needed n goal c p.0) p.1 × IsOpenAt n c.start p.0 p.1
  program_opened p h = let (lo, hi, a, o) = cycles_opened 0 c.count p h in ((omega arith), a, o)

  pub program_apart : AreApart (opens_of (program n goal c))
  program_apart = cycles_apart 0 c.count

pub told_is : (y : Assignment) (fs : List Free) (f : Free) → AreApart (map pair fs) → Contains fs f → told_by y fs f.cycle f.place ≡ y f.var
told_is y [] f a c = absurd (none_in f c)
told_is y (g ∷ fs) f a c = elim (cases_in g fs f c) as (λ _. cond (eqb g.cycle f.cycle && eqb g.place f.place) (y g.var) (told_by y fs f.cycle f.place) ≡ y f.var) [
  | inl e ↦
      ap (λ (b : Bool). cond b (y g.var) (told_by y fs f.cycle f.place)) (and_both (eqb g.cycle f.cycle) (eqb g.place f.place) (eq-eqb g.cycle f.cycle (ap (λ (h : Free). h.cycle) e)) (eq-eqb g.place f.place (ap (λ (h : Free). h.place) e)))
      ∙ ap (λ (h : Free). y h.var) e
  | inr d ↦ by (eqb g.cycle f.cycle && eqb g.place f.place) refl (told_is y fs f a.1 d) d
]
  where
    by : (b : Bool) → (eqb g.cycle f.cycle && eqb g.place f.place) ≡ b → told_by y fs f.cycle f.place ≡ y f.var → Contains fs f → cond b (y g.var) (told_by y fs f.cycle f.place) ≡ y f.var
    by true e rest d =
        let (p, q) = both_and (eqb g.cycle f.cycle) (eqb g.place f.place) e in
        let z : pair g ≡ pair f = ap (λ (t : ℕ). let r : ℕ × ℕ = (t, g.place) in r) (eqb-true g.cycle f.cycle p) ∙ ap (λ (v : ℕ). let r : ℕ × ℕ = (f.cycle, v) in r) (eqb-true g.place f.place q) in
        absurd (a.0 (subst (Contains (map pair fs)) (sym z) (in_map pair fs f d)))
    by false e rest d = rest

-- the bit of an open variable
abbrev pub picked : (ℕ → ℕ → Bool) → List Free → ℕ → Bool
picked i [] v = false
picked i (f ∷ fs) v = cond (eqb f.var v) (i f.cycle f.place) (picked i fs v)
