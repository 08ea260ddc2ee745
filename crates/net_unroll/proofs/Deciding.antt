-- What an assignment tells solves what is asked, and what solves it gives one.
use Rattle.std.proofs.Common.{◌≡◌, ◌⊎◌, ℕ, zero, suc, ◌+◌, ◌-◌, ◌<◌, ◌≤◌, max, Bool, true, false, not, ◌&&◌, cond, List, [], ◌∷◌, Option, Some, None, refl, sym, ap, ◌∙◌, subst, inl, inr, arith, map, eqb}
use Rattle.std.specs.Prelude.{Contains, option_map, slice_get}
use Rattle.std.specs.List.{filter}
use Rattle.std.proofs.lemmas.Bool.{cases_Bool, eq-eqb, eqb-true}
use Rattle.std.proofs.lemmas.List.Elements.{All-contains, Contains-append_cases, Contains-append_left, Contains-append_right}
use Rattle.cnf_form.specs.Cnf.{Assignment, LitOf, LitWithin, Satisfies, lit_in, negate}
use Rattle.cnf_form.specs.declared.literal.TheConstants.{MAX_VARS}
use Rattle.gate_graph.specs.Kept.{clauses_from}
use Rattle.bit_net.specs.Net.{IsNet, NetOf, input_var, state_var, vars}
use Rattle.bit_net.specs.Needs.{Extends, IsNeed, PartWindow}
use Rattle.bit_net.specs.Reaching.{numbers}
use Rattle.bit_net.specs.declared.node.State.{State}
use Rattle.bit_net.proofs.Extending.{extend, get_less, state_of, state_of_input, state_of_state}
use Rattle.bit_net.proofs.Lists.{IsRisingFrom, and_both, both_and, cases_in, filter_in, get_in, head_in, in_filter, in_map, in_numbers, map_in, none_in, not_both, rising_above, tail_in}
use Rattle.net_unroll.specs.Asking.{AreCycles, Solvable, Solves, goal_of}
use Rattle.net_unroll.specs.Encoding.{encoding, encoding_for, finished, formula_of, is_kept, made, made_for, number, renumbered, renumbered_free, vars_for}
use Rattle.net_unroll.specs.Program.{needed}
use Rattle.net_unroll.specs.Promises.{CanBeSatisfied, IsOpenAt, IsTold, cycles_told, first_true, told_by}
use Rattle.net_unroll.specs.Promises.IsOpenAt.{an_input, a_state}
use Rattle.net_unroll.specs.declared.asking.Asked.{Asked}
use Rattle.net_unroll.specs.declared.asking.Asked.TheVariants.{Asserts, Cover}
use Rattle.net_unroll.specs.declared.asking.Cycles.{Cycles}
use Rattle.net_unroll.specs.declared.encoded.Free.{Free}
use Rattle.net_unroll.proofs.Finished.{goal_kept, new_of, old_of}
use Rattle.net_unroll.proofs.Means.{open_vars}
use Rattle.net_unroll.proofs.Opening.{AreApart, pair, picked, program_opened, told_is}
use Rattle.net_unroll.proofs.Saying.{V, after, assumed_same, assumed_told, ends, goal_same, ok_told}
use Rattle.net_unroll.proofs.Solving.{apart, goals_are, pairs, well}

-- the bit of an open place, if there is one
pub told_cases : (y : Assignment) (fs : List Free) (t v : ℕ) → ((f : Free) × Contains fs f × (f.cycle ≡ t) × (f.place ≡ v) × (told_by y fs t v ≡ y f.var)) ⊎ (((f : Free) → Contains fs f → f.cycle ≡ t → f.place ≡ v → ⊥) × (told_by y fs t v ≡ false))
told_cases y [] t v = inr ((λ f c p q. none_in f c), refl)
told_cases y (f ∷ fs) t v = by (eqb f.cycle t && eqb f.place v) refl (told_cases y fs t v)
  where
    by : (b : Bool) → (eqb f.cycle t && eqb f.place v) ≡ b →
        ((g : Free) × Contains fs g × (g.cycle ≡ t) × (g.place ≡ v) × (told_by y fs t v ≡ y g.var)) ⊎ (((g : Free) → Contains fs g → g.cycle ≡ t → g.place ≡ v → ⊥) × (told_by y fs t v ≡ false)) →
        ((g : Free) × Contains (f ∷ fs) g × (g.cycle ≡ t) × (g.place ≡ v) × (cond b (y f.var) (told_by y fs t v) ≡ y g.var)) ⊎ (((g : Free) → Contains (f ∷ fs) g → g.cycle ≡ t → g.place ≡ v → ⊥) × (cond b (y f.var) (told_by y fs t v) ≡ false))
    by true e rest = let (p, q) = both_and (eqb f.cycle t) (eqb f.place v) e in inl (f, head_in f fs, eqb-true f.cycle t p, eqb-true f.place v q, refl)
    by false e (inl (g, c, p, q, r)) = inl (g, tail_in f g fs c, p, q, r)
    by false e (inr (none, r)) = inr (
      (λ g c p q. elim (cases_in f fs g c) as (λ _. ⊥) [
        | inl z ↦ (
            let a : eqb f.cycle t ≡ true = eq-eqb f.cycle t (ap (λ (h : Free). h.cycle) z ∙ p) in
            let b : eqb f.place v ≡ true = eq-eqb f.place v (ap (λ (h : Free). h.place) z ∙ q) in
            let w : true ≡ false = sym (and_both (eqb f.cycle t) (eqb f.place v) a b) ∙ e in cc)
        | inr d ↦ none g d p q
      ]),
      r,
    )

apart_same : (fs : List Free) (f g : Free) → AreApart (map pair fs) → Contains fs f → Contains fs g → pair f ≡ pair g → f ≡ g
apart_same [] f g a c d e = absurd (none_in f c)
apart_same (h ∷ fs) f g a c d e = elim (cases_in h fs f c) as (λ _. f ≡ g) [
  | inl p ↦ elim (cases_in h fs g d) as (λ _. f ≡ g) [
    | inl q ↦ sym p ∙ q
    | inr q ↦ absurd (a.0 (subst (Contains (map pair fs)) (sym e ∙ ap pair (sym p)) (in_map pair fs g q)))
  ]
  | inr p ↦ elim (cases_in h fs g d) as (λ _. f ≡ g) [
    | inl q ↦ absurd (a.0 (subst (Contains (map pair fs)) (e ∙ ap pair (sym q)) (in_map pair fs f p)))
    | inr q ↦ apart_same fs f g a.1 p q e
  ]
]

-- those that are kept stand apart too
apart_kept : (k : ℕ → Bool) (fs : List Free) → AreApart (map pair fs) → AreApart (map pair (map (renumbered_free k) (filter (λ f. k f.var) fs)))
apart_kept k [] a = tt
apart_kept k (f ∷ fs) a = by (k f.var) (apart_kept k fs a.1)
  where
    by : (b : Bool) → AreApart (map pair (map (renumbered_free k) (filter (λ g. k g.var) fs))) → AreApart (map pair (map (renumbered_free k) (cond b (f ∷ filter (λ g. k g.var) fs) (filter (λ g. k g.var) fs))))
    by true rest = (
      (λ c.
          let (g, d, e) = map_in pair (map (renumbered_free k) (filter (λ g. k g.var) fs)) (pair f) c in
          let (h, i, z) = map_in (renumbered_free k) (filter (λ g. k g.var) fs) g d in
          let (j, t) = filter_in (λ (g : Free). k g.var) fs h i in
          a.0 (subst (Contains (map pair fs)) (ap pair z ∙ e) (in_map pair fs h j))),
      rest,
    )
    by false rest = rest

picked_is : (i : ℕ → ℕ → Bool) (fs : List Free) (low : ℕ) (f : Free) → IsRisingFrom low (open_vars fs) → Contains fs f → picked i fs f.var ≡ i f.cycle f.place
picked_is i [] low f r c = absurd (none_in f c)
picked_is i (g ∷ fs) low f r c = elim (cases_in g fs f c) as (λ _. cond (eqb g.var f.var) (i g.cycle g.place) (picked i fs f.var) ≡ i f.cycle f.place) [
  | inl e ↦ ap (λ (b : Bool). cond b (i g.cycle g.place) (picked i fs f.var)) (eq-eqb g.var f.var (ap (λ (h : Free). h.var) e)) ∙ ap (λ (h : Free). i h.cycle h.place) e
  | inr d ↦
      let above = rising_above (suc g.var) (open_vars fs) f.var r.1 (in_map (λ (h : Free). h.var) fs f d) in
      ap (λ (b : Bool). cond b (i g.cycle g.place) (picked i fs f.var)) (not_both (eqb g.var f.var) (λ e. (let z = eqb-true g.var f.var e in omega arith)))
      ∙ picked_is i fs (suc g.var) f r.1 d
]

-- places in lists of bits
numbers_at : (f : ℕ → Bool) (low k j : ℕ) (b : Bool) → slice_get (map f (numbers low k)) j ≡ Some b → (j < k) × (b ≡ f (low + j))
numbers_at f low zero j b h = absurd (let z : None ≡ Some b = h in cc)
numbers_at f low (suc k) zero b h = ((omega arith), (let z : Some (f low) ≡ Some b = h in let w : f low ≡ b = cc in sym w ∙ ap f (let e : low ≡ low + 0 = omega arith in e)))
numbers_at f low (suc k) (suc j) b h = let (l, e) = numbers_at f (suc low) k j b h in ((omega arith), e ∙ ap f (let z : suc low + j ≡ low + suc j = omega arith in z))

first_true_at : (x : Assignment) (ls : List LitOf) (l : LitOf) → Contains ls l → lit_in x l ≡ true → slice_get (map (lit_in x) ls) (first_true x ls) ≡ Some true
first_true_at x [] l c e = absurd (none_in l c)
first_true_at x (k ∷ ls) l c e = by (lit_in x k) refl (λ d. first_true_at x ls l d e)
  where
    by : (b : Bool) → lit_in x k ≡ b → (Contains ls l → slice_get (map (lit_in x) ls) (first_true x ls) ≡ Some true) → slice_get (lit_in x k ∷ map (lit_in x) ls) (cond b 0 (suc (first_true x ls))) ≡ Some true
    by true q rest = ap Some q
    by false q rest = elim (cases_in k ls l c) as (λ _. slice_get (map (lit_in x) ls) (first_true x ls) ≡ Some true) [
      | inl z ↦ absurd (let w : true ≡ false = sym e ∙ ap (lit_in x) (sym z) ∙ q in cc)
      | inr d ↦ rest d
    ]

lits_same : (k : ℕ → Bool) (x y : Assignment) (ls : List LitOf) → ((l : LitOf) → Contains ls l → lit_in x (renumbered k l) ≡ lit_in y l) → map (lit_in x) (map (renumbered k) ls) ≡ map (lit_in y) ls
lits_same k x y [] h = refl
lits_same k x y (l ∷ ls) h = ap (λ (b : Bool). b ∷ map (lit_in x) (map (renumbered k) ls)) (h l (head_in l ls)) ∙ ap (λ (bs : List Bool). lit_in y l ∷ bs) (lits_same k x y ls (λ j c. h j (tail_in l j ls c)))

module _ (n : NetOf) (net : IsNet n) (goal : LitOf) (within : LitWithin (vars n) goal) (c : Cycles) (few : (made_for n goal c).core.vars ≤ MAX_VARS) where
  abbrev keeps : ℕ → Bool
  keeps = is_kept (made_for n goal c)

  goal_lit : (x y : Assignment) → ((v : ℕ) → 0 < v → v ≤ (made_for n goal c).core.vars → keeps v ≡ true → x (number keeps v) ≡ y v) → (l : LitOf) → Contains (made_for n goal c).goals l → lit_in x (renumbered keeps l) ≡ lit_in y l
  goal_lit x y same l d =
      let (lo, hi) = All-contains (LitWithin (made_for n goal c).core.vars) (made_for n goal c).goals l (well n net goal within c few).goals d in
      ap (λ (b : Bool). cond l.negated (not b) b) (same l.var lo hi (goal_kept (suc (vars n)) (made_for n goal c) (well n net goal within c few) l d))

  -- a free variable that is kept
  pub kept_free : (f : Free) → Contains (finished (made_for n goal c)).free f → (g : Free) × Contains (made_for n goal c).free g × (keeps g.var ≡ true) × (renumbered_free keeps g ≡ f)
  kept_free f d =
      let (g, i, e) = map_in (renumbered_free keeps) (filter (λ h. keeps h.var) (made_for n goal c).free) f d in
      let (j, t) = filter_in (λ (h : Free). keeps h.var) (made_for n goal c).free g i in
      (g, j, t, e)

  free_kept : (g : Free) → Contains (made_for n goal c).free g → keeps g.var ≡ true → Contains (finished (made_for n goal c)).free (renumbered_free keeps g)
  free_kept g d t = in_map (renumbered_free keeps) (filter (λ h. keeps h.var) (made_for n goal c).free) g (in_filter (λ (h : Free). keeps h.var) (made_for n goal c).free g d t)

  pub free_apart : AreApart (map pair (finished (made_for n goal c)).free)
  free_apart = apart_kept keeps (made_for n goal c).free (apart n net goal within c few)

  -- what a free variable stands for is open, and needed in its cycle
  pub free_open : (f : Free) → Contains (finished (made_for n goal c)).free f → (f.cycle < c.count) × IsOpenAt n c.start f.cycle f.place
  free_open f d =
      let (g, i, t, e) = kept_free f d in
      let (l, a, o) = program_opened n net goal c (pair g) (subst (λ (ps : List (ℕ × ℕ)). Contains ps (pair g)) (pairs n net goal within c few) (in_map pair (made_for n goal c).free g i)) in
      let q : pair g ≡ pair f = ap pair e in (
        subst (λ (p : ℕ × ℕ). p.0 < c.count) q l,
        subst (λ (p : ℕ × ℕ). IsOpenAt n c.start p.0 p.1) q o,
      )

  -- where the goal of a cycle is told to be met, the cycles up to it solve what is asked
  told_solves : (i : ℕ → ℕ → Bool) (xs : ℕ → Assignment) (t : ℕ) (a : Asked) → goal_of n a ≡ Some goal → max c.first c.end ≤ t → t < c.count → ends n net goal c i t ≡ true → AreCycles c.start n (suc t) xs →
      ((u v : ℕ) → u < suc t → IsOpenAt n c.start u v → Contains (needed n goal c u) v → i u v ≡ xs u v) → Solves n a c (suc t) xs
  told_solves i xs t a is low high end cycles fits =
      let most : suc t ≤ c.count = omega arith in
      let (assumed, rest) = both_and (after n net goal c i (suc t)).assumed ((after n net goal c i t).ok && lit_in (V n net goal c i t) goal) end in
      let (ok, last) = both_and (after n net goal c i t).ok (lit_in (V n net goal c i t) goal) rest in
      record {
        some = omega arith;
        most = most;
        cycles = cycles;
        assumed = λ u l. sym (assumed_same n net goal c i (suc t) most xs cycles fits u l) ∙ (assumed_told n net goal c i (suc t)).0 assumed u l;
        ends = λ u e. ((omega arith), (omega arith));
        before = λ u l late meets. (let (g, q, h) = meets in
            let z : Some goal ≡ Some g = sym is ∙ q in
            let g_is : goal ≡ g = cc in
            let told_false : lit_in (V n net goal c i u) goal ≡ false = (ok_told n net goal c i t).0 ok u (omega arith) late in
            let told_true : lit_in (V n net goal c i u) goal ≡ true = goal_same n net goal c i (suc t) most xs cycles fits within u (omega arith) late ∙ subst (λ (b : LitOf). lit_in (xs u) b ≡ true) (sym g_is) h in
            let w : true ≡ false = sym told_true ∙ told_false in cc);
        last = λ u e. (
          goal,
          is,
          (
              let z : t ≡ u = omega arith in
              subst (λ (v : ℕ). lit_in (xs v) goal ≡ true) z (sym (goal_same n net goal c i (suc t) most xs cycles fits within t (omega arith) (omega arith)) ∙ last)),
        );
      }

  -- and back
  solves_told : (i : ℕ → ℕ → Bool) (xs : ℕ → Assignment) (t : ℕ) (a : Asked) → goal_of n a ≡ Some goal → Solves n a c (suc t) xs → ((u v : ℕ) → u < suc t → IsOpenAt n c.start u v → Contains (needed n goal c u) v → i u v ≡ xs u v) → ends n net goal c i t ≡ true
  solves_told i xs t a is solves fits =
      let most = solves.most in
      let (late, over) = solves.ends t refl in
      and_both (after n net goal c i (suc t)).assumed ((after n net goal c i t).ok && lit_in (V n net goal c i t) goal)
      ((assumed_told n net goal c i (suc t)).1 (λ u l. assumed_same n net goal c i (suc t) most xs solves.cycles fits u l ∙ solves.assumed u l))
      (and_both (after n net goal c i t).ok (lit_in (V n net goal c i t) goal)
      ((ok_told n net goal c i t).1 (λ u l early.
      goal_same n net goal c i (suc t) most xs solves.cycles fits within u (omega arith) early ∙ not_both (lit_in (xs u) goal) (λ e. solves.before u (omega arith) early (goal, is, e))))
      (goal_same n net goal c i (suc t) most xs solves.cycles fits within t (omega arith) late
      ∙ (let (g, q, h) = solves.last t refl in
      let z : Some goal ≡ Some g = sym is ∙ q in
      let g_is : goal ≡ g = cc in
      subst (λ (b : LitOf). lit_in (xs t) b ≡ true) (sym g_is) h)))

  module _ (x : Assignment) (s : Satisfies x (formula_of (finished (made_for n goal c))).clauses) where
    front : Satisfies x (clauses_from (finished (made_for n goal c)).gates)
    front d h = s d (Contains-append_left (clauses_from (finished (made_for n goal c)).gates) ((finished (made_for n goal c)).goals ∷ []) d h)

    met : slice_get (map (lit_in x) (finished (made_for n goal c)).goals) (first_true x (finished (made_for n goal c)).goals) ≡ Some true
    met =
        let (l, i, e) = s (finished (made_for n goal c)).goals (Contains-append_right (clauses_from (finished (made_for n goal c)).gates) ((finished (made_for n goal c)).goals ∷ []) (finished (made_for n goal c)).goals (head_in (finished (made_for n goal c)).goals [])) in
        first_true_at x (finished (made_for n goal c)).goals l i e

    -- the bits of the gates are those that are told
    fits : (xs : ℕ → Assignment) → IsTold n c (finished (made_for n goal c)) x xs → (y : Assignment) → ((v : ℕ) → 0 < v → v ≤ (made_for n goal c).core.vars → keeps v ≡ true → x (number keeps v) ≡ y v) →
        ((v : ℕ) → Contains (open_vars (made_for n goal c).free) v → y v ≡ (keeps v && x (number keeps v))) →
        (u v : ℕ) → u < cycles_told c (finished (made_for n goal c)) x → IsOpenAt n c.start u v → told_by y (made_for n goal c).free u v ≡ xs u v
    fits xs told y same bits u v l o = elim (told_cases y (made_for n goal c).free u v) as (λ _. told_by y (made_for n goal c).free u v ≡ xs u v) [
      | inl (f, d, p, q, e) ↦
          let i = in_map (λ (h : Free). h.var) (made_for n goal c).free f d in
          elim (cases_Bool (keeps f.var)) as (λ _. told_by y (made_for n goal c).free u v ≡ xs u v) [
            | inl t ↦
                let (lo, hi) = (well n net goal within c few).kept.gates.inputs_within f.var i in
                let there = told.bits (renumbered_free keeps f) (free_kept f d t) (omega arith) in
                e ∙ sym (same f.var lo hi t) ∙ sym there ∙ ap (λ (w : ℕ). xs w f.place) p ∙ ap (xs u) q
            | inr t ↦
                let none : y f.var ≡ false = bits f.var i ∙ ap (λ (b : Bool). b && x (number keeps f.var)) t in
                e ∙ none ∙ sym (told.rest u v l o (λ g h a b.
                (let (r, j, k, z) = kept_free g h in
                let same_pair : pair r ≡ pair f = ap pair z ∙ ap (λ (w : ℕ). let pr : ℕ × ℕ = (w, g.place) in pr) (a ∙ sym p) ∙ ap (λ (w : ℕ). let pr : ℕ × ℕ = (f.cycle, w) in pr) (b ∙ sym q) in
                let one = apart_same (made_for n goal c).free r f (apart n net goal within c few) j d same_pair in
                let yes : keeps f.var ≡ true = subst (λ (w : Free). keeps w.var ≡ true) one k in
                let w : true ≡ false = sym yes ∙ t in cc)))
          ]
      | inr (none, e) ↦ e ∙ sym (told.rest u v l o (λ g h a b. (let (r, j, k, z) = kept_free g h in none r j (ap (λ (w : Free). w.cycle) z ∙ a) (ap (λ (w : Free). w.place) z ∙ b))))
    ]

    pub decode : (xs : ℕ → Assignment) → AreCycles c.start n (cycles_told c (finished (made_for n goal c)) x) xs → IsTold n c (finished (made_for n goal c)) x xs → (a : Asked) → goal_of n a ≡ Some goal →
        Solves n a c (cycles_told c (finished (made_for n goal c)) x) xs
    decode xs cycles told a is =
        let w = well n net goal within c few in
        let (y, sy, same, bits) = old_of (suc (vars n)) (made_for n goal c) w x front in
        let goals = goals_are n net goal within c few (told_by y (made_for n goal c).free) y sy (λ f d. sym (told_is y (made_for n goal c).free f (apart n net goal within c few) d)) in
        let lits = lits_same keeps x y (made_for n goal c).goals (goal_lit x y same) in
        let (short, true_is) = numbers_at (ends n net goal c (told_by y (made_for n goal c).free)) (max c.first c.end) (c.count - max c.first c.end) (first_true x (finished (made_for n goal c)).goals) true
        (subst (λ (bs : List Bool). slice_get bs (first_true x (finished (made_for n goal c)).goals) ≡ Some true) (lits ∙ goals) met) in
        told_solves (told_by y (made_for n goal c).free) xs (max c.first c.end + first_true x (finished (made_for n goal c)).goals) a is (omega arith) (omega arith) (sym true_is) cycles
        (λ u v l o d. fits xs told y same bits u v l o)

    -- no more is told than there are cycles
    pub short : cycles_told c (finished (made_for n goal c)) x ≤ c.count
    short =
        let w = well n net goal within c few in
        let (y, sy, same, bits) = old_of (suc (vars n)) (made_for n goal c) w x front in
        let goals = goals_are n net goal within c few (told_by y (made_for n goal c).free) y sy (λ f d. sym (told_is y (made_for n goal c).free f (apart n net goal within c few) d)) in
        let lits = lits_same keeps x y (made_for n goal c).goals (goal_lit x y same) in
        let (l, true_is) = numbers_at (ends n net goal c (told_by y (made_for n goal c).free)) (max c.first c.end) (c.count - max c.first c.end) (first_true x (finished (made_for n goal c)).goals) true
        (subst (λ (bs : List Bool). slice_get bs (first_true x (finished (made_for n goal c)).goals) ≡ Some true) (lits ∙ goals) met) in
        omega arith

  pub encode : (xs : ℕ → Assignment) (t : ℕ) (a : Asked) → goal_of n a ≡ Some goal → Solves n a c (suc t) xs → CanBeSatisfied (formula_of (finished (made_for n goal c)))
  encode xs t a is solves =
      let w = well n net goal within c few in
      let (y, sy, agree) = w.kept.gates.extends (λ v. picked xs (made_for n goal c).free v) in
      let bits : (f : Free) → Contains (made_for n goal c).free f → y f.var ≡ xs f.cycle f.place = λ f d.
      sym (agree f.var (in_map (λ (h : Free). h.var) (made_for n goal c).free f d)) ∙ picked_is xs (made_for n goal c).free 2 f w.opens d in
      let goals = goals_are n net goal within c few xs y sy bits in
      let end = solves_told xs xs t a is solves (λ u v l o d. refl) in
      let (late, over) = solves.ends t refl in
      let most = solves.most in
      let place : Contains (numbers (max c.first c.end) (c.count - max c.first c.end)) t = in_numbers (max c.first c.end) (c.count - max c.first c.end) t (omega arith) (omega arith) in
      let there = in_map (ends n net goal c xs) (numbers (max c.first c.end) (c.count - max c.first c.end)) t place in
      let (l, d, e) = map_in (lit_in y) (made_for n goal c).goals (ends n net goal c xs t) (subst (λ (bs : List Bool). Contains bs (ends n net goal c xs t)) (sym goals) there) in
      let (x, sx, same) = new_of (suc (vars n)) (made_for n goal c) w y sy in
      let value : lit_in x (renumbered keeps l) ≡ true = goal_lit x y same l d ∙ e ∙ end in (
        x,
        λ k h. elim (Contains-append_cases (clauses_from (finished (made_for n goal c)).gates) ((finished (made_for n goal c)).goals ∷ []) k h) as (λ _. (r : LitOf) × Contains k r × (lit_in x r ≡ true)) [
          | inl i ↦ sx k i
          | inr i ↦ elim (cases_in (finished (made_for n goal c)).goals [] k i) as (λ _. (r : LitOf) × Contains k r × (lit_in x r ≡ true)) [
            | inl z ↦ subst (λ (q : List LitOf). (r : LitOf) × Contains q r × (lit_in x r ≡ true)) z (renumbered keeps l, in_map (renumbered keeps) (made_for n goal c).goals l d, value)
            | inr z ↦ absurd (none_in k z)
          ]
        ],
      )

-- cycles with the bits that are told
abbrev digit_or : Option Bool → Bool → Bool
digit_or None b = b
digit_or (Some d) b = d

abbrev state_digit : Option State → Bool → Bool
state_digit None b = b
state_digit (Some s) b = digit_or s.start b

module _ (n : NetOf) (net : IsNet n) (start : Bool) (count : ℕ) (i : ℕ → ℕ → Bool) where
  abbrev chosen : ℕ → ℕ → Bool
  chosen t v = cond (start && eqb t 0) (state_digit (state_of n v) (i t v)) (i t v)

  nothing_needed : IsNeed n count (λ t v. false)
  nothing_needed = record { gates = λ t k g o l at h d. absurd (let z : false ≡ true = h in cc); states = λ t k s l at h. absurd (let z : false ≡ true = h in cc) }

  nothing_part : PartWindow n count (λ t v. false) (λ t v. true)
  nothing_part = record {
    truth = λ t l. refl;
    gates = λ t k g l at h. absurd (let z : false ≡ true = h in cc);
    follows = λ t k s l at h. absurd (let z : false ≡ true = h in cc);
  }

  chosen_open : (t v : ℕ) → IsOpenAt n start t v → chosen t v ≡ i t v
  chosen_open t v o = by (start && eqb t 0) refl o
    where
      by : (b : Bool) → (start && eqb t 0) ≡ b → IsOpenAt n start t v → cond b (state_digit (state_of n v) (i t v)) (i t v) ≡ i t v
      by false e o = refl
      by true e (an_input k l q) = ap (λ (s : Option State). state_digit s (i t v)) (ap (state_of n) q ∙ state_of_input n k)
      by true e (a_state k s at q z free) =
          let (a, b) = both_and start (eqb t 0) e in
          ap (λ (r : Option State). state_digit r (i t v)) (ap (state_of n) q ∙ state_of_state n k (get_less n.states k s at) ∙ at) ∙ none (free a)
        where
          none : s.start ≡ None → digit_or s.start (i t v) ≡ i t v
          none e = ap (λ (d : Option Bool). digit_or d (i t v)) e

  pub some_cycles : (xs : ℕ → Assignment) × AreCycles start n count xs × ((t v : ℕ) → t < count → IsOpenAt n start t v → xs t v ≡ i t v)
  some_cycles =
      let (ys, e) = extend n count (λ t v. false) (λ t v. chosen t v) (λ t v. true) net nothing_needed nothing_part in
      (ys, by start refl ys e, λ t v l o. here ys e t v o)
    where
      digit : (s : State) (b d : Bool) → s.start ≡ Some b → digit_or s.start d ≡ b
      digit s b d e = ap (λ (o : Option Bool). digit_or o d) e

      by : (b : Bool) → start ≡ b → (ys : ℕ → Assignment) → Extends n count (λ t v. false) (λ t v. chosen t v) (λ t v. true) ys → AreCycles b n count ys
      by true q ys e = record {
        window = e.window;
        starts = λ l k s b at d.
            let first : (start && eqb 0 0) ≡ true = and_both start (eqb 0 0) q refl in
            e.states k s at refl
            ∙ ap (λ (z : Bool). cond z (state_digit (state_of n (state_var k)) (i 0 (state_var k))) (i 0 (state_var k))) first
            ∙ ap (λ (r : Option State). state_digit r (i 0 (state_var k))) (state_of_state n k (get_less n.states k s at) ∙ at)
            ∙ digit s b (i 0 (state_var k)) d;
      }
      by false q ys e = e.window

      here : (ys : ℕ → Assignment) → Extends n count (λ t v. false) (λ t v. chosen t v) (λ t v. true) ys → (t v : ℕ) → IsOpenAt n start t v → ys t v ≡ i t v
      here ys e t v (an_input k l q) = subst (λ (w : ℕ). ys t w ≡ i t w) (sym q) (e.inputs t k l refl ∙ chosen_open t (input_var n k) (an_input k l refl))
      here ys e t v (a_state k s at q z free) =
          subst (λ (w : ℕ). ys t w ≡ i t w) (sym q) (subst (λ (u : ℕ). ys u (state_var k) ≡ i u (state_var k)) (sym z) (e.states k s at refl ∙ chosen_open 0 (state_var k) (a_state k s at refl refl free)))

module _ (n : NetOf) (net : IsNet n) (goal : LitOf) (within : LitWithin (vars n) goal) (c : Cycles) (few : (made_for n goal c).core.vars ≤ MAX_VARS) (x : Assignment) where
  pub some_told : (xs : ℕ → Assignment) × AreCycles c.start n (cycles_told c (finished (made_for n goal c)) x) xs × IsTold n c (finished (made_for n goal c)) x xs
  some_told =
      let (xs, cycles, open_bits) = some_cycles n net c.start (cycles_told c (finished (made_for n goal c)) x) (told_by x (finished (made_for n goal c)).free) in (
        xs,
        cycles,
        record {
          bits = λ f d l. (let (m, o) = free_open n net goal within c few f d in open_bits f.cycle f.place l o ∙ told_is x (finished (made_for n goal c)).free f (free_apart n net goal within c few) d);
          rest = λ t v l o none. open_bits t v l o ∙ (elim (told_cases x (finished (made_for n goal c)).free t v) as (λ _. told_by x (finished (made_for n goal c)).free t v ≡ false) [
            | inl (f, d, p, q, e) ↦ absurd (none f d p q)
            | inr (z, e) ↦ e
          ]);
        },
      )

-- the literal of what is asked is a net's
pub goal_within : (n : NetOf) (a : Asked) (goal : LitOf) → IsNet n → goal_of n a ≡ Some goal → LitWithin (vars n) goal
goal_within n Asserts goal net e = by n.asserted refl e
  where
    by : (o : Option LitOf) → n.asserted ≡ o → option_map negate o ≡ Some goal → LitWithin (vars n) goal
    by None q h = absurd (let z : None ≡ Some goal = h in cc)
    by (Some l) q h = let z : Some (negate l) ≡ Some goal = h in let w : negate l ≡ goal = cc in subst (LitWithin (vars n)) w (let (lo, hi) = net.asserted l q in (lo, hi))
goal_within n (Cover k) goal net e = All-contains (LitWithin (vars n)) n.covers goal net.covers (get_in n.covers k goal e)

-- the laws
pub solvable_law : (n : NetOf) (a : Asked) (c : Cycles) → IsNet n → made n a c ≤ MAX_VARS → (CanBeSatisfied (formula_of (encoding n a c)) → Solvable n a c) × (Solvable n a c → CanBeSatisfied (formula_of (encoding n a c)))
solvable_law n a c net few = by (goal_of n a) refl few
  where
    some : (m : ℕ) (xs : ℕ → Assignment) → Solves n a c m xs → (t : ℕ) × (m ≡ suc t)
    some zero xs s = absurd (let z = s.some in omega arith)
    some (suc t) xs s = (t, refl)

    by : (o : Option LitOf) → goal_of n a ≡ o → vars_for n c o ≤ MAX_VARS → (CanBeSatisfied (formula_of (encoding_for n c o)) → Solvable n a c) × (Solvable n a c → CanBeSatisfied (formula_of (encoding_for n c o)))
    by None e l = (
      (λ (x, s). absurd (let (k, i, v) = s [] (head_in [] []) in none_in k i)),
      (λ (m, xs, s). absurd (
          let (t, q) = some m xs s in
          let (g, r, h) = s.last t (sym q) in
          let z : None ≡ Some g = sym e ∙ r in cc)),
    )
    by (Some goal) e l =
        let within = goal_within n a goal net e in (
          (λ (x, s).
              let (xs, cycles, told) = some_told n net goal within c l x in
              (cycles_told c (finished (made_for n goal c)) x, xs, decode n net goal within c l x s xs cycles told a e)),
          (λ (m, xs, s).
              let (t, q) = some m xs s in
              encode n net goal within c l xs t a e (subst (λ (k : ℕ). Solves n a c k xs) q s)),
        )

pub told_law : (n : NetOf) (a : Asked) (c : Cycles) → IsNet n → made n a c ≤ MAX_VARS → (x : Assignment) → (xs : ℕ → Assignment) × AreCycles c.start n (cycles_told c (encoding n a c) x) xs × IsTold n c (encoding n a c) x xs
told_law n a c net few x = by (goal_of n a) refl few
  where
    by : (o : Option LitOf) → goal_of n a ≡ o → vars_for n c o ≤ MAX_VARS → (xs : ℕ → Assignment) × AreCycles c.start n (cycles_told c (encoding_for n c o) x) xs × IsTold n c (encoding_for n c o) x xs
    by None e l =
        let (xs, cycles, open_bits) = some_cycles n net c.start (cycles_told c (encoding_for n c None) x) (λ t v. false) in
        (xs, cycles, record { bits = λ f d k. absurd (none_in f d); rest = λ t v k o none. open_bits t v k o })
    by (Some goal) e l = some_told n net goal (goal_within n a goal net e) c l x

nothing_met : (x : Assignment) → Satisfies x ([] ∷ []) → ⊥
nothing_met x s = let (k, i, v) = s [] (head_in [] []) in none_in k i

pub few_law : (n : NetOf) (a : Asked) (c : Cycles) → IsNet n → made n a c ≤ MAX_VARS → (x : Assignment) → Satisfies x (formula_of (encoding n a c)).clauses → cycles_told c (encoding n a c) x ≤ c.count
few_law n a c net few x = by (goal_of n a) refl few
  where
    by : (o : Option LitOf) → goal_of n a ≡ o → vars_for n c o ≤ MAX_VARS → Satisfies x (formula_of (encoding_for n c o)).clauses → cycles_told c (encoding_for n c o) x ≤ c.count
    by None e l s = absurd (nothing_met x s)
    by (Some goal) e l s = short n net goal (goal_within n a goal net e) c l x s

pub solves_law : (n : NetOf) (a : Asked) (c : Cycles) → IsNet n → made n a c ≤ MAX_VARS → (x : Assignment) (xs : ℕ → Assignment) → Satisfies x (formula_of (encoding n a c)).clauses → AreCycles c.start n (cycles_told c (encoding n a c) x) xs →
    IsTold n c (encoding n a c) x xs → Solves n a c (cycles_told c (encoding n a c) x) xs
solves_law n a c net few x xs = by (goal_of n a) refl few
  where
    by : (o : Option LitOf) → goal_of n a ≡ o → vars_for n c o ≤ MAX_VARS → Satisfies x (formula_of (encoding_for n c o)).clauses → AreCycles c.start n (cycles_told c (encoding_for n c o) x) xs → IsTold n c (encoding_for n c o) x xs →
        Solves n a c (cycles_told c (encoding_for n c o) x) xs
    by None e l s cycles told = absurd (nothing_met x s)
    by (Some goal) e l s cycles told = decode n net goal (goal_within n a goal net e) c l x s xs cycles told a e
