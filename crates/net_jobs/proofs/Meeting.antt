-- What is met in a cycle of a net is a job's goal in that of the model.
use Rattle.std.proofs.Common.{◌≡◌, ◌⊎◌, ℕ, zero, suc, ◌+◌, ◌-◌, ◌<◌, ◌≤◌, Bool, true, false, not, Option, Some, None, refl, sym, ap, ◌∙◌, subst, inl, inr, arith, length}
use Rattle.std.specs.Prelude.{option_map}
use Rattle.std.proofs.lemmas.Bool.{cases_Bool, cases_lt}
use Rattle.std.proofs.lemmas.Option.{slice_get_within}
use Rattle.cnf_form.specs.Cnf.{Assignment, LitOf, lit_in, negate}
use Rattle.gate_graph.proofs.OneTable.{lit_negated}
use Rattle.sby_terms.specs.declared.names.JobName.{JobName}
use Rattle.sby_terms.specs.declared.names.JobName.TheVariants.{Base, Step, Inv, Cover}
use Rattle.model_core.specs.Meaning.{Broken, Cycle}
use Rattle.model_core.specs.Meaning as model
use Rattle.model_core.specs.Served.{IsModel}
use Rattle.model_core.specs.Shape.{ModelOf}
use Rattle.bit_net.specs.Net.{Frame, IsNet, NetOf}
use Rattle.bit_net.specs.Net as net
use Rattle.model_core.proofs.Lists.{at_place}
use Rattle.frame_net.specs.NetOf.{IsAlike, IsNetOf}
use Rattle.job_terms.specs.Jobs.{IsGoal}
use Rattle.net_unroll.specs.Asking.{AreCycles, Meets, Solvable as CanSolve}
use Rattle.net_unroll.specs.declared.asking.Asked.{Asked}
use Rattle.net_unroll.specs.declared.asking.Asked.TheVariants as ask
use Rattle.net_unroll.specs.declared.asking.Cycles.{Cycles}
use Rattle.net_jobs.specs.Jobs.{asked_of}

not_true : (x : Assignment) (l : LitOf) → lit_in x (negate l) ≡ true → lit_in x l ≡ false
not_true x l e = by (lit_in x l) (sym (lit_negated x l) ∙ e)
  where
    by : (b : Bool) → not b ≡ true → b ≡ false
    by true h = absurd (let z : false ≡ true = h in cc)
    by false h = refl

-- the first that passes
pub first_met : (f : ℕ → Bool) (low k : ℕ) → f (low + k) ≡ true → (u : ℕ) × (low ≤ u) × (u ≤ low + k) × (f u ≡ true) × ((v : ℕ) → low ≤ v → v < u → f v ≡ false)
first_met f low zero h = (low, omega arith, omega arith, ap f (let e : low ≡ low + 0 = omega arith in e) ∙ h, λ v a b. absurd (omega arith))
first_met f low (suc k) h = by (cases_Bool (f low)) (first_met f (suc low) k (ap f (let e : suc low + k ≡ low + suc k = omega arith in e) ∙ h))
  where
    by : (f low ≡ true) ⊎ (f low ≡ false) → (u : ℕ) × (suc low ≤ u) × (u ≤ suc low + k) × (f u ≡ true) × ((v : ℕ) → suc low ≤ v → v < u → f v ≡ false) →
        (u : ℕ) × (low ≤ u) × (u ≤ low + suc k) × (f u ≡ true) × ((v : ℕ) → low ≤ v → v < u → f v ≡ false)
    by (inl e) rest = (low, omega arith, omega arith, e, λ v a b. absurd (omega arith))
    by (inr e) (u, lo, hi, t, none) = (u, omega arith, omega arith, t, λ v a b. pick v a b (none v))
      where
        pick : (v : ℕ) → low ≤ v → v < u → (suc low ≤ v → v < u → f v ≡ false) → f v ≡ false
        pick v a b rest = elim (cases_lt low v) as (λ _. f v ≡ false) [
          | inl l ↦ rest (omega arith) b
          | inr l ↦ ap f (let z : v ≡ low = omega arith in z) ∙ e
        ]

module _ (m : ModelOf) (n : NetOf) (is : IsModel m) (served : IsNet n) (of : IsNetOf m n) where
  module _ (c : Cycle) (x : Assignment) (f : model.Frame m c) (g : Frame n x) (same : IsAlike m n c x) where
    broken_met : (k : ℕ) → Broken m c k → Meets n ask.Asserts x
    broken_met k b = by n.asserted refl
      where
        by : (o : Option LitOf) → n.asserted ≡ o → Meets n ask.Asserts x
        by None e = absurd (
            let (s, at, en, a) = b in
            let none = of.asserted.0 e in
            let l = slice_get_within m.asserts k s at in
            let z = ap length none in
            omega arith)
        by (Some l) e = (negate l, ap (option_map negate) e, lit_negated x l ∙ ap not (((of.says c x f g same).asserted l e).1 (k, b)))

    met_broken : Meets n ask.Asserts x → (k : ℕ) × Broken m c k
    met_broken (l, e, h) = by n.asserted refl e
      where
        by : (o : Option LitOf) → n.asserted ≡ o → option_map negate o ≡ Some l → (k : ℕ) × Broken m c k
        by None q r = absurd (let z : None ≡ Some l = r in cc)
        by (Some k) q r =
            let z : Some (negate k) ≡ Some l = r in
            let w : negate k ≡ l = cc in
            ((of.says c x f g same).asserted k q).0 (not_true x k (subst (λ (j : LitOf). lit_in x j ≡ true) (sym w) h))

    pub met_goal : (job : JobName) → Meets n (asked_of job) x → IsGoal m job c
    met_goal (Base i) h = met_broken h
    met_goal Step h = met_broken h
    met_goal Inv h = met_broken h
    met_goal (Cover k) (l, e, h) = ((of.says c x f g same).covers k l e).0 h

    pub goal_met : (job : JobName) → IsGoal m job c → Meets n (asked_of job) x
    goal_met (Base i) (k, b) = broken_met k b
    goal_met Step (k, b) = broken_met k b
    goal_met Inv (k, b) = broken_met k b
    goal_met (Cover k) (s, at, en, a) =
        let l = slice_get_within m.covers k s at in
        let z = of.covers in
        let (j, here) = at_place n.covers k (omega arith) in
        (j, here, ((of.says c x f g same).covers k j here).1 (s, at, en, a))

  -- what a net's run says of what is asked, from where it counts
  pub run_solves : (a : Asked) (c : Cycles) → c.start ≡ true → c.end ≤ c.first → (t : ℕ) (xs : ℕ → Assignment) → net.Run n (suc t) xs → ((u : ℕ) → u < suc t → lit_in (xs u) n.assumed ≡ true) → Meets n a (xs t) → c.first ≤ t → suc t ≤ c.count →
      CanSolve n a c
  run_solves a c start over t xs whole assumed (l, e, h) late most =
      let (u, lo, hi, met, none) = first_met (λ v. lit_in (xs v) l) c.first (t - c.first) (ap (λ (v : ℕ). lit_in (xs v) l) (let z : c.first + (t - c.first) ≡ t = omega arith in z) ∙ h) in (
        suc u,
        xs,
        record {
          some = omega arith;
          most = omega arith;
          cycles = subst (λ (b : Bool). AreCycles b n (suc u) xs) (sym start) (record {
            window = record { frames = λ v k. whole.window.frames v (omega arith); follows = λ v k. whole.window.follows v (omega arith) };
            starts = λ k. whole.starts (omega arith);
          });
          assumed = λ v k. assumed v (omega arith);
          ends = λ v k. (omega arith, omega arith);
          before = λ v k early meets. (let (j, q, r) = meets in
              let z : Some l ≡ Some j = sym e ∙ q in
              let w : l ≡ j = cc in
              let no_met = none v early (omega arith) in
              let yes : lit_in (xs v) l ≡ true = subst (λ (b : LitOf). lit_in (xs v) b ≡ true) (sym w) r in
              let y : true ≡ false = sym yes ∙ no_met in cc);
          last = λ v k. (l, e, subst (λ (w : ℕ). lit_in (xs w) l ≡ true) (let z : u ≡ v = omega arith in z) met);
        },
      )
