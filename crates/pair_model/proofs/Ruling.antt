-- Invariants of the formula of two cycles, as conditions on a model's cycles.
use Rattle.std.proofs.Common.{ℕ, zero, suc, ◌<◌, List, refl, subst, sym, arith, add-one}
use Rattle.cnf_form.specs.Cnf.{LitOf}
use Rattle.induct_rule.specs.Induction.{IsRun}
use Rattle.invariant_rule.specs.Invariant.{IsInductive}
use Rattle.invariant_rule.proofs.Rule.{rules_out}
use Rattle.model_core.specs.Claims.{Shows}
use Rattle.model_core.specs.Meaning.{Assumed, Broken, Cycle, Follows, Frame, Run, Starts}
use Rattle.model_core.specs.Shape.{ModelOf}
use Rattle.pair_form.specs.Pair.{IsInvariant, PairOf}
use Rattle.pair_form.specs.declared.pair.Frame.TheVariants.{First, Second}
use Rattle.pair_model.specs.Meaning.{HoldOf, IsPairOf}
use Rattle.pair_model.proofs.Over.{holds_of, satisfied_by}

module _ (m : ModelOf) where
  -- a cycle whose assumptions hold
  abbrev pub Counts : Cycle → Type 0
  Counts c = Frame m c × Assumed m c

  -- it breaks no assertion
  abbrev pub IsFine : Cycle → Type 0
  IsFine c = (a : ℕ) → Broken m c a → ⊥

  run_of : (cs : ℕ → Cycle) (last : ℕ) → Run m (suc last) cs → ((t : ℕ) → t < suc last → Assumed m (cs t)) → IsRun (Starts m) (Follows m) Counts cs last
  run_of cs last r assumed = record {
    starts = r.starts;
    window = record {
      assumed = λ t le. (r.window.frames t (omega arith), assumed t (omega arith));
      follows = λ t lt. subst (λ (n : ℕ). Follows m (cs t) (cs n)) (sym (add-one t)) (r.window.follows t (omega arith));
    };
  }

  module _ (places : List ℕ) (p : PairOf) (I : List (List LitOf)) (is : IsPairOf m places p) where
    abbrev Holds : Cycle → Type 0
    Holds c = HoldOf places p I c

    pub inductive : IsInvariant p I → IsInductive (Starts m) (Follows m) Counts IsFine Holds
    inductive inv = record {
      starts = λ c starts counts.
          let r = is.lone c counts.0 counts.1 in
          holds_of places p First r.0 c is.placed r.3.first I (inv.starts r.0 r.2 (r.3.start.1 starts));
      goes_on = λ c e counts holds follows next.
          let r = is.complete c e counts.0 next.0 follows counts.1 in
          holds_of places p Second r.0 e is.placed r.2.second I
          (inv.goes_on r.0 r.1 (satisfied_by places p First r.0 c is.placed r.2.first I holds) (r.2.next.1 next.1));
      safe = λ c counts holds breaks.
          breaks (λ a broken.
          let r = is.lone c counts.0 counts.1 in
          inv.safe r.0 r.2 (satisfied_by places p First r.0 c is.placed r.3.first I holds) (r.3.bad.1 (a, broken)));
    }

    pub invariant : IsInductive (Starts m) (Follows m) Counts IsFine Holds → IsInvariant p I
    invariant ind = record {
      starts = λ x sat start.
          let r = is.sound x sat in
          satisfied_by places p First x r.0 is.placed r.6.first I (ind.starts r.0 (r.6.start.0 start) (r.2, r.5));
      goes_on = λ x sat held next.
          let r = is.sound x sat in
          satisfied_by places p Second x r.1 is.placed r.6.second I
          (ind.goes_on r.0 r.1 (r.2, r.5) (holds_of places p First x r.0 is.placed r.6.first I held) r.4 (r.3, r.6.next.0 next));
      safe = λ x sat held bad.
          let r = is.sound x sat in
          let b = r.6.bad.0 bad in
          ind.safe r.0 (r.2, r.5) (holds_of places p First x r.0 is.placed r.6.first I held) (λ fine. fine b.0 b.1);
    }

    pub no_break : IsInvariant p I → (n : ℕ) (cs : ℕ → Cycle) (a : ℕ) → 0 < n → Shows m n cs a → ⊥
    no_break inv zero cs a lt s = absurd (omega arith)
    no_break inv (suc last) cs a lt s =
        rules_out (Starts m) (Follows m) Counts IsFine Holds (inductive inv) cs last (run_of cs last s.run s.assumed) (λ fine. fine a (s.last last refl))
