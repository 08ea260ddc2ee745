-- The invariant rule, over any relations.
use Rattle.std.proofs.Common.{◌≡◌, ℕ, zero, suc, ◌+◌, ◌≤◌, refl, subst, sym, arith, add-one, inl, inr}
use Rattle.std.proofs.lemmas.Bool.Decides.{leb_tells}
use Rattle.std.specs.Prelude.{leb, cond}
use Rattle.induct_rule.specs.Induction.{IsRun, Breaks, NeverBreaks}
use Rattle.invariant_rule.specs.Invariant.{IsInductive, IsReached}

module _ {State : Type 0} (Starts : State → Type 0) (Follows : State → State → Type 0) (Assumed Ok : State → Type 0) where
  module _ (Holds : State → Type 0) (inductive : IsInductive Starts Follows Assumed Ok Holds) where
    -- an inductive condition holds at the end of each run
    pub holds : (last : ℕ) (states : ℕ → State) → IsRun Starts Follows Assumed states last → Holds (states last)
    holds zero states run = inductive.starts (states 0) run.starts (run.window.assumed 0 (omega arith))
    holds (suc last) states run =
        let before : IsRun Starts Follows Assumed states last = record {
          starts = run.starts;
          window = record {
            assumed = λ cycle le. run.window.assumed cycle (omega arith);
            follows = λ cycle lt. run.window.follows cycle (omega arith);
          };
        } in
        let step = subst (λ (next : ℕ). Follows (states last) (states next)) (add-one last) (run.window.follows last (omega arith)) in
        inductive.goes_on (states last) (states (suc last)) (run.window.assumed last (omega arith)) (holds last states before) step (run.window.assumed (suc last) (omega arith))

    -- where some condition is inductive no run breaks
    pub rules_out : NeverBreaks Starts Follows Assumed Ok
    rules_out states last run = inductive.safe (states last) (run.window.assumed last (omega arith)) (holds last states run)

  -- a run with one state more
  abbrev longer : (ℕ → State) → ℕ → State → ℕ → State
  longer states last next cycle = cond (leb cycle last) (states cycle) next

  early : (states : ℕ → State) (last : ℕ) (next : State) (cycle : ℕ) → cycle ≤ last → longer states last next cycle ≡ states cycle
  early states last next cycle le = elim (leb_tells cycle last) as (λ _. longer states last next cycle ≡ states cycle) [
    | inl low ↦ rw low.0 refl
    | inr high ↦ absurd (let n = high.1 in omega arith)
  ]

  late : (states : ℕ → State) (last : ℕ) (next : State) → longer states last next (last + 1) ≡ next
  late states last next = elim (leb_tells (last + 1) last) as (λ _. longer states last next (last + 1) ≡ next) [
    | inl low ↦ absurd (let n = low.1 in omega arith)
    | inr high ↦ rw high.0 refl
  ]

  longer_run : (states : ℕ → State) (last : ℕ) (next : State) → IsRun Starts Follows Assumed states last → Follows (states last) next → Assumed next →
      IsRun Starts Follows Assumed (longer states last next) (last + 1)
  longer_run states last next run step assumed = record {
    starts = subst Starts (sym (early states last next 0 (omega arith))) run.starts;
    window = record {
      assumed = λ cycle le. elim (leb_tells cycle last) as (λ _. Assumed (longer states last next cycle)) [
        | inl low ↦ subst Assumed (sym (early states last next cycle low.1)) (run.window.assumed cycle low.1)
        | inr high ↦
            let n = high.1 in
            let end : last + 1 ≡ cycle = omega arith in
            subst (λ (k : ℕ). Assumed (longer states last next k)) end (subst Assumed (sym (late states last next)) assumed)
      ];
      follows = λ cycle lt. elim (leb_tells (cycle + 1) last) as (λ _. Follows (longer states last next cycle) (longer states last next (cycle + 1))) [
        | inl low ↦
            let y = low.1 in
            subst (λ (s : State). Follows s (longer states last next (cycle + 1))) (sym (early states last next cycle (omega arith)))
            (subst (Follows (states cycle)) (sym (early states last next (cycle + 1) y)) (run.window.follows cycle (omega arith)))
        | inr high ↦
            let n = high.1 in
            let end : last ≡ cycle = omega arith in
            subst (λ (k : ℕ). Follows (longer states last next k) (longer states last next (k + 1))) end
            (subst (λ (s : State). Follows s (longer states last next (last + 1))) (sym (early states last next last (omega arith)))
            (subst (Follows (states last)) (sym (late states last next)) step))
      ];
    };
  }

  -- where no run breaks, what runs reach is inductive
  pub reached : NeverBreaks Starts Follows Assumed Ok → IsInductive Starts Follows Assumed Ok (IsReached Starts Follows Assumed)
  reached never = record {
    starts = λ state starts assumed. (
      (λ cycle. state),
      0,
      record { starts = starts; window = record { assumed = λ cycle le. assumed; follows = λ cycle lt. absurd (omega arith) } },
      refl,
    );
    goes_on = λ state next before at step assumed. (
      longer at.0 at.1 next,
      at.1 + 1,
      longer_run at.0 at.1 next at.2 (subst (λ (s : State). Follows s next) (sym at.3) step) assumed,
      late at.0 at.1 next,
    );
    safe = λ state assumed at breaks. never at.0 at.1 at.2 (subst (Breaks Ok) (sym at.3) breaks);
  }
