-- What is claimed of a task follows from what is promised of it.
use Rattle.std.proofs.Common.{◌≡◌, ◌≢◌, ◌⊎◌, ◌∙◌, ℕ, List, sym, subst, inl, inr}
use Rattle.std.specs.Prelude.{Some, None}
use Rattle.design_core.specs.Shape.{DesignOf}
use Rattle.design_meaning.specs.Claims.{NeverBreak, NoBreak}
use Rattle.sby_terms.specs.declared.names.Mode.TheVariants.{Bmc, Prove, ProveInv, Cover}
use Rattle.sby_terms.specs.declared.names.Status.TheVariants.{Pass, Fail, Memory}
use Rattle.sby_top.specs.Claims.{AreShownReaches, HasPrinted, IsDesignOf, IsNamedUnreached, IsShownBreak}
use Rattle.sby_top.specs.Headline.{AreLines, Code, Cut, Exit, FailClaim, HasOwnStatus, IsPrinted, IsShown, IsTrueOf, PassClaim, TaskRan}
use Rattle.sby_top.specs.Promise.{IsProve}
use Rattle.sby_words.specs.Requests.{Request}
use Rattle.sby_words.specs.Words.{Asks}
use Rattle.sby_top.specs.Run.{Did, IsNothing, UsageAlone}
use Rattle.sby_top.specs.Task.{TaskOf}
use Rattle.sby_top.specs.World.{Moments, World}
use Rattle.sby_top.specs.declared.outcome.Done.{Done}
use Rattle.sby_top.specs.declared.outcome.TaskEnd.{TaskEnd}

pub pass_claimed : (may_read : ℕ → Type 0) (number : ℕ) (moments : Moments) (task : TaskOf) (end : TaskEnd) (exit : Exit) → TaskRan may_read number moments task end exit → end.status ≡ Pass → task.request.mode ≡ Bmc
    → (d : DesignOf) × IsDesignOf moments task end d × NoBreak d task.request.span.skip task.request.span.depth
pass_claimed may_read number moments task end exit ran status bmc =
    let is : IsTrueOf moments.got.told task end.text (PassClaim Bmc task end) = subst (λ m. IsTrueOf moments.got.told task end.text (PassClaim m task end)) bmc (ran.pass status) in
    (is.1.0, record { got = is.0; reads = is.1.1; flat = is.1.2 }, is.1.3)

pub prove_pass_claimed : (may_read : ℕ → Type 0) (number : ℕ) (moments : Moments) (task : TaskOf) (end : TaskEnd) (exit : Exit) → TaskRan may_read number moments task end exit → end.status ≡ Pass → IsProve task.request.mode
    → (d : DesignOf) × IsDesignOf moments task end d × NeverBreak d
prove_pass_claimed may_read number moments task end exit ran status (inl prove) =
    let is : IsTrueOf moments.got.told task end.text (PassClaim Prove task end) = subst (λ m. IsTrueOf moments.got.told task end.text (PassClaim m task end)) prove (ran.pass status) in
    (is.1.0, record { got = is.0; reads = is.1.1; flat = is.1.2 }, is.1.3)
prove_pass_claimed may_read number moments task end exit ran status (inr prove) =
    let is : IsTrueOf moments.got.told task end.text (PassClaim ProveInv task end) = subst (λ m. IsTrueOf moments.got.told task end.text (PassClaim m task end)) prove (ran.pass status) in
    (is.1.0, record { got = is.0; reads = is.1.1; flat = is.1.2 }, is.1.3)

whole_or_cut : (moments : Moments) (task : TaskOf) (end : TaskEnd) (exit : Exit)
    → IsPrinted task.request.name moments.before.taken moments.after.taken moments.before.sink_faults moments.after.sink_faults moments.after.ended (AreLines task end) task.request.expect (HasOwnStatus task end) end.status exit → end.status ≢ Memory
    → (lines : List (List ℕ)) × AreLines task end lines × HasPrinted moments lines
whole_or_cut moments task end (Code rc) printed apart = elim printed.2.2 [
  | inl whole ↦ (printed.2.0, printed.2.1, inl (printed.0, whole.1))
  | inr part ↦ absurd (apart part.0)
]
whole_or_cut moments task end Cut printed apart = (printed.2.0, printed.2.1, inr (printed.0, printed.2.3))

shown_break : (may_read : ℕ → Type 0) (number : ℕ) (moments : Moments) (task : TaskOf) (end : TaskEnd) (exit : Exit) → TaskRan may_read number moments task end exit → end.status ≡ Fail → IsTrueOf moments.got.told task end.text (IsShown task end) → IsShownBreak moments task end
shown_break may_read number moments task end exit ran status is =
    let shown = is.1.3 in
    let printed = whole_or_cut moments task end exit ran.printed (λ e. let z : Fail ≡ Memory = sym status ∙ e in cc) in
    record {
      design = is.1.0;
      is_design = record { got = is.0; reads = is.1.1; flat = is.1.2 };
      run = shown.run;
      assertion = shown.assertion;
      cell = shown.cell;
      slice = shown.slice;
      carried = shown.carried;
      breaks = record { rows = shown.rows; behind = shown.behind; within = shown.within; shows = shown.shows; first = shown.first; is_cell = shown.is_cell };
      lines = printed.0;
      are_lines = printed.1;
      shown = shown.printed printed.0 printed.1;
      printed = printed.2;
    }

pub fail_claimed : (may_read : ℕ → Type 0) (number : ℕ) (moments : Moments) (task : TaskOf) (end : TaskEnd) (exit : Exit) → TaskRan may_read number moments task end exit → end.status ≡ Fail → task.request.mode ≡ Bmc → IsShownBreak moments task end
fail_claimed may_read number moments task end exit ran status bmc = shown_break may_read number moments task end exit ran status (subst (λ m. IsTrueOf moments.got.told task end.text (FailClaim m task end)) bmc (ran.fail status))

pub prove_fail_claimed : (may_read : ℕ → Type 0) (number : ℕ) (moments : Moments) (task : TaskOf) (end : TaskEnd) (exit : Exit) → TaskRan may_read number moments task end exit → end.status ≡ Fail → IsProve task.request.mode → IsShownBreak moments task end
prove_fail_claimed may_read number moments task end exit ran status (inl prove) = shown_break may_read number moments task end exit ran status (subst (λ m. IsTrueOf moments.got.told task end.text (FailClaim m task end)) prove (ran.fail status))
prove_fail_claimed may_read number moments task end exit ran status (inr prove) = shown_break may_read number moments task end exit ran status (subst (λ m. IsTrueOf moments.got.told task end.text (FailClaim m task end)) prove (ran.fail status))

pub cover_pass_claimed : (may_read : ℕ → Type 0) (number : ℕ) (moments : Moments) (task : TaskOf) (end : TaskEnd) (exit : Exit) → TaskRan may_read number moments task end exit → end.status ≡ Pass → task.request.mode ≡ Cover → AreShownReaches moments task end
cover_pass_claimed may_read number moments task end exit ran status cover =
    let is : IsTrueOf moments.got.told task end.text (PassClaim Cover task end) = subst (λ m. IsTrueOf moments.got.told task end.text (PassClaim m task end)) cover (ran.pass status) in
    let printed = whole_or_cut moments task end exit ran.printed (λ e. let z : Pass ≡ Memory = sym status ∙ e in cc) in
    record {
      design = is.1.0;
      is_design = record { got = is.0; reads = is.1.1; flat = is.1.2 };
      lines = printed.0;
      are_lines = printed.1;
      each = λ k lt. let shown = is.1.3 k lt in record {
        run = shown.run;
        cell = shown.cell;
        carried = shown.carried;
        reaches = record { rows = shown.rows; within = shown.within; reaches = shown.reaches; is_cell = shown.is_cell };
        shown = shown.printed printed.0 printed.1;
      };
      printed = printed.2;
    }

pub cover_fail_claimed : (may_read : ℕ → Type 0) (number : ℕ) (moments : Moments) (task : TaskOf) (end : TaskEnd) (exit : Exit) → TaskRan may_read number moments task end exit → end.status ≡ Fail → task.request.mode ≡ Cover → IsNamedUnreached moments task end
cover_fail_claimed may_read number moments task end exit ran status cover =
    let is : IsTrueOf moments.got.told task end.text (FailClaim Cover task end) = subst (λ m. IsTrueOf moments.got.told task end.text (FailClaim m task end)) cover (ran.fail status) in
    let printed = whole_or_cut moments task end exit ran.printed (λ e. let z : Fail ≡ Memory = sym status ∙ e in cc) in
    let unreached = is.1.3.2 in
    record {
      design = is.1.0;
      is_design = record { got = is.0; reads = is.1.1; flat = is.1.2 };
      statement = is.1.3.0;
      cell = unreached.cell;
      is_cell = unreached.is_cell;
      unreached = unreached.none;
      lines = printed.0;
      are_lines = printed.1;
      named = unreached.printed printed.0 printed.1;
      printed = printed.2;
    }

pub usage_of_refused : (may_read : ℕ → Type 0) (before after : World) (words : List (List ℕ)) (done : Done) → Did may_read before after words done → ((request : Request) → Asks words request → ⊥) → UsageAlone before after done ⊎ IsNothing before after done
usage_of_refused may_read before after words done (inl (None, asked, usage)) refused = inl usage
usage_of_refused may_read before after words done (inl (Some request, asks, run)) refused = absurd (refused request asks)
usage_of_refused may_read before after words done (inr nothing) refused = inr nothing
