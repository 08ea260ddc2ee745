-- Two true findings of one problem and job have one answer.
use Rattle.std.specs.Prelude.{◌≡◌, List, Option, Some, None, refl}
use Rattle.std.proofs.Common.{subst, sym}
use Rattle.design_core.specs.Shape.{DesignOf}
use Rattle.design_meaning.specs.Runs.{CycleOf}
use Rattle.design_reader.specs.Grammar.{Reads}
use Rattle.sby_terms.specs.Problem.{ProblemOf}
use Rattle.sby_terms.specs.declared.names.Answer.{Answer}
use Rattle.sby_terms.specs.declared.names.Answer.TheVariants.{Sat, Unsat}
use Rattle.sby_terms.specs.declared.names.JobName.{JobName}
use Rattle.sby_terms.specs.declared.names.JobName.TheVariants.{Base, Step, Inv, Cover}
use Rattle.sby_terms.specs.declared.span.Span.{Span}
use Rattle.judge.specs.Finding.{FindingOf, Claim, IsTrueFinding}
use Rattle.judge.specs.Jobs.{span_of}

apart : (d : DesignOf) (s : Span) (job : JobName) (r t : Option (List CycleOf)) → Claim d s job Unsat r → Claim d s job Sat t → ⊥
apart d s (Base j) r None p q = q
apart d s (Base j) r (Some run) p q = p.0 _ _ q.3.0 q.1 q.2 q.3.1
apart d s Step r t p q = p.0 q.0
apart d s Inv r t p q = q
apart d s (Cover k) r None p q = q
apart d s (Cover k) r (Some run) p q = p.0 _ _ q.1 q.2

one_claim : (d : DesignOf) (s : Span) (job : JobName) (x y : Answer) (r t : Option (List CycleOf)) → Claim d s job x r → Claim d s job y t → x ≡ y
one_claim d s job Unsat Unsat r t p q = refl
one_claim d s job Unsat Sat r t p q = absurd (apart d s job r t p q)
one_claim d s job Sat Unsat r t p q = absurd (apart d s job t r q p)
one_claim d s job Sat Sat r t p q = refl

pub agree_law : (a b : FindingOf) → IsTrueFinding a → IsTrueFinding b → a.problem ≡ b.problem → a.job ≡ b.job → a.answer ≡ b.answer
agree_law a b p q e j =
    let reads : Reads b.problem.text p.design = subst (λ (z : ProblemOf). Reads z.text p.design) e p.reads in
    let other : Claim p.design (span_of b.problem) b.job b.answer b.run = q.claims p.design reads in
    let same : Claim p.design (span_of a.problem) a.job b.answer b.run =
    subst (λ (z : JobName). Claim p.design (span_of a.problem) z b.answer b.run) (sym j) (subst (λ (z : ProblemOf). Claim p.design (span_of z) b.job b.answer b.run) (sym e) other) in
    one_claim p.design (span_of a.problem) a.job a.answer b.answer a.run b.run (p.claims p.design p.reads) same
