use Rattle.std.proofs.Common.{◌∙◌, List, ℕ, ap, subst, sym}
use Rattle.cnf_form.specs.Dimacs.{dimacs_text}
use Rattle.net_unroll.specs.Encoding.{EncodedOf, formula_of}
use Rattle.pair_form.specs.Pair.{PairOf}
use Rattle.pair_form.specs.Text.{pair_text}
use Rattle.sby_terms.specs.declared.names.JobName.{JobName}
use Rattle.judge.specs.Problem.{IsJob, IsJobFile}
use Rattle.judge.proofs.Files.{file-is, pair-is}
use Rattle.judge.proofs.Problems.{apart_by}
use Rattle.judge.proofs.problem.Problem.job_file.Goals as goal

pub encoded-requires : goal.encoded-requires
encoded-requires c = (c.requires, apart_by c.args.job c.in-Base.is)

pub returns-in_ok-encoded-in-Base : goal.returns-in_ok-encoded-in-Base
returns-in_ok-encoded-in-Base c =
    subst (λ (bytes : List ℕ). IsJobFile c.args.self.now c.args.job bytes) (sym (c.of_formula.ensures ∙ ap (λ (e : EncodedOf). dimacs_text (formula_of e)) c.in_ok-encoded-in-Base.ensures))
    (file-is c.args.self.now c.flat-flat.ensures.problem c.args.job (c.requires, apart_by c.args.job c.in-Base.is))

pub pair-requires : goal.pair-requires
pair-requires c = subst (IsJob c.args.self.now) c.in-Inv.is c.requires

pub returns-in_ok-pair-in-Inv : goal.returns-in_ok-pair-in-Inv
returns-in_ok-pair-in-Inv c =
    subst (λ (j : JobName). IsJobFile c.args.self.now j c.of_pair.result) (sym c.in-Inv.is)
    (subst (λ (bytes : List ℕ). IsJobFile c.args.self.now _ bytes) (sym (c.of_pair.ensures ∙ ap (λ (q : PairOf). pair_text q) c.in_ok-pair-in-Inv.ensures))
    (pair-is c.args.self.now c.flat-flat.ensures.problem (subst (IsJob c.args.self.now) c.in-Inv.is c.requires)))
