use Rattle.std.proofs.Common.{sym, subst}
use Rattle.std.proofs.lemmas.Result.{IfOk-weaker}
use Rattle.design_meaning.specs.Meaning.{Broken}
use Rattle.sby_lines.specs.Broken.{IsFirstBroken}
use Rattle.sby_lines.proofs.BrokenLemmas.{last_alone, named_text}
use Rattle.sby_lines.proofs.tell_run.broken_text.Goals as goal

pub unreachable-requires : goal.unreachable-requires
unreachable-requires c = let alone = c.in_ok-last.ensures in
    let same = last_alone c.args.flat.now c.args.played.now c.in_ok-last.last alone.0 alone.1 alone.2 in
    let broken = c.requires.broken in
    c.in-None.ensures broken.0 (subst (λ v. Broken c.args.flat.now v broken.0) (sym same) broken.1)

pub returns : goal.returns
returns c = let alone = c.in_ok-last.ensures in
    let same = last_alone c.args.flat.now c.args.played.now c.in_ok-last.last alone.0 alone.1 alone.2 in
    let first = subst (λ v. IsFirstBroken c.args.flat.now v c.in-Some.number) same c.in-Some.ensures in
    IfOk-weaker c.broken_text.result _ _ (λ t is. named_text c.args.flat.now c.args.played.now c.cycles.result c.in-Some.number c.assert_name.result.now _ c.cycles.ensures first c.assert_name.ensures is) c.broken_text.ensures
