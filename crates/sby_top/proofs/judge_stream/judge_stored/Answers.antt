use Rattle.std.proofs.Common.{subst}
use Rattle.std.proofs.lemmas.Result.{IfOk-weaker}
use Rattle.sby_top.specs.Steps.{PathEnds}
use Rattle.sby_top.proofs.JudgeLemmas.{path_judged, same_file, wanting_at}
use Rattle.sby_top.proofs.judge_stream.judge_stored.Goals as goal

pub returns-in_default-clause-ok : goal.returns-in_default-clause-ok
returns-in_default-clause-ok g c =
    wanting_at c.args.problem.now (g.F.Files.told c.args.files.now) c.args.job c.args.path.now c.in_ok-first.first.items 65536 c.args.kind c.requires.named c.requires.serves c.in_ok-first.ensures.got

pub feed_all-requires-clause-file : goal.feed_all-requires-clause-file
feed_all-requires-clause-file g c = same_file c.args.problem.now c.in-Ok.judge.asked c.args.job c.in-Ok.judge.job c.in-Ok.ensures.asked c.in-Ok.ensures.job c.has_file.ensures

pub returns-clause-ok : goal.returns-clause-ok
returns-clause-ok g c =
    IfOk-weaker c.feed_all.result _ _
    (λ end ends. path_judged c.args.problem.now (g.F.Files.told c.args.files.now) c.args.job c.args.path.now c.args.kind c.in-Ok.judge end c.requires.named c.requires.serves c.in-Ok.ensures.asked c.in-Ok.ensures.job
    c.in-Ok.ensures.kind
    (subst (λ t. PathEnds c.in-Ok.judge t c.args.path.now end) c.in_ok-first.ensures.told ends)) c.feed_all.ensures.ok
