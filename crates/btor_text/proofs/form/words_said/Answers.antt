use Rattle.std.proofs.Common.{sym, ◌∙◌}
use Rattle.btor_text.proofs.Bare.{body_bare}
use Rattle.btor_text.proofs.form.words_said.Goals as goal

pub returns-clause-bare : goal.returns-clause-bare
returns-clause-bare c =
    let w = c.args.words.now in
    body_bare w.key.now w.first.now w.second.now w.third.now w.fourth.now w.more.now c.in_ok-body.body (sym c.body_said.ensures ∙ c.in_ok-body.was)
