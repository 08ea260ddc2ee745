use Rattle.btor_text.specs.Form.{seen}
use Rattle.btor_text.proofs.Forth.{words_exact}
use Rattle.btor_text.proofs.form.read_line.Goals as goal

pub returns-clause-spelt : goal.returns-clause-spelt
returns-clause-spelt c =
    let w = c.line_words-words.result in
    let e = c.line_words-words.ensures in
    words_exact c.args.line.now (seen c.words_said.result) w.nid.now w.key.now w.first.now w.second.now w.third.now w.fourth.now w.more.now e.nid e.key e.first e.second e.third e.fourth e.more c.words_said.ensures.said
