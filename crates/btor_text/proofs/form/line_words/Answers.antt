use Rattle.std.proofs.Common.{◌∙◌}
use Rattle.btor_text.specs.Grammar.{words_of}
use Rattle.btor_text.proofs.Worded.{first_word, later_word}
use Rattle.btor_text.proofs.form.line_words.Goals as goal

pub returns-clause-nid : goal.returns-clause-nid
returns-clause-nid c = first_word (words_of c.args.line.now) (words_of c.next_word-nid.result.rest.now) c.next_word-nid.result.first.now c.next_word-nid.ensures.word c.next_word-nid.ensures.none

pub returns-clause-key : goal.returns-clause-key
returns-clause-key c = first_word (words_of c.next_word-nid.result.rest.now) (words_of c.next_word-key.result.rest.now) c.next_word-key.result.first.now c.next_word-key.ensures.word c.next_word-key.ensures.none ∙ later_word (words_of c.args.line.now) (words_of c.next_word-nid.result.rest.now) c.next_word-nid.result.first.now 0 c.next_word-nid.ensures.word c.next_word-nid.ensures.none

pub returns-clause-first : goal.returns-clause-first
returns-clause-first c = first_word (words_of c.next_word-key.result.rest.now) (words_of c.next_word-first.result.rest.now) c.next_word-first.result.first.now c.next_word-first.ensures.word c.next_word-first.ensures.none ∙ later_word (words_of c.next_word-nid.result.rest.now) (words_of c.next_word-key.result.rest.now) c.next_word-key.result.first.now 0 c.next_word-key.ensures.word c.next_word-key.ensures.none ∙ later_word (words_of c.args.line.now) (words_of c.next_word-nid.result.rest.now) c.next_word-nid.result.first.now 1 c.next_word-nid.ensures.word c.next_word-nid.ensures.none

pub returns-clause-second : goal.returns-clause-second
returns-clause-second c = first_word (words_of c.next_word-first.result.rest.now) (words_of c.next_word-second.result.rest.now) c.next_word-second.result.first.now c.next_word-second.ensures.word c.next_word-second.ensures.none ∙ later_word (words_of c.next_word-key.result.rest.now) (words_of c.next_word-first.result.rest.now) c.next_word-first.result.first.now 0 c.next_word-first.ensures.word c.next_word-first.ensures.none ∙ later_word (words_of c.next_word-nid.result.rest.now) (words_of c.next_word-key.result.rest.now) c.next_word-key.result.first.now 1 c.next_word-key.ensures.word c.next_word-key.ensures.none ∙ later_word (words_of c.args.line.now) (words_of c.next_word-nid.result.rest.now) c.next_word-nid.result.first.now 2 c.next_word-nid.ensures.word c.next_word-nid.ensures.none

pub returns-clause-third : goal.returns-clause-third
returns-clause-third c = first_word (words_of c.next_word-second.result.rest.now) (words_of c.next_word-third.result.rest.now) c.next_word-third.result.first.now c.next_word-third.ensures.word c.next_word-third.ensures.none ∙ later_word (words_of c.next_word-first.result.rest.now) (words_of c.next_word-second.result.rest.now) c.next_word-second.result.first.now 0 c.next_word-second.ensures.word c.next_word-second.ensures.none ∙ later_word (words_of c.next_word-key.result.rest.now) (words_of c.next_word-first.result.rest.now) c.next_word-first.result.first.now 1 c.next_word-first.ensures.word c.next_word-first.ensures.none ∙ later_word (words_of c.next_word-nid.result.rest.now) (words_of c.next_word-key.result.rest.now) c.next_word-key.result.first.now 2 c.next_word-key.ensures.word c.next_word-key.ensures.none ∙ later_word (words_of c.args.line.now) (words_of c.next_word-nid.result.rest.now) c.next_word-nid.result.first.now 3 c.next_word-nid.ensures.word c.next_word-nid.ensures.none

pub returns-clause-fourth : goal.returns-clause-fourth
returns-clause-fourth c = first_word (words_of c.next_word-third.result.rest.now) (words_of c.next_word-fourth.result.rest.now) c.next_word-fourth.result.first.now c.next_word-fourth.ensures.word c.next_word-fourth.ensures.none ∙ later_word (words_of c.next_word-second.result.rest.now) (words_of c.next_word-third.result.rest.now) c.next_word-third.result.first.now 0 c.next_word-third.ensures.word c.next_word-third.ensures.none ∙ later_word (words_of c.next_word-first.result.rest.now) (words_of c.next_word-second.result.rest.now) c.next_word-second.result.first.now 1 c.next_word-second.ensures.word c.next_word-second.ensures.none ∙ later_word (words_of c.next_word-key.result.rest.now) (words_of c.next_word-first.result.rest.now) c.next_word-first.result.first.now 2 c.next_word-first.ensures.word c.next_word-first.ensures.none ∙ later_word (words_of c.next_word-nid.result.rest.now) (words_of c.next_word-key.result.rest.now) c.next_word-key.result.first.now 3 c.next_word-key.ensures.word c.next_word-key.ensures.none ∙ later_word (words_of c.args.line.now) (words_of c.next_word-nid.result.rest.now) c.next_word-nid.result.first.now 4 c.next_word-nid.ensures.word c.next_word-nid.ensures.none

pub returns-clause-more : goal.returns-clause-more
returns-clause-more c = first_word (words_of c.next_word-fourth.result.rest.now) (words_of c.next_word-more.result.rest.now) c.next_word-more.result.first.now c.next_word-more.ensures.word c.next_word-more.ensures.none ∙ later_word (words_of c.next_word-third.result.rest.now) (words_of c.next_word-fourth.result.rest.now) c.next_word-fourth.result.first.now 0 c.next_word-fourth.ensures.word c.next_word-fourth.ensures.none ∙ later_word (words_of c.next_word-second.result.rest.now) (words_of c.next_word-third.result.rest.now) c.next_word-third.result.first.now 1 c.next_word-third.ensures.word c.next_word-third.ensures.none ∙ later_word (words_of c.next_word-first.result.rest.now) (words_of c.next_word-second.result.rest.now) c.next_word-second.result.first.now 2 c.next_word-second.ensures.word c.next_word-second.ensures.none ∙ later_word (words_of c.next_word-key.result.rest.now) (words_of c.next_word-first.result.rest.now) c.next_word-first.result.first.now 3 c.next_word-first.ensures.word c.next_word-first.ensures.none ∙ later_word (words_of c.next_word-nid.result.rest.now) (words_of c.next_word-key.result.rest.now) c.next_word-key.result.first.now 4 c.next_word-key.ensures.word c.next_word-key.ensures.none ∙ later_word (words_of c.args.line.now) (words_of c.next_word-nid.result.rest.now) c.next_word-nid.result.first.now 5 c.next_word-nid.ensures.word c.next_word-nid.ensures.none
