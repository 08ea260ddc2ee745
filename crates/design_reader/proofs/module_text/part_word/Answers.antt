use Rattle.std.proofs.Common.{◌∙◌, sym, arith}
use Rattle.design_reader.specs.Drafts.{draft_of}
use Rattle.design_reader.proofs.PartLemmas.{joined_fits, joined_step}
use Rattle.design_reader.proofs.module_text.part_word.Goals as goal

pub returns-then-is_word-clause-fits : goal.returns-then-is_word-clause-fits
returns-then-is_word-clause-fits c =
    let kept = joined_fits (draft_of c.args.draft.now) c.args.segments c.join.new.self (omega (arith, c.len.ensures, c.if-len-eq1.false, c.requires.some)) c.requires.rows c.join.ensures in
    (c.requires.target, kept.0, kept.1)

pub signal_word-requires-clause-rows : goal.signal_word-requires-clause-rows
signal_word-requires-clause-rows c =
    (joined_fits (draft_of c.args.draft.now) c.args.segments c.join.new.self (omega (arith, c.len.ensures, c.if-len-eq1.false, c.requires.some)) c.requires.rows c.join.ensures).0

pub returns-clause-step : goal.returns-clause-step
returns-clause-step c =
    rw (joined_step (draft_of c.args.draft.now) c.args.target c.args.segments c.join.new.self c.args.word.now (omega (arith, c.len.ensures, c.if-len-eq1.false, c.requires.some)) c.join.ensures
    (sym c.begins_slice.ensures ∙ c.if-begins_slice.false) (sym c.is_word.ensures ∙ c.if-is_word.false))
    c.signal_word.ensures.step
