use Rattle.std.proofs.Common.{subst, sym}
use Rattle.cnf_form.specs.Reading.{Gap}
use Rattle.cnf_form.proofs.Scanning.{parts_of, slice_to_end}
use Rattle.cnf_form.proofs.scan.next_word.Goals as goal

pub returns-clause-parts : goal.returns-clause-parts
returns-clause-parts c =
    let g = subst (Gap c.args.comments c.args.fresh c.args.bytes.now) (sym (slice_to_end c.args.bytes.now c.gap_len-start.result)) c.gap_len-start.ensures.gap in
    parts_of c.args.comments c.args.fresh c.args.bytes.now _ c.word_len-len.result g c.word_len-len.ensures.within c.word_len-len.ensures.visible c.word_len-len.ensures.ends
