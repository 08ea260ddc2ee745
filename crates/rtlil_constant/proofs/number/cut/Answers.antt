use Rattle.rtlil_constant.proofs.ConstantLemmas.{cut_goes}
use Rattle.rtlil_constant.proofs.number.cut.Goals as goal

pub bytes-preserved : goal.bytes-preserved
bytes-preserved c = let i = c.bytes.invariant in cut_goes c.args.word.now c.bytes.rest.now i.0 c.args.mark _ c.in-len1-up.len_at_least c.if-first-mark.false i.1 i.2
