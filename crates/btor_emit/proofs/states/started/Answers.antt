use Rattle.btor_emit.proofs.Leaves.{may_start, started_one}
use Rattle.btor_emit.proofs.states.started.Goals as goal

pub begin-requires : goal.begin-requires
begin-requires c = may_start c.args.draft.now c.constant.new.draft c.free.new.draft c.in_ok-value.value c.in_ok-word.word c.args.bits.now c.in_ok-value.ensures.row c.in_ok-word.ensures c.requires.untied c.requires.first

pub returns : goal.returns
returns c = started_one c.args.draft.now c.constant.new.draft c.free.new.draft c.begin.new.draft c.in_ok-value.value c.in_ok-word.word c.args.bits.now _ c.in_ok-value.ensures.row c.in_ok-word.ensures c.in_ok-begin.ensures.btor c.in_ok-begin.ensures.ok
