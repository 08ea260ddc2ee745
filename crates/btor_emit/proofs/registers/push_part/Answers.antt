use Rattle.btor_emit.proofs.Nexting.{may_go_on, next_by}
use Rattle.btor_emit.proofs.registers.push_part.Goals as goal

pub next-requires : goal.next-requires
next-requires c = may_go_on c.args.draft.now c.slice.new.draft c.in_ok-part.part c.args.state _ c.in_ok-part.ensures.row c.requires.some c.requires.state c.requires.first

pub returns : goal.returns
returns c = next_by c.args.draft.now c.slice.new.draft c.next.new.self c.in_ok-part.part c.args.state _ _ c.in_ok-part.ensures.row c.in_ok-next.ensures.ok c.promise.ensures.btor
