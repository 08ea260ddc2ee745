use Rattle.std.proofs.Common.{get_or, arith}
use Rattle.btor_core.specs.Shape.{bads, constraints}
use Rattle.btor_emit.specs.Said.{is_held}
use Rattle.btor_emit.proofs.Saying.{local_held, no_statement, ready_next, said_next, said_none}
use Rattle.btor_emit.proofs.statements.push_assumes.Goals as goal

pub loop-k-init : goal.loop-k-init
loop-k-init c = said_none constraints bads is_held c.args.draft.now c.args.table.now c.requires.btor c.requires.seats

pub push_assume-requires-clause-a : goal.push_assume-requires-clause-a
push_assume-requires-clause-a c = (ready_next constraints bads is_held c.args.draft.now c.loop-k.draft c.args.table.now c.loop-k.table c.args.assumes.now c.loop-k.k (omega arith) c.loop-k.invariant c.requires.inside).0

pub push_assume-requires-clause-en : goal.push_assume-requires-clause-en
push_assume-requires-clause-en c = (ready_next constraints bads is_held c.args.draft.now c.loop-k.draft c.args.table.now c.loop-k.table c.args.assumes.now c.loop-k.k (omega arith) c.loop-k.invariant c.requires.inside).1

pub loop-k-preserved : goal.loop-k-preserved
loop-k-preserved c =
    said_next constraints bads is_held c.args.draft.now c.loop-k.draft c.args.table.now c.loop-k.table c.args.assumes.now c.loop-k.k (omega arith) c.loop-k.invariant c.push_assume.new.draft c.push_assume.new.table c.in_ok-push_assume.ensures
    (λ a b. local_held a b (get_or c.args.assumes.now c.loop-k.k no_statement))
