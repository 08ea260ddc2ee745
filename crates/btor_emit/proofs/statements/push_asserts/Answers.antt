use Rattle.std.proofs.Common.{get_or, arith}
use Rattle.btor_core.specs.Shape.{bads, constraints}
use Rattle.btor_emit.specs.Said.{is_broken}
use Rattle.btor_emit.proofs.Saying.{local_broken, no_statement, ready_next, said_next, said_none}
use Rattle.btor_emit.proofs.statements.push_asserts.Goals as goal

pub loop-k-init : goal.loop-k-init
loop-k-init c = said_none bads constraints is_broken c.args.draft.now c.args.table.now c.requires.btor c.requires.seats

pub push_assert-requires-clause-a : goal.push_assert-requires-clause-a
push_assert-requires-clause-a c = (ready_next bads constraints is_broken c.args.draft.now c.loop-k.draft c.args.table.now c.loop-k.table c.args.asserts.now c.loop-k.k (omega arith) c.loop-k.invariant c.requires.inside).0

pub push_assert-requires-clause-en : goal.push_assert-requires-clause-en
push_assert-requires-clause-en c = (ready_next bads constraints is_broken c.args.draft.now c.loop-k.draft c.args.table.now c.loop-k.table c.args.asserts.now c.loop-k.k (omega arith) c.loop-k.invariant c.requires.inside).1

pub loop-k-preserved : goal.loop-k-preserved
loop-k-preserved c =
    said_next bads constraints is_broken c.args.draft.now c.loop-k.draft c.args.table.now c.loop-k.table c.args.asserts.now c.loop-k.k (omega arith) c.loop-k.invariant c.push_assert.new.draft c.push_assert.new.table c.in_ok-push_assert.ensures
    (λ a b. local_broken a b (get_or c.args.asserts.now c.loop-k.k no_statement))
