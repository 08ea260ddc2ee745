use Rattle.std.proofs.Common.{◌<◌, List, [], get_or, length, take, drop, sym, subst, arith}
use Rattle.std.proofs.lemmas.Option.{slice_get-get_or}
use Rattle.btor_core.specs.Shape.{bads, constraints}
use Rattle.btor_emit.specs.Said.{AreSaid, is_reached}
use Rattle.btor_emit.proofs.Saying.{local_reached, no_statement, none_from, one_from, ready_one, said_more, said_none}
use Rattle.btor_emit.proofs.statements.push_cover.Goals as goal
use Rattle.model_core.specs.Shape.{IsStatement}
use Rattle.model_core.specs.declared.model.Statement.{Statement}
use Rattle.model_core.proofs.Lists.{all_at}

pub push_reached-requires-clause-a : goal.push_reached-requires-clause-a
push_reached-requires-clause-a c =
    let ss = c.args.covers.now in
    let l : c.args.k < length ss = omega arith in
    ready_one c.args.draft.now c.args.table.now (get_or ss c.args.k no_statement).a c.requires.btor c.requires.seats (all_at (IsStatement (length c.args.table.now)) ss c.args.k (get_or ss c.args.k no_statement) c.requires.inside (slice_get-get_or ss c.args.k no_statement l)).0

pub push_reached-requires-clause-en : goal.push_reached-requires-clause-en
push_reached-requires-clause-en c =
    let ss = c.args.covers.now in
    let l : c.args.k < length ss = omega arith in
    ready_one c.args.draft.now c.args.table.now (get_or ss c.args.k no_statement).en c.requires.btor c.requires.seats (all_at (IsStatement (length c.args.table.now)) ss c.args.k (get_or ss c.args.k no_statement) c.requires.inside (slice_get-get_or ss c.args.k no_statement l)).1

pub returns-then-k-covers : goal.returns-then-k-covers
returns-then-k-covers c =
    subst (λ (ss : List Statement). AreSaid bads constraints c.args.draft.now c.args.draft.now c.args.table.now c.args.table.now ss is_reached) (sym (none_from c.args.covers.now c.args.k (omega arith)))
    (said_none bads constraints is_reached c.args.draft.now c.args.table.now c.requires.btor c.requires.seats)

pub returns : goal.returns
returns c =
    let ss = c.args.covers.now in
    let l : c.args.k < length ss = omega arith in
    said_more bads constraints is_reached c.args.draft.now c.args.draft.now c.push_reached.new.draft c.args.table.now c.args.table.now c.push_reached.new.table [] (take 1 (drop c.args.k ss)) (get_or ss c.args.k no_statement) (one_from ss c.args.k (get_or ss c.args.k no_statement) (slice_get-get_or ss c.args.k no_statement l))
    (said_none bads constraints is_reached c.args.draft.now c.args.table.now c.requires.btor c.requires.seats) c.in_ok-push_reached.ensures (λ a b h. local_reached a b (get_or ss c.args.k no_statement) h)
