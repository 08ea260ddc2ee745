use Rattle.std.proofs.Common.{◌≡◌, ◌+◌, ◌<◌, ◌^◌, rules, List, Some, true, ap, subst, arith, get_or, length}
use Rattle.std.specs.Prelude.{slice_get}
use Rattle.std.proofs.lemmas.Option.{slice_get-get_or}
use Rattle.cnf_form.specs.Cnf.{LitOf}
use Rattle.gate_graph.specs.declared.gate.Gate.{Gate}
use Rattle.net_text.proofs.Writing.{count_all, count_few, count_more, six}
use Rattle.net_text.proofs.pieces.count_clauses.Goals as goal

pub overflow_add-count : goal.overflow_add-count
overflow_add-count c =
    let few = count_few c.args.encoded.now.gates c.loop-place.place in
    let is = c.loop-place.invariant in
    let x = get_or c.gates-gates.result.now c.loop-place.place c.index-gates-place.result in
    let many = c.clause_count.ensures x.1 in
    let most = six x.1 x.0 in
    let small : c.loop-place.count + c.clause_count.result < 2 ^ 70 = omega arith in
    search rules

pub loop-place-preserved : goal.loop-place-preserved
loop-place-preserved c =
    let place = c.loop-place.place in
    let gates = c.gates-gates.result.now in
    let x = get_or gates place c.index-gates-place.result in
    let at : slice_get c.args.encoded.now.gates c.loop-place.place ≡ Some (get_or c.gates-gates.result.now c.loop-place.place c.index-gates-place.result) =
    subst (λ (es : List (Gate × LitOf)). slice_get es c.loop-place.place ≡ Some (get_or c.gates-gates.result.now c.loop-place.place c.index-gates-place.result)) c.gates-gates.ensures
    (slice_get-get_or gates place c.index-gates-place.result c.loop-place-test.true) in
    let more = count_more c.args.encoded.now.gates place x x.1 c.clause_count.result at (c.clause_count.ensures x.1) in
    let is = c.loop-place.invariant in
    omega arith

pub returns : goal.returns
returns c =
    let alike = ap length c.gates-gates.ensures in
    let over = c.loop-place-test.false in
    let asks : c.args.encoded.now.asks ≡ true = search rules in
    count_all c.args.encoded.now c.loop-place.place c.loop-place.count asks (omega arith) c.loop-place.invariant
