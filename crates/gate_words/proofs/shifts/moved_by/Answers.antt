use Rattle.std.proofs.Common.{rules, ◌≡◌, ◌∙◌, ◌+◌, ◌*◌, length, take, drop, sym, arith}
use Rattle.std.proofs.Math.ListN.{length-drop}
use Rattle.std.proofs.lemmas.List.{take_rest}
use Rattle.sby_bits.specs.Rows.{num}
use Rattle.gate_graph.specs.Laws.{Continues-trans}
use Rattle.gate_rows.specs.Literals.{row_of}
use Rattle.gate_rows.proofs.Building.{Builds-trans}
use Rattle.gate_words.proofs.Moving.{moved_many, by_means, total_few}
use Rattle.gate_words.proofs.shifts.moved_by.Goals as goal

pub mux-requires-clause-width : goal.mux-requires-clause-width
mux-requires-clause-width c = rw (c.deref.ensures.value, c.deref-2.ensures.value)
    (moved_many c.moved_low.new.gates c.args.way.now c.args.a.now c.in_ok-word.word.items (λ x. num (take c.stages-many.result (row_of x c.args.by.now))) c.in_ok-word.ensures.row ∙ sym (moved_many c.any.new.gates c.args.way.now c.args.a.now c.in_ok-none.none.items (λ _. length c.args.a.now) c.in_ok-none.ensures))

pub returns-clause-row : goal.returns-clause-row
returns-clause-row c =
    let row = rw (c.deref.ensures.value, c.deref-2.ensures.value) at c.in_ok-word-2.ensures.row in
    by_means c.moved_low.new.gates c.any.new.gates c.mux.new.gates c.args.way.now c.args.a.now c.args.by.now c.in_ok-word.word.items c.in_ok-none.none.items c.in_ok-word-2.word.items c.stages-many.result c.in_ok-past.past
    (Continues-trans _ _ _ c.any.ensures.builds.continues c.mux.ensures.builds.continues) c.mux.ensures.builds.continues c.stages-many.ensures.some c.stages-many.ensures.enough c.in_ok-word.ensures.row (rw (take_rest c.args.by.now c.stages-many.result) at c.in_ok-past.ensures.bit) c.in_ok-none.ensures row

pub returns-clause-builds : goal.returns-clause-builds
returns-clause-builds c =
    let n : length c.deref.result.now ≡ length c.args.a.now = rw c.deref.ensures.value (moved_many c.moved_low.new.gates c.args.way.now c.args.a.now c.in_ok-word.word.items (λ x. num (take c.stages-many.result (row_of x c.args.by.now))) c.in_ok-word.ensures.row) in
    Builds-trans c.args.gates.now c.any.new.gates c.mux.new.gates (length c.args.a.now * c.stages-many.result + length (drop c.stages-many.result c.args.by.now)) (length c.deref.result.now) _
    (Builds-trans c.args.gates.now c.moved_low.new.gates c.any.new.gates (length c.args.a.now * c.stages-many.result) (length (drop c.stages-many.result c.args.by.now)) _ c.moved_low.ensures.builds (rw (take_rest c.args.by.now c.stages-many.result) at c.any.ensures.builds) (omega arith)) c.mux.ensures.builds
    (total_few (length c.args.a.now) (length c.args.by.now) c.stages-many.result (length c.deref.result.now) (length (drop c.stages-many.result c.args.by.now)) c.stages-many.ensures.some n (length-drop c.stages-many.result c.args.by.now))

pub returns-in_err-word-2-clause-builds : goal.returns-in_err-word-2-clause-builds
returns-in_err-word-2-clause-builds c =
    let n : length c.deref.result.now ≡ length c.args.a.now = rw c.deref.ensures.value (moved_many c.moved_low.new.gates c.args.way.now c.args.a.now c.in_ok-word.word.items (λ x. num (take c.stages-many.result (row_of x c.args.by.now))) c.in_ok-word.ensures.row) in
    Builds-trans c.args.gates.now c.any.new.gates c.mux.new.gates (length c.args.a.now * c.stages-many.result + length (drop c.stages-many.result c.args.by.now)) (length c.deref.result.now) _
    (Builds-trans c.args.gates.now c.moved_low.new.gates c.any.new.gates (length c.args.a.now * c.stages-many.result) (length (drop c.stages-many.result c.args.by.now)) _ c.moved_low.ensures.builds (rw (take_rest c.args.by.now c.stages-many.result) at c.any.ensures.builds) (omega arith)) c.mux.ensures.builds
    (total_few (length c.args.a.now) (length c.args.by.now) c.stages-many.result (length c.deref.result.now) (length (drop c.stages-many.result c.args.by.now)) c.stages-many.ensures.some n (length-drop c.stages-many.result c.args.by.now))

pub returns-in_err-word-2-clause-too_many : goal.returns-in_err-word-2-clause-too_many
returns-in_err-word-2-clause-too_many c =
    let n : length c.deref.result.now ≡ length c.args.a.now = rw c.deref.ensures.value (moved_many c.moved_low.new.gates c.args.way.now c.args.a.now c.in_ok-word.word.items (λ x. num (take c.stages-many.result (row_of x c.args.by.now))) c.in_ok-word.ensures.row) in
    let b = Builds-trans c.args.gates.now c.moved_low.new.gates c.any.new.gates (length c.args.a.now * c.stages-many.result) (length (drop c.stages-many.result c.args.by.now)) (length c.args.a.now * c.stages-many.result + length (drop c.stages-many.result c.args.by.now)) c.moved_low.ensures.builds (rw (take_rest c.args.by.now c.stages-many.result) at c.any.ensures.builds) (omega arith) in
    let p = b.most in
    let q = b.continues.limit in
    let few = total_few (length c.args.a.now) (length c.args.by.now) c.stages-many.result (length c.deref.result.now) (length (drop c.stages-many.result c.args.by.now)) c.stages-many.ensures.some n (length-drop c.stages-many.result c.args.by.now) in
    search rules
