use Rattle.std.proofs.Common.{◌≡◌, ◌+◌, ◌-◌, ◌<◌, ◌≤◌, ℕ, Bool, true, false, List, All, ap, sym, subst, ◌∙◌, arith, length, map}
use Rattle.std.specs.List.{filter}
use Rattle.net_unroll.specs.declared.encoded.Free.{Free}
use Rattle.std.specs.Prelude.{slice_index_or}
use Rattle.cnf_form.specs.Cnf.{LitOf, LitWithin}
use Rattle.cnf_form.specs.declared.literal.TheConstants.{MAX_VARS}
use Rattle.gate_graph.specs.declared.gate.Gate.{Gate}
use Rattle.gate_graph.specs.Folding.{operands}
use Rattle.gate_graph.specs.Kept.{OthersWithin}
use Rattle.bit_net.specs.Reaching.{spread}
use Rattle.net_unroll.specs.Clauses.{IsEncoding}
use Rattle.net_unroll.specs.Encoding.{EncodedOf, finished, is_kept, number, renumbered, renumbered_entry, renumbered_free}
use Rattle.net_unroll.specs.Making.{made_of}
use Rattle.net_unroll.specs.Finishing.{HasMarks, HasNumbers, begins}
use Rattle.net_unroll.proofs.Enclosing.{by_fields, finished_within}
use Rattle.net_unroll.proofs.Numbering.{are_numbers, kept_inside, kept_within, lent, numbers_same, truth_kept}
use Rattle.net_unroll.proofs.finishing.finish.Goals as goal

pub marks_of-requires-clause-kept : goal.marks_of-requires-clause-kept
marks_of-requires-clause-kept c =
    let g = c.args.made.gates in
    let s : c.as_slice.result.now ≡ c.args.made.gates.kept = c.as_slice.ensures.value ∙ c.into_kept-kept.ensures in
    subst (λ (n : ℕ). All (λ (e : Gate × LitOf). All (λ l. l.var < n + 1) (operands e.0) × (e.1.var < n + 1)) c.as_slice.result.now) (sym c.vars-vars.ensures)
    (subst (λ (es : List (Gate × LitOf)). All (λ (e : Gate × LitOf). All (λ l. l.var < g.formula.vars + 1) (operands e.0) × (e.1.var < g.formula.vars + 1)) es) (sym s) (kept_inside g c.promise.ensures.kept))

pub renumber-requires-clause-kept : goal.renumber-requires-clause-kept
renumber-requires-clause-kept c =
    let g = c.args.made.gates in
    let s : c.into_kept-kept.result.items ≡ c.args.made.gates.kept = c.into_kept-kept.ensures in
    let a = ap length c.as_slice-7.ensures.value in
    let b = c.in_ok-numbers.ensures.size in
    let d = ap length c.as_slice-3.ensures.value in
    let e = c.in_ok-marks.ensures.size in
    let f = c.vars-vars.ensures in
    let size : c.args.made.gates.formula.vars ≡ length c.as_slice-7.result.now - 1 = omega arith in
    subst (λ (n : ℕ). All (λ (e : Gate × LitOf). OthersWithin n (operands e.0) × LitWithin n e.1) c.into_kept-kept.result.items) size
    (subst (λ (es : List (Gate × LitOf)). All (λ (e : Gate × LitOf). OthersWithin g.formula.vars (operands e.0) × LitWithin g.formula.vars e.1) es) (sym s) (kept_within g c.promise.ensures.kept))

pub renumber-requires-clause-numbers : goal.renumber-requires-clause-numbers
renumber-requires-clause-numbers c =
    let g = c.args.made.gates in
    let a = ap length c.as_slice-7.ensures.value in
    let b = c.in_ok-numbers.ensures.size in
    let d = ap length c.as_slice-3.ensures.value in
    let e = c.in_ok-marks.ensures.size in
    let f = c.vars-vars.ensures in
    let low = c.promise.ensures.room.below in
    let limit = c.promise.ensures.room.limit in
    let few : length c.as_slice-7.result.now ≤ MAX_VARS + 1 = omega arith in
    let long : length c.as_slice-7.result.now ≡ length c.as_slice-3.result.now = a ∙ b in
    let marks : HasMarks c.as_slice-3.result.now (spread c.as_slice.result.now (begins c.as_slice-2.result.now)) = subst (λ (ms : List Bool). HasMarks ms (spread c.as_slice.result.now (begins c.as_slice-2.result.now))) (sym c.as_slice-3.ensures.value) c.in_ok-marks.ensures.marks in
    let numbers : HasNumbers c.as_slice-7.result.now (λ v. slice_index_or c.as_slice-3.result.now v false) = subst (λ (ns : List ℕ). HasNumbers ns (λ v. slice_index_or c.as_slice-3.result.now v false)) (sym c.as_slice-7.ensures.value) c.in_ok-numbers.ensures.numbers in
    are_numbers c.as_slice-7.result.now (spread c.as_slice.result.now (begins c.as_slice-2.result.now)) (truth_kept c.as_slice.result.now c.as_slice-2.result.now) few
    (numbers_same c.as_slice-7.result.now c.as_slice-3.result.now (spread c.as_slice.result.now (begins c.as_slice-2.result.now)) long numbers marks)

pub returns-clause-vars : goal.returns-clause-vars
returns-clause-vars c =
    let (m, n) = lent c.args.made.gates.kept c.as_slice.result.now c.args.made.goals.items c.as_slice-2.result.now c.in_ok-marks.marks.items c.as_slice-3.result.now c.as_slice-6.result.now c.in_ok-numbers.numbers.items c.as_slice-7.result.now
    (c.as_slice.ensures.value ∙ c.into_kept-kept.ensures) c.as_slice-2.ensures.value c.as_slice-3.ensures.value c.as_slice-6.ensures.value c.as_slice-7.ensures.value c.in_ok-marks.ensures.marks c.in_ok-numbers.ensures.size c.in_ok-numbers.ensures.numbers in
    let a = ap length c.as_slice-7.ensures.value in
    let b = c.in_ok-numbers.ensures.size in
    let d = ap length c.as_slice-3.ensures.value in
    let e = c.in_ok-marks.ensures.size in
    let f = c.vars-vars.ensures in
    let size : length c.as_slice-7.result.now - 1 ≡ c.args.made.gates.formula.vars = omega arith in
    let inside : length c.as_slice-7.result.now - 1 < length c.as_slice-7.result.now = omega arith in
    c.in_ok-finished.ensures.vars ∙ n.each (length c.as_slice-7.result.now - 1) inside ∙ ap (number (is_kept (made_of c.args.made))) size

pub returns-clause-gates : goal.returns-clause-gates
returns-clause-gates c =
    let (m, n) = lent c.args.made.gates.kept c.as_slice.result.now c.args.made.goals.items c.as_slice-2.result.now c.in_ok-marks.marks.items c.as_slice-3.result.now c.as_slice-6.result.now c.in_ok-numbers.numbers.items c.as_slice-7.result.now
    (c.as_slice.ensures.value ∙ c.into_kept-kept.ensures) c.as_slice-2.ensures.value c.as_slice-3.ensures.value c.as_slice-6.ensures.value c.as_slice-7.ensures.value c.in_ok-marks.ensures.marks c.in_ok-numbers.ensures.size c.in_ok-numbers.ensures.numbers in
    let t = is_kept (made_of c.args.made) in
    c.in_ok-finished.ensures.gates t n m ∙ ap (λ (es : List (Gate × LitOf)). map (renumbered_entry t) (filter (λ e. t e.1.var) es)) c.into_kept-kept.ensures

pub returns-clause-free : goal.returns-clause-free
returns-clause-free c =
    let (m, n) = lent c.args.made.gates.kept c.as_slice.result.now c.args.made.goals.items c.as_slice-2.result.now c.in_ok-marks.marks.items c.as_slice-3.result.now c.as_slice-6.result.now c.in_ok-numbers.numbers.items c.as_slice-7.result.now
    (c.as_slice.ensures.value ∙ c.into_kept-kept.ensures) c.as_slice-2.ensures.value c.as_slice-3.ensures.value c.as_slice-6.ensures.value c.as_slice-7.ensures.value c.in_ok-marks.ensures.marks c.in_ok-numbers.ensures.size c.in_ok-numbers.ensures.numbers in
    let t = is_kept (made_of c.args.made) in
    c.in_ok-finished.ensures.free t n m ∙ ap (λ (fs : List Free). map (renumbered_free t) (filter (λ f. t f.var) fs)) c.as_slice-4.ensures.value

pub returns-clause-goals : goal.returns-clause-goals
returns-clause-goals c =
    let (m, n) = lent c.args.made.gates.kept c.as_slice.result.now c.args.made.goals.items c.as_slice-2.result.now c.in_ok-marks.marks.items c.as_slice-3.result.now c.as_slice-6.result.now c.in_ok-numbers.numbers.items c.as_slice-7.result.now
    (c.as_slice.ensures.value ∙ c.into_kept-kept.ensures) c.as_slice-2.ensures.value c.as_slice-3.ensures.value c.as_slice-6.ensures.value c.as_slice-7.ensures.value c.in_ok-marks.ensures.marks c.in_ok-numbers.ensures.size c.in_ok-numbers.ensures.numbers in
    let t = is_kept (made_of c.args.made) in
    c.in_ok-finished.ensures.goals t n ∙ ap (map (renumbered t)) c.as_slice-5.ensures.value

pub returns-clause-within : goal.returns-clause-within
returns-clause-within c =
    let f = c.in_ok-finished.finished in
    let same : (let e : EncodedOf = record { asks = true; vars = f.vars; gates = f.gates.items; free = f.free.items; goals = f.goals.items } in e) ≡ finished (made_of c.args.made) =
    by_fields (returns-clause-vars c) (returns-clause-gates c) (returns-clause-free c) (returns-clause-goals c) in
    subst IsEncoding (sym same) (finished_within c.args.made c.requires.making c.promise.ensures.kept c.promise.ensures.room)
