use Rattle.std.proofs.Common.{rules, ◌≡◌, ◌∙◌, not, leb, length, sym, arith}
use Rattle.sby_bits.specs.Rows.{num}
use Rattle.gate_rows.specs.Literals.{row_of}
use Rattle.gate_rows.proofs.Building.{Builds-more}
use Rattle.gate_words.proofs.Folding.{Bit-same, less_means, turned_less, turned_within, turned_long}
use Rattle.gate_words.proofs.predicates.signed_less.Goals as goal

pub at_least-requires-clause-as_many : goal.at_least-requires-clause-as_many
at_least-requires-clause-as_many c = rw (c.deref.ensures.value, c.deref-2.ensures.value) (turned_long c.args.a.now c.in_ok-low.low.items c.in_ok-low.ensures ∙ c.requires.as_many ∙ sym (turned_long c.args.b.now c.in_ok-high.high.items c.in_ok-high.ensures))

pub at_least-requires-clause-a : goal.at_least-requires-clause-a
at_least-requires-clause-a c = rw c.deref.ensures.value (turned_within c.args.gates.now.formula.vars c.args.a.now c.in_ok-low.low.items c.in_ok-low.ensures c.requires.a)

pub at_least-requires-clause-b : goal.at_least-requires-clause-b
at_least-requires-clause-b c = rw c.deref-2.ensures.value (turned_within c.args.gates.now.formula.vars c.args.b.now c.in_ok-high.high.items c.in_ok-high.ensures c.requires.b)

pub returns-clause-bit : goal.returns-clause-bit
returns-clause-bit c =
    let long : length c.in_ok-low.low.items ≡ length c.in_ok-high.high.items = turned_long c.args.a.now c.in_ok-low.low.items c.in_ok-low.ensures ∙ c.requires.as_many ∙ sym (turned_long c.args.b.now c.in_ok-high.high.items c.in_ok-high.ensures) in
    let m = rw (c.deref.ensures.value, c.deref-2.ensures.value) at c.in_ok-lit.ensures.bit in
    rw c.negate.ensures
    (Bit-same c.at_least.new.gates (λ x. not (leb (num (row_of x c.in_ok-high.high.items)) (num (row_of x c.in_ok-low.low.items)))) _ _
    (less_means c.args.gates.now c.at_least.new.gates c.in_ok-low.low.items c.in_ok-high.high.items c.in_ok-lit.lit long m)
    (λ x. turned_less x c.args.a.now c.args.b.now c.in_ok-low.low.items c.in_ok-high.high.items c.requires.as_many c.in_ok-low.ensures c.in_ok-high.ensures))

pub returns-clause-builds : goal.returns-clause-builds
returns-clause-builds c =
    let n : length c.deref.result.now ≡ length c.args.a.now = rw c.deref.ensures.value (turned_long c.args.a.now c.in_ok-low.low.items c.in_ok-low.ensures) in
    Builds-more c.args.gates.now c.at_least.new.gates (length c.deref.result.now) _ c.at_least.ensures.builds (omega arith)

pub returns-in_err-lit-clause-builds : goal.returns-in_err-lit-clause-builds
returns-in_err-lit-clause-builds c =
    let n : length c.deref.result.now ≡ length c.args.a.now = rw c.deref.ensures.value (turned_long c.args.a.now c.in_ok-low.low.items c.in_ok-low.ensures) in
    Builds-more c.args.gates.now c.at_least.new.gates (length c.deref.result.now) _ c.at_least.ensures.builds (omega arith)

pub returns-in_err-lit-clause-too_many : goal.returns-in_err-lit-clause-too_many
returns-in_err-lit-clause-too_many c =
    let n : length c.deref.result.now ≡ length c.args.a.now = rw c.deref.ensures.value (turned_long c.args.a.now c.in_ok-low.low.items c.in_ok-low.ensures) in
    search rules
