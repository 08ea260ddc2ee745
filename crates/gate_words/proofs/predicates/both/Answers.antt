use Rattle.std.proofs.Common.{◌+◌, ◌&&◌, ◌||◌, length, arith}
use Rattle.sby_bits.specs.Words.{some_bit}
use Rattle.cell_table.specs.Cells.{is_logic}
use Rattle.gate_graph.specs.Laws.{Continues-trans}
use Rattle.gate_rows.specs.Literals.{row_of, MeansBit}
use Rattle.gate_rows.proofs.Building.{Builds-trans}
use Rattle.gate_words.proofs.Folding.{both_bits}
use Rattle.gate_words.proofs.predicates.both.Goals as goal
use Rattle.gate_words.proofs.predicates.both.Goals.{in-And, in-Or}

pub returns-clause-bit : goal.returns-clause-bit
returns-clause-bit c =
    let k = Continues-trans c.any.new.gates c.any-2.new.gates c.chain.new.gates c.any-2.ensures.builds.continues c.chain.ensures.builds.continues in
    elim c.match-kind.branch as (λ _. MeansBit c.chain.new.gates (λ x. is_logic c.args.kind (row_of x c.args.a.now) (row_of x c.args.b.now)) c.in_ok-lit.lit) [
      | in-And w ↦ let i = w.in-And.is in let o = w.op-is in let m = rw o at c.in_ok-lit.ensures.bit in
          rw i (both_bits c.any.new.gates c.any-2.new.gates c.chain.new.gates ◌&&◌ (λ x. some_bit (row_of x c.args.a.now)) (λ x. some_bit (row_of x c.args.b.now)) c.in_ok-some_a.some_a c.in_ok-some_b.some_b c.in_ok-lit.lit k c.chain.ensures.builds.continues c.in_ok-some_a.ensures.bit c.in_ok-some_b.ensures.bit m)
      | in-Or w ↦ let i = w.in-Or.is in let o = w.op-is in let m = rw o at c.in_ok-lit.ensures.bit in
          rw i (both_bits c.any.new.gates c.any-2.new.gates c.chain.new.gates ◌||◌ (λ x. some_bit (row_of x c.args.a.now)) (λ x. some_bit (row_of x c.args.b.now)) c.in_ok-some_a.some_a c.in_ok-some_b.some_b c.in_ok-lit.lit k c.chain.ensures.builds.continues c.in_ok-some_a.ensures.bit c.in_ok-some_b.ensures.bit m)
    ]

pub returns-clause-builds : goal.returns-clause-builds
returns-clause-builds c =
    Builds-trans c.args.gates.now c.any-2.new.gates c.chain.new.gates (length c.args.a.now + length c.args.b.now) 1 _
    (Builds-trans c.args.gates.now c.any.new.gates c.any-2.new.gates (length c.args.a.now) (length c.args.b.now) _ c.any.ensures.builds c.any-2.ensures.builds (omega arith)) c.chain.ensures.builds (omega arith)
