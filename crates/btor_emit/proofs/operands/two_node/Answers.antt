use Rattle.std.proofs.Common.{ℕ, [], sym, ap, max, arith}
use Rattle.sby_bits.specs.Rows.{Row, num, value}
use Rattle.cell_table.specs.Cells.{any_shift_fn, bit_row, is_compared, right_shift_fn}
use Rattle.btor_emit.proofs.OperandRows.{of_two}
use Rattle.btor_emit.proofs.operands.two_node.Goals as goal
use Rattle.model_core.specs.Meaning.{node_fn}
use Rattle.model_core.specs.declared.op.Op.{Op}
use Rattle.model_core.specs.declared.op.Op.TheVariants as op

pub returns-in-Binary : goal.returns-in-Binary
returns-in-Binary c =
    let w = c.args.width in
    record {
      row = of_two c.args.draft.now c.pair.new.draft c.binary.new.draft c.args.table.now c.pair.new.table c.args.a.now c.args.b.now c.in_ok-left.left c.in_ok-left.right c.binary.result 8 w c.args.op (λ (m n : ℕ) (y z : Row). node_fn (op.Binary c.in-Binary.kind c.in-Binary.signed) w y z []) c.in_ok-left.ensures.row
          c.binary.ensures.row (omega arith) (λ y z. ap (λ (o : Op). node_fn o w y z []) (sym c.in-Binary.is));
    }

pub returns-in-Logic : goal.returns-in-Logic
returns-in-Logic c =
    let w = c.args.width in
    record {
      row = of_two c.args.draft.now c.pair.new.draft c.logic.new.draft c.args.table.now c.pair.new.table c.args.a.now c.args.b.now c.in_ok-left.left c.in_ok-left.right c.logic.result 8 w c.args.op (λ (m n : ℕ) (y z : Row). node_fn (op.Logic c.in-Logic.kind) w y z []) c.in_ok-left.ensures.row
          c.logic.ensures.row (omega arith) (λ y z. ap (λ (o : Op). node_fn o w y z []) (sym c.in-Logic.is));
    }

pub returns-in-Compare : goal.returns-in-Compare
returns-in-Compare c =
    let w = c.args.width in
    record {
      row = of_two c.args.draft.now c.pair.new.draft c.compare.new.draft c.args.table.now c.pair.new.table c.args.a.now c.args.b.now c.in_ok-left.left c.in_ok-left.right c.compare.result 8 w c.args.op (λ (m n : ℕ) (y z : Row). bit_row w (is_compared c.in-Compare.kind (max m n) (value c.in-Compare.signed y) (value c.in-Compare.signed z))) c.in_ok-left.ensures.row
          c.compare.ensures.row (omega arith) (λ y z. ap (λ (o : Op). node_fn o w y z []) (sym c.in-Compare.is));
    }

pub returns-in-ShiftLeft : goal.returns-in-ShiftLeft
returns-in-ShiftLeft c =
    let w = c.args.width in
    record {
      row = of_two c.args.draft.now c.pair.new.draft c.shift_left.new.draft c.args.table.now c.pair.new.table c.args.a.now c.args.b.now c.in_ok-left.left c.in_ok-left.right c.shift_left.result 10 w c.args.op (λ (m n : ℕ) (y z : Row). node_fn (op.ShiftLeft c.in-ShiftLeft.signed) w y z []) c.in_ok-left.ensures.row
          c.shift_left.ensures.row (omega arith) (λ y z. ap (λ (o : Op). node_fn o w y z []) (sym c.in-ShiftLeft.is));
    }

pub returns-in-ShiftRight : goal.returns-in-ShiftRight
returns-in-ShiftRight c =
    let w = c.args.width in
    record {
      row = of_two c.args.draft.now c.pair.new.draft c.shift_right.new.draft c.args.table.now c.pair.new.table c.args.a.now c.args.b.now c.in_ok-left.left c.in_ok-left.right c.shift_right.result 20 w c.args.op (λ (m n : ℕ) (y z : Row). right_shift_fn w (max m w) (value c.in-ShiftRight.signed y) (num z)) c.in_ok-left.ensures.row
          c.shift_right.ensures.row (omega arith) (λ y z. ap (λ (o : Op). node_fn o w y z []) (sym c.in-ShiftRight.is));
    }

pub returns-in-ShiftSign : goal.returns-in-ShiftSign
returns-in-ShiftSign c =
    let w = c.args.width in
    record {
      row = of_two c.args.draft.now c.pair.new.draft c.shift_sign.new.draft c.args.table.now c.pair.new.table c.args.a.now c.args.b.now c.in_ok-left.left c.in_ok-left.right c.shift_sign.result 8 w c.args.op (λ (m n : ℕ) (y z : Row). node_fn (op.ShiftSign c.in-ShiftSign.signed) w y z []) c.in_ok-left.ensures.row
          c.shift_sign.ensures.row (omega arith) (λ y z. ap (λ (o : Op). node_fn o w y z []) (sym c.in-ShiftSign.is));
    }

pub returns-in-ShiftAny : goal.returns-in-ShiftAny
returns-in-ShiftAny c =
    let w = c.args.width in
    record {
      row = of_two c.args.draft.now c.pair.new.draft c.shift_any.new.draft c.args.table.now c.pair.new.table c.args.a.now c.args.b.now c.in_ok-left.left c.in_ok-left.right c.shift_any.result 20 w c.args.op (λ (m n : ℕ) (y z : Row). any_shift_fn w (max m w) (value c.in-ShiftAny.signed y) (value c.in-ShiftAny.by_signed z)) c.in_ok-left.ensures.row
          c.shift_any.ensures.row (omega arith) (λ y z. ap (λ (o : Op). node_fn o w y z []) (sym c.in-ShiftAny.is));
    }

pub returns-in-Divide : goal.returns-in-Divide
returns-in-Divide c =
    let w = c.args.width in
    record {
      row = of_two c.args.draft.now c.pair.new.draft c.divide.new.draft c.args.table.now c.pair.new.table c.args.a.now c.args.b.now c.in_ok-left.left c.in_ok-left.right c.divide.result 8 w c.args.op (λ (m n : ℕ) (y z : Row). node_fn (op.Divide c.in-Divide.kind c.in-Divide.signed) w y z []) c.in_ok-left.ensures.row
          c.divide.ensures.row (omega arith) (λ y z. ap (λ (o : Op). node_fn o w y z []) (sym c.in-Divide.is));
    }
