use Rattle.std.proofs.Common.{◌+◌, arith, map}
use Rattle.rtlil_constant.specs.Constants.{open_digits}
use Rattle.design_reader.specs.Grammar.{plain_bit, numbered_bits, with_free}
use Rattle.design_reader.specs.Drafts.{draft_of}
use Rattle.design_reader.proofs.Declared.{target_more, plain_declared, numbered_declared, rows_with, rows_more_free}
use Rattle.design_reader.proofs.signal_text.push_digits.Goals as goal

pub returns-then-is_ignored-clause-fits : goal.returns-then-is_ignored-clause-fits
returns-then-is_ignored-clause-fits c =
    let d = draft_of c.args.draft.now in
    rw c.in_ok-push_plain.ensures (
      c.requires.target,
      rows_with d (map plain_bit c.args.digits.now) c.args.segments.now (plain_declared d.design.wires d.design.free c.args.digits.now) c.requires.rows,
      omega arith,
    )

pub returns-clause-fits : goal.returns-clause-fits
returns-clause-fits c =
    let d = draft_of c.args.draft.now in
    let n = open_digits c.args.digits.now in
    rw (c.number_free.ensures.more, c.in_ok-push_numbered.ensures, c.free.ensures.free, c.open_count-count.ensures) (
      target_more d n c.args.target.now c.requires.target,
      rows_with (with_free d n) (numbered_bits d.design.free c.args.digits.now) c.args.segments.now
          (numbered_declared d.design.wires (d.design.free + n) d.design.free c.args.digits.now (omega arith)) (rows_more_free d n c.args.segments.now c.requires.rows),
      omega arith,
    )
