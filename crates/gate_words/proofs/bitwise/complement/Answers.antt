use Rattle.sby_bits.specs.Rows.{value}
use Rattle.gate_rows.specs.Literals.{row_of}
use Rattle.gate_words.proofs.Modulo.{not_means}
use Rattle.gate_words.proofs.bitwise.complement.Goals as goal

pub returns : goal.returns
returns c =
    let row = rw c.deref.ensures.value at c.in_ok-word.ensures in
    not_means c.args.gates.now c.args.y (λ x. value c.args.signed (row_of x c.args.a.now)) c.in_ok-wide.wide.items c.in_ok-word.word.items c.in_ok-wide.ensures row
