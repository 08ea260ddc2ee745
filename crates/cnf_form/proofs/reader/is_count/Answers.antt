use Rattle.std.proofs.Common.{◌≡◌, sym, ◌∙◌, arith}
use Rattle.std.specs.Prelude.{decimal}
use Rattle.cnf_form.proofs.Numerals.{number_word, word_number}
use Rattle.cnf_form.proofs.reader.is_count.Goals as goal

pub returns : goal.returns
returns c =
    let text : c.as_bytes.result.now ≡ decimal c.args.count = cc (c.as_bytes.ensures.value, c.in_ok-text.ensures.ok) in
    (λ t. word_number c.args.word.now c.args.count (omega arith) (c.is_word.ensures.0 t ∙ text), λ a. c.is_word.ensures.1 (number_word c.args.word.now c.args.count (omega arith) a ∙ sym text))
