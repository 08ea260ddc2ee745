use Rattle.std.proofs.Common.{◌≡◌, ◌∙◌, ap, sym, subst, List, ℕ, Bool}
use Rattle.std.specs.List.{flat_map}
use Rattle.btor_core.specs.declared.line.Line.{Line}
use Rattle.btor_text.specs.Grammar.{IsText}
use Rattle.btor_text.specs.Text.{line_text, text_of}
use Rattle.btor_text.proofs.Written.{written}
use Rattle.btor_text.proofs.writing.write.Goals as goal

pub returns-clause-grammar : goal.returns-clause-grammar
returns-clause-grammar c =
    let m = c.args.model.now in
    let text : c.in_ok-bytes.bytes.items ≡ text_of m =
    c.in_ok-bytes.ensures ∙ ap (λ (ls : List Line). flat_map (line_text c.constants.result.now) ls) c.lines.ensures ∙ ap (λ (cs : List Bool). flat_map (line_text cs) m.lines) c.constants.ensures in
    subst (λ (bytes : List ℕ). IsText bytes m) (sym text) (written c.numbers_are_decimal.ensures m c.promise.ensures)
