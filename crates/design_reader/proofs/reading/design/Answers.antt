use Rattle.std.proofs.Common.{◌∙◌, refl, ap, length, arith}
use Rattle.rtlil_lex.specs.Tokens.{LexerOf, IsNext}
use Rattle.rtlil_lex.specs.TokenView.{token_of}
use Rattle.design_reader.specs.Grammar.{new_draft}
use Rattle.design_reader.proofs.ReadLemmas.{so_far_start, so_far_next, so_far_refused, so_far_broken, answers_end}
use Rattle.design_reader.proofs.TokenText.{token_len}
use Rattle.design_reader.proofs.reading.design.Goals as goal

pub tokens-init : goal.tokens-init
tokens-init c = (
  ap (λ (l : LexerOf). l.bytes) c.new-lexer.ensures,
  omega (arith, ap (λ (l : LexerOf). l.place) c.new-lexer.ensures),
  rw c.new-reader.ensures (so_far_start c.args.bytes.now c.new-lexer.result (new_draft _) c.new-lexer.ensures refl),
)

pub tokens-smaller : goal.tokens-smaller
tokens-smaller c =
    let n : IsNext c.tokens.lexer c.next.new.self (token_of c.in-Ok-Some.token) = rw c.in-Ok-Some.field-0-is at c.in-Ok-Some.ensures.token in
    let i = c.tokens.invariant in
    omega (arith, n.span, n.rises, n.within, token_len _ _ n.token, ap length i.0)

pub tokens-preserved : goal.tokens-preserved
tokens-preserved c =
    let n : IsNext c.tokens.lexer c.next.new.self (token_of c.in-Ok-Some.token) = rw c.in-Ok-Some.field-0-is at c.in-Ok-Some.ensures.token in
    let i = c.tokens.invariant in (
      n.bytes ∙ i.0,
      omega (arith, n.within, ap length i.0),
      so_far_next c.args.bytes.now c.tokens.lexer c.next.new.self (token_of c.in-Ok-Some.token) _ _ _ _ i.0 n i.2 c.in-Ok.ensures,
    )

pub returns-in-Err-Fault : goal.returns-in-Err-Fault
returns-in-Err-Fault c =
    let n : IsNext c.tokens.lexer c.next.new.self (token_of c.in-Ok-Some.token) = rw c.in-Ok-Some.field-0-is at c.in-Ok-Some.ensures.token in
    let i = c.tokens.invariant in
    rw (c.refused.ensures, c.in-Err-Fault.kind-is) (so_far_refused c.args.bytes.now c.tokens.lexer c.next.new.self (token_of c.in-Ok-Some.token) _ _ c.in-Err-Fault.kind c.requires i.0 n i.2 (rw c.in-Err-Fault.field-0-is at c.in-Err-Fault.ensures))

pub returns-in-Ok-None : goal.returns-in-Ok-None
returns-in-Ok-None c =
    let i = c.tokens.invariant in
    rw c.end.ensures (answers_end c.args.bytes.now c.tokens.lexer c.tokens.reader _ c.requires ((rw c.in-Ok-None.field-0-is at c.in-Ok-None.ensures.end).0 refl) i.2 refl)

pub returns-in-Err : goal.returns-in-Err
returns-in-Err c =
    let i = c.tokens.invariant in
    rw c.refused-in-Err.ensures (so_far_broken c.args.bytes.now c.tokens.lexer _ _ c.in-Err.fault.byte c.requires i.0 c.in-Err.ensures.fault i.2)
