use Rattle.std.proofs.Common.{drop, sym, arith}
use Rattle.std.proofs.lemmas.List.{take_rest}
use Rattle.rtlil_lex.specs.Tokens.{lexer_at}
use Rattle.rtlil_lex.proofs.Stepping.{empty_gap, left_is, none_is, fault_is, gap_short, token_short, next_is, fault_at, not_gap, not_zero}
use Rattle.rtlil_lex.proofs.lexer.token_from.Goals as goal

pub overflow_sub-start : goal.overflow_sub-start
overflow_sub-start c = omega (arith, gap_short c.args.bytes.now c.after_gap-rest.result.now c.args.place c.requires (rw take_rest at c.after_gap-rest.ensures.gap))

pub overflow_sub-len : goal.overflow_sub-len
overflow_sub-len c = token_short c.after_gap-rest.result.now c.in-Some.after.now c.after_gap-rest.ensures.stops (sym c.in-Some.ensures)

pub returns-in-None-clause-end : goal.returns-in-None-clause-end
returns-in-None-clause-end c =
    (λ e. absurd cc, λ g. absurd (not_gap (drop c.args.place c.args.bytes.now) c.after_gap-rest.result.now (rw take_rest at c.after_gap-rest.ensures.gap) c.after_gap-rest.ensures.stops (not_zero _ c.if-is_empty.ensures) g))

pub returns-in-None-clause-fault : goal.returns-in-None-clause-fault
returns-in-None-clause-fault c = fault_at c.args.bytes.now c.after_gap-rest.result.now c.args.place (rw take_rest at c.after_gap-rest.ensures.gap) (not_zero _ c.if-is_empty.ensures) (sym c.in-None.ensures)

pub returns-in-Some-clause-token : goal.returns-in-Some-clause-token
returns-in-Some-clause-token c = next_is c.args.bytes.now c.after_gap-rest.result.now c.in-Some.after.now c.args.place c.requires (rw take_rest at c.after_gap-rest.ensures.gap) c.after_gap-rest.ensures.stops (sym c.in-Some.ensures)

pub returns-in-Some-clause-end : goal.returns-in-Some-clause-end
returns-in-Some-clause-end c =
    (λ e. absurd cc, λ g. absurd (not_gap (drop c.args.place c.args.bytes.now) c.after_gap-rest.result.now (rw take_rest at c.after_gap-rest.ensures.gap) c.after_gap-rest.ensures.stops (not_zero _ c.if-is_empty.ensures) g))

pub returns-in-Some-clause-left_after : goal.returns-in-Some-clause-left_after
returns-in-Some-clause-left_after c = λ ts. left_is _ _ _ (next_is c.args.bytes.now c.after_gap-rest.result.now c.in-Some.after.now c.args.place c.requires (rw take_rest at c.after_gap-rest.ensures.gap) c.after_gap-rest.ensures.stops (sym c.in-Some.ensures)) ts

pub returns-in-None-clause-no_tokens : goal.returns-in-None-clause-no_tokens
returns-in-None-clause-no_tokens c = λ ts. fault_is _ _ (fault_at c.args.bytes.now c.after_gap-rest.result.now c.args.place (rw take_rest at c.after_gap-rest.ensures.gap) (not_zero _ c.if-is_empty.ensures) (sym c.in-None.ensures)) ts

pub returns-then-is_empty-clause-none_left : goal.returns-then-is_empty-clause-none_left
returns-then-is_empty-clause-none_left c = λ _ ts. none_is (lexer_at c.args.bytes.now c.args.place) (empty_gap c.after_gap-rest.result.now (drop c.args.place c.args.bytes.now) c.if-is_empty.ensures (rw take_rest at c.after_gap-rest.ensures.gap)) ts
