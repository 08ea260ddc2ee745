use Rattle.std.proofs.Common.{sym, ap, ◌∙◌, subst, length, drop, arith}
use Rattle.std.proofs.lemmas.List.{take_rest, length-drop}
use Rattle.rtlil_lex.specs.Tokens.{is_feed, Gap}
use Rattle.rtlil_lex.specs.Tokens.Gap.{no_more}
use Rattle.rtlil_lex.proofs.Runs.{gap_space, gap_comment, after_run_shorter}
use Rattle.rtlil_lex.proofs.scan.after_gap.Goals as goal

pub gap-preserved-then-is_space_byte : goal.gap-preserved-then-is_space_byte
gap-preserved-then-is_space_byte c = λ behind g. c.gap.invariant behind (gap_space behind c.gap.rest.now c.in-len1-up.len_at_least (sym c.is_space_byte.ensures ∙ c.if-is_space_byte.true) (rw take_rest at g))

pub gap-smaller : goal.gap-smaller
gap-smaller c =
    let same = rw take_rest at c.after_comment-rest.ensures in
    omega (arith, ap length same, after_run_shorter is_feed (drop 1 c.gap.rest.now), length-drop 1 c.gap.rest.now, c.in-len1-up.len_at_least)

pub gap-preserved : goal.gap-preserved
gap-preserved c = λ behind g. c.gap.invariant behind (gap_comment behind c.gap.rest.now c.in-len1-up.len_at_least c.if-b-eq35.true (subst (λ x. Gap behind x) (rw take_rest at c.after_comment-rest.ensures) g))

pub returns-in_default-clause-gap : goal.returns-in_default-clause-gap
returns-in_default-clause-gap c = c.gap.invariant c.gap.rest.now no_more

pub returns-else-b-eq35-clause-gap : goal.returns-else-b-eq35-clause-gap
returns-else-b-eq35-clause-gap c = c.gap.invariant c.gap.rest.now no_more
