use Rattle.sby_terms.specs.declared.names.Status.TheVariants.{Fail, Pass}
use Rattle.sby_top.proofs.ClaimLemmas.{cover_fail_claimed, cover_pass_claimed, fail_claimed, pass_claimed, prove_fail_claimed, prove_pass_claimed}
use Rattle.sby_top.proofs.PrintedLemmas.{told_status}
use Rattle.sby_top.proofs.claims.printed_verdicts_are_true.Goals as goal

pub returns-clause-pass_of_bmc : goal.returns-clause-pass_of_bmc
returns-clause-pass_of_bmc g c = λ before after moments words done task end rc is apart told mode.
    pass_claimed (g.C.Clock.may_read c.args.clock.now) is.place moments task end is.exit is.ran (told_status (g.C.Clock.may_read c.args.clock.now) is.place moments task end is.exit Pass rc is.ran apart told) mode

pub returns-clause-pass_of_prove : goal.returns-clause-pass_of_prove
returns-clause-pass_of_prove g c = λ before after moments words done task end rc is apart told mode.
    prove_pass_claimed (g.C.Clock.may_read c.args.clock.now) is.place moments task end is.exit is.ran (told_status (g.C.Clock.may_read c.args.clock.now) is.place moments task end is.exit Pass rc is.ran apart told) mode

pub returns-clause-pass_of_cover : goal.returns-clause-pass_of_cover
returns-clause-pass_of_cover g c = λ before after moments words done task end rc is apart told mode.
    cover_pass_claimed (g.C.Clock.may_read c.args.clock.now) is.place moments task end is.exit is.ran (told_status (g.C.Clock.may_read c.args.clock.now) is.place moments task end is.exit Pass rc is.ran apart told) mode

pub returns-clause-fail_of_bmc : goal.returns-clause-fail_of_bmc
returns-clause-fail_of_bmc g c = λ before after moments words done task end rc is apart told mode.
    fail_claimed (g.C.Clock.may_read c.args.clock.now) is.place moments task end is.exit is.ran (told_status (g.C.Clock.may_read c.args.clock.now) is.place moments task end is.exit Fail rc is.ran apart told) mode

pub returns-clause-fail_of_prove : goal.returns-clause-fail_of_prove
returns-clause-fail_of_prove g c = λ before after moments words done task end rc is apart told mode.
    prove_fail_claimed (g.C.Clock.may_read c.args.clock.now) is.place moments task end is.exit is.ran (told_status (g.C.Clock.may_read c.args.clock.now) is.place moments task end is.exit Fail rc is.ran apart told) mode

pub returns-clause-fail_of_cover : goal.returns-clause-fail_of_cover
returns-clause-fail_of_cover g c = λ before after moments words done task end rc is apart told mode.
    cover_fail_claimed (g.C.Clock.may_read c.args.clock.now) is.place moments task end is.exit is.ran (told_status (g.C.Clock.may_read c.args.clock.now) is.place moments task end is.exit Fail rc is.ran apart told) mode
