use Rattle.sby_top.proofs.ClaimLemmas.{cover_fail_claimed, cover_pass_claimed, fail_claimed, pass_claimed, prove_fail_claimed, prove_pass_claimed}
use Rattle.sby_top.proofs.EventLemmas.{event_named}
use Rattle.sby_top.proofs.TurnRunLemmas.{each_had}
use Rattle.sby_top.proofs.PrintedLemmas.{told_status, zero_expected_all}
use Rattle.sby_top.proofs.claims.output_can_be_read.Goals as goal

pub returns : goal.returns
returns g c = λ before after words done did. record {
  every_end = λ place end at. each_had (g.C.Clock.may_read c.args.clock.now) before after words done place end did at;
  pass_of_bmc = λ moments task end is status mode. pass_claimed (g.C.Clock.may_read c.args.clock.now) is.place moments task end is.exit is.ran status mode;
  pass_of_prove = λ moments task end is status mode. prove_pass_claimed (g.C.Clock.may_read c.args.clock.now) is.place moments task end is.exit is.ran status mode;
  pass_of_cover = λ moments task end is status mode. cover_pass_claimed (g.C.Clock.may_read c.args.clock.now) is.place moments task end is.exit is.ran status mode;
  fail_of_bmc = λ moments task end is status mode. fail_claimed (g.C.Clock.may_read c.args.clock.now) is.place moments task end is.exit is.ran status mode;
  fail_of_prove = λ moments task end is status mode. prove_fail_claimed (g.C.Clock.may_read c.args.clock.now) is.place moments task end is.exit is.ran status mode;
  fail_of_cover = λ moments task end is status mode. cover_fail_claimed (g.C.Clock.may_read c.args.clock.now) is.place moments task end is.exit is.ran status mode;
  other = λ moments task end is. event_named (g.C.Clock.may_read c.args.clock.now) is.place moments task end is.ran.named;
  printed = λ moments task end is status rc apart told. told_status (g.C.Clock.may_read c.args.clock.now) is.place moments task end is.exit status rc is.ran apart told;
  exit_status = zero_expected_all (g.C.Clock.may_read c.args.clock.now) before after words done did;
}
