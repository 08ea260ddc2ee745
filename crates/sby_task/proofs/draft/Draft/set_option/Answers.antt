use Rattle.std.proofs.Common.{arith}
use Rattle.std.proofs.lemmas.Grind.{common_steps}
use Rattle.sby_task.specs.Proved.{is_proved}
use Rattle.sby_task.proofs.draft.Draft.set_option.Goals as goal

pub returns-in-Mode : goal.returns-in-Mode
returns-in-Mode c = let h = c.set_mode.ensures (is_proved c.args.rows.now) in grind (arith, common_steps)

pub returns-in-Skip : goal.returns-in-Skip
returns-in-Skip c = let h = c.set_skip.ensures (is_proved c.args.rows.now) in grind (arith, common_steps)

pub returns-in-Depth : goal.returns-in-Depth
returns-in-Depth c = let h = c.set_depth.ensures (is_proved c.args.rows.now) in grind (arith, common_steps)

pub returns-in-Stride : goal.returns-in-Stride
returns-in-Stride c = let h = c.set_stride.ensures (is_proved c.args.rows.now) in grind (arith, common_steps)

pub returns-in-Timeout : goal.returns-in-Timeout
returns-in-Timeout c = let h = c.set_timeout.ensures (is_proved c.args.rows.now) in grind (arith, common_steps)

pub returns-in-Expect : goal.returns-in-Expect
returns-in-Expect c = let h = c.set_expect.ensures (is_proved c.args.rows.now) in grind (arith, common_steps)

pub returns-in-Wait : goal.returns-in-Wait
returns-in-Wait c = let h = c.set_wait.ensures (is_proved c.args.rows.now) in grind (arith, common_steps)

pub returns-in-Multiclock : goal.returns-in-Multiclock
returns-in-Multiclock c = let h = c.set_multiclock.ensures (is_proved c.args.rows.now) in grind (arith, common_steps)
