use Rattle.std.proofs.Common.{◌≡◌, length, arith}
use Rattle.design_reader.specs.Drafts.{draft_of}
use Rattle.design_reader.proofs.Declared.{signal_declared}
use Rattle.design_reader.proofs.PartLemmas.{joined_fits, joined_name}
use Rattle.design_reader.proofs.module_text.part_name.Goals as goal

pub signal_name-requires-clause-rows : goal.signal_name-requires-clause-rows
signal_name-requires-clause-rows c =
    (joined_fits (draft_of c.args.draft.now) c.args.segments c.join.new.self (omega (arith, c.len.ensures, c.if-len-gt1.true)) c.requires.rows c.join.ensures).0

pub returns-then-len-gt1-clause-step : goal.returns-then-len-gt1-clause-step
returns-then-len-gt1-clause-step c =
    rw (joined_name (draft_of c.args.draft.now) c.args.target c.args.segments c.join.new.self c.args.name.now (omega (arith, c.len.ensures, c.if-len-gt1.true)) c.join.ensures)
    c.signal_name.ensures.step

pub signal_name-requires-in-Left-clause-target : goal.signal_name-requires-in-Left-clause-target
signal_name-requires-in-Left-clause-target c =
    let one : length c.args.segments ≡ 1 = omega (arith, c.len.ensures, c.if-len-gt1.false, c.requires.some) in
    signal_declared (draft_of c.args.draft.now) c.args.segments c.in_ok-stored-in-Left.field-0 one c.requires.rows c.in_ok-stored-in-Left.ensures
