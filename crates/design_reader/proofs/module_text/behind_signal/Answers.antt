use Rattle.std.proofs.Common.{subst}
use Rattle.design_reader.specs.Drafts.{draft_of, FitsTarget}
use Rattle.design_reader.specs.declared.spot.Target.{Target}
use Rattle.design_reader.proofs.Declared.{signal_declared, port_fits}
use Rattle.design_reader.proofs.module_text.behind_signal.Goals as goal

pub cell_line-requires : goal.cell_line-requires
cell_line-requires c =
    let d = draft_of c.args.draft.now in
    let target = subst (λ (t : Target). FitsTarget d t) c.in-Port.is c.requires.target in
    port_fits d c.args.segments c.in-Ok.signal c.in-Port.cell c.push_port.new.self c.in-Port.label c.requires.one c.requires.rows c.in-Ok.ensures c.in_ok-push_port-in-Port.ensures target.0 target.1

pub signal_word-requires-clause-target : goal.signal_word-requires-clause-target
signal_word-requires-clause-target c =
    signal_declared (draft_of c.args.draft.now) c.args.segments c.in-Ok.signal c.requires.one c.requires.rows c.in-Ok.ensures

pub add_connect-requires-clause-right : goal.add_connect-requires-clause-right
add_connect-requires-clause-right c =
    signal_declared (draft_of c.args.draft.now) c.args.segments c.in-Ok.signal c.requires.one c.requires.rows c.in-Ok.ensures
