use Rattle.std.specs.Prelude.{string_bytes}
use Rattle.sby_top.proofs.EndLemmas.{fault_told}
use Rattle.sby_top.proofs.run.finish_fault.Goals as goal

pub returns-clause-told : goal.returns-clause-told
returns-clause-told g c = λ request name count expect. fault_told request c.args.early (string_bytes c.args.name) c.args.slices c.args.expect.now _ _ _ _ _ c.tell_early-told.result c.early_status-decided.result c.rc_of-rc.result _ _
    name count expect c.ended-status.ensures (rw (← c.as_str.ensures.value) c.tell_early-told.ensures) c.rc_of-rc.ensures (c.early_status-decided.ensures request)
