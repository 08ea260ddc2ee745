use Rattle.std.proofs.Common.{[], ◌∷◌, ◌++◌, Err, refl, subst, sym}
use Rattle.std.proofs.lemmas.Result.{err_from_is_err_and}
use Rattle.sby_lines.specs.Lines.{done_line, unput_lines}
use Rattle.sby_lines.specs.Told.{AreLimited, asked_by}
use Rattle.sby_lines.specs.declared.tell.Stop.TheVariants.{Memory}
use Rattle.sby_lines.proofs.TellLemmas.{tells_nothing, tells_stopped, tells_then}
use Rattle.sby_top.proofs.EndLemmas.{some_last}
use Rattle.sby_top.proofs.host.Host.tell_served.Goals as goal

pub returns-in_err-tell_jobs-clause-told : goal.returns-in_err-tell_jobs-clause-told
returns-in_err-tell_jobs-clause-told g c = let p = err_from_is_err_and c.from_residual.result c.from_residual.ensures.1 in
    rw (p.1, p.2) (λ expect lines has. tells_stopped {T = Unit {0}} _ _ _ _ lines _ _ (c.in_err-tell_jobs.ensures expect lines (rw (c.flat-flat.ensures.flat, c.deref.ensures.value) has)))

pub returns-in-Ok-clause-told : goal.returns-in-Ok-clause-told
returns-in-Ok-clause-told g c = λ expect lines has. tells_then {T = Unit {0}} _ _ _ _ _ _ lines
    (unput_lines (asked_by c.args.heading.now expect) c.put_traces.new.unput.items ++ done_line c.args.heading.now.name.now c.args.served.now.collected.status c.args.rc ∷ []) tt _
    (c.in_ok-tell_jobs.ensures expect lines (rw (c.flat-flat.ensures.flat, c.deref.ensures.value) has)) (rw (← c.deref-in-Ok.ensures.value) (c.tell_last.ensures expect))

pub returns-in-Ok-clause-put : goal.returns-in-Ok-clause-put
returns-in-Ok-clause-put g c = λ expect. let u = c.in-Ok.ensures.put expect in rw (← c.flat-flat.ensures.flat) (record { count = u.count; put = u.put; all = λ whole. u.all refl })

pub returns-in-Err-clause-told : goal.returns-in-Err-clause-told
returns-in-Err-clause-told g c = λ expect lines has. tells_then {T = Unit {0}} _ _ _ _ _ _ lines
    (unput_lines (asked_by c.args.heading.now expect) c.put_traces.new.unput.items ++ done_line c.args.heading.now.name.now c.args.served.now.collected.status c.args.rc ∷ []) tt (Err Memory)
    (c.in_ok-tell_jobs.ensures expect lines (rw (c.flat-flat.ensures.flat, c.deref.ensures.value) has))
    (tells_nothing _ _ _ (some_last (unput_lines (asked_by c.args.heading.now expect) c.put_traces.new.unput.items) (done_line c.args.heading.now.name.now c.args.served.now.collected.status c.args.rc)))

pub tell_jobs-requires-clause-limited : goal.tell_jobs-requires-clause-limited
tell_jobs-requires-clause-limited g c = subst (λ rs. AreLimited c.args.served.now.start c.args.heading.now.limit rs) (sym c.deref.ensures.value) c.requires.limited
