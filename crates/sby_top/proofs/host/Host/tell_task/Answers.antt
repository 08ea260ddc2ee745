use Rattle.std.proofs.Common.{◌∙◌, [], ◌∷◌, inl, refl, map, subst}
use Rattle.std.proofs.lemmas.Result.{err_from_is_err_and}
use Rattle.sby_lines.specs.Lines.{design_line, done_line, unput_lines}
use Rattle.sby_lines.specs.Telling.{Tells}
use Rattle.sby_lines.specs.Told.{asked_by, came}
use Rattle.sby_top.specs.Shown.{trace_seen}
use Rattle.sby_top.proofs.EndLemmas.{after_head, head_alone, head_stopped}
use Rattle.sby_top.proofs.TraceLemmas.{fitting_traces, shown_put}
use Rattle.sby_top.proofs.host.Host.tell_task.Goals as goal

pub tell_served-requires-clause-fitting : goal.tell_served-requires-clause-fitting
tell_served-requires-clause-fitting g c = λ lifetimes lives. rw c.deref-in-Ok-reserve.ensures.value (fitting_traces (asked_by c.args.heading.now []) c.args.served.now.problem.design c.args.served.now.reports.items _ c.requires.reported
    (rw (← c.flat.ensures.flat, ← c.deref.ensures.value) (c.in-Ok.ensures.traces [])))

pub returns-in-Ok-reserve-clause-put : goal.returns-in-Ok-reserve-clause-put
returns-in-Ok-reserve-clause-put g c = λ expect. shown_put (asked_by c.args.heading.now expect) c.args.served.now.problem.design c.args.served.now.reports.items (map trace_seen c.in-Ok.runs.items) _ _ _ _
    (rw (← c.flat.ensures.flat, ← c.deref.ensures.value) (c.in-Ok.ensures.traces expect)) (rw (← c.deref-in-Ok-reserve.ensures.value) (c.tell_served.ensures.put expect))

pub returns-in-Ok-clause-put : goal.returns-in-Ok-clause-put
returns-in-Ok-clause-put g c = λ expect. record { traces = []; count = 0; are_traces = inl refl; put = (refl, c.reserve.ensures.items ∙ c.requires.none); all = λ whole. let no : ⊥ = cc in absurd no }

pub returns-clause-put : goal.returns-clause-put
returns-clause-put g c = λ expect. record { traces = []; count = 0; are_traces = inl refl; put = (refl, c.requires.none); all = λ whole. let no : ⊥ = cc in absurd no }

pub returns-in_err-head-clause-told : goal.returns-in_err-head-clause-told
returns-in_err-head-clause-told g c = let p = err_from_is_err_and c.from_residual.result c.from_residual.ensures.1 in
    rw (p.1, p.2) (λ first faults expect lines head has. head_stopped first _ faults _ _ (asked_by c.args.heading.now expect) (came c.args.served.now.problem.design c.args.served.now.reports.items c.args.served.now.start) c.args.served.now.collected.status lines _ c.in_err-head.field-0.0 has
    (subst (λ r. Tells {T = Unit {0}} first (g.S.Sink.taken c.args.self.now.out.now) faults (g.S.Sink.faults c.args.self.now.out.now) (g.S.Sink.ended c.args.self.now.out.now) (design_line c.args.heading.now.name.now c.args.served.now.problem.design ∷ []) r) c.in_err-head.was head))

pub returns-in_err-head-clause-put : goal.returns-in_err-head-clause-put
returns-in_err-head-clause-put g c = let p = err_from_is_err_and c.from_residual.result c.from_residual.ensures.1 in
    rw p.1 (λ expect. record { traces = []; count = 0; are_traces = inl refl; put = (refl, c.requires.none); all = λ whole. let no : ⊥ = cc in absurd no })

pub returns-in-Ok-reserve-clause-told : goal.returns-in-Ok-reserve-clause-told
returns-in-Ok-reserve-clause-told g c = λ first faults expect lines head has.
    after_head first _ _ faults _ _ _ _ (asked_by c.args.heading.now expect) (came c.args.served.now.problem.design c.args.served.now.reports.items c.args.served.now.start) c.args.served.now.collected.status lines _ _ _ has
    (subst (λ r. Tells {T = Unit {0}} first (g.S.Sink.taken c.args.self.now.out.now) faults (g.S.Sink.faults c.args.self.now.out.now) (g.S.Sink.ended c.args.self.now.out.now) (design_line c.args.heading.now.name.now c.args.served.now.problem.design ∷ []) r) c.in_ok-head.was head)
    (λ rest own. c.tell_served.ensures.told expect rest own)

pub returns-in-Ok-clause-told : goal.returns-in-Ok-clause-told
returns-in-Ok-clause-told g c = λ first faults expect lines head has.
    head_alone first _ faults _ _ (asked_by c.args.heading.now expect) (came c.args.served.now.problem.design c.args.served.now.reports.items c.args.served.now.start) c.args.served.now.collected.status lines (unput_lines (asked_by c.args.heading.now expect) _) (done_line c.args.heading.now.name.now c.args.served.now.collected.status c.args.rc) _ has
    (subst (λ r. Tells {T = Unit {0}} first (g.S.Sink.taken c.args.self.now.out.now) faults (g.S.Sink.faults c.args.self.now.out.now) (g.S.Sink.ended c.args.self.now.out.now) (design_line c.args.heading.now.name.now c.args.served.now.problem.design ∷ []) r) c.in_ok-head.was head)

pub returns-clause-told : goal.returns-clause-told
returns-clause-told g c = λ first faults expect lines head has.
    head_alone first _ faults _ _ (asked_by c.args.heading.now expect) (came c.args.served.now.problem.design c.args.served.now.reports.items c.args.served.now.start) c.args.served.now.collected.status lines (unput_lines (asked_by c.args.heading.now expect) _) (done_line c.args.heading.now.name.now c.args.served.now.collected.status c.args.rc) _ has
    (subst (λ r. Tells {T = Unit {0}} first (g.S.Sink.taken c.args.self.now.out.now) faults (g.S.Sink.faults c.args.self.now.out.now) (g.S.Sink.ended c.args.self.now.out.now) (design_line c.args.heading.now.name.now c.args.served.now.problem.design ∷ []) r) c.in_ok-head.was head)
