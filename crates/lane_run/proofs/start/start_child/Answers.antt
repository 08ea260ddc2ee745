use Rattle.std.proofs.Common.{◌≡◌, ◌∙◌, [], ◌∷◌, None, Some, inl, inr, refl, ap, map, string_bytes}
use Rattle.race_core.specs.Parts.{reader_from}
use Rattle.race_core.specs.declared.part.Reader.TheVariants as reader
use Rattle.lane_berth.specs.Berths.{BerthOf}
use Rattle.lane_run.specs.Keeping.{IsOfCell}
use Rattle.lane_run.specs.Reading.{NoneLeft, bytes_read}
use Rattle.lane_run.specs.Starting.{ReadsScript, start_of}
use Rattle.lane_run.proofs.ChildStarts.{comes_for, life, none_for_want, none_started}
use Rattle.lane_run.proofs.Keepers.{keeps_then}
use Rattle.lane_run.proofs.PlaceLemmas.{told_after}
use Rattle.lane_run.proofs.start.start_child.Goals as goal

pub returns-in-Err-Failed-clause-starts : goal.returns-in-Err-Failed-clause-starts
returns-in-Err-Failed-clause-starts g c =
    let told = rw (c.in-Err-Failed.field-0-is, c.as_slice.ensures.value) at c.in-Err-Failed.ensures.told in
    (start_of c.args.watch.now.terms.now.job (map string_bytes c.args.child.words.items) (g.F.Told.bytes c.args.file.now) None None ∷ [], ap (λ (b : BerthOf g.row.L.Denot). g.L.Launch.told b.bay) c.give_place.ensures.same ∙ told, inr (inl (refl, c.requires.fresh.1, refl)))

pub returns-in-Err-Memory-clause-starts : goal.returns-in-Err-Memory-clause-starts
returns-in-Err-Memory-clause-starts g c =
    let told = rw c.as_slice.ensures.value at c.start.ensures.told in
    let bay = g.L.Launch.told c.args.berth.now.bay in (
      [],
      ap (λ (b : BerthOf g.row.L.Denot). g.L.Launch.told b.bay) c.want_placed.ensures.same ∙ none_started c.start.result c.in-Err-Memory.field-0 c.args.watch.now.terms.now.job (map string_bytes c.args.child.words.items) (g.F.Told.bytes c.args.file.now) bay (g.L.Launch.told c.start.new.self.bay) c.in-Err-Memory.is c.in-Err-Memory.field-0-is told,
      none_for_want c.args.berth.now.pool c.args.watch.now.terms.now.job (map string_bytes c.args.child.words.items) (g.F.Told.bytes c.args.file.now)
          (ReadsScript (g.S.ChildJudge.stands c.args.child.judge) (g.S.ChildJudge.ends c.args.child.judge) (g.S.ChildJudge.proves c.args.child.judge) bay c.args.watch.now.terms.now.job c.args.most (g.S.ChildJudge.most c.args.child.judge) c.args.reader_events.events)
          c.args.reader_events.events c.want_placed.new.events.events c.want_placed.result c.want_placed.ensures.is c.requires.fresh.1,
    )

pub returns-clause-found : goal.returns-clause-found
returns-clause-found g c = λ f h.
    let ran = c.run_started.ensures.ran in
    let s = c.args.child.judge in
    comes_for (g.S.ChildJudge.stands s) (g.S.ChildJudge.ends s) (g.S.ChildJudge.proves s)
    (λ f. (g.T.Settled.problem f ≡ g.J.ForJob.problem c.args.watch.now.problem.now) × (g.T.Settled.job f ≡ c.args.watch.now.terms.now.job))
    (NoneLeft ran.0) ran.1 ran.2 (reader_from reader.Fresh c.run_started.result.events.events) f
    (λ bytes f says. let is = c.findings_are_for.ensures bytes f says in (is.0 ∙ c.requires.about.0, is.1 ∙ c.requires.about.1))
    ran.10 h

pub returns-clause-keeps : goal.returns-clause-keeps
returns-clause-keeps g c =
    keeps_then (IsOfCell g.T.Settled.problem g.T.Settled.job (g.J.ForJob.problem c.args.watch.now.problem.now) c.args.watch.now.terms.now c.args.watch.now.other) (g.C.Clock.may_read c.args.watch.now.clock.now)
    c.args.notes.now c.args.notes.now c.run_started.new.notes c.args.keeper_events.now.events c.enter_place.new.events.events c.run_started.new.keeper_events.events c.enter_place.ensures.keeps c.run_started.ensures.keeps

pub returns-clause-starts : goal.returns-clause-starts
returns-clause-starts g c =
    let s = c.args.child.judge in
    let job = c.args.watch.now.terms.now.job in
    let words = map string_bytes c.args.child.words.items in
    let events = c.run_started.result.events.events in
    let told = rw c.as_slice.ensures.value at c.in-Ok.ensures.told in
    let l = life (g.S.ChildJudge.stands s) (g.S.ChildJudge.ends s) (g.S.ChildJudge.proves s) job words (g.F.Told.bytes c.args.file.now) c.args.most (g.S.ChildJudge.most s) events c.run_started.new.keeper_events.events
    (g.L.Launch.told c.args.berth.now.bay) (g.L.Launch.told c.start.new.self.bay) (g.L.Launch.told c.run_started.new.berth.bay) (g.L.Pipe.Pipe.told c.in-Ok.started.0)
    c.in-Ok.started told c.in-Ok.ensures.pipe c.run_started.ensures.ran in
    let tells = told_after c.args.berth.now.pool c.start.new.self.pool c.enter_place.new.events.events c.run_started.new.keeper_events.events
    (ap (λ (b : BerthOf g.row.L.Denot). b.pool) c.start.ensures.same) c.enter_place.ensures.told c.run_started.ensures.keeps.starts in
    (start_of job words (g.F.Told.bytes c.args.file.now) (Some (bytes_read events)) l.killed ∷ [], l.told, inr (inr ((c.run_started.ensures.started, tells), l.reads, (l.killed, l.for, refl))))
