use Rattle.std.proofs.Common.{arith, inl, inr, refl, subst, sym, ◌<◌, ◌^◌}
use Rattle.cdcl_run.specs.Run.{World}
use Rattle.pdr_run.specs.Answer.{IsAnswer, IsInvariantStream}
use Rattle.pdr_run.specs.Deciding.{IsOutcome}
use Rattle.pdr_run.specs.Text.{broken_text, spent_text}
use Rattle.pdr_run.proofs.Answering.{answer_told}
use Rattle.pdr_run.proofs.run.tell_outcome.Goals as goal

pub returns-in-Proved : goal.returns-in-Proved
returns-in-Proved g c = λ told faults p o.
    let before : World = record { told = told; file_faults = faults; taken = g.S.Sink.taken c.args.sink.now; sink_faults = g.S.Sink.faults c.args.sink.now } in
    let after : World = record { told = told; file_faults = faults; taken = g.S.Sink.taken c.tell.new.sink; sink_faults = g.S.Sink.faults c.tell.new.sink } in
    let work = c.args.work.now in
    let stream = c.deref.result.now in
    let a : IsAnswer p work.budget stream 20 = inl (refl, subst (IsInvariantStream p) (sym c.deref.ensures.value) (subst (IsOutcome p work) c.in-Proved.is o)) in
    inr (answer_told before after p work.budget 20 c.tell.result stream a c.tell.ensures)

pub returns-in-Broken : goal.returns-in-Broken
returns-in-Broken g c = λ told faults p o.
    let before : World = record { told = told; file_faults = faults; taken = g.S.Sink.taken c.args.sink.now; sink_faults = g.S.Sink.faults c.args.sink.now } in
    let after : World = record { told = told; file_faults = faults; taken = g.S.Sink.taken c.tell_text.new.sink; sink_faults = g.S.Sink.faults c.tell_text.new.sink } in
    let work = c.args.work.now in
    let n = c.in-Broken.length in
    let few : n < 2 ^ 64 = omega arith in
    let a : IsAnswer p work.budget (broken_text n) 0 = inr (inr (refl, (n, few, subst (IsOutcome p work) c.in-Broken.is o, refl))) in
    elim (c.tell_text.ensures (broken_text n) c.broken_text.ensures) [
      | inl w ↦ inl (record { exit_is = w.0; taken = w.1; sink_faults = w.2; file_faults = refl })
      | inr w ↦ inr (answer_told before after p work.budget 0 c.tell_text.result (broken_text n) a w)
    ]

pub returns-in-Spent : goal.returns-in-Spent
returns-in-Spent g c = λ told faults p o.
    let before : World = record { told = told; file_faults = faults; taken = g.S.Sink.taken c.args.sink.now; sink_faults = g.S.Sink.faults c.args.sink.now } in
    let after : World = record { told = told; file_faults = faults; taken = g.S.Sink.taken c.tell_text-in-Spent.new.sink; sink_faults = g.S.Sink.faults c.tell_text-in-Spent.new.sink } in
    let work = c.args.work.now in
    let text = spent_text work.conflicts work.queries in
    let a : IsAnswer p work.budget text 0 = inr (inl (refl, (work.conflicts, work.queries, subst (IsOutcome p work) c.in-Spent.is o, refl))) in
    elim (c.tell_text-in-Spent.ensures text c.spent_text.ensures) [
      | inl w ↦ inl (record { exit_is = w.0; taken = w.1; sink_faults = w.2; file_faults = refl })
      | inr w ↦ inr (answer_told before after p work.budget 0 c.tell_text-in-Spent.result text a w)
    ]
