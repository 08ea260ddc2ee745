use Rattle.std.proofs.Common.{sym, ap, subst, ◌∙◌}
use Rattle.race_core.specs.Asking.{terms_of}
use Rattle.race_core.specs.Ends.{EndIs}
use Rattle.race_core.specs.Parts.{keeper_from, place_from}
use Rattle.race_core.specs.Sharing.{ListOf}
use Rattle.race_core.specs.declared.part.Keeper.{Keeper}
use Rattle.race_core.specs.declared.part.Keeper.TheVariants as keeper
use Rattle.race_core.specs.declared.part.Place.TheVariants.{Away}
use Rattle.race_core.specs.declared.part.Reader.TheVariants as reader
use Rattle.lane_berth.specs.Berths.{BerthOf}
use Rattle.lane_run.proofs.Waits.{due_looked, due_right, over_unstarted}
use Rattle.lane_run.proofs.waiting.wait_turn.Goals as goal

pub returns-clause-over : goal.returns-clause-over
returns-clause-over g c =
    let none = c.take_place.ensures.none c.if-take_place.false in
    let a = terms_of g.T.Settled.job g.T.Settled.answer c.args.watch.now.terms.now in
    let k = keeper_from a keeper.Fresh c.watch_turn.new.events.events in
    let due = c.in_ok-why.ensures.due in
    let pool = ap (λ (b : BerthOf g.row.L.Denot). b.pool) c.take_place.ensures.same in (
      none.0,
      rw pool (over_unstarted c.args.berth.now.pool c.waited.result none.1 c.waited.ensures.is),
      due_right c.in_ok-why.why k due,
      due_looked c.in_ok-why.why k due,
      subst (λ (k : Keeper g.row.T.Denot). EndIs a (λ _. ⊥) reader.Fresh k c.waited.result) (sym due) (c.waited.ensures.end a),
      c.watch_turn.ensures.place ∙ (ap (λ (l : ListOf g.row.T.Denot). place_from Away l.events) none.2
          ∙ (ap (λ es. place_from Away es) c.take_room.ensures.events ∙ c.requires.place)),
    )
