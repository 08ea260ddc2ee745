use Rattle.std.proofs.Common.{ℕ, ◌<◌, List, get_or}
use Rattle.std.specs.Prelude.{All}
use Rattle.cnf_form.specs.Cnf.{LitOf}
use Rattle.lrat_check.specs.Marks.{HasPlaces, IsClear}
use Rattle.lrat_check.proofs.marks.places_for.Given as goal

abbrev pub invariant-loop-number : goal.invariant-loop-number
invariant-loop-number g l =
    let source = g.S.ClauseSource in
    record {
      clear : IsClear l.marks.items;
      places : (i : ℕ) (d : List LitOf) → i < l.number → All (HasPlaces l.marks.items) (get_or (source.formula l.source).clauses i d);
      place : source.at l.source l.place l.number;
    }
