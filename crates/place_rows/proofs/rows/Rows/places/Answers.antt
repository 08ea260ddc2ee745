use Rattle.std.proofs.Common.{◌∙◌}
use Rattle.place_rows.proofs.Joining.{all_places}
use Rattle.place_rows.proofs.rows.Rows.places.Goals as goal

pub returns : goal.returns
returns c = c.as_slice.ensures.value ∙ all_places c.args.self.now c.self.inside.ends.items c.self.inside.places.items c.self.view_is c.self.invariant
