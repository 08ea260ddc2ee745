use Rattle.std.specs.Prelude.{None}
use Rattle.lrat_check.specs.Table.{held}
use Rattle.lrat_check.proofs.Table.{places_put}
use Rattle.lrat_check.proofs.Hinted.delete.Goals as goal

pub invariant_of-self : goal.invariant_of-self
invariant_of-self c =
    let i = c.self.invariant in
    let k = i.0 in (
      record {
        clear = k.clear;
        places = places_put (held c.self.inside.clauses) (held c.remove.new.self) c.args.id None c.self.inside.marks.items c.remove.ensures.held k.places (λ d h. cc);
      },
      c.remove.ensures.ids c.self.inside.last_id i.1,
    )
