use Rattle.frozen_clauses.proofs.Filing.{slot_read}
use Rattle.frozen_clauses.proofs.subset.is_covered.Goals as goal

pub are_marked-requires : goal.are_marked-requires
are_marked-requires c =
    c.requires.places c.args.k c.as_slice.result.now (slot_read c.args.clauses.now c.args.k c.index-clauses-k.result c.in-Some.clause _ c.requires.number c.index-clauses-k.is c.in-Some.is c.as_slice.ensures.value)
