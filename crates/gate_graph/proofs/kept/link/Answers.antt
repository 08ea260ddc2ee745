use Rattle.std.proofs.Common.{length, arith}
use Rattle.std.proofs.lemmas.Option.{slice_get-get_or}
use Rattle.gate_graph.specs.Places.{place_of}
use Rattle.gate_graph.proofs.Linking.{linked_next}
use Rattle.gate_graph.proofs.kept.link.Goals as goal

pub returns-clause-linked : goal.returns-clause-linked
returns-clause-linked c = λ entries l at old.
    let p = c.place_of-place.ensures.place in
    let i = c.place_of-place.ensures.inside in
    let m = c.requires.places.many in
    rw p (linked_next (place_of (length c.args.heads.now)) c.args.heads.now c.args.links.now entries c.args.count c.args.gate.now l _ (rw p at i) at (omega arith)
    (slice_get-get_or c.args.heads.now (place_of (length c.args.heads.now) c.args.gate.now) 0 (rw p at i)) old)
