use Rattle.model_cone.proofs.marking.mark_asked.Goals as goal

pub mark_statements-requires : goal.mark_statements-requires
mark_statements-requires c = rw (c.asserts.ensures, c.requires.size) c.requires.model.asserts

pub mark_statements-requires-in-Covers : goal.mark_statements-requires-in-Covers
mark_statements-requires-in-Covers c = rw (c.covers.ensures, c.requires.size) c.requires.model.covers
