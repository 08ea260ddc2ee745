use Rattle.btor_core.proofs.Numbering.{may_start, state_has_sort}
use Rattle.btor_core.proofs.draft.Draft.init.Goals as goal

pub known_sort-sort-requires : goal.known_sort-sort-requires
known_sort-sort-requires c = (state_has_sort c.args.self.now c.args.state.nid c.args.state.width c.promise.ensures.btor c.requires.some c.requires.state).width

pub say-requires-clause-fits : goal.say-requires-clause-fits
say-requires-clause-fits c = rw c.known_sort-sort.ensures (may_start c.args.self.now c.args.state c.args.value c.promise.ensures.btor c.requires)
