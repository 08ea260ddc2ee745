use Rattle.bit_net.proofs.Reached.{at_before, at_gate, at_now, at_state, further, least}
use Rattle.bit_net.proofs.laws.levels_are_reached.Goals as goal

pub returns-clause-now : goal.returns-clause-now
returns-clause-now c = at_now

pub returns-clause-before : goal.returns-clause-before
returns-clause-before c = at_before

pub returns-clause-gates : goal.returns-clause-gates
returns-clause-gates c = at_gate

pub returns-clause-states : goal.returns-clause-states
returns-clause-states c = at_state

pub returns-clause-further : goal.returns-clause-further
returns-clause-further c = further

pub returns-clause-least : goal.returns-clause-least
returns-clause-least c = least
