use Rattle.cnf_form.specs.Cnf.{negate}
use Rattle.cdcl_core.specs.Levels.{base_of}
use Rattle.cdcl_core.proofs.Marks.{of_prefix}
use Rattle.cdcl_core.proofs.learn.assert_learnt.Goals as goal

pub last_false-requires-clause-others : goal.last_false-requires-clause-others
last_false-requires-clause-others c m k n =
    let l = c.requires.learnt in
    of_prefix c.args.core.now.trail (base_of c.args.core.now) (negate m) (l.others m k n)
