use Rattle.std.proofs.Common.{◌++◌, List, sym, ap, ◌∙◌}
use Rattle.cnf_form.specs.Cnf.{LitOf}
use Rattle.net_pair.specs.Pairing.{digit_of}
use Rattle.net_pair.proofs.Laying.{digits_step}
use Rattle.net_pair.proofs.cycles.digits_of.Goals as goal

pub loop-place-preserved : goal.loop-place-preserved
loop-place-preserved c =
    c.in_ok-push_digit.ensures ∙ ap (λ (ls : List LitOf). ls ++ digit_of c.loop-place.place c.index-states-place.result.start) c.loop-place.invariant
    ∙ sym (digits_step c.args.states.now c.loop-place.place c.index-states-place.result c.loop-place-test.true c.index-states-place.is)
