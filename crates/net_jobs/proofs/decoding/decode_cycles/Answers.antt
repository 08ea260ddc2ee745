use Rattle.job_terms.specs.Decoding.{values_of}
use Rattle.net_jobs.proofs.Scattering.{choices_are}
use Rattle.net_jobs.proofs.decoding.decode_cycles.Goals as goal

pub returns : goal.returns
returns c =
    choices_are c.args.net.now c.args.cycles c.args.encoded.now (values_of c.args.values.now) c.states-states.result.now c.free-free.result.now c.goals.result.now c.max-early.result c.cycles_until-count.result c.inputs-width.result
    c.in_ok-starts.starts.items c.in_ok-inputs.inputs.items c.in_ok-bits.bits.items c.as_slice.result.now c.new.result c.states-states.ensures c.free-free.ensures c.goals.ensures c.max-early.ensures c.cycles_until-count.ensures c.inputs-width.ensures
    c.in_ok-bits.ensures.size c.in_ok-bits.ensures.tell c.as_slice.ensures.value c.in_ok-starts.ensures c.in_ok-inputs.ensures.size c.in_ok-inputs.ensures.tell c.new.ensures
