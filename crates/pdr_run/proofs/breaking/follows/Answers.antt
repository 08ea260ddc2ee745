use Rattle.std.proofs.Common.{ap, arith, sym, ◌∙◌, length}
use Rattle.std.proofs.lemmas.Option.{slice_get_within}
use Rattle.cnf_form.specs.Cnf.{lit_in}
use Rattle.cdcl_core.specs.Solving.{valued}
use Rattle.pdr_run.proofs.Cycles.{bit_there}
use Rattle.pdr_run.proofs.breaking.follows.Goals as goal

pub returns : goal.returns
returns c = λ t. record {
  next = ap (lit_in (valued c.args.first.now)) (sym c.next.ensures) ∙ sym c.value.ensures ∙ t;
  bits = λ n b at.
      let h = bit_there c.args.pair.now.bits n b at in
      c.loop-bit.invariant n b (omega (arith, slice_get_within c.args.pair.now.bits n _ h, c.loop-bit-test.false, ap length c.bits-bit-items.ensures)) h;
}
