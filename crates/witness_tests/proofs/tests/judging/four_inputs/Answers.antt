use Rattle.std.proofs.Common.{◌≡◌, refl, sym, subst}
use Rattle.model_core.specs.Served.{IsModel}
use Rattle.witness_tests.proofs.FourInputs.{four_inputs as the_model, four_inputs_is}
use Rattle.witness_tests.proofs.tests.judging.four_inputs.Goals as goal

pub finish-requires : goal.finish-requires
finish-requires c =
    let same : c.push_assert.new.self ≡ the_model = rw (c.in_ok-push_assert.ensures, c.in_ok-push_input-4.ensures, c.in_ok-push_input-3.ensures, c.in_ok-push_input-2.ensures, c.in_ok-push_input.ensures, c.in_ok-push_register.ensures, c.new-draft.ensures) refl in
    subst IsModel (sym same) four_inputs_is
