use Rattle.std.proofs.Common.{◌≡◌, refl, sym, subst}
use Rattle.model_core.specs.Served.{IsModel}
use Rattle.witness_tests.proofs.OneBit.{one_bit as the_model, one_bit_is}
use Rattle.witness_tests.proofs.tests.judging.one_bit.Goals as goal

pub finish-requires : goal.finish-requires
finish-requires c =
    let same : c.push_assert.new.self ≡ the_model = rw (c.in_ok-push_assert.ensures, c.in_ok-push_input.ensures, c.in_ok-push_register.ensures, c.new-draft.ensures) refl in
    subst IsModel (sym same) one_bit_is
