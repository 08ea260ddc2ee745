use Rattle.std.proofs.Common.{ap, ◌∙◌}
use Rattle.net_pair.specs.Pairing.{later}
use Rattle.net_pair.proofs.Forming.{is_pair_by}
use Rattle.net_pair.proofs.pairing.pair_again.Goals as goal

pub new-requires : goal.new-requires
new-requires c =
    is_pair_by c.args.net.now c.args.bits.now c.in_ok-formula.formula c.in_ok-formula.start c.later-next.result c.bad_of.result c.in_ok-lits.lits.items c.promise.ensures c.requires.fits
    c.in_ok-formula.ensures.formula c.in_ok-formula.ensures.start (c.later-next.ensures ∙ ap (later c.args.net.now) c.assumed.ensures) c.bad_of.ensures c.in_ok-lits.ensures
