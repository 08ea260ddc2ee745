use Rattle.std.proofs.Common.{ap, eqb, ◌≡◌}
use Rattle.std.proofs.lemmas.Bool.{eqb-true, eq-eqb}
use Rattle.std.proofs.lemmas.Bool.Decides.{same_from_decides}
use Rattle.std.proofs.lemmas.Slice.Eq.{slice_eq-Decides}
use Rattle.std.specs.Cmp.{booleans_Decides}
use Rattle.sby_bits.specs.Rows.{Row, num}
use Rattle.sby_bits.proofs.Orders.{num-same}
use Rattle.sby_bits.proofs.comparisons.equal.Goals as goal

pub returns : goal.returns
returns c =
    same_from_decides {P = c.args.a.now ≡ c.args.b.now} c.eq.result (eqb (num c.args.a.now) (num c.args.b.now))
    (slice_eq-Decides booleans_Decides c.args.a.now c.args.b.now c.eq.result c.eq.ensures) (
      (λ e. num-same c.args.a.now c.args.b.now c.requires (eqb-true (num c.args.a.now) (num c.args.b.now) e)),
      (λ e. eq-eqb (num c.args.a.now) (num c.args.b.now) (ap (λ (r : Row). num r) e)),
    )
