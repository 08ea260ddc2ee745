use Rattle.std.proofs.Common.{inl, refl, arith}
use Rattle.sby_top.proofs.host.Host.show_early.Goals as goal

pub returns-clause-ran : goal.returns-clause-ran
returns-clause-ran g c = λ got put pool reason less.
    c.finish_early.ensures.ran got put pool _ reason less refl (inl refl) refl (record { starts = omega arith; reads = omega arith; holds = omega arith })
