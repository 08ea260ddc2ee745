-- What makes a job needless skips it too.
use Rattle.std.proofs.Common.{◌≡◌, true, eqb-true, le-leb, arith}
use Rattle.race_core.specs.Asking.{needless_by, skipped_by}
use Rattle.sby_terms.specs.declared.names.Answer.{Answer}
use Rattle.sby_terms.specs.declared.names.Answer.TheVariants.{Sat, Unsat}
use Rattle.sby_terms.specs.declared.names.JobName.{JobName}
use Rattle.sby_terms.specs.declared.names.JobName.TheVariants.{Base, Step, Inv, Cover}

pub needless_skips : (j : JobName) (a : Answer) (k : JobName) → needless_by j a k ≡ true → skipped_by j a k ≡ true
needless_skips (Base m) Sat (Base n) is = le-leb m n (omega (arith, eqb-true m n is))
needless_skips (Base m) Unsat (Base n) is = is
needless_skips (Base m) Sat Step is = is
needless_skips (Base m) Unsat Step is = is
needless_skips (Base m) Sat Inv is = is
needless_skips (Base m) Unsat Inv is = is
needless_skips (Base m) a (Cover n) is = is
needless_skips Step a (Base n) is = is
needless_skips Step a Step is = is
needless_skips Step a Inv is = is
needless_skips Step a (Cover n) is = is
needless_skips Inv a (Base n) is = is
needless_skips Inv a Step is = is
needless_skips Inv a Inv is = is
needless_skips Inv a (Cover n) is = is
needless_skips (Cover m) a (Base n) is = is
needless_skips (Cover m) a Step is = is
needless_skips (Cover m) a Inv is = is
needless_skips (Cover m) a (Cover n) is = is
