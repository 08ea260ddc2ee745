use Rattle.std.proofs.Common.{suc, ◌<◌, arith}
use Rattle.design_meaning.proofs.laws.cut_run_is_run.Goals as goal

pub returns : goal.returns
returns c = λ d n vs r m some le. record {
  window = record {
    some = some;
    frames = λ t lt. let within : t < n = omega arith in r.window.frames t within;
    follows = λ t lt. let within : suc t < n = omega arith in r.window.follows t within;
  };
  starts = r.starts;
}
