use Rattle.std.proofs.Common.{◌<◌, ◌≤◌, arith}
use Rattle.design_meaning.proofs.laws.no_break_narrows.Goals as goal

pub returns : goal.returns
returns c = λ d k n l m none le more j vs a lt within shows.
    let above : k < j = omega arith in
    let below : j ≤ n = omega arith in
    none j vs a above below shows
