use Rattle.std.proofs.Common.{◌≡◌, ◌+◌, ◌-◌, drop, take, length, cond, ap, sym, ◌∙◌, arith}
use Rattle.std.proofs.lemmas.Grind.{common_steps}
use Rattle.sby_task.specs.Marks.{begins}
use Rattle.sby_task.proofs.MarkCounts.{count_more}
use Rattle.sby_task.proofs.marks.count_in.Goals as goal
use Rattle.sby_task.proofs.marks.count_in.Goals.{then-starts_with, else-starts_with}

pub loop-i-preserved : goal.loop-i-preserved
loop-i-preserved c =
    let word = c.as_bytes-bytes.result.now in
    let i = c.loop-i.i in
    let rest : take (length word - i) (drop i word) ≡ drop i word = grind (arith, common_steps) in
    let few = c.loop-i.invariant.few in
    let found : c.starts_with.result ≡ begins c.args.mark.now (drop i word) =
    rw (sym c.as_bytes.ensures.value) (c.starts_with.ensures.value ∙ ap (begins c.as_bytes.result.now) rest) in
    let next : c.if-starts_with.count ≡ c.loop-i.count + cond c.starts_with.result 1 0 = elim c.if-starts_with.branch [
      | then-starts_with w ↦ rw w.if-starts_with.true w.count-is
      | else-starts_with w ↦ rw w.if-starts_with.false (omega (arith, w.count-is))
    ] in
    record {
      few = elim c.if-starts_with.branch [
        | then-starts_with w ↦ omega (arith, w.count-is)
        | else-starts_with w ↦ omega (arith, w.count-is)
      ];
      left = count_more c.args.mark.now word i c.loop-i.count c.if-starts_with.count _ c.starts_with.result c.loop-i-test.true found next c.loop-i.invariant.left;
    }
