use Rattle.std.proofs.Common.{◌≡◌, ℕ, ◌+◌, ◌-◌, ◌≤◌, arith, drop, length, subst, take}
use Rattle.std.proofs.lemmas.List.{length-drop, length-take-le}
use Rattle.inv_stream.specs.Taking.{IsTaken, turns}
use Rattle.inv_stream.proofs.Pieces.{left_on, left_stopped}
use Rattle.inv_stream.proofs.feeding.take_piece.Goals as goal

pub returns-then-branch-clause-told : goal.returns-then-branch-clause-told
returns-then-branch-clause-told g c =
    let piece = c.args.piece.now in
    let i = c.loop-i.i in
    let n = c.chunk-count.result in
    let many = length-take-le (length piece - i) (drop i piece) (let d = length-drop i piece in omega arith) in
    let fits : c.loop-i.i + c.chunk-count.result ≤ length c.args.piece.now = let w = c.chunk-count.ensures.within in let t = c.loop-i-test.true in omega arith in
    let same : c.loop-i.i + c.chunk-count.result - c.loop-i.i ≡ c.chunk-count.result = omega arith in
    left_stopped g.R.Receiver.gets g.R.InvReceiver.parts g.R.Receiver.stops c.args.parser.now c.args.receiver.now piece c.loop-i.parser c.take.new.self c.loop-i.receiver c.take.new.receiver i n
    c.in_ok-take.field-0 c.loop-i.invariant.left fits
    (subst (λ (m : ℕ). IsTaken g.R.Receiver.gets g.R.InvReceiver.parts g.R.Receiver.stops (turns c.loop-i.parser (take m (drop c.loop-i.i c.args.piece.now))) c.loop-i.receiver c.take.new.receiver c.take.new.self c.in_ok-take.field-0)
    same c.in_ok-take.ensures.taken)
    c.if-branch.true

pub loop-i-preserved : goal.loop-i-preserved
loop-i-preserved g c =
    let piece = c.args.piece.now in
    let i = c.loop-i.i in
    let n = c.chunk-count.result in
    let many = length-take-le (length piece - i) (drop i piece) (let d = length-drop i piece in omega arith) in
    let fits : c.loop-i.i + c.chunk-count.result ≤ length c.args.piece.now = let w = c.chunk-count.ensures.within in let t = c.loop-i-test.true in omega arith in
    let same : c.loop-i.i + c.chunk-count.result - c.loop-i.i ≡ c.chunk-count.result = omega arith in
    record {
      left =
          left_on g.R.Receiver.gets g.R.InvReceiver.parts g.R.Receiver.stops c.args.parser.now c.args.receiver.now piece c.loop-i.parser c.take.new.self c.loop-i.receiver c.take.new.receiver i n
          c.in_ok-take.field-0 c.loop-i.invariant.left fits
          (subst (λ (m : ℕ). IsTaken g.R.Receiver.gets g.R.InvReceiver.parts g.R.Receiver.stops (turns c.loop-i.parser (take m (drop c.loop-i.i c.args.piece.now))) c.loop-i.receiver c.take.new.receiver c.take.new.self c.in_ok-take.field-0)
          same c.in_ok-take.ensures.taken)
          c.if-branch.false;
      vars = c.in_ok-take.ensures.vars;
    }
