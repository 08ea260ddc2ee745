use Rattle.std.proofs.Common.{◌≡◌, ◌⊎◌, ◌<◌, ℕ, get_or, length, arith}
use Rattle.std.proofs.lemmas.Option.{slice_get-get_or}
use Rattle.btor_emit.specs.Marks.{IsOfStatement}
use Rattle.btor_emit.proofs.Marking.{among_all, among_more, among_none, marked_then}
use Rattle.btor_emit.proofs.reads.mark_statements.Goals as goal
use Rattle.model_core.specs.Shape.{IsStatement}
use Rattle.model_core.specs.declared.model.Statement.{Statement}
use Rattle.model_core.proofs.Lists.{all_at, contained_at, place_of_contained}

abbrev none : Statement
none = record { a = 0; en = 0 }

abbrev IsPlace : Statement → ℕ → Type 0
IsPlace s p = (p ≡ s.a) ⊎ (p ≡ s.en)

pub loop-k-init : goal.loop-k-init
loop-k-init c = among_none c.args.statements.now IsPlace c.args.marks.now

pub mark-requires : goal.mark-requires
mark-requires c =
    let ss = c.args.statements.now in
    let i = c.loop-k.k in
    let l : i < length ss = omega arith in
    let w = (all_at (IsStatement (length c.args.marks.now)) ss i (get_or ss i none) c.requires (slice_get-get_or ss i none l)).0 in
    let z = c.loop-k.invariant.size in
    omega arith

pub mark-requires-in-loop-k : goal.mark-requires-in-loop-k
mark-requires-in-loop-k c =
    let ss = c.args.statements.now in
    let i = c.loop-k.k in
    let l : i < length ss = omega arith in
    let w = (all_at (IsStatement (length c.args.marks.now)) ss i (get_or ss i none) c.requires (slice_get-get_or ss i none l)).1 in
    let z = c.loop-k.invariant.size in
    let y = c.mark.ensures.size in
    omega arith

pub loop-k-preserved : goal.loop-k-preserved
loop-k-preserved c =
    let ss = c.args.statements.now in
    let i = c.loop-k.k in
    let l : i < length ss = omega arith in
    let s = get_or ss i none in
    among_more ss IsPlace c.args.marks.now c.loop-k.marks c.mark-in-loop-k.new.marks i s (slice_get-get_or ss i none l) c.loop-k.invariant
    (marked_then c.loop-k.marks c.mark.new.marks c.mark-in-loop-k.new.marks (λ p. p ≡ s.a) (λ p. p ≡ s.en) (IsPlace s) (λ p h. h) (λ p h. h) c.mark.ensures c.mark-in-loop-k.ensures)

pub returns : goal.returns
returns c =
    let ss = c.args.statements.now in
    among_all ss IsPlace (IsOfStatement ss) c.args.marks.now c.loop-k.marks c.loop-k.k (let t = c.loop-k-test.false in let b = c.loop-k.auto.k-end in omega arith) (λ p k s at h. (s, contained_at ss s k at, h))
    (λ p q. let at = place_of_contained ss q.0 q.1 in (at.0, q.0, at.1, q.2)) c.loop-k.invariant
