use Rattle.std.proofs.Common.{arith, ap, sym, ◌∙◌}
use Rattle.proof_stream.specs.Text.{TextOf}
use Rattle.proof_stream.proofs.Passing.{gets_same, piece_said, piece_whole, piece_part}
use Rattle.proof_stream.proofs.text.TextParser.take_open.Goals as goal

pub returns-then-is_stopped-clause-told : goal.returns-then-is_stopped-clause-told
returns-then-is_stopped-clause-told g c =
    gets_same _ _ _ _ _ _ _ _
    (piece_said c.args.self.now c.self.inside.parser c.self.inside.starts c.self.inside.refused c.self.view_is c.requires.open c.args.piece.now c.pass-count.result c.pass-count.ensures.passes c.pass-count.new.starts c.pass-count.ensures.starts c.pass-count.ensures.refused)
    (sym c.is_stopped.ensures ∙ c.if-is_stopped.true) c.in_ok-fed.ensures.told

pub returns-then-count-piece-clause-told : goal.returns-then-count-piece-clause-told
returns-then-count-piece-clause-told g c =
    gets_same _ _ _ _ _ _ _ _
    (piece_said c.args.self.now c.self.inside.parser c.self.inside.starts c.self.inside.refused c.self.view_is c.requires.open c.args.piece.now c.pass-count.result c.pass-count.ensures.passes c.pass-count.new.starts c.pass-count.ensures.starts c.pass-count.ensures.refused)
    (sym c.is_stopped.ensures ∙ c.if-is_stopped.false) c.in_ok-fed.ensures.told

pub returns-then-count-piece-clause-kept : goal.returns-then-count-piece-clause-kept
returns-then-count-piece-clause-kept g c = λ _.
    piece_part c.args.self.now c.self.inside.parser c.self.inside.starts c.self.inside.refused c.self.view_is c.requires.open c.args.piece.now c.pass-count.result c.pass-count.ensures.passes c.pass-count.new.starts c.pass-count.ensures.starts c.pass-count.ensures.refused
    c.feed.new.self (c.in_ok-fed.ensures.kept (sym c.is_stopped.ensures ∙ c.if-is_stopped.false)) c.taken.result c.taken.ensures (omega (arith, c.if-count-piece.true))

pub returns-else-count-piece-clause-told : goal.returns-else-count-piece-clause-told
returns-else-count-piece-clause-told g c =
    gets_same _ _ _ _ _ _ _ _
    (piece_said c.args.self.now c.self.inside.parser c.self.inside.starts c.self.inside.refused c.self.view_is c.requires.open c.args.piece.now c.pass-count.result c.pass-count.ensures.passes c.pass-count.new.starts c.pass-count.ensures.starts c.pass-count.ensures.refused)
    (sym c.is_stopped.ensures ∙ c.if-is_stopped.false) c.in_ok-fed.ensures.told

pub returns-else-count-piece-clause-kept : goal.returns-else-count-piece-clause-kept
returns-else-count-piece-clause-kept g c = λ _.
    piece_whole c.args.self.now c.self.inside.parser c.self.inside.starts c.self.inside.refused c.self.view_is c.requires.open c.args.piece.now c.pass-count.result c.pass-count.ensures.passes c.pass-count.new.starts c.pass-count.ensures.starts c.pass-count.ensures.refused
    c.feed.new.self (c.in_ok-fed.ensures.kept (sym c.is_stopped.ensures ∙ c.if-is_stopped.false)) c.self.inside.refused (ap (λ (t : TextOf). t.refused) c.self.view_is ∙ c.requires.open) (omega (arith, c.if-count-piece.false))
