use Rattle.std.proofs.Common.{◌∙◌, ◌++◌, ◌∷◌, [], ap, sym, subst, arith, length, take, drop}
use Rattle.sby_bits.specs.Rows.{Row}
use Rattle.model_play.specs.Playing.{IsPlaying, PlayerOf}
use Rattle.model_play.specs.declared.player.Stage.TheVariants.{Stepped}
use Rattle.model_play.proofs.Running.{playing_stepped, written_back}
use Rattle.model_play.proofs.player.Player.step.Goals as goal

pub returns-clause-playing : goal.returns-clause-playing
returns-clause-playing c = λ h was.
    let m = c.self.inside.model.now in
    let a = c.turn.auto.table in
    let v = ap (λ xs. length xs) c.as_mut_slice.ensures.value in
    let k = c.self.inside.table.ok.0 in
    let whole = written_back c.turn.new.table c.self.inside.table.items c.self.inside.table.len (omega arith) in
    let b = c.turn.auto.held in
    let w = ap (λ xs. length xs) c.as_mut_slice-2.ensures.value in
    let n = c.self.inside.held.ok.0 in
    let kept = written_back c.turn.new.held c.self.inside.held.items c.self.inside.held.len (omega arith) in
    let more = record h { inputs = h.inputs ++ c.args.inputs.now ∷ [] } in
    let now = take c.self.inside.held.len (c.turn.new.held ++ drop (length c.turn.new.held) c.self.inside.held.items) in
    subst (λ (r : Row). IsPlaying (record { model = m; stage = Stepped; row = r; held = now }) more) (sym whole)
    (subst (λ (s : Row). IsPlaying (record { model = m; stage = Stepped; row = c.turn.new.table; held = s }) more) (sym kept)
    (playing_stepped m c.self.invariant.model c.self.inside.stage c.self.inside.table.items c.turn.new.table c.self.inside.held.items c.turn.new.held h c.args.inputs.now
    c.turn.ensures.frame (c.turn.ensures.held ∙ c.as_mut_slice-2.ensures.value) c.turn.ensures.inputs c.turn.ensures.next
    (c.requires.inputs ∙ ap (λ (p : PlayerOf). length p.model.inputs) (sym c.self.view_is))
    (subst (λ (p : PlayerOf). IsPlaying p h) (sym c.self.view_is) was)))
