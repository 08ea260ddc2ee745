use Rattle.std.proofs.Common.{◌≡◌, ◌+◌, ◌<◌, ◌++◌, ◌∙◌, ℕ, List, [], Some, ap, sym, subst, refl, arith, get_or, length, drop}
use Rattle.std.specs.Prelude.{slice_get}
use Rattle.std.proofs.lemmas.Option.{slice_get_read}
use Rattle.cnf_form.specs.Cnf.{LitOf}
use Rattle.cnf_form.specs.Dimacs.{clause_text, literal_text}
use Rattle.net_text.proofs.Writing.{clause_some, goal_on, goals_over, some_after}
use Rattle.net_text.proofs.pieces.goal_front.Goals as goal

pub returns-then-place-goals-clause-rest : goal.returns-then-place-goals-clause-rest
returns-then-place-goals-clause-rest c =
    let goals = c.args.encoded.now.goals in
    let r = c.index-goals-place.result in
    let long = ap length c.goals-goals.ensures in
    let less = c.if-place-goals.true in
    let at : slice_get c.args.encoded.now.goals c.args.place ≡ Some c.index-goals-place.result =
    slice_get_read goals (length goals) c.args.place r refl (omega arith) (c.index-goals-place.is ∙ ap (λ (ls : List LitOf). get_or ls c.args.place r) c.goals-goals.ensures) in
    ap (λ (bs : List ℕ). bs ++ clause_text (drop (c.args.place + 1) goals)) c.lit_piece.ensures ∙ goal_on goals c.args.place r at

pub returns-then-place-goals-clause-some : goal.returns-then-place-goals-clause-some
returns-then-place-goals-clause-some c = some_after (literal_text _) [] c.lit_piece.result.bytes 32 c.lit_piece.ensures

pub returns-else-place-goals-clause-rest : goal.returns-else-place-goals-clause-rest
returns-else-place-goals-clause-rest c =
    let goals = c.args.encoded.now.goals in
    let long = ap length c.goals-goals.ensures in
    let more = c.if-place-goals.false in
    ap (λ (bs : List ℕ). bs ++ []) c.end_piece.ensures ∙ sym (goals_over goals c.args.place (omega arith))

pub returns-else-place-goals-clause-some : goal.returns-else-place-goals-clause-some
returns-else-place-goals-clause-some c = subst (λ (bs : List ℕ). 0 < length bs) (sym c.end_piece.ensures) (clause_some [])
