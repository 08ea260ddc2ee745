use Rattle.std.proofs.Common.{◌++◌, ◌∙◌, ℕ, true, List, [], ◌∷◌, ap, sym}
use Rattle.cnf_form.specs.Dimacs.{clause_text, header_text}
use Rattle.gate_graph.specs.Kept.{lit_of}
use Rattle.net_text.specs.Text.{text_from}
use Rattle.net_text.proofs.Writing.{asked_text, nothing_text}
use Rattle.net_text.proofs.pieces.head_front.Goals as goal

pub returns-then-asks-clause-rest : goal.returns-then-asks-clause-rest
returns-then-asks-clause-rest c =
    let e = c.args.encoded.now in
    ap (λ (bs : List ℕ). bs ++ text_from e c.gate_place.result) (c.head_piece.ensures ∙ ap (λ (v : ℕ). header_text v c.args.count ++ clause_text (lit_of 1 true ∷ [])) c.vars.ensures)
    ∙ asked_text e c.args.count (text_from e c.gate_place.result) c.requires (sym c.asks.ensures ∙ c.if-asks.true) c.gate_place.ensures.text

pub returns-else-asks-clause-rest : goal.returns-else-asks-clause-rest
returns-else-asks-clause-rest c =
    let e = c.args.encoded.now in
    ap (λ (bs : List ℕ). bs ++ []) (c.head_piece-else-asks.ensures ∙ ap (λ (v : ℕ). header_text v c.args.count ++ clause_text []) c.vars-else-asks.ensures) ∙ nothing_text e c.args.count c.requires (sym c.asks.ensures ∙ c.if-asks.false)
