use Rattle.std.proofs.Common.{◌≡◌, ◌+◌, ◌++◌, ◌∙◌, ℕ, List, [], ◌∷◌, Some, ap, sym, refl, length, drop}
use Rattle.std.specs.Prelude.{slice_get}
use Rattle.std.proofs.lemmas.Option.{slice_get_read}
use Rattle.cnf_form.specs.Cnf.{FormulaOf, LitOf}
use Rattle.pair_form.specs.Text.{clauses_text, text_from}
use Rattle.pair_form.proofs.Writing.{clause_over, literal_on}
use Rattle.pair_form.proofs.pieces.literal_front.Goals as goal

pub returns-then-place-lits-clause-rest : goal.returns-then-place-lits-clause-rest
returns-then-place-lits-clause-rest c =
    let F = c.args.pair.now.formula.clauses in
    let lits = c.get-lits.result.now in
    let r = c.index-lits-place.result in
    let same = c.clauses.ensures.clauses ∙ ap (λ (f : FormulaOf). f.clauses) c.formula.ensures in
    let at : slice_get c.args.pair.now.formula.clauses c.args.clause ≡ Some c.get-lits.result.now = ap (λ (cs : List (List LitOf)). slice_get cs c.args.clause) (sym same) ∙ c.get-lits.ensures.clause in
    let l : slice_get c.get-lits.result.now c.args.place ≡ Some c.index-lits-place.result =
    slice_get_read lits (length lits) c.args.place r refl c.if-place-lits.true c.index-lits-place.is in
    ap (λ (bs : List ℕ). bs ++ clauses_text (drop c.args.clause F) (c.args.place + 1)) c.lit_piece.ensures ∙ literal_on F c.args.clause c.args.place lits r at l

pub returns-else-place-lits-clause-rest : goal.returns-else-place-lits-clause-rest
returns-else-place-lits-clause-rest c =
    let F = c.args.pair.now.formula.clauses in
    let lits = c.get-lits.result.now in
    let same = c.clauses.ensures.clauses ∙ ap (λ (f : FormulaOf). f.clauses) c.formula.ensures in
    let at : slice_get c.args.pair.now.formula.clauses c.args.clause ≡ Some c.get-lits.result.now = ap (λ (cs : List (List LitOf)). slice_get cs c.args.clause) (sym same) ∙ c.get-lits.ensures.clause in
    ap (λ (bs : List ℕ). bs ++ text_from c.args.pair.now c.clause_place.result) c.end_piece.ensures ∙ ap (λ (t : List ℕ). (48 ∷ 10 ∷ []) ++ t) c.clause_place.ensures.text
    ∙ clause_over F c.args.clause c.args.place lits at c.if-place-lits.false
