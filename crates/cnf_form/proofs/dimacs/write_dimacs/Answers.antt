use Rattle.std.proofs.Common.{◌≡◌, ℕ, ◌<◌, ◌+◌, ◌^◌, List, ◌∷◌, ◌++◌, length, drop, arith, sym, ◌∙◌, subst, ap, append_assoc}
use Rattle.std.specs.Prelude.{slice_get, Some}
use Rattle.std.proofs.lemmas.Option.{get_or_from_slice_get}
use Rattle.std.proofs.lemmas.List.{drop_more}
use Rattle.std.proofs.lemmas.Grind.{common_steps}
use Rattle.cnf_form.specs.Cnf.{LitOf, FormulaOf}
use Rattle.cnf_form.specs.Dimacs.{IsDimacs, clause_text, body_text, dimacs_text}
use Rattle.cnf_form.proofs.Writing.{dimacs_text_is_IsDimacs}
use Rattle.cnf_form.proofs.dimacs.write_dimacs.Goals as goal

one_more : (t t' all : List ℕ) (F : List (List LitOf)) (i : ℕ) (c : List LitOf) → i < length F → slice_get F i ≡ Some c → t' ≡ t ++ clause_text c → t ++ body_text (drop i F) ≡ all → t' ++ body_text (drop (i + 1) F) ≡ all
one_more t t' all F i c h e f g =
    let d : drop i F ≡ c ∷ drop (i + 1) F = drop_more F i c h ∙ ap (λ x. x ∷ drop (i + 1) F) (get_or_from_slice_get F i c c e) in
    let k : t ++ (clause_text c ++ body_text (drop (i + 1) F)) ≡ all = ap (λ G. t ++ body_text G) (sym d) ∙ g in
    rw (f, append_assoc) k

pub loop-place-preserved : goal.loop-place-preserved
loop-place-preserved c = let room : c.loop-place.place < length c.clauses-clauses.result = omega arith in one_more _ _ _ _ _ _ room c.get.ensures.clause c.in_ok-push_clause.ensures c.loop-place.invariant

pub returns-clause-grammar : goal.returns-clause-grammar
returns-clause-grammar c =
    let f : FormulaOf = c.args.formula.now in
    let e : c.into_bytes.result.items ≡ dimacs_text f = grind (arith, common_steps) in
    let hn : length f.clauses < 2 ^ 64 = omega (arith, ap length c.clauses-clauses.ensures.clauses) in
    subst (λ bytes. IsDimacs bytes f) (sym e) (dimacs_text_is_IsDimacs f c.vars-vars.ensures.limit hn c.clauses-clauses.ensures.within)
