use Rattle.std.proofs.Common.{[], ◌∷◌, ◌++◌, subst, sym, ◌∙◌, ap, arith, refl}
use Rattle.std.proofs.lemmas.Bool.{both_ways, eqb-true}
use Rattle.cnf_form.specs.Cnf.{LitWithin, FormulaOf}
use Rattle.cnf_form.proofs.Bodies.{gap_shorter, parts_shorter, some_tested, reads_none, reads_zero, reads_literal, reads_bad, reads_whole, reads_cut, front_within, reads_at, clauses_pushed}
use Rattle.cnf_form.proofs.reader.read_body.Goals as goal
use Rattle.cnf_form.proofs.reader.read_body.Goals.{then-is_word+in_ok-push, else-is_word+in-Some+in_ok-push-in-Some}

pub words-init : goal.words-init
words-init c = record { vars = refl; reads = reads_none _ _ _ _ c.requires c.new-clause.ensures.items }

pub returns-then-between-clause-body : goal.returns-then-between-clause-body
returns-then-between-clause-body c =
    reads_whole _ _ _ _ _ _ _ _ _ c.words.invariant.reads c.next_word-found.ensures.gap c.next_word-found.ensures.parts (eqb-true _ _ (sym c.is_empty.ensures ∙ c.if-is_empty.true)) c.if-between.true

pub returns-then-is_empty-clause-body : goal.returns-then-is_empty-clause-body
returns-then-is_empty-clause-body c =
    reads_cut _ _ _ _ _ _ _ _ _ c.words.invariant.reads c.next_word-found.ensures.gap c.next_word-found.ensures.parts (eqb-true _ _ (sym c.is_empty.ensures ∙ c.if-is_empty.true)) c.if-between.false

pub returns-in-None-clause-body : goal.returns-in-None-clause-body
returns-in-None-clause-body c =
    reads_bad _ _ _ _ _ _ _ _ _ c.words.invariant.reads c.next_word-found.ensures.gap c.next_word-found.ensures.parts (some_tested _ (sym c.is_empty.ensures ∙ c.if-is_empty.false))
    (λ z. both_ways _ c.if-is_word.false (c.is_word.ensures.1 z)) (λ l i w. c.in-None.ensures.none l i (subst (λ n. LitWithin n l) (sym c.vars-vars.ensures.vars) w))

pub returns-in-None-clause-within : goal.returns-in-None-clause-within
returns-in-None-clause-within c = front_within _ _ _ _ _ _ _ _ _ c.words.invariant.reads c.next_word-found.ensures.gap c.next_word-found.ensures.parts

pub words-smaller : goal.words-smaller
words-smaller c =
    omega (arith, gap_shorter c.next_word-found.ensures.gap, parts_shorter c.next_word-found.ensures.parts, some_tested _ (sym c.is_empty.ensures ∙ c.if-is_empty.false))

pub words-preserved : goal.words-preserved
words-preserved c =
    let r = c.words.invariant.reads in
    let g = c.next_word-found.ensures.gap in
    let p = c.next_word-found.ensures.parts in
    elim c.if-is_word.branch [
      | then-is_word+in_ok-push w ↦
          let f = clauses_pushed c.words.formula w.push.new.self w.deref.result.now w.in_ok-push.ensures.ok in
          record {
            vars = ap (λ (k : FormulaOf). k.vars) w.formula-is ∙ f.0 ∙ c.words.invariant.vars;
            reads = reads_at _ _ _ _ _ _ _ _ _ (reads_zero _ _ _ _ _ _ _ _ _ r g p (c.is_word.ensures.0 w.if-is_word.true)) w.between-is (ap (λ (k : FormulaOf). k.clauses) w.formula-is ∙ f.1 ∙ ap (λ z. c.words.formula.clauses ++ z ∷ []) w.deref.ensures.value) (cc (w.clause-is, w.clear.ensures.items));
          }
      | else-is_word+in-Some+in_ok-push-in-Some w ↦
          let s = w.in-Some.ensures.some in
          record {
            vars = ap (λ (k : FormulaOf). k.vars) w.formula-is ∙ c.words.invariant.vars;
            reads = reads_at _ _ _ _ _ _ _ _ _ (reads_literal _ _ _ _ _ _ _ _ _ r g p w.in-Some.l (some_tested _ (sym c.is_empty.ensures ∙ c.if-is_empty.false)) s.0 (subst (λ n. LitWithin n w.in-Some.l) c.vars-vars.ensures.vars s.1)) w.between-is (ap (λ (k : FormulaOf). k.clauses) w.formula-is) (cc (w.clause-is, w.in_ok-push-in-Some.ensures.items));
          }
    ]
