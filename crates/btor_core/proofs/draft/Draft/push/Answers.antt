use Rattle.std.proofs.Common.{◌≡◌, ◌∙◌, ap, refl, suc, sym, subst, length}
use Rattle.btor_core.specs.Shape.{BtorOf}
use Rattle.btor_core.specs.Growth.{Pushed, sort_nid, with_body, with_sort, with_value}
use Rattle.btor_core.specs.declared.line.Word.{Word}
use Rattle.btor_core.specs.declared.line.Line.{Line}
use Rattle.btor_core.specs.declared.line.Body.TheVariants as body
use Rattle.btor_core.proofs.Growing.{grows_same, keeps_same, last_word, pushed, sort_memory, value_fits}
use Rattle.btor_core.proofs.draft.Draft.push.Goals as goal

pub returns-in_err-sort-clause-memory : goal.returns-in_err-sort-clause-memory
returns-in_err-sort-clause-memory c h = rw c.in_err-sort.ensures.err (grows_same c.args.self.now, keeps_same c.args.self.now)

pub push_body-requires-clause-fits : goal.push_body-requires-clause-fits
push_body-requires-clause-fits c =
    value_fits c.args.self.now c.sort.new.self c.in_ok-sort.sort c.args.width c.args.node c.in_ok-sort.ensures.ok c.in_ok-sort.ensures.nid c.promise.ensures.btor c.promise-2.ensures.btor c.promise.ensures.numbered c.requires.width c.requires.fits

pub returns-in_err-nid-clause-memory : goal.returns-in_err-nid-clause-memory
returns-in_err-nid-clause-memory c h = sort_memory c.args.self.now c.push_body.new.self c.args.width (c.in_err-nid.ensures.err ∙ c.in_ok-sort.ensures.ok)

pub returns-clause-pushed : goal.returns-clause-pushed
returns-clause-pushed c =
    let m = c.args.self.now in
    let w = c.args.width in
    let a : Word = record { nid = c.in_ok-nid.nid; width = w } in
    let all : c.push_body.new.self ≡ with_value m w c.args.node =
    c.in_ok-nid.ensures.ok ∙ ap (λ (k : _). with_body c.sort.new.self (body.Value k w c.args.node)) c.in_ok-sort.ensures.nid ∙ ap (λ (n : BtorOf). with_body n (body.Value (sort_nid n.lines w) w c.args.node)) c.in_ok-sort.ensures.ok in
    let nid : a.nid ≡ suc (length (with_sort m w).lines) = c.in_ok-nid.ensures.nid ∙ ap (λ (n : BtorOf). suc (length n.lines)) c.in_ok-sort.ensures.ok in
    subst (λ (n : BtorOf). Pushed m n w c.args.node a) (sym all) (pushed m w c.args.node a c.promise.ensures.numbered nid refl)

pub returns-clause-word : goal.returns-clause-word
returns-clause-word c =
    let l : Line = record { nid = suc (length c.sort.new.self.lines); body = body.Value c.in_ok-sort.sort c.args.width c.args.node } in
    last_word c.push_body.new.self c.sort.new.self.lines l c.in_ok-nid.nid c.args.width (ap (λ (n : BtorOf). n.lines) c.in_ok-nid.ensures.ok) c.in_ok-nid.ensures.nid
