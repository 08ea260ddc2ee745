use Rattle.std.proofs.Common.{◌≡◌, ◌∙◌, ap, refl, suc, sym, subst, length}
use Rattle.btor_core.specs.Shape.{BtorOf}
use Rattle.btor_core.specs.Growth.{PushedBits, sort_nid, with_bits, with_constant, with_sort}
use Rattle.btor_core.specs.declared.line.Word.{Word}
use Rattle.btor_core.specs.declared.line.Line.{Line}
use Rattle.btor_core.specs.declared.line.Body.TheVariants as body
use Rattle.btor_core.specs.declared.line.Node.TheVariants as node
use Rattle.btor_core.proofs.Growing.{grows_same, keeps_same, last_word, pushed_bits, sort_fits, sort_memory}
use Rattle.btor_core.proofs.draft.Draft.constant.Goals as goal

pub returns-in_err-sort-clause-memory : goal.returns-in_err-sort-clause-memory
returns-in_err-sort-clause-memory c h = rw c.in_err-sort.ensures.err (grows_same c.args.self.now, keeps_same c.args.self.now)

pub push_bits-requires-clause-sort : goal.push_bits-requires-clause-sort
push_bits-requires-clause-sort c = sort_fits c.args.self.now c.sort.new.self c.in_ok-sort.sort (length c.args.bits.now) c.in_ok-sort.ensures.ok c.in_ok-sort.ensures.nid c.promise-2.ensures.btor c.promise.ensures.numbered

pub returns-in_err-nid-clause-memory : goal.returns-in_err-nid-clause-memory
returns-in_err-nid-clause-memory c h = sort_memory c.args.self.now c.push_bits.new.self (length c.args.bits.now) (c.in_err-nid.ensures.err ∙ c.in_ok-sort.ensures.ok)

pub returns-clause-pushed : goal.returns-clause-pushed
returns-clause-pushed c =
    let m = c.args.self.now in
    let bits = c.args.bits.now in
    let w = length bits in
    let a : Word = record { nid = c.in_ok-nid.nid; width = w } in
    let all : c.push_bits.new.self ≡ with_constant m bits =
    c.in_ok-nid.ensures.ok ∙ ap (λ (k : _). with_bits c.sort.new.self k bits) c.in_ok-sort.ensures.nid ∙ ap (λ (n : BtorOf). with_bits n (sort_nid n.lines w) bits) c.in_ok-sort.ensures.ok in
    let nid : a.nid ≡ suc (length (with_sort m w).lines) = c.in_ok-nid.ensures.nid ∙ ap (λ (n : BtorOf). suc (length n.lines)) c.in_ok-sort.ensures.ok in
    subst (λ (n : BtorOf). PushedBits m n bits a) (sym all) (pushed_bits m bits a c.promise.ensures.numbered nid refl)

pub returns-clause-word : goal.returns-clause-word
returns-clause-word c =
    let l : Line = record { nid = suc (length c.sort.new.self.lines); body = body.Value c.in_ok-sort.sort (length c.args.bits.now) (node.Const (length c.sort.new.self.constants)) } in
    last_word c.push_bits.new.self c.sort.new.self.lines l c.in_ok-nid.nid (length c.args.bits.now) (ap (λ (n : BtorOf). n.lines) c.in_ok-nid.ensures.ok) c.in_ok-nid.ensures.nid
