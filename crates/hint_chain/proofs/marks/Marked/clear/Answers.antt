use Rattle.std.proofs.Common.{◌≡◌, ◌<◌, ◌+◌, length, get_or, set, refl, sym, ◌∙◌, ap, subst, rules, false, length-set}
use Rattle.std.proofs.lemmas.List.Elements.{All-contains}
use Rattle.std.specs.declared.vec.Vec.{Vec}
use Rattle.std.specs.declared.alloc.Global.{Global}
use Rattle.cnf_form.specs.Cnf.{LitOf}
use Rattle.cnf_form.proofs.Members.{Contains-read}
use Rattle.lrat_check.specs.Marks.{HasPlaces}
use Rattle.lrat_check.proofs.Trail.{unmarking_all, unmarking_more, unmarked_all, index_room, Unmarking}
use Rattle.hint_chain.proofs.marks.Marked.clear.Goals as goal

pub loop-k-init : goal.loop-k-init
loop-k-init c = record { sized = refl; trail = refl; rest = unmarking_all c.args.self.now.marks.items c.args.self.now.trail.items c.requires.marked }

pub index_mut-requires : goal.index_mut-requires
index_mut-requires c =
    let i = c.loop-k.invariant in
    let u = i.rest in
    let marks = c.loop-k.self.marks in
    let t = c.args.self.now.trail.items in
    let l = c.index-l.result.now in
    let read : l ≡ get_or t c.loop-k.k l = c.index-l.ensures ∙ ap (λ (v : Vec LitOf Global). get_or v.items c.loop-k.k l) i.trail in
    let room : HasPlaces marks.items l = All-contains (HasPlaces marks.items) t l u.places (Contains-read t c.loop-k.k l (search rules) read) in
    let low : c.index.result < length marks.items = subst (λ z. z < length marks.items) (sym c.index.ensures) (index_room l (length marks.items) room) in search rules

pub loop-k-preserved : goal.loop-k-preserved
loop-k-preserved c =
    let i = c.loop-k.invariant in
    let marks = c.loop-k.self.marks.items in
    let t = c.args.self.now.trail.items in
    let l = c.index-l.result.now in
    let read : l ≡ get_or t c.loop-k.k l = c.index-l.ensures ∙ ap (λ (v : Vec LitOf Global). get_or v.items c.loop-k.k l) i.trail in
    record {
      sized = length-set marks c.index.result false ∙ i.sized;
      trail = i.trail;
      rest = subst (λ z. Unmarking (set marks z false) t (c.loop-k.k + 1)) (sym c.index.ensures) (unmarking_more marks t c.loop-k.k l (search rules) read i.rest);
    }

pub returns-clause-clear : goal.returns-clause-clear
returns-clause-clear c = let i = c.loop-k.invariant in unmarked_all c.loop-k.self.marks.items c.args.self.now.trail.items c.loop-k.k (search rules) i.rest
