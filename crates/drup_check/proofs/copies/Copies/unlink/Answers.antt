use Rattle.std.proofs.Common.{◌≡◌, ℕ, ◌+◌, ◌≤◌, ◌%◌, length, get_or, set, sym, ◌∙◌, ap, subst, rules}
use Rattle.std.specs.Prelude.{Some, None}
use Rattle.drup_check.specs.Copies.{CopiesOf, Holds, after, beginning, link_at}
use Rattle.drup_check.proofs.Chains.{ahead_without, entry_of, falls_without, keeps_begun}
use Rattle.drup_check.proofs.copies.Copies.unlink.Goals as goal

pub returns-in-Some-clause-keeps : goal.returns-in-Some-clause-keeps
returns-in-Some-clause-keeps c = λ h j ne s.
    let t = c.self.inside in
    let nexts = t.nexts.items in
    let b = c.in-Some.before in
    let k = c.args.k in
    let there : get_or nexts b 0 ≡ k + 1 = subst (λ (z : CopiesOf). link_at z c.args.weight (Some b) ≡ k + 1) (sym c.self.view_is)
    (subst (λ o. link_at c.args.self.now c.args.weight o ≡ k + 1) c.in-Some.is c.requires) in
    let v : c.next-next.result ≡ get_or nexts k 0 = c.next-next.ensures.next ∙ ap (λ (z : CopiesOf). get_or z.nexts k 0) (sym c.self.view_is) in
    let a = c.self.invariant in
    let s' = subst (λ (z : CopiesOf). Holds z h j) (sym c.self.view_is) s in
    let w = ahead_without nexts a.falls b k (entry_of nexts b k there) there s'.steps (beginning t.firsts.items h) j ne s'.there in
    record { steps = w.0; there = subst (λ z. after (set nexts b z) (beginning t.firsts.items h) w.0 ≡ j + 1) (sym v) w.1 }

pub returns-in-Some-clause-ahead : goal.returns-in-Some-clause-ahead
returns-in-Some-clause-ahead c = λ at n j ne e.
    let t = c.self.inside in
    let nexts = t.nexts.items in
    let b = c.in-Some.before in
    let k = c.args.k in
    let there : get_or nexts b 0 ≡ k + 1 = subst (λ (z : CopiesOf). link_at z c.args.weight (Some b) ≡ k + 1) (sym c.self.view_is)
    (subst (λ o. link_at c.args.self.now c.args.weight o ≡ k + 1) c.in-Some.is c.requires) in
    let v : c.next-next.result ≡ get_or nexts k 0 = c.next-next.ensures.next ∙ ap (λ (z : CopiesOf). get_or z.nexts k 0) (sym c.self.view_is) in
    let a = c.self.invariant in
    let e' = subst (λ (z : CopiesOf). after z.nexts at n ≡ j + 1) (sym c.self.view_is) e in
    let w = ahead_without nexts a.falls b k (entry_of nexts b k there) there n at j ne e' in
    (w.0, subst (λ z. after (set nexts b z) at w.0 ≡ j + 1) (sym v) w.1)

pub returns-in-Some-clause-falls : goal.returns-in-Some-clause-falls
returns-in-Some-clause-falls c =
    let t = c.self.inside in
    let nexts = t.nexts.items in
    let b = c.in-Some.before in
    let k = c.args.k in
    let there : get_or nexts b 0 ≡ k + 1 = subst (λ (z : CopiesOf). link_at z c.args.weight (Some b) ≡ k + 1) (sym c.self.view_is)
    (subst (λ o. link_at c.args.self.now c.args.weight o ≡ k + 1) c.in-Some.is c.requires) in
    let v : c.next-next.result ≡ get_or nexts k 0 = c.next-next.ensures.next ∙ ap (λ (z : CopiesOf). get_or z.nexts k 0) (sym c.self.view_is) in
    let a = c.self.invariant in
    subst (λ z. (i : ℕ) → get_or (set nexts b z) i 0 ≤ i) (sym v) (falls_without nexts a.falls b k (entry_of nexts b k there) there)

pub returns-in-None-clause-keeps : goal.returns-in-None-clause-keeps
returns-in-None-clause-keeps c = λ h j ne s.
    let t = c.self.inside in
    let firsts = t.firsts.items in
    let nexts = t.nexts.items in
    let k = c.args.k in
    let n = c.len.result in
    let size : n ≡ length firsts = search rules in
    let i = c.args.weight % n in
    let there : get_or firsts i 0 ≡ k + 1 = ap (λ z. get_or firsts (c.args.weight % z) 0) size ∙ subst (λ (z : CopiesOf). link_at z c.args.weight None ≡ k + 1) (sym c.self.view_is)
    (subst (λ o. link_at c.args.self.now c.args.weight o ≡ k + 1) c.in-None.is c.requires) in
    let v : c.next-next.result ≡ get_or nexts k 0 = c.next-next.ensures.next ∙ ap (λ (z : CopiesOf). get_or z.nexts k 0) (sym c.self.view_is) in
    let s' = subst (λ (z : CopiesOf). Holds z h j) (sym c.self.view_is) s in
    let w = keeps_begun firsts nexts i k (entry_of firsts i k there) there t.count h j ne s' in
    record { steps = w.steps; there = subst (λ z. after nexts (beginning (set firsts i z) h) w.steps ≡ j + 1) (sym v) w.there }
