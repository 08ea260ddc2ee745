-- What is left to do.
use Rattle.std.proofs.Common.{◌≡◌, ℕ, zero, suc, ◌+◌, ◌<◌, List, [], ◌∷◌, ◌++◌, Some, inl, inr, ap, arith, set, length, length-append, Vec}
use Rattle.std.specs.Prelude.{slice_get}
use Rattle.std.specs.Global.{Global}
use Rattle.digraph.specs.Graph.{Graph}
use Rattle.digraph.proofs.Lists.{set-cases}
use Rattle.digraph.specs.Search.{left, news, work}
use Rattle.digraph.specs.declared.search.Mark.{Mark}
use Rattle.digraph.specs.declared.search.Mark.TheVariants.{New, Open, Done}

news-enter : (marks : List Mark) (w p : ℕ) → slice_get marks w ≡ Some New → news (set marks w (Open p)) + 1 ≡ news marks
news-enter [] w p h = absurd (cc)
news-enter (New ∷ ms) zero p h = omega arith
news-enter (Open q ∷ ms) zero p h = absurd (cc)
news-enter (Done q ∷ ms) zero p h = absurd (cc)
news-enter (New ∷ ms) (suc w) p h = let r = news-enter ms w p h in omega arith
news-enter (Open q ∷ ms) (suc w) p h = news-enter ms w p h
news-enter (Done q ∷ ms) (suc w) p h = news-enter ms w p h

left-scan : (g : Graph) (cursors : List ℕ) (a m : ℕ) (row : Vec ℕ Global) → slice_get g a ≡ Some row → slice_get cursors a ≡ Some m → m < length row.items
    → left g (set cursors a (m + 1)) < left g cursors
left-scan [] cursors a m row h i lt = absurd (cc)
left-scan (r ∷ g) [] a m row h i lt = absurd (cc)
left-scan (r ∷ g) (n ∷ cursors) zero m row h i lt =
    let e : r ≡ row = cc in
    let k : n ≡ m = cc in
    let size : length r.items ≡ length row.items = ap (λ (v : Vec ℕ Global). length v.items) e in
    omega arith
left-scan (r ∷ g) (n ∷ cursors) (suc a) m row h i lt = let less = left-scan g cursors a m row h i lt in omega arith

pub work-enter : (g : Graph) (marks : List Mark) (cursors path : List ℕ) (w p : ℕ) → slice_get marks w ≡ Some New
    → work g (set marks w (Open p)) cursors (path ++ w ∷ []) < work g marks cursors path
work-enter g marks cursors path w p h = omega (arith, news-enter marks w p h, length-append path (w ∷ []))

pub work-scan : (g : Graph) (marks : List Mark) (cursors path : List ℕ) (a m : ℕ) (row : Vec ℕ Global) → slice_get g a ≡ Some row → slice_get cursors a ≡ Some m → m < length row.items
    → work g marks (set cursors a (m + 1)) path < work g marks cursors path
work-scan g marks cursors path a m row h i lt = omega (arith, left-scan g cursors a m row h i lt)

pub work-leave : (g : Graph) (marks later : List Mark) (cursors front : List ℕ) (last : ℕ) → news later ≡ news marks
    → work g later cursors front < work g marks cursors (front ++ last ∷ [])
work-leave g marks later cursors front last same = omega (arith, same, length-append front (last ∷ []))

pub seen-enter : (marks : List Mark) (w p : ℕ) → slice_get marks w ≡ Some New → (a : ℕ) → slice_get (set marks w (Open p)) a ≡ Some New → slice_get marks a ≡ Some New
seen-enter marks w p new a h = elim (set-cases marks w a (Open p) New New new h) as (λ _. slice_get marks a ≡ Some New) [
  | inl same ↦ absurd (let e : New ≡ Open p = same.1 in cc)
  | inr other ↦ other.1
]
