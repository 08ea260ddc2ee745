-- Sorts and values of a model have from 1 to 4096 bits.
use Rattle.std.proofs.Common.{ℕ, ◌≤◌, List, [], ◌∷◌, inl, inr, arith}
use Rattle.std.specs.Prelude.{Bool, All}
use Rattle.std.proofs.lemmas.List.Elements.{All-head, All-tail}
use Rattle.btor_core.specs.declared.line.Body.{Body}
use Rattle.btor_core.specs.declared.line.Body.TheVariants as body
use Rattle.btor_core.specs.declared.line.Line.{Line}
use Rattle.btor_core.specs.Fits.{BodyFits, IsBtor, IsWidth}
use Rattle.btor_core.specs.Shape.{BtorOf, sort_at, sort_width}
use Rattle.btor_core.proofs.Cuts.{all_cuts}
use Rattle.btor_core.proofs.Reading.{same_nid}
use Rattle.btor_text.specs.Find.{IsSized}

body_sized : (constants : List Bool) (before : List Line) (b : Body) → BodyFits constants before b → IsSized b
body_sized constants before (body.Sort w) f = f
body_sized constants before (body.Value s w n) f = f.width
body_sized constants before (body.Init s q v) f = tt
body_sized constants before (body.Next s q v) f = tt
body_sized constants before (body.Bad n) f = tt
body_sized constants before (body.Constraint n) f = tt

pub all_sized : (m : BtorOf) → IsBtor m → All (λ l. IsSized l.body) m.lines
all_sized m h = all_cuts (λ (l : Line). IsSized l.body) [] m.lines (λ before more l e. body_sized m.constants before l.body (h.each before more l e).body)

sort_sized : (b : Body) → IsSized b → 1 ≤ sort_width b → IsWidth (sort_width b)
sort_sized (body.Sort w) f some = f
sort_sized (body.Value s w n) f some = absurd (omega arith)
sort_sized (body.Init s q v) f some = absurd (omega arith)
sort_sized (body.Next s q v) f some = absurd (omega arith)
sort_sized (body.Bad n) f some = absurd (omega arith)
sort_sized (body.Constraint n) f some = absurd (omega arith)

at_sized : (ls : List Line) (k : ℕ) → All (λ l. IsSized l.body) ls → 1 ≤ sort_at ls k → IsWidth (sort_at ls k)
at_sized [] k h some = absurd (omega arith)
at_sized (l ∷ ls) k h some =
    elim (same_nid l.nid k) as (λ _. IsWidth (sort_at (l ∷ ls) k)) [
      | inl p ↦ let here : 1 ≤ sort_width l.body = rw p.1 at some in rw p.1 (sort_sized l.body (All-head (λ (x : Line). IsSized x.body) l ls h) here)
      | inr e ↦ let rest : 1 ≤ sort_at ls k = rw e at some in rw e (at_sized ls k (All-tail (λ (x : Line). IsSized x.body) l ls h) rest)
    ]

pub sort_is_width : (m : BtorOf) (s : ℕ) → IsBtor m → 1 ≤ sort_at m.lines s → IsWidth (sort_at m.lines s)
sort_is_width m s h some = at_sized m.lines s (all_sized m h) some
