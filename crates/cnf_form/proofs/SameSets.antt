-- Nothing depends on the order of clauses or literals, nor on how often they stand.
use Rattle.std.proofs.Common.{List, [], ◌∷◌, ◌++◌, subst, inl, inr}
use Rattle.std.specs.Prelude.{Contains}
use Rattle.std.proofs.lemmas.List.Elements.{Contains-append_cases, Contains-append_left, Contains-append_right}
use Rattle.cnf_form.specs.Cnf.{LitOf, Assignment, negate, Closure, propagated, Conflict, SameClause, negated_units, IsAdmitted, Satisfies, Includes}
use Rattle.cnf_form.proofs.Members.{Contains-map, Contains-map_from}

pub Closure-within : {F G : List (List LitOf)} → Includes F G → {l : LitOf} → Closure F l → Closure G l
Closure-within w (propagated c l h k others) =
    let d = w.found c h in
    let same = d.2 in
    propagated d.0 l d.1 (same.forth l k) (λ m q n. Closure-within w (others m (same.back m q) n))

pub Conflict-within : {F G : List (List LitOf)} → Includes F G → Conflict F → Conflict G
Conflict-within w c =
    let d = w.found c.0 c.1 in
    let same = d.2 in
    (d.0, d.1, λ l q. Closure-within w (c.2 l (same.back l q)))

same_itself : (c : List LitOf) → SameClause c c
same_itself c = record { forth = λ l h. h; back = λ l h. h }

pub Admitted-within : (F G : List (List LitOf)) (c d : List LitOf) → Includes F G → SameClause c d → IsAdmitted F c → IsAdmitted G d
Admitted-within F G c d w same a =
    let more : Includes (F ++ negated_units c) (G ++ negated_units d) = record {
      found = λ e h. elim (Contains-append_cases F (negated_units c) e h) [
        | inl h ↦ let g = w.found e h in (g.0, Contains-append_left G (negated_units d) g.0 g.1, g.2)
        | inr h ↦ let l = Contains-map_from (λ m. negate m ∷ []) e c h in
            (e, Contains-append_right G (negated_units d) e (subst (Contains (negated_units d)) l.2 (Contains-map (λ m. negate m ∷ []) l.0 d (same.forth l.0 l.1))), same_itself e)
      ];
    } in
    Conflict-within more a

pub Satisfies-within : (x : Assignment) (F G : List (List LitOf)) → Includes F G → Satisfies x G → Satisfies x F
Satisfies-within x F G w sat c h =
    let d = w.found c h in
    let same = d.2 in
    let l = sat d.0 d.1 in
    (l.0, same.back l.0 l.1, l.2)
