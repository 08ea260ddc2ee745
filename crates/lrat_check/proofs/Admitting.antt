-- What hints admit, the DRUP rule admits.
use Rattle.std.proofs.Common.{◌≡◌, ℕ, zero, suc, Option, Some, None, List, [], ◌∷◌, ◌++◌, map, length, refl, sym, ◌∙◌, ap, subst, inl, inr, append_assoc, eqb}
use Rattle.std.specs.Prelude.{Contains, slice_get}
use Rattle.std.proofs.lemmas.Bool.{cases_Bool}
use Rattle.std.proofs.lemmas.List.{append-nil, map-append}
use Rattle.std.proofs.lemmas.List.Elements.{Contains-append_left, Contains-append_right, Contains-push, Contains-push_cases}
use Rattle.cnf_form.specs.Cnf.{LitOf, negate, Closure, propagated, Conflict, negated_units, IsAdmitted, IsUnsatisfiable, Addition, Drup}
use Rattle.cnf_form.proofs.Literals.{lit_cases}
use Rattle.cnf_form.proofs.Removal.{Drup-ends}
use Rattle.cnf_form.proofs.Members.{Contains-one, Contains-head, Contains-tail, Contains-map, Contains-map_from}
use Rattle.lrat_check.specs.Hints.{Live, numbered, put, Refutes, contradiction, conflict, joins, passed_over, IsHinted, HintedLine, Adds, Deletes, HintedProof, added}

-- a literal and its negation in the closure are a conflict
both_derived : {G : List (List LitOf)} {l : LitOf} → Closure G l → Closure G (negate l) → Conflict G
both_derived {G} (propagated c l h k others) n =
    (c, h, λ m q. elim (lit_cases m l) [ inl e ↦ subst (λ z. Closure G (negate z)) (sym e) n | inr d ↦ others m q d ])

-- each literal is in the closure
abbrev Derives : List (List LitOf) → List LitOf → Type 0
Derives G L = (l : LitOf) → Contains L l → Closure G l

derives_push : (G : List (List LitOf)) (L : List LitOf) (l : LitOf) → Derives G L → Closure G l → Derives G (L ++ l ∷ [])
derives_push G L l d h k m = elim (Contains-push_cases L l k m) [ inl m ↦ d k m | inr e ↦ subst (Closure G) e h ]

refutes_conflict : (live : Live) (G : List (List LitOf)) → ((id : ℕ) (c : List LitOf) → live id ≡ Some c → Contains G c)
    → {L : List LitOf} {hints : List ℕ} → Refutes live L hints → Derives G L → Conflict G
refutes_conflict live G in' (contradiction L hints w) d = both_derived (d w.0 w.1) (d (negate w.0) w.2)
refutes_conflict live G in' (conflict L id rest c h n) d = (c, in' id c h, λ m q. d (negate m) (n m q))
refutes_conflict live G in' (joins L id rest c l h w r) d =
    refutes_conflict live G in' r (derives_push G L l d (propagated c l (in' id c h) w.contains (λ m q e. d (negate m) (w.others m q e))))
refutes_conflict live G in' (passed_over L id rest c h n u r) d = refutes_conflict live G in' r d

assumed : (F : List (List LitOf)) (c : List LitOf) → Derives (F ++ negated_units c) (map negate c)
assumed F c k h =
    let w = Contains-map_from negate k c h in
    let unit : Contains (F ++ negated_units c) (negate w.0 ∷ []) = Contains-append_right F (negated_units c) _ (Contains-map (λ m. negate m ∷ []) w.0 c w.1) in
    subst (Closure (F ++ negated_units c)) w.2 (propagated (negate w.0 ∷ []) (negate w.0) unit (Contains-head (negate w.0) []) (λ m q d. absurd (d (sym (Contains-one (negate w.0) m q)))))

pub Hinted-admitted : (live : Live) (F : List (List LitOf)) (c : List LitOf) (hints : List ℕ) → ((id : ℕ) (d : List LitOf) → live id ≡ Some d → Contains F d) → IsHinted live c hints → IsAdmitted F c
Hinted-admitted live F c hints in' r =
    refutes_conflict live (F ++ negated_units c) (λ id d h. Contains-append_left F (negated_units c) d (in' id d h)) r (assumed F c)

-- each live clause is one of F
abbrev pub LiveAmong : Live → List (List LitOf) → Type 0
LiveAmong live F = (id : ℕ) (c : List LitOf) → live id ≡ Some c → Contains F c

slice_get_contains : (F : List (List LitOf)) (n : ℕ) (c : List LitOf) → slice_get F n ≡ Some c → Contains F c
slice_get_contains [] n c h = cc
slice_get_contains (d ∷ F) zero c h = let e : d ≡ c = cc in subst (λ z. Contains (z ∷ F) c) (sym e) (Contains-head c F)
slice_get_contains (d ∷ F) (suc n) c h = Contains-tail d c F (slice_get_contains F n c h)

pub numbered_among : (F : List (List LitOf)) → LiveAmong (numbered F) F
numbered_among F zero c h = cc
numbered_among F (suc n) c h = slice_get_contains F n c h

put_among : (live : Live) (F : List (List LitOf)) (id : ℕ) (o : Option (List LitOf)) → LiveAmong live F → ((c : List LitOf) → o ≡ Some c → Contains F c) → LiveAmong (put live id o) F
put_among live F id o in' here n c h = elim (cases_Bool (eqb id n)) [
  | inl t ↦ here c (let e : put live id o n ≡ o = rw t refl in sym e ∙ h)
  | inr f ↦ in' n c (let e : put live id o n ≡ live n = rw f refl in sym e ∙ h)
]

none_here : (F : List (List LitOf)) (c : List LitOf) → None ≡ Some c → Contains F c
none_here F c h = cc

Hinted-drup : (live : Live) (last : ℕ) (F : List (List LitOf)) (lines : List HintedLine) (end : Live) → LiveAmong live F → HintedProof live last lines end → Drup F (map Addition (added lines)) (F ++ added lines)
Hinted-drup live last F [] end in' p = append-nil F
Hinted-drup live last F (Adds id c hints ∷ lines) end in' p =
    let more : LiveAmong (put live id (Some c)) (F ++ c ∷ []) =
    put_among live (F ++ c ∷ []) id (Some c) (λ n d h. Contains-append_left F (c ∷ []) d (in' n d h)) (λ d h. let e : c ≡ d = cc in subst (Contains (F ++ c ∷ [])) e (Contains-push F c))
    in
    let rest = Hinted-drup (put live id (Some c)) id (F ++ c ∷ []) lines end more p.2 in
    (Hinted-admitted live F c hints in' p.1, subst (Drup (F ++ c ∷ []) (map Addition (added lines))) (append_assoc F (c ∷ []) (added lines)) rest)
Hinted-drup live last F (Deletes id ∷ lines) end in' p = Hinted-drup (put live id None) last F lines end (put_among live F id None in' (none_here F)) p

pub Proof-drup : (F : List (List LitOf)) (lines : List HintedLine) (end : Live) → HintedProof (numbered F) (length F) lines end → Drup F (map Addition (added lines)) (F ++ added lines)
Proof-drup F lines end p = Hinted-drup (numbered F) (length F) F lines end (numbered_among F) p

added-append : (ls ms : List HintedLine) → added (ls ++ ms) ≡ added ls ++ added ms
added-append [] ms = refl
added-append (Adds id c hints ∷ ls) ms = ap (λ z. c ∷ z) (added-append ls ms)
added-append (Deletes id ∷ ls) ms = added-append ls ms

pub Proof-refutes : (F : List (List LitOf)) (lines : List HintedLine) (id : ℕ) (hints : List ℕ) (end : Live) → HintedProof (numbered F) (length F) (lines ++ Adds id [] hints ∷ []) end → IsUnsatisfiable F
Proof-refutes F lines id hints end p =
    let all : List HintedLine = lines ++ Adds id [] hints ∷ [] in
    let d = Proof-drup F all end p in
    let e : map Addition (added all) ≡ map Addition (added lines) ++ Addition [] ∷ [] =
    ap (map Addition) (added-append lines (Adds id [] hints ∷ [])) ∙ map-append Addition (added lines) ([] ∷ []) in
    Drup-ends F (F ++ added all) (map Addition (added lines)) (subst (λ z. Drup F z (F ++ added all)) e d)
