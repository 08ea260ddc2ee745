-- A trail that grows by one literal, or loses its last one.
use Rattle.std.proofs.Common.{◌≡◌, ◌⊎◌, ℕ, ◌+◌, ◌-◌, ◌*◌, ◌<◌, ◌≤◌, Bool, true, false, not, cond, List, [], ◌∷◌, ◌++◌, length, get_or, set, take, drop, replicate, refl, sym, ◌∙◌, ap, subst, inl, inr, arith}
use Rattle.std.specs.Prelude.{Contains}
use Rattle.std.proofs.lemmas.Bool.{both_ways, cases_eq, cases_lt, cases_Bool}
use Rattle.std.proofs.lemmas.List.{get_or_past, get_or-append_right, get_or-replicate, length-replicate, length-append, get_or-set_same, get_or-set_other, take-append-le, take_at, take_all, get_or-take, length-take, get_or_append_left, get_or_push, length_push, length-set, take-append-drop}
use Rattle.std.proofs.lemmas.List.Sums.{sum_by-set, sum_by-append}
use Rattle.std.proofs.lemmas.List.Folds.{sum_by-replicate}
use Rattle.std.specs.List.{sum_by}
use Rattle.std.proofs.lemmas.List.Elements.{All-push, Contains-append_left, Contains-push, Contains-push_cases, Contains-get_or}
use Rattle.cnf_form.specs.Cnf.{LitOf, negate, index_of}
use Rattle.cnf_form.proofs.Literals.{index_of-injective, lit_cases, negate-negate}
use Rattle.cnf_form.proofs.Members.{take_one_more, Contains-read}
use Rattle.unit_propagation.specs.Marks.{is_marked, IsBelow, IsDistinct, IsTrail, IsPlaced, TrailOf}
use Rattle.unit_propagation.specs.declared.watch.Origin.{Origin}
use Rattle.unit_propagation.specs.Propagation.{IsConsistent, IsUnassigned}

sign_room : (v n : ℕ) (a : Bool) → v ≤ n → 2 * v + cond a 1 0 < 2 * n + 2
sign_room v n true h = omega arith
sign_room v n false h = omega arith

pub index_room : (l : LitOf) (vars : ℕ) → l.var ≤ vars → index_of l < 2 * vars + 2
index_room l vars h = sign_room l.var vars l.negated h

not_same : (b : Bool) → not b ≡ b → ⊥
not_same true h = cc
not_same false h = cc

pub negate-differs : (l : LitOf) → negate l ≡ l → ⊥
negate-differs l h = not_same l.negated (ap (λ (m : LitOf). m.negated) h)

pub opposite : (l m : LitOf) → negate l ≡ m → l ≡ negate m
opposite l m e = sym (negate-negate l) ∙ ap negate e

pub marked_within : (marks : List Bool) (l : LitOf) → is_marked marks l ≡ true → index_of l < length marks
marked_within marks l on = elim (cases_lt (index_of l) (length marks)) [ inl h ↦ h | inr h ↦ absurd (both_ways _ (get_or_past marks (index_of l) false h) on) ]

-- a true literal has its place in each table
pub mark_room : (vars : ℕ) (marks : List Bool) (t : List LitOf) (l : LitOf) → IsTrail vars marks t → Contains t l → index_of l < length marks
mark_room vars marks t l w h = let s = w.shows in marked_within marks l (s.on l h)

pub origin_room : (origins : List Origin) (t : List LitOf) (l : LitOf) → IsPlaced origins t → Contains t l → l.var < length origins
origin_room origins t l w h = subst (λ (z : LitOf). z.var < length origins) h.2 (w.within h.0 l h.1)

-- marks that are added are off
longer_mark : (marks : List Bool) (n i : ℕ) → get_or (marks ++ replicate n false) i false ≡ get_or marks i false
longer_mark marks n i =
    elim (cases_lt i (length marks)) [
      | inl h ↦ get_or_append_left marks (replicate n false) false i h
      | inr h ↦ get_or-append_right marks (replicate n false) (length marks) i false refl h ∙ off (i - length marks) ∙ sym (get_or_past marks i false h)
    ]
  where
    off : (k : ℕ) → get_or (replicate n false) k false ≡ false
    off k = elim (cases_lt k n) [ inl h ↦ get_or-replicate n k false false h | inr h ↦ get_or_past (replicate n false) k false (omega (arith, length-replicate n false, h)) ]

-- what a mark counts
abbrev weight : Bool → ℕ
weight b = cond b 1 0

pub consistent_push : (t : List LitOf) (l : LitOf) → IsConsistent t → IsUnassigned t l → IsConsistent (t ++ l ∷ [])
consistent_push t l ok o = record {
  apart = λ m h k. elim (Contains-push_cases t l m h) [
    | inl h' ↦ elim (Contains-push_cases t l (negate m) k) [
      | inl k' ↦ ok.apart m h' k'
      | inr e ↦ o.not_false (subst (Contains t) (opposite m l (sym e)) h')
    ]
    | inr e ↦ elim (Contains-push_cases t l (negate m) k) [
      | inl k' ↦ o.not_false (subst (λ z. Contains t (negate z)) (sym e) k')
      | inr f ↦ negate-differs m (sym f ∙ e)
    ]
  ];
}

module _ (vars : ℕ) (marks : List Bool) (t : List LitOf) (l : LitOf) where
  pub trail_push : IsTrail vars marks t → l.var ≤ vars → index_of l < length marks → IsUnassigned t l → IsTrail vars (set marks (index_of l) true) (t ++ l ∷ [])
  trail_push w below room o = record {
    limit = w.limit;
    sized = omega (arith, length-set marks (index_of l) true, w.sized);
    shows = record { on = shown; off = hidden };
    below = All-push (IsBelow vars) t l w.below below;
    counted = omega (arith, length_push t l, sum_by-set weight marks (index_of l) true false room, ap weight was, w.counted);
    consistent = consistent_push t l w.consistent o;
    distinct = record { once = once };
  }
    where
      was : get_or marks (index_of l) false ≡ false
      was = elim (cases_Bool (is_marked marks l)) [ inl h ↦ let s = w.shows in absurd (o.not_true (s.off l h)) | inr h ↦ h ]

      shown : (m : LitOf) → Contains (t ++ l ∷ []) m → is_marked (set marks (index_of l) true) m ≡ true
      shown m h =
          elim (lit_cases m l) [
            | inl e ↦ subst (λ z. is_marked (set marks (index_of l) true) z ≡ true) (sym e) (get_or-set_same marks (index_of l) true false room)
            | inr d ↦ let s = w.shows in
                get_or-set_other marks (index_of l) (index_of m) true false (λ e. d (index_of-injective m l e))
                ∙ elim (Contains-push_cases t l m h) [ inl k ↦ s.on m k | inr e ↦ absurd (d (sym e)) ]
          ]

      hidden : (m : LitOf) → is_marked (set marks (index_of l) true) m ≡ true → Contains (t ++ l ∷ []) m
      hidden m h =
          elim (lit_cases m l) [
            | inl e ↦ subst (Contains (t ++ l ∷ [])) (sym e) (Contains-push t l)
            | inr d ↦ let s = w.shows in
                Contains-append_left t (l ∷ []) m (s.off m (sym (get_or-set_other marks (index_of l) (index_of m) true false (λ e. d (index_of-injective m l e))) ∙ h))
          ]

      once : (i : ℕ) (d : LitOf) → i < length (t ++ l ∷ []) → Contains (take i (t ++ l ∷ [])) (get_or (t ++ l ∷ []) i d) → ⊥
      once i d h k =
          elim (cases_eq i (length t)) [
            | inl e ↦ o.not_true (subst (λ z. Contains z l) (take_at t (l ∷ []) i (sym e)) (subst (Contains (take i (t ++ l ∷ []))) (get_or_push t l d i (sym e)) k))
            | inr ne ↦ let inside : i < length t = omega (arith, length_push t l, h, ne) in
                let s = w.distinct in
                s.once i d inside (subst (λ z. Contains z (get_or t i d)) (take-append-le i t (l ∷ []) (omega (arith, inside)))
                (subst (Contains (take i (t ++ l ∷ []))) (get_or_append_left t (l ∷ []) d i inside) k))
          ]

  pub trail_pop : IsTrail vars marks (t ++ l ∷ []) → IsTrail vars (set marks (index_of l) false) t
  trail_pop w = record {
    limit = w.limit;
    sized = omega (arith, length-set marks (index_of l) false, w.sized);
    shows = record { on = shown; off = hidden };
    below = λ i d h. subst (IsBelow vars) (get_or_append_left t (l ∷ []) d i h) (w.below i d (omega (arith, length_push t l, h)));
    counted = omega (arith, length_push t l, sum_by-set weight marks (index_of l) false false room, ap weight was, w.counted);
    consistent = record { apart = λ m h k. let s = w.consistent in s.apart m (Contains-append_left t (l ∷ []) m h) (Contains-append_left t (l ∷ []) (negate m) k) };
    distinct = record {
      once = λ i d h k. let s = w.distinct in
          s.once i d (omega (arith, length_push t l, h))
          (subst (λ z. Contains z (get_or (t ++ l ∷ []) i d)) (sym (take-append-le i t (l ∷ []) (omega (arith, h))))
          (subst (Contains (take i t)) (sym (get_or_append_left t (l ∷ []) d i h)) k));
    };
  }
    where
      was : get_or marks (index_of l) false ≡ true
      was = let s = w.shows in s.on l (Contains-push t l)

      room : index_of l < length marks
      room = marked_within marks l was

      -- the last literal doesn't stand before
      first_time : Contains t l → ⊥
      first_time h = let s = w.distinct in
          s.once (length t) l (omega (arith, length_push t l))
          (subst (Contains (take (length t) (t ++ l ∷ []))) (sym (get_or_push t l l (length t) refl)) (subst (λ z. Contains z l) (sym (take_at t (l ∷ []) (length t) refl)) h))

      shown : (m : LitOf) → Contains t m → is_marked (set marks (index_of l) false) m ≡ true
      shown m h =
          elim (lit_cases m l) [
            | inl e ↦ absurd (first_time (subst (Contains t) e h))
            | inr d ↦ let s = w.shows in
                get_or-set_other marks (index_of l) (index_of m) false false (λ e. d (index_of-injective m l e)) ∙ s.on m (Contains-append_left t (l ∷ []) m h)
          ]

      hidden : (m : LitOf) → is_marked (set marks (index_of l) false) m ≡ true → Contains t m
      hidden m h =
          elim (lit_cases m l) [
            | inl e ↦ absurd (both_ways _ (get_or-set_same marks (index_of l) false false room) (subst (λ z. is_marked (set marks (index_of l) false) z ≡ true) e h))
            | inr d ↦ let s = w.shows in
                elim (Contains-push_cases t l m (s.off m (sym (get_or-set_other marks (index_of l) (index_of m) false false (λ e. d (index_of-injective m l e))) ∙ h))) [
                  | inl k ↦ k
                  | inr e ↦ absurd (d (sym e))
                ]
          ]

-- the same of a trail that is cut by one
pub trail_cut : (vars : ℕ) (marks : List Bool) (t t' : List LitOf) (n i : ℕ) (l : LitOf) → IsTrail vars marks t → n + 1 ≡ length t → l ≡ get_or t n l → t' ≡ take n t → i ≡ index_of l → IsTrail vars (set marks i false) t'
trail_cut vars marks t t' n i l w size read e at =
    let whole : t ≡ take n t ++ l ∷ [] = sym (take_all (n + 1) t (omega (arith, size))) ∙ take_one_more t n l (omega (arith, size)) read in
    rw (at, e) (trail_pop vars marks (take n t) l (subst (IsTrail vars marks) whole w))

pub trail_of : (t : TrailOf) (v : ℕ) (ls : List LitOf) → t.vars ≡ v → t.lits ≡ ls → t ≡ record { vars = v; lits = ls }
trail_of t v ls e f =
    let mk : ℕ → List LitOf → TrailOf = λ a b. record { vars = a; lits = b } in
    ap (λ a. mk a t.lits) e ∙ ap (mk v) f

-- where a cut ends: the place is the length, or nothing was cut
pub cut_ends : (t ls : List LitOf) (place n : ℕ) → length ls + n ≡ length t + place → ls ≡ take (length t + place - n) t → length t ≤ n → (place ≤ length t → n ≤ length t) → (length t < place → n ≡ place) → ls ≡ take place t
cut_ends t ls place n room e past short idle =
    elim (cases_lt (length t) place) [
      | inr h ↦ e ∙ ap (λ k. take k t) (let m : n ≤ length t = short h in omega (arith, m, past, room))
      | inl h ↦ e ∙ take_all _ t (let m : n ≡ place = idle h in omega (arith, m)) ∙ sym (take_all place t (omega (arith, h)))
    ]

signs : (a b : Bool) → (a ≡ b) ⊎ (a ≡ not b)
signs true true = inl refl
signs true false = inr refl
signs false true = inr refl
signs false false = inl refl

-- literals of one variable
pub var_cases : (m l : LitOf) → m.var ≡ l.var → (m ≡ l) ⊎ (m ≡ negate l)
var_cases m l same =
    let mk : ℕ → Bool → LitOf = λ v b. record { var = v; negated = b } in
    elim (signs m.negated l.negated) [
      | inl e ↦ inl (ap (λ v. mk v m.negated) same ∙ ap (mk l.var) e)
      | inr e ↦ inr (ap (λ v. mk v m.negated) same ∙ ap (mk l.var) e)
    ]

-- the table of places, as the trail grows and as it is cut
pub placed_push : (origins : List Origin) (t : List LitOf) (l : LitOf) (o : Origin) → IsPlaced origins t → l.var < length origins → IsUnassigned t l → o.place ≡ length t → IsPlaced (set origins l.var o) (t ++ l ∷ [])
placed_push origins t l o w room opened at = record {
  within = λ i d h. elim (cases_eq i (length t)) [
    | inl g ↦ subst (λ (z : LitOf). z.var < length (set origins l.var o)) (sym (get_or_push t l d i (sym g))) (omega (arith, room, length-set origins l.var o))
    | inr ne ↦
        let inside : i < length t = omega (arith, h, length_push t l, ne) in
        subst (λ (z : LitOf). z.var < length (set origins l.var o)) (sym (get_or_append_left t (l ∷ []) d i inside)) (omega (arith, w.within i d inside, length-set origins l.var o))
  ];
  placed = λ i d e h. elim (cases_eq i (length t)) [
    | inl g ↦
        let here : get_or (t ++ l ∷ []) i d ≡ l = get_or_push t l d i (sym g) in
        ap (λ (z : LitOf). (get_or (set origins l.var o) z.var e).place) here
        ∙ ap (λ (z : Origin). z.place) (get_or-set_same origins l.var o e room) ∙ at ∙ sym g
    | inr ne ↦
        let inside : i < length t = omega (arith, h, length_push t l, ne) in
        let before : get_or (t ++ l ∷ []) i d ≡ get_or t i d = get_or_append_left t (l ∷ []) d i inside in
        ap (λ (z : LitOf). (get_or (set origins l.var o) z.var e).place) before
        ∙ ap (λ (z : Origin). z.place) (get_or-set_other origins l.var (get_or t i d).var o e (λ same. not_on (get_or t i d) (Contains-get_or t i d inside) same)) ∙ w.placed i d e inside
  ];
}
  where
    not_on : (m : LitOf) → Contains t m → m.var ≡ l.var → ⊥
    not_on m k same = elim (var_cases m l same) [ inl e ↦ opened.not_true (subst (Contains t) e k) | inr e ↦ opened.not_false (subst (Contains t) e k) ]

pub placed_cut : (origins : List Origin) (t t' : List LitOf) (n : ℕ) → IsPlaced origins t → t' ≡ take n t → IsPlaced origins t'
placed_cut origins t t' n w e = rw e (record {
  within = λ i d h.
      let short = length-take n t in
      subst (λ (z : LitOf). z.var < length origins) (sym (get_or-take n t i d (omega (arith, h, short)))) (w.within i d (omega (arith, h, short)));
  placed = λ i d o h.
      let short = length-take n t in
      ap (λ (z : LitOf). (get_or origins z.var o).place) (get_or-take n t i d (omega (arith, h, short))) ∙ w.placed i d o (omega (arith, h, short));
})

-- the tables may be longer
pub trail_longer : (vars n : ℕ) (marks marks' : List Bool) (t : List LitOf) → IsTrail vars marks t → marks' ≡ marks ++ replicate n false → length marks' ≤ 2 * vars + 2 → IsTrail vars marks' t
trail_longer vars n marks marks' t w e room = record {
  limit = w.limit;
  sized = room;
  shows = let s = w.shows in record { on = λ l h. same l ∙ s.on l h; off = λ l h. s.off l (sym (same l) ∙ h) };
  below = w.below;
  counted = ap (sum_by weight) e ∙ sum_by-append weight marks (replicate n false) ∙ omega (arith, sum_by-replicate weight n false, w.counted);
  consistent = w.consistent;
  distinct = w.distinct;
}
  where
    same : (l : LitOf) → is_marked marks' l ≡ is_marked marks l
    same l = ap (λ z. is_marked z l) e ∙ longer_mark marks n (index_of l)

pub placed_longer : (n : ℕ) (o : Origin) (origins origins' : List Origin) (t : List LitOf) → IsPlaced origins t → origins' ≡ origins ++ replicate n o → IsPlaced origins' t
placed_longer n o origins origins' t w e = rw e (record {
  within = λ i d h. omega (arith, w.within i d h, length-append origins (replicate n o));
  placed = λ i d q h. ap (λ (z : Origin). z.place) (get_or_append_left origins (replicate n o) q (get_or t i d).var (w.within i d h)) ∙ w.placed i d q h;
})

-- a literal is unassigned where only those before it are true
pub open_next : (t : List LitOf) (i : ℕ) (l : LitOf) → i < length t → l ≡ get_or t i l → IsDistinct t → IsConsistent t → IsUnassigned (take i t) l
open_next t i l room is d c = record {
  not_true = λ h. d.once i l room (subst (Contains (take i t)) is h);
  not_false = λ h. c.apart l (Contains-read t i l room is) (subst (λ z. Contains z (negate l)) (take-append-drop i t) (Contains-append_left (take i t) (drop i t) (negate l) h));
}
