-- What the slots are when heads and literals change.
use Rattle.std.proofs.Common.{◌≡◌, ◌≢◌, ℕ, zero, suc, ◌+◌, ◌<◌, ◌≤◌, ◌-◌, ◌==◌, not, false, List, [], ◌∷◌, ◌++◌, length, get_or, set, drop, map, refl, sym, ◌∙◌, ap, subst, inl, inr, arith}
use Rattle.std.specs.Prelude.{Option, slice_range, Some, None, is_some}
use Rattle.std.proofs.lemmas.Bool.{eq-eqb, eqb-true, cases_Bool, cases_eq, cases_lt, both_ways}
use Rattle.std.proofs.lemmas.Slice.{between_is, between_to_end}
use Rattle.std.proofs.lemmas.List.{take-append-le, drop_at, get_or-map, get_or_past, get_or_push, get_or_append_left, get_or-set_same, get_or-set_other, map-set, set-get_or, length-map, length-set, length_push}
use Rattle.std.proofs.lemmas.List.Edits.{length-between}
use Rattle.cnf_form.specs.Cnf.{LitOf}
use Rattle.unit_propagation.specs.declared.watch.Head.{Head}
use Rattle.unit_propagation.specs.declared.watch.TheConstants.{GONE}
use Rattle.unit_propagation.specs.Watch.{end_of, slot_of, slots_of, HeadFits, HeadsFit}
use Rattle.unit_propagation.specs.Propagator.{slot_at}

pub range_more : (lits more : List LitOf) (i j : ℕ) → j ≤ length lits → slice_range (lits ++ more) i j ≡ slice_range lits i j
range_more lits more i j h = between_is (lits ++ more) i j ∙ ap (drop i) (take-append-le j lits more h) ∙ sym (between_is lits i j)

pub range_new : (lits more : List LitOf) → slice_range (lits ++ more) (length lits) (length (lits ++ more)) ≡ more
range_new lits more = between_to_end (lits ++ more) (length lits) (length (lits ++ more)) (omega arith) ∙ drop_at lits more (length lits) refl

pub slot_there : (lits : List LitOf) (end : ℕ) (h : Head) → h.from ≢ GONE → slot_of lits end h ≡ Some (slice_range lits h.start end)
slot_there lits end h d = elim (cases_Bool (h.from == GONE)) [ inl e ↦ absurd (d (eqb-true h.from GONE e)) | inr f ↦ rw f refl ]

pub slot_gone : (lits : List LitOf) (end : ℕ) (h : Head) → h.from ≡ GONE → slot_of lits end h ≡ None
slot_gone lits end h e = rw (eq-eqb h.from GONE e) refl

slot_more : (lits more : List LitOf) (end : ℕ) (h : Head) → end ≤ length lits → slot_of (lits ++ more) end h ≡ slot_of lits end h
slot_more lits more end h e = rw (range_more lits more h.start end e) refl

-- the last clause ends where all literals do, and each other one where the next begins
pub end_last : (size : ℕ) (heads : List Head) (k : ℕ) → length heads ≤ k + 1 → end_of size heads k ≡ size
end_last size heads k h = get_or_past (map (λ (x : Head). x.start) heads) (k + 1) size (omega (arith, h, length-map heads (λ (x : Head). x.start)))

pub end_next : (size : ℕ) (heads : List Head) (k : ℕ) (d : Head) → k + 1 < length heads → end_of size heads k ≡ (get_or heads (k + 1) d).start
end_next size heads k d h = get_or-map (λ (x : Head). x.start) heads (k + 1) d size h

end_tail : (size : ℕ) (x : Head) (hs : List Head) (k : ℕ) → end_of size (x ∷ hs) (suc k) ≡ end_of size hs k
end_tail size x hs k =
    let e : suc k + 1 ≡ suc (k + 1) = omega arith in
    ap (λ n. get_or (map (λ (y : Head). y.start) (x ∷ hs)) n size) e

-- a clause more, after the others
module _ (size more : ℕ) (heads : List Head) (h : Head) (at : h.start ≡ size) where
  pub end_push : (k : ℕ) → k < length heads → end_of more (heads ++ h ∷ []) k ≡ end_of size heads k
  end_push k room = end_next more (heads ++ h ∷ []) k h (omega (arith, room, length_push heads h)) ∙
      elim (cases_lt (k + 1) (length heads)) [
        | inl l ↦ ap (λ (z : Head). z.start) (get_or_append_left heads (h ∷ []) h (k + 1) l) ∙ sym (end_next size heads k h l)
        | inr g ↦ ap (λ (z : Head). z.start) (get_or_push heads h h (k + 1) (omega (arith, room, g))) ∙ at ∙ sym (end_last size heads k g)
      ]

  pub heads_push : (vars : ℕ) → HeadsFit vars size heads → size ≤ more → HeadFits vars more h → HeadsFit vars more (heads ++ h ∷ [])
  heads_push vars f le new = record {
    each = λ k d room. elim (cases_lt k (length heads)) [
      | inl l ↦ rw (end_push k l, get_or_append_left heads (h ∷ []) d k l) (f.each k d l)
      | inr g ↦ rw (end_last more (heads ++ h ∷ []) k (omega (arith, g, length_push heads h)), get_or_push heads h d k (omega (arith, room, g, length_push heads h))) new
    ];
    within = λ k. elim (cases_lt k (length heads)) [
      | inl l ↦ omega (arith, end_push k l, f.within k, le)
      | inr g ↦ omega (arith, end_last more (heads ++ h ∷ []) k (omega (arith, g, length_push heads h)))
    ];
  }

pub slots_of-push : (lits more : List LitOf) (heads : List Head) (h : Head) → ((k : ℕ) → end_of (length lits) heads k ≤ length lits) → h.start ≡ length lits → h.from ≢ GONE
    → slots_of (lits ++ more) (heads ++ h ∷ []) ≡ slots_of lits heads ++ Some more ∷ []
slots_of-push lits more [] h w s d =
    let here : slot_of (lits ++ more) (length (lits ++ more)) h ≡ Some more = slot_there (lits ++ more) (length (lits ++ more)) h d ∙ ap (λ (c : List LitOf). Some c) (rw s (range_new lits more)) in
    ap (λ (o : Option (List LitOf)). o ∷ []) here
slots_of-push lits more (x ∷ hs) h w s d =
    let to = end_push (length lits) (length (lits ++ more)) (x ∷ hs) h s 0 (omega arith) in
    let e = ap (λ z. slot_of (lits ++ more) z x) to ∙ slot_more lits more (end_of (length lits) (x ∷ hs) 0) x (w 0) in
    let g = slots_of-push lits more hs h (λ k. subst (λ z. z ≤ length lits) (end_tail (length lits) x hs k) (w (suc k))) s d in
    cc

pub slot_at-read : (lits : List LitOf) (heads : List Head) (k : ℕ) (d : Head) → k < length heads → slot_at (slots_of lits heads) k ≡ slot_of lits (end_of (length lits) heads k) (get_or heads k d)
slot_at-read lits [] k d h = absurd (omega (arith, h))
slot_at-read lits (x ∷ hs) zero d h = refl
slot_at-read lits (x ∷ hs) (suc k) d h = slot_at-read lits hs k d (omega (arith, h)) ∙ ap (λ z. slot_of lits z (get_or hs k d)) (sym (end_tail (length lits) x hs k))

-- a head that begins at the same place
starts_same : (heads : List Head) (k : ℕ) (h : Head) → k < length heads → h.start ≡ (get_or heads k h).start → map (λ (x : Head). x.start) (set heads k h) ≡ map (λ (x : Head). x.start) heads
starts_same heads k h room e =
    map-set (λ (x : Head). x.start) heads k h ∙ ap (set (map (λ (x : Head). x.start) heads) k) (e ∙ sym (get_or-map (λ (x : Head). x.start) heads k h 0 room)) ∙ set-get_or (map (λ (x : Head). x.start) heads) k 0

pub end_same : (size : ℕ) (heads : List Head) (k : ℕ) (h : Head) (j : ℕ) → k < length heads → h.start ≡ (get_or heads k h).start → end_of size (set heads k h) j ≡ end_of size heads j
end_same size heads k h j room e = ap (λ z. get_or z (j + 1) size) (starts_same heads k h room e)

pub heads_set : (vars size : ℕ) (heads : List Head) (k : ℕ) (h : Head) → k < length heads → h.start ≡ (get_or heads k h).start → HeadFits vars (end_of size heads k) h → HeadsFit vars size heads → HeadsFit vars size (set heads k h)
heads_set vars size heads k h room e new f = record {
  each = λ j d inside. elim (cases_eq j k) [
    | inl g ↦ rw (end_same size heads k h j room e, g, get_or-set_same heads k h d room) new
    | inr ne ↦ rw (end_same size heads k h j room e, get_or-set_other heads k j h d ne) (f.each j d (omega (arith, inside, length-set heads k h)))
  ];
  within = λ j. omega (arith, end_same size heads k h j room e, f.within j);
}

slots_of-set : (lits : List LitOf) (heads : List Head) (k : ℕ) (h : Head) → k < length heads → h.start ≡ (get_or heads k h).start → slots_of lits (set heads k h) ≡ set (slots_of lits heads) k (slot_of lits (end_of (length lits) heads k) h)
slots_of-set lits [] k h room e = absurd (omega (arith, room))
slots_of-set lits (x ∷ hs) zero h room e = refl
slots_of-set lits (x ∷ hs) (suc k) h room e =
    let to : end_of (length lits) (x ∷ set hs k h) 0 ≡ end_of (length lits) (x ∷ hs) 0 = ap (λ z. get_or z 0 (length lits)) (starts_same hs k h (omega (arith, room)) e) in
    let rest = slots_of-set lits hs k h (omega (arith, room)) e ∙ ap (λ z. set (slots_of lits hs) k (slot_of lits z h)) (sym (end_tail (length lits) x hs k)) in
    ap (λ z. slot_of lits z x ∷ slots_of lits (set hs k h)) to ∙ ap (λ z. slot_of lits (end_of (length lits) (x ∷ hs) 0) x ∷ z) rest

module _ (lits : List LitOf) (heads : List Head) (k : ℕ) (h : Head) (room : k < length heads) (e : h.start ≡ (get_or heads k h).start) where
  pub slots_of-same : slot_of lits (end_of (length lits) heads k) h ≡ slot_at (slots_of lits heads) k → slots_of lits (set heads k h) ≡ slots_of lits heads
  slots_of-same g = slots_of-set lits heads k h room e ∙ ap (set (slots_of lits heads) k) g ∙ set-get_or (slots_of lits heads) k None

  pub slots_of-gone : h.from ≡ GONE → slots_of lits (set heads k h) ≡ set (slots_of lits heads) k None
  slots_of-gone g = slots_of-set lits heads k h room e ∙ ap (set (slots_of lits heads) k) (slot_gone lits (end_of (length lits) heads k) h g)

pub length-slots : (lits : List LitOf) (heads : List Head) → length (slots_of lits heads) ≡ length heads
length-slots lits [] = refl
length-slots lits (h ∷ hs) = ap suc (length-slots lits hs)

-- the watches change, and the place of the search
pub slot_moved : (lits : List LitOf) (heads : List Head) (k : ℕ) (d h : Head) → k < length heads → d ≡ get_or heads k d → h.start ≡ d.start → h.from ≢ GONE → d.from ≢ GONE
    → slot_of lits (end_of (length lits) heads k) h ≡ slot_at (slots_of lits heads) k
slot_moved lits heads k d h room read at there was =
    let end = end_of (length lits) heads k in
    slot_there lits end h there ∙ ap (λ s. Some (slice_range lits s end)) at ∙ sym (slot_there lits end d was) ∙ ap (slot_of lits end) read ∙ sym (slot_at-read lits heads k d room)

-- the clause at a head, and its length
pub slot_lits : (lits : List LitOf) (end : ℕ) (h : Head) (c : List LitOf) → slot_of lits end h ≡ Some c → slice_range lits h.start end ≡ c
slot_lits lits end h c e =
    elim (cases_Bool (h.from == GONE)) [
      | inl g ↦ absurd (let f : None ≡ Some c = sym (slot_gone lits end h (eqb-true h.from GONE g)) ∙ e in cc)
      | inr g ↦ let f : Some (slice_range lits h.start end) ≡ Some c = sym (slot_there lits end h (λ q. both_ways _ g (eq-eqb h.from GONE q))) ∙ e in cc
    ]

pub slot_length : (lits : List LitOf) (heads : List Head) (k : ℕ) (h : Head) (c : List LitOf) → k < length heads → h ≡ get_or heads k h → end_of (length lits) heads k ≤ length lits
    → slot_at (slots_of lits heads) k ≡ Some c → length c ≡ end_of (length lits) heads k - h.start
slot_length lits heads k h c room read fits e =
    let to = end_of (length lits) heads k in
    let slot : slot_of lits to h ≡ Some c = ap (slot_of lits to) read ∙ sym (slot_at-read lits heads k h room) ∙ e in
    ap length (sym (slot_lits lits to h c slot)) ∙ length-between lits h.start to fits

-- whether the clause at a number is there
pub has_there : (lits : List LitOf) (heads : List Head) (k : ℕ) (d : Head) → k < length heads → d ≡ get_or heads k d → is_some (slot_at (slots_of lits heads) k) ≡ not (d.from == GONE)
has_there lits heads k d h read =
    ap is_some (slot_at-read lits heads k d h ∙ ap (slot_of lits (end_of (length lits) heads k)) (sym read)) ∙ elim (cases_Bool (d.from == GONE)) [ inl e ↦ rw e refl | inr f ↦ rw f refl ]

pub has_past : (lits : List LitOf) (heads : List Head) (k : ℕ) → length heads ≤ k → is_some (slot_at (slots_of lits heads) k) ≡ false
has_past lits heads k h = ap is_some (get_or_past (slots_of lits heads) k None (omega (arith, h, length-slots lits heads)))
