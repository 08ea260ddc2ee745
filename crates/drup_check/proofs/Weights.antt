-- Tables of marks, and what they weigh.
use Rattle.std.proofs.Common.{◌≡◌, ◌≢◌, ℕ, ◌+◌, ◌*◌, ◌%◌, ◌^◌, ◌-◌, ◌<◌, ◌≤◌, replicate, Bool, true, false, cond, List, [], ◌∷◌, ◌++◌, length, get_or, set, take, drop, refl, sym, ◌∙◌, ap, subst, inl, inr, arith, zero, suc}
use Rattle.std.specs.Prelude.{Contains, All, IsTrue, ◌↔◌}
use Rattle.std.proofs.lemmas.Bool.{both_ways, cases_Bool, cases_lt}
use Rattle.std.proofs.lemmas.List.{get_or_past, get_or_append_left, get_or-append_right, get_or-replicate, length-replicate, get_or-set_same, get_or-set_other, take_all, take_at}
use Rattle.std.proofs.lemmas.List.Elements.{All-contains, All-push, Contains-append_left, Contains-get_or, Contains-push, Contains-push_cases}
use Rattle.cnf_form.specs.Cnf.{LitOf, index_of, SameClause}
use Rattle.cnf_form.specs.Coding.{lit_from, index_of-lit_from}
use Rattle.cnf_form.proofs.Literals.{index_of-injective, lit_cases}
use Rattle.cnf_form.proofs.Members.{Contains-empty, take_one_more}
use Rattle.unit_propagation.specs.Marks.{is_marked, Shows}
use Rattle.drup_check.specs.Marks.{HasPlaces, scattered, sum_from, weight, Weighs}
use Rattle.drup_check.specs.Inside.{IsFree}

pub sum_set : (salt k : ℕ) (marks : List Bool) (i : ℕ) → i < length marks → get_or marks i false ≡ false → sum_from salt k (set marks i true) ≡ sum_from salt k marks + scattered salt (k + i)
sum_set salt k [] i h e = absurd (omega (arith, h))
sum_set salt k (b ∷ bs) zero h e =
    let p : scattered salt (k + zero) ≡ scattered salt k = ap (scattered salt) (omega arith) in
    let q : cond b (scattered salt k) 0 ≡ 0 = ap (λ z. cond z (scattered salt k) 0) e in
    omega (arith, p, q)
sum_set salt k (b ∷ bs) (suc i) h e =
    let p : scattered salt (k + suc i) ≡ scattered salt (k + 1 + i) = ap (scattered salt) (omega arith) in
    let q : sum_from salt (k + 1) (set bs i true) ≡ sum_from salt (k + 1) bs + scattered salt (k + 1 + i) = sum_set salt (k + 1) bs i (omega (arith, h)) e in
    omega (arith, p, q)

pub sum_clear : (salt k : ℕ) (marks : List Bool) → ((i : ℕ) → get_or marks i false ≡ false) → sum_from salt k marks ≡ 0
sum_clear salt k [] f = refl
sum_clear salt k (b ∷ bs) f =
    let q : cond b (scattered salt k) 0 ≡ 0 = ap (λ z. cond z (scattered salt k) 0) (f zero) in
    let r : sum_from salt (k + 1) bs ≡ 0 = sum_clear salt (k + 1) bs (λ i. f (suc i)) in
    omega (arith, q, r)

-- a place is a literal's
by_literal : (marks : List Bool) (i : ℕ) → is_marked marks (lit_from i) ≡ get_or marks i false
by_literal marks i = ap (λ n. get_or marks n false) (index_of-lit_from i)

pub clear_at : (marks : List Bool) → Shows marks [] → (i : ℕ) → get_or marks i false ≡ false
clear_at marks s i =
    elim (cases_Bool (get_or marks i false)) [
      | inl t ↦ absurd (Contains-empty (lit_from i) (s.off (lit_from i) (by_literal marks i ∙ t)))
      | inr f ↦ f
    ]

pub weight_clear : (salt : ℕ) (marks : List Bool) → Shows marks [] → 0 ≡ weight salt marks
weight_clear salt marks s = let e : sum_from salt 0 marks ≡ 0 = sum_clear salt 0 marks (clear_at marks s) in sym (ap (λ n. n % 2 ^ 64) e)

at_same : (a b : List Bool) (c : List LitOf) → Shows a c → Shows b c → (i : ℕ) → get_or a i false ≡ get_or b i false
at_same a b c s r i =
    elim (cases_Bool (get_or a i false)) [
      | inl t ↦ t ∙ sym (sym (by_literal b i) ∙ r.on (lit_from i) (s.off (lit_from i) (by_literal a i ∙ t)))
      | inr f ↦ elim (cases_Bool (get_or b i false)) [
        | inl t ↦ absurd (both_ways _ f (sym (by_literal a i) ∙ s.on (lit_from i) (r.off (lit_from i) (by_literal b i ∙ t))))
        | inr g ↦ f ∙ sym g
      ]
    ]

-- tables that tell the same have the same sum, of whatever length
sum_same : (salt k : ℕ) (a b : List Bool) → ((i : ℕ) → get_or a i false ≡ get_or b i false) → sum_from salt k a ≡ sum_from salt k b
sum_same salt k [] b f = sym (sum_clear salt k b (λ i. sym (f i) ∙ get_or_past [] i false (omega arith)))
sum_same salt k (x ∷ a) [] f = sum_clear salt k (x ∷ a) (λ i. f i ∙ get_or_past [] i false (omega arith))
sum_same salt k (x ∷ a) (y ∷ b) f =
    let p : cond x (scattered salt k) 0 ≡ cond y (scattered salt k) 0 = ap (λ z. cond z (scattered salt k) 0) (f zero) in
    let q : sum_from salt (k + 1) a ≡ sum_from salt (k + 1) b = sum_same salt (k + 1) a b (λ i. f (suc i)) in
    omega (arith, p, q)

pub weighs_of : (salt : ℕ) (marks : List Bool) (c : List LitOf) → Shows marks c → Weighs salt c (weight salt marks)
weighs_of salt marks c s = record { each = λ m r. ap (λ n. n % 2 ^ 64) (sum_same salt 0 m marks (λ i. at_same m marks c r s i)) }

pub shows_same : (marks : List Bool) (c d : List LitOf) → Shows marks c → SameClause c d → Shows marks d
shows_same marks c d s q = record { on = λ l h. s.on l (q.back l h); off = λ l h. q.forth l (s.off l h) }

pub weighs_same : (salt h : ℕ) (marks : List Bool) (c d : List LitOf) → Weighs salt d h → Shows marks c → SameClause c d → weight salt marks ≡ h
weighs_same salt h marks c d w s q = w.each marks (shows_same marks c d s q)

sign_room : (v n : ℕ) (a : Bool) → 2 * v + 1 < n → 2 * v + cond a 1 0 < n
sign_room v n true h = omega arith
sign_room v n false h = omega arith

pub place_room : (l : LitOf) (n : ℕ) → 2 * l.var + 1 < n → index_of l < n
place_room l n h = sign_room l.var n l.negated h

module _ (marks : List Bool) (cs : List LitOf) (i : ℕ) (l : LitOf) (inside : i < length cs) (is : l ≡ get_or cs i l) where
  -- the literal was marked before
  pub shows_again : is_marked marks l ≡ true → Shows marks (take i cs) → Shows marks (take (i + 1) cs)
  shows_again m s = rw (take_one_more cs i l inside is) (record {
    on = λ k h. elim (Contains-push_cases (take i cs) l k h) [ inl h ↦ s.on k h | inr e ↦ subst (λ z. is_marked marks z ≡ true) e m ];
    off = λ k h. Contains-append_left (take i cs) (l ∷ []) k (s.off k h);
  })

  -- the literal is marked now
  pub shows_more : index_of l < length marks → Shows marks (take i cs) → Shows (set marks (index_of l) true) (take (i + 1) cs)
  shows_more room s = rw (take_one_more cs i l inside is) (record { on = shown; off = hidden })
    where
      shown : (k : LitOf) → Contains (take i cs ++ l ∷ []) k → is_marked (set marks (index_of l) true) k ≡ true
      shown k h =
          elim (lit_cases k l) [
            | inl e ↦ subst (λ z. is_marked (set marks (index_of l) true) z ≡ true) (sym e) (get_or-set_same marks (index_of l) true false room)
            | inr d ↦ get_or-set_other marks (index_of l) (index_of k) true false (λ e. d (index_of-injective k l e))
                ∙ elim (Contains-push_cases (take i cs) l k h) [ inl q ↦ s.on k q | inr e ↦ absurd (d (sym e)) ]
          ]

      hidden : (k : LitOf) → is_marked (set marks (index_of l) true) k ≡ true → Contains (take i cs ++ l ∷ []) k
      hidden k h =
          elim (lit_cases k l) [
            | inl e ↦ subst (Contains (take i cs ++ l ∷ [])) (sym e) (Contains-push (take i cs) l)
            | inr d ↦ Contains-append_left (take i cs) (l ∷ []) k (s.off k (sym (get_or-set_other marks (index_of l) (index_of k) true false (λ e. d (index_of-injective k l e))) ∙ h))
          ]

-- one more place adds what it scatters
pub weight_more : (salt : ℕ) (marks : List Bool) (i w s : ℕ) → i < length marks → get_or marks i false ≡ false → w ≡ weight salt marks → s ≡ scattered salt i → (w + s) % 2 ^ 64 ≡ weight salt (set marks i true)
weight_more salt marks i w s room free e f =
    let g : sum_from salt 0 (set marks i true) ≡ sum_from salt 0 marks + scattered salt (0 + i) = sum_set salt 0 marks i room free in
    let h : scattered salt (0 + i) ≡ scattered salt i = ap (scattered salt) (omega arith) in
    omega (arith, g, h, e, f)

-- what is marked is in the clause, but not in what was done
pub record IsLeft (marks : List Bool) (cs done : List LitOf) : Type 0 where
  pub whole : (l : LitOf) → is_marked marks l ≡ true → Contains cs l
  pub rest : (l : LitOf) → is_marked marks l ≡ true → Contains done l → ⊥

pub left_first : (marks : List Bool) (cs : List LitOf) → Shows marks cs → IsLeft marks cs []
left_first marks cs s = record { whole = λ l h. s.off l h; rest = λ l h k. Contains-empty l k }

pub left_more : (marks : List Bool) (cs : List LitOf) (i : ℕ) (l : LitOf) → i < length cs → l ≡ get_or cs i l → index_of l < length marks → IsLeft marks cs (take i cs) → IsLeft (set marks (index_of l) false) cs (take (i + 1) cs)
left_more marks cs i l inside is room s = record {
  whole = λ k h. elim (lit_cases k l) [
    | inl e ↦ absurd (both_ways _ (gone k e) h)
    | inr d ↦ s.whole k (sym (other k d) ∙ h)
  ];
  rest = λ k h q. elim (lit_cases k l) [
    | inl e ↦ both_ways _ (gone k e) h
    | inr d ↦ elim (Contains-push_cases (take i cs) l k (subst (λ z. Contains z k) (take_one_more cs i l inside is) q)) [
      | inl q ↦ s.rest k (sym (other k d) ∙ h) q
      | inr e ↦ d (sym e)
    ]
  ];
}
  where
    gone : (k : LitOf) → k ≡ l → is_marked (set marks (index_of l) false) k ≡ false
    gone k e = subst (λ z. is_marked (set marks (index_of l) false) z ≡ false) (sym e) (get_or-set_same marks (index_of l) false false room)

    other : (k : LitOf) → k ≢ l → is_marked (set marks (index_of l) false) k ≡ is_marked marks k
    other k d = get_or-set_other marks (index_of l) (index_of k) false false (λ e. d (index_of-injective k l e))

pub left_none : (marks : List Bool) (cs : List LitOf) (n : ℕ) → n ≡ length cs → IsLeft marks cs (take n cs) → Shows marks []
left_none marks cs n e s = record {
  on = λ l h. absurd (Contains-empty l h);
  off = λ l h. absurd (s.rest l h (subst (λ z. Contains z l) (sym (take_all n cs (omega (arith, e)))) (s.whole l h)));
}

-- one turn of the marking, at a place that was free
pub marked_step : (salt : ℕ) (marks marks' : List Bool) (cs : List LitOf) (n i w s w' : ℕ) (l : LitOf) → n < length cs → l ≡ get_or cs n l → i ≡ index_of l → i < length marks → get_or marks i false ≡ false
    → Shows marks (take n cs) → w ≡ weight salt marks → s ≡ scattered salt i → marks' ≡ set marks i true → w' ≡ (w + s) % 2 ^ 64 → Shows marks' (take (n + 1) cs) × (w' ≡ weight salt marks')
marked_step salt marks marks' cs n i w s w' l inside is at room free shows e f new sum = (
  subst (λ z. Shows z (take (n + 1) cs)) (ap (λ k. set marks k true) (sym at) ∙ sym new) (shows_more marks cs n l inside is (subst (λ k. k < length marks) at room) shows),
  sum ∙ weight_more salt marks i w s room free e f ∙ ap (weight salt) (sym new),
)

-- a turn at a place that was marked
pub again_step : (salt : ℕ) (marks marks' : List Bool) (cs : List LitOf) (n i w w' : ℕ) (l : LitOf) → n < length cs → l ≡ get_or cs n l → i ≡ index_of l → get_or marks i false ≡ true
    → Shows marks (take n cs) → w ≡ weight salt marks → marks' ≡ marks → w' ≡ w → Shows marks' (take (n + 1) cs) × (w' ≡ weight salt marks')
again_step salt marks marks' cs n i w w' l inside is at on shows e new sum = (
  subst (λ z. Shows z (take (n + 1) cs)) (sym new) (shows_again marks cs n l inside is (ap (λ k. get_or marks k false) (sym at) ∙ on) shows),
  sum ∙ e ∙ ap (weight salt) (sym new),
)

pub left_step : (marks : List Bool) (cs : List LitOf) (n i : ℕ) (l : LitOf) → n < length cs → l ≡ get_or cs n l → i ≡ index_of l → i < length marks → IsLeft marks cs (take n cs) → IsLeft (set marks i false) cs (take (n + 1) cs)
left_step marks cs n i l inside is at room s = rw at (left_more marks cs n l inside is (subst (λ k. k < length marks) at room) s)

-- each of the first literals, and the next
pub all_more : {X : Type 0} (P : X → Type 0) (xs : List X) (i : ℕ) (x : X) → i < length xs → x ≡ get_or xs i x → All P (take i xs) → P x → All P (take (i + 1) xs)
all_more P xs i x h e before here = rw (take_one_more xs i x h e) (All-push P (take i xs) x before here)

pub all_whole : {X : Type 0} (P : X → Type 0) (xs : List X) (n : ℕ) → n ≡ length xs → All P (take n xs) → All P xs
all_whole P xs n e a = subst (All P) (take_all n xs (omega (arith, e))) a

abbrev on_marks : List Bool → LitOf → Type 0
on_marks marks l = is_marked marks l ≡ true

pub within_from_same : (marks : List Bool) (a b : List LitOf) → Shows marks a → SameClause a b → All (on_marks marks) b
within_from_same marks a b s q k d h = s.on (get_or b k d) (q.back (get_or b k d) (Contains-get_or b k d h))

pub same_iff : (am bm : List Bool) (a b : List LitOf) (r : Bool) → Shows am a → Shows bm b → All (on_marks am) b → (IsTrue r ↔ All (on_marks bm) a) → (IsTrue r ↔ SameClause a b)
same_iff am bm a b r s t w i = (
  λ h. record {
    forth = λ l k. t.off l (All-contains (on_marks bm) a l (i.0 h) k);
    back = λ l k. s.off l (All-contains (on_marks am) b l w k);
  },
  λ q. i.1 (λ k d h. t.on (get_or a k d) (q.forth (get_or a k d) (Contains-get_or a k d h))),
)

-- a table after a function over its slice
pub slice_back : (old new : List Bool) (n : ℕ) → n ≡ length old → length new ≡ length old → take n (new ++ drop (length new) old) ≡ new
slice_back old new n e f = take_at new (drop (length new) old) n (f ∙ sym e)

-- a table that is as long has the same places, and a longer one has them too
pub places_up : (old new : List Bool) (c : List LitOf) → length old ≤ length new → HasPlaces old c → HasPlaces new c
places_up old new c le h k d i = omega (arith, h k d i, le)

pub free_same : (F : List (List LitOf)) (old new : List Bool) → length old ≤ length new → IsFree F old → Shows new [] → IsFree F new
free_same F old new le i s = record { places = λ c h. places_up old new c le (i.places c h); clear = s }

pub free_back : (F : List (List LitOf)) (old new : List Bool) (n : ℕ) → n ≡ length old → length new ≡ length old → IsFree F old → Shows new [] → IsFree F (take n (new ++ drop (length new) old))
free_back F old new n e f i s = rw (slice_back old new n e f) (free_same F old new (omega (arith, f)) i s)

pub freed_back : (F : List (List LitOf)) (old new : List Bool) (n : ℕ) → n ≡ length old → length new ≡ length old → IsFree F new → IsFree F (take n (new ++ drop (length new) old))
freed_back F old new n e f i = rw (slice_back old new n e f) i

pub places_back : (old new : List Bool) (n : ℕ) (c : List LitOf) → n ≡ length old → length new ≡ length old → HasPlaces old c → HasPlaces (take n (new ++ drop (length new) old)) c
places_back old new n c e f h = rw (slice_back old new n e f) (places_up old new c (omega (arith, f)) h)

-- of fewer clauses
pub free_less : (F G : List (List LitOf)) (marks : List Bool) → ((c : List LitOf) → Contains G c → Contains F c) → IsFree F marks → IsFree G marks
free_less F G marks less i = record { places = λ c h. i.places c (less c h); clear = i.clear }

-- of one clause more, for which there are places
pub free_push : (F : List (List LitOf)) (c : List LitOf) (marks : List Bool) → HasPlaces marks c → IsFree F marks → IsFree (F ++ c ∷ []) marks
free_push F c marks room i = record {
  places = λ d h. elim (Contains-push_cases F c d h) [ inl k ↦ i.places d k | inr e ↦ subst (HasPlaces marks) e room ];
  clear = i.clear;
}

pub free_none : IsFree [] []
free_none = record {
  places = λ c h. absurd (Contains-empty c h);
  clear = record { on = λ l h. absurd (Contains-empty l h); off = λ l h. absurd (both_ways _ (get_or_past [] (index_of l) false (omega arith)) h) };
}

-- marks that are added are off
pub clear_longer : (marks : List Bool) (n : ℕ) → Shows marks [] → Shows (marks ++ replicate n false) []
clear_longer marks n s = record {
  on = λ l h. absurd (Contains-empty l h);
  off = λ l h. absurd (both_ways _ (off (index_of l)) h);
}
  where
    off : (i : ℕ) → get_or (marks ++ replicate n false) i false ≡ false
    off i = elim (cases_lt i (length marks)) [
      | inl h ↦ get_or_append_left marks (replicate n false) false i h ∙ clear_at marks s i
      | inr h ↦ get_or-append_right marks (replicate n false) (length marks) i false refl h ∙ elim (cases_lt (i - length marks) n) [
        | inl k ↦ get_or-replicate n (i - length marks) false false k
        | inr k ↦ get_or_past (replicate n false) (i - length marks) false (omega (arith, length-replicate n false, k))
      ]
    ]

-- a clause without places is the same as none that has them
pub same_places : (marks : List Bool) (c d : List LitOf) → SameClause c d → HasPlaces marks d → HasPlaces marks c
same_places marks c d q h k e i = All-contains (λ (l : LitOf). 2 * l.var + 1 < length marks) d (get_or c k e) h (q.forth (get_or c k e) (Contains-get_or c k e i))
