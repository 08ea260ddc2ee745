use Rattle.std.proofs.Common.{◌≡◌, ◌≢◌, ◌⊎◌, ℕ, eqb, true, false, ◌-◌, ◌++◌, ◌∷◌, [], List, length, refl, sym, subst, ◌∙◌, arith, inl, inr, rules}
use Rattle.std.specs.Prelude.{All, Contains, Some}
use Rattle.std.proofs.lemmas.List.Elements.{All-contains}
use Rattle.std.proofs.lemmas.Bool.{eq-eqb, eqb-true, cases_Bool}
use Rattle.cnf_form.specs.Cnf.{LitOf, index_of}
use Rattle.cnf_form.proofs.Literals.{same_by_eq, apart_by_eq}
use Rattle.unit_propagation.specs.declared.lists.WatchLists.{WatchLists}
use Rattle.unit_propagation.specs.declared.store.ClauseStore.{ClauseStore}
use Rattle.unit_propagation.specs.declared.watch.Head.{Head}
use Rattle.unit_propagation.specs.declared.watch.Watch.{Watch}
use Rattle.unit_propagation.specs.Marks.{IsBelow}
use Rattle.unit_propagation.specs.Watch.{slots_of, rows_of, Enters}
use Rattle.unit_propagation.specs.Visit.{State, IsFiled, IsFiledBut}
use Rattle.unit_propagation.proofs.Rows.{row_room, row_fits, length-rows}
use Rattle.unit_propagation.proofs.Stores.{length-slots}
use Rattle.unit_propagation.proofs.Entries.{enters_none}
use Rattle.unit_propagation.proofs.Filing.{filed_push, filed_full, from_ok, slots_last, kept_before_last}
use Rattle.unit_propagation.proofs.file.file_clause.Goals as goal

not_eq : (a b : ℕ) → a ≢ b → eqb a b ≡ false
not_eq a b d = elim (cases_Bool (eqb a b)) [ inl e ↦ absurd (d (eqb-true a b e)) | inr e ↦ e ]

-- the clause is filed, its entries apart, where it was stored with these watches
module _ (s : ClauseStore) (l q : WatchLists) (cl : List LitOf) (left right : LitOf) (h : Head) (t : List LitOf)
    (lists : l.vars ≡ s.vars) (lists_clauses : l.clauses ≡ length s.heads.items) (pairs_clauses : q.clauses ≡ length s.heads.items) (below : All (IsBelow s.vars) cl)
    (left_in : left ≢ right → Contains cl left) (right_in : left ≢ right → Contains cl right) (is_left : h.left ≡ left) (is_right : h.right ≡ right)
    (filed : IsFiled (slots_of s.lits.items s.heads.items) (record { heads = s.heads.items; rows = rows_of l.vars l.lists.items; trail = t }) (rows_of q.vars q.lists.items)) where
  entered : (n : ℕ) (rows' pairs' : List (List Watch)) → length s.heads.items ≡ n → length rows' ≡ length (rows_of l.vars l.lists.items) → Enters (rows_of l.vars l.lists.items) rows' n h.left h.right → Enters (rows_of q.vars q.lists.items) pairs' n h.left h.right
      → ((length cl ≡ 2) ⊎ (h.left ≡ h.right) → rows' ≡ rows_of l.vars l.lists.items) → ((length cl ≢ 2) ⊎ (h.left ≡ h.right) → pairs' ≡ rows_of q.vars q.lists.items)
      → IsFiledBut n (slots_of s.lits.items s.heads.items ++ Some cl ∷ []) (record { heads = s.heads.items ++ h ∷ []; rows = rows'; trail = t }) pairs'
  entered n rows' pairs' count same_rows enters pair_enters no_rows no_pairs =
      let st : State = record { heads = s.heads.items; rows = rows_of l.vars l.lists.items; trail = t } in
      let apart : h.left ≢ h.right → left ≢ right = λ d g. d (is_left ∙ g ∙ sym is_right) in
      filed_push (slots_of s.lits.items s.heads.items) st (rows_of q.vars q.lists.items) n (length-slots s.lits.items s.heads.items ∙ count) count cl h rows' pairs' filed
      (λ u x i. let f = row_fits l.vars l.clauses l.lists.items (index_of u) x l.fit i in omega (arith, f.clause, lists_clauses, count))
      (λ u x i. let f = row_fits q.vars q.clauses q.lists.items (index_of u) x q.fit i in omega (arith, f.clause, pairs_clauses, count))
      (λ m i. row_room l.vars l.lists.items m (omega (arith, All-contains (IsBelow s.vars) cl m below i, lists)))
      same_rows (λ d. (subst (Contains cl) (sym is_left) (left_in (apart d)), subst (Contains cl) (sym is_right) (right_in (apart d)))) enters pair_enters no_rows no_pairs

  -- what entering it in one kind of lists leaves
  entered_by : (n : ℕ) (l' q' : WatchLists) → length s.heads.items ≡ n → left ≢ right → l'.vars ≡ l.vars
      → Enters (rows_of l.vars l.lists.items) (rows_of l'.vars l'.lists.items) n left right → Enters (rows_of q.vars q.lists.items) (rows_of q'.vars q'.lists.items) n left right
      → (eqb (length cl) 2 ≡ true → rows_of l'.vars l'.lists.items ≡ rows_of l.vars l.lists.items) → (eqb (length cl) 2 ≡ false → rows_of q'.vars q'.lists.items ≡ rows_of q.vars q.lists.items)
      → IsFiledBut n (slots_of s.lits.items s.heads.items ++ Some cl ∷ []) (record { heads = s.heads.items ++ h ∷ []; rows = rows_of l'.vars l'.lists.items; trail = t }) (rows_of q'.vars q'.lists.items)
  entered_by n l' q' count two vars enters pair_enters no_rows no_pairs =
      let ne : h.left ≢ h.right = λ g. two (sym is_left ∙ g ∙ is_right) in
      entered n (rows_of l'.vars l'.lists.items) (rows_of q'.vars q'.lists.items) count (omega (arith, length-rows l'.vars l'.lists.items l'.sized, length-rows l.vars l.lists.items l.sized, vars))
      (rw (is_left, is_right) enters) (rw (is_left, is_right) pair_enters)
      (λ i. elim i [ inl g ↦ no_rows (eq-eqb _ _ g) | inr g ↦ absurd (ne g) ])
      (λ i. elim i [ inl g ↦ no_pairs (not_eq _ _ g) | inr g ↦ absurd (ne g) ])

pub returns-then-eq-clause-filed : goal.returns-then-eq-clause-filed
returns-then-eq-clause-filed c = λ t filed.
    let s = c.args.store.now in
    let l = c.args.lists.now in
    let q = c.args.pairs.now in
    let p = c.in_ok-push.ensures in
    let w = p.heads in
    let h : Head = w.0 in
    let r = c.requires in
    let st : State = record { heads = s.heads.items; rows = rows_of l.vars l.lists.items; trail = t } in
    let pairs = rows_of q.vars q.lists.items in
    let slots = slots_of s.lits.items s.heads.items in
    let eq : h.left ≡ h.right = w.2 ∙ same_by_eq _ _ (sym c.if-eq.ensures) ∙ sym w.3 in
    let but = entered s l q c.args.clause.now c.args.left c.args.right h t r.lists r.lists_clauses r.pairs_clauses r.below r.left r.right w.2 w.3 filed (length s.heads.items) st.rows pairs refl refl (enters_none st.rows _ _ _) (enters_none pairs _ _ _) (λ i. refl) (λ i. refl) in
    let full = filed_full slots st pairs (length s.heads.items) (length-slots s.lits.items s.heads.items) refl c.args.clause.now h st.rows pairs but (λ i d. absurd (d eq)) (λ i d. absurd (d eq)) in
    let a = c.raise.ensures in
    let b = c.raise-2.ensures in
    rw (p.slots, w.1, a.vars, a.rows, b.vars, b.rows) full

pub returns-clause-filed : goal.returns-clause-filed
returns-clause-filed c = λ t filed.
    let s = c.args.store.now in
    let l = c.args.lists.now in
    let q = c.args.pairs.now in
    let p = c.in_ok-push.ensures in
    let w = p.heads in
    let r = c.requires in
    let e = c.enter_clause.ensures in
    let k : length s.heads.items ≡ c.len.result - 1 = search rules in
    let a = c.raise.ensures in
    let b = c.raise-2.ensures in
    let ra : rows_of c.raise.new.self.vars c.raise.new.self.lists.items ≡ rows_of l.vars l.lists.items = cc (a.rows, a.vars) in
    let rb : rows_of c.raise-2.new.self.vars c.raise-2.new.self.lists.items ≡ rows_of q.vars q.lists.items = cc (b.rows, b.vars) in
    let l' = c.enter_clause.new.lists in
    let q' = c.enter_clause.new.pairs in
    let but = entered_by s l q c.args.clause.now c.args.left c.args.right w.0 t r.lists r.lists_clauses r.pairs_clauses r.below r.left r.right w.2 w.3 filed (c.len.result - 1) l' q' k (apart_by_eq _ _ (sym c.if-eq.ensures)) (e.lists_vars ∙ a.vars)
    (subst (λ z. Enters z (rows_of l'.vars l'.lists.items) (c.len.result - 1) c.args.left c.args.right) ra e.rows) (subst (λ z. Enters z (rows_of q'.vars q'.lists.items) (c.len.result - 1) c.args.left c.args.right) rb e.pairs) (λ g. e.same_rows g ∙ ra) (λ g. e.same_pairs g ∙ rb) in
    let st : State = record { heads = s.heads.items; rows = rows_of l.vars l.lists.items; trail = t } in
    let long = from_ok c.enter_clause.result _ c.if-is_err.ensures.value e.long in
    let two = from_ok c.enter_clause.result _ c.if-is_err.ensures.value e.two in
    let full = filed_full (slots_of s.lits.items s.heads.items) st (rows_of q.vars q.lists.items) (c.len.result - 1) (length-slots s.lits.items s.heads.items ∙ k) k c.args.clause.now w.0 (rows_of l'.vars l'.lists.items) (rows_of q'.vars q'.lists.items) but
    (λ d i. rw (w.2, w.3) (long (not_eq _ _ d)))
    (λ g i. rw (w.2, w.3) (two (eq-eqb _ _ g))) in
    rw (p.slots, w.1) full

pub returns-then-is_err-clause-filed : goal.returns-then-is_err-clause-filed
returns-then-is_err-clause-filed c = λ t filed.
    let s = c.args.store.now in
    let l = c.args.lists.now in
    let q = c.args.pairs.now in
    let p = c.in_ok-push.ensures in
    let w = p.heads in
    let r = c.requires in
    let e = c.enter_clause.ensures in
    let k : length s.heads.items ≡ c.len.result - 1 = search rules in
    let a = c.raise.ensures in
    let b = c.raise-2.ensures in
    let ra : rows_of c.raise.new.self.vars c.raise.new.self.lists.items ≡ rows_of l.vars l.lists.items = cc (a.rows, a.vars) in
    let rb : rows_of c.raise-2.new.self.vars c.raise-2.new.self.lists.items ≡ rows_of q.vars q.lists.items = cc (b.rows, b.vars) in
    let l' = c.enter_clause.new.lists in
    let q' = c.enter_clause.new.pairs in
    let but = entered_by s l q c.args.clause.now c.args.left c.args.right w.0 t r.lists r.lists_clauses r.pairs_clauses r.below r.left r.right w.2 w.3 filed (c.len.result - 1) l' q' k (apart_by_eq _ _ (sym c.if-eq.ensures)) (e.lists_vars ∙ a.vars)
    (subst (λ z. Enters z (rows_of l'.vars l'.lists.items) (c.len.result - 1) c.args.left c.args.right) ra e.rows) (subst (λ z. Enters z (rows_of q'.vars q'.lists.items) (c.len.result - 1) c.args.left c.args.right) rb e.pairs) (λ g. e.same_rows g ∙ ra) (λ g. e.same_pairs g ∙ rb) in
    let rows' = rows_of l'.vars l'.lists.items in
    let v = c.remove_clause.ensures.filed rows' t in
    v (rw (p.slots, w.1, ← k) (subst (λ z. IsFiledBut z (slots_of s.lits.items s.heads.items ++ Some c.args.clause.now ∷ []) (record { heads = s.heads.items ++ w.0 ∷ []; rows = rows'; trail = t }) (rows_of q'.vars q'.lists.items)) (sym k) but))

pub returns-then-is_err-clause-err : goal.returns-then-is_err-clause-err
returns-then-is_err-clause-err c =
    let s = c.args.store.now in
    let slots = slots_of s.lits.items s.heads.items in
    let p = c.in_ok-push.ensures in
    let o = c.remove_clause.ensures in
    let k : length s.heads.items ≡ c.len.result - 1 = search rules in
    inr (o.slots ∙ rw p.slots (slots_last slots (Some c.args.clause.now) (c.len.result - 1) (length-slots s.lits.items s.heads.items ∙ k)))

pub returns-then-is_err-clause-err_kept : goal.returns-then-is_err-clause-err_kept
returns-then-is_err-clause-err_kept c = λ q t all.
    let s = c.args.store.now in
    let slots = slots_of s.lits.items s.heads.items in
    let p = c.in_ok-push.ensures in
    let w = p.heads in
    let o = c.remove_clause.ensures in
    let k : length s.heads.items ≡ c.len.result - 1 = search rules in
    o.kept q t (rw (p.slots, w.1) (kept_before_last q t slots s.heads.items (Some c.args.clause.now) w.0 (c.len.result - 1) (length-slots s.lits.items s.heads.items ∙ k) k all))
