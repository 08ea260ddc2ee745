-- Lines and the blocks in which they stand.
use Rattle.std.proofs.Common.{◌≡◌, ◌⊎◌, ℕ, zero, suc, Bool, true, false, cond, ◌&&◌, List, [], ◌∷◌, ◌++◌, refl, sym, ◌∙◌, ap, subst, inl, inr, arith}
use Rattle.std.proofs.lemmas.Bool.{cases_Bool, false≢true}
use Rattle.std.proofs.lemmas.List.{append_assoc, append-nil}
use Rattle.std.proofs.lemmas.List.Elements.{Contains-append_right}
use Rattle.sby_file.specs.Prefix.{is_block_end, opens_block}
use Rattle.sby_task.specs.Scope.{holds, kept, rest_of}
use Rattle.sby_task.specs.Blocks.{IsBlockLine, HaveNone, LeaveOpen, IsKept}
use Rattle.sby_file.specs.declared.config.Row.{Row}

module _ (is_here : List ℕ → Bool) where
  -- whether the lines after a line stand where lines are kept
  abbrev behind : Bool → Row → Bool
  behind b row = cond (is_block_end row.words) true (cond (opens_block row.words) (holds is_here row.words) b)

  abbrev behind_all : Bool → List Row → Bool
  behind_all b [] = b
  behind_all b (row ∷ rows) = behind_all (behind b row) rows

  -- the lines are kept one after the other
  kept_first : (b : Bool) (row : Row) (rows : List Row) → kept is_here b (row ∷ rows) ≡ kept is_here b (row ∷ []) ++ kept is_here (behind b row) rows
  kept_first b row rows = elim (cases_Bool (is_block_end row.words)) [
    | inl y ↦ rw y refl
    | inr n ↦ elim (cases_Bool (opens_block row.words)) [
      | inl y ↦ rw (n, y) refl
      | inr m ↦ elim (cases_Bool (b && holds is_here row.words)) [
        | inl y ↦ rw (n, m, y) refl
        | inr k ↦ rw (n, m, k) refl
      ]
    ]
  ]

  kept_last : (b : Bool) (rows : List Row) (row : Row) → kept is_here b (rows ++ row ∷ []) ≡ kept is_here b rows ++ kept is_here (behind_all b rows) (row ∷ [])
  kept_last b [] row = refl
  kept_last b (first ∷ rows) row =
      kept_first b first (rows ++ row ∷ []) ∙ ap (λ (l : List Row). kept is_here b (first ∷ []) ++ l) (kept_last (behind b first) rows row)
      ∙ sym (append_assoc (kept is_here b (first ∷ [])) (kept is_here (behind b first) rows) (kept is_here (behind_all (behind b first) rows) (row ∷ [])))
      ∙ ap (λ (l : List Row). l ++ kept is_here (behind_all (behind b first) rows) (row ∷ [])) (sym (kept_first b first rows))

  no_block : (row : Row) → (IsBlockLine row → ⊥) → (is_block_end row.words ≡ false) × (opens_block row.words ≡ false)
  no_block row none = (
    elim (cases_Bool (is_block_end row.words)) [ inl y ↦ absurd (none (inl y)) | inr n ↦ n ],
    elim (cases_Bool (opens_block row.words)) [ inl y ↦ absurd (none (inr y)) | inr n ↦ n ],
  )

  first_none : (row : Row) (rows : List Row) → HaveNone (row ∷ rows) → IsBlockLine row → ⊥
  first_none row rows none h = none row (0, omega arith, refl) h

  later_none : (row : Row) (rows : List Row) → HaveNone (row ∷ rows) → HaveNone rows
  later_none row rows none other c h = none other (Contains-append_right (row ∷ []) rows other c) h

  both_none : (row : Row) (rows : List Row) → (IsBlockLine row → ⊥) → HaveNone rows → HaveNone (row ∷ rows)
  both_none row rows first later other (zero, lt, at) h = first (subst IsBlockLine (sym at) h)
  both_none row rows first later other (suc k, lt, at) h = later other (k, omega arith, at) h

  plain_behind : (b : Bool) (rows : List Row) → HaveNone rows → behind_all b rows ≡ b
  plain_behind b [] none = refl
  plain_behind b (row ∷ rows) none =
      let n = no_block row (first_none row rows none) in
      rw (n.0, n.1) (plain_behind b rows (later_none row rows none))

  behind_parts : (b : Bool) (before after : List Row) (row : Row) → behind_all b (before ++ row ∷ after) ≡ behind_all (behind (behind_all b before) row) after
  behind_parts b [] after row = refl
  behind_parts b (first ∷ before) after row = behind_parts (behind b first) before after row

  open_behind : (rows : List Row) → LeaveOpen is_here rows → behind_all true rows ≡ true
  open_behind rows (inl none) = plain_behind true rows none
  open_behind rows (inr (before, row, after, e, none, inl ends)) =
      rw (e, behind_parts true before after row, ends) (plain_behind true after none)
  open_behind rows (inr (before, row, after, e, none, inr (opens, held))) =
      rw (e, behind_parts true before after row) (plain_behind (behind (behind_all true before) row) after none ∙ by)
    where
      by : behind (behind_all true before) row ≡ true
      by = elim (cases_Bool (is_block_end row.words)) [ inl y ↦ rw y refl | inr n ↦ rw (n, opens) held ]

  abbrev Opened : Bool → List Row → Type 0
  Opened b rows =
      (HaveNone rows × (b ≡ true))
      ⊎ ((before : List Row) × (row : Row) × (after : List Row) × (rows ≡ before ++ row ∷ after) × HaveNone after
      × ((is_block_end row.words ≡ true) ⊎ ((opens_block row.words ≡ true) × (holds is_here row.words ≡ true))))

  opened_more : (b : Bool) (row : Row) (rows : List Row) → Opened (behind b row) rows → Opened b (row ∷ rows)
  opened_more b row rows (inr (before, other, after, e, none, last)) = inr (row ∷ before, other, after, ap (λ (l : List Row). row ∷ l) e, none, last)
  opened_more b row rows (inl (none, is)) = elim (cases_Bool (is_block_end row.words)) as (λ _. Opened b (row ∷ rows)) [
    | inl y ↦ inr ([], row, rows, refl, none, inl y)
    | inr n ↦ elim (cases_Bool (opens_block row.words)) as (λ _. Opened b (row ∷ rows)) [
      | inl y ↦ inr ([], row, rows, refl, none, inr (y, rw (n, y) at is))
      | inr m ↦ inl (both_none row rows (plain n m) none, rw (n, m) at is)
    ]
  ]
    where
      plain : is_block_end row.words ≡ false → opens_block row.words ≡ false → IsBlockLine row → ⊥
      plain n m (inl y) = false≢true (sym n ∙ y)
      plain n m (inr y) = false≢true (sym m ∙ y)

  behind_opened : (b : Bool) (rows : List Row) → behind_all b rows ≡ true → Opened b rows
  behind_opened b [] is = inl (λ row c h. absurd (omega (arith, c.1)), is)
  behind_opened b (row ∷ rows) is = opened_more b row rows (behind_opened (behind b row) rows is)

  behind_open : (rows : List Row) → behind_all true rows ≡ true → LeaveOpen is_here rows
  behind_open rows is = elim (behind_opened true rows is) as (λ _. LeaveOpen is_here rows) [ inl h ↦ inl h.0 | inr h ↦ inr h ]

  pub line_kept : (before : List Row) (row : Row) → IsKept is_here before row → kept is_here true (before ++ row ∷ []) ≡ kept is_here true before ++ rest_of row ∷ []
  line_kept before row h =
      let n = no_block row h.plain in
      kept_last true before row ∙ ap (λ (l : List Row). kept is_here true before ++ l) (rw (n.0, n.1, open_behind before h.block, h.prefix) refl)

  pub line_dropped : (before : List Row) (row : Row) → (IsKept is_here before row → ⊥) → kept is_here true (before ++ row ∷ []) ≡ kept is_here true before
  line_dropped before row none = kept_last true before row ∙ ap (λ (l : List Row). kept is_here true before ++ l) by ∙ append-nil (kept is_here true before)
    where
      by : kept is_here (behind_all true before) (row ∷ []) ≡ []
      by = elim (cases_Bool (is_block_end row.words)) [
        | inl y ↦ rw y refl
        | inr n ↦ elim (cases_Bool (opens_block row.words)) [
          | inl y ↦ rw (n, y) refl
          | inr m ↦ elim (cases_Bool (behind_all true before)) [
            | inr k ↦ rw (n, m, k) refl
            | inl k ↦ elim (cases_Bool (holds is_here row.words)) [
              | inr l ↦ rw (n, m, k, l) refl
              | inl l ↦ absurd (none (record { plain = plain n m; prefix = l; block = behind_open before k }))
            ]
          ]
        ]
      ]
        where
          plain : is_block_end row.words ≡ false → opens_block row.words ≡ false → IsBlockLine row → ⊥
          plain n m (inl y) = false≢true (sym n ∙ y)
          plain n m (inr y) = false≢true (sym m ∙ y)
