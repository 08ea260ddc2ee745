-- What the options that are kept for a task say of the cycles at which it looks.
use Rattle.std.proofs.Common.{◌≡◌, ◌≢◌, ◌⊎◌, ℕ, ◌≤◌, true, false, List, ◌∷◌, Option, Some, None, Ok, refl, sym, ◌∙◌, ap, subst, inl, inr, arith, codes, ◌&&◌}
use Rattle.std.proofs.lemmas.Bool.{false≢true, and_cases}
use Rattle.std.proofs.lemmas.List.Elements.{Contains-append_right}
use Rattle.std.specs.Prelude.{Contains, is_some, unwrap_or}
use Rattle.sby_terms.specs.Span.{IsStride}
use Rattle.sby_terms.specs.declared.names.Mode.{Mode}
use Rattle.sby_terms.specs.declared.names.Mode.TheVariants.{Bmc, Prove, ProveInv, Cover}
use Rattle.sby_terms.specs.declared.span.Span.{Span}
use Rattle.sby_terms.proofs.Numbers.{both_true}
use Rattle.sby_file.specs.Config.{ConfigOf}
use Rattle.sby_task.specs.Proved.{is_proved}
use Rattle.sby_task.specs.Values.{mode_by, mode_of, count_of, number_of}
use Rattle.sby_task.specs.Draft.{blank}
use Rattle.sby_task.specs.Expand.{drafted, Expand}
use Rattle.sby_task.specs.Cycles.{said_span, may_slice, fits, span_of, IsTaskSpan}
use Rattle.sby_task.specs.Said.{AreKept, IsUnset, IsSet, HasOption, SaysSpan, AreRefused}
use Rattle.sby_file.specs.declared.config.Row.{Row}
use Rattle.sby_file.specs.declared.config.StoredFile.{StoredFile}
use Rattle.sby_task.specs.declared.draft.By.{By}
use Rattle.sby_task.specs.declared.draft.By.TheVariants.{Induction, Invariant}
use Rattle.sby_task.specs.declared.draft.Draft.{Draft}
use Rattle.sby_task.specs.declared.draft.OptionName.TheVariants as option
use Rattle.sby_task.specs.declared.expansion.Task.{Task}
use Rattle.sby_task.proofs.RowsSaid.{mode_says, skip_says, depth_says, stride_says, none_some, some_same}
use Rattle.sby_task.proofs.Said.{answer, drafted_from}
use Rattle.sby_task.proofs.Spans.{cond_some, cond_none, value_bounds, none_are, some_is, good_span, bad_span}

pub set_stands : (name : List ℕ) (Is : List (List ℕ) → Type 0) (rows : List Row) → IsSet name Is rows → HasOption name rows
set_stands name Is rows (before, one, after, value, parts, is_one, none, others, r) =
    (one, value, subst (λ l. Contains l one) (sym parts) (Contains-append_right before (one ∷ after) one (0, omega arith, refl)), is_one)

pub stands_set : (name : List ℕ) (rows : List Row) → IsUnset name rows → HasOption name rows → ⊥
stands_set name rows unset (row, value, c, is) = unset row value c is

set_value : (name : List ℕ) (most n : ℕ) (rows : List Row) → IsSet name (λ value. number_of most value ≡ Some n) rows → (1 ≤ n) × (n ≤ most)
set_value name most n rows (before, one, after, value, parts, is_one, none, others, r) = value_bounds most value n r

stride_set : (stride : Option ℕ) (n : ℕ) → stride ≡ Some n → 1 ≤ n → IsStride stride
stride_set stride n e low = subst IsStride (sym e) (omega arith)

stride_unset : (stride : Option ℕ) → stride ≡ None → IsStride stride
stride_unset stride e = subst IsStride (sym e) tt

module _ (files : List StoredFile) (rows : List Row) (d : Draft) (said : drafted files rows (Ok blank) rows ≡ Ok d) where
  abbrev NumberSaid : List ℕ → (List (List ℕ) → Option ℕ) → Option ℕ → Type 0
  NumberSaid name read o = (IsUnset name rows × (o ≡ None)) ⊎ ((v : ℕ) × (o ≡ Some v) × IsSet name (λ value. read value ≡ Some v) rows)

  skip_said : NumberSaid (codes "skip") (λ value. count_of 99999 value) d.skip
  skip_said = answer files rows option.Skip (λ i. cc) refl (λ x. x.skip) (λ value. count_of 99999 value) (skip_says (is_proved rows)) (λ x e. refl) (λ x s. refl) rows blank d said refl

  depth_said : NumberSaid (codes "depth") (λ value. number_of 100000 value) d.depth
  depth_said = answer files rows option.Depth (λ i. cc) refl (λ x. x.depth) (λ value. number_of 100000 value) (depth_says (is_proved rows)) (λ x e. refl) (λ x s. refl) rows blank d said refl

  stride_said : NumberSaid (codes "stride") (λ value. number_of 100000 value) d.stride
  stride_said = answer files rows option.Stride (λ i. cc) refl (λ x. x.stride) (λ value. number_of 100000 value) (stride_says (is_proved rows)) (λ x e. refl) (λ x s. refl) rows blank d said refl

  pub mode_given : (mode : Mode) → d.mode ≡ Some mode → IsSet (codes "mode") (λ value. mode_of value ≡ Some mode) rows
  mode_given mode m = elim (answer files rows option.Mode (λ i. cc) refl (λ x. x.mode) mode_of (mode_says (is_proved rows)) (λ x e. refl) (λ x s. refl) rows blank d said refl) as (λ _. IsSet (codes "mode") (λ value. mode_of value ≡ Some mode) rows) [
    | inl none ↦ absurd (none_some mode (sym none.1 ∙ m))
    | inr some ↦ subst (λ (x : Mode). IsSet (codes "mode") (λ value. mode_of value ≡ Some x) rows) (some_same some.0 mode (sym some.1 ∙ m)) some.2
  ]

  pub mode_unset : d.mode ≡ None → IsUnset (codes "mode") rows
  mode_unset m = elim (answer files rows option.Mode (λ i. cc) refl (λ x. x.mode) mode_of (mode_says (is_proved rows)) (λ x e. refl) (λ x s. refl) rows blank d said refl) as (λ _. IsUnset (codes "mode") rows) [
    | inl none ↦ none.0
    | inr some ↦ absurd (none_some some.0 (sym m ∙ some.1))
  ]

  -- what is set, or the default
  abbrev Number : List ℕ → (List (List ℕ) → Option ℕ) → ℕ → ℕ → Type 0
  Number name read default n = IsSet name (λ value. read value ≡ Some n) rows ⊎ (IsUnset name rows × (n ≡ default))

  number_said : (name : List ℕ) (read : List (List ℕ) → Option ℕ) (default : ℕ) (o : Option ℕ) → NumberSaid name read o → Number name read default (unwrap_or o default)
  number_said name read default o (inl none) = inr (none.0, ap (λ (x : Option ℕ). unwrap_or x default) none.1)
  number_said name read default o (inr some) =
      inl (subst (λ (n : ℕ). IsSet name (λ value. read value ≡ Some n) rows) (sym (ap (λ (x : Option ℕ). unwrap_or x default) some.1)) some.2)

  pub says_span : SaysSpan rows (said_span d.skip d.depth d.stride)
  says_span = record {
    skip = number_said (codes "skip") (λ value. count_of 99999 value) 0 d.skip skip_said;
    depth = number_said (codes "depth") (λ value. number_of 100000 value) 20 d.depth depth_said;
    stride = elim stride_said as (λ _. ((n : ℕ) × (d.stride ≡ Some n) × IsSet (codes "stride") (λ value. number_of 100000 value ≡ Some n) rows) ⊎ (IsUnset (codes "stride") rows × (d.stride ≡ None))) [
      | inl none ↦ inr none
      | inr some ↦ inl some
    ];
  }

  stride_is : IsStride d.stride
  stride_is = elim stride_said as (λ _. IsStride d.stride) [
    | inl none ↦ stride_unset d.stride none.1
    | inr some ↦ stride_set d.stride some.0 some.1 (set_value (codes "stride") 100000 some.0 rows some.2).0
  ]

  depth_high : unwrap_or d.depth 20 ≤ 100000
  depth_high = elim depth_said as (λ _. unwrap_or d.depth 20 ≤ 100000) [
    | inl none ↦ let is = ap (λ (x : Option ℕ). unwrap_or x 20) none.1 in omega (arith, is)
    | inr some ↦
        let is = ap (λ (x : Option ℕ). unwrap_or x 20) some.1 in
        let high = (set_value (codes "depth") 100000 some.0 rows some.2).1 in
        omega (arith, is, high)
  ]

  one_slice : (mode : Mode) → may_slice mode d.skip d.stride ≡ true → (mode ≡ Bmc → ⊥) → (d.skip ≡ None) × (d.stride ≡ None)
  one_slice Bmc h n = absurd (n refl)
  one_slice Prove h n = none_are d.skip d.stride h
  one_slice ProveInv h n = none_are d.skip d.stride h
  one_slice Cover h n = none_are d.skip d.stride h

  pub task_span : (mode : Mode) (span : Span) → span_of mode d.skip d.depth d.stride ≡ Some span → IsTaskSpan mode span
  task_span mode span h =
      let p = cond_some (may_slice mode d.skip d.stride && fits (said_span d.skip d.depth d.stride)) (said_span d.skip d.depth d.stride) span h in
      let q = both_true (may_slice mode d.skip d.stride) (fits (said_span d.skip d.depth d.stride)) p.0 in
      subst (IsTaskSpan mode) p.1 (record {
        is = good_span (said_span d.skip d.depth d.stride) stride_is q.1;
        high = depth_high;
        one = λ n. let none = one_slice mode q.0 n in rw (none.0, none.1) refl;
      })

  option_stands : (name : List ℕ) (read : List (List ℕ) → Option ℕ) (o : Option ℕ) → NumberSaid name read o → is_some o ≡ true → HasOption name rows
  option_stands name read o (inl none) h = absurd (false≢true (sym (ap (λ (x : Option ℕ). is_some x) none.1) ∙ h))
  option_stands name read o (inr some) h = set_stands name (λ value. read value ≡ Some some.0) rows some.2

  option_absent : (name : List ℕ) (read : List (List ℕ) → Option ℕ) (o : Option ℕ) → NumberSaid name read o → o ≡ None → HasOption name rows → ⊥
  option_absent name read o (inl none) e h = stands_set name rows none.0 h
  option_absent name read o (inr some) e h = none_some some.0 (sym e ∙ some.1)

  sliced : (mode : Mode) → may_slice mode d.skip d.stride ≡ false → (mode ≢ Bmc) × (HasOption (codes "skip") rows ⊎ HasOption (codes "stride") rows)
  sliced mode h = (not_bmc mode h, by (some_of mode h))
    where
      not_bmc : (mode : Mode) → may_slice mode d.skip d.stride ≡ false → mode ≢ Bmc
      not_bmc Bmc h = absurd (false≢true (sym h))
      not_bmc Prove h = λ e. cc
      not_bmc ProveInv h = λ e. cc
      not_bmc Cover h = λ e. cc

      some_of : (mode : Mode) → may_slice mode d.skip d.stride ≡ false → (is_some d.skip ≡ true) ⊎ (is_some d.stride ≡ true)
      some_of Bmc h = absurd (false≢true (sym h))
      some_of Prove h = some_is d.skip d.stride h
      some_of ProveInv h = some_is d.skip d.stride h
      some_of Cover h = some_is d.skip d.stride h

      by : (is_some d.skip ≡ true) ⊎ (is_some d.stride ≡ true) → HasOption (codes "skip") rows ⊎ HasOption (codes "stride") rows
      by (inl s) = inl (option_stands (codes "skip") (λ value. count_of 99999 value) d.skip skip_said s)
      by (inr s) = inr (option_stands (codes "stride") (λ value. number_of 100000 value) d.stride stride_said s)

  pub span_refused : (mode : Mode) → span_of mode d.skip d.depth d.stride ≡ None → AreRefused rows mode (said_span d.skip d.depth d.stride)
  span_refused mode h =
      let n = cond_none (may_slice mode d.skip d.stride && fits (said_span d.skip d.depth d.stride)) (said_span d.skip d.depth d.stride) h in
      elim (and_cases (may_slice mode d.skip d.stride) (fits (said_span d.skip d.depth d.stride)) n) as (λ _. AreRefused rows mode (said_span d.skip d.depth d.stride)) [
        | inl m ↦ inl (sliced mode m)
        | inr f ↦ inr (bad_span (said_span d.skip d.depth d.stride) stride_is f)
      ]

  pub span_served : (mode : Mode) (span : Span) → span_of mode d.skip d.depth d.stride ≡ Some span → AreRefused rows mode span → ⊥
  span_served mode span h (inl (other, o)) =
      let p = cond_some (may_slice mode d.skip d.stride && fits (said_span d.skip d.depth d.stride)) (said_span d.skip d.depth d.stride) span h in
      let q = both_true (may_slice mode d.skip d.stride) (fits (said_span d.skip d.depth d.stride)) p.0 in
      let none = one_slice mode q.0 other in
      by none.0 none.1 o
    where
      by : d.skip ≡ None → d.stride ≡ None → HasOption (codes "skip") rows ⊎ HasOption (codes "stride") rows → ⊥
      by s t (inl o) = option_absent (codes "skip") (λ value. count_of 99999 value) d.skip skip_said s o
      by s t (inr o) = option_absent (codes "stride") (λ value. number_of 100000 value) d.stride stride_said t o
  span_served mode span h (inr (inl none)) = let some = (task_span mode span h).is.some in omega (arith, some, none)
  span_served mode span h (inr (inr many)) = let few = (task_span mode span h).is.few in omega (arith, few, many)

-- by what it is shown makes no difference to the cycles
span_by : (mode : Mode) (by : Option By) (skip depth stride : Option ℕ) → span_of (mode_by mode by) skip depth stride ≡ span_of mode skip depth stride
span_by Bmc by skip depth stride = refl
span_by ProveInv by skip depth stride = refl
span_by Cover by skip depth stride = refl
span_by Prove None skip depth stride = refl
span_by Prove (Some Induction) skip depth stride = refl
span_by Prove (Some Invariant) skip depth stride = refl

module _ (c : ConfigOf) (asked : Option (List ℕ)) (t : Task) (rows : List Row) (h : Expand c asked t) (k : AreKept c asked rows) where
  abbrev d : Draft
  d = (drafted_from c asked t rows h k).0

  spanned : span_of t.mode d.skip d.depth d.stride ≡ Some t.span
  spanned =
      let f = (drafted_from c asked t rows h k).2 in
      ap (λ (mode : Mode). span_of mode d.skip d.depth d.stride) f.by ∙ span_by f.said d.by d.skip d.depth d.stride ∙ f.span

  pub span_said : SaysSpan rows t.span
  span_said =
      let f = drafted_from c asked t rows h k in
      let p = cond_some (may_slice t.mode d.skip d.stride && fits (said_span d.skip d.depth d.stride)) (said_span d.skip d.depth d.stride) t.span spanned in
      subst (SaysSpan rows) p.1 (says_span c.files rows f.0 f.1)

  pub span_fits : IsTaskSpan t.mode t.span
  span_fits = let f = drafted_from c asked t rows h k in task_span c.files rows f.0 f.1 t.mode t.span spanned

  pub not_refused : AreRefused rows t.mode t.span → ⊥
  not_refused = let f = drafted_from c asked t rows h k in span_served c.files rows f.0 f.1 t.mode t.span spanned
