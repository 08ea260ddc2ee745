-- What the lines that are kept for a task say of it.
use Rattle.std.proofs.Common.{◌≡◌, ◌⊎◌, ℕ, Bool, true, false, List, [], ◌∷◌, ◌++◌, Option, Some, None, Result, Ok, Err, eqb, length, map, refl, sym, ◌∙◌, ap, subst, inl, inr, arith, codes}
use Rattle.std.proofs.lemmas.Bool.{cases_Bool}
use Rattle.std.proofs.lemmas.List.{append-nil, append_assoc, map-append}
use Rattle.std.specs.Prelude.{unwrap_or}
use Rattle.sby_terms.specs.declared.engine.Engine.{Engine}
use Rattle.sby_terms.specs.declared.names.Mode as modes
use Rattle.sby_terms.specs.declared.span.Span.{Span}
use Rattle.sby_terms.specs.declared.names.Status.{Status}
use Rattle.sby_terms.specs.declared.names.Status.TheVariants.{Pass}
use Rattle.sby_file.specs.Names.{has}
use Rattle.sby_file.specs.Config.{ConfigOf}
use Rattle.sby_task.specs.Scope.{kept}
use Rattle.sby_task.specs.Values.{by_of, mode_by, mode_of, number_of, statuses_of, switch_of}
use Rattle.sby_task.specs.Engines.{engine_of}
use Rattle.sby_task.specs.Draft.{blank, option_name, option_after}
use Rattle.sby_task.specs.Files.{bytes_in}
use Rattle.sby_task.specs.Proved.{is_proved}
use Rattle.sby_task.specs.Task.{row_after, is_found}
use Rattle.sby_task.specs.Expand.{design_path, at_number, drafted, expected, with_span, with_design, with_mode, finish, task_of, expanded, asked_text, Expand}
use Rattle.sby_task.specs.Cycles.{span_of}
use Rattle.sby_task.specs.Faulty.{spelled}
use Rattle.sby_task.specs.Said.{AreKept, IsOption, IsUnset, IsSet, HasDesign, SaysMode, is_engines, engine_lines, is_script, script_lines}
use Rattle.sby_file.specs.declared.config.Row.{Row}
use Rattle.sby_file.specs.declared.config.StoredFile.{StoredFile}
use Rattle.sby_task.specs.declared.draft.By.{By}
use Rattle.sby_task.specs.declared.draft.Draft.{Draft}
use Rattle.sby_task.specs.declared.draft.OptionName.{OptionName}
use Rattle.sby_task.specs.declared.draft.OptionName.TheVariants as option
use Rattle.sby_task.specs.declared.expansion.Task.{Task}
use Rattle.sby_file.specs.declared.section.Section.{Section}
use Rattle.sby_file.specs.declared.section.Section.TheVariants.{Nowhere, Tasks, Options, Engines, Script, Files, File, Unknown}
use Rattle.sby_task.specs.declared.task_fault.TaskFault.{TaskFault}
use Rattle.sby_task.specs.declared.task_fault.TaskKind.{TaskKind}
use Rattle.sby_task.proofs.Designs.{first_or_later, design_is}
use Rattle.sby_task.proofs.RowsSaid.{RowSays, option_line, engine_line, script_line, other_line, row_says, OptionSays, is_spelled, ok_same, err_ok, none_some, some_same, by_says, mode_says, timeout_says, expect_says, wait_says, beside_options}

pub drafted_err : (files : List StoredFile) (all rows : List Row) (f : TaskFault) → drafted files all (Err f) rows ≡ Err f
drafted_err files all [] f = refl
drafted_err files all (row ∷ rows) f = drafted_err files all rows f

module _ (files : List StoredFile) (all : List Row) where
  -- the first line is read, and then the others
  pub first_read : (d : Draft) (row : Row) (rows : List Row) (e : Draft) → drafted files all (Ok d) (row ∷ rows) ≡ Ok e → (m : Draft) × RowSays files all d row m × (drafted files all (Ok m) rows ≡ Ok e)
  first_read d row rows e h = by (row_after files all d row) refl h
    where
      by : (r : Result Draft TaskKind) → row_after files all d row ≡ r → drafted files all (at_number row.number r) rows ≡ Ok e → (m : Draft) × RowSays files all d row m × (drafted files all (Ok m) rows ≡ Ok e)
      by (Err k) is g = absurd (err_ok e _ (sym (drafted_err files all rows (record { line = row.number; kind = k })) ∙ g))
      by (Ok m) is g = (m, row_says files all d row m is, g)

  module _ {A : Type 0} (this : OptionName) (known : this ≡ option.Unknown → ⊥) (own : option_name (spelled this) ≡ this) (f : Draft → Option A) (read : List (List ℕ) → Option A)
      (says : (o : OptionName) (d : Draft) (value : List (List ℕ)) (e : Draft) → option_after (is_proved all) d o value ≡ Ok e → OptionSays this f read o d value e)
      (engines_kept : (d : Draft) (engines : List Engine) → f (record d { engines = engines }) ≡ f d) (script_kept : (d : Draft) (script : Option (List ℕ)) → f (record d { script = script }) ≡ f d) where
    abbrev Sets : Draft → Row → Draft → Type 0
    Sets d row e = (value : List (List ℕ)) × IsOption (spelled this) value row × (f d ≡ None) × (v : A) × (read value ≡ Some v) × (f e ≡ Some v)

    abbrev Keeps : Draft → Row → Draft → Type 0
    Keeps d row e = ((value : List (List ℕ)) → IsOption (spelled this) value row → ⊥) × (f e ≡ f d)

    elsewhere : (row : Row) (section : Section) → row.section ≡ section → (section ≡ Options → ⊥) → (value : List (List ℕ)) → IsOption (spelled this) value row → ⊥
    elsewhere row section s other value is = other (sym s ∙ is.0)

    one_word : (a b : List ℕ) (x y : List (List ℕ)) → a ∷ x ≡ b ∷ y → a ≡ b
    one_word a b x y e = cc

    row_sets : (d : Draft) (row : Row) (e : Draft) → RowSays files all d row e → Sets d row e ⊎ Keeps d row e
    row_sets d row e (option_line word value s w h) = elim (says (option_name word) d value e h) as (λ _. Sets d row e ⊎ Keeps d row e) [
      | inl p ↦ inl (value, (s, w ∙ ap (λ (n : List ℕ). n ∷ value) (is_spelled word this known p.0)), p.1, p.2.0, p.2.1, p.2.2)
      | inr p ↦ inr ((λ other is. p.0 (ap option_name (one_word word (spelled this) value other (sym w ∙ is.1)) ∙ own)), p.1)
    ]
    row_sets d row e (engine_line x s w h) = inr (elsewhere row Engines s (λ i. cc), ap f h ∙ engines_kept d (d.engines ++ x ∷ []))
    row_sets d row e (script_line name s w n there h) = inr (elsewhere row Script s (λ i. cc), ap f h ∙ script_kept d (Some name))
    row_sets d row e (other_line a b c h) = inr ((λ value is. a is.0), ap f h)

    unset_none : IsUnset (spelled this) []
    unset_none row value c is = absurd (omega (arith, c.1))

    unset_more : (row : Row) (rows : List Row) → ((value : List (List ℕ)) → IsOption (spelled this) value row → ⊥) → IsUnset (spelled this) rows → IsUnset (spelled this) (row ∷ rows)
    unset_more row rows first later other value c is = elim (first_or_later row rows other c) as (λ _. ⊥) [
      | inl same ↦ first value (subst (IsOption (spelled this) value) same is)
      | inr there ↦ later other value there is
    ]

    -- what is set stays, and no later line sets it
    stays : (rows : List Row) (d e : Draft) (v : A) → drafted files all (Ok d) rows ≡ Ok e → f d ≡ Some v → (f e ≡ Some v) × IsUnset (spelled this) rows
    stays [] d e v h is = (ap f (sym (ok_same {B = TaskFault} d e h)) ∙ is, unset_none)
    stays (row ∷ rows) d e v h is =
        let m = first_read d row rows e h in
        elim (row_sets d row m.0 m.1) as (λ _. (f e ≡ Some v) × IsUnset (spelled this) (row ∷ rows)) [
          | inl p ↦ absurd (none_some v (sym p.2 ∙ is))
          | inr p ↦ let r = stays rows m.0 e v m.2 (p.1 ∙ is) in (r.0, unset_more row rows p.0 r.1)
        ]

    abbrev pub Answer : List Row → Draft → Type 0
    Answer rows e = (IsUnset (spelled this) rows × (f e ≡ None)) ⊎ ((v : A) × (f e ≡ Some v) × IsSet (spelled this) (λ value. read value ≡ Some v) rows)

    pub answer : (rows : List Row) (d e : Draft) → drafted files all (Ok d) rows ≡ Ok e → f d ≡ None → Answer rows e
    answer [] d e h is = inl (unset_none, ap f (sym (ok_same {B = TaskFault} d e h)) ∙ is)
    answer (row ∷ rows) d e h is =
        let m = first_read d row rows e h in
        elim (row_sets d row m.0 m.1) as (λ _. Answer (row ∷ rows) e) [
          | inl p ↦
              let r = stays rows m.0 e p.3 m.2 p.5 in
              inr (p.3, r.0, ([], row, rows, p.0, refl, p.1, unset_none, r.1, p.4))
          | inr p ↦ elim (answer rows m.0 e m.2 (p.1 ∙ is)) as (λ _. Answer (row ∷ rows) e) [
            | inl q ↦ inl (unset_more row rows p.0 q.0, q.1)
            | inr q ↦ later row rows q.0 q.1 p.0 q.2
          ]
        ]
      where
        later : (row : Row) (rows : List Row) (v : A) → f e ≡ Some v → ((value : List (List ℕ)) → IsOption (spelled this) value row → ⊥) → IsSet (spelled this) (λ value. read value ≡ Some v) rows → Answer (row ∷ rows) e
        later row rows v at first (before, one, after, value, parts, is_one, none, others, r) =
            inr (v, at, (row ∷ before, one, after, value, ap (λ (l : List Row). row ∷ l) parts, is_one, unset_more row before first none, others, r))

  -- engine lines add engines
  not_engines : (section : Section) → (section ≡ Engines → ⊥) → is_engines section ≡ false
  not_engines Engines n = absurd (n refl)
  not_engines Nowhere n = refl
  not_engines Tasks n = refl
  not_engines Options n = refl
  not_engines Script n = refl
  not_engines Files n = refl
  not_engines File n = refl
  not_engines Unknown n = refl

  abbrev read_all : List Row → List (Result Engine TaskKind)
  read_all rows = map engine_of (engine_lines rows)

  abbrev kept_all : Draft → List (Result Engine TaskKind)
  kept_all d = map Ok d.engines

  skipped : (row : Row) (rows : List Row) → (row.section ≡ Engines → ⊥) → read_all (row ∷ rows) ≡ read_all rows
  skipped row rows n = rw (not_engines row.section n) refl

  taken : (row : Row) (rows : List Row) → row.section ≡ Engines → read_all (row ∷ rows) ≡ engine_of row.words ∷ read_all rows
  taken row rows s = rw s refl

  pub engines_read : (rows : List Row) (d e : Draft) → drafted files all (Ok d) rows ≡ Ok e → kept_all e ≡ kept_all d ++ read_all rows
  engines_read [] d e h = ap kept_all (sym (ok_same {B = TaskFault} d e h)) ∙ sym (append-nil (kept_all d))
  engines_read (row ∷ rows) d e h = let m = first_read d row rows e h in engines_read rows m.0 e m.2 ∙ by m.0 m.1
    where
      passed : (m : Draft) → (row.section ≡ Engines → ⊥) → m.engines ≡ d.engines → kept_all m ++ read_all rows ≡ kept_all d ++ read_all (row ∷ rows)
      passed m n same = rw (skipped row rows n, same) refl

      by : (m : Draft) → RowSays files all d row m → kept_all m ++ read_all rows ≡ kept_all d ++ read_all (row ∷ rows)
      by m (option_line word value s w k) = passed m (λ i. options_are (sym s ∙ i)) (kept_by (option_name word) value k)
        where
          options_are : Options ≡ Engines → ⊥
          options_are i = cc

          kept_by : (o : OptionName) (value : List (List ℕ)) → option_after (is_proved all) d o value ≡ Ok m → m.engines ≡ d.engines
          kept_by o value k = (beside_options (is_proved all) d o value m k).0
      by m (engine_line x s w k) =
          ap (λ (l : List Engine). map Ok l ++ read_all rows) (ap (λ (y : Draft). y.engines) k)
          ∙ ap (λ l. l ++ read_all rows) (map-append Ok d.engines (x ∷ [])) ∙ append_assoc (kept_all d) (Ok x ∷ []) (read_all rows)
          ∙ ap (λ r. kept_all d ++ r) (sym (taken row rows s ∙ ap (λ r. r ∷ read_all rows) w))
      by m (script_line name s w n there k) = passed m (λ i. script_is (sym s ∙ i)) (ap (λ (y : Draft). y.engines) k)
        where
          script_is : Script ≡ Engines → ⊥
          script_is i = cc
      by m (other_line a b c k) = passed m b (ap (λ (y : Draft). y.engines) k)

  -- the script has one line
  not_script : (section : Section) → (section ≡ Script → ⊥) → is_script section ≡ false
  not_script Script n = absurd (n refl)
  not_script Nowhere n = refl
  not_script Tasks n = refl
  not_script Options n = refl
  not_script Engines n = refl
  not_script Files n = refl
  not_script File n = refl
  not_script Unknown n = refl

  abbrev Names : Draft → Row → Draft → Type 0
  Names d row e = (name : List ℕ) × (row.section ≡ Script) × (row.words ≡ codes "read_rtlil" ∷ name ∷ []) × (d.script ≡ None) × (is_found files all name ≡ true) × (e.script ≡ Some name)

  row_names : (d : Draft) (row : Row) (e : Draft) → RowSays files all d row e → Names d row e ⊎ ((row.section ≡ Script → ⊥) × (e.script ≡ d.script))
  row_names d row e (option_line word value s w h) = inr (no, (beside_options (is_proved all) d (option_name word) value e h).1)
    where
      no : row.section ≡ Script → ⊥
      no i = options_are (sym s ∙ i)
        where
          options_are : Options ≡ Script → ⊥
          options_are x = cc
  row_names d row e (engine_line x s w h) = inr (no, ap (λ (y : Draft). y.script) h)
    where
      no : row.section ≡ Script → ⊥
      no i = engines_are (sym s ∙ i)
        where
          engines_are : Engines ≡ Script → ⊥
          engines_are x = cc
  row_names d row e (script_line name s w n there h) = inl (name, s, w, n, there, ap (λ (y : Draft). y.script) h)
  row_names d row e (other_line a b c h) = inr (c, ap (λ (y : Draft). y.script) h)

  skipped_script : (row : Row) (rows : List Row) → (row.section ≡ Script → ⊥) → script_lines (row ∷ rows) ≡ script_lines rows
  skipped_script row rows n = rw (not_script row.section n) refl

  taken_script : (row : Row) (rows : List Row) → row.section ≡ Script → script_lines (row ∷ rows) ≡ row.words ∷ script_lines rows
  taken_script row rows s = rw s refl

  script_stays : (rows : List Row) (d e : Draft) (name : List ℕ) → drafted files all (Ok d) rows ≡ Ok e → d.script ≡ Some name → (e.script ≡ Some name) × (script_lines rows ≡ [])
  script_stays [] d e name h is = (ap (λ (y : Draft). y.script) (sym (ok_same {B = TaskFault} d e h)) ∙ is, refl)
  script_stays (row ∷ rows) d e name h is =
      let m = first_read d row rows e h in
      elim (row_names d row m.0 m.1) as (λ _. (e.script ≡ Some name) × (script_lines (row ∷ rows) ≡ [])) [
        | inl p ↦ absurd (none_some name (sym p.3 ∙ is))
        | inr p ↦ let r = script_stays rows m.0 e name m.2 (p.1 ∙ is) in (r.0, skipped_script row rows p.0 ∙ r.1)
      ]

  pub script_read : (rows : List Row) (d e : Draft) (name : List ℕ) → drafted files all (Ok d) rows ≡ Ok e → d.script ≡ None → e.script ≡ Some name
      → (script_lines rows ≡ (codes "read_rtlil" ∷ name ∷ []) ∷ []) × (is_found files all name ≡ true)
  script_read [] d e name h none is = absurd (none_some name (sym none ∙ ap (λ (y : Draft). y.script) (ok_same {B = TaskFault} d e h) ∙ is))
  script_read (row ∷ rows) d e name h none is =
      let m = first_read d row rows e h in
      elim (row_names d row m.0 m.1) as (λ _. (script_lines (row ∷ rows) ≡ (codes "read_rtlil" ∷ name ∷ []) ∷ []) × (is_found files all name ≡ true)) [
        | inl p ↦
            let r = script_stays rows m.0 e p.0 m.2 p.5 in
            let same : p.0 ≡ name = some_same p.0 name (sym r.0 ∙ is) in (
              taken_script row rows p.1 ∙ ap (λ (l : List (List (List ℕ))). row.words ∷ l) r.1
                  ∙ ap (λ (w : List (List ℕ)). w ∷ []) (p.2 ∙ ap (λ (n : List ℕ). codes "read_rtlil" ∷ n ∷ []) same),
              subst (λ (n : List ℕ). is_found files all n ≡ true) same p.4,
            )
        | inr p ↦
            let r = script_read rows m.0 e name m.2 (p.1 ∙ none) is in
            (skipped_script row rows p.0 ∙ r.0, r.1)
      ]

  pub script_unread : (rows : List Row) (d e : Draft) → drafted files all (Ok d) rows ≡ Ok e → e.script ≡ None → script_lines rows ≡ []
  script_unread [] d e h none = refl
  script_unread (row ∷ rows) d e h none =
      let m = first_read d row rows e h in
      elim (row_names d row m.0 m.1) as (λ _. script_lines (row ∷ rows) ≡ []) [
        | inl p ↦ absurd (none_some p.0 (sym none ∙ (script_stays rows m.0 e p.0 m.2 p.5).0))
        | inr p ↦ skipped_script row rows p.0 ∙ script_unread rows m.0 e m.2 none
      ]

pub record Finishes (files : List StoredFile) (rows : List Row) (name : List ℕ) (d : Draft) (t : Task) : Type 0 where
  pub said : modes.Mode
  pub mode : d.mode ≡ Some said
  pub by : t.mode ≡ mode_by said d.by
  pub span : span_of said d.skip d.depth d.stride ≡ Some t.span
  pub timeout : t.timeout ≡ d.timeout
  pub expect : t.expect ≡ expected d.expect
  pub wait : t.wait ≡ unwrap_or d.wait false
  pub engines : t.engines ≡ d.engines
  pub named : t.name ≡ name
  pub script : (design : List ℕ) × (d.script ≡ Some design) × (t.design_bytes ≡ bytes_in files design) × (t.design_path ≡ design_path (bytes_in files design) rows design)

module _ (files : List StoredFile) (rows : List Row) (name : List ℕ) (d : Draft) (t : Task) where
  by_span : (mode : modes.Mode) (design : List ℕ) → d.mode ≡ Some mode → d.script ≡ Some design → (o : Option Span) → span_of mode d.skip d.depth d.stride ≡ o
      → with_span files rows name d mode design o ≡ Ok t → Finishes files rows name d t
  by_span mode design m k None e h = absurd (err_ok t _ h)
  by_span mode design m k (Some span) e h =
      let is = ok_same _ t h in
      record {
        said = mode;
        mode = m;
        by = ap (λ (x : Task). x.mode) (sym is);
        span = e ∙ ap (λ (x : Task). Some x.span) is;
        timeout = ap (λ (x : Task). x.timeout) (sym is);
        expect = ap (λ (x : Task). x.expect) (sym is);
        wait = ap (λ (x : Task). x.wait) (sym is);
        engines = ap (λ (x : Task). x.engines) (sym is);
        named = ap (λ (x : Task). x.name) (sym is);
        script = (design, k, ap (λ (x : Task). x.design_bytes) (sym is), ap (λ (x : Task). x.design_path) (sym is));
      }

  by_script : (mode : modes.Mode) (script : Option (List ℕ)) → d.mode ≡ Some mode → d.script ≡ script → with_design files rows name d mode script ≡ Ok t → Finishes files rows name d t
  by_script mode None m k h = absurd (err_ok t _ h)
  by_script mode (Some design) m k h = by_span mode design m k (span_of mode d.skip d.depth d.stride) refl h

  by_mode : (mode : Option modes.Mode) → d.mode ≡ mode → with_mode files rows name d mode ≡ Ok t → Finishes files rows name d t
  by_mode None m h = absurd (err_ok t _ h)
  by_mode (Some mode) m h = elim (cases_Bool (eqb (length d.engines) 0)) as (λ _. Finishes files rows name d t) [
    | inl y ↦ absurd (err_ok t _ (rw y at h))
    | inr n ↦ by_script mode d.script m refl (rw n at h)
  ]

finished_from : (files : List StoredFile) (rows : List Row) (name : List ℕ) (r : Result Draft TaskFault) (t : Task) → finish files rows name r ≡ Ok t → (d : Draft) × (r ≡ Ok d) × Finishes files rows name d t
finished_from files rows name (Err f) t h = absurd (err_ok t _ h)
finished_from files rows name (Ok d) t h = (d, refl, by_mode files rows name d t d.mode refl h)

-- the draft of a task
pub drafted_from : (c : ConfigOf) (asked : Option (List ℕ)) (t : Task) (rows : List Row) → Expand c asked t → AreKept c asked rows → (d : Draft) × (drafted c.files rows (Ok blank) rows ≡ Ok d) × Finishes c.files rows (asked_text asked) d t
drafted_from c asked t rows h (names, is, e) =
    let task : task_of c.files (kept (has names) true c.rows) (asked_text asked) ≡ Ok t = ap (expanded c (asked_text asked)) (sym is) ∙ h in
    let here : task_of c.files rows (asked_text asked) ≡ Ok t = ap (λ (l : List Row). task_of c.files l (asked_text asked)) e ∙ task in
    finished_from c.files rows (asked_text asked) (drafted c.files rows (Ok blank) rows) t here

module _ (c : ConfigOf) (asked : Option (List ℕ)) (t : Task) (rows : List Row) (h : Expand c asked t) (k : AreKept c asked rows) where
  abbrev d : Draft
  d = (drafted_from c asked t rows h k).0

  said : drafted c.files rows (Ok blank) rows ≡ Ok d
  said = (drafted_from c asked t rows h k).1

  ends : Finishes c.files rows (asked_text asked) d t
  ends = (drafted_from c asked t rows h k).2

  is_said : IsSet (codes "mode") (λ value. mode_of value ≡ Some ends.said) rows
  is_said = elim (answer c.files rows option.Mode (λ i. cc) refl (λ x. x.mode) mode_of (mode_says (is_proved rows)) (λ x e. refl) (λ x s. refl) rows blank d said refl) as (λ _. IsSet (codes "mode") (λ value. mode_of value ≡ Some ends.said) rows) [
    | inl none ↦ absurd (none_some ends.said (sym none.1 ∙ ends.mode))
    | inr some ↦ subst (λ (m : modes.Mode). IsSet (codes "mode") (λ value. mode_of value ≡ Some m) rows) (some_same some.0 ends.said (sym some.1 ∙ ends.mode)) some.2
  ]

  abbrev Bys : Type 0
  Bys = ((b : By) × (d.by ≡ Some b) × IsSet (codes "by") (λ value. by_of value ≡ Some b) rows) ⊎ (IsUnset (codes "by") rows × (d.by ≡ None))

  is_by : Bys
  is_by = elim (answer c.files rows option.By (λ i. cc) refl (λ x. x.by) by_of (by_says (is_proved rows)) (λ x e. refl) (λ x s. refl) rows blank d said refl) as (λ _. Bys) [
    | inl none ↦ inr none
    | inr some ↦ inl some
  ]

  pub mode_said : SaysMode rows t.mode
  mode_said = record { said = ends.said; by = d.by; is_said = is_said; is_by = is_by; is = ends.by }

  abbrev Timeout : Type 0
  Timeout =
      ((n : ℕ) × (t.timeout ≡ Some n) × IsSet (codes "timeout") (λ value. number_of 1000000 value ≡ Some n) rows) ⊎ (IsUnset (codes "timeout") rows × (t.timeout ≡ None))

  pub timeout_said : Timeout
  timeout_said = elim (answer c.files rows option.Timeout (λ i. cc) refl (λ x. x.timeout) (λ value. number_of 1000000 value) (timeout_says (is_proved rows)) (λ x e. refl) (λ x s. refl) rows blank d said refl) as (λ _. Timeout) [
    | inl none ↦ inr (none.0, ends.timeout ∙ none.1)
    | inr some ↦ inl (some.0, ends.timeout ∙ some.1, some.2)
  ]

  abbrev Expected : Type 0
  Expected = IsSet (codes "expect") (λ value. statuses_of value ≡ Some t.expect) rows ⊎ (IsUnset (codes "expect") rows × (t.expect ≡ Pass ∷ []))

  pub expect_said : Expected
  expect_said = elim (answer c.files rows option.Expect (λ i. cc) refl (λ x. x.expect) statuses_of (expect_says (is_proved rows)) (λ x e. refl) (λ x s. refl) rows blank d said refl) as (λ _. Expected) [
    | inl none ↦ inr (none.0, ends.expect ∙ ap expected none.1)
    | inr some ↦ inl (subst (λ (s : List Status). IsSet (codes "expect") (λ value. statuses_of value ≡ Some s) rows) (sym (ends.expect ∙ ap expected some.1)) some.2)
  ]

  abbrev Waits : Type 0
  Waits = IsSet (codes "wait") (λ value. switch_of value ≡ Some t.wait) rows ⊎ (IsUnset (codes "wait") rows × (t.wait ≡ false))

  pub wait_said : Waits
  wait_said = elim (answer c.files rows option.Wait (λ i. cc) refl (λ x. x.wait) switch_of (wait_says (is_proved rows)) (λ x e. refl) (λ x s. refl) rows blank d said refl) as (λ _. Waits) [
    | inl none ↦ inr (none.0, ends.wait ∙ ap (λ (o : Option Bool). unwrap_or o false) none.1)
    | inr some ↦ inl (subst (λ (b : Bool). IsSet (codes "wait") (λ value. switch_of value ≡ Some b) rows) (sym (ends.wait ∙ ap (λ (o : Option Bool). unwrap_or o false) some.1)) some.2)
  ]

  pub engines_said : map engine_of (engine_lines rows) ≡ map Ok t.engines
  engines_said = sym (ap (λ (l : List Engine). map Ok l) ends.engines ∙ engines_read c.files rows rows blank d said)

  pub design_said : (name : List ℕ) × (script_lines rows ≡ (codes "read_rtlil" ∷ name ∷ []) ∷ []) × HasDesign c.files rows name t
  design_said =
      let s = ends.script in
      let r = script_read c.files rows rows blank d s.0 said refl s.1 in
      (s.0, r.0, design_is c.files rows s.0 t (bytes_in c.files s.0) refl s.2 s.3 r.1)

  pub name_said : t.name ≡ unwrap_or asked []
  name_said = ends.named ∙ by asked
    where
      by : (o : Option (List ℕ)) → asked_text o ≡ unwrap_or o []
      by None = refl
      by (Some name) = refl
