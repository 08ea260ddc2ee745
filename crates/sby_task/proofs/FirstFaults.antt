-- The fault that is answered is the first.
use Rattle.std.proofs.Common.{◌≡◌, ℕ, ◌≤◌, false, List, [], ◌∷◌, ◌++◌, length, Option, Some, None, Result, Ok, Err, refl, sym, ◌∙◌, ap, subst, inl, inr, arith, eqb}
use Rattle.std.proofs.lemmas.Bool.{cases_Bool, eqb-true, false≢true}
use Rattle.std.proofs.lemmas.List.{append_assoc}
use Rattle.std.proofs.lemmas.List.Elements.{Contains-append_right}
use Rattle.std.specs.Prelude.{Contains}
use Rattle.sby_terms.specs.declared.names.Mode.{Mode}
use Rattle.sby_terms.specs.declared.span.Span.{Span}
use Rattle.sby_file.specs.Config.{ConfigOf}
use Rattle.sby_task.specs.Cycles.{said_span, span_of}
use Rattle.sby_task.specs.Draft.{blank}
use Rattle.sby_task.specs.Task.{row_after}
use Rattle.sby_task.specs.Expand.{at_number, step, drafted, no_line, with_span, with_design, with_mode, finish, task_of, expanded, asked_text, expansion, Expand}
use Rattle.sby_task.specs.Said.{AreKept, engine_lines}
use Rattle.sby_task.specs.Faulty.{IsMissing, rank, AreSound, IsFirstFault, of_line, of_no_line}
use Rattle.sby_file.specs.declared.config.Row.{Row}
use Rattle.sby_file.specs.declared.config.StoredFile.{StoredFile}
use Rattle.sby_task.specs.declared.draft.Draft.{Draft}
use Rattle.sby_task.specs.declared.expansion.Task.{Task}
use Rattle.sby_task.specs.declared.task_fault.TaskFault.{TaskFault}
use Rattle.sby_task.specs.declared.task_fault.TaskKind.{TaskKind}
use Rattle.sby_task.specs.declared.task_fault.TaskKind.TheVariants as kind
use Rattle.sby_task.proofs.RowsSaid.{err_ok}
use Rattle.sby_task.proofs.Said.{drafted_err, drafted_from}
use Rattle.sby_task.proofs.CyclesSaid.{mode_given, mode_unset, says_span, span_refused}
use Rattle.sby_task.proofs.EngineLines.{ok_err, err_same}
use Rattle.sby_task.proofs.LineFaults.{engine_count, scripted, unscripted, ToldAddresses, row_is, row_least, row_sound}

module _ (files : List StoredFile) (all : List Row) where
  drafted_more : (rows more : List Row) (r : Result Draft TaskFault) → drafted files all r (rows ++ more) ≡ drafted files all (drafted files all r rows) more
  drafted_more [] more r = refl
  drafted_more (row ∷ rows) more r = drafted_more rows more (step files all r row)

  drafted_next : (before : List Row) (row : Row) (d : Draft) (r : Result Draft TaskKind) → drafted files all (Ok blank) before ≡ Ok d → row_after files all d row ≡ r
      → drafted files all (Ok blank) (before ++ row ∷ []) ≡ at_number row.number r
  drafted_next before row d r said e =
      drafted_more before (row ∷ []) (Ok blank) ∙ ap (λ (x : Result Draft TaskFault). step files all x row) said ∙ ap (at_number row.number) e

  -- where the lines before were read
  abbrev Refusal : List Row → TaskFault → Type 0
  Refusal rows f =
      (before : List Row) × (row : Row) × (after : List Row) × (d : Draft) × (rows ≡ before ++ row ∷ after) × (drafted files all (Ok blank) before ≡ Ok d)
      × (row_after files all d row ≡ Err f.kind) × (row.number ≡ f.line)

  refusal : (rows before : List Row) (d : Draft) (f : TaskFault) → drafted files all (Ok blank) before ≡ Ok d → drafted files all (Ok d) rows ≡ Err f → Refusal (before ++ rows) f
  refusal [] before d f said h = absurd (ok_err d f h)
  refusal (row ∷ rows) before d f said h = by (row_after files all d row) refl h (λ m more. refusal rows (before ++ row ∷ []) m f more)
    where
      by : (r : Result Draft TaskKind) → row_after files all d row ≡ r → drafted files all (at_number row.number r) rows ≡ Err f
          → ((m : Draft) → drafted files all (Ok blank) (before ++ row ∷ []) ≡ Ok m → drafted files all (Ok m) rows ≡ Err f → Refusal ((before ++ row ∷ []) ++ rows) f) → Refusal (before ++ row ∷ rows) f
      by (Ok m) e g later = subst (λ l. Refusal l f) (append_assoc before (row ∷ []) rows) (later m (drafted_next before row d (Ok m) said e) g)
      by (Err k) e g later =
          let is : record { line = row.number; kind = k } ≡ f = err_same _ f (sym (drafted_err files all rows (record { line = row.number; kind = k })) ∙ g) in
          (before, row, rows, d, refl, said, e ∙ ap (λ (x : TaskFault). Err x.kind) is, ap (λ (x : TaskFault). x.line) is)

  -- lines that were read are sound
  pub sound : ToldAddresses → (rows : List Row) (d : Draft) → drafted files all (Ok blank) rows ≡ Ok d → AreSound files all rows
  sound addresses rows d said before row after k parts f =
      let e = sym (drafted_more before (row ∷ after) (Ok blank)) ∙ ap (drafted files all (Ok blank)) (sym parts) ∙ said in
      by (drafted files all (Ok blank) before) refl e
    where
      read : (m : Draft) → drafted files all (Ok blank) before ≡ Ok m → (r : Result Draft TaskKind) → row_after files all m row ≡ r → drafted files all (at_number row.number r) after ≡ Ok d → ⊥
      read m is (Ok n) s h = row_sound files all before m is addresses row n s k f
      read m is (Err j) s h = err_ok d (record { line = row.number; kind = j }) (sym (drafted_err files all after (record { line = row.number; kind = j })) ∙ h)

      by : (r : Result Draft TaskFault) → drafted files all (Ok blank) before ≡ r → drafted files all r (row ∷ after) ≡ Ok d → ⊥
      by (Ok m) is h = read m is (row_after files all m row) refl h
      by (Err g) is h = err_ok d g (sym (drafted_err files all (row ∷ after) g) ∙ h)

-- what is missing, from the first of what is not on
least : (rows : List Row) (r : ℕ) → r ≤ 11 → (IsMissing rows kind.NoMode → r ≤ 5) → (IsMissing rows kind.NoEngine → r ≤ 6) → (IsMissing rows kind.Script → r ≤ 9) → (j : TaskKind) → IsMissing rows j → r ≤ rank j
least rows r most mode engines script kind.NoMode m = mode m
least rows r most mode engines script kind.NoEngine m = engines m
least rows r most mode engines script kind.Script m = script m
least rows r most mode engines script kind.Slices m = most
least rows r most mode engines script kind.UnknownTask m = absurd m
least rows r most mode engines script kind.Limit m = absurd m
least rows r most mode engines script kind.UnknownOption m = absurd m
least rows r most mode engines script kind.DoubleOption m = absurd m
least rows r most mode engines script kind.BadValue m = absurd m
least rows r most mode engines script kind.LeftOutEngine m = absurd m
least rows r most mode engines script kind.UnknownEngine m = absurd m
least rows r most mode engines script kind.MissingFile m = absurd m
least rows r most mode engines script kind.Marks m = absurd m

-- the answer where every line was read
module _ (files : List StoredFile) (rows : List Row) (name : List ℕ) (d : Draft) (said : drafted files rows (Ok blank) rows ≡ Ok d) (f : TaskFault) where
  abbrev Ends : TaskFault → Type 0
  Ends g = (g.line ≡ 0) × IsMissing rows g.kind × ((j : TaskKind) → IsMissing rows j → rank g.kind ≤ rank j)

  at_end : (k : TaskKind) → no_line k ≡ Err f → IsMissing rows k → ((j : TaskKind) → IsMissing rows j → rank k ≤ rank j) → Ends f
  at_end k h is first =
      let same : record { line = 0; kind = k } ≡ f = err_same _ f h in
      subst Ends same (refl, is, first)

  moded : (mode : Mode) → d.mode ≡ Some mode → IsMissing rows kind.NoMode → ⊥
  moded mode m unset =
      let s = mode_given files rows d said mode m in
      unset s.1 s.3 (subst (λ l. Contains l s.1) (sym s.4) (Contains-append_right s.0 (s.1 ∷ s.2) s.1 (0, omega arith, refl))) s.5

  engined : eqb (length d.engines) 0 ≡ false → IsMissing rows kind.NoEngine → ⊥
  engined n none =
      let c = engine_count files rows rows d said in
      let z : length d.engines ≡ 0 = c ∙ ap length none in
      false≢true (sym n ∙ ap (λ (x : ℕ). eqb x 0) z)

  script_there : (design : List ℕ) → d.script ≡ Some design → IsMissing rows kind.Script → ⊥
  script_there design s none = omega (arith, scripted files rows rows d said design s, ap length none)

  span_end : (mode : Mode) (design : List ℕ) → d.mode ≡ Some mode → eqb (length d.engines) 0 ≡ false → d.script ≡ Some design → (o : Option Span) → span_of mode d.skip d.depth d.stride ≡ o
      → with_span files rows name d mode design o ≡ Err f → Ends f
  span_end mode design m n s (Some span) e h = absurd (ok_err _ f h)
  span_end mode design m n s None e h =
      at_end kind.Slices h (mode, said_span d.skip d.depth d.stride, mode_given files rows d said mode m, says_span files rows d said, span_refused files rows d said mode e)
      (least rows 11 (omega arith) (λ u. absurd (moded mode m u)) (λ u. absurd (engined n u)) (λ u. absurd (script_there design s u)))

  design_end : (mode : Mode) → d.mode ≡ Some mode → eqb (length d.engines) 0 ≡ false → (script : Option (List ℕ)) → d.script ≡ script → with_design files rows name d mode script ≡ Err f → Ends f
  design_end mode m n None s h =
      at_end kind.Script h (unscripted files rows rows d said s)
      (least rows 9 (omega arith) (λ u. absurd (moded mode m u)) (λ u. absurd (engined n u)) (λ u. omega arith))
  design_end mode m n (Some design) s h = span_end mode design m n s (span_of mode d.skip d.depth d.stride) refl h

  no_lines : (lines : List (List (List ℕ))) → length lines ≡ 0 → lines ≡ []
  no_lines [] h = refl
  no_lines (line ∷ lines) h = absurd (omega (arith, h))

  mode_end : (mode : Option Mode) → d.mode ≡ mode → with_mode files rows name d mode ≡ Err f → Ends f
  mode_end None m h =
      at_end kind.NoMode h (mode_unset files rows d said m) (least rows 5 (omega arith) (λ u. omega arith) (λ u. omega arith) (λ u. omega arith))
  mode_end (Some mode) m h = elim (cases_Bool (eqb (length d.engines) 0)) as (λ _. Ends f) [
    | inl y ↦
        let z = eqb-true (length d.engines) 0 y in
        let c = engine_count files rows rows d said in
        at_end kind.NoEngine (rw y at h) (no_lines (engine_lines rows) (sym c ∙ z))
        (least rows 6 (omega arith) (λ u. absurd (moded mode m u)) (λ u. omega arith) (λ u. omega arith))
    | inr n ↦ design_end mode m n d.script refl (rw n at h)
  ]

module _ (c : ConfigOf) (asked : Option (List ℕ)) (rows : List Row) where
  pub first_answered : ToldAddresses → (f : TaskFault) → expansion c asked ≡ Err f → AreKept c asked rows → IsFirstFault c.files rows f
  first_answered addresses f h (names, is, e) = by (drafted c.files rows (Ok blank) rows) refl answer
    where
      answer : task_of c.files rows (asked_text asked) ≡ Err f
      answer = ap (λ (l : List Row). task_of c.files l (asked_text asked)) e ∙ ap (expanded c (asked_text asked)) (sym is) ∙ h

      of_row : Refusal c.files rows rows f → IsFirstFault c.files rows f
      of_row (before, row, after, d, parts, said, refused, number) =
          of_line before row after parts (sound c.files rows addresses before d said) number (row_is c.files rows before d said addresses row f.kind refused)
          (row_least c.files rows before d said addresses row f.kind refused)

      by : (r : Result Draft TaskFault) → drafted c.files rows (Ok blank) rows ≡ r → finish c.files rows (asked_text asked) r ≡ Err f → IsFirstFault c.files rows f
      by (Err g) s h = of_row (subst (Refusal c.files rows rows) (err_same {A = Task} g f h) (refusal c.files rows rows [] blank g refl s))
      by (Ok d) s h =
          let end = mode_end c.files rows (asked_text asked) d s f d.mode refl h in
          of_no_line (sound c.files rows addresses rows d s) end.0 end.1 end.2

  pub task_sound : ToldAddresses → (t : Task) → Expand c asked t → AreKept c asked rows → AreSound c.files rows rows
  task_sound addresses t h k = let d = drafted_from c asked t rows h k in sound c.files rows addresses rows d.0 d.1
