-- Why a task is refused.
use Rattle.std.proofs.Common.{◌≡◌, ℕ, List, [], ◌∷◌, ◌++◌, Option, Some, Ok, Err, refl, sym, ap, subst, arith, codes, zero, suc}
use Rattle.std.proofs.lemmas.List.Elements.{All-nil, All-push}
use Rattle.std.specs.Prelude.{Contains, All}
use Rattle.sby_terms.specs.declared.names.Mode.{Mode}
use Rattle.sby_terms.specs.declared.span.Span.{Span}
use Rattle.sby_file.specs.Config.{ConfigOf}
use Rattle.sby_task.specs.Values.{mode_of}
use Rattle.sby_task.specs.Marks.{IsMarked}
use Rattle.sby_task.specs.Draft.{blank, option_name}
use Rattle.sby_task.specs.Proved.{is_proved}
use Rattle.sby_task.specs.Expand.{drafted, expansion, Expand}
use Rattle.sby_task.specs.Said.{AreKept, IsSet, SaysSpan, AreRefused, LacksMarks}
use Rattle.sby_file.specs.declared.config.Row.{Row}
use Rattle.sby_file.specs.declared.config.StoredFile.{StoredFile}
use Rattle.sby_task.specs.declared.draft.Draft.{Draft}
use Rattle.sby_task.specs.declared.expansion.Task.{Task}
use Rattle.sby_file.specs.declared.section.Section.TheVariants.{Engines}
use Rattle.sby_task.specs.declared.task_fault.TaskFault.{TaskFault}
use Rattle.sby_task.specs.declared.task_fault.TaskKind.{TaskKind}
use Rattle.sby_task.specs.declared.task_fault.TaskKind.TheVariants as kind
use Rattle.sby_task.proofs.RowsSaid.{RowSays, option_line, engine_line, script_line, other_line, beside_options, ok_same}
use Rattle.sby_task.proofs.Said.{first_read, drafted_from}
use Rattle.sby_task.proofs.EngineLines.{engine_marked}
use Rattle.sby_task.proofs.LineFaults.{ToldAddresses}
use Rattle.sby_task.proofs.FirstFaults.{first_answered, task_sound}
use Rattle.sby_task.specs.Faulty.{IsFirstFault, of_line, of_no_line}
use Rattle.std.proofs.lemmas.List.Elements.{Contains-append_right}

-- a line stands between others
between : (rows : List Row) (row : Row) → Contains rows row → (before : List Row) × (after : List Row) × (rows ≡ before ++ row ∷ after)
between [] row c = absurd (omega (arith, c.1))
between (first ∷ rows) row (zero, lt, at) = ([], rows, ap (λ (r : Row). r ∷ rows) at)
between (first ∷ rows) row (suc k, lt, at) = let p = between rows row (k, omega arith, at) in (first ∷ p.0, p.1, ap (λ (l : List Row). first ∷ l) p.2)

module _ (files : List StoredFile) (all : List Row) where
  line_marked : (m n : Draft) (row : Row) → RowSays files all m row n → All IsMarked m.engines → All IsMarked n.engines
  line_marked m n row (option_line name value s w h) a = subst (All IsMarked) (sym (beside_options (is_proved all) m (option_name name) value n h).0) a
  line_marked m n row (engine_line x s w h) a = subst (All IsMarked) (sym (ap (λ (y : Draft). y.engines) h)) (All-push IsMarked m.engines x a (engine_marked row.words x w))
  line_marked m n row (script_line name s w none there h) a = subst (All IsMarked) (sym (ap (λ (y : Draft). y.engines) h)) a
  line_marked m n row (other_line p q r h) a = subst (All IsMarked) (sym (ap (λ (y : Draft). y.engines) h)) a

  engines_marked : (rows : List Row) (d e : Draft) → drafted files all (Ok d) rows ≡ Ok e → All IsMarked d.engines → All IsMarked e.engines
  engines_marked [] d e h a = subst (All IsMarked) (ap (λ (y : Draft). y.engines) (ok_same {B = TaskFault} d e h)) a
  engines_marked (row ∷ rows) d e h a = let m = first_read files all d row rows e h in engines_marked rows m.0 e m.2 (line_marked d m.0 row m.1 a)

module _ (addresses : ToldAddresses) (c : ConfigOf) (asked : Option (List ℕ)) (line : ℕ) (rows : List Row) where
  abbrev fault : TaskKind → TaskFault
  fault k = record { line = line; kind = k }

  abbrev Refused : Type 0
  Refused = (line ≡ 0) × ((mode : Mode) × (span : Span) × IsSet (codes "mode") (λ value. mode_of value ≡ Some mode) rows × SaysSpan rows span × AreRefused rows mode span)

  pub slices_refused : expansion c asked ≡ Err (fault kind.Slices) → AreKept c asked rows → Refused
  slices_refused h k = by (first_answered c asked rows addresses (fault kind.Slices) h k)
    where
      by : IsFirstFault c.files rows (fault kind.Slices) → Refused
      by (of_line before row after parts sound number faulty least) = absurd faulty
      by (of_no_line sound zeroth missing least) = (zeroth, missing)

  abbrev Lacking : Type 0
  Lacking = (row : Row) × Contains rows row × (row.number ≡ line) × (row.section ≡ Engines) × LacksMarks row.words

  pub marks_refused : expansion c asked ≡ Err (fault kind.Marks) → AreKept c asked rows → Lacking
  marks_refused h k = by (first_answered c asked rows addresses (fault kind.Marks) h k)
    where
      by : IsFirstFault c.files rows (fault kind.Marks) → Lacking
      by (of_line before row after parts sound number faulty least) =
          (row, subst (λ l. Contains l row) (sym parts) (Contains-append_right before (row ∷ after) row (0, omega arith, refl)), number, faulty.0, faulty.1)
      by (of_no_line sound zeroth missing least) = absurd missing

module _ (c : ConfigOf) (asked : Option (List ℕ)) (t : Task) (rows : List Row) (h : Expand c asked t) (k : AreKept c asked rows) where
  pub marks_served : ToldAddresses → (row : Row) → Contains rows row → row.section ≡ Engines → LacksMarks row.words → ⊥
  marks_served addresses row there s l = let p = between rows row there in task_sound c asked rows addresses t h k p.0 row p.1 kind.Marks p.2 (s, l)

  pub marks_said : All IsMarked t.engines
  marks_said =
      let d = drafted_from c asked t rows h k in
      subst (All IsMarked) (sym d.2.engines) (engines_marked c.files rows rows blank d.0 d.1 (All-nil IsMarked))
