-- Which tasks are there.
use Rattle.std.proofs.Common.{◌≡◌, ℕ, suc, true, List, [], ◌∷◌, length, Option, Some, None, Err, refl, sym, ap, subst, inl, inr, arith, eqb}
use Rattle.std.proofs.lemmas.Bool.{cases_Bool, eqb-true}
use Rattle.std.proofs.lemmas.List.{length-append}
use Rattle.std.proofs.lemmas.Slice.Eq.{bytes_eq-Decides}
use Rattle.std.specs.Prelude.{Contains, bytes_eq}
use Rattle.sby_file.specs.Names.{has}
use Rattle.sby_file.specs.Placed.{placed}
use Rattle.sby_file.specs.Section.{section_named, is_file}
use Rattle.sby_file.specs.Config.{ConfigOf, nothing, with_task, with_row, with_content, with_file, with_said, with_line, with_lines}
use Rattle.sby_file.specs.Sby.{SbyText}
use Rattle.sby_task.specs.Scope.{kept}
use Rattle.sby_task.specs.Expand.{tags_of, named, names_asked, asked_text, expanded, expansion}
use Rattle.sby_task.specs.Said.{AreKept}
use Rattle.sby_task.specs.Faulty.{IsThere}
use Rattle.sby_file.specs.declared.config.Row.{Row}
use Rattle.sby_file.specs.declared.section.Section.{Section}
use Rattle.sby_file.specs.declared.section.Section.TheVariants.{Nowhere, Tasks, Options, Engines, Script, Files, File, Unknown}
use Rattle.sby_file.specs.declared.line.Line.{Line}
use Rattle.sby_file.specs.declared.line.Line.TheVariants.{NotText, Header, Content, Raw}
use Rattle.sby_file.specs.declared.walk.Placed.{Placed}
use Rattle.sby_task.specs.declared.task_fault.TaskKind.TheVariants as kind
use Rattle.sby_task.proofs.Designs.{first_or_later}
use Rattle.sby_task.proofs.LineFaults.{not_true}

-- ---- each task has its tags
abbrev Tagged : ConfigOf → Type 0
Tagged c = length c.tags ≡ length c.tasks

task_tagged : (c : ConfigOf) (words : List (List ℕ)) → Tagged c → Tagged (with_task c words)
task_tagged c [] h = h
task_tagged c (name ∷ tags) h = omega (arith, h, length-append c.tags (tags ∷ []), length-append c.tasks (name ∷ []))

row_tagged : (c : ConfigOf) (number : ℕ) (section : Section) (words : List (List ℕ)) → Tagged c → Tagged (with_row c number section words)
row_tagged c number section [] h = h
row_tagged c number section (word ∷ words) h = h

content_tagged : (c : ConfigOf) (number : ℕ) (section : Section) (words : List (List ℕ)) → Tagged c → Tagged (with_content c number section words)
content_tagged c number Tasks words h = task_tagged c words h
content_tagged c number Options words h = row_tagged c number Options words h
content_tagged c number Engines words h = row_tagged c number Engines words h
content_tagged c number Script words h = row_tagged c number Script words h
content_tagged c number Files words h = row_tagged c number Files words h
content_tagged c number Nowhere words h = h
content_tagged c number File words h = h
content_tagged c number Unknown words h = h

file_tagged : (c : ConfigOf) (words : List (List ℕ)) (later : List Placed) → Tagged c → Tagged (with_file c words later)
file_tagged c words later h = elim (cases_Bool (is_file (section_named words))) as (λ _. Tagged (with_file c words later)) [
  | inl y ↦ rw y h
  | inr n ↦ rw n h
]

line_tagged : (c : ConfigOf) (number : ℕ) (section : Section) (line : Line) (later : List Placed) → Tagged c → Tagged (with_said c number section line later)
line_tagged c number section (Header name) later h = file_tagged c name later h
line_tagged c number section (Content words) later h = content_tagged c number section words h
line_tagged c number section NotText later h = h
line_tagged c number section (Raw bytes) later h = h

lines_tagged : (ps : List Placed) (c : ConfigOf) → Tagged c → Tagged (with_lines c ps)
lines_tagged [] c h = h
lines_tagged (p ∷ ps) c h = lines_tagged ps (with_line c p ps) (line_tagged c p.number p.section p.line ps h)

text_tagged : (bytes : List ℕ) (c : ConfigOf) → SbyText bytes c → Tagged c
text_tagged bytes c text = subst Tagged (sym text.holds) (lines_tagged (placed bytes) nothing refl)

-- ---- and those of a name are found
tags_there : (tasks : List (List ℕ)) (tags : List (List (List ℕ))) (name : List ℕ) → length tags ≡ length tasks → Contains tasks name → (own : List (List ℕ)) × (tags_of tasks tags name ≡ Some own)
tags_there [] tags name e c = absurd (omega (arith, c.1))
tags_there (task ∷ tasks) [] name e c = absurd (omega (arith, e))
tags_there (task ∷ tasks) (own ∷ tags) name e c = elim (cases_Bool (bytes_eq task name)) as (λ _. (o : List (List ℕ)) × (tags_of (task ∷ tasks) (own ∷ tags) name ≡ Some o)) [
  | inl y ↦ (own, rw y refl)
  | inr n ↦ elim (first_or_later task tasks name c) as (λ _. (o : List (List ℕ)) × (tags_of (task ∷ tasks) (own ∷ tags) name ≡ Some o)) [
    | inl same ↦ (own, rw ((bytes_eq-Decides task name).1 (sym same)) refl)
    | inr later ↦ let r = tags_there tasks tags name (omega (arith, e)) later in (r.0, rw n r.1)
  ]
]

no_tags : (tasks : List (List ℕ)) (tags : List (List (List ℕ))) (name : List ℕ) → (Contains tasks name → ⊥) → tags_of tasks tags name ≡ None
no_tags [] tags name n = refl
no_tags (task ∷ tasks) [] name n = refl
no_tags (task ∷ tasks) (own ∷ tags) name n = elim (cases_Bool (bytes_eq task name)) as (λ _. tags_of (task ∷ tasks) (own ∷ tags) name ≡ None) [
  | inl y ↦ absurd (n (0, omega arith, (bytes_eq-Decides task name).0 y))
  | inr m ↦ rw m (no_tags tasks tags name (λ c. n (suc c.0, omega (arith, c.1), c.2)))
]

kept_by : (c : ConfigOf) (asked : Option (List ℕ)) (names : List (List ℕ)) → names_asked c asked ≡ Some names → (rows : List Row) × AreKept c asked rows
kept_by c asked names e = (kept (has names) true c.rows, (names, e, refl))

pub task_there : (bytes : List ℕ) (c : ConfigOf) (asked : Option (List ℕ)) → SbyText bytes c → IsThere c.tasks asked → (rows : List Row) × AreKept c asked rows
task_there bytes c None text there = kept_by c None [] none
  where
    none : names_asked c None ≡ Some []
    none = let z : eqb (length c.tasks) 0 ≡ true = ap (λ (l : List (List ℕ)). eqb (length l) 0) there in rw z refl
task_there bytes c (Some name) text there =
    let r = tags_there c.tasks c.tags name (text_tagged bytes c text) there in
    kept_by c (Some name) (name ∷ r.0) (ap (named name) r.1)

no_names : (c : ConfigOf) (asked : Option (List ℕ)) → (IsThere c.tasks asked → ⊥) → names_asked c asked ≡ None
no_names c None n = by c.tasks refl
  where
    by : (tasks : List (List ℕ)) → c.tasks ≡ tasks → names_asked c None ≡ None
    by [] e = absurd (n e)
    by (task ∷ tasks) e =
        let z = not_true (eqb (length c.tasks) 0) (λ y. omega (arith, ap length e, eqb-true (length c.tasks) 0 y)) in
        rw z refl
no_names c (Some name) n = ap (named name) (no_tags c.tasks c.tags name n)

pub task_unknown : (c : ConfigOf) (asked : Option (List ℕ)) → (IsThere c.tasks asked → ⊥) → expansion c asked ≡ Err (record { line = 0; kind = kind.UnknownTask })
task_unknown c asked n = ap (expanded c (asked_text asked)) (no_names c asked n)
