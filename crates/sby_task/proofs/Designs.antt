-- Where a task's design stands.
use Rattle.std.proofs.Common.{◌≡◌, ◌⊎◌, ℕ, zero, suc, Bool, true, false, cond, List, [], ◌∷◌, Option, Some, None, refl, sym, ◌∙◌, ap, subst, inl, inr, arith}
use Rattle.std.proofs.lemmas.Bool.{cases_Bool, false≢true}
use Rattle.std.proofs.lemmas.Slice.Eq.{bytes_eq-Decides}
use Rattle.std.specs.Prelude.{Contains, bytes_eq, is_some, unwrap_or}
use Rattle.sby_task.specs.Files.{part_of, is_path_named, words_path, section_path, path_of, path_after, path_in, bytes_in}
use Rattle.sby_task.specs.Paths.{IsLastPart}
use Rattle.sby_task.specs.Task.{is_found}
use Rattle.sby_task.specs.Expand.{design_path}
use Rattle.sby_task.specs.Said.{NoneStands, Stands, GivesPath, IsPath, HasDesign}
use Rattle.sby_task.specs.Faulty.{NoneGives}
use Rattle.sby_file.specs.declared.config.Row.{Row}
use Rattle.sby_file.specs.declared.config.StoredFile.{StoredFile}
use Rattle.sby_task.specs.declared.expansion.Task.{Task}
use Rattle.sby_file.specs.declared.section.Section.{Section}
use Rattle.sby_file.specs.declared.section.Section.TheVariants.{Nowhere, Tasks, Options, Engines, Script, Files, File, Unknown}
use Rattle.sby_task.proofs.Paths.{last_part}
use Rattle.sby_task.proofs.RowsSaid.{none_some, some_same}

pub first_or_later : {A : Type 0} (x : A) (xs : List A) (y : A) → Contains (x ∷ xs) y → (y ≡ x) ⊎ Contains xs y
first_or_later x xs y (zero, lt, at) = inl (sym at)
first_or_later x xs y (suc k, lt, at) = inr (k, omega arith, at)

pub nothing_in : {A : Type 0} (y : A) → Contains [] y → ⊥
nothing_in y h = omega (arith, h.1)

none_more : (file : StoredFile) (files : List StoredFile) (name : List ℕ) → bytes_eq file.name name ≡ false → NoneStands files name → NoneStands (file ∷ files) name
none_more file files name n none other c e = elim (first_or_later file files other c) as (λ _. ⊥) [
  | inl same ↦ false≢true (sym n ∙ (bytes_eq-Decides file.name name).1 (ap (λ (f : StoredFile). f.name) (sym same) ∙ e))
  | inr there ↦ none other there e
]

pub stands : (files : List StoredFile) (name bytes : List ℕ) → bytes_in files name ≡ Some bytes → Stands files name bytes
stands [] name bytes h = absurd (none_some bytes h)
stands (file ∷ files) name bytes h = elim (cases_Bool (bytes_eq file.name name)) as (λ _. Stands (file ∷ files) name bytes) [
  | inl y ↦ ([], file, files, refl, (bytes_eq-Decides file.name name).0 y, some_same file.bytes bytes (rw y at h), λ other c e. nothing_in other c)
  | inr n ↦
      let r = stands files name bytes (rw n at h) in
      (file ∷ r.0, r.1, r.2, ap (λ (l : List StoredFile). file ∷ l) r.3, r.4, r.5, none_more file r.0 name n r.6)
]

pub none_stands : (files : List StoredFile) (name : List ℕ) → bytes_in files name ≡ None → NoneStands files name
none_stands [] name h = λ other c e. nothing_in other c
none_stands (file ∷ files) name h = elim (cases_Bool (bytes_eq file.name name)) as (λ _. NoneStands (file ∷ files) name) [
  | inl y ↦ absurd (none_some file.bytes (sym (rw y at h)))
  | inr n ↦ none_more file files name n (none_stands files name (rw n at h))
]

chosen : (b : Bool) (x path : List ℕ) → cond b (Some x) None ≡ Some path → (b ≡ true) × (x ≡ path)
chosen true x path h = (refl, some_same x path h)
chosen false x path h = absurd (none_some path h)

module _ (row : Row) (name path : List ℕ) where
  by_words : (words : List (List ℕ)) → row.section ≡ Files → row.words ≡ words → words_path words name ≡ Some path → GivesPath name path row
  by_words [] s w h = absurd (none_some path h)
  by_words (one ∷ []) s w h =
      let p = chosen (is_path_named one name) one path h in
      let last : part_of one ≡ name = (bytes_eq-Decides (part_of one) name).0 p.0 in
      (s, inl (w ∙ ap (λ (x : List ℕ). x ∷ []) p.1, subst (λ (x : List ℕ). IsLastPart x name) p.1 ((last_part one name).0 last)))
  by_words (given ∷ one ∷ []) s w h =
      let p = chosen (bytes_eq given name) one path h in
      (s, inr (w ∙ ap (λ (x : List ℕ). x ∷ one ∷ []) ((bytes_eq-Decides given name).0 p.0) ∙ ap (λ (x : List ℕ). name ∷ x ∷ []) p.1))
  by_words (given ∷ one ∷ more ∷ words) s w h = absurd (none_some path h)

  by_section : (section : Section) → row.section ≡ section → section_path section row.words name ≡ Some path → GivesPath name path row
  by_section Files s h = by_words row.words s refl h
  by_section Nowhere s h = absurd (none_some path h)
  by_section Tasks s h = absurd (none_some path h)
  by_section Options s h = absurd (none_some path h)
  by_section Engines s h = absurd (none_some path h)
  by_section Script s h = absurd (none_some path h)
  by_section File s h = absurd (none_some path h)
  by_section Unknown s h = absurd (none_some path h)

  path_gives : path_of row name ≡ Some path → GivesPath name path row
  path_gives h = by_section row.section refl h

  gives_path : GivesPath name path row → path_of row name ≡ Some path
  gives_path (s, inl (w, last)) =
      let here : bytes_eq (part_of path) name ≡ true = (bytes_eq-Decides (part_of path) name).1 ((last_part path name).1 last) in
      rw (s, w, here) refl
  gives_path (s, inr w) =
      let here : bytes_eq name name ≡ true = (bytes_eq-Decides name name).1 refl in
      rw (s, w, here) refl

none_give : (row : Row) (rows : List Row) (name : List ℕ) → path_of row name ≡ None → NoneGives rows name → NoneGives (row ∷ rows) name
none_give row rows name n none later other c g = elim (first_or_later row rows later c) as (λ _. ⊥) [
  | inl same ↦ none_some other (sym n ∙ ap (λ (r : Row). path_of r name) (sym same) ∙ gives_path later name other g)
  | inr there ↦ none later other there g
]

abbrev Last : Option (List ℕ) → List Row → List ℕ → List ℕ → Type 0
Last found rows name path = ((found ≡ Some path) × NoneGives rows name) ⊎ IsPath rows name path

path_last : (rows : List Row) (found : Option (List ℕ)) (name path : List ℕ) → path_in found rows name ≡ Some path → Last found rows name path
path_last [] found name path h = inl (h, λ later other c g. nothing_in later c)
path_last (row ∷ rows) found name path h = by (path_of row name) refl (path_last rows (path_after found (path_of row name)) name path h)
  where
    more : IsPath rows name path → IsPath (row ∷ rows) name path
    more (before, one, after, e, gives, none) = (row ∷ before, one, after, ap (λ (l : List Row). row ∷ l) e, gives, none)

    by : (o : Option (List ℕ)) → path_of row name ≡ o → Last (path_after found (path_of row name)) rows name path → Last found (row ∷ rows) name path
    by o e (inr later) = inr (more later)
    by None e (inl here) = inl (ap (path_after found) (sym e) ∙ here.0, none_give row rows name e here.1)
    by (Some one) e (inl here) =
        let same : one ≡ path = some_same one path (ap (path_after found) (sym e) ∙ here.0) in
        inr ([], row, rows, refl, path_gives row name path (e ∙ ap Some same), here.1)

pub is_path : (rows : List Row) (name path : List ℕ) → path_in None rows name ≡ Some path → IsPath rows name path
is_path rows name path h = elim (path_last rows None name path h) as (λ _. IsPath rows name path) [
  | inl none ↦ absurd (none_some path none.0)
  | inr there ↦ there
]

path_none : (rows : List Row) (found : Option (List ℕ)) (name : List ℕ) → path_in found rows name ≡ None → (found ≡ None) × NoneGives rows name
path_none [] found name h = (h, λ later other c g. nothing_in later c)
path_none (row ∷ rows) found name h = by (path_of row name) refl (path_none rows (path_after found (path_of row name)) name h)
  where
    by : (o : Option (List ℕ)) → path_of row name ≡ o → (path_after found (path_of row name) ≡ None) × NoneGives rows name → (found ≡ None) × NoneGives (row ∷ rows) name
    by None e r = (ap (path_after found) (sym e) ∙ r.0, none_give row rows name e r.1)
    by (Some one) e r = absurd (none_some one (sym r.0 ∙ ap (path_after found) e))

pub none_gives : (rows : List Row) (name : List ℕ) → path_in None rows name ≡ None → NoneGives rows name
none_gives rows name h = (path_none rows None name h).1

some_path : (rows : List Row) (name : List ℕ) (o : Option (List ℕ)) → path_in None rows name ≡ o → is_some o ≡ true → IsPath rows name (unwrap_or (path_in None rows name) name)
some_path rows name None e h = absurd (false≢true h)
some_path rows name (Some path) e h = subst (IsPath rows name) (sym (ap (λ (o : Option (List ℕ)). unwrap_or o name) e)) (is_path rows name path e)

pub design_is : (files : List StoredFile) (rows : List Row) (name : List ℕ) (t : Task) (bytes : Option (List ℕ)) → bytes_in files name ≡ bytes → t.design_bytes ≡ bytes_in files name
    → t.design_path ≡ design_path (bytes_in files name) rows name → is_found files rows name ≡ true → HasDesign files rows name t
design_is files rows name t (Some bytes) e b p found =
    inl (p ∙ ap (λ (o : Option (List ℕ)). design_path o rows name) e, (bytes, b ∙ e, stands files name bytes e))
design_is files rows name t None e b p found =
    let some : is_some (path_in None rows name) ≡ true = rw e at found in
    let path = p ∙ ap (λ (o : Option (List ℕ)). design_path o rows name) e in
    inr (b ∙ e, none_stands files name e, subst (IsPath rows name) (sym path) (some_path rows name (path_in None rows name) refl some))
