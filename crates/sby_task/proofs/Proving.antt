-- Whether some line gives the mode prove.
use Rattle.std.proofs.Common.{◌≡◌, ◌∙◌, ◌⊎◌, ℕ, suc, true, false, List, [], ◌∷◌, arith, codes, inl, inr, refl, subst, sym}
use Rattle.std.proofs.lemmas.Bool.{cases_Bool, false≢true}
use Rattle.std.proofs.lemmas.Slice.Eq.{bytes_eq-Decides}
use Rattle.std.specs.Prelude.{Contains, bytes_eq}
use Rattle.sby_task.proofs.Designs.{first_or_later}
use Rattle.sby_task.specs.Proved.{are_mode_prove, gives_prove, is_options, is_proved}
use Rattle.sby_task.specs.Said.{IsOption}
use Rattle.sby_file.specs.declared.config.Row.{Row}
use Rattle.sby_file.specs.declared.section.Section.{Section}
use Rattle.sby_file.specs.declared.section.Section.TheVariants.{Nowhere, Tasks, Options, Engines, Script, Files, File, Unknown}

-- the line gives the mode prove
abbrev pub Gives : Row → Type 0
Gives row = IsOption (codes "mode") (codes "prove" ∷ []) row

options_is : (section : Section) → is_options section ≡ true → section ≡ Options
options_is Options h = refl
options_is Nowhere h = absurd (false≢true h)
options_is Tasks h = absurd (false≢true h)
options_is Engines h = absurd (false≢true h)
options_is Script h = absurd (false≢true h)
options_is Files h = absurd (false≢true h)
options_is File h = absurd (false≢true h)
options_is Unknown h = absurd (false≢true h)

words_are : (words : List (List ℕ)) → are_mode_prove words ≡ true → words ≡ codes "mode" ∷ codes "prove" ∷ []
words_are [] h = absurd (false≢true h)
words_are (name ∷ []) h = absurd (false≢true h)
words_are (name ∷ value ∷ more ∷ words) h = absurd (false≢true h)
words_are (name ∷ value ∷ []) h = by (cases_Bool (bytes_eq name (codes "mode")))
  where
    by : (bytes_eq name (codes "mode") ≡ true) ⊎ (bytes_eq name (codes "mode") ≡ false) → name ∷ value ∷ [] ≡ codes "mode" ∷ codes "prove" ∷ []
    by (inl y) =
        let first = (bytes_eq-Decides name (codes "mode")).0 y in
        let second = (bytes_eq-Decides value (codes "prove")).0 (rw y at h) in
        rw (first, second) refl
    by (inr n) = absurd (false≢true (rw n at h))

gives_is : (row : Row) → gives_prove row ≡ true → Gives row
gives_is row h = by (cases_Bool (is_options row.section))
  where
    by : (is_options row.section ≡ true) ⊎ (is_options row.section ≡ false) → Gives row
    by (inl y) = (options_is row.section y, words_are row.words (rw y at h))
    by (inr n) = absurd (false≢true (rw n at h))

gives_true : (row : Row) → Gives row → gives_prove row ≡ true
gives_true row (s, w) = rw (s, w) refl

pub proved_none : (rows : List Row) → is_proved rows ≡ false → (line : Row) → Contains rows line → Gives line → ⊥
proved_none [] h line c g = absurd (omega (arith, c.1))
proved_none (row ∷ rows) h line c g = by (λ n later. proved_none rows n line later g) (cases_Bool (gives_prove row))
  where
    by : (is_proved rows ≡ false → Contains rows line → ⊥) → (gives_prove row ≡ true) ⊎ (gives_prove row ≡ false) → ⊥
    by rest (inl y) = false≢true (sym (rw y at h))
    by rest (inr n) = elim (first_or_later row rows line c) as (λ _. ⊥) [
      | inl same ↦ false≢true (sym n ∙ gives_true row (subst Gives same g))
      | inr later ↦ rest (rw n at h) later
    ]

pub none_proved : (rows : List Row) → ((line : Row) → Contains rows line → Gives line → ⊥) → is_proved rows ≡ false
none_proved [] h = refl
none_proved (row ∷ rows) h = by (none_proved rows (λ line c g. h line (suc c.0, omega (arith, c.1), c.2) g)) (cases_Bool (gives_prove row))
  where
    by : is_proved rows ≡ false → (gives_prove row ≡ true) ⊎ (gives_prove row ≡ false) → is_proved (row ∷ rows) ≡ false
    by rest (inl y) = absurd (h row (0, omega arith, refl) (gives_is row y))
    by rest (inr n) = rw n rest
