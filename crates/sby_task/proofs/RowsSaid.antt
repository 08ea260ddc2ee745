-- What one line adds to what the lines before it say.
use Rattle.std.proofs.Common.{◌≡◌, ◌⊎◌, ℕ, Bool, true, false, List, [], ◌∷◌, ◌++◌, Option, Some, None, Result, Ok, Err, length, refl, sym, ◌∙◌, ap, inl, inr, leb, codes}
use Rattle.std.proofs.lemmas.Bool.{cases_Bool}
use Rattle.std.proofs.lemmas.Slice.Eq.{bytes_eq-Decides}
use Rattle.std.specs.Prelude.{bytes_eq, is_some}
use Rattle.sby_terms.specs.declared.engine.Engine.{Engine}
use Rattle.sby_task.specs.Values.{by_of, mode_of, count_of, number_of, statuses_of, switch_of}
use Rattle.sby_task.specs.Engines.{engine_of}
use Rattle.sby_task.specs.Draft.{option_name, option_after, read_command, once, off_only, if_proved, with_engine}
use Rattle.sby_task.specs.Proved.{is_proved}
use Rattle.sby_task.specs.Task.{row_after, section_after, script_after, found, seek, is_found}
use Rattle.sby_task.specs.Faulty.{spelled}
use Rattle.sby_file.specs.declared.config.Row.{Row}
use Rattle.sby_file.specs.declared.config.StoredFile.{StoredFile}
use Rattle.sby_task.specs.declared.draft.Draft.{Draft}
use Rattle.sby_task.specs.declared.draft.OptionName.{OptionName}
use Rattle.sby_task.specs.declared.draft.OptionName.TheVariants as option
use Rattle.sby_file.specs.declared.section.Section.{Section}
use Rattle.sby_file.specs.declared.section.Section.TheVariants.{Nowhere, Tasks, Options, Engines, Script, Files, File, Unknown}
use Rattle.sby_task.specs.declared.task_fault.TaskKind.{TaskKind}

pub ok_same : {A B : Type 0} (a b : A) → ◌≡◌ {A = Result A B} (Ok a) (Ok b) → a ≡ b
ok_same a b h = cc

pub err_ok : {A B : Type 0} (a : A) (b : B) → ◌≡◌ {A = Result A B} (Err b) (Ok a) → ⊥
err_ok a b h = cc

pub none_some : {A : Type 0} (a : A) → ◌≡◌ {A = Option A} None (Some a) → ⊥
none_some a h = cc

pub some_same : {A : Type 0} (a b : A) → ◌≡◌ {A = Option A} (Some a) (Some b) → a ≡ b
some_same a b h = cc

pub none_is : {A : Type 0} (o : Option A) → is_some o ≡ false → o ≡ None
none_is None h = refl
none_is (Some a) h = absurd (cc)

-- a line of options, of engines, of the script, or another
pub data RowSays (files : List StoredFile) (all : List Row) (d : Draft) (row : Row) (e : Draft) : Type 0 where
  option_line : (name : List ℕ) (value : List (List ℕ)) → row.section ≡ Options → row.words ≡ name ∷ value → option_after (is_proved all) d (option_name name) value ≡ Ok e → RowSays files all d row e
  engine_line : (x : Engine) → row.section ≡ Engines → engine_of row.words ≡ Ok x → e ≡ record d { engines = d.engines ++ x ∷ [] } → RowSays files all d row e
  script_line : (name : List ℕ) → row.section ≡ Script → row.words ≡ codes "read_rtlil" ∷ name ∷ [] → d.script ≡ None → is_found files all name ≡ true → e ≡ record d { script = Some name } → RowSays files all d row e
  other_line : (row.section ≡ Options → ⊥) → (row.section ≡ Engines → ⊥) → (row.section ≡ Script → ⊥) → e ≡ d → RowSays files all d row e

module _ (files : List StoredFile) (all : List Row) (d : Draft) (row : Row) (e : Draft) where
  engine_said : (r : Result Engine TaskKind) → row.section ≡ Engines → engine_of row.words ≡ r → with_engine d r ≡ Ok e → RowSays files all d row e
  engine_said (Err k) s w h = absurd (err_ok e k h)
  engine_said (Ok x) s w h = engine_line x s w (sym (ok_same _ e h))

  sought : (m : Draft) (name : List ℕ) → seek files all m (Some name) ≡ Ok e → (is_found files all name ≡ true) × (e ≡ m)
  sought m name h = elim (cases_Bool (is_found files all name)) as (λ _. (is_found files all name ≡ true) × (e ≡ m)) [
    | inl y ↦ (y, sym (ok_same m e (rw y at h)))
    | inr n ↦ absurd (err_ok e _ (rw n at h))
  ]

  script_found : (words : List (List ℕ)) → row.section ≡ Script → row.words ≡ words → d.script ≡ None → found files all (read_command d words) ≡ Ok e → RowSays files all d row e
  script_found [] s w n h = absurd (err_ok e _ h)
  script_found (command ∷ []) s w n h = absurd (err_ok e _ h)
  script_found (command ∷ name ∷ more ∷ words) s w n h = absurd (err_ok e _ h)
  script_found (command ∷ name ∷ []) s w n h = elim (cases_Bool (bytes_eq command (codes "read_rtlil"))) as (λ _. RowSays files all d row e) [
    | inr k ↦ absurd (err_ok e _ (rw k at h))
    | inl y ↦
        let is = (bytes_eq-Decides command (codes "read_rtlil")).0 y in
        let m : Draft = record d { script = Some name } in
        let next : seek files all m (Some name) ≡ Ok e = rw y at h in
        let there = sought m name next in
        script_line name s (w ∙ ap (λ (c : List ℕ). c ∷ name ∷ []) is) n there.0 there.1
  ]

  script_said : (words : List (List ℕ)) (o : Option (List ℕ)) → d.script ≡ o → row.section ≡ Script → row.words ≡ words → script_after files all d words ≡ Ok e → RowSays files all d row e
  script_said words None n s w h = script_found words s w n (rw n at h)
  script_said words (Some name) n s w h = absurd (err_ok e _ (rw n at h))

  other_said : (section : Section) → row.section ≡ section → (section ≡ Options → ⊥) → (section ≡ Engines → ⊥) → (section ≡ Script → ⊥) → ◌≡◌ {A = Result Draft TaskKind} (Ok d) (Ok e) → RowSays files all d row e
  other_said section s a b c h = other_line (λ i. a (sym s ∙ i)) (λ i. b (sym s ∙ i)) (λ i. c (sym s ∙ i)) (sym (ok_same {B = TaskKind} d e h))

  said : (section : Section) (words : List (List ℕ)) → row.section ≡ section → row.words ≡ words → section_after files all d section words ≡ Ok e → RowSays files all d row e
  said Options [] s w h = absurd (err_ok e _ h)
  said Options (name ∷ value) s w h = option_line name value s w h
  said Engines words s w h = elim (cases_Bool (leb 64 (length d.engines))) as (λ _. RowSays files all d row e) [
    | inl y ↦ absurd (err_ok e _ (rw y at h))
    | inr n ↦ engine_said (engine_of words) s (ap engine_of w) (rw n at h)
  ]
  said Script words s w h = script_said words d.script refl s w h
  said Files words s w h = elim (cases_Bool (leb (length words) 2)) as (λ _. RowSays files all d row e) [
    | inl y ↦ other_said Files s (λ i. cc) (λ i. cc) (λ i. cc) (rw y at h)
    | inr n ↦ absurd (err_ok e _ (rw n at h))
  ]
  said Nowhere words s w h = other_said Nowhere s (λ i. cc) (λ i. cc) (λ i. cc) h
  said Tasks words s w h = other_said Tasks s (λ i. cc) (λ i. cc) (λ i. cc) h
  said File words s w h = other_said File s (λ i. cc) (λ i. cc) (λ i. cc) h
  said Unknown words s w h = other_said Unknown s (λ i. cc) (λ i. cc) (λ i. cc) h

  pub row_says : row_after files all d row ≡ Ok e → RowSays files all d row e
  row_says h = said row.section row.words refl refl h

abbrev Either : Bool → Type 0
Either b = (b ≡ true) ⊎ (b ≡ false)

pub is_spelled : (word : List ℕ) (o : OptionName) → (o ≡ option.Unknown → ⊥) → option_name word ≡ o → word ≡ spelled o
is_spelled word o known h = by (cases_Bool (bytes_eq word (codes "mode"))) (cases_Bool (bytes_eq word (codes "by"))) (cases_Bool (bytes_eq word (codes "skip"))) (cases_Bool (bytes_eq word (codes "depth"))) (cases_Bool (bytes_eq word (codes "stride"))) (cases_Bool (bytes_eq word (codes "timeout"))) (cases_Bool (bytes_eq word (codes "expect"))) (cases_Bool (bytes_eq word (codes "wait"))) (cases_Bool (bytes_eq word (codes "multiclock")))
  where
    is : (name : List ℕ) (n : OptionName) → name ≡ spelled n → bytes_eq word name ≡ true → option_name word ≡ n → word ≡ spelled o
    is name n e y k = (bytes_eq-Decides word name).0 y ∙ e ∙ ap spelled (sym k ∙ h)

    by : Either (bytes_eq word (codes "mode")) → Either (bytes_eq word (codes "by")) → Either (bytes_eq word (codes "skip")) → Either (bytes_eq word (codes "depth")) → Either (bytes_eq word (codes "stride")) → Either (bytes_eq word (codes "timeout")) → Either (bytes_eq word (codes "expect")) → Either (bytes_eq word (codes "wait")) → Either (bytes_eq word (codes "multiclock")) → word ≡ spelled o
    by (inl a) b c d e f g i j = is (codes "mode") option.Mode refl a (rw a refl)
    by (inr a) (inl b) c d e f g i j = is (codes "by") option.By refl b (rw (a, b) refl)
    by (inr a) (inr b) (inl c) d e f g i j = is (codes "skip") option.Skip refl c (rw (a, b, c) refl)
    by (inr a) (inr b) (inr c) (inl d) e f g i j = is (codes "depth") option.Depth refl d (rw (a, b, c, d) refl)
    by (inr a) (inr b) (inr c) (inr d) (inl e) f g i j = is (codes "stride") option.Stride refl e (rw (a, b, c, d, e) refl)
    by (inr a) (inr b) (inr c) (inr d) (inr e) (inl f) g i j = is (codes "timeout") option.Timeout refl f (rw (a, b, c, d, e, f) refl)
    by (inr a) (inr b) (inr c) (inr d) (inr e) (inr f) (inl g) i j = is (codes "expect") option.Expect refl g (rw (a, b, c, d, e, f, g) refl)
    by (inr a) (inr b) (inr c) (inr d) (inr e) (inr f) (inr g) (inl i) j = is (codes "wait") option.Wait refl i (rw (a, b, c, d, e, f, g, i) refl)
    by (inr a) (inr b) (inr c) (inr d) (inr e) (inr f) (inr g) (inr i) (inl j) = is (codes "multiclock") option.Multiclock refl j (rw (a, b, c, d, e, f, g, i, j) refl)
    by (inr a) (inr b) (inr c) (inr d) (inr e) (inr f) (inr g) (inr i) (inr j) = absurd (known (sym h ∙ rw (a, b, c, d, e, f, g, i, j) refl))

once_is : {A : Type 0} (had : Bool) (value : Option A) (put : A → Draft) (e : Draft) → once had value put ≡ Ok e → (had ≡ false) × ((v : A) × (value ≡ Some v) × (e ≡ put v))
once_is true value put e h = absurd (err_ok e _ h)
once_is false None put e h = absurd (err_ok e _ h)
once_is false (Some v) put e h = (refl, (v, refl, sym (ok_same (put v) e h)))

-- an option line sets its option, which nothing has set, and keeps the others
abbrev pub OptionSays : {A : Type 0} → OptionName → (Draft → Option A) → (List (List ℕ) → Option A) → OptionName → Draft → List (List ℕ) → Draft → Type 0
OptionSays {A} this f read o d value e = ((o ≡ this) × (f d ≡ None) × ((v : A) × (read value ≡ Some v) × (f e ≡ Some v))) ⊎ ((o ≡ this → ⊥) × (f e ≡ f d))

pub mode_says : (proved : Bool) (o : OptionName) (d : Draft) (value : List (List ℕ)) (e : Draft) → option_after proved d o value ≡ Ok e → OptionSays option.Mode (λ d. d.mode) (λ value. mode_of value) o d value e
mode_says proved option.Mode d value e h = let p = once_is (is_some d.mode) (mode_of value) (λ v. record d { mode = Some v }) e h in inl (refl, none_is d.mode p.0, (p.1.0, p.1.1, ap (λ (x : Draft). x.mode) p.1.2))
mode_says proved option.By d value e h = let p = once_is (is_some d.by) (if_proved proved (by_of value)) (λ v. record d { by = Some v }) e h in inr (λ i. cc, ap (λ (x : Draft). x.mode) p.1.2)
mode_says proved option.Skip d value e h = let p = once_is (is_some d.skip) (count_of 99999 value) (λ v. record d { skip = Some v }) e h in inr (λ i. cc, ap (λ (x : Draft). x.mode) p.1.2)
mode_says proved option.Depth d value e h = let p = once_is (is_some d.depth) (number_of 100000 value) (λ v. record d { depth = Some v }) e h in inr (λ i. cc, ap (λ (x : Draft). x.mode) p.1.2)
mode_says proved option.Stride d value e h = let p = once_is (is_some d.stride) (number_of 100000 value) (λ v. record d { stride = Some v }) e h in inr (λ i. cc, ap (λ (x : Draft). x.mode) p.1.2)
mode_says proved option.Timeout d value e h = let p = once_is (is_some d.timeout) (number_of 1000000 value) (λ v. record d { timeout = Some v }) e h in inr (λ i. cc, ap (λ (x : Draft). x.mode) p.1.2)
mode_says proved option.Expect d value e h = let p = once_is (is_some d.expect) (statuses_of value) (λ v. record d { expect = Some v }) e h in inr (λ i. cc, ap (λ (x : Draft). x.mode) p.1.2)
mode_says proved option.Wait d value e h = let p = once_is (is_some d.wait) (switch_of value) (λ v. record d { wait = Some v }) e h in inr (λ i. cc, ap (λ (x : Draft). x.mode) p.1.2)
mode_says proved option.Multiclock d value e h = let p = once_is (is_some d.multiclock) (off_only (switch_of value)) (λ v. record d { multiclock = Some v }) e h in inr (λ i. cc, ap (λ (x : Draft). x.mode) p.1.2)
mode_says proved option.Unknown d value e h = absurd (err_ok e _ h)

proved_some : {A : Type 0} (proved : Bool) (value : Option A) (v : A) → if_proved proved value ≡ Some v → value ≡ Some v
proved_some true value v h = h
proved_some false value v h = absurd (none_some v h)

pub by_says : (proved : Bool) (o : OptionName) (d : Draft) (value : List (List ℕ)) (e : Draft) → option_after proved d o value ≡ Ok e → OptionSays option.By (λ d. d.by) (λ value. by_of value) o d value e
by_says proved option.By d value e h = let p = once_is (is_some d.by) (if_proved proved (by_of value)) (λ v. record d { by = Some v }) e h in inl (refl, none_is d.by p.0, (p.1.0, proved_some proved (by_of value) p.1.0 p.1.1, ap (λ (x : Draft). x.by) p.1.2))
by_says proved option.Mode d value e h = let p = once_is (is_some d.mode) (mode_of value) (λ v. record d { mode = Some v }) e h in inr (λ i. cc, ap (λ (x : Draft). x.by) p.1.2)
by_says proved option.Skip d value e h = let p = once_is (is_some d.skip) (count_of 99999 value) (λ v. record d { skip = Some v }) e h in inr (λ i. cc, ap (λ (x : Draft). x.by) p.1.2)
by_says proved option.Depth d value e h = let p = once_is (is_some d.depth) (number_of 100000 value) (λ v. record d { depth = Some v }) e h in inr (λ i. cc, ap (λ (x : Draft). x.by) p.1.2)
by_says proved option.Stride d value e h = let p = once_is (is_some d.stride) (number_of 100000 value) (λ v. record d { stride = Some v }) e h in inr (λ i. cc, ap (λ (x : Draft). x.by) p.1.2)
by_says proved option.Timeout d value e h = let p = once_is (is_some d.timeout) (number_of 1000000 value) (λ v. record d { timeout = Some v }) e h in inr (λ i. cc, ap (λ (x : Draft). x.by) p.1.2)
by_says proved option.Expect d value e h = let p = once_is (is_some d.expect) (statuses_of value) (λ v. record d { expect = Some v }) e h in inr (λ i. cc, ap (λ (x : Draft). x.by) p.1.2)
by_says proved option.Wait d value e h = let p = once_is (is_some d.wait) (switch_of value) (λ v. record d { wait = Some v }) e h in inr (λ i. cc, ap (λ (x : Draft). x.by) p.1.2)
by_says proved option.Multiclock d value e h = let p = once_is (is_some d.multiclock) (off_only (switch_of value)) (λ v. record d { multiclock = Some v }) e h in inr (λ i. cc, ap (λ (x : Draft). x.by) p.1.2)
by_says proved option.Unknown d value e h = absurd (err_ok e _ h)

pub skip_says : (proved : Bool) (o : OptionName) (d : Draft) (value : List (List ℕ)) (e : Draft) → option_after proved d o value ≡ Ok e → OptionSays option.Skip (λ d. d.skip) (λ value. count_of 99999 value) o d value e
skip_says proved option.Mode d value e h = let p = once_is (is_some d.mode) (mode_of value) (λ v. record d { mode = Some v }) e h in inr (λ i. cc, ap (λ (x : Draft). x.skip) p.1.2)
skip_says proved option.By d value e h = let p = once_is (is_some d.by) (if_proved proved (by_of value)) (λ v. record d { by = Some v }) e h in inr (λ i. cc, ap (λ (x : Draft). x.skip) p.1.2)
skip_says proved option.Skip d value e h = let p = once_is (is_some d.skip) (count_of 99999 value) (λ v. record d { skip = Some v }) e h in inl (refl, none_is d.skip p.0, (p.1.0, p.1.1, ap (λ (x : Draft). x.skip) p.1.2))
skip_says proved option.Depth d value e h = let p = once_is (is_some d.depth) (number_of 100000 value) (λ v. record d { depth = Some v }) e h in inr (λ i. cc, ap (λ (x : Draft). x.skip) p.1.2)
skip_says proved option.Stride d value e h = let p = once_is (is_some d.stride) (number_of 100000 value) (λ v. record d { stride = Some v }) e h in inr (λ i. cc, ap (λ (x : Draft). x.skip) p.1.2)
skip_says proved option.Timeout d value e h = let p = once_is (is_some d.timeout) (number_of 1000000 value) (λ v. record d { timeout = Some v }) e h in inr (λ i. cc, ap (λ (x : Draft). x.skip) p.1.2)
skip_says proved option.Expect d value e h = let p = once_is (is_some d.expect) (statuses_of value) (λ v. record d { expect = Some v }) e h in inr (λ i. cc, ap (λ (x : Draft). x.skip) p.1.2)
skip_says proved option.Wait d value e h = let p = once_is (is_some d.wait) (switch_of value) (λ v. record d { wait = Some v }) e h in inr (λ i. cc, ap (λ (x : Draft). x.skip) p.1.2)
skip_says proved option.Multiclock d value e h = let p = once_is (is_some d.multiclock) (off_only (switch_of value)) (λ v. record d { multiclock = Some v }) e h in inr (λ i. cc, ap (λ (x : Draft). x.skip) p.1.2)
skip_says proved option.Unknown d value e h = absurd (err_ok e _ h)

pub depth_says : (proved : Bool) (o : OptionName) (d : Draft) (value : List (List ℕ)) (e : Draft) → option_after proved d o value ≡ Ok e → OptionSays option.Depth (λ d. d.depth) (λ value. number_of 100000 value) o d value e
depth_says proved option.Mode d value e h = let p = once_is (is_some d.mode) (mode_of value) (λ v. record d { mode = Some v }) e h in inr (λ i. cc, ap (λ (x : Draft). x.depth) p.1.2)
depth_says proved option.By d value e h = let p = once_is (is_some d.by) (if_proved proved (by_of value)) (λ v. record d { by = Some v }) e h in inr (λ i. cc, ap (λ (x : Draft). x.depth) p.1.2)
depth_says proved option.Skip d value e h = let p = once_is (is_some d.skip) (count_of 99999 value) (λ v. record d { skip = Some v }) e h in inr (λ i. cc, ap (λ (x : Draft). x.depth) p.1.2)
depth_says proved option.Depth d value e h = let p = once_is (is_some d.depth) (number_of 100000 value) (λ v. record d { depth = Some v }) e h in inl (refl, none_is d.depth p.0, (p.1.0, p.1.1, ap (λ (x : Draft). x.depth) p.1.2))
depth_says proved option.Stride d value e h = let p = once_is (is_some d.stride) (number_of 100000 value) (λ v. record d { stride = Some v }) e h in inr (λ i. cc, ap (λ (x : Draft). x.depth) p.1.2)
depth_says proved option.Timeout d value e h = let p = once_is (is_some d.timeout) (number_of 1000000 value) (λ v. record d { timeout = Some v }) e h in inr (λ i. cc, ap (λ (x : Draft). x.depth) p.1.2)
depth_says proved option.Expect d value e h = let p = once_is (is_some d.expect) (statuses_of value) (λ v. record d { expect = Some v }) e h in inr (λ i. cc, ap (λ (x : Draft). x.depth) p.1.2)
depth_says proved option.Wait d value e h = let p = once_is (is_some d.wait) (switch_of value) (λ v. record d { wait = Some v }) e h in inr (λ i. cc, ap (λ (x : Draft). x.depth) p.1.2)
depth_says proved option.Multiclock d value e h = let p = once_is (is_some d.multiclock) (off_only (switch_of value)) (λ v. record d { multiclock = Some v }) e h in inr (λ i. cc, ap (λ (x : Draft). x.depth) p.1.2)
depth_says proved option.Unknown d value e h = absurd (err_ok e _ h)

pub stride_says : (proved : Bool) (o : OptionName) (d : Draft) (value : List (List ℕ)) (e : Draft) → option_after proved d o value ≡ Ok e → OptionSays option.Stride (λ d. d.stride) (λ value. number_of 100000 value) o d value e
stride_says proved option.Mode d value e h = let p = once_is (is_some d.mode) (mode_of value) (λ v. record d { mode = Some v }) e h in inr (λ i. cc, ap (λ (x : Draft). x.stride) p.1.2)
stride_says proved option.By d value e h = let p = once_is (is_some d.by) (if_proved proved (by_of value)) (λ v. record d { by = Some v }) e h in inr (λ i. cc, ap (λ (x : Draft). x.stride) p.1.2)
stride_says proved option.Skip d value e h = let p = once_is (is_some d.skip) (count_of 99999 value) (λ v. record d { skip = Some v }) e h in inr (λ i. cc, ap (λ (x : Draft). x.stride) p.1.2)
stride_says proved option.Depth d value e h = let p = once_is (is_some d.depth) (number_of 100000 value) (λ v. record d { depth = Some v }) e h in inr (λ i. cc, ap (λ (x : Draft). x.stride) p.1.2)
stride_says proved option.Stride d value e h = let p = once_is (is_some d.stride) (number_of 100000 value) (λ v. record d { stride = Some v }) e h in inl (refl, none_is d.stride p.0, (p.1.0, p.1.1, ap (λ (x : Draft). x.stride) p.1.2))
stride_says proved option.Timeout d value e h = let p = once_is (is_some d.timeout) (number_of 1000000 value) (λ v. record d { timeout = Some v }) e h in inr (λ i. cc, ap (λ (x : Draft). x.stride) p.1.2)
stride_says proved option.Expect d value e h = let p = once_is (is_some d.expect) (statuses_of value) (λ v. record d { expect = Some v }) e h in inr (λ i. cc, ap (λ (x : Draft). x.stride) p.1.2)
stride_says proved option.Wait d value e h = let p = once_is (is_some d.wait) (switch_of value) (λ v. record d { wait = Some v }) e h in inr (λ i. cc, ap (λ (x : Draft). x.stride) p.1.2)
stride_says proved option.Multiclock d value e h = let p = once_is (is_some d.multiclock) (off_only (switch_of value)) (λ v. record d { multiclock = Some v }) e h in inr (λ i. cc, ap (λ (x : Draft). x.stride) p.1.2)
stride_says proved option.Unknown d value e h = absurd (err_ok e _ h)

pub timeout_says : (proved : Bool) (o : OptionName) (d : Draft) (value : List (List ℕ)) (e : Draft) → option_after proved d o value ≡ Ok e → OptionSays option.Timeout (λ d. d.timeout) (λ value. number_of 1000000 value) o d value e
timeout_says proved option.Mode d value e h = let p = once_is (is_some d.mode) (mode_of value) (λ v. record d { mode = Some v }) e h in inr (λ i. cc, ap (λ (x : Draft). x.timeout) p.1.2)
timeout_says proved option.By d value e h = let p = once_is (is_some d.by) (if_proved proved (by_of value)) (λ v. record d { by = Some v }) e h in inr (λ i. cc, ap (λ (x : Draft). x.timeout) p.1.2)
timeout_says proved option.Skip d value e h = let p = once_is (is_some d.skip) (count_of 99999 value) (λ v. record d { skip = Some v }) e h in inr (λ i. cc, ap (λ (x : Draft). x.timeout) p.1.2)
timeout_says proved option.Depth d value e h = let p = once_is (is_some d.depth) (number_of 100000 value) (λ v. record d { depth = Some v }) e h in inr (λ i. cc, ap (λ (x : Draft). x.timeout) p.1.2)
timeout_says proved option.Stride d value e h = let p = once_is (is_some d.stride) (number_of 100000 value) (λ v. record d { stride = Some v }) e h in inr (λ i. cc, ap (λ (x : Draft). x.timeout) p.1.2)
timeout_says proved option.Timeout d value e h = let p = once_is (is_some d.timeout) (number_of 1000000 value) (λ v. record d { timeout = Some v }) e h in inl (refl, none_is d.timeout p.0, (p.1.0, p.1.1, ap (λ (x : Draft). x.timeout) p.1.2))
timeout_says proved option.Expect d value e h = let p = once_is (is_some d.expect) (statuses_of value) (λ v. record d { expect = Some v }) e h in inr (λ i. cc, ap (λ (x : Draft). x.timeout) p.1.2)
timeout_says proved option.Wait d value e h = let p = once_is (is_some d.wait) (switch_of value) (λ v. record d { wait = Some v }) e h in inr (λ i. cc, ap (λ (x : Draft). x.timeout) p.1.2)
timeout_says proved option.Multiclock d value e h = let p = once_is (is_some d.multiclock) (off_only (switch_of value)) (λ v. record d { multiclock = Some v }) e h in inr (λ i. cc, ap (λ (x : Draft). x.timeout) p.1.2)
timeout_says proved option.Unknown d value e h = absurd (err_ok e _ h)

pub expect_says : (proved : Bool) (o : OptionName) (d : Draft) (value : List (List ℕ)) (e : Draft) → option_after proved d o value ≡ Ok e → OptionSays option.Expect (λ d. d.expect) (λ value. statuses_of value) o d value e
expect_says proved option.Mode d value e h = let p = once_is (is_some d.mode) (mode_of value) (λ v. record d { mode = Some v }) e h in inr (λ i. cc, ap (λ (x : Draft). x.expect) p.1.2)
expect_says proved option.By d value e h = let p = once_is (is_some d.by) (if_proved proved (by_of value)) (λ v. record d { by = Some v }) e h in inr (λ i. cc, ap (λ (x : Draft). x.expect) p.1.2)
expect_says proved option.Skip d value e h = let p = once_is (is_some d.skip) (count_of 99999 value) (λ v. record d { skip = Some v }) e h in inr (λ i. cc, ap (λ (x : Draft). x.expect) p.1.2)
expect_says proved option.Depth d value e h = let p = once_is (is_some d.depth) (number_of 100000 value) (λ v. record d { depth = Some v }) e h in inr (λ i. cc, ap (λ (x : Draft). x.expect) p.1.2)
expect_says proved option.Stride d value e h = let p = once_is (is_some d.stride) (number_of 100000 value) (λ v. record d { stride = Some v }) e h in inr (λ i. cc, ap (λ (x : Draft). x.expect) p.1.2)
expect_says proved option.Timeout d value e h = let p = once_is (is_some d.timeout) (number_of 1000000 value) (λ v. record d { timeout = Some v }) e h in inr (λ i. cc, ap (λ (x : Draft). x.expect) p.1.2)
expect_says proved option.Expect d value e h = let p = once_is (is_some d.expect) (statuses_of value) (λ v. record d { expect = Some v }) e h in inl (refl, none_is d.expect p.0, (p.1.0, p.1.1, ap (λ (x : Draft). x.expect) p.1.2))
expect_says proved option.Wait d value e h = let p = once_is (is_some d.wait) (switch_of value) (λ v. record d { wait = Some v }) e h in inr (λ i. cc, ap (λ (x : Draft). x.expect) p.1.2)
expect_says proved option.Multiclock d value e h = let p = once_is (is_some d.multiclock) (off_only (switch_of value)) (λ v. record d { multiclock = Some v }) e h in inr (λ i. cc, ap (λ (x : Draft). x.expect) p.1.2)
expect_says proved option.Unknown d value e h = absurd (err_ok e _ h)

pub wait_says : (proved : Bool) (o : OptionName) (d : Draft) (value : List (List ℕ)) (e : Draft) → option_after proved d o value ≡ Ok e → OptionSays option.Wait (λ d. d.wait) (λ value. switch_of value) o d value e
wait_says proved option.Mode d value e h = let p = once_is (is_some d.mode) (mode_of value) (λ v. record d { mode = Some v }) e h in inr (λ i. cc, ap (λ (x : Draft). x.wait) p.1.2)
wait_says proved option.By d value e h = let p = once_is (is_some d.by) (if_proved proved (by_of value)) (λ v. record d { by = Some v }) e h in inr (λ i. cc, ap (λ (x : Draft). x.wait) p.1.2)
wait_says proved option.Skip d value e h = let p = once_is (is_some d.skip) (count_of 99999 value) (λ v. record d { skip = Some v }) e h in inr (λ i. cc, ap (λ (x : Draft). x.wait) p.1.2)
wait_says proved option.Depth d value e h = let p = once_is (is_some d.depth) (number_of 100000 value) (λ v. record d { depth = Some v }) e h in inr (λ i. cc, ap (λ (x : Draft). x.wait) p.1.2)
wait_says proved option.Stride d value e h = let p = once_is (is_some d.stride) (number_of 100000 value) (λ v. record d { stride = Some v }) e h in inr (λ i. cc, ap (λ (x : Draft). x.wait) p.1.2)
wait_says proved option.Timeout d value e h = let p = once_is (is_some d.timeout) (number_of 1000000 value) (λ v. record d { timeout = Some v }) e h in inr (λ i. cc, ap (λ (x : Draft). x.wait) p.1.2)
wait_says proved option.Expect d value e h = let p = once_is (is_some d.expect) (statuses_of value) (λ v. record d { expect = Some v }) e h in inr (λ i. cc, ap (λ (x : Draft). x.wait) p.1.2)
wait_says proved option.Wait d value e h = let p = once_is (is_some d.wait) (switch_of value) (λ v. record d { wait = Some v }) e h in inl (refl, none_is d.wait p.0, (p.1.0, p.1.1, ap (λ (x : Draft). x.wait) p.1.2))
wait_says proved option.Multiclock d value e h = let p = once_is (is_some d.multiclock) (off_only (switch_of value)) (λ v. record d { multiclock = Some v }) e h in inr (λ i. cc, ap (λ (x : Draft). x.wait) p.1.2)
wait_says proved option.Unknown d value e h = absurd (err_ok e _ h)

pub multiclock_says : (proved : Bool) (o : OptionName) (d : Draft) (value : List (List ℕ)) (e : Draft) → option_after proved d o value ≡ Ok e → OptionSays option.Multiclock (λ d. d.multiclock) (λ value. off_only (switch_of value)) o d value e
multiclock_says proved option.Mode d value e h = let p = once_is (is_some d.mode) (mode_of value) (λ v. record d { mode = Some v }) e h in inr (λ i. cc, ap (λ (x : Draft). x.multiclock) p.1.2)
multiclock_says proved option.By d value e h = let p = once_is (is_some d.by) (if_proved proved (by_of value)) (λ v. record d { by = Some v }) e h in inr (λ i. cc, ap (λ (x : Draft). x.multiclock) p.1.2)
multiclock_says proved option.Skip d value e h = let p = once_is (is_some d.skip) (count_of 99999 value) (λ v. record d { skip = Some v }) e h in inr (λ i. cc, ap (λ (x : Draft). x.multiclock) p.1.2)
multiclock_says proved option.Depth d value e h = let p = once_is (is_some d.depth) (number_of 100000 value) (λ v. record d { depth = Some v }) e h in inr (λ i. cc, ap (λ (x : Draft). x.multiclock) p.1.2)
multiclock_says proved option.Stride d value e h = let p = once_is (is_some d.stride) (number_of 100000 value) (λ v. record d { stride = Some v }) e h in inr (λ i. cc, ap (λ (x : Draft). x.multiclock) p.1.2)
multiclock_says proved option.Timeout d value e h = let p = once_is (is_some d.timeout) (number_of 1000000 value) (λ v. record d { timeout = Some v }) e h in inr (λ i. cc, ap (λ (x : Draft). x.multiclock) p.1.2)
multiclock_says proved option.Expect d value e h = let p = once_is (is_some d.expect) (statuses_of value) (λ v. record d { expect = Some v }) e h in inr (λ i. cc, ap (λ (x : Draft). x.multiclock) p.1.2)
multiclock_says proved option.Wait d value e h = let p = once_is (is_some d.wait) (switch_of value) (λ v. record d { wait = Some v }) e h in inr (λ i. cc, ap (λ (x : Draft). x.multiclock) p.1.2)
multiclock_says proved option.Multiclock d value e h = let p = once_is (is_some d.multiclock) (off_only (switch_of value)) (λ v. record d { multiclock = Some v }) e h in inl (refl, none_is d.multiclock p.0, (p.1.0, p.1.1, ap (λ (x : Draft). x.multiclock) p.1.2))
multiclock_says proved option.Unknown d value e h = absurd (err_ok e _ h)

-- an option line adds no engine and no script
pub beside_options : (proved : Bool) (d : Draft) (o : OptionName) (value : List (List ℕ)) (e : Draft) → option_after proved d o value ≡ Ok e → (e.engines ≡ d.engines) × (e.script ≡ d.script)
beside_options proved d option.Mode value e h = let p = once_is (is_some d.mode) (mode_of value) (λ v. record d { mode = Some v }) e h in (ap (λ (x : Draft). x.engines) p.1.2, ap (λ (x : Draft). x.script) p.1.2)
beside_options proved d option.By value e h = let p = once_is (is_some d.by) (if_proved proved (by_of value)) (λ v. record d { by = Some v }) e h in (ap (λ (x : Draft). x.engines) p.1.2, ap (λ (x : Draft). x.script) p.1.2)
beside_options proved d option.Skip value e h = let p = once_is (is_some d.skip) (count_of 99999 value) (λ v. record d { skip = Some v }) e h in (ap (λ (x : Draft). x.engines) p.1.2, ap (λ (x : Draft). x.script) p.1.2)
beside_options proved d option.Depth value e h = let p = once_is (is_some d.depth) (number_of 100000 value) (λ v. record d { depth = Some v }) e h in (ap (λ (x : Draft). x.engines) p.1.2, ap (λ (x : Draft). x.script) p.1.2)
beside_options proved d option.Stride value e h = let p = once_is (is_some d.stride) (number_of 100000 value) (λ v. record d { stride = Some v }) e h in (ap (λ (x : Draft). x.engines) p.1.2, ap (λ (x : Draft). x.script) p.1.2)
beside_options proved d option.Timeout value e h = let p = once_is (is_some d.timeout) (number_of 1000000 value) (λ v. record d { timeout = Some v }) e h in (ap (λ (x : Draft). x.engines) p.1.2, ap (λ (x : Draft). x.script) p.1.2)
beside_options proved d option.Expect value e h = let p = once_is (is_some d.expect) (statuses_of value) (λ v. record d { expect = Some v }) e h in (ap (λ (x : Draft). x.engines) p.1.2, ap (λ (x : Draft). x.script) p.1.2)
beside_options proved d option.Wait value e h = let p = once_is (is_some d.wait) (switch_of value) (λ v. record d { wait = Some v }) e h in (ap (λ (x : Draft). x.engines) p.1.2, ap (λ (x : Draft). x.script) p.1.2)
beside_options proved d option.Multiclock value e h = let p = once_is (is_some d.multiclock) (off_only (switch_of value)) (λ v. record d { multiclock = Some v }) e h in (ap (λ (x : Draft). x.engines) p.1.2, ap (λ (x : Draft). x.script) p.1.2)
beside_options proved d option.Unknown value e h = absurd (err_ok e _ h)
