-- Which lines are refused: those at fault, for the first of their faults.
use Rattle.std.proofs.Common.{◌≡◌, ◌≢◌, ◌↔◌, ◌⊎◌, ℕ, suc, ◌≤◌, Bool, true, false, List, [], ◌∷◌, ◌++◌, length, Option, Some, None, Result, Ok, Err, refl, sym, ◌∙◌, ap, subst, inl, inr, arith, codes, leb}
use Rattle.std.proofs.lemmas.Bool.{cases_Bool, false≢true, leb-true, leb-false, le-leb}
use Rattle.std.proofs.lemmas.List.{length-map}
use Rattle.std.proofs.lemmas.List.Elements.{Contains-append_right}
use Rattle.std.proofs.lemmas.Slice.Eq.{bytes_eq-Decides}
use Rattle.std.specs.Prelude.{◌||◌, Contains, bytes_eq, is_some, is_ok}
use Rattle.sby_terms.specs.Address.{IsAddress, is_address}
use Rattle.sby_terms.specs.declared.engine.Engine.{Engine}
use Rattle.sby_terms.specs.declared.engine.Engine.TheVariants as engine
use Rattle.sby_task.specs.Values.{by_of, mode_of, count_of, number_of, statuses_of, switch_of}
use Rattle.sby_task.specs.Marks.{are_marked}
use Rattle.sby_task.specs.Engines.{engine_name, with_conflicts, sat_of, is_net, net_of, program_of, marked_of, engine_from, engine_of}
use Rattle.sby_task.specs.Draft.{blank, option_name, option_after, once, off_only, if_proved, with_engine, read_command}
use Rattle.sby_task.specs.Files.{bytes_in, path_in}
use Rattle.sby_task.specs.Proved.{is_proved}
use Rattle.sby_task.specs.Task.{is_found, seek, found, script_after, section_after, row_after}
use Rattle.sby_task.specs.Expand.{drafted}
use Rattle.sby_task.specs.Said.{IsUnset, IsSet, HasOption, LacksMarks, engine_lines, script_lines, NoneStands}
use Rattle.sby_task.specs.Faulty.{spelled, SetsOption, IsValue, program_engines, left_out_engines, IsSatValue, IsNetValue, ReadsDesign, NoneGives, IsFaulty, rank}
use Rattle.sby_file.specs.declared.config.Row.{Row}
use Rattle.sby_file.specs.declared.config.StoredFile.{StoredFile}
use Rattle.sby_task.specs.declared.draft.Draft.{Draft}
use Rattle.sby_task.specs.declared.draft.OptionName.{OptionName}
use Rattle.sby_task.specs.declared.draft.OptionName.TheVariants as option
use Rattle.sby_task.specs.declared.engines.EngineName.{EngineName}
use Rattle.sby_task.specs.declared.engines.EngineName.TheVariants as name
use Rattle.sby_file.specs.declared.section.Section.{Section}
use Rattle.sby_file.specs.declared.section.Section.TheVariants.{Nowhere, Tasks, Options, Engines, Script, Files, File, Unknown}
use Rattle.sby_task.specs.declared.task_fault.TaskKind.{TaskKind}
use Rattle.sby_task.specs.declared.task_fault.TaskKind.TheVariants as kind
use Rattle.sby_terms.proofs.Numbers.{both_true}
use Rattle.sby_task.proofs.RowsSaid.{is_spelled, none_some, none_is, by_says, mode_says, skip_says, depth_says, stride_says, timeout_says, expect_says, wait_says, multiclock_says}
use Rattle.sby_task.proofs.Said.{answer, engines_read, script_read, script_unread}
use Rattle.sby_task.proofs.CyclesSaid.{set_stands, stands_set}
use Rattle.sby_task.proofs.Designs.{first_or_later, stands, none_stands, is_path, none_gives}
use Rattle.sby_task.proofs.MarkCounts.{marked, unmarked}
use Rattle.sby_task.proofs.Proving.{none_proved, proved_none}
use Rattle.sby_task.proofs.EngineLines.{ok_err, err_same}

not_some : {A : Type 0} (o : Option A) → ((a : A) → o ≡ Some a → ⊥) → o ≡ None
not_some None h = refl
not_some (Some a) h = absurd (h a refl)

pub not_true : (b : Bool) → (b ≡ true → ⊥) → b ≡ false
not_true true h = absurd (h refl)
not_true false h = refl

neither : (a b : Bool) → (a || b) ≡ false → (a ≡ false) × (b ≡ false)
neither true b h = absurd (false≢true (sym h))
neither false b h = (refl, h)

-- ---- one of some names
abbrev Among : List (List ℕ) → List ℕ → Type 0
Among [] word = ⊥
Among (one ∷ more) word = (word ≡ one) ⊎ Among more word

among : (words : List (List ℕ)) (word : List ℕ) → Contains words word → Among words word
among [] word c = absurd (omega (arith, c.1))
among (one ∷ more) word c = elim (first_or_later one more word c) as (λ _. Among (one ∷ more) word) [
  | inl same ↦ inl same
  | inr later ↦ inr (among more word later)
]

contained : (words : List (List ℕ)) (word : List ℕ) → Among words word → Contains words word
contained [] word a = absurd a
contained (one ∷ more) word (inl same) = (0, omega arith, sym same)
contained (one ∷ more) word (inr later) = let r = contained more word later in (suc r.0, omega (arith, r.1), r.2)

-- ---- options
own_name : (o : OptionName) → o ≢ option.Unknown → option_name (spelled o) ≡ o
own_name option.Mode n = refl
own_name option.By n = refl
own_name option.Skip n = refl
own_name option.Depth n = refl
own_name option.Stride n = refl
own_name option.Timeout n = refl
own_name option.Expect n = refl
own_name option.Wait n = refl
own_name option.Multiclock n = refl
own_name option.Unknown n = absurd (n refl)

known_or : (o : OptionName) → (o ≡ option.Unknown) ⊎ (o ≢ option.Unknown)
known_or option.Mode = inr (λ i. cc)
known_or option.By = inr (λ i. cc)
known_or option.Skip = inr (λ i. cc)
known_or option.Depth = inr (λ i. cc)
known_or option.Stride = inr (λ i. cc)
known_or option.Timeout = inr (λ i. cc)
known_or option.Expect = inr (λ i. cc)
known_or option.Wait = inr (λ i. cc)
known_or option.Multiclock = inr (λ i. cc)
known_or option.Unknown = inl refl

abbrev is_set : OptionName → Draft → Bool
is_set option.Mode d = is_some d.mode
is_set option.By d = is_some d.by
is_set option.Skip d = is_some d.skip
is_set option.Depth d = is_some d.depth
is_set option.Stride d = is_some d.stride
is_set option.Timeout d = is_some d.timeout
is_set option.Expect d = is_some d.expect
is_set option.Wait d = is_some d.wait
is_set option.Multiclock d = is_some d.multiclock
is_set option.Unknown d = false

module _ {A : Type 0} (had : Bool) (value : Option A) (put : A → Draft) where
  once_double : had ≡ true → once had value put ≡ Err kind.DoubleOption
  once_double h = rw h refl

  once_bad : value ≡ None → (k : TaskKind) × (once had value put ≡ Err k) × (rank k ≤ 4)
  once_bad h = elim (cases_Bool had) as (λ _. (k : TaskKind) × (once had value put ≡ Err k) × (rank k ≤ 4)) [
    | inl y ↦ (kind.DoubleOption, rw y refl, omega arith)
    | inr n ↦ (kind.BadValue, rw (n, h) refl, omega arith)
  ]

  once_why : (k : TaskKind) → once had value put ≡ Err k → ((k ≡ kind.DoubleOption) × (had ≡ true)) ⊎ ((k ≡ kind.BadValue) × (value ≡ None))
  once_why k h = by had value refl refl h
    where
      by : (b : Bool) (v : Option A) → had ≡ b → value ≡ v → once b v put ≡ Err k → ((k ≡ kind.DoubleOption) × (had ≡ true)) ⊎ ((k ≡ kind.BadValue) × (value ≡ None))
      by true v b e h = inl (sym (err_same kind.DoubleOption k h), b)
      by false None b e h = inr (sym (err_same kind.BadValue k h), e)
      by false (Some a) b e h = absurd (ok_err _ k h)

off_none : (o : Option Bool) → (o ≡ Some false → ⊥) → off_only o ≡ None
off_none None h = refl
off_none (Some true) h = refl
off_none (Some false) h = absurd (h refl)

unproved : {A : Type 0} (proved : Bool) (o : Option A) → (o ≡ None) ⊎ (proved ≡ false) → if_proved proved o ≡ None
unproved true o (inl h) = h
unproved true o (inr h) = absurd (false≢true (sym h))
unproved false o h = refl

why_none : {A : Type 0} (proved : Bool) (o : Option A) → if_proved proved o ≡ None → (o ≡ None) ⊎ (proved ≡ false)
why_none true o h = inl h
why_none false o h = inr refl

module _ (proved : Bool) (d : Draft) (value : List (List ℕ)) where
  doubled : (o : OptionName) → o ≢ option.Unknown → is_set o d ≡ true → option_after proved d o value ≡ Err kind.DoubleOption
  doubled option.Mode n h = once_double (is_some d.mode) (mode_of value) (λ v. record d { mode = Some v }) h
  doubled option.By n h = once_double (is_some d.by) (if_proved proved (by_of value)) (λ v. record d { by = Some v }) h
  doubled option.Skip n h = once_double (is_some d.skip) (count_of 99999 value) (λ v. record d { skip = Some v }) h
  doubled option.Depth n h = once_double (is_some d.depth) (number_of 100000 value) (λ v. record d { depth = Some v }) h
  doubled option.Stride n h = once_double (is_some d.stride) (number_of 100000 value) (λ v. record d { stride = Some v }) h
  doubled option.Timeout n h = once_double (is_some d.timeout) (number_of 1000000 value) (λ v. record d { timeout = Some v }) h
  doubled option.Expect n h = once_double (is_some d.expect) (statuses_of value) (λ v. record d { expect = Some v }) h
  doubled option.Wait n h = once_double (is_some d.wait) (switch_of value) (λ v. record d { wait = Some v }) h
  doubled option.Multiclock n h = once_double (is_some d.multiclock) (off_only (switch_of value)) (λ v. record d { multiclock = Some v }) h
  doubled option.Unknown n h = absurd (n refl)

  abbrev Worse : OptionName → Type 0
  Worse o = (k : TaskKind) × (option_after proved d o value ≡ Err k) × (rank k ≤ 4)

  bad : (o : OptionName) → o ≢ option.Unknown → (IsValue o value → ⊥) → Worse o
  bad option.Mode n h = once_bad (is_some d.mode) (mode_of value) (λ v. record d { mode = Some v }) (not_some (mode_of value) (λ a e. h (a, e)))
  bad option.By n h = once_bad (is_some d.by) (if_proved proved (by_of value)) (λ v. record d { by = Some v }) (unproved proved (by_of value) (inl (not_some (by_of value) (λ a e. h (a, e)))))
  bad option.Skip n h = once_bad (is_some d.skip) (count_of 99999 value) (λ v. record d { skip = Some v }) (not_some (count_of 99999 value) (λ a e. h (a, e)))
  bad option.Depth n h = once_bad (is_some d.depth) (number_of 100000 value) (λ v. record d { depth = Some v }) (not_some (number_of 100000 value) (λ a e. h (a, e)))
  bad option.Stride n h = once_bad (is_some d.stride) (number_of 100000 value) (λ v. record d { stride = Some v }) (not_some (number_of 100000 value) (λ a e. h (a, e)))
  bad option.Timeout n h = once_bad (is_some d.timeout) (number_of 1000000 value) (λ v. record d { timeout = Some v }) (not_some (number_of 1000000 value) (λ a e. h (a, e)))
  bad option.Expect n h = once_bad (is_some d.expect) (statuses_of value) (λ v. record d { expect = Some v }) (not_some (statuses_of value) (λ a e. h (a, e)))
  bad option.Wait n h = once_bad (is_some d.wait) (switch_of value) (λ v. record d { wait = Some v }) (not_some (switch_of value) (λ a e. h (a, e)))
  bad option.Multiclock n h = once_bad (is_some d.multiclock) (off_only (switch_of value)) (λ v. record d { multiclock = Some v }) (off_none (switch_of value) h)
  bad option.Unknown n h = absurd (n refl)

  alone : proved ≡ false → Worse option.By
  alone h = once_bad (is_some d.by) (if_proved proved (by_of value)) (λ v. record d { by = Some v }) (unproved proved (by_of value) (inr h))

  abbrev Reason : Bool → Type 0 → Type 0 → TaskKind → Type 0
  Reason had Good Alone k = ((k ≡ kind.DoubleOption) × (had ≡ true)) ⊎ ((k ≡ kind.BadValue) × ((Good → ⊥) ⊎ Alone))

  abbrev Why : OptionName → TaskKind → Type 0
  Why o k = Reason (is_set o d) (IsValue o value) ((o ≡ option.By) × (proved ≡ false)) k

  none_read : {A : Type 0} (Alone : Type 0) (k : TaskKind) (had : Bool) (read : Option A) → ((k ≡ kind.DoubleOption) × (had ≡ true)) ⊎ ((k ≡ kind.BadValue) × (read ≡ None))
      → Reason had ((a : A) × (read ≡ Some a)) Alone k
  none_read Alone k had read (inl p) = inl p
  none_read Alone k had read (inr p) = inr (p.0, inl (λ s. none_some s.0 (sym p.1 ∙ s.1)))

  why : (o : OptionName) → o ≢ option.Unknown → (k : TaskKind) → option_after proved d o value ≡ Err k → Why o k
  why option.Mode n k h = none_read ((option.Mode ≡ option.By) × (proved ≡ false)) k (is_some d.mode) (mode_of value) (once_why (is_some d.mode) (mode_of value) (λ v. record d { mode = Some v }) k h)
  why option.By n k h = elim (once_why (is_some d.by) (if_proved proved (by_of value)) (λ v. record d { by = Some v }) k h) as (λ _. Why option.By k) [
    | inl p ↦ inl p
    | inr p ↦ elim (why_none proved (by_of value) p.1) as (λ _. Why option.By k) [
      | inl none ↦ inr (p.0, inl (λ s. none_some s.0 (sym none ∙ s.1)))
      | inr never ↦ inr (p.0, inr (refl, never))
    ]
  ]
  why option.Skip n k h = none_read ((option.Skip ≡ option.By) × (proved ≡ false)) k (is_some d.skip) (count_of 99999 value) (once_why (is_some d.skip) (count_of 99999 value) (λ v. record d { skip = Some v }) k h)
  why option.Depth n k h = none_read ((option.Depth ≡ option.By) × (proved ≡ false)) k (is_some d.depth) (number_of 100000 value) (once_why (is_some d.depth) (number_of 100000 value) (λ v. record d { depth = Some v }) k h)
  why option.Stride n k h = none_read ((option.Stride ≡ option.By) × (proved ≡ false)) k (is_some d.stride) (number_of 100000 value) (once_why (is_some d.stride) (number_of 100000 value) (λ v. record d { stride = Some v }) k h)
  why option.Timeout n k h = none_read ((option.Timeout ≡ option.By) × (proved ≡ false)) k (is_some d.timeout) (number_of 1000000 value) (once_why (is_some d.timeout) (number_of 1000000 value) (λ v. record d { timeout = Some v }) k h)
  why option.Expect n k h = none_read ((option.Expect ≡ option.By) × (proved ≡ false)) k (is_some d.expect) (statuses_of value) (once_why (is_some d.expect) (statuses_of value) (λ v. record d { expect = Some v }) k h)
  why option.Wait n k h = none_read ((option.Wait ≡ option.By) × (proved ≡ false)) k (is_some d.wait) (switch_of value) (once_why (is_some d.wait) (switch_of value) (λ v. record d { wait = Some v }) k h)
  why option.Multiclock n k h = elim (once_why (is_some d.multiclock) (off_only (switch_of value)) (λ v. record d { multiclock = Some v }) k h) as (λ _. Why option.Multiclock k) [
    | inl p ↦ inl p
    | inr p ↦ inr (p.0, inl (λ s. none_some false (sym p.1 ∙ ap off_only s)))
  ]
  why option.Unknown n k h = absurd (n refl)

-- ---- engines
abbrev Spelt : List ℕ → EngineName → Type 0
Spelt word name.Sat = word ≡ codes "sat"
Spelt word name.Drup = word ≡ codes "drup"
Spelt word name.Btor = word ≡ codes "btor"
Spelt word name.Inv = word ≡ codes "inv"
Spelt word name.Lrat = word ≡ codes "lrat"
Spelt word name.Proof = word ≡ codes "proof"
Spelt word name.ProofBinary = word ≡ codes "proofb"
Spelt word name.Net = word ≡ codes "net"
Spelt word name.LeftOut = Among left_out_engines word
Spelt word name.Unknown = Among (codes "sat" ∷ codes "net" ∷ program_engines ++ left_out_engines) word → ⊥

abbrev Either : Bool → Type 0
Either b = (b ≡ true) ⊎ (b ≡ false)

spelt : (word : List ℕ) → Spelt word (engine_name word)
spelt word = by (cases_Bool (bytes_eq word (codes "sat"))) (cases_Bool (bytes_eq word (codes "drup"))) (cases_Bool (bytes_eq word (codes "btor"))) (cases_Bool (bytes_eq word (codes "inv"))) (cases_Bool (bytes_eq word (codes "lrat"))) (cases_Bool (bytes_eq word (codes "proof"))) (cases_Bool (bytes_eq word (codes "proofb"))) (cases_Bool (bytes_eq word (codes "net"))) (cases_Bool (bytes_eq word (codes "smtbmc"))) (cases_Bool (bytes_eq word (codes "abc"))) (cases_Bool (bytes_eq word (codes "aiger"))) (cases_Bool (bytes_eq word (codes "itp"))) (cases_Bool (bytes_eq word (codes "none")))
  where
    give : (n : EngineName) → engine_name word ≡ n → Spelt word n → Spelt word (engine_name word)
    give n e s = subst (Spelt word) (sym e) s

    is : (other : List ℕ) → bytes_eq word other ≡ true → word ≡ other
    is other y = (bytes_eq-Decides word other).0 y

    never : (other : List ℕ) → bytes_eq word other ≡ false → word ≡ other → ⊥
    never other n e = false≢true (sym n ∙ (bytes_eq-Decides word other).1 e)

    by : Either (bytes_eq word (codes "sat")) → Either (bytes_eq word (codes "drup")) → Either (bytes_eq word (codes "btor")) → Either (bytes_eq word (codes "inv")) → Either (bytes_eq word (codes "lrat")) → Either (bytes_eq word (codes "proof")) → Either (bytes_eq word (codes "proofb")) → Either (bytes_eq word (codes "net")) → Either (bytes_eq word (codes "smtbmc")) → Either (bytes_eq word (codes "abc")) → Either (bytes_eq word (codes "aiger")) → Either (bytes_eq word (codes "itp")) → Either (bytes_eq word (codes "none")) → Spelt word (engine_name word)
    by (inl a) b c d e f g h i j k m n = give name.Sat (rw a refl) (is (codes "sat") a)
    by (inr a) (inl b) c d e f g h i j k m n = give name.Drup (rw (a, b) refl) (is (codes "drup") b)
    by (inr a) (inr b) (inl c) d e f g h i j k m n = give name.Btor (rw (a, b, c) refl) (is (codes "btor") c)
    by (inr a) (inr b) (inr c) (inl d) e f g h i j k m n = give name.Inv (rw (a, b, c, d) refl) (is (codes "inv") d)
    by (inr a) (inr b) (inr c) (inr d) (inl e) f g h i j k m n = give name.Lrat (rw (a, b, c, d, e) refl) (is (codes "lrat") e)
    by (inr a) (inr b) (inr c) (inr d) (inr e) (inl f) g h i j k m n = give name.Proof (rw (a, b, c, d, e, f) refl) (is (codes "proof") f)
    by (inr a) (inr b) (inr c) (inr d) (inr e) (inr f) (inl g) h i j k m n = give name.ProofBinary (rw (a, b, c, d, e, f, g) refl) (is (codes "proofb") g)
    by (inr a) (inr b) (inr c) (inr d) (inr e) (inr f) (inr g) (inl h) i j k m n = give name.Net (rw (a, b, c, d, e, f, g, h) refl) (is (codes "net") h)
    by (inr a) (inr b) (inr c) (inr d) (inr e) (inr f) (inr g) (inr h) (inl i) j k m n = give name.LeftOut (rw (a, b, c, d, e, f, g, h, i) refl) (inl (is (codes "smtbmc") i))
    by (inr a) (inr b) (inr c) (inr d) (inr e) (inr f) (inr g) (inr h) (inr i) (inl j) k m n = give name.LeftOut (rw (a, b, c, d, e, f, g, h, i, j) refl) (inr (inl (is (codes "abc") j)))
    by (inr a) (inr b) (inr c) (inr d) (inr e) (inr f) (inr g) (inr h) (inr i) (inr j) (inl k) m n = give name.LeftOut (rw (a, b, c, d, e, f, g, h, i, j, k) refl) (inr (inr (inl (is (codes "aiger") k))))
    by (inr a) (inr b) (inr c) (inr d) (inr e) (inr f) (inr g) (inr h) (inr i) (inr j) (inr k) (inl m) n = give name.LeftOut (rw (a, b, c, d, e, f, g, h, i, j, k, m) refl) (inr (inr (inr (inl (is (codes "itp") m)))))
    by (inr a) (inr b) (inr c) (inr d) (inr e) (inr f) (inr g) (inr h) (inr i) (inr j) (inr k) (inr m) (inl n) = give name.LeftOut (rw (a, b, c, d, e, f, g, h, i, j, k, m, n) refl) (inr (inr (inr (inr (inl (is (codes "none") n))))))
    by (inr a) (inr b) (inr c) (inr d) (inr e) (inr f) (inr g) (inr h) (inr i) (inr j) (inr k) (inr m) (inr n) = give name.Unknown (rw (a, b, c, d, e, f, g, h, i, j, k, m, n) refl) other
      where
        other : Among (codes "sat" ∷ codes "net" ∷ program_engines ++ left_out_engines) word → ⊥
        other (inl s) = never (codes "sat") a s
        other (inr (inl s)) = never (codes "net") h s
        other (inr (inr (inl s))) = never (codes "drup") b s
        other (inr (inr (inr (inl s)))) = never (codes "btor") c s
        other (inr (inr (inr (inr (inl s))))) = never (codes "inv") d s
        other (inr (inr (inr (inr (inr (inl s)))))) = never (codes "lrat") e s
        other (inr (inr (inr (inr (inr (inr (inl s))))))) = never (codes "proof") f s
        other (inr (inr (inr (inr (inr (inr (inr (inl s)))))))) = never (codes "proofb") g s
        other (inr (inr (inr (inr (inr (inr (inr (inr (inl s))))))))) = never (codes "smtbmc") i s
        other (inr (inr (inr (inr (inr (inr (inr (inr (inr (inl s)))))))))) = never (codes "abc") j s
        other (inr (inr (inr (inr (inr (inr (inr (inr (inr (inr (inl s))))))))))) = never (codes "aiger") k s
        other (inr (inr (inr (inr (inr (inr (inr (inr (inr (inr (inr (inl s)))))))))))) = never (codes "itp") m s
        other (inr (inr (inr (inr (inr (inr (inr (inr (inr (inr (inr (inr (inl s))))))))))))) = never (codes "none") n s
        other (inr (inr (inr (inr (inr (inr (inr (inr (inr (inr (inr (inr (inr s))))))))))))) = absurd s

-- what an engine line that is refused says
abbrev EngineFault : List (List ℕ) → TaskKind → Type 0
EngineFault words kind.BadValue =
    (((value : List (List ℕ)) × (words ≡ codes "sat" ∷ value) × (IsSatValue value → ⊥)) ⊎ ((value : List (List ℕ)) × (words ≡ codes "net" ∷ value) × (IsNetValue value → ⊥)))
    ⊎ ((word : List ℕ) × (words ≡ word ∷ []) × Contains program_engines word)
EngineFault words kind.LeftOutEngine = (word : List ℕ) × (arguments : List (List ℕ)) × (words ≡ word ∷ arguments) × Contains left_out_engines word
EngineFault words kind.UnknownEngine =
    (word : List ℕ) (arguments : List (List ℕ)) → words ≡ word ∷ arguments → Contains (codes "sat" ∷ codes "net" ∷ program_engines ++ left_out_engines) word → ⊥
EngineFault words kind.Marks = LacksMarks words
EngineFault words kind.UnknownTask = ⊥
EngineFault words kind.Limit = ⊥
EngineFault words kind.UnknownOption = ⊥
EngineFault words kind.DoubleOption = ⊥
EngineFault words kind.NoMode = ⊥
EngineFault words kind.NoEngine = ⊥
EngineFault words kind.Script = ⊥
EngineFault words kind.MissingFile = ⊥
EngineFault words kind.Slices = ⊥

nil_cons : {A : Type 0} (x : A) (xs : List A) → ◌≡◌ {A = List A} [] (x ∷ xs) → ⊥
nil_cons x xs e = cc

same_head : {A : Type 0} (x y : A) (xs ys : List A) → x ∷ xs ≡ y ∷ ys → x ≡ y
same_head x y xs ys e = cc

same_tail : {A : Type 0} (x y : A) (xs ys : List A) → x ∷ xs ≡ y ∷ ys → xs ≡ ys
same_tail x y xs ys e = cc

conflicts_none : (o : Option ℕ) (k : TaskKind) → with_conflicts o ≡ Err k → (o ≡ None) × (k ≡ kind.BadValue)
conflicts_none None k h = (refl, sym (err_same kind.BadValue k h))
conflicts_none (Some n) k h = absurd (ok_err _ k h)

sat_why : (value : List (List ℕ)) (k : TaskKind) → sat_of value ≡ Err k → (k ≡ kind.BadValue) × (IsSatValue value → ⊥)
sat_why [] k h = absurd (ok_err _ k h)
sat_why (first ∷ words) k h = elim (cases_Bool (bytes_eq first (codes "--conflicts"))) as (λ _. (k ≡ kind.BadValue) × (IsSatValue (first ∷ words) → ⊥)) [
  | inl y ↦ let p = conflicts_none (number_of 1000000000 words) k (rw y at h) in (p.1, never p.0)
  | inr n ↦ (sym (err_same kind.BadValue k (rw n at h)), other n)
]
  where
    never : number_of 1000000000 words ≡ None → IsSatValue (first ∷ words) → ⊥
    never none (inl e) = nil_cons first words (sym e)
    never none (inr (rest, n, e, r)) = none_some n (sym none ∙ ap (number_of 1000000000) (same_tail first (codes "--conflicts") words rest e) ∙ r)

    other : bytes_eq first (codes "--conflicts") ≡ false → IsSatValue (first ∷ words) → ⊥
    other n (inl e) = nil_cons first words (sym e)
    other n (inr (rest, m, e, r)) = false≢true (sym n ∙ (bytes_eq-Decides first (codes "--conflicts")).1 (same_head first (codes "--conflicts") words rest e))

sat_refused : (value : List (List ℕ)) → (IsSatValue value → ⊥) → sat_of value ≡ Err kind.BadValue
sat_refused [] h = absurd (h (inl refl))
sat_refused (first ∷ words) h = elim (cases_Bool (bytes_eq first (codes "--conflicts"))) as (λ _. sat_of (first ∷ words) ≡ Err kind.BadValue) [
  | inl y ↦
      let is = (bytes_eq-Decides first (codes "--conflicts")).0 y in
      let none = not_some (number_of 1000000000 words) (λ n e. h (inr (words, n, ap (λ (w : List ℕ). w ∷ words) is, e))) in
      rw (y, none) refl
  | inr n ↦ rw n refl
]

sat_value : (value : List (List ℕ)) → is_ok (sat_of value) ≡ true → IsSatValue value
sat_value [] h = inl refl
sat_value (first ∷ words) h = elim (cases_Bool (bytes_eq first (codes "--conflicts"))) as (λ _. IsSatValue (first ∷ words)) [
  | inl y ↦ by (number_of 1000000000 words) refl y (rw y at h)
  | inr n ↦ absurd (false≢true (rw n at h))
]
  where
    by : (o : Option ℕ) → number_of 1000000000 words ≡ o → bytes_eq first (codes "--conflicts") ≡ true → is_ok (with_conflicts (number_of 1000000000 words)) ≡ true → IsSatValue (first ∷ words)
    by None e y h = absurd (false≢true (rw e at h))
    by (Some n) e y h = inr (words, n, ap (λ (w : List ℕ). w ∷ words) ((bytes_eq-Decides first (codes "--conflicts")).0 y), e)

value_sat : (value : List (List ℕ)) → IsSatValue value → is_ok (sat_of value) ≡ true
value_sat value (inl e) = ap (λ (v : List (List ℕ)). is_ok (sat_of v)) e
value_sat value (inr (words, n, e, r)) = ap (λ (v : List (List ℕ)). is_ok (sat_of v)) e ∙ ap (λ (o : Option ℕ). is_ok (with_conflicts o)) r

-- which words are an address
abbrev pub ToldAddresses : Type 0
ToldAddresses = (word : List ℕ) → (is_address word ≡ true) ↔ IsAddress word

net_value : ToldAddresses → (value : List (List ℕ)) → is_net value ≡ true → IsNetValue value
net_value addresses [] h = absurd (false≢true h)
net_value addresses (address ∷ budget) h =
    let p = both_true (is_address address) (is_ok (sat_of budget)) h in
    (address, budget, refl, (addresses address).0 p.0, sat_value budget p.1)

value_net : ToldAddresses → (value : List (List ℕ)) → IsNetValue value → is_net value ≡ true
value_net addresses value (address, budget, e, a, b) = ap is_net e ∙ rw ((addresses address).1 a, value_sat budget b) refl

net_why : ToldAddresses → (word : List ℕ) (value : List (List ℕ)) (k : TaskKind) → net_of word value ≡ Err k → (k ≡ kind.BadValue) × (IsNetValue value → ⊥)
net_why addresses word value k h = elim (cases_Bool (is_net value)) as (λ _. (k ≡ kind.BadValue) × (IsNetValue value → ⊥)) [
  | inl y ↦ absurd (ok_err _ k (rw y at h))
  | inr n ↦ (sym (err_same kind.BadValue k (rw n at h)), λ v. false≢true (sym n ∙ value_net addresses value v))
]

net_refused : ToldAddresses → (word : List ℕ) (value : List (List ℕ)) → (IsNetValue value → ⊥) → net_of word value ≡ Err kind.BadValue
net_refused addresses word value h = let n = not_true (is_net value) (λ y. h (net_value addresses value y)) in rw n refl

module _ (words : List (List ℕ)) where
  to_fault : (j k : TaskKind) → ◌≡◌ {A = Result Engine TaskKind} (Err j) (Err k) → EngineFault words j → EngineFault words k
  to_fault j k h f = subst (EngineFault words) (err_same j k h) f

  program_why : (make : List (List ℕ) → Engine) (word : List ℕ) (arguments : List (List ℕ)) (k : TaskKind) → words ≡ word ∷ arguments → Contains program_engines word
      → program_of make arguments ≡ Err k → EngineFault words k
  program_why make word [] k w c h = to_fault kind.BadValue k h (inr (word, w, c))
  program_why make word (program ∷ arguments) k w c h = absurd (ok_err _ k h)

  marks_why : (make : List (List ℕ) → Engine) (word : List ℕ) (arguments : List (List ℕ)) (k : TaskKind) → words ≡ word ∷ arguments → (word ≡ codes "proof") ⊎ (word ≡ codes "proofb")
      → Contains program_engines word → marked_of make arguments ≡ Err k → EngineFault words k
  marks_why make word [] k w s c h = to_fault kind.BadValue k h (inr (word, w, c))
  marks_why make word (program ∷ arguments) k w s c h = elim (cases_Bool (are_marked (program ∷ arguments))) as (λ _. EngineFault words k) [
    | inl y ↦ absurd (ok_err _ k (rw y at h))
    | inr n ↦ to_fault kind.Marks k (rw n at h) (program, arguments, is s, unmarked (program ∷ arguments) n)
  ]
    where
      is : (word ≡ codes "proof") ⊎ (word ≡ codes "proofb") → (words ≡ codes "proof" ∷ program ∷ arguments) ⊎ (words ≡ codes "proofb" ∷ program ∷ arguments)
      is (inl e) = inl (w ∙ ap (λ (x : List ℕ). x ∷ program ∷ arguments) e)
      is (inr e) = inr (w ∙ ap (λ (x : List ℕ). x ∷ program ∷ arguments) e)

  named_why : ToldAddresses → (word : List ℕ) (arguments : List (List ℕ)) (k : TaskKind) → words ≡ word ∷ arguments → (n : EngineName) → Spelt word n → engine_from n word arguments ≡ Err k → EngineFault words k
  named_why addresses word arguments k w name.Sat s h =
      let p = sat_why arguments k h in
      subst (EngineFault words) (sym p.0) (inl (inl (arguments, w ∙ ap (λ (x : List ℕ). x ∷ arguments) s, p.1)))
  named_why addresses word arguments k w name.Drup s h = program_why engine.Drup word arguments k w (contained program_engines word (inl s)) h
  named_why addresses word arguments k w name.Btor s h = program_why engine.Btor word arguments k w (contained program_engines word (inr (inl s))) h
  named_why addresses word arguments k w name.Inv s h = program_why engine.Inv word arguments k w (contained program_engines word (inr (inr (inl s)))) h
  named_why addresses word arguments k w name.Lrat s h = program_why engine.Lrat word arguments k w (contained program_engines word (inr (inr (inr (inl s))))) h
  named_why addresses word arguments k w name.Proof s h = marks_why engine.Proof word arguments k w (inl s) (contained program_engines word (inr (inr (inr (inr (inl s)))))) h
  named_why addresses word arguments k w name.ProofBinary s h = marks_why engine.ProofBinary word arguments k w (inr s) (contained program_engines word (inr (inr (inr (inr (inr (inl s))))))) h
  named_why addresses word arguments k w name.Net s h =
      let p = net_why addresses word arguments k h in
      subst (EngineFault words) (sym p.0) (inl (inr (arguments, w ∙ ap (λ (x : List ℕ). x ∷ arguments) s, p.1)))
  named_why addresses word arguments k w name.LeftOut s h = to_fault kind.LeftOutEngine k h (word, arguments, w, contained left_out_engines word s)
  named_why addresses word arguments k w name.Unknown s h = to_fault kind.UnknownEngine k h (λ other rest e c. s (among (codes "sat" ∷ codes "net" ∷ program_engines ++ left_out_engines) word (subst (Contains (codes "sat" ∷ codes "net" ∷ program_engines ++ left_out_engines)) (sym (same_head word other arguments rest (sym w ∙ e))) c)))

  engine_why : ToldAddresses → (given : List (List ℕ)) (k : TaskKind) → words ≡ given → engine_of given ≡ Err k → EngineFault words k
  engine_why addresses [] k w h = to_fault kind.UnknownEngine k h (λ other rest e c. nil_cons other rest (sym w ∙ e))
  engine_why addresses (word ∷ arguments) k w h = named_why addresses word arguments k w (engine_name word) (spelt word) h

-- and that one at fault is refused
program_refused : (word : List ℕ) → Among program_engines word → engine_of (word ∷ []) ≡ Err kind.BadValue
program_refused word (inl e) = ap (λ (w : List ℕ). engine_of (w ∷ [])) e
program_refused word (inr (inl e)) = ap (λ (w : List ℕ). engine_of (w ∷ [])) e
program_refused word (inr (inr (inl e))) = ap (λ (w : List ℕ). engine_of (w ∷ [])) e
program_refused word (inr (inr (inr (inl e)))) = ap (λ (w : List ℕ). engine_of (w ∷ [])) e
program_refused word (inr (inr (inr (inr (inl e))))) = ap (λ (w : List ℕ). engine_of (w ∷ [])) e
program_refused word (inr (inr (inr (inr (inr (inl e)))))) = ap (λ (w : List ℕ). engine_of (w ∷ [])) e
program_refused word (inr (inr (inr (inr (inr (inr e)))))) = absurd e

left_out_refused : (word : List ℕ) (arguments : List (List ℕ)) → Among left_out_engines word → engine_of (word ∷ arguments) ≡ Err kind.LeftOutEngine
left_out_refused word arguments (inl e) = ap (λ (w : List ℕ). engine_of (w ∷ arguments)) e
left_out_refused word arguments (inr (inl e)) = ap (λ (w : List ℕ). engine_of (w ∷ arguments)) e
left_out_refused word arguments (inr (inr (inl e))) = ap (λ (w : List ℕ). engine_of (w ∷ arguments)) e
left_out_refused word arguments (inr (inr (inr (inl e)))) = ap (λ (w : List ℕ). engine_of (w ∷ arguments)) e
left_out_refused word arguments (inr (inr (inr (inr (inl e))))) = ap (λ (w : List ℕ). engine_of (w ∷ arguments)) e
left_out_refused word arguments (inr (inr (inr (inr (inr e))))) = absurd e

unknown_refused : (words : List (List ℕ)) → EngineFault words kind.UnknownEngine → engine_of words ≡ Err kind.UnknownEngine
unknown_refused [] f = refl
unknown_refused (word ∷ arguments) f = by (engine_name word) (spelt word) refl
  where
    known : Among (codes "sat" ∷ codes "net" ∷ program_engines ++ left_out_engines) word → ⊥
    known a = f word arguments refl (contained (codes "sat" ∷ codes "net" ∷ program_engines ++ left_out_engines) word a)

    by : (n : EngineName) → Spelt word n → engine_name word ≡ n → engine_from (engine_name word) word arguments ≡ Err kind.UnknownEngine
    by name.Sat s e = absurd (known (inl s))
    by name.Drup s e = absurd (known (inr (inr (inl s))))
    by name.Btor s e = absurd (known (inr (inr (inr (inl s)))))
    by name.Inv s e = absurd (known (inr (inr (inr (inr (inl s))))))
    by name.Lrat s e = absurd (known (inr (inr (inr (inr (inr (inl s)))))))
    by name.Proof s e = absurd (known (inr (inr (inr (inr (inr (inr (inl s))))))))
    by name.ProofBinary s e = absurd (known (inr (inr (inr (inr (inr (inr (inr (inl s)))))))))
    by name.Net s e = absurd (known (inr (inl s)))
    by name.LeftOut s e = absurd (known (inr (inr (inr (inr (inr (inr (inr (inr s)))))))))
    by name.Unknown s e = rw e refl

marks_refused : (words : List (List ℕ)) → LacksMarks words → engine_of words ≡ Err kind.Marks
marks_refused words (program, arguments, e, lacks) = by e
  where
    never : are_marked (program ∷ arguments) ≡ false
    never = not_true (are_marked (program ∷ arguments)) (λ y. lacks (marked (program ∷ arguments) y))

    text : marked_of engine.Proof (program ∷ arguments) ≡ Err kind.Marks
    text = rw never refl

    binary : marked_of engine.ProofBinary (program ∷ arguments) ≡ Err kind.Marks
    binary = rw never refl

    by : (words ≡ codes "proof" ∷ program ∷ arguments) ⊎ (words ≡ codes "proofb" ∷ program ∷ arguments) → engine_of words ≡ Err kind.Marks
    by (inl w) = ap engine_of w ∙ text
    by (inr w) = ap engine_of w ∙ binary

engine_refused : ToldAddresses → (words : List (List ℕ)) (k : TaskKind) → EngineFault words k → engine_of words ≡ Err k
engine_refused addresses words kind.BadValue (inl (inl (value, w, never))) = ap engine_of w ∙ sat_refused value never
engine_refused addresses words kind.BadValue (inl (inr (value, w, never))) = ap engine_of w ∙ net_refused addresses (codes "net") value never
engine_refused addresses words kind.BadValue (inr (word, w, c)) = ap engine_of w ∙ program_refused word (among program_engines word c)
engine_refused addresses words kind.LeftOutEngine (word, arguments, w, c) = ap engine_of w ∙ left_out_refused word arguments (among left_out_engines word c)
engine_refused addresses words kind.UnknownEngine f = unknown_refused words f
engine_refused addresses words kind.Marks f = marks_refused words f
engine_refused addresses words kind.UnknownTask f = absurd f
engine_refused addresses words kind.Limit f = absurd f
engine_refused addresses words kind.UnknownOption f = absurd f
engine_refused addresses words kind.DoubleOption f = absurd f
engine_refused addresses words kind.NoMode f = absurd f
engine_refused addresses words kind.NoEngine f = absurd f
engine_refused addresses words kind.Script f = absurd f
engine_refused addresses words kind.MissingFile f = absurd f
engine_refused addresses words kind.Slices f = absurd f

-- ---- a line after others
module _ (files : List StoredFile) (all before : List Row) (d : Draft) (said : drafted files all (Ok blank) before ≡ Ok d) where
  abbrev Told : List ℕ → Bool → Type 0
  Told word set = (IsUnset word before × (set ≡ false)) ⊎ (HasOption word before × (set ≡ true))

  told_by : {A : Type 0} (word : List ℕ) (read : List (List ℕ) → Option A) (o : Option A)
      → (IsUnset word before × (o ≡ None)) ⊎ ((v : A) × (o ≡ Some v) × IsSet word (λ value. read value ≡ Some v) before) → Told word (is_some o)
  told_by word read o (inl none) = inl (none.0, ap is_some none.1)
  told_by word read o (inr some) = inr (set_stands word (λ value. read value ≡ Some some.0) before some.2, ap is_some some.1)

  pub told : (o : OptionName) → o ≢ option.Unknown → Told (spelled o) (is_set o d)
  told option.Mode n = told_by (codes "mode") mode_of d.mode (answer files all option.Mode (λ i. cc) refl (λ x. x.mode) mode_of (mode_says (is_proved all)) (λ x e. refl) (λ x s. refl) before blank d said refl)
  told option.By n = told_by (codes "by") by_of d.by (answer files all option.By (λ i. cc) refl (λ x. x.by) by_of (by_says (is_proved all)) (λ x e. refl) (λ x s. refl) before blank d said refl)
  told option.Skip n = told_by (codes "skip") (λ value. count_of 99999 value) d.skip (answer files all option.Skip (λ i. cc) refl (λ x. x.skip) (λ value. count_of 99999 value) (skip_says (is_proved all)) (λ x e. refl) (λ x s. refl) before blank d said refl)
  told option.Depth n = told_by (codes "depth") (λ value. number_of 100000 value) d.depth (answer files all option.Depth (λ i. cc) refl (λ x. x.depth) (λ value. number_of 100000 value) (depth_says (is_proved all)) (λ x e. refl) (λ x s. refl) before blank d said refl)
  told option.Stride n = told_by (codes "stride") (λ value. number_of 100000 value) d.stride (answer files all option.Stride (λ i. cc) refl (λ x. x.stride) (λ value. number_of 100000 value) (stride_says (is_proved all)) (λ x e. refl) (λ x s. refl) before blank d said refl)
  told option.Timeout n = told_by (codes "timeout") (λ value. number_of 1000000 value) d.timeout (answer files all option.Timeout (λ i. cc) refl (λ x. x.timeout) (λ value. number_of 1000000 value) (timeout_says (is_proved all)) (λ x e. refl) (λ x s. refl) before blank d said refl)
  told option.Expect n = told_by (codes "expect") statuses_of d.expect (answer files all option.Expect (λ i. cc) refl (λ x. x.expect) statuses_of (expect_says (is_proved all)) (λ x e. refl) (λ x s. refl) before blank d said refl)
  told option.Wait n = told_by (codes "wait") switch_of d.wait (answer files all option.Wait (λ i. cc) refl (λ x. x.wait) switch_of (wait_says (is_proved all)) (λ x e. refl) (λ x s. refl) before blank d said refl)
  told option.Multiclock n = told_by (codes "multiclock") (λ value. off_only (switch_of value)) d.multiclock (answer files all option.Multiclock (λ i. cc) refl (λ x. x.multiclock) (λ value. off_only (switch_of value)) (multiclock_says (is_proved all)) (λ x e. refl) (λ x s. refl) before blank d said refl)
  told option.Unknown n = absurd (n refl)

  set_before : (o : OptionName) → o ≢ option.Unknown → HasOption (spelled o) before → is_set o d ≡ true
  set_before o n h = elim (told o n) as (λ _. is_set o d ≡ true) [
    | inl p ↦ absurd (stands_set (spelled o) before p.0 h)
    | inr p ↦ p.1
  ]

  before_set : (o : OptionName) → o ≢ option.Unknown → is_set o d ≡ true → HasOption (spelled o) before
  before_set o n h = elim (told o n) as (λ _. HasOption (spelled o) before) [
    | inl p ↦ absurd (false≢true (sym p.1 ∙ h))
    | inr p ↦ p.0
  ]

  pub engine_count : length d.engines ≡ length (engine_lines before)
  engine_count =
      let e = ap length (engines_read files all before blank d said) in
      sym (length-map {B = Result Engine TaskKind} d.engines Ok) ∙ e ∙ length-map (engine_lines before) engine_of

  pub scripted : (word : List ℕ) → d.script ≡ Some word → length (script_lines before) ≡ 1
  scripted word s = ap length (script_read files all before blank d word said refl s).0

  pub unscripted : d.script ≡ None → script_lines before ≡ []
  unscripted s = script_unread files all before blank d said s

  module _ (addresses : ToldAddresses) (row : Row) where
    abbrev Is : TaskKind → Type 0
    Is k = IsFaulty files all before row k

    abbrev after : Result Draft TaskKind
    after = row_after files all d row

    -- why it is refused
    as_kind : (j k : TaskKind) → ◌≡◌ {A = Result Draft TaskKind} (Err j) (Err k) → Is j → Is k
    as_kind j k h f = subst Is (err_same j k h) f

    option_fault : (word : List ℕ) (value : List (List ℕ)) (k : TaskKind) → row.section ≡ Options → row.words ≡ word ∷ value → option_after (is_proved all) d (option_name word) value ≡ Err k → Is k
    option_fault word value k s w h = elim (known_or (option_name word)) as (λ _. Is k) [
      | inl u ↦ as_kind kind.UnknownOption k (rw u at h) (s, never u)
      | inr known ↦ by known (why (is_proved all) d value (option_name word) known k h)
    ]
      where
        never : option_name word ≡ option.Unknown → (o : OptionName) (other : List (List ℕ)) → SetsOption o other row → ⊥
        never u o other (known, (t, v)) =
            let same : word ≡ spelled o = same_head word (spelled o) value other (sym w ∙ v) in
            known (sym (own_name o known) ∙ ap option_name (sym same) ∙ u)

        by : option_name word ≢ option.Unknown → Why (is_proved all) d value (option_name word) k → Is k
        by known reason =
            let sets : SetsOption (option_name word) value row = (known, (s, w ∙ ap (λ (x : List ℕ). x ∷ value) (is_spelled word (option_name word) known refl))) in
            elim reason as (λ _. Is k) [
              | inl p ↦ subst Is (sym p.0) (option_name word, value, sets, before_set (option_name word) known p.1)
              | inr p ↦ elim p.1 as (λ _. Is k) [
                | inl never ↦ subst Is (sym p.0) (inl (inl (option_name word, value, sets, never)))
                | inr alone ↦ subst Is (sym p.0) (inl (inr (value, subst (λ (o : OptionName). SetsOption o value row) alone.0 sets, proved_none all alone.1)))
              ]
            ]

    of_engine : (k : TaskKind) → row.section ≡ Engines → EngineFault row.words k → Is k
    of_engine kind.BadValue s (inl (inl (value, w, never))) = inr (inl (inl (value, (s, w), never)))
    of_engine kind.BadValue s (inl (inr (value, w, never))) = inr (inl (inr (value, (s, w), never)))
    of_engine kind.BadValue s (inr (word, w, c)) = inr (inr (inl (word, (s, w), c)))
    of_engine kind.LeftOutEngine s (word, arguments, w, c) = (word, arguments, (s, w), c)
    of_engine kind.UnknownEngine s f = (s, f)
    of_engine kind.Marks s f = (s, f)
    of_engine kind.UnknownTask s f = absurd f
    of_engine kind.Limit s f = absurd f
    of_engine kind.UnknownOption s f = absurd f
    of_engine kind.DoubleOption s f = absurd f
    of_engine kind.NoMode s f = absurd f
    of_engine kind.NoEngine s f = absurd f
    of_engine kind.Script s f = absurd f
    of_engine kind.MissingFile s f = absurd f
    of_engine kind.Slices s f = absurd f

    with_fault : (r : Result Engine TaskKind) (k : TaskKind) → with_engine d r ≡ Err k → r ≡ Err k
    with_fault (Ok x) k h = absurd (ok_err _ k h)
    with_fault (Err j) k h = ap (λ (x : TaskKind). Err x) (err_same {A = Draft} j k h)

    engine_fault : (k : TaskKind) → row.section ≡ Engines → section_after files all d Engines row.words ≡ Err k → Is k
    engine_fault k s h = elim (cases_Bool (leb 64 (length d.engines))) as (λ _. Is k) [
      | inl y ↦ as_kind kind.Limit k (rw y at h) (s, omega (arith, leb-true 64 (length d.engines) y, engine_count))
      | inr n ↦ of_engine k s (engine_why row.words addresses row.words k refl (with_fault (engine_of row.words) k (rw n at h)))
    ]

    other_words : (words : List (List ℕ)) → row.words ≡ words → (length words ≡ 2 → ⊥) → (word : List ℕ) → ReadsDesign word row → ⊥
    other_words words w n word r = n (ap length (sym w ∙ r.1))

    unread : (k : TaskKind) → row.section ≡ Script → ((word : List ℕ) → ReadsDesign word row → ⊥) → ◌≡◌ {A = Result Draft TaskKind} (Err kind.Script) (Err k) → Is k
    unread k s never h = as_kind kind.Script k h (s, inl never)

    missing_fault : (m : Draft) (word : List ℕ) (k : TaskKind) → row.section ≡ Script → row.words ≡ codes "read_rtlil" ∷ word ∷ [] → seek files all m (Some word) ≡ Err k → Is k
    missing_fault m word k s w h = elim (cases_Bool (is_found files all word)) as (λ _. Is k) [
      | inl y ↦ absurd (ok_err _ k (rw y at h))
      | inr n ↦
          let p = neither (is_some (bytes_in files word)) (is_some (path_in None all word)) n in
          as_kind kind.MissingFile k (rw n at h)
          (word, (s, w), none_stands files word (none_is (bytes_in files word) p.0), none_gives all word (none_is (path_in None all word) p.1))
    ]

    read_fault : (words : List (List ℕ)) (k : TaskKind) → row.section ≡ Script → row.words ≡ words → found files all (read_command d words) ≡ Err k → Is k
    read_fault [] k s w h = unread k s (other_words [] w (λ e. omega (arith, e))) h
    read_fault (command ∷ []) k s w h = unread k s (other_words (command ∷ []) w (λ e. omega (arith, e))) h
    read_fault (command ∷ word ∷ more ∷ words) k s w h = unread k s (other_words (command ∷ word ∷ more ∷ words) w (λ e. omega (arith, e))) h
    read_fault (command ∷ word ∷ []) k s w h = elim (cases_Bool (bytes_eq command (codes "read_rtlil"))) as (λ _. Is k) [
      | inl y ↦
          let is = (bytes_eq-Decides command (codes "read_rtlil")).0 y in
          missing_fault (record d { script = Some word }) word k s (w ∙ ap (λ (c : List ℕ). c ∷ word ∷ []) is) (rw y at h)
      | inr n ↦ unread k s (λ other r. false≢true (sym n ∙ (bytes_eq-Decides command (codes "read_rtlil")).1 (same_head command (codes "read_rtlil") (word ∷ []) (other ∷ []) (sym w ∙ r.1)))) (rw n at h)
    ]

    script_fault : (o : Option (List ℕ)) (k : TaskKind) → d.script ≡ o → row.section ≡ Script → script_after files all d row.words ≡ Err k → Is k
    script_fault None k n s h = read_fault row.words k s refl (rw n at h)
    script_fault (Some word) k n s h = as_kind kind.Script k (rw n at h) (s, inr (omega (arith, scripted word n)))

    row_fault : (section : Section) (words : List (List ℕ)) (k : TaskKind) → row.section ≡ section → row.words ≡ words → section_after files all d section words ≡ Err k → Is k
    row_fault Options [] k s w h = as_kind kind.UnknownOption k h (s, λ o other sets. nil_cons (spelled o) other (sym w ∙ sets.1.1))
    row_fault Options (word ∷ value) k s w h = option_fault word value k s w h
    row_fault Engines words k s w h = engine_fault k s (ap (section_after files all d Engines) w ∙ h)
    row_fault Script words k s w h = script_fault d.script k refl s (ap (script_after files all d) w ∙ h)
    row_fault Files words k s w h = elim (cases_Bool (leb (length words) 2)) as (λ _. Is k) [
      | inl y ↦ absurd (ok_err _ k (rw y at h))
      | inr n ↦ as_kind kind.BadValue k (rw n at h) (inr (inr (inr (s, omega (arith, ap length w, leb-false (length words) 2 n)))))
    ]
    row_fault Nowhere words k s w h = absurd (ok_err _ k h)
    row_fault Tasks words k s w h = absurd (ok_err _ k h)
    row_fault File words k s w h = absurd (ok_err _ k h)
    row_fault Unknown words k s w h = absurd (ok_err _ k h)

    pub row_is : (k : TaskKind) → after ≡ Err k → Is k
    row_is k h = row_fault row.section row.words k refl refl h

    -- that it is
    abbrev Refused : TaskKind → Type 0
    Refused j = (k : TaskKind) × (after ≡ Err k) × (rank k ≤ rank j)

    option_at : (o : OptionName) (value : List (List ℕ)) → SetsOption o value row → after ≡ option_after (is_proved all) d o value
    option_at o value (known, (s, w)) = rw (s, w, own_name o known) refl

    at_engine : (j : TaskKind) → row.section ≡ Engines → EngineFault row.words j → 1 ≤ rank j → Refused j
    at_engine j s f low =
        let e = engine_refused addresses row.words j f in
        elim (cases_Bool (leb 64 (length d.engines))) as (λ _. Refused j) [
          | inl y ↦ (kind.Limit, rw (s, y) refl, low)
          | inr n ↦ (j, rw (s, n, e) refl, omega arith)
        ]

    unread_at : (words : List (List ℕ)) → ((word : List ℕ) → words ≡ codes "read_rtlil" ∷ word ∷ [] → ⊥) → read_command d words ≡ Err kind.Script
    unread_at [] n = refl
    unread_at (command ∷ []) n = refl
    unread_at (command ∷ word ∷ more ∷ words) n = refl
    unread_at (command ∷ word ∷ []) n =
        let never = not_true (bytes_eq command (codes "read_rtlil")) (λ y. n word (ap (λ (c : List ℕ). c ∷ word ∷ []) ((bytes_eq-Decides command (codes "read_rtlil")).0 y))) in
        rw never refl

    script_at : (j : TaskKind) → row.section ≡ Script → 9 ≤ rank j → (d.script ≡ None → (k : TaskKind) × (found files all (read_command d row.words) ≡ Err k) × (rank k ≤ rank j)) → Refused j
    script_at j s low rest = by d.script refl
      where
        by : (o : Option (List ℕ)) → d.script ≡ o → Refused j
        by (Some word) n = (kind.Script, rw (s, n) refl, low)
        by None n = let r = rest n in (r.0, rw (s, n, r.1) refl, r.2)

    not_found : (word : List ℕ) → NoneStands files word → NoneGives all word → is_found files all word ≡ false
    not_found word none never =
        let a = not_some (bytes_in files word) (λ bytes e. let s = stands files word bytes e in none s.1 (subst (λ l. Contains l s.1) (sym s.3) (Contains-append_right s.0 (s.1 ∷ s.2) s.1 (0, omega arith, refl))) s.4) in
        let b = not_some (path_in None all word) (λ path e. let p = is_path all word path e in never p.1 path (subst (λ l. Contains l p.1) (sym p.3) (Contains-append_right p.0 (p.1 ∷ p.2) p.1 (0, omega arith, refl))) p.4) in
        rw (a, b) refl

    found_at : (word : List ℕ) → row.words ≡ codes "read_rtlil" ∷ word ∷ [] → is_found files all word ≡ false → found files all (read_command d row.words) ≡ Err kind.MissingFile
    found_at word w n = ap (λ (words : List (List ℕ)). found files all (read_command d words)) w ∙ last
      where
        last : seek files all (record d { script = Some word }) (Some word) ≡ Err kind.MissingFile
        last = rw n refl

    pub is_refused : (j : TaskKind) → Is j → Refused j
    is_refused kind.Limit (s, many) =
        let y = le-leb 64 (length d.engines) (omega (arith, many, engine_count)) in
        (kind.Limit, rw (s, y) refl, omega arith)
    is_refused kind.UnknownOption (s, never) = by row.words refl
      where
        by : (words : List (List ℕ)) → row.words ≡ words → Refused kind.UnknownOption
        by [] w = (kind.UnknownOption, rw (s, w) refl, omega arith)
        by (word ∷ value) w = elim (known_or (option_name word)) as (λ _. Refused kind.UnknownOption) [
          | inl u ↦ (kind.UnknownOption, rw (s, w, u) refl, omega arith)
          | inr known ↦ absurd (never (option_name word) value (known, (s, w ∙ ap (λ (x : List ℕ). x ∷ value) (is_spelled word (option_name word) known refl))))
        ]
    is_refused kind.DoubleOption (o, value, sets, had) =
        (kind.DoubleOption, option_at o value sets ∙ doubled (is_proved all) d value o sets.0 (set_before o sets.0 had), omega arith)
    is_refused kind.BadValue (inl (inl (o, value, sets, never))) = let r = bad (is_proved all) d value o sets.0 never in (r.0, option_at o value sets ∙ r.1, r.2)
    is_refused kind.BadValue (inl (inr (value, sets, never))) = let r = alone (is_proved all) d value (none_proved all never) in (r.0, option_at option.By value sets ∙ r.1, r.2)
    is_refused kind.BadValue (inr (inl (inl (value, is, never)))) = at_engine kind.BadValue is.0 (inl (inl (value, is.1, never))) (omega arith)
    is_refused kind.BadValue (inr (inl (inr (value, is, never)))) = at_engine kind.BadValue is.0 (inl (inr (value, is.1, never))) (omega arith)
    is_refused kind.BadValue (inr (inr (inl (word, is, c)))) = at_engine kind.BadValue is.0 (inr (word, is.1, c)) (omega arith)
    is_refused kind.BadValue (inr (inr (inr (s, many)))) =
        let n = not_true (leb (length row.words) 2) (λ y. omega (arith, many, leb-true (length row.words) 2 y)) in
        (kind.BadValue, rw (s, n) refl, omega arith)
    is_refused kind.LeftOutEngine (word, arguments, is, c) = at_engine kind.LeftOutEngine is.0 (word, arguments, is.1, c) (omega arith)
    is_refused kind.UnknownEngine (s, f) = at_engine kind.UnknownEngine s f (omega arith)
    is_refused kind.Marks (s, f) = at_engine kind.Marks s f (omega arith)
    is_refused kind.Script (s, inl never) =
        script_at kind.Script s (omega arith) (λ n. let e = unread_at row.words (λ word w. never word (s, w)) in (kind.Script, rw e refl, omega arith))
    is_refused kind.Script (s, inr more) =
        script_at kind.Script s (omega arith) (λ n. absurd (omega (arith, more, ap length (unscripted n))))
    is_refused kind.MissingFile (word, is, none, never) =
        script_at kind.MissingFile is.0 (omega arith) (λ n. (kind.MissingFile, found_at word is.1 (not_found word none never), omega arith))
    is_refused kind.UnknownTask f = absurd f
    is_refused kind.NoMode f = absurd f
    is_refused kind.NoEngine f = absurd f
    is_refused kind.Slices f = absurd f

    pub row_least : (k : TaskKind) → after ≡ Err k → (j : TaskKind) → Is j → rank k ≤ rank j
    row_least k h j f = let r = is_refused j f in subst (λ (x : TaskKind). rank x ≤ rank j) (err_same {A = Draft} r.0 k (sym r.1 ∙ h)) r.2

    pub row_sound : (e : Draft) → after ≡ Ok e → (j : TaskKind) → Is j → ⊥
    row_sound e h j f = let r = is_refused j f in ok_err e r.0 (sym h ∙ r.1)
