-- The first fault of a text's list is the first by lines, and by kinds within a line.
use Rattle.std.proofs.Common.{◌≡◌, ◌∙◌, ℕ, zero, suc, ◌+◌, ◌<◌, ◌≤◌, ◌^◌, Bool, true, false, ◌&&◌, List, [], ◌∷◌, ◌++◌, Some, refl, sym, ap, subst, inl, inr, arith, length, take, eqb, leb, ltb}
use Rattle.std.specs.Prelude.{◌||◌, not, Contains}
use Rattle.std.specs.List.{list_all}
use Rattle.std.proofs.lemmas.Bool.{cases_Bool}
use Rattle.std.proofs.lemmas.Bool.Decides.{nat_tests}
use Rattle.std.proofs.lemmas.List.Elements.{Contains-append_cases, Contains-append_right}
use Rattle.sby_file.specs.Names.{has}
use Rattle.sby_file.specs.Text.{lines_of}
use Rattle.sby_file.specs.Line.{line_of}
use Rattle.sby_file.specs.Section.{section_named, name_of, is_file}
use Rattle.sby_file.specs.Prefix.{is_name, is_block_end, opens_block, prefix_length, are_known}
use Rattle.sby_file.specs.Placed.{placed, placed_from, section_after}
use Rattle.sby_file.specs.Faults.{Declared, Seen, nothing_seen, had, when, header_faults, task_faults, prefix_faults, scoped_faults, stray, content_faults, line_faults, seen_after, at_line, faults_from, faults_of, lines_faults, declared, is_closed, first}
use Rattle.sby_file.specs.Faulty.{rank, IsNoLater}
use Rattle.sby_file.specs.declared.section.Section.{Section}
use Rattle.sby_file.specs.declared.section.Section.TheVariants.{Nowhere, Tasks, Options, Engines, Script, Files, File, Unknown}
use Rattle.sby_file.specs.declared.line.Line.{Line}
use Rattle.sby_file.specs.declared.line.Line.TheVariants.{NotText as NotTextLine, Header, Content, Raw}
use Rattle.sby_file.specs.declared.walk.Placed.{Placed}
use Rattle.sby_file.specs.declared.fault.SbyFault.{SbyFault}
use Rattle.sby_file.specs.declared.fault.SbyKind.{SbyKind}
use Rattle.sby_file.specs.declared.fault.SbyKind.TheVariants.{NotText, StrayLine, UnknownSection, DoubleSection, DoubleTask, PrefixWithoutTasks, UnknownTask, DoubleFile, Limit}

in_none : {X : Type 0} (x : X) → Contains [] x → ⊥
in_none x c = omega (arith, c.1)

in_one : {X : Type 0} (y x : X) → Contains (y ∷ []) x → y ≡ x
in_one y x (zero, lt, is) = is
in_one y x (suc k, lt, is) = absurd (omega (arith, lt))

-- all kinds from a rank on
abbrev From : ℕ → List SbyKind → Type 0
From r ks = (k : SbyKind) → Contains ks k → r ≤ rank k

-- the first is least
abbrev FirstLeast : List SbyKind → Type 0
FirstLeast ks = (k : SbyKind) → first ks ≡ Some k → From (rank k) ks

none_least : FirstLeast []
none_least k e = cc

one_least : (a : SbyKind) → FirstLeast (a ∷ [])
one_least a k e j c = let f : a ≡ k = cc in let g : a ≡ j = in_one a j c in subst (λ x. rank k ≤ rank x) (sym f ∙ g) (omega arith)

when_least : (t : Bool) (a : SbyKind) → FirstLeast (when t a)
when_least true a = one_least a
when_least false a = none_least

when_from : (r : ℕ) (t : Bool) (a : SbyKind) → r ≤ rank a → From r (when t a)
when_from r true a h k c = subst (λ x. r ≤ rank x) (in_one a k c) h
when_from r false a h k c = absurd (in_none k c)

both_from : (r : ℕ) (xs ys : List SbyKind) → From r xs → From r ys → From r (xs ++ ys)
both_from r xs ys f g k c = elim (Contains-append_cases xs ys k c) [ inl h ↦ f k h | inr h ↦ g k h ]

then_least : (t : Bool) (a : SbyKind) (rest : List SbyKind) → From (rank a) rest → FirstLeast rest → FirstLeast (when t a ++ rest)
then_least false a rest from least k e = least k e
then_least true a rest from least k e =
    let f : a ≡ k = cc in
    subst (λ x. From (rank x) (a ∷ rest)) f (both_from (rank a) (a ∷ []) rest (λ j c. subst (λ x. rank a ≤ rank x) (in_one a j c) (omega arith)) from)

tasks_least : (seen : Seen) (words : List (List ℕ)) → FirstLeast (task_faults seen words)
tasks_least seen [] = none_least
tasks_least seen (name ∷ tags) =
    then_least (not (list_all is_name (name ∷ tags))) StrayLine (when (has seen.tasks name) DoubleTask ++ when (leb 1000 (length seen.tasks)) Limit)
    (both_from 1 (when (has seen.tasks name) DoubleTask) (when (leb 1000 (length seen.tasks)) Limit) (when_from 1 (has seen.tasks name) DoubleTask (omega arith)) (when_from 1 (leb 1000 (length seen.tasks)) Limit (omega arith)))
    (then_least (has seen.tasks name) DoubleTask (when (leb 1000 (length seen.tasks)) Limit) (when_from 4 (leb 1000 (length seen.tasks)) Limit (omega arith)) (when_least (leb 1000 (length seen.tasks)) Limit))

prefix_parts : (d : Declared) (words : List (List ℕ)) → From 1 (prefix_faults d words) × FirstLeast (prefix_faults d words)
prefix_parts d words = elim (cases_Bool (eqb (prefix_length words) 0)) [
  | inl y ↦ rw y ((λ k c. absurd (in_none k c)), none_least)
  | inr n ↦ elim (cases_Bool d.has_tasks) [
    | inl y ↦ rw (n, y) (when_from 1 (not (are_known d.is_known (take (prefix_length words) words))) UnknownTask (omega arith), when_least (not (are_known d.is_known (take (prefix_length words) words))) UnknownTask)
    | inr m ↦ rw (n, m) (when_from 1 true PrefixWithoutTasks (omega arith), one_least PrefixWithoutTasks)
  ]
]

scoped_least : (d : Declared) (seen : Seen) (words : List (List ℕ)) (later : List Placed) → FirstLeast (scoped_faults d seen words later)
scoped_least d seen words later = elim (cases_Bool (is_block_end words)) [
  | inl y ↦ rw y (when_least (not seen.is_inside) StrayLine)
  | inr n ↦
      rw n (then_least (opens_block words && (seen.is_inside || not (is_closed later))) StrayLine (prefix_faults d words) (prefix_parts d words).0 (prefix_parts d words).1)
]

stray_least : (words : List (List ℕ)) → FirstLeast (stray words)
stray_least [] = none_least
stray_least (word ∷ words) = one_least StrayLine

content_least : (d : Declared) (seen : Seen) (section : Section) (words : List (List ℕ)) (later : List Placed) → FirstLeast (content_faults d seen section words later)
content_least d seen Nowhere words later = stray_least words
content_least d seen Tasks words later = tasks_least seen words
content_least d seen Options words later = scoped_least d seen words later
content_least d seen Engines words later = scoped_least d seen words later
content_least d seen Script words later = scoped_least d seen words later
content_least d seen Files words later = scoped_least d seen words later
content_least d seen File words later = none_least
content_least d seen Unknown words later = none_least

header_least : (seen : Seen) (section : Section) (name : List ℕ) → FirstLeast (header_faults seen section name)
header_least seen Unknown name = one_least UnknownSection
header_least seen File name = when_least (has seen.files name) DoubleFile
header_least seen Nowhere name = none_least
header_least seen Tasks name = when_least (had seen.headers Tasks) DoubleSection
header_least seen Options name = when_least (had seen.headers Options) DoubleSection
header_least seen Engines name = when_least (had seen.headers Engines) DoubleSection
header_least seen Script name = when_least (had seen.headers Script) DoubleSection
header_least seen Files name = when_least (had seen.headers Files) DoubleSection

line_least : (d : Declared) (seen : Seen) (section : Section) (line : Line) (later : List Placed) → FirstLeast (line_faults d seen section line later)
line_least d seen section NotTextLine later = one_least NotText
line_least d seen section (Header name) later = header_least seen (section_named name) (name_of name)
line_least d seen section (Content words) later = content_least d seen section words later
line_least d seen section (Raw bytes) later = none_least

at_in : (number : ℕ) (ks : List SbyKind) (f : SbyFault) → Contains (at_line number ks) f → (number ≡ f.line) × Contains ks f.kind
at_in number [] f c = absurd (in_none f c)
at_in number (k ∷ ks) f (zero, lt, is) = (ap (λ g. g.line) is, (0, omega arith, ap (λ g. g.kind) is))
at_in number (k ∷ ks) f (suc n, lt, is) =
    let h = at_in number ks f (n, omega (arith, lt), is) in (h.0, Contains-append_right (k ∷ []) ks f.kind h.1)

-- faults of later lines have greater numbers
faults_behind : (d : Declared) (seen : Seen) (section : Section) (number : ℕ) (texts : List (List ℕ)) (g : SbyFault) → Contains (faults_from d seen (placed_from section number texts)) g → number < g.line
faults_behind d seen section number [] g c = absurd (in_none g c)
faults_behind d seen section number (text ∷ texts) g c =
    let line = line_of (is_file section) text in
    let later = placed_from (section_after section line) (number + 1) texts in
    elim (Contains-append_cases (at_line (number + 1) (line_faults d seen section line later)) (faults_from d (seen_after seen section line) later) g c) [
      | inl here ↦ let h = at_in (number + 1) (line_faults d seen section line later) g here in omega (arith, h.0)
      | inr there ↦ let h = faults_behind d (seen_after seen section line) (section_after section line) (number + 1) texts g there in omega (arith, h)
    ]

first_in : (number : ℕ) (k : SbyKind) (ks : List SbyKind) (more : List SbyFault) (f : SbyFault) → first (at_line number (k ∷ ks) ++ more) ≡ Some f → f ≡ record { line = number; kind = k }
first_in number k ks more f e = cc

no_later : (d : Declared) (seen : Seen) (section : Section) (number : ℕ) (texts : List (List ℕ)) (f g : SbyFault) → first (faults_from d seen (placed_from section number texts)) ≡ Some f
    → Contains (faults_from d seen (placed_from section number texts)) g → IsNoLater f g
no_later d seen section number [] f g e c = cc
no_later d seen section number (text ∷ texts) f g e c =
    let line = line_of (is_file section) text in
    let later = placed_from (section_after section line) (number + 1) texts in
    by (line_faults d seen section line later) (line_least d seen section line later)
    (faults_from d (seen_after seen section line) later)
    (λ h in_later. no_later d (seen_after seen section line) (section_after section line) (number + 1) texts f g h in_later)
    (λ in_later. faults_behind d (seen_after seen section line) (section_after section line) (number + 1) texts g in_later) e c where
      by : (ks : List SbyKind) → FirstLeast ks → (more : List SbyFault) → (first more ≡ Some f → Contains more g → IsNoLater f g) → (Contains more g → number + 1 < g.line)
          → first (at_line (number + 1) ks ++ more) ≡ Some f → Contains (at_line (number + 1) ks ++ more) g → IsNoLater f g
      by [] least more next behind e c = next e c
      by (k ∷ ks) least more next behind e c =
          let is = first_in (number + 1) k ks more f e in
          elim (Contains-append_cases (at_line (number + 1) (k ∷ ks)) more g c) [
            | inl here ↦ let h = at_in (number + 1) (k ∷ ks) g here in inr (ap (λ x. x.line) is ∙ h.0, subst (λ x. rank x ≤ rank g.kind) (sym (ap (λ x. x.kind) is)) (least k refl g.kind h.1))
            | inr there ↦ let h = behind there in let l : f.line ≡ number + 1 = ap (λ x. x.line) is in inl (omega (arith, l, h))
          ]

pub by_size : (bytes : List ℕ) → 2 ^ 24 < length bytes → faults_of bytes ≡ record { line = 0; kind = Limit } ∷ []
by_size bytes h = let large : ltb (2 ^ 24) (length bytes) ≡ true = grind (arith, nat_tests) in rw large refl

pub first_comes : (bytes : List ℕ) (f g : SbyFault) → first (faults_of bytes) ≡ Some f → Contains (faults_of bytes) g → IsNoLater f g
first_comes bytes f g e c = elim (cases_Bool (ltb (2 ^ 24) (length bytes))) [
  | inl y ↦
      let one : faults_of bytes ≡ record { line = 0; kind = Limit } ∷ [] = rw y refl in
      let is : record { line = 0; kind = Limit } ≡ f = let z : Some (record { line = 0; kind = Limit }) ≡ Some f = ap first (sym one) ∙ e in cc in
      let that : record { line = 0; kind = Limit } ≡ g = in_one (record { line = 0; kind = Limit }) g (subst (λ fs. Contains fs g) one c) in
      subst (λ x. IsNoLater x g) is (subst (IsNoLater (record { line = 0; kind = Limit })) that (inr (refl, omega arith)))
  | inr n ↦
      let lines : faults_of bytes ≡ lines_faults bytes = rw n refl in
      no_later (declared (placed bytes)) nothing_seen Nowhere 0 (lines_of bytes) f g (ap first (sym lines) ∙ e) (subst (λ fs. Contains fs g) lines c)
]
