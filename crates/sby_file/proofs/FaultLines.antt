-- The faults of a text are those of its lines, kind by kind.
use Rattle.std.proofs.Common.{◌≡◌, ◌⊎◌, ◌∙◌, ℕ, zero, suc, ◌<◌, ◌≤◌, ◌^◌, Bool, true, false, ◌&&◌, List, [], ◌∷◌, ◌++◌, refl, sym, ap, subst, inl, inr, arith, length, take, eqb, leb, ltb}
use Rattle.std.specs.Prelude.{◌↔◌, ◌||◌, not, Contains}
use Rattle.std.specs.List.{list_all}
use Rattle.std.proofs.lemmas.Bool.{cases_Bool, false≢true, leb-true, le-leb}
use Rattle.std.proofs.lemmas.Bool.Decides.{nat_tests}
use Rattle.std.proofs.lemmas.List.Elements.{Contains-append_left, Contains-append_right, Contains-append_cases}
use Rattle.sby_file.specs.Names.{has}
use Rattle.sby_file.specs.Section.{section_named, name_of, is_scoped}
use Rattle.sby_file.specs.Prefix.{is_name, is_block_end, opens_block, prefix_length, are_known, mark_name}
use Rattle.sby_file.specs.Placed.{placed}
use Rattle.sby_file.specs.Faults.{Declared, Seen, nothing_seen, had, when, header_faults, task_faults, prefix_faults, scoped_faults, stray, content_faults, line_faults, seen_after, at_line, faults_from, faults_of, lines_faults, declared, declared_names, has_tasks, is_closed}
use Rattle.sby_file.specs.Lines.{IsHeader, IsScopedLine, LeaveBlockOpen, SomeLine}
use Rattle.sby_file.specs.Faulty.{StandsOnce, IsFaulty, HasFault}
use Rattle.sby_file.specs.declared.section.Section.{Section}
use Rattle.sby_file.specs.declared.section.Section.TheVariants.{Nowhere, Tasks, Options, Engines, Script, Files, File, Unknown}
use Rattle.sby_file.specs.declared.line.Line.{Line}
use Rattle.sby_file.specs.declared.line.Line.TheVariants.{NotText as NotTextLine, Header, Content, Raw}
use Rattle.sby_file.specs.declared.walk.Placed.{Placed}
use Rattle.sby_file.specs.declared.fault.SbyFault.{SbyFault}
use Rattle.sby_file.specs.declared.fault.SbyKind.{SbyKind}
use Rattle.sby_file.specs.declared.fault.SbyKind.TheVariants.{NotText, StrayLine, UnknownSection, DoubleSection, DoubleTask, PrefixWithoutTasks, UnknownTask, DoubleFile, Limit}
use Rattle.sby_file.proofs.SeenLines.{seen_all, had_forth, had_back, file_forth, file_back, tasks_seen, task_forth, task_back, has_contains, contains_has}
use Rattle.sby_file.proofs.BlockLines.{inside_forth, inside_back, closed_forth, closed_back}

-- ---- lists of kinds
in_one : {X : Type 0} (y x : X) → Contains (y ∷ []) x → y ≡ x
in_one y x (zero, lt, is) = is
in_one y x (suc k, lt, is) = absurd (omega (arith, lt))

in_none : {X : Type 0} (x : X) → Contains [] x → ⊥
in_none x c = omega (arith, c.1)

one_in : {X : Type 0} (x : X) → Contains (x ∷ []) x
one_in x = (0, omega arith, refl)

when_in : (test : Bool) (k kind : SbyKind) → Contains (when test k) kind → (test ≡ true) × (k ≡ kind)
when_in true k kind c = (refl, in_one k kind c)
when_in false k kind c = absurd (in_none kind c)

in_when : (test : Bool) (k : SbyKind) → test ≡ true → Contains (when test k) k
in_when test k e = subst (λ t. Contains (when t k) k) (sym e) (one_in k)

-- ---- a fault is one of a line
abbrev IsAt : Declared → Seen → List Placed → SbyFault → Type 0
IsAt d seen ps f =
    (before : List Placed) × (p : Placed) × (after : List Placed) × (ps ≡ before ++ p ∷ after) × (p.number ≡ f.line)
    × Contains (line_faults d (seen_all seen before) p.section p.line after) f.kind

at_in : (number : ℕ) (ks : List SbyKind) (f : SbyFault) → Contains (at_line number ks) f → (number ≡ f.line) × Contains ks f.kind
at_in number [] f c = absurd (in_none f c)
at_in number (k ∷ ks) f (zero, lt, is) = (ap (λ g. g.line) is, (0, omega arith, ap (λ g. g.kind) is))
at_in number (k ∷ ks) f (suc n, lt, is) =
    let h = at_in number ks f (n, omega (arith, lt), is) in (h.0, Contains-append_right (k ∷ []) ks f.kind h.1)

in_at : (number : ℕ) (ks : List SbyKind) (kind : SbyKind) → Contains ks kind → Contains (at_line number ks) (record { line = number; kind = kind })
in_at number [] kind c = absurd (in_none kind c)
in_at number (k ∷ ks) kind (zero, lt, is) = (0, omega arith, ap (λ j. record { line = number; kind = j }) is)
in_at number (k ∷ ks) kind (suc n, lt, is) =
    Contains-append_right (record { line = number; kind = k } ∷ []) (at_line number ks) (record { line = number; kind = kind }) (in_at number ks kind (n, omega (arith, lt), is))

fault_at : (d : Declared) (seen : Seen) (ps : List Placed) (f : SbyFault) → Contains (faults_from d seen ps) f → IsAt d seen ps f
fault_at d seen [] f c = absurd (in_none f c)
fault_at d seen (p ∷ ps) f c =
    elim (Contains-append_cases (at_line p.number (line_faults d seen p.section p.line ps)) (faults_from d (seen_after seen p.section p.line) ps) f c) [
      | inl here ↦ let h = at_in p.number (line_faults d seen p.section p.line ps) f here in ([], p, ps, refl, h.0, h.1)
      | inr later ↦ let h = fault_at d (seen_after seen p.section p.line) ps f later in (p ∷ h.0, h.1, h.2, ap (λ qs. p ∷ qs) h.3, h.4, h.5)
    ]

at_fault : (d : Declared) (seen : Seen) (ps before : List Placed) (p : Placed) (after : List Placed) (kind : SbyKind) → ps ≡ before ++ p ∷ after
    → Contains (line_faults d (seen_all seen before) p.section p.line after) kind → Contains (faults_from d seen ps) (record { line = p.number; kind = kind })
at_fault d seen ps [] p after kind e c =
    subst (λ qs. Contains (faults_from d seen qs) (record { line = p.number; kind = kind })) (sym e)
    (Contains-append_left (at_line p.number (line_faults d seen p.section p.line after)) (faults_from d (seen_after seen p.section p.line) after) (record { line = p.number; kind = kind })
    (in_at p.number (line_faults d seen p.section p.line after) kind c))
at_fault d seen ps (q ∷ before) p after kind e c =
    subst (λ qs. Contains (faults_from d seen qs) (record { line = p.number; kind = kind })) (sym e)
    (Contains-append_right (at_line q.number (line_faults d seen q.section q.line (before ++ p ∷ after))) (faults_from d (seen_after seen q.section q.line) (before ++ p ∷ after)) (record { line = p.number; kind = kind })
    (at_fault d (seen_after seen q.section q.line) (before ++ p ∷ after) before p after kind refl c))

-- ---- tests
not_true : (b : Bool) → not b ≡ true → b ≡ false
not_true true e = cc
not_true false e = refl

true_not : (b : Bool) → b ≡ false → not b ≡ true
true_not b e = rw e refl

both_are : (a b : Bool) → (a && b) ≡ true → (a ≡ true) × (b ≡ true)
both_are true true e = (refl, refl)
both_are true false e = cc
both_are false b e = cc

either_is : (a b : Bool) → (a || b) ≡ true → (a ≡ true) ⊎ (b ≡ true)
either_is true b e = inl refl
either_is false b e = inr e

some_fails : (p : List ℕ → Bool) (words : List (List ℕ)) → list_all p words ≡ false → (word : List ℕ) × Contains words word × (p word ≡ false)
some_fails p [] e = cc
some_fails p (w ∷ ws) e = elim (cases_Bool (p w)) [
  | inl y ↦ let h = some_fails p ws (rw y at e) in (h.0, Contains-append_right (w ∷ []) ws h.0 h.1, h.2)
  | inr n ↦ (w, (0, omega arith, refl), n)
]

fails_some : (p : List ℕ → Bool) (words : List (List ℕ)) (word : List ℕ) → Contains words word → p word ≡ false → list_all p words ≡ false
fails_some p [] word c e = absurd (in_none word c)
fails_some p (w ∷ ws) word (zero, lt, is) e = let f : p w ≡ false = ap p is ∙ e in rw f refl
fails_some p (w ∷ ws) word (suc k, lt, is) e = let h = fails_some p ws word (k, omega (arith, lt), is) e in elim (cases_Bool (p w)) [ inl y ↦ rw (y, h) refl | inr n ↦ rw n refl ]

-- ---- kind by kind
module _ (all before : List Placed) (p : Placed) (after : List Placed) where
  abbrev D : Declared
  D = declared all

  abbrev S : Seen
  S = seen_all nothing_seen before

  abbrev Is : SbyKind → Type 0
  Is kind = IsFaulty all before p after kind

  -- headers
  once_had : (s : Section) → StandsOnce s → had S.headers s ≡ true → SomeLine (λ q. (other : List (List ℕ)) × IsHeader s other q) before
  once_had s once h = elim (had_forth s once nothing_seen before h) [ inl k ↦ absurd (never s once k) | inr k ↦ k ] where
    never : (s : Section) → StandsOnce s → had nothing_seen.headers s ≡ true → ⊥
    never Tasks once k = cc
    never Options once k = cc
    never Engines once k = cc
    never Script once k = cc
    never Files once k = cc
    never Nowhere once k = once
    never File once k = once
    never Unknown once k = once

  doubled : (name : List (List ℕ)) (s : Section) (kind : SbyKind) → StandsOnce s → p.line ≡ Header name → section_named name ≡ s → Contains (when (had S.headers s) DoubleSection) kind → Is kind
  doubled name s kind once line named c =
      let h = when_in (had S.headers s) DoubleSection kind c in
      subst Is h.1 (name, s, (line, named), once, once_had s once h.0)

  header_is : (name : List (List ℕ)) (s : Section) (kind : SbyKind) → p.line ≡ Header name → section_named name ≡ s → Contains (header_faults S s (name_of name)) kind → Is kind
  header_is name Unknown kind line named c = subst Is (in_one UnknownSection kind c) (name, (line, named))
  header_is name Nowhere kind line named c = absurd (in_none kind c)
  header_is name File kind line named c =
      let h = when_in (has S.files (name_of name)) DoubleFile kind c in
      elim (file_forth (name_of name) nothing_seen before h.0) [
        | inl k ↦ cc
        | inr k ↦ subst Is h.1 (name, (line, named), k)
      ]
  header_is name Tasks kind line named c = doubled name Tasks kind tt line named c
  header_is name Options kind line named c = doubled name Options kind tt line named c
  header_is name Engines kind line named c = doubled name Engines kind tt line named c
  header_is name Script kind line named c = doubled name Script kind tt line named c
  header_is name Files kind line named c = doubled name Files kind tt line named c

  -- lines of `[tasks]`
  task_is : (words : List (List ℕ)) (kind : SbyKind) → p.section ≡ Tasks → p.line ≡ Content words → Contains (task_faults S words) kind → Is kind
  task_is [] kind section line c = absurd (in_none kind c)
  task_is (name ∷ tags) kind section line c =
      elim (Contains-append_cases (when (not (list_all is_name (name ∷ tags))) StrayLine) (when (has S.tasks name) DoubleTask ++ when (leb 1000 (length S.tasks)) Limit) kind c) [
        | inl stray_in ↦
            let h = when_in (not (list_all is_name (name ∷ tags))) StrayLine kind stray_in in
            let w = some_fails is_name (name ∷ tags) (not_true (list_all is_name (name ∷ tags)) h.0) in
            subst Is h.1 (inr (inl (name ∷ tags, w.0, (section, line), w.1, w.2)))
        | inr others ↦ elim (Contains-append_cases (when (has S.tasks name) DoubleTask) (when (leb 1000 (length S.tasks)) Limit) kind others) [
          | inl double ↦
              let h = when_in (has S.tasks name) DoubleTask kind double in
              subst Is h.1 (name, tags, (section, line), task_forth name before (subst (λ ts. has ts name ≡ true) (tasks_seen nothing_seen before) h.0))
          | inr limit ↦
              let h = when_in (leb 1000 (length S.tasks)) Limit kind limit in
              subst Is h.1 (name, tags, (section, line), subst (λ ts. 1000 ≤ length ts) (tasks_seen nothing_seen before) (leb-true 1000 (length S.tasks) h.0))
        ]
      ]

  -- lines with prefixes
  open_before : S.is_inside ≡ true → LeaveBlockOpen before
  open_before h = elim (inside_forth nothing_seen before h) [ inl k ↦ cc | inr k ↦ k ]

  prefix_is : (words : List (List ℕ)) (kind : SbyKind) → IsScopedLine words p → is_block_end words ≡ false → Contains (prefix_faults D words) kind → Is kind
  prefix_is words kind scoped on c = elim (cases_Bool (eqb (prefix_length words) 0)) [
    | inl none ↦ absurd (in_none kind (rw none at c))
    | inr some ↦
        let long : 0 < prefix_length words = grind (arith, nat_tests) in
        elim (cases_Bool (has_tasks all)) [
          | inl tasks ↦
              let h = when_in (not (are_known D.is_known (take (prefix_length words) words))) UnknownTask kind (rw (some, tasks) at c) in
              let w = some_fails (λ word. D.is_known (mark_name word)) (take (prefix_length words) words) (not_true _ h.0) in
              subst Is h.1 (words, w.0, (scoped, on, long), tasks, w.1, (λ known. false≢true (sym w.2 ∙ contains_has (declared_names all) (mark_name w.0) known)))
          | inr tasks ↦
              subst Is (in_one PrefixWithoutTasks kind (rw (some, tasks) at c)) (words, (scoped, on, long), tasks)
        ]
  ]

  scoped_is : (words : List (List ℕ)) (kind : SbyKind) → IsScopedLine words p → Contains (scoped_faults D S words after) kind → Is kind
  scoped_is words kind scoped c = elim (cases_Bool (is_block_end words)) [
    | inl end ↦
        let h = when_in (not S.is_inside) StrayLine kind (rw end at c) in
        subst Is h.1 (inr (inr (inl (words, scoped, end, (λ open_there. false≢true (sym (not_true S.is_inside h.0) ∙ inside_back nothing_seen before (inr open_there)))))))
    | inr on ↦
        elim (Contains-append_cases (when (opens_block words && (S.is_inside || not (is_closed after))) StrayLine) (prefix_faults D words) kind (rw on at c)) [
          | inl block ↦
              let h = when_in (opens_block words && (S.is_inside || not (is_closed after))) StrayLine kind block in
              let b = both_are (opens_block words) (S.is_inside || not (is_closed after)) h.0 in
              subst Is h.1 (inr (inr (inr (
                words,
                scoped,
                on,
                b.0,
                elim (either_is S.is_inside (not (is_closed after)) b.1) [
                  | inl k ↦ inl (open_before k)
                  | inr k ↦ inr (λ closed. false≢true (sym (not_true (is_closed after) k) ∙ closed_back after closed))
                ],
              ))))
          | inr prefix ↦ prefix_is words kind scoped on prefix
        ]
  ]

  stray_is : (words : List (List ℕ)) (kind : SbyKind) → p.section ≡ Nowhere → p.line ≡ Content words → Contains (stray words) kind → Is kind
  stray_is [] kind section line c = absurd (in_none kind c)
  stray_is (word ∷ words) kind section line c = subst Is (in_one StrayLine kind c) (inl (word, words, section, line))

  content_is : (section : Section) (words : List (List ℕ)) (kind : SbyKind) → p.section ≡ section → p.line ≡ Content words → Contains (content_faults D S section words after) kind → Is kind
  content_is Nowhere words kind section line c = stray_is words kind section line c
  content_is Tasks words kind section line c = task_is words kind section line c
  content_is Options words kind section line c = scoped_is words kind (ap is_scoped section, line) c
  content_is Engines words kind section line c = scoped_is words kind (ap is_scoped section, line) c
  content_is Script words kind section line c = scoped_is words kind (ap is_scoped section, line) c
  content_is Files words kind section line c = scoped_is words kind (ap is_scoped section, line) c
  content_is File words kind section line c = absurd (in_none kind c)
  content_is Unknown words kind section line c = absurd (in_none kind c)

  line_is : (section : Section) (line : Line) (kind : SbyKind) → p.section ≡ section → p.line ≡ line → Contains (line_faults D S section line after) kind → Is kind
  line_is section NotTextLine kind s e c = subst Is (in_one NotText kind c) e
  line_is section (Header name) kind s e c = header_is name (section_named name) kind e refl c
  line_is section (Content words) kind s e c = content_is section words kind s e c
  line_is section (Raw bytes) kind s e c = absurd (in_none kind c)

  pub faulty : (kind : SbyKind) → Contains (line_faults D S p.section p.line after) kind → Is kind
  faulty kind c = line_is p.section p.line kind refl refl c

  -- ---- and back
  abbrev In : SbyKind → Section → Line → Type 0
  In kind section line = Contains (line_faults D S section line after) kind

  back_by : (kind : SbyKind) (section : Section) (line : Line) → p.section ≡ section → p.line ≡ line → In kind section line → In kind p.section p.line
  back_by kind section line s e c = subst (λ t. In kind t p.line) (sym s) (subst (In kind section) (sym e) c)

  back_line : (kind : SbyKind) (line : Line) → p.line ≡ line → In kind p.section line → In kind p.section p.line
  back_line kind line e c = subst (In kind p.section) (sym e) c

  back_header : (name : List (List ℕ)) (s : Section) (kind : SbyKind) → p.line ≡ Header name → section_named name ≡ s → Contains (header_faults S s (name_of name)) kind → In kind p.section p.line
  back_header name s kind e named c = back_line kind (Header name) e (subst (λ t. Contains (header_faults S t (name_of name)) kind) (sym named) c)

  double_in : (name : List (List ℕ)) (s : Section) → StandsOnce s → had S.headers s ≡ true → Contains (header_faults S s (name_of name)) DoubleSection
  double_in name Tasks once h = in_when (had S.headers Tasks) DoubleSection h
  double_in name Options once h = in_when (had S.headers Options) DoubleSection h
  double_in name Engines once h = in_when (had S.headers Engines) DoubleSection h
  double_in name Script once h = in_when (had S.headers Script) DoubleSection h
  double_in name Files once h = in_when (had S.headers Files) DoubleSection h
  double_in name Nowhere once h = absurd once
  double_in name File once h = absurd once
  double_in name Unknown once h = absurd once

  scoped_in : (section : Section) (words : List (List ℕ)) (kind : SbyKind) → is_scoped section ≡ true → Contains (scoped_faults D S words after) kind → Contains (content_faults D S section words after) kind
  scoped_in Options words kind h c = c
  scoped_in Engines words kind h c = c
  scoped_in Script words kind h c = c
  scoped_in Files words kind h c = c
  scoped_in Nowhere words kind h c = cc
  scoped_in Tasks words kind h c = cc
  scoped_in File words kind h c = cc
  scoped_in Unknown words kind h c = cc

  back_scoped : (words : List (List ℕ)) (kind : SbyKind) → IsScopedLine words p → Contains (scoped_faults D S words after) kind → In kind p.section p.line
  back_scoped words kind scoped c = back_line kind (Content words) scoped.1 (scoped_in p.section words kind scoped.0 c)

  prefix_in : (words : List (List ℕ)) (kind : SbyKind) → is_block_end words ≡ false → Contains (prefix_faults D words) kind → Contains (scoped_faults D S words after) kind
  prefix_in words kind on c =
      rw on (Contains-append_right (when (opens_block words && (S.is_inside || not (is_closed after))) StrayLine) (prefix_faults D words) kind c)

  begun : (words : List (List ℕ)) → 0 < prefix_length words → eqb (prefix_length words) 0 ≡ false
  begun words h = grind (arith, nat_tests)

  stray_back : Is StrayLine → In StrayLine p.section p.line
  stray_back (inl h) = back_by StrayLine Nowhere (Content (h.0 ∷ h.1)) h.2 h.3 (one_in StrayLine)
  stray_back (inr (inl h)) = task_back_by h.0 h.2.0 h.2.1 h.3 where
    task_back_by : (words : List (List ℕ)) → p.section ≡ Tasks → p.line ≡ Content words → Contains words h.1 → In StrayLine p.section p.line
    task_back_by [] s e c = absurd (in_none h.1 c)
    task_back_by (name ∷ tags) s e c =
        back_by StrayLine Tasks (Content (name ∷ tags)) s e
        (Contains-append_left (when (not (list_all is_name (name ∷ tags))) StrayLine) (when (has S.tasks name) DoubleTask ++ when (leb 1000 (length S.tasks)) Limit) StrayLine
        (in_when (not (list_all is_name (name ∷ tags))) StrayLine (true_not (list_all is_name (name ∷ tags)) (fails_some is_name (name ∷ tags) h.1 c h.4))))
  stray_back (inr (inr (inl h))) =
      let shut : S.is_inside ≡ false = elim (cases_Bool S.is_inside) [ inl y ↦ absurd (h.3 (open_before y)) | inr n ↦ n ] in
      back_scoped h.0 StrayLine h.1 (rw h.2 (in_when (not S.is_inside) StrayLine (true_not S.is_inside shut)))
  stray_back (inr (inr (inr h))) =
      let test : (S.is_inside || not (is_closed after)) ≡ true = elim h.4 [
        | inl open_there ↦ let y : S.is_inside ≡ true = inside_back nothing_seen before (inr open_there) in rw y refl
        | inr unclosed ↦
            let n : is_closed after ≡ false = elim (cases_Bool (is_closed after)) [ inl y ↦ absurd (unclosed (closed_forth after y)) | inr n ↦ n ] in
            elim (cases_Bool S.is_inside) [ inl y ↦ rw y refl | inr m ↦ rw (m, n) refl ]
      ] in
      let whole : (opens_block h.0 && (S.is_inside || not (is_closed after))) ≡ true = rw (h.3, test) refl in
      back_scoped h.0 StrayLine h.1
      (rw h.2 (Contains-append_left (when (opens_block h.0 && (S.is_inside || not (is_closed after))) StrayLine) (prefix_faults D h.0) StrayLine
      (in_when (opens_block h.0 && (S.is_inside || not (is_closed after))) StrayLine whole)))

  pub faulty_back : (kind : SbyKind) → Is kind → In kind p.section p.line
  faulty_back NotText h = back_line NotText NotTextLine h (one_in NotText)
  faulty_back StrayLine h = stray_back h
  faulty_back UnknownSection h = back_header h.0 Unknown UnknownSection h.1.0 h.1.1 (one_in UnknownSection)
  faulty_back DoubleSection h =
      back_header h.0 h.1 DoubleSection h.2.0 h.2.1 (double_in h.0 h.1 h.3 (had_back h.1 h.3 nothing_seen before h.4))
  faulty_back DoubleTask h =
      let there : has S.tasks h.0 ≡ true = subst (λ ts. has ts h.0 ≡ true) (sym (tasks_seen nothing_seen before)) (task_back h.0 before h.3) in
      back_by DoubleTask Tasks (Content (h.0 ∷ h.1)) h.2.0 h.2.1
      (Contains-append_right (when (not (list_all is_name (h.0 ∷ h.1))) StrayLine) (when (has S.tasks h.0) DoubleTask ++ when (leb 1000 (length S.tasks)) Limit) DoubleTask
      (Contains-append_left (when (has S.tasks h.0) DoubleTask) (when (leb 1000 (length S.tasks)) Limit) DoubleTask (in_when (has S.tasks h.0) DoubleTask there)))
  faulty_back Limit h =
      let many : leb 1000 (length S.tasks) ≡ true = le-leb 1000 (length S.tasks) (subst (λ ts. 1000 ≤ length ts) (sym (tasks_seen nothing_seen before)) h.3) in
      back_by Limit Tasks (Content (h.0 ∷ h.1)) h.2.0 h.2.1
      (Contains-append_right (when (not (list_all is_name (h.0 ∷ h.1))) StrayLine) (when (has S.tasks h.0) DoubleTask ++ when (leb 1000 (length S.tasks)) Limit) Limit
      (Contains-append_right (when (has S.tasks h.0) DoubleTask) (when (leb 1000 (length S.tasks)) Limit) Limit (in_when (leb 1000 (length S.tasks)) Limit many)))
  faulty_back DoubleFile h = back_header h.0 File DoubleFile h.1.0 h.1.1 (in_when (has S.files (name_of h.0)) DoubleFile (file_back (name_of h.0) nothing_seen before h.2))
  faulty_back PrefixWithoutTasks h =
      let some = begun h.0 h.1.2 in
      back_scoped h.0 PrefixWithoutTasks h.1.0 (prefix_in h.0 PrefixWithoutTasks h.1.1 (rw (some, h.2) (one_in PrefixWithoutTasks)))
  faulty_back UnknownTask h =
      let some = begun h.0 h.2.2 in
      let unknown : D.is_known (mark_name h.1) ≡ false = elim (cases_Bool (D.is_known (mark_name h.1))) [ inl y ↦ absurd (h.5 (has_contains (declared_names all) (mark_name h.1) y)) | inr n ↦ n ] in
      let fails : are_known D.is_known (take (prefix_length h.0) h.0) ≡ false = fails_some (λ word. D.is_known (mark_name word)) (take (prefix_length h.0) h.0) h.1 h.4 unknown in
      back_scoped h.0 UnknownTask h.2.0
      (prefix_in h.0 UnknownTask h.2.1 (rw (some, h.3) (in_when (not (are_known D.is_known (take (prefix_length h.0) h.0))) UnknownTask (true_not (are_known D.is_known (take (prefix_length h.0) h.0)) fails))))

-- ---- the whole text
by_lines : (bytes : List ℕ) → length bytes ≤ 2 ^ 24 → faults_of bytes ≡ lines_faults bytes
by_lines bytes h = let small : ltb (2 ^ 24) (length bytes) ≡ false = grind (arith, nat_tests) in rw small refl

pub of_lines : (bytes : List ℕ) (line : ℕ) (kind : SbyKind) → length bytes ≤ 2 ^ 24 → Contains (faults_of bytes) (record { line = line; kind = kind }) ↔ HasFault (placed bytes) line kind
of_lines bytes line kind small = (
  (λ c.
      let h = fault_at (declared (placed bytes)) nothing_seen (placed bytes) (record { line = line; kind = kind })
      (subst (λ fs. Contains fs (record { line = line; kind = kind })) (by_lines bytes small) c) in
      (h.0, h.1, h.2, h.3, h.4, faulty (placed bytes) h.0 h.1 h.2 kind h.5)),
  (λ h.
      subst (λ fs. Contains fs (record { line = line; kind = kind })) (sym (by_lines bytes small))
      (subst (λ n. Contains (lines_faults bytes) (record { line = n; kind = kind })) h.4
      (at_fault (declared (placed bytes)) nothing_seen (placed bytes) h.0 h.1 h.2 kind h.3 (faulty_back (placed bytes) h.0 h.1 h.2 kind h.5)))),
)
