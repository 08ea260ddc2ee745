-- What the lines so far have, as their readers keep it, is what some line of them says.
use Rattle.std.proofs.Common.{◌≡◌, ◌⊎◌, ◌∙◌, ℕ, zero, suc, true, false, List, [], ◌∷◌, ◌++◌, refl, sym, ap, subst, inl, inr, arith}
use Rattle.std.specs.Prelude.{◌↔◌, Contains, bytes_eq}
use Rattle.std.proofs.lemmas.Bool.{cases_Bool}
use Rattle.std.proofs.lemmas.List.{append_assoc, append-nil}
use Rattle.std.proofs.lemmas.List.Elements.{Contains-append_right}
use Rattle.std.proofs.lemmas.Slice.Eq.{bytes_eq-Decides}
use Rattle.sby_file.specs.Names.{has, with_name}
use Rattle.sby_file.specs.Section.{section_named, name_of}
use Rattle.sby_file.specs.Faults.{Seen, had, with_header, seen_after, seen_header, seen_task, seen_content, line_names}
use Rattle.sby_file.specs.Lines.{IsHeader, IsTaskLine, SomeLine}
use Rattle.sby_file.specs.Faulty.{StandsOnce, first_words, task_names}
use Rattle.sby_file.specs.declared.headers.Headers.{Headers}
use Rattle.sby_file.specs.declared.section.Section.{Section}
use Rattle.sby_file.specs.declared.section.Section.TheVariants.{Nowhere, Tasks, Options, Engines, Script, Files, File, Unknown}
use Rattle.sby_file.specs.declared.line.Line.{Line}
use Rattle.sby_file.specs.declared.line.Line.TheVariants.{NotText, Header, Content, Raw}
use Rattle.sby_file.specs.declared.walk.Placed.{Placed}

-- what is seen after all of these lines
abbrev pub seen_all : Seen → List Placed → Seen
seen_all seen [] = seen
seen_all seen (p ∷ ps) = seen_all (seen_after seen p.section p.line) ps

pub seen_more : (seen : Seen) (ps : List Placed) (p : Placed) → seen_all seen (ps ++ p ∷ []) ≡ seen_after (seen_all seen ps) p.section p.line
seen_more seen [] p = refl
seen_more seen (q ∷ ps) p = seen_more (seen_after seen q.section q.line) ps p

-- ---- some line of a list
pub some_later : (Is : Placed → Type 0) (p : Placed) (ps : List Placed) → SomeLine Is ps → SomeLine Is (p ∷ ps)
some_later Is p ps s = (s.0, Contains-append_right (p ∷ []) ps s.0 s.1, s.2)

pub some_first : (Is : Placed → Type 0) (p : Placed) (ps : List Placed) → Is p → SomeLine Is (p ∷ ps)
some_first Is p ps h = (p, (0, omega arith, refl), h)

pub some_cases : (Is : Placed → Type 0) (p : Placed) (ps : List Placed) → SomeLine Is (p ∷ ps) → Is p ⊎ SomeLine Is ps
some_cases Is p ps (q, (zero, lt, at), h) = inl (subst Is (sym at) h)
some_cases Is p ps (q, (suc k, lt, at), h) = inr (q, (k, omega (arith, lt), at), h)

pub some_none : (Is : Placed → Type 0) → SomeLine Is [] → ⊥
some_none Is (q, c, h) = omega (arith, c.1)

-- what is kept of lines one by one is what some of them say: `now` tells of what is kept, and a line adds what it says
module _ (Now : Seen → Type 0) (Says : Placed → Type 0)
    (kept : (seen : Seen) (p : Placed) → Now (seen_after seen p.section p.line) ↔ (Now seen ⊎ Says p)) where
  pub kept_forth : (seen : Seen) (ps : List Placed) → Now (seen_all seen ps) → Now seen ⊎ SomeLine Says ps
  kept_forth seen [] now = inl now
  kept_forth seen (p ∷ ps) now = elim (kept_forth (seen_after seen p.section p.line) ps now) [
    | inl after ↦ elim ((kept seen p).0 after) [
      | inl before ↦ inl before
      | inr says ↦ inr (some_first Says p ps says)
    ]
    | inr later ↦ inr (some_later Says p ps later)
  ]

  pub kept_back : (seen : Seen) (ps : List Placed) → Now seen ⊎ SomeLine Says ps → Now (seen_all seen ps)
  kept_back seen [] (inl now) = now
  kept_back seen [] (inr some) = absurd (some_none Says some)
  kept_back seen (p ∷ ps) (inl now) = kept_back (seen_after seen p.section p.line) ps (inl ((kept seen p).1 (inl now)))
  kept_back seen (p ∷ ps) (inr some) = elim (some_cases Says p ps some) [
    | inl says ↦ kept_back (seen_after seen p.section p.line) ps (inl ((kept seen p).1 (inr says)))
    | inr later ↦ kept_back (seen_after seen p.section p.line) ps (inr later)
  ]

-- ---- headers that stand once
abbrev IsHad : Section → Seen → Type 0
IsHad s seen = had seen.headers s ≡ true

abbrev SaysHeader : Section → Placed → Type 0
SaysHeader s p = (name : List (List ℕ)) × IsHeader s name p

pub had_more : (h : Headers) (s t : Section) → StandsOnce s → (had (with_header h t) s ≡ true) ↔ ((had h s ≡ true) ⊎ (t ≡ s))
had_more h Tasks Tasks once = (λ e. inr refl, λ e. refl)
had_more h Tasks Options once = (λ e. inl e, λ e. elim e [ inl k ↦ k | inr k ↦ cc ])
had_more h Tasks Engines once = (λ e. inl e, λ e. elim e [ inl k ↦ k | inr k ↦ cc ])
had_more h Tasks Script once = (λ e. inl e, λ e. elim e [ inl k ↦ k | inr k ↦ cc ])
had_more h Tasks Files once = (λ e. inl e, λ e. elim e [ inl k ↦ k | inr k ↦ cc ])
had_more h Tasks Nowhere once = (λ e. inl e, λ e. elim e [ inl k ↦ k | inr k ↦ cc ])
had_more h Tasks File once = (λ e. inl e, λ e. elim e [ inl k ↦ k | inr k ↦ cc ])
had_more h Tasks Unknown once = (λ e. inl e, λ e. elim e [ inl k ↦ k | inr k ↦ cc ])
had_more h Options Tasks once = (λ e. inl e, λ e. elim e [ inl k ↦ k | inr k ↦ cc ])
had_more h Options Options once = (λ e. inr refl, λ e. refl)
had_more h Options Engines once = (λ e. inl e, λ e. elim e [ inl k ↦ k | inr k ↦ cc ])
had_more h Options Script once = (λ e. inl e, λ e. elim e [ inl k ↦ k | inr k ↦ cc ])
had_more h Options Files once = (λ e. inl e, λ e. elim e [ inl k ↦ k | inr k ↦ cc ])
had_more h Options Nowhere once = (λ e. inl e, λ e. elim e [ inl k ↦ k | inr k ↦ cc ])
had_more h Options File once = (λ e. inl e, λ e. elim e [ inl k ↦ k | inr k ↦ cc ])
had_more h Options Unknown once = (λ e. inl e, λ e. elim e [ inl k ↦ k | inr k ↦ cc ])
had_more h Engines Tasks once = (λ e. inl e, λ e. elim e [ inl k ↦ k | inr k ↦ cc ])
had_more h Engines Options once = (λ e. inl e, λ e. elim e [ inl k ↦ k | inr k ↦ cc ])
had_more h Engines Engines once = (λ e. inr refl, λ e. refl)
had_more h Engines Script once = (λ e. inl e, λ e. elim e [ inl k ↦ k | inr k ↦ cc ])
had_more h Engines Files once = (λ e. inl e, λ e. elim e [ inl k ↦ k | inr k ↦ cc ])
had_more h Engines Nowhere once = (λ e. inl e, λ e. elim e [ inl k ↦ k | inr k ↦ cc ])
had_more h Engines File once = (λ e. inl e, λ e. elim e [ inl k ↦ k | inr k ↦ cc ])
had_more h Engines Unknown once = (λ e. inl e, λ e. elim e [ inl k ↦ k | inr k ↦ cc ])
had_more h Script Tasks once = (λ e. inl e, λ e. elim e [ inl k ↦ k | inr k ↦ cc ])
had_more h Script Options once = (λ e. inl e, λ e. elim e [ inl k ↦ k | inr k ↦ cc ])
had_more h Script Engines once = (λ e. inl e, λ e. elim e [ inl k ↦ k | inr k ↦ cc ])
had_more h Script Script once = (λ e. inr refl, λ e. refl)
had_more h Script Files once = (λ e. inl e, λ e. elim e [ inl k ↦ k | inr k ↦ cc ])
had_more h Script Nowhere once = (λ e. inl e, λ e. elim e [ inl k ↦ k | inr k ↦ cc ])
had_more h Script File once = (λ e. inl e, λ e. elim e [ inl k ↦ k | inr k ↦ cc ])
had_more h Script Unknown once = (λ e. inl e, λ e. elim e [ inl k ↦ k | inr k ↦ cc ])
had_more h Files Tasks once = (λ e. inl e, λ e. elim e [ inl k ↦ k | inr k ↦ cc ])
had_more h Files Options once = (λ e. inl e, λ e. elim e [ inl k ↦ k | inr k ↦ cc ])
had_more h Files Engines once = (λ e. inl e, λ e. elim e [ inl k ↦ k | inr k ↦ cc ])
had_more h Files Script once = (λ e. inl e, λ e. elim e [ inl k ↦ k | inr k ↦ cc ])
had_more h Files Files once = (λ e. inr refl, λ e. refl)
had_more h Files Nowhere once = (λ e. inl e, λ e. elim e [ inl k ↦ k | inr k ↦ cc ])
had_more h Files File once = (λ e. inl e, λ e. elim e [ inl k ↦ k | inr k ↦ cc ])
had_more h Files Unknown once = (λ e. inl e, λ e. elim e [ inl k ↦ k | inr k ↦ cc ])
had_more h Nowhere t once = absurd once
had_more h File t once = absurd once
had_more h Unknown t once = absurd once

had_step : (s : Section) → StandsOnce s → (seen : Seen) (p : Placed) → IsHad s (seen_after seen p.section p.line) ↔ (IsHad s seen ⊎ SaysHeader s p)
had_step s once seen p = by p.section p.line refl where
  by : (section : Section) (line : Line) → p.line ≡ line → IsHad s (seen_after seen section line) ↔ (IsHad s seen ⊎ SaysHeader s p)
  by section NotText e = (λ h. inl h, λ h. elim h [ inl k ↦ k | inr k ↦ let z : NotText ≡ Header k.0 = sym e ∙ k.1.0 in cc ])
  by section (Raw bytes) e = (λ h. inl h, λ h. elim h [ inl k ↦ k | inr k ↦ let z : Raw bytes ≡ Header k.0 = sym e ∙ k.1.0 in cc ])
  by section (Content words) e = (
    (λ h. inl (subst (λ x. had x s ≡ true) (headers_stay section words) h)),
    (λ h. elim h [ inl k ↦ subst (λ x. had x s ≡ true) (sym (headers_stay section words)) k | inr k ↦ let z : Content words ≡ Header k.0 = sym e ∙ k.1.0 in cc ]),
  ) where
    tasks_stay : (words : List (List ℕ)) → (seen_task seen words).headers ≡ seen.headers
    tasks_stay [] = refl
    tasks_stay (word ∷ words) = refl

    headers_stay : (section : Section) (words : List (List ℕ)) → (seen_content seen section words).headers ≡ seen.headers
    headers_stay Tasks words = tasks_stay words
    headers_stay Options words = refl
    headers_stay Engines words = refl
    headers_stay Script words = refl
    headers_stay Files words = refl
    headers_stay Nowhere words = refl
    headers_stay File words = refl
    headers_stay Unknown words = refl
  by section (Header name) e =
      let more = had_more seen.headers s (section_named name) once in (
        (λ h. elim (more.0 h) [ inl k ↦ inl k | inr k ↦ inr (name, (e, k)) ]),
        (λ h. elim h [
          | inl k ↦ more.1 (inl k)
          | inr k ↦ let same : name ≡ k.0 = let z : Header name ≡ Header k.0 = sym e ∙ k.1.0 in cc in more.1 (inr (ap section_named same ∙ k.1.1))
        ]),
      )

pub had_forth : (s : Section) → StandsOnce s → (seen : Seen) (ps : List Placed) → IsHad s (seen_all seen ps) → IsHad s seen ⊎ SomeLine (SaysHeader s) ps
had_forth s once = kept_forth (IsHad s) (SaysHeader s) (had_step s once)

pub had_back : (s : Section) → StandsOnce s → (seen : Seen) (ps : List Placed) → SomeLine (SaysHeader s) ps → IsHad s (seen_all seen ps)
had_back s once seen ps some = kept_back (IsHad s) (SaysHeader s) (had_step s once) seen ps (inr some)

-- ---- names of files
abbrev IsFileSeen : List ℕ → Seen → Type 0
IsFileSeen name seen = has seen.files name ≡ true

abbrev SaysFile : List ℕ → Placed → Type 0
SaysFile name p = (other : List (List ℕ)) × IsHeader File other p × (name_of other ≡ name)

has_append : (xs ys : List (List ℕ)) (name : List ℕ) → has (xs ++ ys) name ≡ true → (has xs name ≡ true) ⊎ (has ys name ≡ true)
has_append [] ys name h = inr h
has_append (x ∷ xs) ys name h = elim (cases_Bool (bytes_eq name x)) [
  | inl y ↦ inl (rw y refl)
  | inr n ↦ elim (has_append xs ys name (rw n at h)) [ inl k ↦ inl (rw (n, k) refl) | inr k ↦ inr k ]
]

has_left : (xs ys : List (List ℕ)) (name : List ℕ) → has xs name ≡ true → has (xs ++ ys) name ≡ true
has_left [] ys name h = cc
has_left (x ∷ xs) ys name h = elim (cases_Bool (bytes_eq name x)) [
  | inl y ↦ rw y refl
  | inr n ↦ rw (n, has_left xs ys name (rw n at h)) refl
]

has_right : (xs ys : List (List ℕ)) (name : List ℕ) → has ys name ≡ true → has (xs ++ ys) name ≡ true
has_right [] ys name h = h
has_right (x ∷ xs) ys name h = elim (cases_Bool (bytes_eq name x)) [ inl y ↦ rw y refl | inr n ↦ rw (n, has_right xs ys name h) refl ]

has_more : (names : List (List ℕ)) (added name : List ℕ) → (has (with_name names added) name ≡ true) ↔ ((has names name ≡ true) ⊎ (added ≡ name))
has_more names added name = (
  (λ h. elim (cases_Bool (has names added)) [
    | inl y ↦ inl (subst (λ ns. has ns name ≡ true) (kept_names y) h)
    | inr n ↦ elim (has_append names (added ∷ []) name (subst (λ ns. has ns name ≡ true) (added_name n) h)) [
      | inl k ↦ inl k
      | inr k ↦ inr (sym ((bytes_eq-Decides name added).0 (one_any name added k)))
    ]
  ]),
  (λ h. elim (cases_Bool (has names added)) [
    | inl y ↦ subst (λ ns. has ns name ≡ true) (sym (kept_names y)) (elim h [ inl k ↦ k | inr k ↦ subst (λ z. has names z ≡ true) k y ])
    | inr n ↦ subst (λ ns. has ns name ≡ true) (sym (added_name n)) (elim h [
      | inl k ↦ has_left names (added ∷ []) name k
      | inr k ↦ has_right names (added ∷ []) name (any_one name added ((bytes_eq-Decides name added).1 (sym k)))
    ])
  ]),
) where
  kept_names : has names added ≡ true → with_name names added ≡ names
  kept_names y = rw y refl

  added_name : has names added ≡ false → with_name names added ≡ names ++ added ∷ []
  added_name n = rw n refl

  one_any : (name added : List ℕ) → has (added ∷ []) name ≡ true → bytes_eq name added ≡ true
  one_any name added k = elim (cases_Bool (bytes_eq name added)) [ inl y ↦ y | inr n ↦ absurd (let z : has (added ∷ []) name ≡ false = rw n refl in cc) ]

  any_one : (name added : List ℕ) → bytes_eq name added ≡ true → has (added ∷ []) name ≡ true
  any_one name added y = rw y refl

files_task : (seen : Seen) (words : List (List ℕ)) → (seen_task seen words).files ≡ seen.files
files_task seen [] = refl
files_task seen (word ∷ words) = refl

files_stay : (seen : Seen) (section : Section) (words : List (List ℕ)) → (seen_content seen section words).files ≡ seen.files
files_stay seen Tasks words = files_task seen words
files_stay seen Options words = refl
files_stay seen Engines words = refl
files_stay seen Script words = refl
files_stay seen Files words = refl
files_stay seen Nowhere words = refl
files_stay seen File words = refl
files_stay seen Unknown words = refl

-- a header that starts no file
no_file : (seen : Seen) (section : Section) (name : List ℕ) → (section ≡ File → ⊥) → (seen_header seen section name).files ≡ seen.files
no_file seen Nowhere name apart = refl
no_file seen Tasks name apart = refl
no_file seen Options name apart = refl
no_file seen Engines name apart = refl
no_file seen Script name apart = refl
no_file seen Files name apart = refl
no_file seen File name apart = absurd (apart refl)
no_file seen Unknown name apart = refl

is_file_or_not : (section : Section) → (section ≡ File) ⊎ (section ≡ File → ⊥)
is_file_or_not Nowhere = inr (λ e. cc)
is_file_or_not Tasks = inr (λ e. cc)
is_file_or_not Options = inr (λ e. cc)
is_file_or_not Engines = inr (λ e. cc)
is_file_or_not Script = inr (λ e. cc)
is_file_or_not Files = inr (λ e. cc)
is_file_or_not File = inl refl
is_file_or_not Unknown = inr (λ e. cc)

one_header : (a b : List (List ℕ)) → Header a ≡ Header b → a ≡ b
one_header a b e = cc

file_step : (name : List ℕ) (seen : Seen) (p : Placed) → IsFileSeen name (seen_after seen p.section p.line) ↔ (IsFileSeen name seen ⊎ SaysFile name p)
file_step name seen p = by p.section p.line refl where
  same_files : (xs ys : List (List ℕ)) → xs ≡ ys → ((q : (has ys name ≡ true) ⊎ SaysFile name p) → has ys name ≡ true) → (has xs name ≡ true) ↔ ((has ys name ≡ true) ⊎ SaysFile name p)
  same_files xs ys e only = ((λ h. inl (subst (λ x. has x name ≡ true) e h)), (λ h. subst (λ x. has x name ≡ true) (sym e) (only h)))

  by : (section : Section) (line : Line) → p.line ≡ line → IsFileSeen name (seen_after seen section line) ↔ (IsFileSeen name seen ⊎ SaysFile name p)
  by section NotText e = same_files seen.files seen.files refl (λ h. elim h [ inl k ↦ k | inr k ↦ let z : NotText ≡ Header k.0 = sym e ∙ k.1.0 in cc ])
  by section (Raw bytes) e = same_files seen.files seen.files refl (λ h. elim h [ inl k ↦ k | inr k ↦ let z : Raw bytes ≡ Header k.0 = sym e ∙ k.1.0 in cc ])
  by section (Content words) e = same_files (seen_content seen section words).files seen.files (files_stay seen section words)
      (λ h. elim h [ inl k ↦ k | inr k ↦ let z : Content words ≡ Header k.0 = sym e ∙ k.1.0 in cc ])
  by section (Header words) e = elim (is_file_or_not (section_named words)) [
    | inl file ↦
        let more = has_more seen.files (name_of words) name in
        let there : (seen_header seen (section_named words) (name_of words)).files ≡ with_name seen.files (name_of words) =
        subst (λ t. (seen_header seen t (name_of words)).files ≡ with_name seen.files (name_of words)) (sym file) refl in (
          (λ h. elim (more.0 (subst (λ x. has x name ≡ true) there h)) [ inl k ↦ inl k | inr k ↦ inr (words, (e, file), k) ]),
          (λ h. subst (λ x. has x name ≡ true) (sym there) (elim h [
            | inl k ↦ more.1 (inl k)
            | inr k ↦ more.1 (inr (ap name_of (one_header words k.0 (sym e ∙ k.1.0)) ∙ k.2))
          ])),
        )
    | inr apart ↦ same_files (seen_header seen (section_named words) (name_of words)).files seen.files (no_file seen (section_named words) (name_of words) apart)
        (λ h. elim h [ inl k ↦ k | inr k ↦ absurd (apart (ap section_named (one_header words k.0 (sym e ∙ k.1.0)) ∙ k.1.1)) ])
  ]

pub file_forth : (name : List ℕ) (seen : Seen) (ps : List Placed) → IsFileSeen name (seen_all seen ps) → IsFileSeen name seen ⊎ SomeLine (SaysFile name) ps
file_forth name = kept_forth (IsFileSeen name) (SaysFile name) (file_step name)

pub file_back : (name : List ℕ) (seen : Seen) (ps : List Placed) → SomeLine (SaysFile name) ps → IsFileSeen name (seen_all seen ps)
file_back name seen ps some = kept_back (IsFileSeen name) (SaysFile name) (file_step name) seen ps (inr some)

-- ---- names of tasks
tasks_task : (seen : Seen) (words : List (List ℕ)) → (seen_task seen words).tasks ≡ seen.tasks ++ first_words words
tasks_task seen [] = sym (append-nil seen.tasks)
tasks_task seen (word ∷ words) = refl

tasks_step : (seen : Seen) (section : Section) (line : Line) → (seen_after seen section line).tasks ≡ seen.tasks ++ first_words (line_names section line)
tasks_step seen section NotText = by section where
  by : (section : Section) → seen.tasks ≡ seen.tasks ++ first_words (line_names section NotText)
  by Nowhere = sym (append-nil seen.tasks)
  by Tasks = sym (append-nil seen.tasks)
  by Options = sym (append-nil seen.tasks)
  by Engines = sym (append-nil seen.tasks)
  by Script = sym (append-nil seen.tasks)
  by Files = sym (append-nil seen.tasks)
  by File = sym (append-nil seen.tasks)
  by Unknown = sym (append-nil seen.tasks)
tasks_step seen section (Header name) = by section where
  by : (section : Section) → seen.tasks ≡ seen.tasks ++ first_words (line_names section (Header name))
  by Nowhere = sym (append-nil seen.tasks)
  by Tasks = sym (append-nil seen.tasks)
  by Options = sym (append-nil seen.tasks)
  by Engines = sym (append-nil seen.tasks)
  by Script = sym (append-nil seen.tasks)
  by Files = sym (append-nil seen.tasks)
  by File = sym (append-nil seen.tasks)
  by Unknown = sym (append-nil seen.tasks)
tasks_step seen section (Raw bytes) = by section where
  by : (section : Section) → seen.tasks ≡ seen.tasks ++ first_words (line_names section (Raw bytes))
  by Nowhere = sym (append-nil seen.tasks)
  by Tasks = sym (append-nil seen.tasks)
  by Options = sym (append-nil seen.tasks)
  by Engines = sym (append-nil seen.tasks)
  by Script = sym (append-nil seen.tasks)
  by Files = sym (append-nil seen.tasks)
  by File = sym (append-nil seen.tasks)
  by Unknown = sym (append-nil seen.tasks)
tasks_step seen Tasks (Content words) = tasks_task seen words
tasks_step seen Nowhere (Content words) = sym (append-nil seen.tasks)
tasks_step seen Options (Content words) = sym (append-nil seen.tasks)
tasks_step seen Engines (Content words) = sym (append-nil seen.tasks)
tasks_step seen Script (Content words) = sym (append-nil seen.tasks)
tasks_step seen Files (Content words) = sym (append-nil seen.tasks)
tasks_step seen File (Content words) = sym (append-nil seen.tasks)
tasks_step seen Unknown (Content words) = sym (append-nil seen.tasks)

pub tasks_seen : (seen : Seen) (ps : List Placed) → (seen_all seen ps).tasks ≡ seen.tasks ++ task_names ps
tasks_seen seen [] = sym (append-nil seen.tasks)
tasks_seen seen (p ∷ ps) =
    tasks_seen (seen_after seen p.section p.line) ps ∙ ap (λ (ts : List (List ℕ)). ts ++ task_names ps) (tasks_step seen p.section p.line)
    ∙ append_assoc seen.tasks (first_words (line_names p.section p.line)) (task_names ps)

-- a name is among the tasks' exactly where a line of `[tasks]` begins with it
abbrev SaysTask : List ℕ → Placed → Type 0
SaysTask name p = (others : List (List ℕ)) × IsTaskLine (name ∷ others) p

line_says : (name : List ℕ) (p : Placed) → has (first_words (line_names p.section p.line)) name ≡ true → SaysTask name p
line_says name p h = by p.section p.line refl refl h where
  first_is : (words : List (List ℕ)) → has (first_words words) name ≡ true → (others : List (List ℕ)) × (words ≡ name ∷ others)
  first_is [] h = cc
  first_is (word ∷ words) h = elim (cases_Bool (bytes_eq name word)) [
    | inl y ↦ (words, ap (λ w. w ∷ words) (sym ((bytes_eq-Decides name word).0 y)))
    | inr n ↦ absurd (let z : has (word ∷ []) name ≡ false = rw n refl in cc)
  ]

  by : (section : Section) (line : Line) → p.section ≡ section → p.line ≡ line → has (first_words (line_names section line)) name ≡ true → SaysTask name p
  by Tasks (Content words) s e h = let f = first_is words h in (f.0, (s, e ∙ ap Content f.1))
  by Tasks NotText s e h = cc
  by Tasks (Header words) s e h = cc
  by Tasks (Raw bytes) s e h = cc
  by Nowhere line s e h = cc
  by Options line s e h = cc
  by Engines line s e h = cc
  by Script line s e h = cc
  by Files line s e h = cc
  by File line s e h = cc
  by Unknown line s e h = cc

said_line : (name : List ℕ) (p : Placed) → SaysTask name p → has (first_words (line_names p.section p.line)) name ≡ true
said_line name p says =
    let same : bytes_eq name name ≡ true = (bytes_eq-Decides name name).1 refl in
    subst (λ s. has (first_words (line_names s p.line)) name ≡ true) (sym says.1.0)
    (subst (λ l. has (first_words (line_names Tasks l)) name ≡ true) (sym says.1.1) (rw same refl))

pub task_forth : (name : List ℕ) (ps : List Placed) → has (task_names ps) name ≡ true → SomeLine (SaysTask name) ps
task_forth name [] h = cc
task_forth name (p ∷ ps) h = elim (has_append (first_words (line_names p.section p.line)) (task_names ps) name h) [
  | inl here ↦ some_first (SaysTask name) p ps (line_says name p here)
  | inr later ↦ some_later (SaysTask name) p ps (task_forth name ps later)
]

pub task_back : (name : List ℕ) (ps : List Placed) → SomeLine (SaysTask name) ps → has (task_names ps) name ≡ true
task_back name [] some = absurd (some_none (SaysTask name) some)
task_back name (p ∷ ps) some = elim (some_cases (SaysTask name) p ps some) [
  | inl here ↦ has_left (first_words (line_names p.section p.line)) (task_names ps) name (said_line name p here)
  | inr later ↦ has_right (first_words (line_names p.section p.line)) (task_names ps) name (task_back name ps later)
]

-- a name is among names exactly where the list contains it
pub has_contains : (names : List (List ℕ)) (name : List ℕ) → has names name ≡ true → Contains names name
has_contains [] name h = cc
has_contains (n ∷ names) name h = elim (cases_Bool (bytes_eq name n)) [
  | inl y ↦ (0, omega arith, sym ((bytes_eq-Decides name n).0 y))
  | inr m ↦ Contains-append_right (n ∷ []) names name (has_contains names name (rw m at h))
]

pub contains_has : (names : List (List ℕ)) (name : List ℕ) → Contains names name → has names name ≡ true
contains_has [] name c = absurd (omega (arith, c.1))
contains_has (n ∷ names) name (zero, lt, is) = let y : bytes_eq name n ≡ true = (bytes_eq-Decides name n).1 (sym is) in rw y refl
contains_has (n ∷ names) name (suc k, lt, is) =
    let h = contains_has names name (k, omega (arith, lt), is) in elim (cases_Bool (bytes_eq name n)) [ inl y ↦ rw y refl | inr m ↦ rw (m, h) refl ]
