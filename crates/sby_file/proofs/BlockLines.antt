-- Where a block is open, and whether it is closed, by lines in their places.
use Rattle.std.proofs.Common.{◌≡◌, ◌≢◌, ◌⊎◌, ◌∙◌, ℕ, zero, suc, Bool, true, false, List, [], ◌∷◌, ◌++◌, refl, sym, ap, subst, inl, inr, arith}
use Rattle.std.specs.Prelude.{◌↔◌}
use Rattle.std.proofs.lemmas.Bool.{cases_Bool}
use Rattle.std.proofs.lemmas.List.Elements.{Contains-append_right}
use Rattle.sby_file.specs.Section.{is_scoped}
use Rattle.sby_file.specs.Prefix.{is_block_end, opens_block}
use Rattle.sby_file.specs.Faults.{Seen, seen_after, seen_scoped, seen_content, is_closed}
use Rattle.sby_file.specs.Lines.{EndsBlock, NoneEnds, OpensBlock, LeaveBlockOpen, NoneStarts, CloseBlock}
use Rattle.sby_file.specs.declared.section.Section.{Section}
use Rattle.sby_file.specs.declared.section.Section.TheVariants.{Nowhere, Tasks, Options, Engines, Script, Files, File, Unknown}
use Rattle.sby_file.specs.declared.line.Line.{Line}
use Rattle.sby_file.specs.declared.line.Line.TheVariants.{NotText, Header, Content, Raw}
use Rattle.sby_file.specs.declared.walk.Placed.{Placed}
use Rattle.sby_file.proofs.SeenLines.{seen_all}

unscoped_inside : (seen : Seen) (section : Section) (words : List (List ℕ)) → is_scoped section ≡ false → (seen_content seen section words).is_inside ≡ seen.is_inside
unscoped_inside seen Tasks [] h = refl
unscoped_inside seen Tasks (word ∷ words) h = refl
unscoped_inside seen Nowhere words h = refl
unscoped_inside seen File words h = refl
unscoped_inside seen Unknown words h = refl
unscoped_inside seen Options words h = cc
unscoped_inside seen Engines words h = cc
unscoped_inside seen Script words h = cc
unscoped_inside seen Files words h = cc

pub scoped_seen : (seen : Seen) (section : Section) (words : List (List ℕ)) → is_scoped section ≡ true → seen_content seen section words ≡ seen_scoped seen words
scoped_seen seen Tasks words h = cc
scoped_seen seen Nowhere words h = cc
scoped_seen seen File words h = cc
scoped_seen seen Unknown words h = cc
scoped_seen seen Options words h = refl
scoped_seen seen Engines words h = refl
scoped_seen seen Script words h = refl
scoped_seen seen Files words h = refl

one_content : (a b : List (List ℕ)) → Content a ≡ Content b → a ≡ b
one_content a b e = cc

-- what a line does to a block that is open, or not, before it
abbrev Goes : Seen → Placed → Type 0
Goes seen p = OpensBlock p ⊎ ((EndsBlock p → ⊥) × (seen.is_inside ≡ true))

not_content_ends : (p : Placed) (line : Line) → p.line ≡ line → ((words : List (List ℕ)) → line ≢ Content words) → ((name : List (List ℕ)) → line ≢ Header name) → EndsBlock p → ⊥
not_content_ends p line e none head (inl h) = head h.0 (sym e ∙ h.1)
not_content_ends p line e none head (inr h) = none h.0 (sym e ∙ h.1.1)

-- a line that neither opens nor ends a block
same_goes : (seen : Seen) (p : Placed) (now : Bool) → now ≡ seen.is_inside → (OpensBlock p → ⊥) → (EndsBlock p → ⊥) → (now ≡ true) ↔ Goes seen p
same_goes seen p now e opens ends = (
  (λ h. inr (ends, (sym e ∙ h))),
  (λ h. elim h [ inl o ↦ absurd (opens o) | inr k ↦ e ∙ k.1 ]),
)

inside_step : (seen : Seen) (p : Placed) → ((seen_after seen p.section p.line).is_inside ≡ true) ↔ Goes seen p
inside_step seen p = by p.section p.line refl refl where
  scoped : (words : List (List ℕ)) → is_scoped p.section ≡ true → p.line ≡ Content words → ((seen_scoped seen words).is_inside ≡ true) ↔ Goes seen p
  scoped words s e = elim (cases_Bool (is_block_end words)) [
    | inl end ↦ (
      (λ h. let z : (seen_scoped seen words).is_inside ≡ false = rw end refl in cc),
      (λ h. elim h [
        | inl o ↦ let same : words ≡ o.0 = one_content words o.0 (sym e ∙ o.1.1) in let z : is_block_end words ≡ false = ap is_block_end same ∙ o.2 in cc
        | inr k ↦ absurd (k.0 (inr (words, (s, e), end)))
      ]),
    )
    | inr on ↦ elim (cases_Bool (opens_block words)) [
      | inl opens ↦ (
        (λ h. inl (words, (s, e), on, opens)),
        (λ h. elim (cases_Bool seen.is_inside) [ inl y ↦ rw (on, y) refl | inr n ↦ rw (on, n, opens) refl ]),
      )
      | inr shut ↦
          let now : (seen_scoped seen words).is_inside ≡ seen.is_inside = elim (cases_Bool seen.is_inside) [ inl y ↦ rw (on, y) refl | inr n ↦ rw (on, n, shut) refl ] in
          same_goes seen p (seen_scoped seen words).is_inside now
          (λ o. let same : words ≡ o.0 = one_content words o.0 (sym e ∙ o.1.1) in let z : opens_block words ≡ true = ap opens_block same ∙ o.3 in cc)
          (λ ends. elim ends [
            | inl h ↦ let z : Content words ≡ Header h.0 = sym e ∙ h.1 in cc
            | inr h ↦ let same : words ≡ h.0 = one_content words h.0 (sym e ∙ h.1.1) in let z : is_block_end words ≡ true = ap is_block_end same ∙ h.2 in cc
          ])
    ]
  ]

  by : (section : Section) (line : Line) → p.section ≡ section → p.line ≡ line → ((seen_after seen section line).is_inside ≡ true) ↔ Goes seen p
  by section NotText s e = same_goes seen p seen.is_inside refl (λ o. let z : NotText ≡ Content o.0 = sym e ∙ o.1.1 in cc)
      (not_content_ends p NotText e (λ words z. cc) (λ name z. cc))
  by section (Raw bytes) s e = same_goes seen p seen.is_inside refl (λ o. let z : Raw bytes ≡ Content o.0 = sym e ∙ o.1.1 in cc)
      (not_content_ends p (Raw bytes) e (λ words z. cc) (λ name z. cc))
  by section (Header name) s e = (
    (λ h. cc),
    (λ h. elim h [ inl o ↦ let z : Header name ≡ Content o.0 = sym e ∙ o.1.1 in cc | inr k ↦ absurd (k.0 (inl (name, e))) ]),
  )
  by section (Content words) s e = elim (cases_Bool (is_scoped section)) [
    | inl y ↦ subst (λ (t : Seen). (t.is_inside ≡ true) ↔ Goes seen p) (sym (scoped_seen seen section words y)) (scoped words (ap is_scoped s ∙ y) e)
    | inr n ↦ same_goes seen p (seen_content seen section words).is_inside (unscoped_inside seen section words n)
        (λ o. let z : is_scoped section ≡ true = sym (ap is_scoped s) ∙ o.1.0 in cc)
        (λ ends. elim ends [
          | inl h ↦ let z : Content words ≡ Header h.0 = sym e ∙ h.1 in cc
          | inr h ↦ let z : is_scoped section ≡ true = sym (ap is_scoped s) ∙ h.1.0 in cc
        ])
  ]

none_more : (p : Placed) (ps : List Placed) → (EndsBlock p → ⊥) → NoneEnds ps → NoneEnds (p ∷ ps)
none_more p ps first later q (zero, lt, at) h = first (subst EndsBlock (sym at) h)
none_more p ps first later q (suc k, lt, at) h = later q (k, omega (arith, lt), at) h

none_first : (p : Placed) (ps : List Placed) → NoneEnds (p ∷ ps) → EndsBlock p → ⊥
none_first p ps none h = none p (0, omega arith, refl) h

none_later : (p : Placed) (ps : List Placed) → NoneEnds (p ∷ ps) → NoneEnds ps
none_later p ps none q c h = none q (Contains-append_right (p ∷ []) ps q c) h

pub inside_forth : (seen : Seen) (ps : List Placed) → (seen_all seen ps).is_inside ≡ true → ((seen.is_inside ≡ true) × NoneEnds ps) ⊎ LeaveBlockOpen ps
inside_forth seen [] h = inl (h, (λ p c e. omega (arith, c.1)))
inside_forth seen (p ∷ ps) h = elim (inside_forth (seen_after seen p.section p.line) ps h) [
  | inl k ↦ elim ((inside_step seen p).0 k.0) [
    | inl opens ↦ inr ([], p, ps, refl, opens, k.1)
    | inr on ↦ inl (on.1, none_more p ps on.0 k.1)
  ]
  | inr k ↦ inr (p ∷ k.0, k.1, k.2, ap (λ qs. p ∷ qs) k.3, k.4, k.5)
]

pub inside_back : (seen : Seen) (ps : List Placed) → ((seen.is_inside ≡ true) × NoneEnds ps) ⊎ LeaveBlockOpen ps → (seen_all seen ps).is_inside ≡ true
inside_back seen [] (inl h) = h.0
inside_back seen [] (inr ([], q, after, e, opens, none)) = cc
inside_back seen [] (inr (x ∷ before, q, after, e, opens, none)) = cc
inside_back seen (p ∷ ps) (inl h) = inside_back (seen_after seen p.section p.line) ps (inl ((inside_step seen p).1 (inr (none_first p ps h.1, h.0)), none_later p ps h.1))
inside_back seen (p ∷ ps) (inr ([], q, after, e, opens, none)) =
    let same : p ≡ q = cc in
    let rest : ps ≡ after = cc in
    inside_back (seen_after seen p.section p.line) ps (inl ((inside_step seen p).1 (inl (subst OpensBlock (sym same) opens)), subst NoneEnds (sym rest) none))
inside_back seen (p ∷ ps) (inr (x ∷ before, q, after, e, opens, none)) =
    let rest : ps ≡ before ++ q ∷ after = cc in
    inside_back (seen_after seen p.section p.line) ps (inr (before, q, after, rest, opens, none))

-- ---- whether a block is closed
starts_more : (p : Placed) (ps : List Placed) → ((name : List (List ℕ)) → p.line ≢ Header name) → NoneStarts ps → NoneStarts (p ∷ ps)
starts_more p ps first later q name (zero, lt, at) h = first name (ap (λ r. r.line) at ∙ h)
starts_more p ps first later q name (suc k, lt, at) h = later q name (k, omega (arith, lt), at) h

pub closed_forth : (ps : List Placed) → is_closed ps ≡ true → CloseBlock ps
closed_forth [] h = cc
closed_forth (p ∷ ps) h = by p.line refl (closed_forth ps) h where
  further : ((name : List (List ℕ)) → p.line ≢ Header name) → CloseBlock ps → CloseBlock (p ∷ ps)
  further not_head k = (p ∷ k.0, k.1, k.2, ap (λ qs. p ∷ qs) k.3, k.4, starts_more p k.0 not_head k.5)

  by : (line : Line) → p.line ≡ line → (is_closed ps ≡ true → CloseBlock ps) → is_closed (record p { line = line } ∷ ps) ≡ true → CloseBlock (p ∷ ps)
  by NotText e later k = further (λ name z. let f : NotText ≡ Header name = sym e ∙ z in cc) (later k)
  by (Raw bytes) e later k = further (λ name z. let f : Raw bytes ≡ Header name = sym e ∙ z in cc) (later k)
  by (Header name) e later k = cc
  by (Content words) e later k = elim (cases_Bool (is_block_end words)) [
    | inl end ↦ ([], p, ps, refl, (words, e, end), (λ q name c z. omega (arith, c.1)))
    | inr on ↦ further (λ name z. let f : Content words ≡ Header name = sym e ∙ z in cc) (later (rw on at k))
  ]

pub closed_back : (ps : List Placed) → CloseBlock ps → is_closed ps ≡ true
closed_back [] ([], q, after, e, end, none) = cc
closed_back [] (x ∷ before, q, after, e, end, none) = cc
closed_back (p ∷ ps) ([], q, after, e, end, none) =
    let same : p ≡ q = cc in
    let line : p.line ≡ Content end.0 = ap (λ r. r.line) same ∙ end.1 in
    subst (λ l. is_closed (record p { line = l } ∷ ps) ≡ true) (sym line) (rw end.2 refl)
closed_back (p ∷ ps) (x ∷ before, q, after, e, end, none) =
    let same : p ≡ x = cc in
    let rest : ps ≡ before ++ q ∷ after = cc in
    let later = closed_back ps (before, q, after, rest, end, (λ r name c z. none r name (Contains-append_right (x ∷ []) before r c) z)) in
    by p.line refl later (λ name z. none x name (0, omega arith, refl) (sym (ap (λ r. r.line) same) ∙ z)) where
      by : (line : Line) → p.line ≡ line → is_closed ps ≡ true → ((name : List (List ℕ)) → p.line ≢ Header name) → is_closed (record p { line = line } ∷ ps) ≡ true
      by NotText e later not_head = later
      by (Raw bytes) e later not_head = later
      by (Header name) e later not_head = absurd (not_head name e)
      by (Content words) e later not_head = elim (cases_Bool (is_block_end words)) [ inl y ↦ rw y refl | inr n ↦ rw (n, later) refl ]
