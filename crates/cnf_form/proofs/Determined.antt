-- A text is read in one way.
use Rattle.std.proofs.Common.{◌≡◌, ◌≢◌, ℕ, ◌+◌, ◌<◌, ◌⊎◌, Bool, true, false, List, [], ◌∷◌, ◌++◌, length, get_or, refl, ap, sym, ◌∙◌, subst, inl, inr, arith}
use Rattle.std.specs.Prelude.{All, codes}
use Rattle.std.proofs.lemmas.List.Elements.{All-head, All-tail}
use Rattle.cnf_form.specs.Cnf.{LitOf, LitWithin, ClauseWithin, Within, FormulaOf}
use Rattle.cnf_form.specs.Dimacs.{IsFeed, IsBlank, IsSpace, IsWordByte, EndsLine, NextWord, Skips, stay, blank as SkipsBlank, feed as SkipsFeed, comment as SkipsComment, IsLiteral, IsClause, ended, literal as ClauseLiteral, IsBody, no_clause, clause, IsDimacs}
use Rattle.cnf_form.specs.Reading.{Gap, over, visible, blank, feed, comment, BeginsWith, HeaderWord, Fits, header_words, HeaderFails, missing, wrong, later, Finds, HasHeader, Body, Clauses, Unfinished, NoLiteral, with_literal, with_end, BodyIs, finished, cut, zero_ends, literal, no_literal, IsFault}
use Rattle.cnf_form.specs.declared.reader.DimacsFaultKind.{DimacsFaultKind}
use Rattle.cnf_form.specs.declared.reader.DimacsFaultKind.TheVariants.{Header, Literal, Count}
use Rattle.cnf_form.proofs.Words.{NextWord-one, c_no_space, run_one, line_stops}
use Rattle.cnf_form.proofs.Reading.{number_one, literal_one, zero_no_literal, literal_no_c}
use Rattle.cnf_form.proofs.Bodies.{next_after, no_space}

blank_no_feed : (b : ℕ) → IsBlank b → IsFeed b → ⊥
blank_no_feed b (inl e) f = omega arith
blank_no_feed b (inr (inl e)) f = omega arith
blank_no_feed b (inr (inr e)) f = omega arith

-- what follows in the text decides how a gap goes on
module _ {comments : Bool} where
  gap_at_end : {fresh : Bool} {r : List ℕ} → Gap comments fresh [] r → r ≡ []
  gap_at_end (over f) = refl
  gap_at_end (comment z text after r e clean ends g) = cc

  gap_at_word : {fresh : Bool} {b : ℕ} {bs r : List ℕ} → IsWordByte b → (fresh ≡ true → b ≢ 99) → Gap comments fresh (b ∷ bs) r → r ≡ b ∷ bs
  gap_at_word w n (visible f b z v m) = refl
  gap_at_word w n (blank f b z r h g) = absurd (w (inr h))
  gap_at_word w n (feed f b z r h g) = absurd (w (inl h))
  gap_at_word w n (comment z text after r e clean ends g) = absurd (n refl (cc))

  gap_at_blank : {fresh : Bool} {b : ℕ} {bs r : List ℕ} → IsBlank b → Gap comments fresh (b ∷ bs) r → Gap comments fresh bs r
  gap_at_blank k (visible f b z v m) = absurd (v (inr k))
  gap_at_blank k (blank f b z r h g) = g
  gap_at_blank {b = b} k (feed f b' z r h g) = absurd (blank_no_feed _ k h)
  gap_at_blank {b = b} k (comment z text after r e clean ends g) = absurd (c_no_space (let d : b ≡ 99 = cc in subst IsSpace d (inr k)))

  gap_at_feed : {fresh : Bool} {b : ℕ} {bs r : List ℕ} → IsFeed b → Gap comments fresh (b ∷ bs) r → Gap comments comments bs r
  gap_at_feed k (visible f b z v m) = absurd (v (inl k))
  gap_at_feed k (blank f b z r h g) = absurd (blank_no_feed _ h k)
  gap_at_feed k (feed f b z r h g) = g
  gap_at_feed {b = b} k (comment z text after r e clean ends g) = absurd (c_no_space (let d : b ≡ 99 = cc in subst IsSpace d (inl k)))

  gap_at_comment : {fresh : Bool} {bytes r : List ℕ} (text after : List ℕ) → fresh ≡ true → bytes ≡ 99 ∷ (text ++ after) → All (λ b. b ≢ 10) text → EndsLine after → Gap comments fresh bytes r → Gap comments false after r
  gap_at_comment text after t e clean ends (over f) = cc
  gap_at_comment text after t e clean ends (visible f b z v m) = absurd (m t (cc))
  gap_at_comment text after t e clean ends (blank f b z r h g) = absurd (c_no_space (let d : b ≡ 99 = cc in subst IsSpace d (inr h)))
  gap_at_comment text after t e clean ends (feed f b z r h g) = absurd (c_no_space (let d : b ≡ 99 = cc in subst IsSpace d (inl h)))
  gap_at_comment text after t e clean ends (comment z text' after' r e' clean' ends' g) =
      let d : text' ++ after' ≡ text ++ after = cc in
      let o = run_one (λ b. b ≢ 10) text' text after' after d clean' clean (line_stops after' ends') (line_stops after ends) in
      subst (λ y. Gap comments false y r) o.1 g

  pub gap_one : {fresh : Bool} {bytes r s : List ℕ} → Gap comments fresh bytes r → Gap comments fresh bytes s → r ≡ s
  gap_one (over f) h = sym (gap_at_end h)
  gap_one (visible f b z w n) h = sym (gap_at_word w n h)
  gap_one (blank f b z r k g) h = gap_one g (gap_at_blank k h)
  gap_one (feed f b z r k g) h = gap_one g (gap_at_feed k h)
  gap_one (comment z text after r e clean ends g) h = gap_one g (gap_at_comment text after refl e clean ends h)

word_one : {z w r w' r' : List ℕ} → BeginsWith z w r → BeginsWith z w' r' → (w ≡ w') × (r ≡ r')
word_one {z} a b = NextWord-one (next_after (no_space z) a) (next_after (no_space z) b)

no_word : {z w r : List ℕ} → z ≡ [] → BeginsWith z w r → ⊥
no_word {w = w} {r = r} e b = nothing w (sym e ∙ b.split) b.some
  where
    nothing : (w : List ℕ) → [] ≡ w ++ r → 0 < length w → ⊥
    nothing [] f h = omega arith
    nothing (x ∷ w) f h = cc

finds_one : {first : Bool} {bytes w r w' r' : List ℕ} → Finds first bytes w r → Finds first bytes w' r' → (w ≡ w') × (r ≡ r')
finds_one {w' = w'} {r' = r'} a b = word_one a.begins (subst (λ z. BeginsWith z w' r') (sym (gap_one a.gap b.gap)) b.begins)

found : {first : Bool} {bytes z w r : List ℕ} → Gap first first bytes z → BeginsWith z w r → Finds first bytes w r
found {z = z} g b = record { front = z; gap = g; begins = b }

cut_one : {k : Bool} {bytes z w r : List ℕ} → Gap k false bytes [] → Gap k false bytes z → BeginsWith z w r → ⊥
cut_one g h b = no_word (sym (gap_one g h)) b

same_word : {k : Bool} {bytes z w r z' w' r' : List ℕ} → Gap k false bytes z → BeginsWith z w r → Gap k false bytes z' → BeginsWith z' w' r' → (w ≡ w') × (r ≡ r')
same_word {w' = w'} {r' = r'} g b g' b' = word_one b (subst (λ z. BeginsWith z w' r') (sym (gap_one g g')) b')

pub body_one : {V : ℕ} {k : Bool} {bytes : List ℕ} {a b : Body} → BodyIs V k bytes a → BodyIs V k bytes b → a ≡ b
body_one (finished z g) (finished z' g') = refl
body_one (finished z g) (zero_ends k z' f r b b' g' w h e) = absurd (cut_one g g' w)
body_one (finished z g) (literal k z' f x r l b b' g' w i h s e) = absurd (cut_one g g' w)
body_one (finished z g) (no_literal k z' f x r g' w n m) = absurd (cut_one g g' w)
body_one (cut z g) (cut z' g') = refl
body_one (cut z g) (zero_ends k z' f r b b' g' w h e) = absurd (cut_one g g' w)
body_one (cut z g) (literal k z' f x r l b b' g' w i h s e) = absurd (cut_one g g' w)
body_one (cut z g) (no_literal k z' f x r g' w n m) = absurd (cut_one g g' w)
body_one (zero_ends k z' f r b b' g' w h e) (finished z g) = absurd (cut_one g g' w)
body_one (zero_ends k z' f r b b' g' w h e) (cut z g) = absurd (cut_one g g' w)
body_one {V} (zero_ends k z f r b b' g w h e) (zero_ends k' z' f' r' c c' g' w' h' e') =
    let o = same_word g w g' w' in
    e ∙ ap with_end (body_one h (subst (λ y. BodyIs V true y c) (sym o.1) h')) ∙ sym e'
body_one (zero_ends k z f r b b' g w h e) (literal k' z' f' x r' l c c' g' w' i t h' e') =
    let o = same_word g w g' w' in absurd (zero_no_literal i.0 l.negated l.var i.1 i.2 (o.0 ∙ i.3))
body_one (zero_ends k z f r b b' g w h e) (no_literal k' z' f' x r' g' w' n m) = absurd (n (sym (same_word g w g' w').0))
body_one (literal k z' f x r l b b' g' w i h s e) (finished z g) = absurd (cut_one g g' w)
body_one (literal k z' f x r l b b' g' w i h s e) (cut z g) = absurd (cut_one g g' w)
body_one (literal k' z' f' x r' l c c' g' w' i t h' e') (zero_ends k z f r b b' g w h e) =
    let o = same_word g w g' w' in absurd (zero_no_literal i.0 l.negated l.var i.1 i.2 (o.0 ∙ i.3))
body_one {V} (literal k z f x r l b b' g w i t h e) (literal k' z' f' x' r' l' c c' g' w' i' t' h' e') =
    let o = same_word g w g' w' in
    let p = literal_one x x' l l' i i' o.0 in
    e ∙ ap (with_literal l) (body_one h (subst (λ y. BodyIs V false y c) (sym o.1) h')) ∙ ap (λ m. with_literal m c) p ∙ sym e'
body_one (literal k z f x r l b b' g w i t h e) (no_literal k' z' f' x' r' g' w' n m) = absurd (m l (subst (λ y. IsLiteral y l) (same_word g w g' w').0 i) t)
body_one (no_literal k z' f x r g' w n m) (finished z g) = absurd (cut_one g g' w)
body_one (no_literal k z' f x r g' w n m) (cut z g) = absurd (cut_one g g' w)
body_one (no_literal k' z' f' x r' g' w' n m) (zero_ends k z f r b b' g w h e) = absurd (n (sym (same_word g w g' w').0))
body_one (no_literal k' z' f' x' r' g' w' n m) (literal k z f x r l b b' g w i t h e) = absurd (m l (subst (λ y. IsLiteral y l) (same_word g w g' w').0 i) t)
body_one (no_literal k z f x r g w n m) (no_literal k' z' f' x' r' g' w' n' m') = ap NoLiteral (gap_one g g')

-- a header that fails at a word has no such word
fails_step : {first : Bool} {h : HeaderWord} {hs : List HeaderWord} {bytes at w r : List ℕ} → HeaderFails first (h ∷ hs) bytes at → Finds first bytes w r → Fits h w → HeaderFails false hs r at
fails_step (missing k h hs z g) f fit = absurd (no_word (sym (gap_one g f.gap)) f.begins)
fails_step {h = h} (wrong k h' hs z at w r g b n) f fit = absurd (n (let o = finds_one (found g b) f in subst (Fits _) (sym o.0) fit))
fails_step (later k h hs z z' w r at g b fit' l) f fit = let o = finds_one (found g b) f in subst (λ y. HeaderFails false hs y at) o.1 l

no_failure : {first : Bool} {bytes at : List ℕ} {hs : List HeaderWord} → hs ≡ [] → HeaderFails first hs bytes at → ⊥
no_failure e (missing k h hs z g) = cc
no_failure e (wrong k h hs z at w r g b n) = cc
no_failure e (later k h hs z z' w r at g b fit l) = cc

fails_one : {first : Bool} {hs : List HeaderWord} {bytes at at' : List ℕ} → HeaderFails first hs bytes at → HeaderFails first hs bytes at' → at ≡ at'
fails_one (missing k h hs z g) (missing k' h' hs' z' g') = refl
fails_one (missing k h hs z g) (wrong k' h' hs' z' at w r g' b n) = gap_one g g'
fails_one (missing k h hs z g) (later k' h' hs' z' y w r at g' b fit l) = absurd (no_word (sym (gap_one g g')) b)
fails_one (wrong k' h' hs' z' at w r g' b n) (missing k h hs z g) = gap_one g' g
fails_one (wrong k h hs z at w r g b n) (wrong k' h' hs' z' at' w' r' g' b' n') = gap_one g g'
fails_one (wrong k h hs z at w r g b n) (later k' h' hs' z' y w' r' at' g' b' fit l) = absurd (n (let o = finds_one (found g b) (found g' b') in subst (Fits _) (sym o.0) fit))
fails_one (later k' h' hs' z' y w r at g' b fit l) (missing k h hs z g) = absurd (no_word (sym (gap_one g g')) b)
fails_one (later k' h' hs' z' y w' r' at' g' b' fit l) (wrong k h hs z at w r g b n) = absurd (n (let o = finds_one (found g b) (found g' b') in subst (Fits _) (sym o.0) fit))
fails_one (later k h hs z y w r at g b fit l) (later k' h' hs' z' y' w' r' at' g' b' fit' l') =
    let o = finds_one (found g b) (found g' b') in fails_one l (subst (λ z. HeaderFails false hs z at') (sym o.1) l')

pub header_stands : {bytes at body : List ℕ} {V C : ℕ} → HasHeader bytes V C body → HeaderFails true header_words bytes at → ⊥
header_stands {V = V} {C = C} h f =
    let a = fails_step f h.p refl in
    let b = fails_step a h.cnf refl in
    let c = fails_step b h.vars_next (V, h.vars, h.limit) in
    no_failure refl (fails_step c h.count_next (C, h.count))

pub header_one : {bytes body body' : List ℕ} {V C V' C' : ℕ} → HasHeader bytes V C body → HasHeader bytes V' C' body' → (V ≡ V') × (C ≡ C') × (body ≡ body')
header_one {body' = body'} {V = V} {C = C} {V' = V'} {C' = C'} h k =
    let p = (finds_one h.p k.p).1 in
    let q = (finds_one h.cnf (subst (λ z. Finds false z (codes "cnf") k.after_cnf) (sym p) k.cnf)).1 in
    let v = finds_one h.vars_next (subst (λ z. Finds false z k.vars_word k.after_vars) (sym q) k.vars_next) in
    let n = finds_one h.count_next (subst (λ z. Finds false z k.count_word body') (sym v.1) k.count_next) in
    (number_one h.vars_word k.vars_word V V' h.vars k.vars v.0, number_one h.count_word k.count_word C C' h.count k.count n.0, n.1)

-- a formula's text has a header and a body
spaced : (k fresh : Bool) (gap w r : List ℕ) → All IsSpace gap → 0 < length w → All IsWordByte w → (k ≡ true → get_or w 0 0 ≢ 99) → (fresh ≡ true → get_or w 0 0 ≢ 99) → Gap k fresh (gap ++ (w ++ r)) (w ++ r)
spaced k fresh [] [] r h s v p q = absurd (omega (arith, s))
spaced k fresh [] (b ∷ w) r h s v p q = visible fresh b (w ++ r) (All-head IsWordByte b w v) q
spaced k fresh (x ∷ gap) w r h s v p q = elim (All-head IsSpace x gap h) [
  | inl f ↦ feed fresh x (gap ++ (w ++ r)) (w ++ r) f (spaced k k gap w r (All-tail IsSpace x gap h) s v p p)
  | inr b ↦ blank fresh x (gap ++ (w ++ r)) (w ++ r) b (spaced k fresh gap w r (All-tail IsSpace x gap h) s v p q)
]

begins_itself : (z w r : List ℕ) → NextWord z w r → BeginsWith (w ++ r) w r
begins_itself z w r n = record { split = refl; some = n.some; plain = n.visible; ends = n.ends }

gap_to_word : (k fresh : Bool) (z w r : List ℕ) → NextWord z w r → (k ≡ true → get_or w 0 0 ≢ 99) → (fresh ≡ true → get_or w 0 0 ≢ 99) → Gap k fresh z (w ++ r)
gap_to_word k fresh z w r n p q = subst (λ y. Gap k fresh y (w ++ r)) (sym n.split) (spaced k fresh n.gap w r n.blank n.some n.visible p q)

no_comments : {X : Type 0} → false ≡ true → X
no_comments e = cc

finds_from : {z w r : List ℕ} → NextWord z w r → Finds false z w r
finds_from {z} {w} {r} n = record { front = w ++ r; gap = gap_to_word false false z w r n (λ e. no_comments e) (λ e. no_comments e); begins = begins_itself z w r n }

-- what may follow, whether a comment may begin there or not
abbrev Anyway : List ℕ → List ℕ → Type 0
Anyway z front = (fresh : Bool) → Gap true fresh z front

gap_from_skips : {fresh : Bool} {bytes z front : List ℕ} → Skips fresh bytes z → Anyway z front → Gap true fresh bytes front
gap_from_skips (stay f z) h = h f
gap_from_skips (SkipsBlank f b z rest k s) h = blank f b z _ k (gap_from_skips s h)
gap_from_skips (SkipsFeed f b z rest k s) h = feed f b z _ k (gap_from_skips s h)
gap_from_skips (SkipsComment text after rest z e clean ends s) h = comment z text after _ e clean ends (gap_from_skips s h)

-- a clause's first word is found from wherever the gap before it begins
abbrev Reaches : Bool → List ℕ → List ℕ → Type 0
Reaches k bytes z = (front : List ℕ) → ((fresh : Bool) → Gap k fresh z front) → Gap k false bytes front

clause_reads : {V : ℕ} (k : Bool) (bytes : List ℕ) {z rest : List ℕ} {c : List LitOf} (F : List (List LitOf)) → IsClause z c rest → ClauseWithin V c → BodyIs V true rest (Clauses F) → Reaches k bytes z → BodyIs V k bytes (Clauses (c ∷ F))
clause_reads k bytes F (ended z rest n) v b reach =
    let no_c : get_or (48 ∷ []) 0 0 ≢ 99 = λ e. omega (arith, e) in
    zero_ends k bytes _ rest (Clauses F) _ (reach _ (λ fresh. gap_to_word k fresh z (48 ∷ []) rest n (λ t. no_c) (λ t. no_c))) (begins_itself z (48 ∷ []) rest n) b refl
clause_reads k bytes F (ClauseLiteral z word mid rest l c n i r) v b reach =
    let no_c : get_or word 0 0 ≢ 99 = (let d = i.1 in let digits = d.digits in literal_no_c i.0 word l.negated digits.1 i.3) in
    literal k bytes _ word mid l (Clauses (c ∷ F)) _ (reach _ (λ fresh. gap_to_word k fresh z word mid n (λ t. no_c) (λ t. no_c))) (begins_itself z word mid n) i (All-head (LitWithin _) l c v)
    (clause_reads false mid F r (All-tail (LitWithin _) l c v) b (λ front h. h false)) refl

body_reads : {V : ℕ} {bytes : List ℕ} {F : List (List LitOf)} → IsBody false bytes F → Within V F → BodyIs V true bytes (Clauses F)
body_reads (no_clause f z s) v = finished z (gap_from_skips s (λ fresh. over fresh))
body_reads {V} (clause f z front rest c F s k b) v =
    clause_reads true z F k (All-head (ClauseWithin V) c F v) (body_reads b (All-tail (ClauseWithin V) c F v)) (λ at h. gap_from_skips s h)

pub dimacs_header : (bytes : List ℕ) (f : FormulaOf) (d : IsDimacs bytes f) → HasHeader bytes f.vars (length f.clauses) d.body
dimacs_header bytes f d =
    let no_c : get_or (codes "p") 0 0 ≢ 99 = λ e. omega (arith, e) in
    record {
      after_p = d.after_p;
      after_cnf = d.after_cnf;
      vars_word = d.vars_word;
      after_vars = d.after_vars;
      count_word = d.count_word;
      p = record { front = codes "p" ++ d.after_p; gap = gap_from_skips d.lead (λ fresh. gap_to_word true fresh d.header (codes "p") d.after_p d.p (λ t. no_c) (λ t. no_c)); begins = begins_itself d.header (codes "p") d.after_p d.p };
      cnf = finds_from d.cnf;
      vars_next = finds_from d.vars_next;
      vars = d.vars;
      limit = d.limit;
      count_next = finds_from d.count_next;
      count = d.count;
    }

pub dimacs_body : (bytes : List ℕ) (f : FormulaOf) (d : IsDimacs bytes f) → BodyIs f.vars true d.body (Clauses f.clauses)
dimacs_body bytes f d = body_reads d.clauses d.within

-- the body under the header that the formula has
as_read : (bytes : List ℕ) (f : FormulaOf) (d : IsDimacs bytes f) {V C : ℕ} {body : List ℕ} {b : Body} → HasHeader bytes V C body → BodyIs V true body b → (length f.clauses ≡ C) × (Clauses f.clauses ≡ b)
as_read bytes f d {V} {C} {body} {b} h k =
    let o = header_one (dimacs_header bytes f d) h in
    (o.1, body_one (dimacs_body bytes f d) (subst (λ z. BodyIs f.vars true z b) (sym o.2) (subst (λ v. BodyIs v true body b) (sym o.0) k)))

pub no_fault : (bytes : List ℕ) (f : FormulaOf) (kind : DimacsFaultKind) (byte : ℕ) → IsDimacs bytes f → IsFault bytes kind byte → ⊥
no_fault bytes f Header byte d w = header_stands (dimacs_header bytes f d) w.1
no_fault bytes f Literal byte d w = let s = (as_read bytes f d w.4 w.5).1 in cc
no_fault bytes f Count byte d w = elim w.4 [
  | inl u ↦ (let s = (as_read bytes f d w.3 u).1 in cc)
  | inr u ↦ (let s = as_read bytes f d w.3 u.1 in let e : f.clauses ≡ u.0 = clauses_of s.1 in u.2 (ap length (sym e) ∙ s.0))
]
  where
    clauses_of : {F G : List (List LitOf)} → Clauses F ≡ Clauses G → F ≡ G
    clauses_of e = cc

-- the bodies of a text under its header
bodies_one : {bytes body body' : List ℕ} {V C V' C' : ℕ} {b b' : Body} → HasHeader bytes V C body → BodyIs V true body b → HasHeader bytes V' C' body' → BodyIs V' true body' b' → b ≡ b'
bodies_one {body' = body'} {V = V} {V' = V'} {b' = b'} h k h' k' =
    let o = header_one h h' in
    body_one k (subst (λ z. BodyIs V true z b') (sym o.2) (subst (λ v. BodyIs v true body' b') (sym o.0) k'))

no_literal_end : {X : Type 0} {bytes body body' : List ℕ} {V C V' C' : ℕ} {at : List ℕ} → HasHeader bytes V C body → BodyIs V true body (NoLiteral at) → HasHeader bytes V' C' body'
    → (BodyIs V' true body' Unfinished ⊎ (F : List (List LitOf)) × BodyIs V' true body' (Clauses F) × (length F ≢ C')) → X
no_literal_end h k h' w = elim w [ inl u ↦ (let e = bodies_one h k h' u in cc) | inr u ↦ (let e = bodies_one h k h' u.1 in cc) ]

same_place : (at at' bytes : List ℕ) (m n : ℕ) → at ≡ at' → m + length at ≡ length bytes → n + length at' ≡ length bytes → m ≡ n
same_place at at' bytes m n e p q = omega (arith, ap length e, p, q)

pub fault_one : (bytes : List ℕ) (k l : DimacsFaultKind) (m n : ℕ) → IsFault bytes k m → IsFault bytes l n → (k ≡ l) × (m ≡ n)
fault_one bytes Header Header m n v w = (refl, same_place v.0 w.0 bytes m n (fails_one v.1 w.1) v.2 w.2)
fault_one bytes Header Literal m n v w = absurd (header_stands w.4 v.1)
fault_one bytes Header Count m n v w = absurd (header_stands w.3 v.1)
fault_one bytes Literal Header m n v w = absurd (header_stands v.4 w.1)
fault_one bytes Literal Literal m n v w = (refl, same_place v.3 w.3 bytes m n (let e = bodies_one v.4 v.5 w.4 w.5 in cc) v.6 w.6)
fault_one bytes Literal Count m n v w = no_literal_end v.4 v.5 w.3 w.4
fault_one bytes Count Header m n v w = absurd (header_stands v.3 w.1)
fault_one bytes Count Literal m n v w = no_literal_end w.4 w.5 v.3 v.4
fault_one bytes Count Count m n v w = (refl, v.5 ∙ sym w.5)
