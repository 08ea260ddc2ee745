-- A header and a body, read word by word.
use Rattle.std.proofs.Common.{◌≡◌, ◌≢◌, ℕ, ◌+◌, ◌<◌, ◌≤◌, ◌^◌, ◌⊎◌, Bool, true, false, List, [], ◌∷◌, ◌++◌, length, eqb, refl, ap, sym, ◌∙◌, subst, inl, inr, arith, append_assoc, length-append}
use Rattle.std.specs.Prelude.{All}
use Rattle.std.proofs.lemmas.List.{append-nil}
use Rattle.std.proofs.lemmas.List.Elements.{All-nil, All-cons, All-push, All-head, All-tail}
use Rattle.cnf_form.specs.Cnf.{LitOf, LitWithin, ClauseWithin, Within, FormulaOf}
use Rattle.cnf_form.specs.Dimacs.{IsSpace, NextWord, Skips, stay, blank as SkipsBlank, feed as SkipsFeed, comment as SkipsComment, IsNumber, IsLiteral, IsClause, ended, literal as ClauseLiteral, IsBody, no_clause, clause, IsDimacs}
use Rattle.cnf_form.specs.Reading.{Gap, over, visible, blank, feed, comment, BeginsWith, Parts, HeaderWord, Fits, HeaderFails, missing, wrong, later, Finds, HasHeader, Body, Clauses, Unfinished, NoLiteral, with_literal, with_end, BodyIs, finished, cut, zero_ends, literal, no_literal, BodyEnds}
use Rattle.cnf_form.specs.declared.reader.BodyEnd.{BodyEnd}
use Rattle.cnf_form.specs.declared.reader.BodyEnd.TheVariants.{Whole, Cut}

-- nothing is longer than the text that it is a part of
pub gap_shorter : {comments fresh : Bool} {bytes rest : List ℕ} → Gap comments fresh bytes rest → length rest ≤ length bytes
gap_shorter (over fresh) = omega arith
gap_shorter (visible fresh b bytes w f) = omega arith
gap_shorter (blank fresh b bytes rest h g) = let l = gap_shorter g in omega (arith, l)
gap_shorter (feed fresh b bytes rest h g) = let l = gap_shorter g in omega (arith, l)
gap_shorter (comment bytes text after rest e clean ends g) = let l = gap_shorter g in omega (arith, l, ap length e, length-append text after)

module _ {front word rest : List ℕ} where
  pub begins_of : Parts front word rest → 0 < length word → BeginsWith front word rest
  begins_of p h = record { split = p.split; some = h; plain = p.plain; ends = p.ends }

  pub parts_shorter : Parts front word rest → length rest + length word ≡ length front
  parts_shorter p = let s = p.split in omega (arith, ap length s, length-append word rest)

module _ {bytes front word rest : List ℕ} where
  pub finds_of : {first : Bool} → Gap first first bytes front → Parts front word rest → 0 < length word → Finds first bytes word rest
  finds_of g p h = record { front = front; gap = g; begins = begins_of p h }

  pub fails_here : {first : Bool} (h : HeaderWord) (hs : List HeaderWord) → Gap first first bytes front → Parts front word rest → (Fits h word → ⊥) → HeaderFails first (h ∷ hs) bytes front
  fails_here {first} h hs g p no_fit = elim (empty_or word) [
    | inl e ↦ let n : front ≡ [] = p.none (ap length e) in subst (λ z. HeaderFails first (h ∷ hs) bytes z) (sym n) (missing first h hs bytes (subst (Gap first first bytes) n g))
    | inr l ↦ wrong first h hs bytes front word rest g (begins_of p l) no_fit
  ]
    where
      empty_or : (w : List ℕ) → (w ≡ []) ⊎ (0 < length w)
      empty_or [] = inl refl
      empty_or (b ∷ bs) = inr (omega arith)

  pub fails_later : {first : Bool} (h : HeaderWord) (hs : List HeaderWord) (at : List ℕ) → Gap first first bytes front → Parts front word rest → 0 < length word → Fits h word → HeaderFails false hs rest at → HeaderFails first (h ∷ hs) bytes at
  fails_later {first} h hs at g p l fit f = later first h hs bytes front word rest at g (begins_of p l) fit f

-- the clauses before, and the literals of the one that is begun
abbrev pub begun : List LitOf → Body → Body
begun c0 (Clauses []) = Clauses []
begun c0 (Clauses (c ∷ F)) = Clauses ((c0 ++ c) ∷ F)
begun c0 Unfinished = Unfinished
begun c0 (NoLiteral at) = NoLiteral at

abbrev pub done : List (List LitOf) → Body → Body
done F0 (Clauses F) = Clauses (F0 ++ F)
done F0 Unfinished = Unfinished
done F0 (NoLiteral at) = NoLiteral at

begun-literal : (c0 : List LitOf) (l : LitOf) (b : Body) → begun c0 (with_literal l b) ≡ begun (c0 ++ l ∷ []) b
begun-literal c0 l (Clauses []) = refl
begun-literal c0 l (Clauses (c ∷ F)) = ap (λ z. Clauses (z ∷ F)) (sym (append_assoc c0 (l ∷ []) c))
begun-literal c0 l Unfinished = refl
begun-literal c0 l (NoLiteral at) = refl

done-end : (F0 : List (List LitOf)) (c0 : List LitOf) (b : Body) → done F0 (begun c0 (with_end b)) ≡ done (F0 ++ c0 ∷ []) (begun [] b)
done-end F0 c0 (Clauses []) = ap (λ z. Clauses (F0 ++ z ∷ [])) (append-nil c0) ∙ ap Clauses (sym (append-nil (F0 ++ c0 ∷ [])))
done-end F0 c0 (Clauses (c ∷ F)) = ap (λ z. Clauses (F0 ++ z ∷ (c ∷ F))) (append-nil c0) ∙ ap Clauses (sym (append_assoc F0 (c0 ∷ []) (c ∷ F)))
done-end F0 c0 Unfinished = refl
done-end F0 c0 (NoLiteral at) = refl

-- what is read so far, and what is left
pub record Reads (vars : ℕ) (body rest : List ℕ) (between : Bool) (F0 : List (List LitOf)) (c0 : List LitOf) : Type 0 where
  pub so_far : (b : Body) → BodyIs vars between rest b → BodyIs vars true body (done F0 (begun c0 b))
  pub begun_within : ClauseWithin vars c0
  pub none_begun : between ≡ true → c0 ≡ []
  pub within : length rest ≤ length body

begun-none : (b : Body) → begun [] b ≡ b
begun-none (Clauses []) = refl
begun-none (Clauses (c ∷ F)) = refl
begun-none Unfinished = refl
begun-none (NoLiteral at) = refl

done-none : (b : Body) → done [] b ≡ b
done-none (Clauses F) = refl
done-none Unfinished = refl
done-none (NoLiteral at) = refl

pub reads_none : (vars : ℕ) (body : List ℕ) (F0 : List (List LitOf)) (c0 : List LitOf) → F0 ≡ [] → c0 ≡ [] → Reads vars body body true F0 c0
reads_none vars body F0 c0 e f = rw (e, f) (record {
  so_far = λ b h. subst (BodyIs vars true body) (sym (done-none (begun [] b) ∙ begun-none b)) h;
  begun_within = All-nil (LitWithin vars);
  none_begun = λ t. refl;
  within = omega arith;
})

module _ (vars : ℕ) (body bytes front word rest : List ℕ) (between : Bool) (F0 : List (List LitOf)) (c0 : List LitOf) (r : Reads vars body bytes between F0 c0) (g : Gap between false bytes front) (p : Parts front word rest) where
  left_within : length rest ≤ length body
  left_within = let a = r.within in omega (arith, a, gap_shorter g, parts_shorter p)

  pub front_within : length front ≤ length body
  front_within = let a = r.within in omega (arith, a, gap_shorter g)

  pub reads_zero : word ≡ 48 ∷ [] → Reads vars body rest true (F0 ++ c0 ∷ []) []
  reads_zero e = record {
    so_far = λ b h. subst (BodyIs vars true body) (done-end F0 c0 b)
        (r.so_far (with_end b) (zero_ends between bytes front rest b (with_end b) g (subst (λ z. BeginsWith front z rest) e (begins_of p (subst (λ z. 0 < length z) (sym e) (omega arith)))) h refl));
    begun_within = All-nil (LitWithin vars);
    none_begun = λ t. refl;
    within = left_within;
  }

  pub reads_literal : (l : LitOf) → 0 < length word → IsLiteral word l → LitWithin vars l → Reads vars body rest false F0 (c0 ++ l ∷ [])
  reads_literal l some i w = record {
    so_far = λ b h. subst (BodyIs vars true body) (ap (done F0) (begun-literal c0 l b))
        (r.so_far (with_literal l b) (literal between bytes front word rest l b (with_literal l b) g (begins_of p some) i w h refl));
    begun_within = All-push (LitWithin vars) c0 l r.begun_within w;
    none_begun = λ t. cc;
    within = left_within;
  }

  pub reads_bad : 0 < length word → word ≢ 48 ∷ [] → ((l : LitOf) → IsLiteral word l → LitWithin vars l → ⊥) → BodyIs vars true body (NoLiteral front)
  reads_bad some z none = r.so_far (NoLiteral front) (no_literal between bytes front word rest g (begins_of p some) z none)

  ends_here : length word ≡ 0 → Gap between false bytes []
  ends_here e = subst (Gap between false bytes) (p.none e) g

  pub reads_whole : length word ≡ 0 → between ≡ true → BodyIs vars true body (Clauses F0)
  reads_whole e t =
      let w = r.so_far (Clauses []) (subst (λ k. BodyIs vars k bytes (Clauses [])) (sym t) (finished bytes (subst (λ k. Gap k false bytes []) t (ends_here e)))) in
      subst (λ F. BodyIs vars true body (Clauses F)) (append-nil F0) w

  pub reads_cut : length word ≡ 0 → between ≡ false → BodyIs vars true body Unfinished
  reads_cut e t = r.so_far Unfinished (subst (λ k. BodyIs vars k bytes Unfinished) (sym t) (cut bytes (subst (λ k. Gap k false bytes []) t (ends_here e))))

pub some_word : (w : List ℕ) (b : ℕ) (bs : List ℕ) → w ≡ b ∷ bs → 0 < length w
some_word w b bs e = omega (arith, ap length e)

pub some_number : (w : List ℕ) (n : ℕ) → IsNumber w n → 0 < length w
some_number w n a = let d = a.digits in d.0

pub some_tested : (w : List ℕ) → eqb (length w) 0 ≡ false → 0 < length w
some_tested [] h = cc
some_tested (b ∷ bs) h = omega arith

pub reads_at : (vars : ℕ) (body rest : List ℕ) (b b' : Bool) (F F' : List (List LitOf)) (c c' : List LitOf) → Reads vars body rest b F c → b' ≡ b → F' ≡ F → c' ≡ c → Reads vars body rest b' F' c'
reads_at vars body rest b b' F F' c c' r e f g = rw (e, f, g) r

pub clauses_pushed : (f f' : FormulaOf) (c : List LitOf) → f' ≡ record f { clauses = f.clauses ++ c ∷ [] } → (f'.vars ≡ f.vars) × (f'.clauses ≡ f.clauses ++ c ∷ [])
clauses_pushed f f' c e = (ap (λ (k : FormulaOf). k.vars) e, ap (λ (k : FormulaOf). k.clauses) e)

-- What was read is DIMACS.
gap_skips : {fresh : Bool} {bytes rest : List ℕ} → Gap true fresh bytes rest → Skips fresh bytes rest
gap_skips (over fresh) = stay fresh []
gap_skips (visible fresh b bytes w f) = stay fresh (b ∷ bytes)
gap_skips (blank fresh b bytes rest h g) = SkipsBlank fresh b bytes rest h (gap_skips g)
gap_skips (feed fresh b bytes rest h g) = SkipsFeed fresh b bytes rest h (gap_skips g)
gap_skips (comment bytes text after rest e clean ends g) = SkipsComment text after rest bytes e clean ends (gap_skips g)

abbrev Spaces : List ℕ → List ℕ → Type 0
Spaces bytes rest = (gap : List ℕ) × (bytes ≡ gap ++ rest) × All IsSpace gap

more_space : (b : ℕ) (bytes rest : List ℕ) → IsSpace b → Spaces bytes rest → Spaces (b ∷ bytes) rest
more_space b bytes rest h w = (b ∷ w.0, ap (λ z. b ∷ z) w.1, All-cons IsSpace b w.0 h w.2)

gap_spaces : {comments fresh : Bool} {bytes rest : List ℕ} → comments ≡ false → fresh ≡ false → Gap comments fresh bytes rest → Spaces bytes rest
gap_spaces k f (over fresh) = ([], refl, All-nil IsSpace)
gap_spaces k f (visible fresh b bytes w g) = ([], refl, All-nil IsSpace)
gap_spaces k f (blank fresh b bytes rest h g) = more_space b bytes rest (inr h) (gap_spaces k f g)
gap_spaces k f (feed fresh b bytes rest h g) = more_space b bytes rest (inl h) (gap_spaces k k g)
gap_spaces k f (comment bytes text after rest e clean ends g) = cc

pub next_after : {bytes front word rest : List ℕ} → Spaces bytes front → BeginsWith front word rest → NextWord bytes word rest
next_after {front = front} {word = word} {rest = rest} s b = record { gap = s.0; split = s.1 ∙ ap (λ z. s.0 ++ z) b.split; blank = s.2; some = b.some; visible = b.plain; ends = b.ends }

pub no_space : (front : List ℕ) → Spaces front front
no_space front = ([], refl, All-nil IsSpace)

finds_next : {bytes word rest : List ℕ} → Finds false bytes word rest → NextWord bytes word rest
finds_next f = next_after (gap_spaces refl refl f.gap) f.begins

-- the clause that is begun, and the clauses after it
abbrev Behind : List ℕ → List (List LitOf) → Type 0
Behind bytes F = (c : List LitOf) × (G : List (List LitOf)) × (rest : List ℕ) × (F ≡ c ∷ G) × IsClause bytes c rest × IsBody false rest G

-- what the body says, where it stands between clauses or amid one
abbrev Says : Bool → List ℕ → Body → Type 0
Says true bytes (Clauses F) = IsBody false bytes F
Says false bytes (Clauses F) = Behind bytes F
Says true bytes Unfinished = Unit {0}
Says false bytes Unfinished = Unit {0}
Says true bytes (NoLiteral at) = Unit {0}
Says false bytes (NoLiteral at) = Unit {0}

bad_says : (between : Bool) (bytes at : List ℕ) → Says between bytes (NoLiteral at)
bad_says true bytes at = tt
bad_says false bytes at = tt

module _ (bytes front rest : List ℕ) where
  zero_says : (between : Bool) (b b' : Body) → b' ≡ with_end b → Gap between false bytes front → BeginsWith front (48 ∷ []) rest → Says true rest b → Says between bytes b'
  zero_says true (Clauses F) b' e g w s = subst (Says true bytes) (sym e) (clause false bytes front rest [] F (gap_skips g) (ended front rest (next_after (no_space front) w)) s)
  zero_says false (Clauses F) b' e g w s = subst (Says false bytes) (sym e) ([], F, rest, refl, ended bytes rest (next_after (gap_spaces refl refl g) w), s)
  zero_says true Unfinished b' e g w s = subst (Says true bytes) (sym e) tt
  zero_says false Unfinished b' e g w s = subst (Says false bytes) (sym e) tt
  zero_says true (NoLiteral at) b' e g w s = subst (Says true bytes) (sym e) tt
  zero_says false (NoLiteral at) b' e g w s = subst (Says false bytes) (sym e) tt

  literal_says : (between : Bool) (word : List ℕ) (l : LitOf) (b b' : Body) → b' ≡ with_literal l b → Gap between false bytes front → BeginsWith front word rest → IsLiteral word l → Says false rest b → Says between bytes b'
  literal_says true word l (Clauses []) b' e g w i s = absurd (let f = s.3 in cc)
  literal_says false word l (Clauses []) b' e g w i s = absurd (let f = s.3 in cc)
  literal_says true word l (Clauses (c ∷ F)) b' e g w i s =
      let f : (let xs : List (List LitOf) = c ∷ F in xs) ≡ s.0 ∷ s.1 = s.3 in
      let h : s.0 ≡ c = cc in
      let k : s.1 ≡ F = cc in
      subst (Says true bytes) (sym e) (clause false bytes front s.2 (l ∷ c) F (gap_skips g)
      (ClauseLiteral front word rest s.2 l c (next_after (no_space front) w) i (subst (λ z. IsClause rest z s.2) h s.4)) (subst (IsBody false s.2) k s.5))
  literal_says false word l (Clauses (c ∷ F)) b' e g w i s =
      let f : (let xs : List (List LitOf) = c ∷ F in xs) ≡ s.0 ∷ s.1 = s.3 in
      let h : s.0 ≡ c = cc in
      let k : s.1 ≡ F = cc in
      subst (Says false bytes) (sym e) (
        l ∷ c,
        F,
        s.2,
        refl,
        ClauseLiteral bytes word rest s.2 l c (next_after (gap_spaces refl refl g) w) i (subst (λ z. IsClause rest z s.2) h s.4),
        subst (IsBody false s.2) k s.5,
      )
  literal_says true word l Unfinished b' e g w i s = subst (Says true bytes) (sym e) tt
  literal_says false word l Unfinished b' e g w i s = subst (Says false bytes) (sym e) tt
  literal_says true word l (NoLiteral at) b' e g w i s = subst (Says true bytes) (sym e) tt
  literal_says false word l (NoLiteral at) b' e g w i s = subst (Says false bytes) (sym e) tt

body_says : {vars : ℕ} {between : Bool} {bytes : List ℕ} {b : Body} → BodyIs vars between bytes b → Says between bytes b
body_says (finished bytes g) = no_clause false bytes (gap_skips g)
body_says (cut bytes g) = tt
body_says (zero_ends between bytes front rest b b' g w r e) = zero_says bytes front rest between b b' e g w (body_says r)
body_says (literal between bytes front word rest l b b' g w i h r e) = literal_says bytes front rest between word l b b' e g w i (body_says r)
body_says (no_literal between bytes front word rest g w z n) = bad_says between bytes front

abbrev BodyWithin : ℕ → Body → Type 0
BodyWithin vars (Clauses F) = Within vars F
BodyWithin vars Unfinished = Unit {0}
BodyWithin vars (NoLiteral at) = Unit {0}

zero_within : (vars : ℕ) (b b' : Body) → b' ≡ with_end b → BodyWithin vars b → BodyWithin vars b'
zero_within vars (Clauses F) b' e w = subst (BodyWithin vars) (sym e) (All-cons (ClauseWithin vars) [] F (All-nil (LitWithin vars)) w)
zero_within vars Unfinished b' e w = subst (BodyWithin vars) (sym e) tt
zero_within vars (NoLiteral at) b' e w = subst (BodyWithin vars) (sym e) tt

literal_within : (vars : ℕ) (l : LitOf) (b b' : Body) → b' ≡ with_literal l b → LitWithin vars l → BodyWithin vars b → BodyWithin vars b'
literal_within vars l (Clauses []) b' e h w = subst (BodyWithin vars) (sym e) w
literal_within vars l (Clauses (c ∷ F)) b' e h w =
    subst (BodyWithin vars) (sym e) (All-cons (ClauseWithin vars) (l ∷ c) F (All-cons (LitWithin vars) l c h (All-head (ClauseWithin vars) c F w)) (All-tail (ClauseWithin vars) c F w))
literal_within vars l Unfinished b' e h w = subst (BodyWithin vars) (sym e) tt
literal_within vars l (NoLiteral at) b' e h w = subst (BodyWithin vars) (sym e) tt

body_within : {vars : ℕ} {between : Bool} {bytes : List ℕ} {b : Body} → BodyIs vars between bytes b → BodyWithin vars b
body_within {vars} (finished bytes g) = All-nil (ClauseWithin vars)
body_within (cut bytes g) = tt
body_within {vars} (zero_ends between bytes front rest b b' g w r e) = zero_within vars b b' e (body_within r)
body_within {vars} (literal between bytes front word rest l b b' g w i h r e) = literal_within vars l b b' e h (body_within r)
body_within (no_literal between bytes front word rest g w z n) = tt

pub dimacs_from : (bytes : List ℕ) (V : ℕ) (body : List ℕ) (f : FormulaOf) → f.vars ≡ V → HasHeader bytes V (length f.clauses) body → BodyIs V true body (Clauses f.clauses) → IsDimacs bytes f
dimacs_from bytes V body f e h b =
    let p = h.p in
    record {
      header = p.front;
      after_p = h.after_p;
      after_cnf = h.after_cnf;
      vars_word = h.vars_word;
      after_vars = h.after_vars;
      count_word = h.count_word;
      body = body;
      lead = gap_skips p.gap;
      p = next_after (no_space p.front) p.begins;
      cnf = finds_next h.cnf;
      vars_next = finds_next h.vars_next;
      vars = subst (IsNumber h.vars_word) (sym e) h.vars;
      limit = subst (λ n. n ≤ 2 ^ 27) (sym e) h.limit;
      count_next = finds_next h.count_next;
      count = h.count;
      within = subst (λ n. Within n f.clauses) (sym e) (body_within b);
      clauses = body_says b;
    }

module _ (vars vars' : ℕ) (body : List ℕ) (F : List (List LitOf)) (end : BodyEnd) (h : BodyEnds vars body F end) (e : vars ≡ vars') where
  same : BodyEnds vars' body F end
  same = subst (λ n. BodyEnds n body F end) e h

  pub ends_as : (end' : BodyEnd) → end ≡ end' → BodyEnds vars' body F end'
  ends_as end' t = subst (BodyEnds vars' body F) t same

  pub ends_cut : end ≡ Cut → BodyIs vars' true body Unfinished
  ends_cut t = subst (BodyEnds vars' body F) t same

  pub ends_whole : end ≡ Whole → BodyIs vars' true body (Clauses F)
  ends_whole t = subst (BodyEnds vars' body F) t same
