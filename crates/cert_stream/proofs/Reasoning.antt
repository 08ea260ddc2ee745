-- Each fault has its reason.
use Rattle.std.proofs.Common.{◌≡◌, ◌⊎◌, ℕ, zero, suc, ◌+◌, ◌-◌, ◌≤◌, Bool, true, false, cond, ◌&&◌, ◌||◌, eqb, leb, List, [], ◌∷◌, ◌++◌, length, map, Some, refl, ap, sym, ◌∙◌, inl, inr, arith, subst, append_assoc}
use Rattle.std.specs.Prelude.{slice_index}
use Rattle.std.proofs.lemmas.Bool.{cases_Bool, eqb-true, leb-false}
use Rattle.std.proofs.lemmas.List.{append-nil, length-append, map-append}
use Rattle.std.proofs.lemmas.List.Elements.{Contains-append_cases}
use Rattle.cnf_form.proofs.Members.{Contains-cases, Contains-empty, Contains-one}
use Rattle.cnf_form.specs.Cnf.{LitOf}
use Rattle.cert_stream.specs.Text.{Word, NoFeed, is_blank, is_digit, literal_of, lines_of, words_from}
use Rattle.cert_stream.specs.Scan.{Scanned, Reads, Misfit, scan}
use Rattle.cert_stream.specs.Words.{IsRead}
use Rattle.cert_stream.specs.Telling.{Saying, IsValue, IsUnknown, IsFault, after, fresh}
use Rattle.cert_stream.specs.Stream.{bad, ended_says, heard_says, after_says, unended_says, list_says, is_unknown, status_says, alone, plain_says, visible_says, line_says, lines_say, sayings}
use Rattle.cert_stream.specs.Beginning.{HasFault, HasNoFault}
use Rattle.cert_stream.specs.Places.{AreLines, AreDone, Write}
use Rattle.cert_stream.specs.Reasons.{IsAt, starts_line, is_alone, IsListOf, Reason, OtherLine, NotAlone, AfterZero, NoZero, BadWord, MinusAlone, HasReason}
use Rattle.cert_stream.specs.declared.mode.ListKind.{ListKind}
use Rattle.cert_stream.specs.declared.mode.ListKind.TheVariants.{Clause, Deletion, Values}
use Rattle.cert_stream.specs.declared.mode.ParseFault.{ParseFault}
use Rattle.cert_stream.specs.declared.mode.ParseFaultKind.{ParseFaultKind}
use Rattle.cert_stream.specs.declared.mode.ParseFaultKind.TheVariants.{BadLine, BadLiteral}
use Rattle.cert_stream.specs.declared.mode.Part.{Part}
use Rattle.cert_stream.specs.declared.mode.Part.TheVariants.{Gap, Minus, Zero, Digits}
use Rattle.cert_stream.specs.declared.mode.Mode.TheVariants.{Bad}
use Rattle.cert_stream.specs.Machine.{DrupOf}
use Rattle.cert_stream.proofs.Going.{Going}
use Rattle.cert_stream.proofs.Faults.{bad_stays}
use Rattle.cert_stream.proofs.Cutting.{after_append}
use Rattle.cert_stream.proofs.Reading.{word_read}
use Rattle.cert_stream.proofs.Tails.{word_says}
use Rattle.cert_stream.proofs.Streams.{cut}
use Rattle.cert_stream.proofs.Beginnings.{fault_is, fault_in}
use Rattle.cert_stream.proofs.Apart.{kept, lines_apart, fed_lines}

one_fault : (k : ParseFaultKind) (n : ℕ) (f : ParseFault) → HasFault (bad k n) f → IsAt f k n
one_fault k n f h =
    let g : ParseFault = record { kind = k; byte = n } in
    let e : IsFault g ≡ IsFault f = Contains-one (IsFault g) (IsFault f) h in
    let i : g ≡ f = cc in
    (sym (ap (λ (z : ParseFault). z.kind) i), sym (ap (λ (z : ParseFault). z.byte) i))

after_one : (s : Saying) (ss : List Saying) (f : ParseFault) → (s ≡ IsFault f → ⊥) → HasFault (s ∷ ss) f → HasFault ss f
after_one s ss f n h = elim (Contains-cases s (IsFault f) ss h) [ inl e ↦ absurd (n e) | inr k ↦ k ]

none_fault : (f : ParseFault) → HasFault [] f → ⊥
none_fault f h = Contains-empty (IsFault f) h

split : (f : ParseFault) (c : Bool) (xs ys : List Saying) → HasFault (cond c xs ys) f → ((c ≡ true) × HasFault xs f) ⊎ ((c ≡ false) × HasFault ys f)
split f true xs ys h = inl (refl, h)
split f false xs ys h = inr (refl, h)

ended_none : (f : ParseFault) (kind : ListKind) (place : ℕ) (lits : List LitOf) → ended_says kind place lits ≡ IsFault f → ⊥
ended_none f Clause place lits e = cc
ended_none f Deletion place lits e = cc
ended_none f Values place lits e = cc

after_heard : (f : ParseFault) (kind : ListKind) (l : LitOf) (ss : List Saying) → HasFault (heard_says kind l ++ ss) f → HasFault ss f
after_heard f Clause l ss h = h
after_heard f Deletion l ss h = h
after_heard f Values l ss h = after_one (IsValue l) ss f (λ e. cc) h

-- words have bytes
abbrev HasText : List Word → Type 0
HasText [] = Unit {0}
HasText (w ∷ ws) = (w.text ≡ [] → ⊥) × HasText ws

words_text : (fed : Bool) (at : ℕ) (p bs : List ℕ) → HasText (words_from fed at p bs)
words_text fed at [] [] = tt
words_text fed at (c ∷ q) [] = (λ e. cc, tt)
words_text fed at [] (b ∷ bs) = elim (cases_Bool (is_blank b)) [ inl t ↦ rw t (words_text fed (at + 1) [] bs) | inr f ↦ rw f (words_text fed (at + 1) (b ∷ []) bs) ]
words_text fed at (c ∷ q) (b ∷ bs) =
    let blank : HasText (record { place = at - length (c ∷ q); text = c ∷ q; done = true } ∷ words_from fed (at + 1) [] bs) = (λ e. cc, words_text fed (at + 1) [] bs) in
    elim (cases_Bool (is_blank b)) [ inl t ↦ rw t blank | inr f ↦ rw f (words_text fed (at + 1) (c ∷ q ++ b ∷ []) bs) ]

done_push : (ws : List Word) (w : Word) → AreDone ws → w.done ≡ true → AreDone (ws ++ w ∷ [])
done_push [] w d e = (e, tt)
done_push (v ∷ ws) w (d, ds) e = (d, done_push ws w ds e)

write_push : (vars : ℕ) (ws : List Word) (lits : List LitOf) (w : Word) (l : LitOf) → Write vars ws lits → w.done ≡ true → literal_of vars w.text ≡ Some l → leb vars (length lits) ≡ false
    → Write vars (ws ++ w ∷ []) (lits ++ l ∷ [])
write_push vars ws lits w l (d, m, n) e r f =
    let g = leb-false vars (length lits) f in
    let len : length (lits ++ l ∷ []) ≡ length lits + 1 = length-append lits (l ∷ []) in
    (done_push ws w d e, map-append (λ (v : Word). literal_of vars v.text) ws (w ∷ []) ∙ ap (λ z. z ++ literal_of vars w.text ∷ []) m ∙ ap (λ z. map Some lits ++ z ∷ []) r ∙ sym (map-append Some lits (l ∷ [])), omega (arith, g, len))

module _ (vars : ℕ) (amid fed : Bool) (feed : ℕ) (words : List Word) (f : ParseFault) where
  abbrev Why : Type 0
  Why = Reason vars amid fed feed words f

  module _ (kind : ListKind) (counted : Bool) (unended more : List Saying) (place : ℕ) where
    -- a reason in the list, none for its words, or a fault after it
    abbrev Outcome : Type 0
    Outcome = Why ⊎ ((ws : List Word) × (lits : List LitOf) × Write vars ws lits × IsListOf kind words ws × HasFault unended f) ⊎ HasFault more f

    word_reason : (ws : List Word) (lits : List LitOf) (w : Word) (rest : List Word) → Write vars ws lits → IsListOf kind words (ws ++ w ∷ rest) → (w.text ≡ [] → ⊥)
        → ((l : LitOf) → Write vars (ws ++ w ∷ []) (lits ++ l ∷ []) → HasFault (list_says vars kind counted unended more place (lits ++ l ∷ []) rest) f → Outcome)
        → (s : Scanned Part) → IsRead vars (leb vars (length lits)) w.text s → HasFault (word_says vars kind counted unended more place lits s w rest) f → Outcome
    word_reason ws lits w rest wr il t again (Misfit k n) r h = inl (BadWord kind ws lits w rest k n il wr r (one_fault k (w.place + n) f h))
    word_reason ws lits w rest wr il t again (Reads Gap) r h = absurd (t r)
    word_reason ws lits w rest wr il t again (Reads Minus) r h =
        elim (split f w.done (bad BadLiteral (w.place + length w.text)) [] h) [
          | inl k ↦ inl (MinusAlone kind ws lits w rest il wr r.0 k.0 (one_fault BadLiteral (w.place + length w.text) f k.1))
          | inr k ↦ absurd (none_fault f k.1)
        ]
    word_reason ws lits w rest wr il t again (Reads Zero) r h =
        elim (split f (w.done || counted) (ended_says kind place lits ∷ after_says more rest) [] h) [
          | inl k ↦ later rest il (after_one (ended_says kind place lits) (after_says more rest) f (ended_none f kind place lits) k.1)
          | inr k ↦ absurd (none_fault f k.1)
        ]
      where
        later : (rest : List Word) → IsListOf kind words (ws ++ w ∷ rest) → HasFault (after_says more rest) f → Outcome
        later [] il h = inr (inr h)
        later (v ∷ vs) il h = inl (AfterZero kind ws lits w v vs il wr r (one_fault BadLine v.place f h))
    word_reason ws lits w rest wr il t again (Reads (Digits l)) (n, r) h =
        elim (split f w.done (heard_says kind l ++ list_says vars kind counted unended more place (lits ++ l ∷ []) rest) [] h) [
          | inl k ↦ again l (write_push vars ws lits w l wr k.0 r n) (after_heard f kind l (list_says vars kind counted unended more place (lits ++ l ∷ []) rest) k.1)
          | inr k ↦ absurd (none_fault f k.1)
        ]

    list_reason : (rest ws : List Word) (lits : List LitOf) → HasText rest → Write vars ws lits → IsListOf kind words (ws ++ rest) → HasFault (list_says vars kind counted unended more place lits rest) f → Outcome
    list_reason [] ws lits t wr il h = inr (inl (ws, lits, wr, subst (IsListOf kind words) (append-nil ws) il, h))
    list_reason (w ∷ rest) ws lits (t, ts) wr il h =
        word_reason ws lits w rest wr il t (λ l k g. list_reason rest (ws ++ w ∷ []) (lits ++ l ∷ []) ts k (subst (IsListOf kind words) (sym (append_assoc ws (w ∷ []) rest)) il) g)
        (scan vars (leb vars (length lits)) Gap w.text) (word_read vars (leb vars (length lits)) w.text) h

text_one : (t : List ℕ) (c : ℕ) → eqb (length t) 1 ≡ true → eqb (slice_index t 0) c ≡ true → t ≡ c ∷ []
text_one [] c e g = cc
text_one (x ∷ []) c e g = ap (λ z. z ∷ []) (eqb-true x c g)
text_one (x ∷ y ∷ z) c e g = absurd (let k = eqb-true (length (x ∷ y ∷ z)) 1 e in omega (arith, k))

text_two : (t : List ℕ) (c : ℕ) → 1 ≤ c → eqb (length t) 1 ≡ false → eqb (slice_index t 0) c ≡ true → 2 ≤ length t
text_two [] c l e g = absurd (let k = eqb-true 0 c g in omega (arith, k, l))
text_two (x ∷ []) c l e g = cc
text_two (x ∷ y ∷ z) c l e g = omega arith

alone_values : (amid : Bool) (b : ℕ) → eqb b 118 ≡ true → is_alone amid b ≡ true
alone_values amid b e = rw e refl

alone_status : (amid : Bool) (b : ℕ) → amid ≡ false → eqb b 118 ≡ false → eqb b 115 ≡ true → is_alone amid b ≡ true
alone_status amid b a e g = rw (a, e, g) refl

alone_deletion : (amid : Bool) (b : ℕ) → amid ≡ false → eqb b 118 ≡ false → eqb b 115 ≡ false → eqb b 100 ≡ true → is_alone amid b ≡ true
alone_deletion amid b a e g h = rw (a, e, g, h) refl

no_start_amid : (amid : Bool) (b : ℕ) → amid ≡ true → eqb b 99 ≡ false → eqb b 118 ≡ false → starts_line amid b ≡ false
no_start_amid amid b a c v = rw (a, c, v) refl

no_start : (amid : Bool) (b : ℕ) → amid ≡ false → eqb b 99 ≡ false → eqb b 118 ≡ false → eqb b 115 ≡ false → eqb b 100 ≡ false → (eqb b 45 || is_digit b) ≡ false → starts_line amid b ≡ false
no_start amid b a c v s d o = rw (a, c, v, s, d, o) refl

module _ (vars : ℕ) (amid fed : Bool) (feed : ℕ) (words : List Word) (f : ParseFault) (counted : Bool) (broken going more : List Saying) (is_broken : broken ≡ cond fed (bad BadLine feed) []) where
  -- a reason in the line, or a fault after it
  abbrev Found : Type 0
  Found = Reason vars amid fed feed words f ⊎ HasFault going f ⊎ HasFault more f

  no_zero : (kind : ListKind) (ws : List Word) (lits : List LitOf) → (kind ≡ Clause) ⊎ (kind ≡ Deletion) → Write vars ws lits → IsListOf kind words ws → HasFault broken f → Found
  no_zero kind ws lits k wr il h =
      elim (split f fed (bad BadLine feed) [] (subst (λ z. HasFault z f) is_broken h)) [
        | inl x ↦ inl (NoZero kind ws lits x.0 k il wr (one_fault BadLine feed f x.1))
        | inr x ↦ absurd (none_fault f x.1)
      ]

  listed : (kind : ListKind) (place : ℕ) → Outcome vars amid fed feed words f kind counted (unended_says kind broken going) more place → Found
  listed kind place (inl why) = inl why
  listed kind place (inr (inr h)) = inr (inr h)
  listed Clause place (inr (inl (ws, lits, wr, il, h))) = no_zero Clause ws lits (inl refl) wr il h
  listed Deletion place (inr (inl (ws, lits, wr, il, h))) = no_zero Deletion ws lits (inr refl) wr il h
  listed Values place (inr (inl (ws, lits, wr, il, h))) = inr (inl h)

  empty : Write vars [] []
  empty = (tt, refl, omega arith)

  behind : (kind : ListKind) (place : ℕ) (ws : List Word) → HasText ws → IsListOf kind words ws → HasFault (list_says vars kind counted (unended_says kind broken going) more place [] ws) f → Found
  behind kind place ws t il h = listed kind place (list_reason vars amid fed feed words f kind counted (unended_says kind broken going) more place ws [] [] t empty il h)

  status : (ws : List Word) → HasFault (status_says counted more ws) f → HasFault more f
  status ws h = elim (split f (is_unknown ws && counted) (IsUnknown ∷ more) more h) [ inl k ↦ after_one IsUnknown more f (λ e. cc) k.1 | inr k ↦ k.1 ]

  module _ (w : Word) (ws : List Word) (e : words ≡ w ∷ ws) (ts : HasText (w ∷ ws)) where
    abbrev b : ℕ
    b = slice_index w.text 0

    alone_reason : (said : List Saying) (c : ℕ) → 1 ≤ c → eqb b c ≡ true → is_alone amid b ≡ true → (w.text ≡ c ∷ [] → HasFault said f → Found) → HasFault (alone w said) f → Found
    alone_reason said c l g a next h =
        elim (split f (eqb (length w.text) 1) said (bad BadLine (w.place + 1)) h) [
          | inl k ↦ next (text_one w.text c k.0 g) k.1
          | inr k ↦ inl (NotAlone w ws e a (text_two w.text c l k.0 g) (one_fault BadLine (w.place + 1) f k.1))
        ]

    plain_reason : amid ≡ false → eqb b 99 ≡ false → eqb b 118 ≡ false → HasFault (plain_says vars counted broken more b w ws) f → Found
    plain_reason a nc nv h =
        elim (split f (eqb b 115) (alone w (status_says counted more ws)) _ h) [
          | inl k ↦ alone_reason (status_says counted more ws) 115 (omega arith) k.0 (alone_status amid b a nv k.0) (λ t x. inr (inr (status ws x))) k.1
          | inr k ↦ elim (split f (eqb b 100) (alone w (list_says vars Deletion counted broken more w.place [] ws)) _ k.1) [
            | inl d ↦ alone_reason (list_says vars Deletion counted broken more w.place [] ws) 100 (omega arith) d.0 (alone_deletion amid b a nv k.0 d.0) (λ t x. behind Deletion w.place ws ts.1 (w, e, t) x) d.1
            | inr d ↦ elim (split f (eqb b 45 || is_digit b) (list_says vars Clause counted broken more w.place [] (w ∷ ws)) (bad BadLine w.place) d.1) [
              | inl o ↦ behind Clause w.place (w ∷ ws) ts (e, w, ws, e, o.0) o.1
              | inr o ↦ inl (OtherLine w ws e (no_start amid b a nc nv k.0 d.0 o.0) (one_fault BadLine w.place f o.1))
            ]
          ]
        ]

    visible_reason : HasFault (visible_says vars counted amid broken going more b w ws) f → Found
    visible_reason h =
        elim (split f (eqb b 99) (cond amid going more) _ h) [
          | inl k ↦ elim (split f amid going more k.1) [ inl x ↦ inr (inl x.1) | inr x ↦ inr (inr x.1) ]
          | inr k ↦ elim (split f (eqb b 118) (alone w (list_says vars Values counted going more w.place [] ws)) _ k.1) [
            | inl v ↦ alone_reason (list_says vars Values counted going more w.place [] ws) 118 (omega arith) v.0 (alone_values amid b v.0) (λ t x. behind Values w.place ws ts.1 (w, e, t) x) v.1
            | inr v ↦ elim (split f amid (bad BadLine w.place) (plain_says vars counted broken more b w ws) v.1) [
              | inl a ↦ inl (OtherLine w ws e (no_start_amid amid b a.0 k.0 v.0) (one_fault BadLine w.place f a.1))
              | inr a ↦ plain_reason a.0 k.0 v.0 a.1
            ]
          ]
        ]

  line_reason : (ws : List Word) → words ≡ ws → HasText ws → HasFault (line_says vars counted amid broken going more ws) f → Found
  line_reason [] e t h = elim (split f amid going more h) [ inl x ↦ inr (inl x.1) | inr x ↦ inr (inr x.1) ]
  line_reason (w ∷ ws) e t h = visible_reason w ws e t h

module _ (vars : ℕ) (ended : Bool) (f : ParseFault) where
  -- in the last line
  last_reason : (front bytes : List ℕ) → NoFeed bytes → lines_of bytes ≡ bytes ∷ [] → AreLines front → HasNoFault (sayings vars false front) → HasFault (sayings vars ended (front ++ bytes)) f
      → HasReason vars ended (front ++ bytes) f
  last_reason front bytes n l lines none h =
      let a = lines_apart vars front lines none in
      let at = length front in
      let words = words_from false at [] bytes in
      let whole : front ++ bytes ≡ front ++ (bytes ++ []) = ap (λ z. front ++ z) (sym (append-nil bytes)) in
      let e = a.1 ended bytes ∙ ap (λ z. sayings vars false front ++ lines_say vars ended a.0 at z) l in
      let e' = a.1 ended bytes ∙ ap (λ z. sayings vars false front ++ lines_say vars ended a.0 at (lines_of z)) (sym (append-nil bytes)) in
      elim (Contains-append_cases (sayings vars false front) (line_says vars ended a.0 [] [] [] words) (IsFault f) (subst (λ z. HasFault z f) e h)) [
        | inl k ↦ absurd (none f k)
        | inr k ↦ elim (line_reason vars a.0 false (at + length bytes) words f ended [] [] [] refl words refl (words_text false at [] bytes) k) [
          | inl r ↦ record { front = front; line = bytes; rest = []; amid = a.0; fed = false; whole = whole; lines = lines; no_feed = n; tail = inr (refl, refl); apart = e'; reason = r }
          | inr x ↦ elim x [ inl y ↦ absurd (none_fault f y) | inr y ↦ absurd (none_fault f y) ]
        ]
      ]

  -- in a line with a line feed
  fed_reason : (front text rest : List ℕ) → NoFeed text → AreLines front → HasNoFault (sayings vars false front) → HasFault (sayings vars false (front ++ (text ++ 10 ∷ []))) f
      → HasReason vars ended (front ++ (text ++ 10 ∷ rest)) f
  fed_reason front text rest n lines none h =
      let a = lines_apart vars front lines none in
      let at = length front in
      let feed = at + length text in
      let words = words_from true at [] text in
      let e = a.1 false (text ++ 10 ∷ []) ∙ ap (λ z. sayings vars false front ++ lines_say vars false a.0 at z) (fed_lines text [] n) in
      elim (Contains-append_cases (sayings vars false front) (line_says vars true a.0 (bad BadLine feed) [] [] words) (IsFault f) (subst (λ z. HasFault z f) e h)) [
        | inl k ↦ absurd (none f k)
        | inr k ↦ elim (line_reason vars a.0 true feed words f true (bad BadLine feed) [] [] refl words refl (words_text true at [] text) k) [
          | inl r ↦ record { front = front; line = text; rest = 10 ∷ rest; amid = a.0; fed = true; whole = refl; lines = lines; no_feed = n; tail = inl (refl, rest, refl); apart = a.1 ended (text ++ 10 ∷ rest); reason = r }
          | inr x ↦ elim x [ inl y ↦ absurd (none_fault f y) | inr y ↦ absurd (none_fault f y) ]
        ]
      ]

  joined : (front text rest : List ℕ) → (front ++ (text ++ 10 ∷ [])) ++ rest ≡ front ++ (text ++ 10 ∷ rest)
  joined front text rest = append_assoc front (text ++ 10 ∷ []) rest ∙ ap (λ z. front ++ z) (append_assoc text (10 ∷ []) rest)

  reasons : (fuel : ℕ) (front bytes : List ℕ) → length bytes ≤ fuel → AreLines front → HasNoFault (sayings vars false front) → HasFault (sayings vars ended (front ++ bytes)) f → HasReason vars ended (front ++ bytes) f
  reasons zero front [] l lines none h = last_reason front [] tt refl lines none h
  reasons zero front (b ∷ bs) l lines none h = absurd (omega arith)
  reasons (suc fuel) front bytes l lines none h =
      elim (cut bytes) [
        | inr k ↦ last_reason front bytes k.none k.lines lines none h
        | inl k ↦
            let front' = front ++ (k.text ++ 10 ∷ []) in
            let len : length bytes ≡ length k.text + length (10 ∷ k.rest) = ap length k.are ∙ length-append k.text (10 ∷ k.rest) in
            let whole : front' ++ k.rest ≡ front ++ bytes = joined front k.text k.rest ∙ ap (λ z. front ++ z) (sym k.are) in
            let h' : HasFault (sayings vars ended (front' ++ k.rest)) f = subst (λ z. HasFault (sayings vars ended z) f) (sym whole) h in
            elim (kept front' (fresh vars) tt) [
              | inl g ↦
                  let none' : HasNoFault (sayings vars false front') = λ x y. subst (Going vars) (fault_is vars false front' x y) g.1 in
                  let lines' : AreLines front' = inr (front ++ k.text, sym (append_assoc front k.text (10 ∷ []))) in
                  subst (λ z. HasReason vars ended z f) whole (reasons fuel front' k.rest (omega (arith, len, l)) lines' none' h')
              | inr g ↦
                  let e : (after (fresh vars) (front' ++ k.rest)).mode ≡ Bad g.0 = ap (λ (z : DrupOf). z.mode) (after_append (fresh vars) front' k.rest) ∙ bad_stays g.0 (after (fresh vars) front') k.rest g.1 in
                  let i : g.0 ≡ f = (let x : Bad g.0 ≡ Bad f = sym e ∙ fault_is vars ended (front' ++ k.rest) f h' in cc) in
                  let x : HasFault (sayings vars false front') f = subst (λ (z : ParseFault). HasFault (sayings vars false front') z) i (fault_in vars false front' g.0 g.1) in
                  subst (λ z. HasReason vars ended z f) (ap (λ z. front ++ z) (sym k.are)) (fed_reason front k.text k.rest k.none lines none x)
            ]
      ]

  pub fault_reason : (bytes : List ℕ) → HasFault (sayings vars ended bytes) f → HasReason vars ended bytes f
  fault_reason bytes h = reasons (length bytes) [] bytes (omega arith) (inl refl) (λ x y. none_fault x y) h
