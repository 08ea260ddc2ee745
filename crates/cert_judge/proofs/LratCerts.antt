-- A hinted stream that is found to be a certificate begins with one.
use Rattle.std.proofs.Common.{◌≡◌, ◌≢◌, ℕ, suc, ◌+◌, ◌≤◌, ◌<◌, Bool, true, false, not, ◌&&◌, ◌||◌, cond, leb, eqb, List, [], ◌∷◌, ◌++◌, length, take, drop, Option, Some, None, refl, sym, ap, ◌∙◌, subst, inl, inr, arith, ◌⊎◌, append_assoc}
use Rattle.std.specs.Prelude.{is_some, codes, slice_index, flat_map}
use Rattle.std.proofs.lemmas.Bool.{cases_Bool, eqb-true, leb-false}
use Rattle.std.proofs.lemmas.List.{append-nil, length_push}
use Rattle.std.proofs.lemmas.List.Elements.{All-cons, All-nil}
use Rattle.cnf_form.specs.Cnf.{LitOf, FormulaOf, Assignment, Satisfies}
use Rattle.cert_stream.specs.Text.{Word, id_of, is_digit, literal_of, lines_of, words_from}
use Rattle.cert_stream.specs.Scan.{Scanned, Reads, Misfit, scan, scan_by}
use Rattle.cert_stream.specs.Words.{IsRead}
use Rattle.cert_stream.specs.Stream.{is_unknown}
use Rattle.cert_stream.specs.LratMachine.{most_hints, takes_minus}
use Rattle.cert_stream.specs.LratScan.{own_next, part_next}
use Rattle.cert_stream.specs.LratTelling.{LratSaying, IsClause, IsValuesEnd, IsUnknown}
use Rattle.cert_stream.specs.LratLines.{alone, bad, after_says, heard_says, ids_ended, ids_say, line_says, lines_say, lits_ended, lits_say, named_says, plain_says, sayings, status_says, unended_says}
use Rattle.cert_stream.specs.declared.lrat.mode.Hint.{Hint}
use Rattle.cert_stream.specs.declared.lrat.mode.LitList.{LitList}
use Rattle.cert_stream.specs.declared.lrat.mode.LitList.TheVariants.{Clause as ClauseList, Values as ValuesList}
use Rattle.cert_stream.specs.declared.lrat.mode.IdList.{IdList}
use Rattle.cert_stream.specs.declared.lrat.mode.IdList.TheVariants.{Hints, Deletion}
use Rattle.cert_stream.specs.declared.lrat.mode.IdPart.{IdPart}
use Rattle.cert_stream.specs.declared.lrat.mode.IdPart.TheVariants.{Gap as IdGap, Minus as IdMinus, Zero as IdZero, Digits as IdDigits}
use Rattle.cert_stream.specs.declared.mode.ParseFaultKind.{ParseFaultKind}
use Rattle.cert_stream.specs.declared.mode.ParseFaultKind.TheVariants.{BadLine, BadLiteral}
use Rattle.cert_stream.specs.declared.mode.Part.{Part}
use Rattle.cert_stream.specs.declared.mode.Part.TheVariants.{Gap, Minus, Zero, Digits}
use Rattle.cert_stream.proofs.Reading.{word_read}
use Rattle.cert_stream.proofs.LratIds.{own_read, word_is}
use Rattle.cert_stream.proofs.LratTails.{id_word_says, lit_word_says}
use Rattle.lrat_check.specs.Hints.{IsHinted, Live, put}
use Rattle.sby_terms.specs.declared.names.Answer.{Answer}
use Rattle.sby_terms.specs.declared.names.Answer.TheVariants.{Sat, Unsat}
use Rattle.cert_judge.specs.Values.{named, named_from, unnamed}
use Rattle.cert_judge.specs.Fate.{Found}
use Rattle.cert_judge.specs.Lrat.{ByHints, StreamFate, SayingsFate, Held, HintsFate, added, deleted, first_bad, held_first, ids_of, is_good, without}
use Rattle.cert_judge.specs.DrupCert.{words, lines, IsIdle, IsRemark, Writes, Names}
use Rattle.cert_judge.specs.LratCert.{AreIds, AreLive, IsAdmittedAs, IsCertOf, IsClauseLine, IsDeletionLine, IsRefutation, Leads, WriteIds, held_without, live_without}
use Rattle.cert_judge.proofs.DrupLines.{AreFull, IsNext, full, line_texts, texts}
use Rattle.cert_judge.proofs.CertLines as upto
use Rattle.cert_judge.proofs.CertLines.{Upto, names_more, names_remark, one_byte, unknown_words, upto_as, upto_cut, upto_later, upto_now, writes_more, writes_nothing}

-- nothing is said, or a fault
abbrev Nothing : List LratSaying → Type 0
Nothing said = (said ≡ []) ⊎ ((k : ParseFaultKind) × (n : ℕ) × (said ≡ bad k n))

-- a clause's literals say nothing by themselves
pub none_heard : (lits : List LitOf) → flat_map (heard_says ClauseList) lits ≡ []
none_heard [] = refl
none_heard (l ∷ lits) = none_heard lits

module _ (vars : ℕ) (kind : LitList) (counted : Bool) (broken going more : List LratSaying) (place id : ℕ) where
  -- what the words of a list of literals, which are all these, say: its literals, and then nothing, what is said without a 0, or what its 0 says
  record Listed (all : List (List ℕ)) (lits : List LitOf) (said : List LratSaying) : Type 0 where
    pub new : List LitOf
    pub got : List LitOf
    pub tail : List LratSaying
    pub gets : got ≡ lits ++ new
    pub are : said ≡ flat_map (heard_says kind) new ++ tail
    pub ends : Nothing tail
        ⊎ ((tail ≡ unended_says kind broken going) × Writes vars all got × (length got ≤ vars))
        ⊎ ((front : List (List ℕ)) × (rest : List Word) × (done : Bool) × (tail ≡ lits_ended kind done counted broken more place id got rest) × (all ≡ front ++ codes "0" ∷ texts rest) × AreFull rest
        × Writes vars front got × (length got ≤ vars))

  nothing : (all : List (List ℕ)) (lits : List LitOf) (said : List LratSaying) → Nothing said → Listed all lits said
  nothing all lits said n = record { new = []; got = lits; tail = said; gets = sym (append-nil lits); are = refl; ends = inl n }

  word_listed : (all before : List (List ℕ)) (lits : List LitOf) (w : Word) (ws : List Word) (s : Scanned Part) → all ≡ before ++ texts (w ∷ ws) → w.text ≢ [] → AreFull ws → Writes vars before lits
      → length lits ≤ vars → IsRead vars (leb vars (length lits)) w.text s
      → ((l : LitOf) → literal_of vars w.text ≡ Some l → length lits + 1 ≤ vars → Listed all (lits ++ l ∷ []) (lits_say vars kind counted broken going more place id (lits ++ l ∷ []) ws))
      → Listed all lits (lit_word_says vars kind counted broken going more place id lits s w ws)
  word_listed all before lits w ws (Misfit k n) e f g h l r again = nothing all lits (bad k (w.place + n)) (inr (k, w.place + n, refl))
  word_listed all before lits w ws (Reads Gap) e f g h l r again = absurd (f r)
  word_listed all before lits w ws (Reads Minus) e f g h l r again =
      elim (cases_Bool w.done) [
        | inl t ↦ rw t (nothing all lits (bad BadLiteral (w.place + length w.text)) (inr (BadLiteral, w.place + length w.text, refl)))
        | inr t ↦ rw t (nothing all lits [] (inl refl))
      ]
  word_listed all before lits w ws (Reads Zero) e f g h l r again =
      record {
        new = [];
        got = lits;
        tail = lits_ended kind w.done counted broken more place id lits ws;
        gets = sym (append-nil lits);
        are = refl;
        ends = inr (inr (before, ws, w.done, refl, e ∙ ap (λ z. before ++ z ∷ texts ws) r, g, h, l));
      }
  word_listed all before lits w ws (Reads (Digits m)) e f g h l (n, r) again =
      elim (cases_Bool w.done) [
        | inl t ↦
            let k = again m r (let b = leb-false vars (length lits) n in omega (arith, b)) in
            rw t (record {
              new = m ∷ k.new;
              got = k.got;
              tail = k.tail;
              gets = k.gets ∙ append_assoc lits (m ∷ []) k.new;
              are = ap (λ z. heard_says kind m ++ z) k.are ∙ sym (append_assoc (heard_says kind m) (flat_map (heard_says kind) k.new) k.tail);
              ends = k.ends;
            })
        | inr t ↦ rw t (nothing all lits [] (inl refl))
      ]

  list_listed : (all before : List (List ℕ)) (lits : List LitOf) (ws : List Word) → all ≡ before ++ texts ws → AreFull ws → Writes vars before lits → length lits ≤ vars
      → Listed all lits (lits_say vars kind counted broken going more place id lits ws)
  list_listed all before lits [] e f h l =
      record {
        new = [];
        got = lits;
        tail = unended_says kind broken going;
        gets = sym (append-nil lits);
        are = refl;
        ends = inr (inl (refl, subst (λ z. Writes vars z lits) (sym (e ∙ append-nil before)) h, l));
      }
  list_listed all before lits (w ∷ ws) e f h l =
      word_listed all before lits w ws (scan vars (leb vars (length lits)) Gap w.text) e f.0 f.1 h l (word_read vars (leb vars (length lits)) w.text)
      (λ m r n. list_listed all (before ++ w.text ∷ []) (lits ++ m ∷ []) ws (e ∙ sym (append_assoc before (w.text ∷ []) (texts ws))) f.1 (writes_more vars before lits w.text m h r)
      (let k = length_push lits m in omega (arith, n, k)))

-- a word of a list of ids is one, or has a minus
abbrev IsHintWord : IdList → List ℕ → Hint → Type 0
IsHintWord kind text h = ((h.negated ≡ false) × (id_of text ≡ Some h.id)) ⊎ ((h.negated ≡ true) × (takes_minus kind ≡ true))

abbrev WriteHints : IdList → List (List ℕ) → List Hint → Type 0
WriteHints kind [] hints = hints ≡ []
WriteHints kind (w ∷ ws) [] = ⊥
WriteHints kind (w ∷ ws) (h ∷ hs) = IsHintWord kind w h × WriteHints kind ws hs

hints_more : (kind : IdList) (front : List (List ℕ)) (hs : List Hint) (w : List ℕ) (h : Hint) → WriteHints kind front hs → IsHintWord kind w h → WriteHints kind (front ++ w ∷ []) (hs ++ h ∷ [])
hints_more kind [] [] w h n k = (k, refl)
hints_more kind [] (i ∷ hs) w h n k = cc
hints_more kind (v ∷ front) [] w h n k = absurd n
hints_more kind (v ∷ front) (i ∷ hs) w h n k = (n.0, hints_more kind front hs w h n.1 k)

-- without a minus they are ids
abbrev AreGood : Live → List Hint → Type 0
AreGood live [] = Unit {0}
AreGood live (h ∷ hs) = (h.negated ≡ false) × (is_some (live h.id) ≡ true) × AreGood live hs

good_is : (live : Live) (h : Hint) → is_good live h ≡ true → (h.negated ≡ false) × (is_some (live h.id) ≡ true)
good_is live h e = of h.negated (is_some (live h.id)) e
  where
    of : (n s : Bool) → (not n && s) ≡ true → (n ≡ false) × (s ≡ true)
    of true s e = cc
    of false s e = (refl, e)

all_good : (live : Live) (hs : List Hint) → first_bad live hs ≡ None → AreGood live hs
all_good live [] e = tt
all_good live (h ∷ hs) e =
    elim (cases_Bool (is_good live h)) [
      | inl t ↦ let g = good_is live h t in (g.0, g.1, all_good live hs (rw t at e))
      | inr f ↦ absurd (let k : Some h ≡ None = rw f at e in cc)
    ]

some_clause : (o : Option (List LitOf)) → is_some o ≡ true → (c : List LitOf) × (o ≡ Some c)
some_clause None e = cc
some_clause (Some c) e = (c, refl)

good_live : (live : Live) (hs : List Hint) → AreGood live hs → AreLive live (ids_of hs)
good_live live [] h = All-nil (λ id. (c : List LitOf) × (live id ≡ Some c))
good_live live (i ∷ hs) (n, s, h) = All-cons (λ id. (c : List LitOf) × (live id ≡ Some c)) i.id (ids_of hs) (some_clause (live i.id) s) (good_live live hs h)

good_ids : (live : Live) (front : List (List ℕ)) (hs : List Hint) → AreGood live hs → WriteHints Hints front hs → WriteIds front (ids_of hs)
good_ids live [] [] g h = refl
good_ids live [] (i ∷ hs) g h = cc
good_ids live (w ∷ front) [] g h = absurd h
good_ids live (w ∷ front) (i ∷ hs) (n, s, g) (inl k, h) = (k.1, good_ids live front hs g h)
good_ids live (w ∷ front) (i ∷ hs) (n, s, g) (inr k, h) = absurd (let q : false ≡ true = sym n ∙ k.0 in cc)

deleted_ids : (front : List (List ℕ)) (hs : List Hint) → WriteHints Deletion front hs → WriteIds front (ids_of hs)
deleted_ids [] [] h = refl
deleted_ids [] (i ∷ hs) h = cc
deleted_ids (w ∷ front) [] h = absurd h
deleted_ids (w ∷ front) (i ∷ hs) (inl k, h) = (k.1, deleted_ids front hs h)
deleted_ids (w ∷ front) (i ∷ hs) (inr k, h) = absurd (let q : false ≡ true = k.1 in cc)

count_ids : (hs : List Hint) → length (ids_of hs) ≡ length hs
count_ids [] = refl
count_ids (h ∷ hs) = ap suc (count_ids hs)

pub without_ids : (live : Live) (hs : List Hint) → without live hs ≡ live_without live (ids_of hs)
without_ids live [] = refl
without_ids live (h ∷ hs) = without_ids (put live h.id None) hs

module _ (kind : IdList) (counted : Bool) (broken more : List LratSaying) (place id : ℕ) (lits : List LitOf) where
  -- what the words of a list of ids, which are all these, say: nothing, what is said without a 0, or what its 0 says
  record IdsListed (all : List (List ℕ)) (said : List LratSaying) : Type 0 where
    pub got : List Hint
    pub ends : Nothing said
        ⊎ (said ≡ broken)
        ⊎ ((front : List (List ℕ)) × (rest : List Word) × (said ≡ ids_ended kind place id lits got ∷ after_says more rest) × (all ≡ front ++ codes "0" ∷ texts rest) × WriteHints kind front got
        × (length got ≤ most_hints))

  no_ids : (all : List (List ℕ)) (said : List LratSaying) → Nothing said → IdsListed all said
  no_ids all said n = record { got = []; ends = inl n }

  id_word_listed : (all before : List (List ℕ)) (hs : List Hint) (w : Word) (ws : List Word) (s : Scanned IdPart) → all ≡ before ++ texts (w ∷ ws) → w.text ≢ [] → WriteHints kind before hs
      → length hs ≤ most_hints → scan_by (part_next kind (leb most_hints (length hs)) w.place) IdGap w.text ≡ s
      → ((h : Hint) → IsHintWord kind w.text h → length hs + 1 ≤ most_hints → IdsListed all (ids_say kind counted broken more place id lits (hs ++ h ∷ []) ws))
      → IdsListed all (id_word_says kind counted broken more place id lits hs s w ws)
  id_word_listed all before hs w ws (Misfit k n) e f h l r again = no_ids all (bad k (w.place + n)) (inr (k, w.place + n, refl))
  id_word_listed all before hs w ws (Reads IdGap) e f h l r again = absurd (f (word_is kind (leb most_hints (length hs)) w.place w.text IdGap r))
  id_word_listed all before hs w ws (Reads (IdMinus at)) e f h l r again =
      elim (cases_Bool w.done) [
        | inl t ↦ rw t (no_ids all (bad BadLiteral (w.place + length w.text)) (inr (BadLiteral, w.place + length w.text, refl)))
        | inr t ↦ rw t (no_ids all [] (inl refl))
      ]
  id_word_listed all before hs w ws (Reads IdZero) e f h l r again =
      let z : w.text ≡ codes "0" = word_is kind (leb most_hints (length hs)) w.place w.text IdZero r in
      elim (cases_Bool (w.done || counted)) [
        | inl t ↦ rw t (record { got = hs; ends = inr (inr (before, ws, refl, e ∙ ap (λ z. before ++ z ∷ texts ws) z, h, l)) })
        | inr t ↦ rw t (no_ids all [] (inl refl))
      ]
  id_word_listed all before hs w ws (Reads (IdDigits i)) e f h l r again =
      let k = word_is kind (leb most_hints (length hs)) w.place w.text (IdDigits i) r in
      let room : length hs + 1 ≤ most_hints = (let b = leb-false most_hints (length hs) k.0 in omega (arith, b)) in
      elim (cases_Bool w.done) [
        | inl t ↦ rw t (again i (elim k.2 [ inl m ↦ inl m | inr m ↦ inr (m.0, m.1) ]) room)
        | inr t ↦ rw t (no_ids all [] (inl refl))
      ]

  ids_listed : (all before : List (List ℕ)) (hs : List Hint) (ws : List Word) → all ≡ before ++ texts ws → AreFull ws → WriteHints kind before hs → length hs ≤ most_hints
      → IdsListed all (ids_say kind counted broken more place id lits hs ws)
  ids_listed all before hs [] e f h l = record { got = hs; ends = inr (inl refl) }
  ids_listed all before hs (w ∷ ws) e f h l =
      id_word_listed all before hs w ws (scan_by (part_next kind (leb most_hints (length hs)) w.place) IdGap w.text) e f.0 h l refl
      (λ i k n. ids_listed all (before ++ w.text ∷ []) (hs ++ i ∷ []) ws (e ∙ sym (append_assoc before (w.text ∷ []) (texts ws))) f.1 (hints_more kind before hs w.text i h k)
      (let k = length_push hs i in omega (arith, n, k)))

module _ (vars : ℕ) (C : List (List LitOf)) where
  abbrev NameLines : Assignment → List (List (List ℕ)) → Type 0
  NameLines x ls = upto.NameLines vars C x ls

  -- lines that are a certificate
  abbrev CertLines : Assignment → Held → Answer → List (List (List ℕ)) → Type 0
  CertLines x F Unsat ls = (proof : List (List (List ℕ))) × (last : List (List ℕ)) × (G : Held) × (ls ≡ proof ++ last ∷ []) × Leads vars proof F G × IsRefutation vars last G
  CertLines x F Sat ls =
      (proof : List (List (List ℕ))) × (last : List (List (List ℕ))) × (G : Held) × (values : List LitOf)
      × (ls ≡ proof ++ last) × Leads vars proof F G × Names vars last values × Satisfies (named_from x values) C

  names_cert : (x : Assignment) (F : Held) (a : Answer) (ls : List (List (List ℕ))) → a ≡ Sat → NameLines x ls → CertLines x F a ls
  names_cert x F Unsat ls e n = cc
  names_cert x F Sat ls e (values, n, s) = ([], ls, F, values, refl, refl, n, s)

  cert_step : (x : Assignment) (F H : Held) (a : Answer) (ws : List (List ℕ)) (ls : List (List (List ℕ)))
      → ((G : Held) (ps : List (List (List ℕ))) → Leads vars ps H G → Leads vars (ws ∷ ps) F G) → CertLines x H a ls → CertLines x F a (ws ∷ ls)
  cert_step x F H Unsat ws ls step (proof, last, G, e, k, d) = (ws ∷ proof, last, G, ap (λ z. ws ∷ z) e, step G proof k, d)
  cert_step x F H Sat ws ls step (proof, last, G, values, e, k, n, s) = (ws ∷ proof, last, G, values, ap (λ z. ws ∷ z) e, step G proof k, n, s)

  last_cert : (x : Assignment) (F : Held) (a : Answer) (last : List (List ℕ)) → a ≡ Unsat → IsRefutation vars last F → CertLines x F a (last ∷ [])
  last_cert x F Unsat last e d = ([], last, F, refl, refl, d)
  last_cert x F Sat last e d = cc

  module _ (a : Answer) where
    abbrev Finds : Held → Assignment → List LratSaying → Type 0
    Finds F x ss = SayingsFate C F x ss (Some (Found a))

    abbrev NamesUpto : Assignment → List (List ℕ) → Type 0
    NamesUpto x ls = (a ≡ Sat) × Upto (NameLines x) ls

    abbrev CertUpto : Assignment → Held → List (List ℕ) → Type 0
    CertUpto x F ls = Upto (CertLines x F a) ls

    nothing_found : (F : Held) (x : Assignment) (ss : List LratSaying) → Nothing ss → Finds F x ss → ⊥
    nothing_found F x ss (inl e) h = let k = subst (λ (z : List LratSaying). Finds F x z) e h in cc
    nothing_found F x ss (inr (kind, n, e)) h = let k = subst (λ (z : List LratSaying). Finds F x z) e h in cc

    fault_found : (F : Held) (x : Assignment) (kind : ParseFaultKind) (n : ℕ) → Finds F x (bad kind n) → ⊥
    fault_found F x kind n h = cc

    after_found : (F : Held) (x : Assignment) (rest : List Word) (more : List LratSaying) → Finds F x (after_says more rest) → (rest ≡ []) × Finds F x more
    after_found F x [] more h = (refl, h)
    after_found F x (w ∷ rest) more h = absurd (fault_found F x BadLine w.place h)

    named_back : (F : Held) (x : Assignment) (lits : List LitOf) (ss : List LratSaying) → Finds F x (flat_map (heard_says ValuesList) lits ++ ss) → Finds F (named_from x lits) ss
    named_back F x [] ss h = h
    named_back F x (l ∷ lits) ss h = named_back F (named x l) lits ss h

    good_hints : (o : Option Hint) (A : Type 0) → ByHints o A (Some (Found a)) → (o ≡ None) × A
    good_hints None A h = (refl, h)
    good_hints (Some i) A h = absurd (let q = h in cc)

    -- a line, and the lines after it
    module _ (counted : Bool) (F : Held) (x : Assignment) (t : List ℕ) (ls : List (List ℕ)) (broken going more : List LratSaying)
        (amid : (y : Assignment) → Finds F y going → NamesUpto y ls) where
      -- a line of values
      module _ (place id : ℕ) (vs : List Word) (v : words t ≡ codes "v" ∷ texts vs) (said : List LratSaying) (k : Listed vars ValuesList counted broken going more place id (texts vs) [] said) (h : Finds F x said) where
        values_now : Finds F (named_from x k.got) k.tail
        values_now = subst (λ z. Finds F (named_from x z) k.tail) (sym k.gets) (named_back F x k.new k.tail (subst (λ (z : List LratSaying). Finds F x z) k.are h))

        values_end : (front : List (List ℕ)) (rest : List Word) → texts vs ≡ front ++ codes "0" ∷ texts rest → Writes vars front k.got → length k.got ≤ vars
            → SayingsFate C F (named_from x k.got) (IsValuesEnd ∷ after_says more rest) (Some (Found a)) → NamesUpto x (t ∷ ls)
        values_end front rest e w l (inl (s, q)) = (
          (let g : a ≡ Sat = cc in g),
          upto_now (NameLines x) t ls (codes "v" ∷ front) (texts rest) (v ∙ ap (λ z. codes "v" ∷ z) e) (k.got, (front ++ codes "0" ∷ [], refl, (front, refl, w, l)), s),
        )
        values_end front rest e w l (inr (n, s, q)) = cc

        values_zero : (done : Bool) (front : List (List ℕ)) (rest : List Word) → texts vs ≡ front ++ codes "0" ∷ texts rest → Writes vars front k.got → length k.got ≤ vars
            → Finds F (named_from x k.got) (lits_ended ValuesList done counted broken more place id k.got rest) → NamesUpto x (t ∷ ls)
        values_zero done front rest e w l n =
            elim (cases_Bool (done || counted)) [
              | inl c ↦ values_end front rest e w l (rw c at n)
              | inr c ↦ absurd (nothing_found F (named_from x k.got) [] (inl refl) (rw c at n))
            ]

        values_upto : NamesUpto x (t ∷ ls)
        values_upto =
            elim k.ends [
              | inl n ↦ absurd (nothing_found F (named_from x k.got) k.tail n values_now)
              | inr r ↦ elim r [
                | inl (e, w, l) ↦
                    let n = amid (named_from x k.got) (subst (λ (z : List LratSaying). Finds F (named_from x k.got) z) e values_now) in
                    (n.0, upto_later (NameLines x) (NameLines (named_from x k.got)) t ls (λ us m. names_more vars C x (words t) us (texts vs) k.got v w l m) n.1)
                | inr (front, rest, done, e, q, f, w, l) ↦ values_zero done front rest q w l (subst (λ (z : List LratSaying). Finds F (named_from x k.got) z) e values_now)
              ]
            ]

      values_line : (place id : ℕ) (vs : List Word) → words t ≡ codes "v" ∷ texts vs → AreFull vs → Finds F x (lits_say vars ValuesList counted broken going more place id [] vs) → NamesUpto x (t ∷ ls)
      values_line place id vs v f h =
          values_upto place id vs v (lits_say vars ValuesList counted broken going more place id [] vs) (list_listed vars ValuesList counted broken going more place id (texts vs) [] [] vs refl f refl (omega arith)) h

      alone_found : (w : Word) (ss : List LratSaying) → Finds F x (alone w ss) → (eqb (length w.text) 1 ≡ true) × Finds F x ss
      alone_found w ss h = elim (cases_Bool (eqb (length w.text) 1)) [ inl t ↦ (t, rw t at h) | inr f ↦ absurd (fault_found F x BadLine (w.place + 1) (rw f at h)) ]

      values_first : (w : Word) (vs : List Word) → texts (w ∷ vs) ≡ words t → AreFull (w ∷ vs) → eqb (slice_index w.text 0) 118 ≡ true
          → Finds F x (alone w (lits_say vars ValuesList counted broken going more w.place 0 [] vs)) → NamesUpto x (t ∷ ls)
      values_first w vs e f b h =
          let k = alone_found w (lits_say vars ValuesList counted broken going more w.place 0 [] vs) h in
          values_line w.place 0 vs (sym e ∙ ap (λ z. z ∷ texts vs) (one_byte w.text 118 b k.0)) f.1 k.1

      -- a remark, amid values
      amid_line : (ws : List Word) → texts ws ≡ words t → AreFull ws → Finds F x (line_says vars counted true broken going more ws) → NamesUpto x (t ∷ ls)
      amid_line [] e f h =
          let n = amid x h in
          (n.0, upto_later (NameLines x) (NameLines x) t ls (λ us m. names_remark vars C x (words t) us (subst IsRemark e tt) m) n.1)
      amid_line (w ∷ vs) e f h =
          elim (cases_Bool (eqb (slice_index w.text 0) 99)) [
            | inl c ↦
                let g : Finds F x going = rw c at h in
                let n = amid x g in
                (n.0, upto_later (NameLines x) (NameLines x) t ls (λ us m. names_remark vars C x (words t) us (subst IsRemark e (eqb-true (slice_index w.text 0) 99 c)) m) n.1)
            | inr c ↦ elim (cases_Bool (eqb (slice_index w.text 0) 118)) [
              | inl v ↦ values_first w vs e f v (rw (c, v) at h)
              | inr v ↦ absurd (fault_found F x BadLine w.place (rw (c, v) at h))
            ]
          ]

      -- a line of a proof
      module _ (breaks : Nothing broken) (later : (H : Held) → Finds H x more → CertUpto x H ls) where
        cert_of_names : NamesUpto x (t ∷ ls) → CertUpto x F (t ∷ ls)
        cert_of_names n = upto_as (CertLines x F a) (NameLines x) (t ∷ ls) (λ us m. names_cert x F a us n.0 m) n.1

        idle : IsIdle (words t) → Finds F x more → CertUpto x F (t ∷ ls)
        idle i h = upto_later (CertLines x F a) (CertLines x F a) t ls (λ us m. cert_step x F F a (words t) us (λ G ps k. inl (i, k)) m) (later F h)

        -- a hinted line, whose own id is that of the word o
        module _ (o : List ℕ) (id : ℕ) (named : id_of o ≡ Some id) where
          deletion_end : (got : List Hint) (front : List (List ℕ)) (vs rest : List Word) → words t ≡ o ∷ codes "d" ∷ texts vs → texts vs ≡ front ++ codes "0" ∷ texts rest → WriteHints Deletion front got
              → length got ≤ most_hints → Finds (deleted F got) x (after_says more rest) → CertUpto x F (t ∷ ls)
          deletion_end got front vs rest v e w l k =
              let b = after_found (deleted F got) x rest more k in
              let q : texts vs ≡ front ++ codes "0" ∷ [] = e ∙ ap (λ z. front ++ codes "0" ∷ texts z) b.0 in
              let n : length (ids_of got) ≤ most_hints = subst (λ z. z ≤ most_hints) (sym (count_ids got)) l in
              let line : IsDeletionLine (words t) (ids_of got) = (o, id, texts vs, v, named, (front, q, deleted_ids front got w, n)) in
              let same : deleted F got ≡ held_without F (ids_of got) = ap (λ z. record { live = z; last = F.last }) (without_ids F.live got) in
              upto_later (CertLines x F a) (CertLines x (deleted F got) a) t ls
              (λ us r. cert_step x F (deleted F got) a (words t) us (λ G ps g. inr (inr (ids_of got, line, subst (λ H. Leads vars ps H G) same g))) r) (later (deleted F got) b.1)

          deletion_upto : (place : ℕ) (vs : List Word) → words t ≡ o ∷ codes "d" ∷ texts vs → (said : List LratSaying) → IdsListed Deletion counted broken more place id [] (texts vs) said → Finds F x said
              → CertUpto x F (t ∷ ls)
          deletion_upto place vs v said k h =
              elim k.ends [
                | inl n ↦ absurd (nothing_found F x said n h)
                | inr r ↦ elim r [
                  | inl e ↦ absurd (nothing_found F x broken breaks (subst (λ (z : List LratSaying). Finds F x z) e h))
                  | inr (front, rest, e, q, w, l) ↦ deletion_end k.got front vs rest v q w l (subst (λ (z : List LratSaying). Finds F x z) e h)
                ]
              ]

          -- a clause: its literals c, and its hints
          module _ (c : List LitOf) (front hints : List (List ℕ)) (rest : List Word) (got : List Hint) (e : words t ≡ o ∷ ((front ++ codes "0" ∷ []) ++ (hints ++ codes "0" ∷ texts rest))) (w : Writes vars front c)
              (l : length c ≤ vars) (n : length got ≤ most_hints) (good : AreGood F.live got) (above : F.last < id) (wrote : WriteHints Hints hints got) where
            are_ids : AreIds (hints ++ codes "0" ∷ []) (ids_of got)
            are_ids = (hints, refl, good_ids F.live hints got good wrote, subst (λ z. z ≤ most_hints) (sym (count_ids got)) n)

            clause_line : (ws : List (List ℕ)) → ws ≡ o ∷ ((front ++ codes "0" ∷ []) ++ (hints ++ codes "0" ∷ [])) → IsClauseLine vars ws id c (ids_of got)
            clause_line ws q = (o, front ++ codes "0" ∷ [], hints ++ codes "0" ∷ [], q, named, (front, refl, w, l), are_ids)

            admitted_as : IsHinted F.live c (ids_of got) → IsAdmittedAs F id c (ids_of got)
            admitted_as h = (above, good_live F.live got good, h)

            refuting : a ≡ Unsat → IsHinted F.live c (ids_of got) → c ≡ [] → CertUpto x F (t ∷ ls)
            refuting unsat admitted z =
                let all : List (List ℕ) = o ∷ ((front ++ codes "0" ∷ []) ++ hints) in
                let q : words t ≡ all ++ codes "0" ∷ texts rest = e ∙ ap (λ k. o ∷ k) (sym (append_assoc (front ++ codes "0" ∷ []) hints (codes "0" ∷ texts rest))) in
                let line : IsClauseLine vars (all ++ codes "0" ∷ []) id c (ids_of got) = clause_line (all ++ codes "0" ∷ []) (ap (λ k. o ∷ k) (append_assoc (front ++ codes "0" ∷ []) hints (codes "0" ∷ []))) in
                let last : IsRefutation vars (all ++ codes "0" ∷ []) F =
                (id, ids_of got, subst (λ k. IsClauseLine vars (all ++ codes "0" ∷ []) id k (ids_of got)) z line, subst (λ k. IsAdmittedAs F id k (ids_of got)) z (admitted_as admitted)) in
                upto_now (CertLines x F a) t ls all (texts rest) q (last_cert x F a (all ++ codes "0" ∷ []) unsat last)

            clause_end : (place : ℕ) → HintsFate F.live c got place (Finds (added F id c) x (after_says more rest)) (Some (Found a)) → CertUpto x F (t ∷ ls)
            clause_end place (inl (d, z, k)) = refuting (let g : a ≡ Unsat = cc in g) d z
            clause_end place (inr (inl (d, z, k))) =
                let b = after_found (added F id c) x rest more k in
                let q : words t ≡ o ∷ ((front ++ codes "0" ∷ []) ++ (hints ++ codes "0" ∷ [])) = e ∙ ap (λ z. o ∷ ((front ++ codes "0" ∷ []) ++ (hints ++ codes "0" ∷ texts z))) b.0 in
                upto_later (CertLines x F a) (CertLines x (added F id c) a) t ls
                (λ us r. cert_step x F (added F id c) a (words t) us (λ G ps g. inr (inl (id, c, ids_of got, clause_line (words t) q, z, admitted_as d, g))) r) (later (added F id c) b.1)
            clause_end place (inr (inr (d, k))) = cc

          clause_hints : (place : ℕ) (c : List LitOf) (front hints : List (List ℕ)) (rest : List Word) (got : List Hint) → words t ≡ o ∷ ((front ++ codes "0" ∷ []) ++ (hints ++ codes "0" ∷ texts rest)) → Writes vars front c
              → length c ≤ vars → length got ≤ most_hints → WriteHints Hints hints got → SayingsFate C F x (IsClause id c got place ∷ after_says more rest) (Some (Found a)) → CertUpto x F (t ∷ ls)
          clause_hints place c front hints rest got e w l n wrote (inl (i, k)) = cc
          clause_hints place c front hints rest got e w l n wrote (inr (i, k)) =
              let g = good_hints (first_bad F.live got) (HintsFate F.live c got place (Finds (added F id c) x (after_says more rest)) (Some (Found a))) k in
              clause_end c front hints rest got e w l n (all_good F.live got g.0) i wrote place g.1

          hints_upto : (place : ℕ) (c : List LitOf) (front : List (List ℕ)) (us : List Word) → words t ≡ o ∷ (front ++ codes "0" ∷ texts us) → Writes vars front c → length c ≤ vars
              → (said : List LratSaying) → IdsListed Hints counted broken more place id c (texts us) said → Finds F x said → CertUpto x F (t ∷ ls)
          hints_upto place c front us v w l said k h =
              elim k.ends [
                | inl n ↦ absurd (nothing_found F x said n h)
                | inr r ↦ elim r [
                  | inl e ↦ absurd (nothing_found F x broken breaks (subst (λ (z : List LratSaying). Finds F x z) e h))
                  | inr (hints, rest, e, q, wrote, n) ↦
                      let m : words t ≡ o ∷ ((front ++ codes "0" ∷ []) ++ (hints ++ codes "0" ∷ texts rest)) =
                      v ∙ ap (λ z. o ∷ (front ++ codes "0" ∷ z)) q ∙ ap (λ z. o ∷ z) (sym (append_assoc front (codes "0" ∷ []) (hints ++ codes "0" ∷ texts rest))) in
                      clause_hints place c front hints rest k.got m w l n wrote (subst (λ (z : List LratSaying). Finds F x z) e h)
                ]
              ]

          clause_zero : (place : ℕ) (done : Bool) (c : List LitOf) (front : List (List ℕ)) (us : List Word) → words t ≡ o ∷ (front ++ codes "0" ∷ texts us) → AreFull us → Writes vars front c → length c ≤ vars
              → Finds F x (lits_ended ClauseList done counted broken more place id c us) → CertUpto x F (t ∷ ls)
          clause_zero place false c front us v f w l h = absurd (nothing_found F x [] (inl refl) h)
          clause_zero place true c front us v f w l h =
              hints_upto place c front us v w l (ids_say Hints counted broken more place id c [] us) (ids_listed Hints counted broken more place id c (texts us) [] [] us refl f refl (omega arith)) h

          clause_upto : (place : ℕ) (vs : List Word) → words t ≡ o ∷ texts vs → (said : List LratSaying) → Listed vars ClauseList counted broken [] more place id (texts vs) [] said → Finds F x said
              → CertUpto x F (t ∷ ls)
          clause_upto place vs v said k h =
              let now : Finds F x k.tail = subst (λ (z : List LratSaying). Finds F x z) (k.are ∙ ap (λ z. z ++ k.tail) (none_heard k.new)) h in
              elim k.ends [
                | inl n ↦ absurd (nothing_found F x k.tail n now)
                | inr r ↦ elim r [
                  | inl (e, w, l) ↦ absurd (nothing_found F x broken breaks (subst (λ (z : List LratSaying). Finds F x z) e now))
                  | inr (front, rest, done, e, q, f, w, l) ↦ clause_zero place done k.got front rest (v ∙ ap (λ z. o ∷ z) q) f w l (subst (λ (z : List LratSaying). Finds F x z) e now)
                ]
              ]

          named_line : (place : ℕ) (vs : List Word) → words t ≡ o ∷ texts vs → AreFull vs → Finds F x (named_says vars counted broken more place id vs) → CertUpto x F (t ∷ ls)
          named_line place [] v f h = absurd (nothing_found F x broken breaks h)
          named_line place (w ∷ vs) v f h =
              elim (cases_Bool (eqb (slice_index w.text 0) 100)) [
                | inl d ↦
                    let k = alone_found w (ids_say Deletion counted broken more place id [] [] vs) (rw d at h) in
                    deletion_upto place vs (v ∙ ap (λ z. o ∷ z ∷ texts vs) (one_byte w.text 100 d k.0)) (ids_say Deletion counted broken more place id [] [] vs)
                    (ids_listed Deletion counted broken more place id [] (texts vs) [] [] vs refl f.1 refl (omega arith)) k.1
                | inr d ↦ clause_upto place (w ∷ vs) v (lits_say vars ClauseList counted broken [] more place id [] (w ∷ vs))
                    (list_listed vars ClauseList counted broken [] more place id (texts (w ∷ vs)) [] [] (w ∷ vs) refl f refl (omega arith)) (rw d at h)
              ]

        own_line : (w : Word) (vs : List Word) → texts (w ∷ vs) ≡ words t → AreFull (w ∷ vs) → (s : Scanned ℕ) → scan_by own_next 0 w.text ≡ s
            → Finds F x (elim s as (λ _. List LratSaying) [ Misfit k n ↦ bad k (w.place + n) | Reads id ↦ cond w.done (named_says vars counted broken more w.place id vs) [] ]) → CertUpto x F (t ∷ ls)
        own_line w vs e f (Misfit k n) r h = absurd (fault_found F x k (w.place + n) h)
        own_line w vs e f (Reads id) r h =
            elim (cases_Bool w.done) [
              | inl d ↦ named_line w.text id (own_read w.text id f.0 r) w.place vs (sym e) f.1 (rw d at h)
              | inr d ↦ absurd (nothing_found F x [] (inl refl) (rw d at h))
            ]

        module _ (whole : counted ≡ false → Finds F x more → ⊥) where
          unknown_found : (ss : List LratSaying) → Finds F x (IsUnknown ∷ ss) → ⊥
          unknown_found ss h = cc

          status_line : (w : Word) (vs : List Word) → texts (w ∷ vs) ≡ words t → w.text ≡ codes "s" → Finds F x (status_says counted more vs) → CertUpto x F (t ∷ ls)
          status_line w vs e s h =
              elim (cases_Bool (is_unknown vs)) [
                | inl u ↦ elim (cases_Bool counted) [
                  | inl c ↦ absurd (unknown_found more (rw (u, c) at h))
                  | inr c ↦ absurd (whole c (rw (u, c) at h))
                ]
                | inr u ↦ idle (subst IsIdle e (inr (s, λ q. let k = unknown_words vs q in let m = sym u ∙ k in cc))) (rw u at h)
              ]

          plain_line : (w : Word) (vs : List Word) → texts (w ∷ vs) ≡ words t → AreFull (w ∷ vs) → Finds F x (plain_says vars counted broken more (slice_index w.text 0) w vs) → CertUpto x F (t ∷ ls)
          plain_line w vs e f h =
              elim (cases_Bool (eqb (slice_index w.text 0) 115)) [
                | inl s ↦ let k = alone_found w (status_says counted more vs) (rw s at h) in status_line w vs e (one_byte w.text 115 s k.0) k.1
                | inr s ↦ elim (cases_Bool (is_digit (slice_index w.text 0))) [
                  | inl d ↦ own_line w vs e f (scan_by own_next 0 w.text) refl (rw (s, d) at h)
                  | inr d ↦ absurd (fault_found F x BadLine w.place (rw (s, d) at h))
                ]
              ]

          one_line : (ws : List Word) → texts ws ≡ words t → AreFull ws → Finds F x (line_says vars counted false broken going more ws) → CertUpto x F (t ∷ ls)
          one_line [] e f h = idle (subst IsIdle e tt) h
          one_line (w ∷ vs) e f h =
              elim (cases_Bool (eqb (slice_index w.text 0) 99)) [
                | inl c ↦ idle (subst IsIdle e (inl (eqb-true (slice_index w.text 0) 99 c))) (rw c at h)
                | inr c ↦ elim (cases_Bool (eqb (slice_index w.text 0) 118)) [
                  | inl v ↦ cert_of_names (values_first w vs e f v (rw (c, v) at h))
                  | inr v ↦ plain_line w vs e f (rw (c, v) at h)
                ]
              ]

    none : (F : Held) (x : Assignment) → Finds F x [] → ⊥
    none F x h = nothing_found F x [] (inl refl) h

    amid_names : (ended : Bool) (at : ℕ) (F : Held) (x : Assignment) (ls : List (List ℕ)) → Finds F x (lines_say vars ended true at ls) → NamesUpto x ls
    amid_names ended at F x [] h = absurd (none F x h)
    amid_names ended at F x (t ∷ []) h =
        amid_line ended F x t [] [] [] [] (λ y k. absurd (none F y k)) (words_from false at [] t) (line_texts false at t) (full false at [] t) h
    amid_names ended at F x (t ∷ u ∷ ts) h =
        amid_line true F x t (u ∷ ts) (bad BadLine (at + length t)) (lines_say vars ended true (at + length t + 1) (u ∷ ts)) (lines_say vars ended false (at + length t + 1) (u ∷ ts))
        (λ y k. amid_names ended (at + length t + 1) F y (u ∷ ts) k) (words_from true at [] t) (line_texts true at t) (full true at [] t) h

    comes_upto : (ended : Bool) (at : ℕ) (F : Held) (x : Assignment) (ls : List (List ℕ)) → Finds F x (lines_say vars ended false at ls) → CertUpto x F ls
    comes_upto ended at F x [] h = absurd (none F x h)
    comes_upto ended at F x (t ∷ []) h =
        one_line ended F x t [] [] [] [] (λ y k. absurd (none F y k)) (inl refl) (λ H k. absurd (none H x k)) (λ c k. none F x k) (words_from false at [] t) (line_texts false at t) (full false at [] t) h
    comes_upto ended at F x (t ∷ u ∷ ts) h =
        one_line true F x t (u ∷ ts) (bad BadLine (at + length t)) (lines_say vars ended true (at + length t + 1) (u ∷ ts)) (lines_say vars ended false (at + length t + 1) (u ∷ ts))
        (λ y k. amid_names ended (at + length t + 1) F y (u ∷ ts) k) (inr (BadLine, at + length t, refl)) (λ H k. comes_upto ended (at + length t + 1) H x (u ∷ ts) k) (λ c k. absurd (let q = c in cc))
        (words_from true at [] t) (line_texts true at t) (full true at [] t) h

certifies : (f : FormulaOf) (s : List ℕ) (a : Answer) → CertLines f.vars f.clauses unnamed (held_first f.clauses) a (lines s) → IsCertOf f s a
certifies f s Unsat h = h
certifies f s Sat h = h

-- up to a word 0, and what follows it
pub cert_found : (f : FormulaOf) (a : Answer) (ended : Bool) (s : List ℕ) → StreamFate f (sayings f.vars ended s) (Some (Found a)) → (n : ℕ) × (n ≤ length s) × IsCertOf f (take n s) a × IsNext (drop n s)
cert_found f a ended s h =
    let k = upto_cut (CertLines f.vars f.clauses unnamed (held_first f.clauses) a) s (comes_upto f.vars f.clauses a ended 0 (held_first f.clauses) unnamed (lines_of s) h) in
    (k.0, k.1, certifies f (take k.0 s) a k.2, k.3)
