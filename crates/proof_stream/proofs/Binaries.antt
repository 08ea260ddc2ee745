-- A binary proof says what its numbers say.
use Rattle.std.proofs.Common.{◌≡◌, ℕ, ◌+◌, ◌*◌, Bool, true, false, eqb, leb, List, [], ◌∷◌, ◌++◌, length, Option, Some, None, refl, ap, sym, ◌∙◌, inl, inr, arith, append_assoc, cond, subst, length-append, append-nil}
use Rattle.std.specs.Prelude.{slice_index}
use Rattle.std.proofs.lemmas.Bool.{cases_Bool, eqb-true}
use Rattle.cnf_form.specs.Cnf.{LitOf}
use Rattle.cnf_form.specs.Coding.{lit_from}
use Rattle.cert_stream.specs.Stream.{bad}
use Rattle.cert_stream.specs.Telling.{Saying, IsFault}
use Rattle.cert_stream.specs.declared.mode.ParseFault.{ParseFault}
use Rattle.cert_stream.specs.declared.mode.ParseFaultKind.TheVariants.{BadLine, BadLiteral}
use Rattle.proof_stream.specs.Numbers.{NumberOf, GroupsRead, Goes, Whole, Unfit, group_next, groups_read, if_room, is_literal, may_go_on, number, numbers_from, with_group}
use Rattle.proof_stream.specs.Binary.{BinaryOf, BinaryTurn, binary_fresh, binary_told, binary_turn, counted, groups, line_said, literal_read}
use Rattle.proof_stream.specs.File.{FileOf, InBinary, spoken}
use Rattle.proof_stream.specs.Lines.{LineOf, numbers_say}
use Rattle.proof_stream.specs.declared.spot.LineKind.{LineKind}
use Rattle.proof_stream.specs.declared.spot.LineKind.TheVariants.{Clause, Deletion}
use Rattle.proof_stream.specs.declared.spot.Spot.{Spot}
use Rattle.proof_stream.specs.declared.spot.Spot.TheVariants.{Between, Gap, InNumber, Bad}
use Rattle.proof_stream.proofs.Spoken.{spoken_step}

-- groups that go on, and those after them
read_append : (vars : ℕ) (full : Bool) (x y v w : ℕ) (p q : List ℕ) → groups_read vars full x y p ≡ Goes v w → groups_read vars full x y (p ++ q) ≡ groups_read vars full v w q
read_append vars full x y v w [] q h = let a : x ≡ v = cc in let b : y ≡ w = cc in ap (λ z. groups_read vars full z y q) a ∙ ap (λ z. groups_read vars full v z q) b
read_append vars full x y v w (b ∷ p) q h = by (λ a c k. read_append vars full a c v w p q k) (group_next vars full x y b) h
  where
    by : ((a c : ℕ) → groups_read vars full a c p ≡ Goes v w → groups_read vars full a c (p ++ q) ≡ groups_read vars full v w q) → (r : GroupsRead) → elim r [ Goes a c ↦ groups_read vars full a c p | Whole n ↦ Whole n | Unfit k ↦ Unfit k ] ≡ Goes v w
        → elim r [ Goes a c ↦ groups_read vars full a c (p ++ q) | Whole n ↦ Whole n | Unfit k ↦ Unfit k ] ≡ groups_read vars full v w q
    by again (Goes a c) h = again a c h
    by again (Whole n) h = absurd (let k = h in cc)
    by again (Unfit k) h = absurd (let e = h in cc)

-- whether a group is the last one of its number
abbrev pub step_by : Bool → Bool → Bool → Bool → ℕ → ℕ → GroupsRead
step_by more goes whole full n u = cond more (cond goes (if_room full (Goes n u)) (Unfit BadLiteral)) (cond whole (if_room full (Whole n)) (Unfit BadLiteral))

goes_by : (more goes whole full : Bool) (n u v w : ℕ) → step_by more goes whole full n u ≡ Goes v w → more ≡ true
goes_by true goes whole full n u v w h = refl
goes_by false goes true true n u v w h = absurd (let k = h in cc)
goes_by false goes true false n u v w h = absurd (let k = h in cc)
goes_by false goes false full n u v w h = absurd (let k = h in cc)

whole_by : (more goes whole full : Bool) (n u v : ℕ) → step_by more goes whole full n u ≡ Whole v → more ≡ false
whole_by false goes whole full n u v h = refl
whole_by true true whole true n u v h = absurd (let k = h in cc)
whole_by true true whole false n u v h = absurd (let k = h in cc)
whole_by true false whole full n u v h = absurd (let k = h in cc)

module _ (vars : ℕ) (full : Bool) (value weight b : ℕ) where
  pub goes_more : (v w : ℕ) → group_next vars full value weight b ≡ Goes v w → leb 128 b ≡ true
  goes_more v w h = goes_by (leb 128 b) (may_go_on vars (with_group value weight b) (128 * weight)) (is_literal vars (with_group value weight b)) full (with_group value weight b) (128 * weight) v w h

  pub whole_last : (n : ℕ) → group_next vars full value weight b ≡ Whole n → leb 128 b ≡ false
  whole_last n h = whole_by (leb 128 b) (may_go_on vars (with_group value weight b) (128 * weight)) (is_literal vars (with_group value weight b)) full (with_group value weight b) (128 * weight) n h

-- the number that groups begin, whatever follows
first_number : (place : ℕ) (p bytes : List ℕ) (c : ℕ) → (more : List ℕ) × (d : Bool) × (ns : List NumberOf) × (numbers_from place (c ∷ p) bytes ≡ number place (c ∷ p ++ more) d ∷ ns)
first_number place p [] c = ([], false, [], ap (λ z. number place (c ∷ z) false ∷ []) (sym (append-nil p)))
first_number place p (b ∷ bs) c =
    elim (cases_Bool (leb 128 b)) [
      | inl t ↦
          let k = first_number place (p ++ b ∷ []) bs c in
          (b ∷ k.0, k.1, k.2, rw t (k.3 ∙ ap (λ z. number place (c ∷ z) k.1 ∷ k.2) (append_assoc p (b ∷ []) k.0)))
      | inr f ↦ (b ∷ [], true, numbers_from (place + length (c ∷ p) + 1) [] bs, rw f refl)
    ]

-- after the byte b, with the groups p before it
next_number : (place : ℕ) (p : List ℕ) (b : ℕ) (bs : List ℕ) (c : ℕ) (q : List ℕ) → p ++ b ∷ [] ≡ c ∷ q
    → (more : List ℕ) × (d : Bool) × (ns : List NumberOf) × (numbers_from place p (b ∷ bs) ≡ number place (c ∷ q ++ more) d ∷ ns)
next_number place p b bs c q e =
    elim (cases_Bool (leb 128 b)) [
      | inl t ↦ let k = first_number place q bs c in (k.0, k.1, k.2, rw t (ap (λ z. numbers_from place z bs) e ∙ k.3))
      | inr f ↦ ([], true, numbers_from (place + length p + 1) [] bs, rw f (ap (λ z. number place z true ∷ numbers_from (place + length p + 1) [] bs) (e ∙ ap (λ z. c ∷ z) (sym (append-nil q)))))
    ]

module _ (vars total : ℕ) (ended : Bool) where
  abbrev binary : ℕ → ℕ → Spot → List LitOf → FileOf
  binary at place spot lits = InBinary (record { vars = vars; taken = at; place = place; spot = spot; lits = lits })

  abbrev cut : List Saying
  cut = cond ended (bad BadLine total) []

  abbrev line : LineKind → ℕ → List LitOf → Option LineOf
  line kind place lits = Some (record { kind = kind; place = place; lits = lits })

  abbrev room : List LitOf → Bool
  room lits = leb vars (length lits)

  bad_spoken : (f : ParseFault) (at place : ℕ) (lits : List LitOf) (bytes : List ℕ) → spoken ended (binary at place (Bad f) lits) bytes ≡ IsFault f ∷ []
  bad_spoken f at place lits [] = elim (cases_Bool ended) [ inl t ↦ rw t refl | inr n ↦ rw n refl ]
  bad_spoken f at place lits (b ∷ bs) = spoken_step ended (binary at place (Bad f) lits) b bs ∙ bad_spoken f (at + 1) place lits bs

  -- what bytes say between lines, between literals and in a literal
  record Says (bytes : List ℕ) : Type 0 where
    pub outside : (at place : ℕ) (lits : List LitOf) → total ≡ at + length bytes → spoken ended (binary at place Between lits) bytes ≡ numbers_say vars cut None (numbers_from at [] bytes)
    pub inside : (at place : ℕ) (lits : List LitOf) (kind : LineKind) → total ≡ at + length bytes
        → spoken ended (binary at place (Gap kind) lits) bytes ≡ numbers_say vars cut (line kind place lits) (numbers_from at [] bytes)
    pub within : (at place start v w c : ℕ) (q : List ℕ) (lits : List LitOf) (kind : LineKind) → total ≡ at + length bytes → at ≡ start + length (c ∷ q) → eqb c 0 ≡ false
        → groups_read vars (room lits) 0 1 (c ∷ q) ≡ Goes v w
        → spoken ended (binary at place (InNumber kind (groups v w start)) lits) bytes ≡ numbers_say vars cut (line kind place lits) (numbers_from start (c ∷ q) bytes)

  -- a number that isn't 0, in a line
  pub number_says : (kind : LineKind) (place : ℕ) (lits : List LitOf) (n : NumberOf) (ns : List NumberOf) (r : GroupsRead) → eqb (slice_index n.groups 0) 0 ≡ false → groups_read vars (room lits) 0 1 n.groups ≡ r
      → numbers_say vars cut (line kind place lits) (n ∷ ns) ≡ elim r [ Goes v w ↦ cut | Whole k ↦ numbers_say vars cut (line kind place (lits ++ lit_from k ∷ [])) ns | Unfit k ↦ bad k n.place ]
  number_says kind place lits n ns r z h = rw (z, h) refl

  ends : (at : ℕ) → total ≡ at + 0 → cond ended (bad BadLine at) [] ≡ cut
  ends at e = let k : at ≡ total = omega (arith, e) in ap (λ z. cond ended (bad BadLine z) []) k

  says_none : Says []
  says_none = record {
    outside = λ at place lits e. elim (cases_Bool ended) [ inl t ↦ rw t refl | inr n ↦ rw n refl ];
    inside = λ at place lits kind e. ends at e;
    within = λ at place start v w c q lits kind e g z h. rw (z, h) (ends at e);
  }

  module _ (b : ℕ) (bs : List ℕ) (rest : Says bs) where
    later : (at : ℕ) → total ≡ at + length (b ∷ bs) → total ≡ at + 1 + length bs
    later at e = omega (arith, e)

    -- one group more of a literal
    module _ (at place start v w c : ℕ) (p q : List ℕ) (lits : List LitOf) (kind : LineKind) (e : total ≡ at + length (b ∷ bs)) (g : at ≡ start + length p) (k : p ++ b ∷ [] ≡ c ∷ q) (z : eqb c 0 ≡ false)
        (h : groups_read vars (room lits) 0 1 p ≡ Goes v w) where
      abbrev turned : GroupsRead → FileOf
      turned r = InBinary (counted at (literal_read (record { vars = vars; taken = at; place = place; spot = Between; lits = lits }) kind start r)).to

      abbrev numbers : List Saying
      numbers = numbers_say vars cut (line kind place lits) (numbers_from start p (b ∷ bs))

      read_is : (r : GroupsRead) → group_next vars (room lits) v w b ≡ r → (more : List ℕ) → groups_read vars (room lits) 0 1 (c ∷ q ++ more) ≡ elim r [ Goes x y ↦ groups_read vars (room lits) x y more | Whole n ↦ Whole n | Unfit kind ↦ Unfit kind ]
      read_is r f more =
          ap (λ s. groups_read vars (room lits) 0 1 (s ++ more)) (sym k) ∙ ap (groups_read vars (room lits) 0 1) (append_assoc p (b ∷ []) more)
          ∙ read_append vars (room lits) 0 1 v w p (b ∷ more) h ∙ ap (λ s. elim s [ Goes x y ↦ groups_read vars (room lits) x y more | Whole n ↦ Whole n | Unfit kind ↦ Unfit kind ]) f

      longer : length p + 1 ≡ length (c ∷ q)
      longer = let m : length (p ++ b ∷ []) ≡ length (c ∷ q) = ap length k in let n = length-append p (b ∷ []) in omega (arith, m, n)

      turned_says : (r : GroupsRead) → group_next vars (room lits) v w b ≡ r → spoken ended (turned r) bs ≡ numbers
      turned_says (Goes x y) f =
          let t = goes_more vars (room lits) v w b x y f in
          rest.within (at + 1) place start x y c q lits kind (later at e) (let m = longer in omega (arith, g, m)) z (ap (groups_read vars (room lits) 0 1) (ap (λ s. c ∷ s) (sym (append-nil q))) ∙ read_is (Goes x y) f [])
          ∙ sym (ap (λ s. numbers_say vars cut (line kind place lits) s) (ap (λ s. cond s (numbers_from start (p ++ b ∷ []) bs) (number start (p ++ b ∷ []) true ∷ numbers_from (start + length p + 1) [] bs)) t ∙ ap (λ s. numbers_from start s bs) k))
      turned_says (Whole n) f =
          let t = whole_last vars (room lits) v w b n f in
          let m : at + 1 ≡ start + length p + 1 = omega (arith, g) in
          rest.inside (at + 1) place (lits ++ lit_from n ∷ []) kind (later at e)
          ∙ ap (λ s. numbers_say vars cut (line kind place (lits ++ lit_from n ∷ [])) (numbers_from s [] bs)) m
          ∙ sym (ap (λ s. numbers_say vars cut (line kind place lits) s)
          (ap (λ s. cond s (numbers_from start (p ++ b ∷ []) bs) (number start (p ++ b ∷ []) true ∷ numbers_from (start + length p + 1) [] bs)) t ∙ ap (λ s. number start s true ∷ numbers_from (start + length p + 1) [] bs) (k ∙ ap (λ s. c ∷ s) (sym (append-nil q))))
          ∙ number_says kind place lits (number start (c ∷ q ++ []) true) (numbers_from (start + length p + 1) [] bs) (Whole n) z (read_is (Whole n) f []))
      turned_says (Unfit x) f =
          let m = next_number start p b bs c q k in
          bad_spoken (record { kind = x; byte = start }) (at + 1) place lits bs
          ∙ sym (ap (λ s. numbers_say vars cut (line kind place lits) s) m.3 ∙ number_says kind place lits (number start (c ∷ q ++ m.0) m.1) m.2 (Unfit x) z (read_is (Unfit x) f m.0))

      module _ (s : Spot) where
        abbrev whole : BinaryOf
        whole = record { vars = vars; taken = at; place = place; spot = s; lits = lits }

        read_on : (r : GroupsRead)
            → binary_told (counted at (literal_read whole kind start r)).to (counted at (literal_read whole kind start r)).event ++ spoken ended (InBinary (counted at (literal_read whole kind start r)).to) bs ≡ spoken ended (turned r) bs
        read_on (Goes x y) = refl
        read_on (Whole n) = refl
        read_on (Unfit x) = refl

        group_spoken : (r : GroupsRead) → group_next vars (room lits) v w b ≡ r → binary_turn whole b ≡ counted at (literal_read whole kind start (group_next vars (room lits) v w b)) → spoken ended (InBinary whole) (b ∷ bs) ≡ numbers
        group_spoken r f t =
            spoken_step ended (InBinary whole) b bs
            ∙ ap (λ (x : BinaryTurn). binary_told x.to x.event ++ spoken ended (InBinary x.to) bs) (t ∙ ap (λ x. counted at (literal_read whole kind start x)) f)
            ∙ read_on r ∙ turned_says r f

    module _ (at place : ℕ) (lits : List LitOf) where
      abbrev Outside : ℕ → Type 0
      Outside x = spoken ended (binary at place Between lits) (x ∷ bs) ≡ numbers_say vars cut None (numbers_from at [] (x ∷ bs))

      one_on : at + 1 ≡ at + 0 + 1
      one_on = omega arith

      outside_clause : total ≡ at + length (b ∷ bs) → Outside 97
      outside_clause e = spoken_step ended (binary at place Between lits) 97 bs ∙ rest.inside (at + 1) at [] Clause (later at e) ∙ ap (λ z. numbers_say vars cut (line Clause at []) (numbers_from z [] bs)) one_on

      outside_deletion : total ≡ at + length (b ∷ bs) → Outside 100
      outside_deletion e = spoken_step ended (binary at place Between lits) 100 bs ∙ rest.inside (at + 1) at [] Deletion (later at e) ∙ ap (λ z. numbers_say vars cut (line Deletion at []) (numbers_from z [] bs)) one_on

      other_head : (n : NumberOf) (ns : List NumberOf) → eqb (slice_index n.groups 0) 97 ≡ false → eqb (slice_index n.groups 0) 100 ≡ false → numbers_say vars cut None (n ∷ ns) ≡ bad BadLine n.place
      other_head n ns f g = rw (f, g) refl

      abbrev head : BinaryOf
      head = record { vars = vars; taken = at; place = place; spot = Between; lits = lits }

      outside_other : eqb b 97 ≡ false → eqb b 100 ≡ false → Outside b
      outside_other f g =
          let m = next_number at [] b bs b [] refl in
          let f0 : ParseFault = record { kind = BadLine; byte = at } in
          let t : binary_turn head b ≡ record { to = record { vars = vars; taken = at + 1; place = place; spot = Bad f0; lits = lits }; event = None } = rw (f, g) refl in
          spoken_step ended (InBinary head) b bs
          ∙ ap (λ (x : BinaryTurn). binary_told x.to x.event ++ spoken ended (InBinary x.to) bs) t
          ∙ bad_spoken f0 (at + 1) place lits bs
          ∙ sym (ap (numbers_say vars cut None) m.3 ∙ other_head (number at (b ∷ [] ++ m.0) m.1) m.2 f g)

      outside_now : total ≡ at + length (b ∷ bs) → Outside b
      outside_now e =
          elim (cases_Bool (eqb b 97)) [
            | inl t ↦ subst Outside (sym (eqb-true b 97 t)) (outside_clause e)
            | inr f ↦ elim (cases_Bool (eqb b 100)) [
              | inl t ↦ subst Outside (sym (eqb-true b 100 t)) (outside_deletion e)
              | inr g ↦ outside_other f g
            ]
          ]

      module _ (kind : LineKind) where
        abbrev Inside : ℕ → Type 0
        Inside x = spoken ended (binary at place (Gap kind) lits) (x ∷ bs) ≡ numbers_say vars cut (line kind place lits) (numbers_from at [] (x ∷ bs))

        inside_zero : total ≡ at + length (b ∷ bs) → Inside 0
        inside_zero e =
            spoken_step ended (binary at place (Gap kind) lits) 0 bs
            ∙ ap (λ z. line_said kind place lits ∷ z) (rest.outside (at + 1) place lits (later at e) ∙ ap (λ z. numbers_say vars cut None (numbers_from z [] bs)) one_on)

        abbrev gap : BinaryOf
        gap = record { vars = vars; taken = at; place = place; spot = Gap kind; lits = lits }

        gap_turn : eqb b 0 ≡ false → binary_turn gap b ≡ counted at (literal_read gap kind at (group_next vars (room lits) 0 1 b))
        gap_turn f = rw f refl

        inside_now : total ≡ at + length (b ∷ bs) → Inside b
        inside_now e =
            elim (cases_Bool (eqb b 0)) [
              | inl t ↦ subst Inside (sym (eqb-true b 0 t)) (inside_zero e)
              | inr f ↦ group_spoken at place at 0 1 b [] [] lits kind e (omega arith) refl f refl (Gap kind) (group_next vars (room lits) 0 1 b) refl (gap_turn f)
            ]

    says_more : Says (b ∷ bs)
    says_more = record {
      outside = λ at place lits e. outside_now at place lits e;
      inside = λ at place lits kind e. inside_now at place lits kind e;
      within = λ at place start v w c q lits kind e g z h.
          group_spoken at place start v w c (c ∷ q) (q ++ b ∷ []) lits kind e g refl z h (InNumber kind (groups v w start)) (group_next vars (room lits) v w b) refl refl;
    }

  says_all : (bytes : List ℕ) → Says bytes
  says_all [] = says_none
  says_all (b ∷ bs) = says_more b bs (says_all bs)

pub binary_spoken : (vars : ℕ) (ended : Bool) (bytes : List ℕ)
    → spoken ended (InBinary (binary_fresh vars)) bytes ≡ numbers_say vars (cond ended (bad BadLine (length bytes)) []) None (numbers_from 0 [] bytes)
binary_spoken vars ended bytes = (says_all vars (length bytes) ended bytes).outside 0 0 [] (omega arith)
