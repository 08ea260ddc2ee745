-- The bytes of a binary proof are whole lines, and then what says nothing or is at fault.
use Rattle.std.proofs.Common.{◌≡◌, ◌⊎◌, ℕ, zero, suc, ◌+◌, ◌*◌, ◌<◌, ◌≤◌, Bool, true, false, eqb, leb, List, [], ◌∷◌, ◌++◌, length, Option, Some, None, refl, ap, sym, ◌∙◌, inl, inr, arith, append_assoc, cond, subst, length-append}
use Rattle.std.specs.Prelude.{slice_index}
use Rattle.std.proofs.lemmas.Bool.{cases_Bool, eqb-true, leb-false}
use Rattle.std.proofs.lemmas.List.{append-nil}
use Rattle.cnf_form.specs.Cnf.{LitOf, LitWithin}
use Rattle.cnf_form.specs.Coding.{index_of-lit_from, lit_from}
use Rattle.cert_stream.specs.Stream.{bad}
use Rattle.cert_stream.specs.Telling.{Saying}
use Rattle.cert_stream.specs.declared.mode.ParseFaultKind.{ParseFaultKind}
use Rattle.cert_stream.specs.declared.mode.ParseFaultKind.TheVariants.{BadLine}
use Rattle.proof_stream.specs.Binary.{line_said}
use Rattle.proof_stream.specs.Grouping.{IsLiteral, IsRead}
use Rattle.proof_stream.specs.Lines.{FileSays, LineOf, numbers_say}
use Rattle.proof_stream.specs.Numbers.{GroupsRead, Goes, NumberOf, Unfit, Whole, cut_number, groups_read, number, numbers_from}
use Rattle.proof_stream.specs.Spelling.{AreGroups, AreNumbers, AreSaid, IsBinaryProof, ProofLine, SaysLines, letter}
use Rattle.proof_stream.specs.declared.spot.Form.TheVariants.{Binary}
use Rattle.proof_stream.specs.declared.spot.LineKind.{LineKind}
use Rattle.proof_stream.specs.declared.spot.LineKind.TheVariants.{Clause, Deletion}
use Rattle.proof_stream.proofs.Grouping.{groups_are}

-- each byte has its top bit
abbrev AreTops : List ℕ → Type 0
AreTops [] = Unit {0}
AreTops (b ∷ bs) = (leb 128 b ≡ true) × AreTops bs

tops_snoc : (p : List ℕ) (b : ℕ) → AreTops p → leb 128 b ≡ true → AreTops (p ++ b ∷ [])
tops_snoc [] b h t = (t, tt)
tops_snoc (c ∷ p) b (k, h) t = (k, tops_snoc p b h t)

groups_snoc : (p : List ℕ) (b : ℕ) → AreTops p → leb 128 b ≡ false → AreGroups (p ++ b ∷ [])
groups_snoc [] b h t = t
groups_snoc (c ∷ []) b (k, h) t = (k, t)
groups_snoc (c ∷ d ∷ p) b (k, h) t = (k, groups_snoc (d ∷ p) b h t)

-- the first number of bytes
abbrev Numbered : ℕ → List ℕ → List ℕ → Type 0
Numbered place p bytes =
    (AreTops (p ++ bytes) × (numbers_from place p bytes ≡ cut_number place (p ++ bytes)))
    ⊎ ((front : List ℕ) × (rest : List ℕ) × (at : ℕ) × (bytes ≡ front ++ rest) × AreGroups (p ++ front) × (length rest < length bytes) × (numbers_from place p bytes ≡ number place (p ++ front) true ∷ numbers_from at [] rest))

numbered : (place : ℕ) (p bytes : List ℕ) → AreTops p → Numbered place p bytes
numbered place p [] h = inl (subst AreTops (sym (append-nil p)) h, ap (cut_number place) (sym (append-nil p)))
numbered place p (b ∷ bs) h =
    elim (cases_Bool (leb 128 b)) [
      | inr f ↦ inr (b ∷ [], bs, place + length p + 1, refl, groups_snoc p b h f, omega arith, rw f refl)
      | inl t ↦ elim (numbered place (p ++ b ∷ []) bs (tops_snoc p b h t)) [
        | inl (k, e) ↦ inl (subst AreTops (append_assoc p (b ∷ []) bs) k, rw t (e ∙ ap (cut_number place) (append_assoc p (b ∷ []) bs)))
        | inr (front, rest, at, e, g, l, n) ↦
            inr (b ∷ front, rest, at, ap (λ z. b ∷ z) e, subst AreGroups (append_assoc p (b ∷ []) front) g, omega (arith, l), rw t (n ∙ ap (λ z. number place z true ∷ numbers_from at [] rest) (append_assoc p (b ∷ []) front)))
      ]
    ]

-- a number that begins with a byte below 128 is that byte
one_group : (g : List ℕ) (b : ℕ) → AreGroups g → eqb (slice_index g 0) b ≡ true → leb 128 b ≡ false → g ≡ b ∷ []
one_group [] b h e l = absurd h
one_group (c ∷ []) b h e l = ap (λ z. z ∷ []) (eqb-true c b e)
one_group (c ∷ d ∷ g) b h e l = absurd (let k : leb 128 b ≡ true = subst (λ z. leb 128 z ≡ true) (eqb-true c b e) h.0 in let q = sym k ∙ l in cc)

-- the first groups that are a number are all
pub all_groups : (front rest : List ℕ) → AreGroups front → AreGroups (front ++ rest) → rest ≡ []
all_groups [] rest h g = absurd h
all_groups (b ∷ []) [] h g = refl
all_groups (b ∷ []) (c ∷ rest) h g = absurd (let q : true ≡ false = sym g.0 ∙ h in cc)
all_groups (b ∷ c ∷ front) rest h g = all_groups (c ∷ front) rest h.1 g.1

not_tops : (front rest : List ℕ) → AreGroups front → AreTops (front ++ rest) → ⊥
not_tops [] rest h t = h
not_tops (b ∷ []) rest h t = let q : true ≡ false = sym t.0 ∙ h in cc
not_tops (b ∷ c ∷ front) rest h t = not_tops (c ∷ front) rest h.1 t.1

top_first : (b : ℕ) (p : List ℕ) (k : ℕ) → AreTops (b ∷ p) → leb 128 k ≡ false → eqb b k ≡ false
top_first b p k h l = elim (cases_Bool (eqb b k)) [ inr f ↦ f | inl e ↦ absurd (let q : true ≡ false = sym (subst (λ z. leb 128 z ≡ true) (eqb-true b k e) h.0) ∙ l in cc) ]

pub within_of : (vars v : ℕ) (b : Bool) → 2 ≤ 2 * v + cond b 1 0 → 2 * v + cond b 1 0 ≤ 2 * vars + 1 → (0 < v) × (v ≤ vars)
within_of vars v true a b = (omega (arith, a), omega (arith, b))
within_of vars v false a b = (omega (arith, a), omega (arith, b))

literal_within : (vars n : ℕ) → 2 ≤ n → n ≤ 2 * vars + 1 → LitWithin vars (lit_from n)
literal_within vars n a b =
    let e = index_of-lit_from n in
    within_of vars (lit_from n).var (lit_from n).negated (omega (arith, a, e)) (omega (arith, b, e))

module _ (vars : ℕ) (cut : List Saying) where
  -- whole lines with what they say; what the rest says is a fault, or the file is cut there
  record Lined (at : ℕ) (bytes : List ℕ) : Type 0 where
    pub lines : List ProofLine
    pub front : List ℕ
    pub rest : List ℕ
    pub said : List Saying
    pub tail : List Saying
    pub are : bytes ≡ front ++ rest
    pub proof : IsBinaryProof vars front lines
    pub says : numbers_say vars cut None (numbers_from at [] bytes) ≡ said ++ tail
    pub told : AreSaid lines said
    pub ends : ((rest ≡ []) × (tail ≡ [])) ⊎ (tail ≡ cut) ⊎ ((kind : ParseFaultKind) × (n : ℕ) × (tail ≡ bad kind n))

  -- the literals of a line that is open, up to its 0
  abbrev Closes : LineKind → ℕ → List LitOf → ℕ → List ℕ → Type 0
  Closes kind place lits at bytes =
      ((text : List ℕ) × (c : List LitOf) × (rest : List ℕ) × (behind : ℕ) × (bytes ≡ text ++ 0 ∷ rest) × AreNumbers vars text c × (length (lits ++ c) ≤ vars) × (length rest < length bytes)
      × (numbers_say vars cut (Some (record { kind = kind; place = place; lits = lits })) (numbers_from at [] bytes) ≡ line_said kind place (lits ++ c) ∷ numbers_say vars cut None (numbers_from behind [] rest)))
      ⊎ ((tail : List Saying) × (numbers_say vars cut (Some (record { kind = kind; place = place; lits = lits })) (numbers_from at [] bytes) ≡ tail) × ((tail ≡ cut) ⊎ ((k : ParseFaultKind) × (n : ℕ) × (tail ≡ bad k n))))

  abbrev line : LineKind → ℕ → List LitOf → Option LineOf
  line kind place lits = Some (record { kind = kind; place = place; lits = lits })

  -- what a literal's groups make of the line
  abbrev by_read : LineKind → ℕ → List LitOf → List NumberOf → ℕ → GroupsRead → List Saying
  by_read kind place lits ns at r = elim r [ Goes v w ↦ cut | Whole k ↦ numbers_say vars cut (line kind place (lits ++ lit_from k ∷ [])) ns | Unfit kind ↦ bad kind at ]

  literal_says : (kind : LineKind) (place at : ℕ) (lits : List LitOf) (g : List ℕ) (done : Bool) (ns : List NumberOf) → eqb (slice_index g 0) 0 ≡ false
      → numbers_say vars cut (line kind place lits) (number at g done ∷ ns) ≡ by_read kind place lits ns at (groups_read vars (leb vars (length lits)) 0 1 g)
  literal_says kind place at lits g done ns e = rw e refl

  zero_says : (kind : LineKind) (place at : ℕ) (lits : List LitOf) (g : List ℕ) (done : Bool) (ns : List NumberOf) → g ≡ 0 ∷ []
      → numbers_say vars cut (line kind place lits) (number at g done ∷ ns) ≡ line_said kind place lits ∷ numbers_say vars cut None ns
  zero_says kind place at lits g done ns e = ap (λ z. numbers_say vars cut (line kind place lits) (number at z done ∷ ns)) e

  abbrev Ended : List Saying → Type 0
  Ended tail = (tail ≡ cut) ⊎ ((k : ParseFaultKind) × (n : ℕ) × (tail ≡ bad k n))

  -- the literal and what closes the line after it
  module _ (kind : LineKind) (place at : ℕ) (lits : List LitOf) where
    cut_short : (tops : List ℕ) (b : ℕ) → AreTops (b ∷ tops) → numbers_from at [] (b ∷ tops) ≡ cut_number at (b ∷ tops) → Closes kind place lits at (b ∷ tops)
    cut_short tops b t e =
        let z = top_first b tops 0 t refl in
        let says : numbers_say vars cut (line kind place lits) (numbers_from at [] (b ∷ tops)) ≡ by_read kind place lits [] at (groups_read vars (leb vars (length lits)) 0 1 (b ∷ tops)) =
        ap (numbers_say vars cut (line kind place lits)) e ∙ literal_says kind place at lits (b ∷ tops) false [] z in
        by (groups_read vars (leb vars (length lits)) 0 1 (b ∷ tops)) (groups_are vars (leb vars (length lits)) (b ∷ tops)) says
      where
        by : (r : GroupsRead) → IsRead vars (leb vars (length lits)) (b ∷ tops) r → numbers_say vars cut (line kind place lits) (numbers_from at [] (b ∷ tops)) ≡ by_read kind place lits [] at r
            → Closes kind place lits at (b ∷ tops)
        by (Goes v w) i s = inr (cut, s, inl refl)
        by (Whole k) (f, front, rest, g, l) s = absurd (not_tops front rest l.0.0 (subst AreTops g t))
        by (Unfit k) i s = inr (bad k at, s, inr (k, at, refl))

    module _ (bytes front rest : List ℕ) (behind : ℕ) (e : bytes ≡ front ++ rest) (g : AreGroups front) (l : length rest < length bytes) (n : numbers_from at [] bytes ≡ number at front true ∷ numbers_from behind [] rest)
        (room : length lits ≤ vars) where
      zero_closes : front ≡ 0 ∷ [] → Closes kind place lits at bytes
      zero_closes z =
          inl (
            [],
            [],
            rest,
            behind,
            e ∙ ap (λ x. x ++ rest) z,
            refl,
            subst (λ x. length x ≤ vars) (sym (append-nil lits)) room,
            l,
            ap (numbers_say vars cut (line kind place lits)) n ∙ zero_says kind place at lits front true (numbers_from behind [] rest) z
                ∙ ap (λ x. line_said kind place x ∷ numbers_say vars cut None (numbers_from behind [] rest)) (sym (append-nil lits)),
          )

      literal_closes : eqb (slice_index front 0) 0 ≡ false → ((m : LitOf) → length (lits ++ m ∷ []) ≤ vars → Closes kind place (lits ++ m ∷ []) behind rest) → Closes kind place lits at bytes
      literal_closes z again =
          by (groups_read vars (leb vars (length lits)) 0 1 front) (groups_are vars (leb vars (length lits)) front)
          (ap (numbers_say vars cut (line kind place lits)) n ∙ literal_says kind place at lits front true (numbers_from behind [] rest) z)
        where
          further : (k : ℕ) → leb vars (length lits) ≡ false → IsLiteral vars front k → numbers_say vars cut (line kind place lits) (numbers_from at [] bytes) ≡ numbers_say vars cut (line kind place (lits ++ lit_from k ∷ [])) (numbers_from behind [] rest)
              → Closes kind place (lits ++ lit_from k ∷ []) behind rest → Closes kind place lits at bytes
          further k f (i, low, high) s (inr (tail, q, w)) = inr (tail, s ∙ q, w)
          further k f (i, low, high) s (inl (text, c, last, after, q, a, len, less, says)) =
              let m : LitOf = lit_from k in
              let j : lits ++ m ∷ c ≡ (lits ++ m ∷ []) ++ c = sym (append_assoc lits (m ∷ []) c) in
              inl (
                front ++ text,
                m ∷ c,
                last,
                after,
                e ∙ ap (λ x. front ++ x) q ∙ sym (append_assoc front text (0 ∷ last)),
                (front, text, refl, (i.0, i.1, i.2 ∙ sym (index_of-lit_from k)), literal_within vars k low high, a),
                subst (λ x. length x ≤ vars) (sym j) len,
                omega (arith, less, l),
                s ∙ says ∙ ap (λ x. line_said kind place x ∷ numbers_say vars cut None (numbers_from after [] last)) (sym j),
              )

          by : (r : GroupsRead) → IsRead vars (leb vars (length lits)) front r → numbers_say vars cut (line kind place lits) (numbers_from at [] bytes) ≡ by_read kind place lits (numbers_from behind [] rest) at r
              → Closes kind place lits at bytes
          by (Goes v w) i s = inr (cut, s, inl refl)
          by (Unfit k) i s = inr (bad k at, s, inr (k, at, refl))
          by (Whole k) (f, first, more, q, i) s =
              let z : more ≡ [] = all_groups first more i.0.0 (subst AreGroups q g) in
              let same : first ≡ front = sym (append-nil first) ∙ ap (λ x. first ++ x) (sym z) ∙ sym q in
              let len : length (lits ++ lit_from k ∷ []) ≡ length lits + 1 = length-append lits (lit_from k ∷ []) in
              let less = leb-false vars (length lits) f in
              further k f (subst (λ x. IsLiteral vars x k) same i) s (again (lit_from k) (omega (arith, len, less)))

  -- by the first number, where shorter bytes close a line
  closes_by : (fuel : ℕ) (kind : LineKind) (place at : ℕ) (lits : List LitOf) → ((at : ℕ) (lits : List LitOf) (rest : List ℕ) → length rest < fuel → length lits ≤ vars → Closes kind place lits at rest) → length lits ≤ vars
      → (bytes : List ℕ) → length bytes < fuel + 1 → Numbered at [] bytes → Closes kind place lits at bytes
  closes_by fuel kind place at lits again room [] l (inl n) = inr (cut, refl, inl refl)
  closes_by fuel kind place at lits again room (b ∷ bs) l (inl (t, e)) = cut_short kind place at lits bs b t e
  closes_by fuel kind place at lits again room bytes l (inr (front, rest, behind, e, g, less, n)) =
      elim (cases_Bool (eqb (slice_index front 0) 0)) [
        | inl z ↦ zero_closes kind place at lits bytes front rest behind e g less n room (one_group front 0 g z refl)
        | inr z ↦ literal_closes kind place at lits bytes front rest behind e g less n room z (λ m r. again behind (lits ++ m ∷ []) rest (omega (arith, less, l)) r)
      ]

  closes : (fuel : ℕ) (kind : LineKind) (place at : ℕ) (lits : List LitOf) (bytes : List ℕ) → length bytes < fuel → length lits ≤ vars → Closes kind place lits at bytes
  closes zero kind place at lits bytes l room = absurd (omega (arith, l))
  closes (suc fuel) kind place at lits bytes l room = closes_by fuel kind place at lits (λ at lits rest k r. closes fuel kind place at lits rest k r) room bytes (omega (arith, l)) (numbered at [] bytes tt)

  -- a line that is open, and the lines after it
  module _ (kind : LineKind) (at behind : ℕ) (bytes rest : List ℕ) (e : bytes ≡ letter kind ∷ rest) (says : numbers_say vars cut None (numbers_from at [] bytes) ≡ numbers_say vars cut (line kind at []) (numbers_from behind [] rest)) where
    opened_lined : Closes kind at [] behind rest → ((at : ℕ) (more : List ℕ) → length more < length rest → Lined at more) → Lined at bytes
    opened_lined (inr (tail, q, w)) again = record { lines = []; front = []; rest = bytes; said = []; tail = tail; are = refl; proof = refl; says = says ∙ q; told = refl; ends = inr w }
    opened_lined (inl (text, c, last, after, q, a, len, less, s)) again =
        let k = again after last less in
        record {
          lines = record { kind = kind; lits = c } ∷ k.lines;
          front = letter kind ∷ text ++ 0 ∷ k.front;
          rest = k.rest;
          said = line_said kind at c ∷ k.said;
          tail = k.tail;
          are = e ∙ ap (λ x. letter kind ∷ x) (q ∙ ap (λ x. text ++ 0 ∷ x) k.are ∙ sym (append_assoc text (0 ∷ k.front) k.rest));
          proof = (text, k.front, refl, a, len, k.proof);
          says = says ∙ s ∙ ap (λ x. line_said kind at c ∷ x) k.says;
          told = (at, k.said, refl, k.told);
          ends = k.ends;
        }

  none_lined : (at : ℕ) (bytes : List ℕ) → numbers_say vars cut None (numbers_from at [] bytes) ≡ bad BadLine at → Lined at bytes
  none_lined at bytes e = record { lines = []; front = []; rest = bytes; said = []; tail = bad BadLine at; are = refl; proof = refl; says = e; told = refl; ends = inr (inr (BadLine, at, refl)) }

  head_bad : (at : ℕ) (g : List ℕ) (done : Bool) (ns : List NumberOf) → eqb (slice_index g 0) 97 ≡ false → eqb (slice_index g 0) 100 ≡ false → numbers_say vars cut None (number at g done ∷ ns) ≡ bad BadLine at
  head_bad at g done ns a d = rw (a, d) refl

  head_clause : (at : ℕ) (g : List ℕ) (done : Bool) (ns : List NumberOf) → g ≡ 97 ∷ [] → numbers_say vars cut None (number at g done ∷ ns) ≡ numbers_say vars cut (line Clause at []) ns
  head_clause at g done ns e = ap (λ z. numbers_say vars cut None (number at z done ∷ ns)) e

  head_deletion : (at : ℕ) (g : List ℕ) (done : Bool) (ns : List NumberOf) → g ≡ 100 ∷ [] → numbers_say vars cut None (number at g done ∷ ns) ≡ numbers_say vars cut (line Deletion at []) ns
  head_deletion at g done ns e = ap (λ z. numbers_say vars cut None (number at z done ∷ ns)) e

  -- by the first number, where shorter bytes are lines
  lined_head : (fuel at : ℕ) → ((at : ℕ) (more : List ℕ) → length more < fuel → Lined at more) → (bytes : List ℕ) → length bytes < fuel + 1 → Numbered at [] bytes → Lined at bytes
  lined_head fuel at again [] l (inl n) = record { lines = []; front = []; rest = []; said = []; tail = []; are = refl; proof = refl; says = refl; told = refl; ends = inl (refl, refl) }
  lined_head fuel at again (b ∷ bs) l (inl (t, e)) = none_lined at (b ∷ bs) (ap (numbers_say vars cut None) e ∙ head_bad at (b ∷ bs) false [] (top_first b bs 97 t refl) (top_first b bs 100 t refl))
  lined_head fuel at again bytes l (inr (front, rest, behind, e, g, less, n)) =
      let says = ap (numbers_say vars cut None) n in
      elim (cases_Bool (eqb (slice_index front 0) 97)) [
        | inl z ↦
            let h = one_group front 97 g z refl in
            opened_lined Clause at behind bytes rest (e ∙ ap (λ x. x ++ rest) h) (says ∙ head_clause at front true (numbers_from behind [] rest) h) (closes fuel Clause at behind [] rest (omega (arith, less, l)) (omega arith))
            (λ at more k. again at more (omega (arith, k, less, l)))
        | inr z ↦ elim (cases_Bool (eqb (slice_index front 0) 100)) [
          | inl y ↦
              let h = one_group front 100 g y refl in
              opened_lined Deletion at behind bytes rest (e ∙ ap (λ x. x ++ rest) h) (says ∙ head_deletion at front true (numbers_from behind [] rest) h) (closes fuel Deletion at behind [] rest (omega (arith, less, l)) (omega arith))
              (λ at more k. again at more (omega (arith, k, less, l)))
          | inr y ↦ none_lined at bytes (says ∙ head_bad at front true (numbers_from behind [] rest) z y)
        ]
      ]

  lined_by : (fuel at : ℕ) (bytes : List ℕ) → length bytes < fuel → Lined at bytes
  lined_by zero at bytes l = absurd (omega (arith, l))
  lined_by (suc fuel) at bytes l = lined_head fuel at (λ at more k. lined_by fuel at more k) bytes (omega (arith, l)) (numbered at [] bytes tt)

abbrev cut_at : Bool → ℕ → List Saying
cut_at ended n = cond ended (bad BadLine n) []

pub binary_lines : (vars : ℕ) (ended : Bool) (bytes : List ℕ) (ss : List Saying) → FileSays Binary vars ended bytes ss → SaysLines vars ended bytes ss
binary_lines vars ended bytes ss h =
    let k = lined_by vars (cut_at ended (length bytes)) (length bytes + 1) 0 bytes (omega arith) in
    record { lines = k.lines; front = k.front; rest = k.rest; said = k.said; tail = k.tail; are = k.are; proof = k.proof; says = h ∙ k.says; told = k.told; ends = by ended k.rest k.tail k.ends }
  where
    by : (ended : Bool) (rest : List ℕ) (tail : List Saying) → ((rest ≡ []) × (tail ≡ [])) ⊎ (tail ≡ cut_at ended (length bytes)) ⊎ ((kind : ParseFaultKind) × (n : ℕ) × (tail ≡ bad kind n))
        → ((tail ≡ []) × (ended ≡ true → rest ≡ [])) ⊎ ((kind : ParseFaultKind) × (n : ℕ) × (tail ≡ bad kind n))
    by ended rest tail (inl (e, t)) = inl (t, λ _. e)
    by true rest tail (inr (inl t)) = inr (BadLine, length bytes, t)
    by false rest tail (inr (inl t)) = inl (t, λ q. absurd (let z = q in cc))
    by ended rest tail (inr (inr t)) = inr t
