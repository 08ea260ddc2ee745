-- What is read of a word is what it is.
use Rattle.std.proofs.Common.{◌≡◌, ◌⊎◌, ℕ, ◌+◌, ◌≤◌, Bool, true, false, cond, not, ◌||◌, eqb, leb, List, [], ◌∷◌, ◌++◌, length, Some, Result, Ok, Err, refl, ap, sym, ◌∙◌, inl, inr, arith, subst, append_assoc, codes}
use Rattle.std.specs.Prelude.{slice_index}
use Rattle.std.specs.List.{list_all}
use Rattle.std.proofs.lemmas.Bool.{cases_Bool, eqb-true, le-leb, leb-true}
use Rattle.std.proofs.lemmas.List.{append-nil, length-append}
use Rattle.cnf_form.specs.Cnf.{LitOf}
use Rattle.cert_stream.specs.Text.{is_digit, is_number, literal_of}
use Rattle.cert_stream.specs.Machine.{begins_literal, goes_on, literal, with_digit}
use Rattle.cert_stream.specs.Scan.{Scanned, Reads, Misfit, digit_next, first_next, part_next, shift, scan}
use Rattle.cert_stream.specs.Words.{IsListWord, BeginsWord, BeginsLiteral, IsPart, IsMisfit, IsRead}
use Rattle.cert_stream.specs.declared.mode.ParseFaultKind.{ParseFaultKind}
use Rattle.cert_stream.specs.declared.mode.ParseFaultKind.TheVariants.{BadLine, BadLiteral, LineTooLong}
use Rattle.cert_stream.specs.declared.mode.Part.{Part}
use Rattle.cert_stream.specs.declared.mode.Part.TheVariants.{Gap, Minus, Zero, Digits}
use Rattle.cert_stream.proofs.Digits.{value, both_true, signed, of_digits, literal_plain, some_digits, number_above, digit_no_minus, HasDigits, has_digits, digit_step, digit_back}
use Rattle.cert_stream.proofs.Scanning.{shift_shift}

-- a digit is read exactly where digits go on with it
digit_ok : (vars : ℕ) (negated : Bool) (n b : ℕ) (to : Part) → digit_next vars negated n b ≡ Ok to → (goes_on vars n b ≡ true) × (to ≡ Digits (literal (with_digit n b) negated))
digit_ok vars negated n b to h = on (goes_on vars n b) refl h
  where
    on : (g : Bool) → goes_on vars n b ≡ g → (let r : Result Part ParseFaultKind = cond g (Ok (Digits (literal (with_digit n b) negated))) (Err BadLiteral) in r) ≡ Ok to
        → (goes_on vars n b ≡ true) × (to ≡ Digits (literal (with_digit n b) negated))
    on true e k = let i : to ≡ Digits (literal (with_digit n b) negated) = cc in (e, i)
    on false e k = cc

digit_none : (vars : ℕ) (negated : Bool) (n b : ℕ) (k : ParseFaultKind) → digit_next vars negated n b ≡ Err k → (goes_on vars n b ≡ false) × (k ≡ BadLiteral)
digit_none vars negated n b k h = on (goes_on vars n b) refl h
  where
    on : (g : Bool) → goes_on vars n b ≡ g → (let r : Result Part ParseFaultKind = cond g (Ok (Digits (literal (with_digit n b) negated))) (Err BadLiteral) in r) ≡ Err k → (goes_on vars n b ≡ false) × (k ≡ BadLiteral)
    on true e x = cc
    on false e x = let i : k ≡ BadLiteral = cc in (e, i)

-- how the first byte is read
data First (vars : ℕ) (full : Bool) (b : ℕ) : Result Part ParseFaultKind → Type 0 where
  IsZero : eqb b 48 ≡ true → First vars full b (Ok Zero)
  IsNone : eqb b 48 ≡ false → begins_literal vars b ≡ false → First vars full b (Err BadLiteral)
  IsLong : eqb b 48 ≡ false → begins_literal vars b ≡ true → full ≡ true → First vars full b (Err LineTooLong)
  IsMinus : begins_literal vars b ≡ true → full ≡ false → b ≡ 45 → First vars full b (Ok Minus)
  IsDigit : full ≡ false → eqb b 45 ≡ false → goes_on vars 0 b ≡ true → First vars full b (Ok (Digits (literal (with_digit 0 b) false)))

pub begins_digit : (vars b : ℕ) → begins_literal vars b ≡ true → eqb b 45 ≡ false → goes_on vars 0 b ≡ true
begins_digit vars b h f = let e : begins_literal vars b ≡ goes_on vars 0 b = rw f refl in sym e ∙ h

first_is : (vars : ℕ) (full : Bool) (b : ℕ) → First vars full b (first_next vars full b)
first_is vars full b =
    elim (cases_Bool (eqb b 48)) [
      | inl t ↦ rw t (IsZero t)
      | inr f ↦ elim (cases_Bool (begins_literal vars b)) [
        | inr g ↦ rw (f, g) (IsNone f g)
        | inl g ↦ elim (cases_Bool full) [
          | inl t ↦ rw (f, g, t) (IsLong f g refl)
          | inr n ↦ elim (cases_Bool (eqb b 45)) [
            | inl t ↦ rw (f, g, n, t) (IsMinus g refl (eqb-true b 45 t))
            | inr m ↦ let o = begins_digit vars b g m in rw (f, g, n, m, o) (IsDigit refl m o)
          ]
        ]
      ]
    ]

one_literal : (vars : ℕ) → 1 ≤ vars → literal_of vars (45 ∷ 49 ∷ []) ≡ Some (literal 1 true)
one_literal vars n = digit_step vars true [] 49 (inl refl) (let e : leb 1 vars ≡ true = le-leb 1 vars n in e)

minus_room : (vars : ℕ) → begins_literal vars 45 ≡ true → 1 ≤ vars
minus_room vars e = elim (cases_Bool (leb 1 vars)) [ inl s ↦ leb-true 1 vars s | inr f ↦ absurd (let k : (leb 1 vars || false) ≡ true = e in let m : (false || false) ≡ true = subst (λ z. (z || false) ≡ true) f k in cc) ]

no_minus : (more : List ℕ) → 45 ∷ more ≡ codes "0" → ⊥
no_minus more e = let i : 45 ≡ 48 = ap (λ t. slice_index t 0) e in omega (arith, i)

-- what is one of a list's words goes on as what it is
step : (vars : ℕ) (full : Bool) (text : List ℕ) (part : Part) (b : ℕ) (to : Part) → IsPart vars full text part → part_next vars full part b ≡ Ok to → IsPart vars full (text ++ b ∷ []) to
step vars full text Gap b to h e = subst (λ t. IsPart vars full (t ++ b ∷ []) to) (sym h) (one (first_next vars full b) (first_is vars full b) e)
  where
    one : (r : Result Part ParseFaultKind) → First vars full b r → r ≡ Ok to → IsPart vars full (b ∷ []) to
    one r (IsZero t) k = let i : to ≡ Zero = cc in subst (IsPart vars full (b ∷ [])) (sym i) (ap (λ z. z ∷ []) (eqb-true b 48 t))
    one r (IsNone f g) k = cc
    one r (IsLong f g t) k = cc
    one r (IsMinus g n m) k =
        let i : to ≡ Minus = cc in
        let room : 1 ≤ vars = minus_room vars (subst (λ z. begins_literal vars z ≡ true) m g) in
        let begun : BeginsWord vars full (b ∷ []) = subst (λ z. BeginsWord vars full (z ∷ [])) (sym m) (49 ∷ [], inr (n, literal 1 true, one_literal vars room)) in
        subst (IsPart vars full (b ∷ [])) (sym i) (ap (λ z. z ∷ []) m, begun)
    one r (IsDigit n m g) k =
        let i : to ≡ Digits (literal (with_digit 0 b) false) = cc in
        subst (IsPart vars full (b ∷ [])) (sym i) (n, digit_step vars false [] b (inl refl) g)
step vars full text Minus b to (h, (more, w)) e =
    let g = digit_ok vars true 0 b to e in
    let n : full ≡ false = elim w [ inl z ↦ absurd (no_minus more (ap (λ t. t ++ more) (sym h) ∙ z)) | inr z ↦ z.0 ] in
    let l : literal_of vars (text ++ b ∷ []) ≡ Some (literal (with_digit 0 b) true) = ap (λ t. literal_of vars (t ++ b ∷ [])) h ∙ digit_step vars true [] b (inl refl) g.0 in
    subst (IsPart vars full (text ++ b ∷ [])) (sym g.1) (n, l)
step vars full text Zero b to h e = cc
step vars full text (Digits l) b to (n, h) e =
    let g = digit_ok vars l.negated l.var b to e in
    let d = has_digits vars text l h in
    let t : text ++ b ∷ [] ≡ signed l.negated (d.digits ++ b ∷ []) = ap (λ z. z ++ b ∷ []) d.are ∙ push l.negated d.digits in
    let o : goes_on vars (value d.digits) b ≡ true = subst (λ z. goes_on vars z b ≡ true) d.var g.0 in
    let i : literal_of vars (text ++ b ∷ []) ≡ Some (literal (with_digit l.var b) l.negated) =
    ap (literal_of vars) t ∙ digit_step vars l.negated d.digits b (inr d.number) o ∙ ap (λ z. Some (literal (with_digit z b) l.negated)) (sym d.var) in
    subst (IsPart vars full (text ++ b ∷ [])) (sym g.1) (n, i)
  where
    push : (negated : Bool) (ds : List ℕ) → signed negated ds ++ b ∷ [] ≡ signed negated (ds ++ b ∷ [])
    push true ds = refl
    push false ds = refl

-- and begins one
begun : (vars : ℕ) (full : Bool) (text : List ℕ) (part : Part) → IsPart vars full text part → BeginsWord vars full text
begun vars full text Gap h = (codes "0", inl (ap (λ t. t ++ codes "0") h))
begun vars full text Minus h = h.1
begun vars full text Zero h = ([], inl (append-nil text ∙ h))
begun vars full text (Digits l) (n, h) = ([], inr (n, l, ap (literal_of vars) (append-nil text) ∙ h))

-- a literal's first byte begins one
pub literal_first : (vars b : ℕ) (more : List ℕ) (l : LitOf) → literal_of vars (b ∷ more) ≡ Some l → (begins_literal vars b ≡ true) × (eqb b 48 ≡ false)
literal_first vars b more l h =
    elim (cases_Bool (eqb b 45)) [
      | inl t ↦
          let i : b ≡ 45 = eqb-true b 45 t in
          let w = some_digits vars true more l (subst (λ z. literal_of vars (z ∷ more) ≡ Some l) i h) in
          let a = number_above more w.0 in
          let o : leb 1 vars ≡ true = le-leb 1 vars (omega (arith, a, w.1)) in
          (subst (λ z. begins_literal vars z ≡ true) (sym i) (let k : (leb 1 vars || false) ≡ true = ap (λ z. z || false) o in k), subst (λ z. eqb z 48 ≡ false) (sym i) refl)
      | inr f ↦
          let d : of_digits vars false (b ∷ more) ≡ Some l = sym (literal_plain vars b more f) ∙ h in
          let g : goes_on vars 0 b ≡ true = digit_back vars false [] b more l d in
          let s = some_digits vars false (b ∷ more) l d in
          let e : begins_literal vars b ≡ true = (let k : begins_literal vars b ≡ goes_on vars 0 b = rw f refl in k ∙ g) in
          (e, elim (cases_Bool (eqb b 48)) [ inr x ↦ x | inl t ↦ absurd (let z : is_number (48 ∷ more) ≡ true = subst (λ y. is_number (y ∷ more) ≡ true) (eqb-true b 48 t) s.0 in zero_first more z) ])
    ]
  where
    zero_first : (more : List ℕ) → is_number (48 ∷ more) ≡ true → ⊥
    zero_first more z = let w = both_true (list_all is_digit (48 ∷ more)) (not (eqb 48 48)) z in let k : false ≡ true = w.1 in cc

-- after a byte that isn't read no word of a list goes on
stop : (vars : ℕ) (full : Bool) (text : List ℕ) (part : Part) (b : ℕ) (k : ParseFaultKind) → IsPart vars full text part → part_next vars full part b ≡ Err k → BeginsWord vars full (text ++ b ∷ []) → ⊥
stop vars full text Gap b k h e (more, w) = one (first_next vars full b) (first_is vars full b) e (subst (λ t. IsListWord vars full ((t ++ b ∷ []) ++ more)) h w)
  where
    one : (r : Result Part ParseFaultKind) → First vars full b r → r ≡ Err k → IsListWord vars full (b ∷ more) → ⊥
    one r (IsZero t) x v = cc
    one r (IsNone f g) x (inl z) = let i : b ≡ 48 = cc in let y : eqb 48 48 ≡ false = subst (λ z. eqb z 48 ≡ false) i f in cc
    one r (IsNone f g) x (inr (n, l, z)) = let y = literal_first vars b more l z in let q : true ≡ false = sym y.0 ∙ g in cc
    one r (IsLong f g t) x (inl z) = let i : b ≡ 48 = cc in let y : eqb 48 48 ≡ false = subst (λ z. eqb z 48 ≡ false) i f in cc
    one r (IsLong f g t) x (inr (n, l, z)) = let q : true ≡ false = sym t ∙ n in cc
    one r (IsMinus g n m) x v = cc
    one r (IsDigit n m g) x v = cc
stop vars full text Minus b k (h, s) e (more, w) =
    let v : IsListWord vars full (45 ∷ b ∷ more) = subst (λ t. IsListWord vars full ((t ++ b ∷ []) ++ more)) h w in
    elim v [
      | inl z ↦ cc
      | inr z ↦ let g = digit_back vars true [] b more z.1 z.2 in let d = digit_none vars true 0 b k e in let q : true ≡ false = sym g ∙ d.0 in cc
    ]
stop vars full text Zero b k h e (more, w) =
    let v : IsListWord vars full (48 ∷ b ∷ more) = subst (λ t. IsListWord vars full ((t ++ b ∷ []) ++ more)) h w in
    elim v [ inl z ↦ cc | inr z ↦ let y = literal_first vars 48 (b ∷ more) z.1 z.2 in let q : true ≡ false = y.1 in cc ]
stop vars full text (Digits l) b k (n, h) e (more, w) =
    let d = has_digits vars text l h in
    let a : (text ++ b ∷ []) ++ more ≡ text ++ b ∷ more = append_assoc text (b ∷ []) more in
    elim w [
      | inl z ↦ absurd (short text (has_some l d) (sym a ∙ z))
      | inr z ↦
          let x : literal_of vars (text ++ b ∷ more) ≡ Some z.1 = ap (literal_of vars) (sym a) ∙ z.2 in
          let y : of_digits vars l.negated (d.digits ++ b ∷ more) ≡ Some z.1 = plain l.negated d.digits d.number z.1 (subst (λ t. literal_of vars (t ++ b ∷ more) ≡ Some z.1) d.are x) in
          let g : goes_on vars (value d.digits) b ≡ true = digit_back vars l.negated d.digits b more z.1 y in
          let q : true ≡ false = sym g ∙ subst (λ v. goes_on vars v b ≡ false) d.var (digit_none vars l.negated l.var b k e).0 in cc
    ]
  where
    has_some : (l : LitOf) → HasDigits vars text l → 1 ≤ length text
    has_some l d = subst (λ t. 1 ≤ length t) (sym d.are) (of l.negated d.digits d.number)
      where
        of : (negated : Bool) (ds : List ℕ) → is_number ds ≡ true → 1 ≤ length (signed negated ds)
        of true ds g = omega arith
        of false [] g = cc
        of false (c ∷ cs) g = omega arith

    short : (t : List ℕ) → 1 ≤ length t → t ++ b ∷ more ≡ codes "0" → ⊥
    short t g z = let len : length (t ++ b ∷ more) ≡ 1 = ap length z in let s = length-append t (b ∷ more) in omega (arith, g, len, s)

    plain : (negated : Bool) (ds : List ℕ) → is_number ds ≡ true → (x : LitOf) → literal_of vars (signed negated ds ++ b ∷ more) ≡ Some x → of_digits vars negated (ds ++ b ∷ more) ≡ Some x
    plain true ds g x z = z
    plain false [] g x z = cc
    plain false (c ∷ cs) g x z =
        let w = both_true (list_all is_digit (c ∷ cs)) (not (eqb c 48)) g in
        let f : eqb c 45 ≡ false = digit_no_minus c (both_true (is_digit c) (list_all is_digit cs) w.0).0 in
        sym (literal_plain vars c (cs ++ b ∷ more) f) ∙ z

-- why a byte isn't read
kind_of : (vars : ℕ) (full : Bool) (part : Part) (b : ℕ) (k : ParseFaultKind) → part_next vars full part b ≡ Err k
    → (k ≡ BadLiteral) ⊎ ((k ≡ LineTooLong) × (part ≡ Gap) × (full ≡ true) × (begins_literal vars b ≡ true))
kind_of vars full Gap b k e = one (first_next vars full b) (first_is vars full b) e
  where
    one : (r : Result Part ParseFaultKind) → First vars full b r → r ≡ Err k → (k ≡ BadLiteral) ⊎ ((k ≡ LineTooLong) × (Gap ≡ Gap) × (full ≡ true) × (begins_literal vars b ≡ true))
    one r (IsZero t) x = cc
    one r (IsNone f g) x = let i : k ≡ BadLiteral = cc in inl i
    one r (IsLong f g t) x = let i : k ≡ LineTooLong = cc in inr (i, refl, t, g)
    one r (IsMinus g n m) x = cc
    one r (IsDigit n m g) x = cc
kind_of vars full Minus b k e = inl (digit_none vars true 0 b k e).1
kind_of vars full Zero b k e = let i : k ≡ BadLiteral = cc in inl i
kind_of vars full (Digits l) b k e = inl (digit_none vars l.negated l.var b k e).1

-- a byte that begins a literal
begins_is : (vars b : ℕ) → begins_literal vars b ≡ true → BeginsLiteral vars (b ∷ [])
begins_is vars b h =
    elim (cases_Bool (eqb b 45)) [
      | inl t ↦
          let i : b ≡ 45 = eqb-true b 45 t in
          let room : 1 ≤ vars = minus_room vars (subst (λ z. begins_literal vars z ≡ true) i h) in
          subst (λ z. BeginsLiteral vars (z ∷ [])) (sym i) (49 ∷ [], literal 1 true, one_literal vars room)
      | inr f ↦ ([], literal (with_digit 0 b) false, digit_step vars false [] b (inl refl) (begins_digit vars b h f))
    ]

-- no part of a word but none is empty
no_text : (vars : ℕ) (full : Bool) (text : List ℕ) (part : Part) → IsPart vars full text part → text ≡ [] → part ≡ Gap
no_text vars full text Gap h e = refl
no_text vars full text Minus (h, s) e = absurd (let k : codes "-" ≡ [] = sym h ∙ e in cc)
no_text vars full text Zero h e = absurd (let k : codes "0" ≡ [] = sym h ∙ e in cc)
no_text vars full text (Digits l) (n, h) e = absurd (let k : literal_of vars [] ≡ Some l = ap (literal_of vars) (sym e) ∙ h in cc)

module _ (vars : ℕ) (full : Bool) (text : List ℕ) (part : Part) (b : ℕ) (bs : List ℕ) (k : ParseFaultKind) (h : IsPart vars full text part) (e : part_next vars full part b ≡ Err k) where
  not_line : k ≡ BadLine → ⊥
  not_line i = elim (kind_of vars full part b k e) [ inl j ↦ (let q : BadLiteral ≡ BadLine = sym j ∙ i in cc) | inr j ↦ (let q : LineTooLong ≡ BadLine = sym j.0 ∙ i in cc) ]

  long_is : k ≡ LineTooLong → (full ≡ true) × (text ≡ []) × BeginsLiteral vars (b ∷ [])
  long_is i =
      elim (kind_of vars full part b k e) [
        | inl j ↦ absurd (let q : BadLiteral ≡ LineTooLong = sym j ∙ i in cc)
        | inr j ↦ (j.2, subst (IsPart vars full text) j.1 h, begins_is vars b j.3)
      ]

  is_long : (full ≡ true) × (text ≡ []) × BeginsLiteral vars (b ∷ []) → k ≡ LineTooLong
  is_long (t, n, (more, l, z)) =
      let p : part ≡ Gap = no_text vars full text part h n in
      let w = literal_first vars b more l z in
      one (first_next vars full b) (first_is vars full b) (subst (λ q. part_next vars full q b ≡ Err k) p e) w
    where
      one : (r : Result Part ParseFaultKind) → First vars full b r → r ≡ Err k → (begins_literal vars b ≡ true) × (eqb b 48 ≡ false) → k ≡ LineTooLong
      one r (IsZero y) x w = cc
      one r (IsNone f g) x w = absurd (let q : true ≡ false = sym w.0 ∙ g in cc)
      one r (IsLong f g y) x w = cc
      one r (IsMinus g y m) x w = cc
      one r (IsDigit y m g) x w = cc

  misfit : IsMisfit vars full (text ++ b ∷ bs) k (length text)
  misfit = record {
    front = text;
    byte = b;
    rest = bs;
    are = refl;
    place = refl;
    before = begun vars full text part h;
    past = stop vars full text part b k h e;
    not_line = not_line;
    too_long = (long_is, is_long);
  }

-- from what is read so far on
read_on : (vars : ℕ) (full : Bool) (u : List ℕ) (text : List ℕ) (part : Part) → IsPart vars full text part → IsRead vars full (text ++ u) (shift (length text) (scan vars full part u))
read_on vars full [] text part h = subst (λ t. IsPart vars full t part) (sym (append-nil text)) h
read_on vars full (b ∷ bs) text part h = on (part_next vars full part b) refl (λ to k. read_on vars full bs (text ++ b ∷ []) to k)
  where
    on : (r : Result Part ParseFaultKind) → part_next vars full part b ≡ r
        → ((to : Part) → IsPart vars full (text ++ b ∷ []) to → IsRead vars full ((text ++ b ∷ []) ++ bs) (shift (length (text ++ b ∷ [])) (scan vars full to bs)))
        → IsRead vars full (text ++ b ∷ bs) (shift (length text) (elim r as (λ _. Scanned Part) [ Ok next ↦ shift 1 (scan vars full next bs) | Err kind ↦ Misfit kind 0 ]))
    on (Ok to) e again =
        let k = again to (step vars full text part b to h e) in
        let len : length (text ++ b ∷ []) ≡ length text + 1 = length-append text (b ∷ []) in
        let s : shift (length (text ++ b ∷ [])) (scan vars full to bs) ≡ shift (length text) (shift 1 (scan vars full to bs)) =
        ap (λ n. shift n (scan vars full to bs)) len ∙ sym (shift_shift (length text) 1 (scan vars full to bs)) in
        subst (IsRead vars full (text ++ b ∷ bs)) s (subst (λ t. IsRead vars full t (shift (length (text ++ b ∷ [])) (scan vars full to bs))) (append_assoc text (b ∷ []) bs) k)
    on (Err k) e again = subst (λ n. IsMisfit vars full (text ++ b ∷ bs) k n) (let z : length text ≡ length text + 0 = omega arith in z) (misfit vars full text part b bs k h e)

pub word_read : (vars : ℕ) (full : Bool) (text : List ℕ) → IsRead vars full text (scan vars full Gap text)
word_read vars full text = subst (IsRead vars full text) (none (scan vars full Gap text)) (read_on vars full text [] Gap refl)
  where
    none : (s : Scanned Part) → shift 0 s ≡ s
    none (Reads part) = refl
    none (Misfit k n) = ap (Misfit k) (omega arith)
