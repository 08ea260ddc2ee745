-- Ids as digits write them.
use Rattle.std.proofs.Common.{◌≡◌, ◌≢◌, ◌⊎◌, ℕ, ◌≤◌, Bool, true, false, cond, not, ◌&&◌, eqb, leb, List, [], ◌∷◌, ◌++◌, Some, None, Result, Ok, Err, refl, ap, sym, ◌∙◌, inl, inr, subst, append_assoc, codes}
use Rattle.std.proofs.lemmas.Bool.{cases_Bool, eqb-true, le-leb, leb-true}
use Rattle.std.proofs.lemmas.List.{append-nil}
use Rattle.cert_stream.specs.Text.{id_of, is_digit, is_number}
use Rattle.cert_stream.specs.Machine.{literal, with_digit}
use Rattle.cert_stream.specs.Scan.{Scanned, Reads, Misfit, shift, scan_by}
use Rattle.cert_stream.specs.LratMachine.{begins_id, hint, id_goes_on, most_id, takes_minus}
use Rattle.cert_stream.specs.LratScan.{first_next, own_next, part_next}
use Rattle.cert_stream.specs.declared.mode.ParseFaultKind.{ParseFaultKind}
use Rattle.cert_stream.specs.declared.mode.ParseFaultKind.TheVariants.{BadLiteral, LineTooLong}
use Rattle.cert_stream.specs.declared.lrat.mode.IdList.{IdList}
use Rattle.cert_stream.specs.declared.lrat.mode.IdList.TheVariants.{Hints, Deletion}
use Rattle.cert_stream.specs.declared.lrat.mode.IdPart.{IdPart}
use Rattle.cert_stream.specs.declared.lrat.mode.IdPart.TheVariants.{Gap, Minus, Zero, Digits}
use Rattle.cert_stream.proofs.Digits.{IsFront, both_true, digit_back, digit_no_minus, goes_on_is, number_front, number_push, of_digits, value, value_push}
use Rattle.cert_stream.proofs.Scanning.{unshift}

-- a number that is an id's
abbrev pub IsId : List ℕ → Type 0
IsId ds = (is_number ds ≡ true) × (value ds ≤ most_id)

pub id_is : (text : List ℕ) (n : ℕ) → id_of text ≡ Some n → IsId text × (n ≡ value text)
id_is text n h = on (is_number text && leb (value text) most_id) refl h
  where
    on : (b : Bool) → (is_number text && leb (value text) most_id) ≡ b → cond b (Some (value text)) None ≡ Some n → IsId text × (n ≡ value text)
    on true e k = let w = both_true (is_number text) (leb (value text) most_id) e in let i : n ≡ value text = cc in ((w.0, leb-true (value text) most_id w.1), i)
    on false e k = cc

pub is_id : (text : List ℕ) → IsId text → id_of text ≡ Some (value text)
is_id text (n, l) = rw (n, le-leb (value text) most_id l) refl

of_id : (text : List ℕ) → IsId text → of_digits most_id false text ≡ Some (literal (value text) false)
of_id text (n, l) = rw (n, le-leb (value text) most_id l) refl

-- digits, one after the other
module _ {A : Type 0} (next : A → ℕ → Result A ParseFaultKind) (of : ℕ → A) where
  abbrev on : Result A ParseFaultKind → List ℕ → Scanned A
  on r u = elim r as (λ _. Scanned A) [ Ok x ↦ shift 1 (scan_by next x u) | Err k ↦ Misfit k 0 ]

  -- one digit more makes a number
  abbrev Adds : A → ℕ → Type 0
  Adds from n = (b : ℕ) → next from b ≡ cond (id_goes_on n b) (Ok (of (with_digit n b))) (Err BadLiteral)

  -- the digits ds were read, and the text is
  digit_on : (from to : A) (ds : List ℕ) (b : ℕ) (bs : List ℕ) → IsFront ds → Adds from (value ds) → scan_by next from (b ∷ bs) ≡ Reads to
      → IsId (ds ++ b ∷ []) × (scan_by next (of (value (ds ++ b ∷ []))) bs ≡ Reads to)
  digit_on from to ds b bs h adds e = go (id_goes_on (value ds) b) refl (ap (λ r. on r bs) (sym (adds b)) ∙ e)
    where
      go : (g : Bool) → id_goes_on (value ds) b ≡ g → on (cond g (Ok (of (with_digit (value ds) b))) (Err BadLiteral)) bs ≡ Reads to
          → IsId (ds ++ b ∷ []) × (scan_by next (of (value (ds ++ b ∷ []))) bs ≡ Reads to)
      go false g k = cc
      go true g k =
          let w = goes_on_is most_id (value ds) b g in
          let v : value (ds ++ b ∷ []) ≡ with_digit (value ds) b = value_push ds b w.digit in
          ((number_push ds b h w.digit w.above, subst (λ z. z ≤ most_id) (sym v) w.within), ap (λ z. scan_by next (of z) bs) v ∙ unshift (scan_by next (of (with_digit (value ds) b)) bs) to k)

  module _ (adds : (n : ℕ) → Adds (of n) n) where
    digits_read : (to : A) (ds text : List ℕ) → IsId ds → scan_by next (of (value ds)) text ≡ Reads to → IsId (ds ++ text) × (to ≡ of (value (ds ++ text)))
    digits_read to ds [] h e =
        let q : of (value ds) ≡ to = cc in
        (subst IsId (sym (append-nil ds)) h, sym q ∙ ap (λ z. of (value z)) (sym (append-nil ds)))
    digits_read to ds (b ∷ bs) h e =
        let a : (ds ++ b ∷ []) ++ bs ≡ ds ++ b ∷ bs = append_assoc ds (b ∷ []) bs in
        let w = digit_on (of (value ds)) to ds b bs (inr h.0) (adds (value ds)) e in
        let r = digits_read to (ds ++ b ∷ []) bs w.0 w.1 in
        (subst IsId a r.0, r.1 ∙ ap (λ z. of (value z)) a)

    -- from where no digit was read
    pub number_read : (from to : A) (text : List ℕ) → Adds from 0 → text ≢ [] → scan_by next from text ≡ Reads to → IsId text × (to ≡ of (value text))
    number_read from to [] first n e = absurd (n refl)
    number_read from to (b ∷ bs) first n e = let w = digit_on from to [] b bs (inl refl) first e in digits_read to (b ∷ []) bs w.0 w.1

    -- and back
    digit_on_back : (from : A) (ds : List ℕ) (b : ℕ) (bs : List ℕ) → Adds from (value ds) → IsId (ds ++ b ∷ bs)
        → scan_by next (of (value (ds ++ b ∷ []))) bs ≡ Reads (of (value ((ds ++ b ∷ []) ++ bs))) → scan_by next from (b ∷ bs) ≡ Reads (of (value (ds ++ b ∷ bs)))
    digit_on_back from ds b bs first h again =
        let g : id_goes_on (value ds) b ≡ true = digit_back most_id false ds b bs (literal (value (ds ++ b ∷ bs)) false) (of_id (ds ++ b ∷ bs) h) in
        let f = number_front ds b bs h.0 in
        let v : value (ds ++ b ∷ []) ≡ with_digit (value ds) b = value_push ds b f.0 in
        ap (λ r. on r bs) (first b ∙ ap (λ c. cond c (Ok (of (with_digit (value ds) b))) (Err BadLiteral)) g)
        ∙ ap (λ z. shift 1 (scan_by next (of z) bs)) (sym v) ∙ ap (shift 1) again ∙ ap (λ z. Reads (of (value z))) (append_assoc ds (b ∷ []) bs)

    digits_back : (ds text : List ℕ) → IsId (ds ++ text) → scan_by next (of (value ds)) text ≡ Reads (of (value (ds ++ text)))
    digits_back ds [] h = ap (λ z. Reads (of (value z))) (sym (append-nil ds))
    digits_back ds (b ∷ bs) h = digit_on_back (of (value ds)) ds b bs (adds (value ds)) h (digits_back (ds ++ b ∷ []) bs (subst IsId (sym (append_assoc ds (b ∷ []) bs)) h))

    pub number_back : (from : A) (text : List ℕ) → Adds from 0 → IsId text → scan_by next from text ≡ Reads (of (value text))
    number_back from [] first h = absurd (let k = h.0 in cc)
    number_back from (b ∷ bs) first h = digit_on_back from [] b bs first h (digits_back (b ∷ []) bs h)

-- a line's own id
pub own_read : (text : List ℕ) (n : ℕ) → text ≢ [] → scan_by own_next 0 text ≡ Reads n → id_of text ≡ Some n
own_read text n f e = let w = number_read own_next (λ m. m) (λ m b. refl) 0 n text (λ b. refl) f e in is_id text w.0 ∙ ap Some (sym w.1)

pub own_back : (text : List ℕ) (n : ℕ) → id_of text ≡ Some n → scan_by own_next 0 text ≡ Reads n
own_back text n h = let w = id_is text n h in number_back own_next (λ m. m) (λ m b. refl) 0 text (λ b. refl) w.0 ∙ ap Reads (sym w.1)

-- how the first byte of a word of a list of ids is read
data First (kind : IdList) (full : Bool) (place b : ℕ) : Result IdPart ParseFaultKind → Type 0 where
  IsZero : eqb b 48 ≡ true → First kind full place b (Ok Zero)
  IsNone : eqb b 48 ≡ false → begins_id kind b ≡ false → First kind full place b (Err BadLiteral)
  IsLong : eqb b 48 ≡ false → begins_id kind b ≡ true → full ≡ true → First kind full place b (Err LineTooLong)
  IsMinus : takes_minus kind ≡ true → full ≡ false → b ≡ 45 → First kind full place b (Ok (Minus place))
  IsDigit : full ≡ false → eqb b 45 ≡ false → id_goes_on 0 b ≡ true → First kind full place b (Ok (Digits (hint (with_digit 0 b) false place)))

minus_taken : (kind : IdList) → begins_id kind 45 ≡ true → takes_minus kind ≡ true
minus_taken Hints h = refl
minus_taken Deletion h = cc

digit_begins : (kind : IdList) (b : ℕ) → eqb b 45 ≡ false → begins_id kind b ≡ id_goes_on 0 b
digit_begins kind b f = rw f refl

first_is : (kind : IdList) (full : Bool) (place b : ℕ) → First kind full place b (first_next kind full place b)
first_is kind full place b =
    elim (cases_Bool (eqb b 48)) [
      | inl t ↦ rw t (IsZero t)
      | inr f ↦ elim (cases_Bool (begins_id kind b)) [
        | inr g ↦ rw (f, g) (IsNone f g)
        | inl g ↦ elim (cases_Bool full) [
          | inl t ↦ rw (f, g, t) (IsLong f g refl)
          | inr n ↦ elim (cases_Bool (eqb b 45)) [
            | inl t ↦ let i : b ≡ 45 = eqb-true b 45 t in rw (f, g, n, t) (IsMinus (minus_taken kind (subst (λ z. begins_id kind z ≡ true) i g)) refl i)
            | inr m ↦ let o = sym (digit_begins kind b m) ∙ g in rw (f, g, n, m, o) (IsDigit refl m o)
          ]
        ]
      ]
    ]

module _ (kind : IdList) (full : Bool) (place : ℕ) where
  abbrev next : IdPart → ℕ → Result IdPart ParseFaultKind
  next = part_next kind full place

  abbrev digits : Bool → ℕ → IdPart
  digits negated n = Digits (hint n negated place)

  -- what a word of a list of ids is: a minus has its own kind
  abbrev pub IsWord : List ℕ → IdPart → Type 0
  IsWord text Gap = text ≡ []
  IsWord text (Minus at) = (takes_minus kind ≡ true) × (full ≡ false) × (text ≡ codes "-") × (at ≡ place)
  IsWord text Zero = text ≡ codes "0"
  IsWord text (Digits h) =
      (full ≡ false) × (h.place ≡ place)
      × (((h.negated ≡ false) × (id_of text ≡ Some h.id)) ⊎ ((h.negated ≡ true) × (takes_minus kind ≡ true) × (more : List ℕ) × (text ≡ 45 ∷ more) × (id_of more ≡ Some h.id)))

  is_digits : (text : List ℕ) (negated : Bool) (n : ℕ) (part : IdPart) → part ≡ digits negated n → IsWord text (digits negated n) → IsWord text part
  is_digits text negated n part e h = subst (IsWord text) (sym e) h

  zero_end : (bs : List ℕ) (part : IdPart) → scan_by next Zero bs ≡ Reads part → (bs ≡ []) × (part ≡ Zero)
  zero_end [] part e = (refl, let q : Zero ≡ part = cc in sym q)
  zero_end (b ∷ bs) part e = cc

  pub word_is : (text : List ℕ) (part : IdPart) → scan_by next Gap text ≡ Reads part → IsWord text part
  word_is [] part e = let q : Gap ≡ part = cc in subst (IsWord []) q refl
  word_is (b ∷ bs) part e = go (first_next kind full place b) (first_is kind full place b) e
    where
      minus : (bs : List ℕ) → takes_minus kind ≡ true → full ≡ false → scan_by next (Minus place) bs ≡ Reads part → IsWord (45 ∷ bs) part
      minus [] t n k = let q : Minus place ≡ part = cc in subst (IsWord (45 ∷ [])) q (t, n, refl, refl)
      minus (c ∷ cs) t n k =
          let w = number_read next (digits true) (λ m b. refl) (Minus place) part (c ∷ cs) (λ b. refl) (λ q. cc) k in
          is_digits (45 ∷ c ∷ cs) true (value (c ∷ cs)) part w.1 (n, refl, inr (refl, t, c ∷ cs, refl, is_id (c ∷ cs) w.0))

      go : (r : Result IdPart ParseFaultKind) → First kind full place b r → on next (digits false) r bs ≡ Reads part → IsWord (b ∷ bs) part
      go r (IsZero t) k =
          let w = zero_end bs part (unshift (scan_by next Zero bs) part k) in
          subst (IsWord (b ∷ bs)) (sym w.1) (ap (λ z. b ∷ z) w.0 ∙ ap (λ z. z ∷ []) (eqb-true b 48 t))
      go r (IsNone f g) k = cc
      go r (IsLong f g t) k = cc
      go r (IsMinus t n m) k = subst (λ z. IsWord (z ∷ bs) part) (sym m) (minus bs t n (unshift (scan_by next (Minus place) bs) part k))
      go r (IsDigit n m g) k =
          let s = goes_on_is most_id 0 b g in
          let i : IsId (b ∷ []) = (number_push [] b (inl refl) s.digit s.above, subst (λ z. z ≤ most_id) (sym (value_push [] b s.digit)) s.within) in
          let q : scan_by next (digits false (value (b ∷ []))) bs ≡ Reads part = ap (λ z. scan_by next (digits false z) bs) (value_push [] b s.digit) ∙ unshift (scan_by next (digits false (with_digit 0 b)) bs) part k in
          let w = digits_read next (digits false) (λ m b. refl) part (b ∷ []) bs i q in
          is_digits (b ∷ bs) false (value (b ∷ bs)) part w.1 (n, refl, inl (refl, is_id (b ∷ bs) w.0))

  -- an id where there is room, and 0 always
  pub id_back : (text : List ℕ) (n : ℕ) → full ≡ false → id_of text ≡ Some n → scan_by next Gap text ≡ Reads (digits false n)
  id_back [] n f h = cc
  id_back (b ∷ bs) n f h =
      let w = id_is (b ∷ bs) n h in
      let s = number_front [] b bs w.0.0 in
      let g : id_goes_on 0 b ≡ true = digit_back most_id false [] b bs (literal (value (b ∷ bs)) false) (of_id (b ∷ bs) w.0) in
      let m : eqb b 45 ≡ false = digit_no_minus b s.0 in
      let z : eqb b 48 ≡ false = no_zero s.1 in
      let k : begins_id kind b ≡ true = digit_begins kind b m ∙ g in
      let e : first_next kind full place b ≡ Ok (digits false (with_digit 0 b)) = rw (z, k, f, m, g) refl in
      ap (λ r. on next (digits false) r bs) e ∙ ap (λ z. shift 1 (scan_by next (digits false z) bs)) (sym (value_push [] b s.0)) ∙ ap (shift 1) (digits_back next (digits false) (λ m b. refl) (b ∷ []) bs w.0)
      ∙ ap (λ z. Reads (digits false z)) (sym w.1)
    where
      no_zero : is_number (b ∷ []) ≡ true → eqb b 48 ≡ false
      no_zero h = let w = both_true (is_digit b && true) (not (eqb b 48)) h in elim (cases_Bool (eqb b 48)) [ inr f ↦ f | inl t ↦ absurd (let q : not true ≡ true = subst (λ z. not z ≡ true) t w.1 in cc) ]

  pub zero_back : (text : List ℕ) → text ≡ codes "0" → scan_by next Gap text ≡ Reads Zero
  zero_back text e = ap (scan_by next Gap) e
