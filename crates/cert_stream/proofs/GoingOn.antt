-- What was said stays said.
use Rattle.std.proofs.Common.{◌≡◌, ◌⊎◌, ℕ, ◌+◌, Bool, true, false, cond, ◌&&◌, eqb, List, [], ◌∷◌, ◌++◌, Some, refl, ap, sym, ◌∙◌, inl, inr, subst, append_assoc}
use Rattle.std.proofs.lemmas.Bool.{cases_Bool, eqb-true}
use Rattle.std.proofs.lemmas.List.{append-nil}
use Rattle.cnf_form.specs.Cnf.{LitOf}
use Rattle.cert_stream.specs.Text.{is_blank}
use Rattle.cert_stream.specs.Machine.{DrupOf, turn, ended}
use Rattle.cert_stream.specs.Telling.{Saying, IsUnknown, told_by, fresh}
use Rattle.cert_stream.specs.Stream.{sayings, ended_says}
use Rattle.cert_stream.specs.declared.mode.ListKind.{ListKind}
use Rattle.cert_stream.specs.declared.mode.ListKind.TheVariants.{Clause, Deletion, Values}
use Rattle.cert_stream.specs.declared.mode.Part.TheVariants.{Gap, Minus, Zero, Digits}
use Rattle.cert_stream.specs.declared.mode.Mode.{Mode}
use Rattle.cert_stream.specs.declared.mode.Mode.TheVariants.{Start, Skip, Head, StatusHead, StatusGap, Spelled, Whole, InList, Closed, Bad, Lost}
use Rattle.cert_stream.proofs.Turning.{parser}
use Rattle.cert_stream.proofs.Speaking.{speak, speak_is, last_of, bad_ever}
use Rattle.cert_stream.proofs.Streams.{stream_spoken}

-- all begins with the front
abbrev pub Starts : {X : Type 0} → List X → List X → Type 0
Starts {X} front all = (more : List X) × (all ≡ front ++ more)

module _ {X : Type 0} where
  pub starts_none : (all : List X) → Starts [] all
  starts_none all = (all, refl)

  pub starts_told : (told front all : List X) → Starts front all → Starts (told ++ front) (told ++ all)
  starts_told told front all (more, e) = (more, ap (λ z. told ++ z) e ∙ sym (append_assoc told front more))

  pub no_end : (unknown : List X) (n : ℕ) → cond (eqb n 7 && false) unknown [] ≡ []
  no_end unknown n = elim (cases_Bool (eqb n 7)) [ inl t ↦ rw t refl | inr f ↦ rw f refl ]

-- whatever follows, and where the stream ends
module _ (ended : Bool) (vars taken place : ℕ) (lits : List LitOf) (rest : List ℕ) where
  last_goes_on : (m : Mode) → Starts (last_of false place lits m) (speak ended (parser vars taken place m lits) rest)
  last_goes_on (Start amid) = starts_none _
  last_goes_on (Skip amid) = starts_none _
  last_goes_on (Head kind) = starts_none _
  last_goes_on StatusHead = starts_none _
  last_goes_on StatusGap = starts_none _
  last_goes_on (Spelled n) = subst (λ z. Starts z (speak ended (parser vars taken place (Spelled n) lits) rest)) (sym (no_end (IsUnknown ∷ []) n)) (starts_none _)
  last_goes_on Whole = starts_none _
  last_goes_on (InList kind Gap) = starts_none _
  last_goes_on (InList kind Minus) = starts_none _
  last_goes_on (InList kind Zero) = starts_none _
  last_goes_on (InList kind (Digits l)) = starts_none _
  last_goes_on Closed = starts_none _
  last_goes_on (Bad f) = ([], bad_ever ended f vars taken place lits rest)
  last_goes_on Lost = starts_none _

goes_on : (ended : Bool) (bytes rest : List ℕ) (w : DrupOf) → Starts (speak false w bytes) (speak ended w (bytes ++ rest))
goes_on ended [] rest w = last_goes_on ended w.vars w.taken w.place w.lits rest w.mode
goes_on ended (b ∷ bs) rest w =
    starts_told (told_by (turn w b).to (turn w b).event) (speak false (turn w b).to bs) (speak ended (turn w b).to (bs ++ rest)) (goes_on ended bs rest (turn w b).to)

-- the end counts with a line feed too
zero_fed : (vars taken place : ℕ) (lits : List LitOf) (rest : List ℕ) (kind : ListKind) → Starts (ended_says kind place lits ∷ []) (speak false (parser vars taken place (InList kind Zero) lits) (10 ∷ rest))
zero_fed vars taken place lits rest Clause = (_, refl)
zero_fed vars taken place lits rest Deletion = (_, refl)
zero_fed vars taken place lits rest Values = (_, refl)

module _ (vars taken place : ℕ) (lits : List LitOf) (rest : List ℕ) where
  spelled_feed : (n : ℕ) → Starts (cond (eqb n 7 && true) (IsUnknown ∷ []) []) (speak false (parser vars taken place (Spelled n) lits) (10 ∷ rest))
  spelled_feed n = elim (cases_Bool (eqb n 7)) [ inl t ↦ rw t (speak false (parser vars (taken + 1) place (Start false) lits) rest, refl) | inr f ↦ rw f (starts_none _) ]

  last_fed : (m : Mode) → Starts (last_of true place lits m) (speak false (parser vars taken place m lits) (10 ∷ rest))
  last_fed (Start amid) = starts_none _
  last_fed (Skip amid) = starts_none _
  last_fed (Head kind) = starts_none _
  last_fed StatusHead = starts_none _
  last_fed StatusGap = starts_none _
  last_fed (Spelled n) = spelled_feed n
  last_fed Whole = (speak false (parser vars (taken + 1) place (Start false) lits) rest, refl)
  last_fed (InList kind Gap) = starts_none _
  last_fed (InList kind Minus) = starts_none _
  last_fed (InList kind Zero) = zero_fed vars taken place lits rest kind
  last_fed (InList kind (Digits l)) = starts_none _
  last_fed Closed = starts_none _
  last_fed (Bad f) = ([], bad_ever false f vars taken place lits (10 ∷ rest))
  last_fed Lost = starts_none _

fed : (bytes rest : List ℕ) (w : DrupOf) → Starts (speak true w bytes) (speak false w (bytes ++ 10 ∷ rest))
fed [] rest w = last_fed w.vars w.taken w.place w.lits rest w.mode
fed (b ∷ bs) rest w =
    starts_told (told_by (turn w b).to (turn w b).event) (speak true (turn w b).to bs) (speak false (turn w b).to (bs ++ 10 ∷ rest)) (fed bs rest (turn w b).to)

-- and with white space, but for what UNKNOWN says
module _ {X : Type 0} (unknown : X) where
  pub record Parted (at_end all : List X) : Type 0 where
    pub said : List X
    pub starts : Starts said all
    pub ends : (at_end ≡ said) ⊎ (at_end ≡ said ++ unknown ∷ [])

  pub parted_same : (at_end all : List X) → Starts at_end all → Parted at_end all
  parted_same at_end all h = record { said = at_end; starts = h; ends = inl refl }

  pub parted_told : (told at_end all : List X) → Parted at_end all → Parted (told ++ at_end) (told ++ all)
  parted_told told at_end all h =
      record {
        said = told ++ h.said;
        starts = starts_told told h.said all h.starts;
        ends = elim h.ends [ inl e ↦ inl (ap (λ z. told ++ z) e) | inr e ↦ inr (ap (λ z. told ++ z) e ∙ sym (append_assoc told h.said (unknown ∷ []))) ];
      }

  pub maybe_unknown : (c : Bool) (all : List X) → Parted (cond c (unknown ∷ []) []) all
  maybe_unknown true all = record { said = []; starts = starts_none all; ends = inr refl }
  maybe_unknown false all = record { said = []; starts = starts_none all; ends = inl refl }

module _ (vars taken place : ℕ) (lits : List LitOf) (b : ℕ) (rest : List ℕ) (h : eqb b 10 ≡ false) (g : is_blank b ≡ true) where
  zero_blank : (kind : ListKind) → Starts (ended_says kind place lits ∷ []) (speak false (parser vars taken place (InList kind Zero) lits) (b ∷ rest))
  zero_blank kind = rw (h, g) (of kind)
    where
      of : (kind : ListKind) → Starts (ended_says kind place lits ∷ [])
          (told_by (parser vars (taken + 1) place Closed lits) (Some (ended kind)) ++ speak false (parser vars (taken + 1) place Closed lits) rest)
      of Clause = (_, refl)
      of Deletion = (_, refl)
      of Values = (_, refl)

  last_parted : (m : Mode) → Parted IsUnknown (last_of true place lits m) (speak false (parser vars taken place m lits) (b ∷ rest))
  last_parted (Start amid) = parted_same IsUnknown _ _ (starts_none _)
  last_parted (Skip amid) = parted_same IsUnknown _ _ (starts_none _)
  last_parted (Head kind) = parted_same IsUnknown _ _ (starts_none _)
  last_parted StatusHead = parted_same IsUnknown _ _ (starts_none _)
  last_parted StatusGap = parted_same IsUnknown _ _ (starts_none _)
  last_parted (Spelled n) = maybe_unknown IsUnknown (eqb n 7 && true) _
  last_parted Whole = maybe_unknown IsUnknown true _
  last_parted (InList kind Gap) = parted_same IsUnknown _ _ (starts_none _)
  last_parted (InList kind Minus) = parted_same IsUnknown _ _ (starts_none _)
  last_parted (InList kind Zero) = parted_same IsUnknown _ _ (zero_blank kind)
  last_parted (InList kind (Digits l)) = parted_same IsUnknown _ _ (starts_none _)
  last_parted Closed = parted_same IsUnknown _ _ (starts_none _)
  last_parted (Bad f) = parted_same IsUnknown _ _ ([], bad_ever false f vars taken place lits (b ∷ rest))
  last_parted Lost = parted_same IsUnknown _ _ (starts_none _)

parted : (bytes : List ℕ) (b : ℕ) (rest : List ℕ) → eqb b 10 ≡ false → is_blank b ≡ true → (w : DrupOf) → Parted IsUnknown (speak true w bytes) (speak false w (bytes ++ b ∷ rest))
parted [] b rest h g w = last_parted w.vars w.taken w.place w.lits b rest h g w.mode
parted (c ∷ bs) b rest h g w =
    parted_told IsUnknown (told_by (turn w c).to (turn w c).event) (speak true (turn w c).to bs) (speak false (turn w c).to (bs ++ b ∷ rest)) (parted bs b rest h g (turn w c).to)

pub blank_no_feed : (b : ℕ) → is_blank b ≡ true → eqb b 10 ≡ false
blank_no_feed b g =
    elim (cases_Bool (eqb b 10)) [
      | inr f ↦ f
      | inl t ↦ absurd (let i : b ≡ 10 = eqb-true b 10 t in let e : is_blank 10 ≡ true = subst (λ z. is_blank z ≡ true) i g in cc)
    ]

module _ (vars : ℕ) where
  said_is : (ended : Bool) (bytes : List ℕ) → speak ended (fresh vars) bytes ≡ sayings vars ended bytes
  said_is ended bytes = speak_is ended (fresh vars) bytes ∙ stream_spoken vars ended bytes

  pub sayings_more : (ended : Bool) (bytes rest : List ℕ) → (more : List Saying) × (sayings vars ended (bytes ++ rest) ≡ sayings vars false bytes ++ more)
  sayings_more ended bytes rest =
      let h = goes_on ended bytes rest (fresh vars) in
      (h.0, sym (said_is ended (bytes ++ rest)) ∙ h.1 ∙ ap (λ z. z ++ h.0) (said_is false bytes))

  pub sayings_end : (bytes : List ℕ) → (more : List Saying) × (sayings vars true bytes ≡ sayings vars false bytes ++ more)
  sayings_end bytes = let h = sayings_more true bytes [] in (h.0, ap (sayings vars true) (sym (append-nil bytes)) ∙ h.1)

  pub sayings_fed : (bytes rest : List ℕ) → (more : List Saying) × (sayings vars false (bytes ++ 10 ∷ rest) ≡ sayings vars true bytes ++ more)
  sayings_fed bytes rest = let h = fed bytes rest (fresh vars) in (h.0, sym (said_is false (bytes ++ 10 ∷ rest)) ∙ h.1 ∙ ap (λ z. z ++ h.0) (said_is true bytes))

  pub sayings_parted : (bytes rest : List ℕ) (b : ℕ) → is_blank b ≡ true
      → (said : List Saying) × (more : List Saying) × (sayings vars false (bytes ++ b ∷ rest) ≡ said ++ more)
      × ((sayings vars true bytes ≡ said) ⊎ (sayings vars true bytes ≡ said ++ IsUnknown ∷ []))
  sayings_parted bytes rest b g =
      let h = parted bytes b rest (blank_no_feed b g) g (fresh vars) in
      let e = sym (said_is true bytes) in
      (h.said, h.starts.0, sym (said_is false (bytes ++ b ∷ rest)) ∙ h.starts.1, elim h.ends [ inl k ↦ inl (e ∙ k) | inr k ↦ inr (e ∙ k) ])
