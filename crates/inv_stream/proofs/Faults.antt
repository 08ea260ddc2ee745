-- A fault stays.
use Rattle.std.proofs.Common.{◌≡◌, ◌⊎◌, ℕ, ◌+◌, Bool, true, false, cond, eqb, ◌&&◌, ◌||◌, List, [], ◌∷◌, ◌++◌, map, Option, Some, None, refl, sym, ap, ◌∙◌, subst, inl, inr}
use Rattle.std.proofs.lemmas.Bool.{cases_Bool, eqb-true}
use Rattle.cnf_form.specs.Cnf.{LitOf}
use Rattle.cert_stream.specs.Machine.{DrupOf, fault_of}
use Rattle.cert_stream.specs.Machine as drup_machine
use Rattle.cert_stream.specs.Telling as drup
use Rattle.cert_stream.specs.Text.{is_blank}
use Rattle.cert_stream.specs.declared.mode.ListKind.TheVariants.{Clause, Deletion, Values}
use Rattle.cert_stream.specs.declared.mode.Mode.{Mode}
use Rattle.cert_stream.specs.declared.mode.Mode.TheVariants as mode
use Rattle.cert_stream.specs.declared.mode.ParseFault.{ParseFault}
use Rattle.cert_stream.specs.declared.mode.Part.TheVariants as word
use Rattle.cert_stream.proofs.Faults.{bad_next}
use Rattle.cert_stream.proofs.Turning.{parser}
use Rattle.inv_stream.specs.Machine.{InvOf, IsNext, Says, begins, ends, fault, fault_by, goes_on, grows, is_clause, is_early, is_space, line_after, parsed, placed, reads, Turn, turn, turn_by}
use Rattle.inv_stream.specs.Spelling.{grown, is_next, named, place_of}
use Rattle.inv_stream.specs.Telling.{after, fresh}
use Rattle.inv_stream.specs.declared.mode.InvFault.{InvFault}
use Rattle.inv_stream.specs.declared.mode.Line.{Line}
use Rattle.inv_stream.specs.declared.mode.Line.TheVariants.{Start, Letter, Word, Named, Inside, Refused, Lost}
use Rattle.inv_stream.specs.declared.mode.Part.{Part}
use Rattle.inv_stream.specs.declared.mode.Spell.{Spell}
use Rattle.inv_stream.specs.declared.mode.Spell.TheVariants.{S}
use Rattle.inv_stream.proofs.Cutting.{after_append}

-- between lines of DRUP text
abbrev Calm : Mode → Type 0
Calm m = ((amid : Bool) × (m ≡ mode.Start amid)) ⊎ (m ≡ mode.Lost)

calm_none : (m : Mode) → Calm m → fault_of m ≡ None
calm_none m (inl (amid, e)) = ap fault_of e
calm_none m (inr e) = ap fault_of e

start_space : (vars taken place : ℕ) (amid : Bool) (lits : List LitOf) (b : ℕ) → is_space b ≡ true → (drup_machine.turn (parser vars taken place (mode.Start amid) lits) b).to.mode ≡ mode.Start amid
start_space vars taken place amid lits b h = elim (cases_Bool (eqb b 10)) [
  | inl t ↦ rw t refl
  | inr f ↦ let k : is_blank b ≡ true = rw f at h in rw (f, k) refl
]

lost_space : (vars taken place : ℕ) (lits : List LitOf) (b : ℕ) → is_space b ≡ true → (drup_machine.turn (parser vars taken place mode.Lost lits) b).to.mode ≡ mode.Lost
lost_space vars taken place lits b h = elim (cases_Bool (eqb b 10)) [
  | inl t ↦ rw t refl
  | inr f ↦ let k : is_blank b ≡ true = rw f at h in rw (f, k) refl
]

space_calm : (p : DrupOf) (b : ℕ) → Calm p.mode → is_space b ≡ true → Calm (drup_machine.turn p b).to.mode
space_calm p b (inl (amid, e)) h = inl (amid, subst (λ (m : Mode). (drup_machine.turn (record p { mode = m }) b).to.mode ≡ mode.Start amid) (sym e) (start_space p.vars p.taken p.place amid p.lits b h))
space_calm p b (inr e) h = inr (subst (λ (m : Mode). (drup_machine.turn (record p { mode = m }) b).to.mode ≡ mode.Lost) (sym e) (lost_space p.vars p.taken p.place p.lits b h))

-- after a line feed, if there is no fault
feed_calm_at : (vars taken place : ℕ) (lits : List LitOf) (m : Mode) → fault_of (drup_machine.turn (parser vars taken place m lits) 10).to.mode ≡ None → Calm (drup_machine.turn (parser vars taken place m lits) 10).to.mode
feed_calm_at vars taken place lits (mode.Start amid) e = inl (amid, refl)
feed_calm_at vars taken place lits (mode.Skip amid) e = inl (amid, refl)
feed_calm_at vars taken place lits (mode.Head Clause) e = cc
feed_calm_at vars taken place lits (mode.Head Deletion) e = cc
feed_calm_at vars taken place lits (mode.Head Values) e = inl (true, refl)
feed_calm_at vars taken place lits mode.StatusHead e = inl (false, refl)
feed_calm_at vars taken place lits mode.StatusGap e = inl (false, refl)
feed_calm_at vars taken place lits (mode.Spelled n) e = elim (cases_Bool (eqb n 7)) [ inl t ↦ rw t (inl (false, refl)) | inr f ↦ rw f (inl (false, refl)) ]
feed_calm_at vars taken place lits mode.Whole e = inl (false, refl)
feed_calm_at vars taken place lits (mode.InList Clause word.Gap) e = cc
feed_calm_at vars taken place lits (mode.InList Deletion word.Gap) e = cc
feed_calm_at vars taken place lits (mode.InList Values word.Gap) e = inl (true, refl)
feed_calm_at vars taken place lits (mode.InList kind word.Minus) e = cc
feed_calm_at vars taken place lits (mode.InList kind word.Zero) e = inl (false, refl)
feed_calm_at vars taken place lits (mode.InList Clause (word.Digits l)) e = cc
feed_calm_at vars taken place lits (mode.InList Deletion (word.Digits l)) e = cc
feed_calm_at vars taken place lits (mode.InList Values (word.Digits l)) e = inl (true, refl)
feed_calm_at vars taken place lits mode.Closed e = inl (false, refl)
feed_calm_at vars taken place lits (mode.Bad f) e = cc
feed_calm_at vars taken place lits mode.Lost e = inr refl

-- outside lines of DRUP text these have no fault
abbrev IsSound : DrupOf → Line → Type 0
IsSound p Start = Calm p.mode
IsSound p Letter = Calm p.mode
IsSound p (Word s) = Calm p.mode
IsSound p (Named part) = Calm p.mode
IsSound p Inside = Unit {0}
IsSound p (Refused f) = Unit {0}
IsSound p Lost = Unit {0}

abbrev pub Sound : InvOf → Type 0
Sound w = IsSound w.parser w.line

read_sound : (w : InvOf) (front : List ℕ) (b : ℕ) → Sound (reads w (front ++ b ∷ []) b).to
read_sound w front b = elim (cases_Bool (eqb b 10)) [
  | inl t ↦ fed (eqb-true b 10 t)
  | inr f ↦ inside f
]
  where
    last : DrupOf
    last = drup.after w.parser front

    is_last : drup.after w.parser (front ++ b ∷ []) ≡ (drup_machine.turn last b).to
    is_last = there w.parser front
      where
        there : (p : DrupOf) (front : List ℕ) → drup.after p (front ++ b ∷ []) ≡ (drup_machine.turn (drup.after p front) b).to
        there p [] = refl
        there p (c ∷ front) = there (drup_machine.turn p c).to front

    by : (p : DrupOf) (o : Option ParseFault) → fault_of p.mode ≡ o → (fault_of p.mode ≡ None → Calm p.mode) → IsSound p (line_after o b)
    by p None e k = elim (cases_Bool (eqb b 10)) [ inl t ↦ rw t (k e) | inr f ↦ rw f tt ]
    by p (Some f) e k = tt

    calm : b ≡ 10 → fault_of (drup_machine.turn last b).to.mode ≡ None → Calm (drup_machine.turn last b).to.mode
    calm t e = subst (λ (c : ℕ). fault_of (drup_machine.turn last c).to.mode ≡ None → Calm (drup_machine.turn last c).to.mode) (sym t) (feed_calm_at last.vars last.taken last.place last.lits last.mode) e

    fed : b ≡ 10 → Sound (reads w (front ++ b ∷ []) b).to
    fed t = by (drup.after w.parser (front ++ b ∷ [])) (fault_of (drup.after w.parser (front ++ b ∷ [])).mode) refl
        (subst (λ (p : DrupOf). fault_of p.mode ≡ None → Calm p.mode) (sym is_last) (calm t))

    inside : eqb b 10 ≡ false → Sound (reads w (front ++ b ∷ []) b).to
    inside f = there (fault_of (drup.after w.parser (front ++ b ∷ [])).mode)
      where
        there : (o : Option ParseFault) → IsSound (drup.after w.parser (front ++ b ∷ [])) (line_after o b)
        there None = rw f tt
        there (Some g) = tt

abbrev AllSpace : List ℕ → Type 0
AllSpace [] = Unit {0}
AllSpace (b ∷ bs) = (is_space b ≡ true) × AllSpace bs

spaces_calm : (p : DrupOf) (blanks : List ℕ) → AllSpace blanks → Calm p.mode → Calm (drup.after p blanks).mode
spaces_calm p [] h k = k
spaces_calm p (b ∷ blanks) (t, h) k = spaces_calm (drup_machine.turn p b).to blanks h (space_calm p b k t)

begin_sound : (w : InvOf) (b : ℕ) → Calm w.parser.mode → Sound (begins w b).to
begin_sound w b k = elim (cases_Bool (eqb b 105)) [
  | inl t ↦ rw t (space_calm w.parser 32 k refl)
  | inr f ↦ rw f (elim (cases_Bool (eqb b 115)) [
    | inl t ↦ rw t k
    | inr g ↦ rw g (elim (cases_Bool (eqb b 118 || is_early w.part b)) [
      | inl t ↦ rw t tt
      | inr h ↦ rw h (elim (cases_Bool (is_clause b && eqb (place_of w.part) 0)) [ inl t ↦ rw t tt | inr i ↦ rw i (read_sound w [] b) ])
    ])
  ])
]

grow_sound : (w : InvOf) (blanks : List ℕ) (s : Option Spell) (byte : ℕ) → AllSpace blanks → Calm w.parser.mode → Sound (grows w blanks s byte).to
grow_sound w blanks None byte h k = tt
grow_sound w blanks (Some s) byte h k = spaces_calm w.parser blanks h k

go_on_by : (w : InvOf) (part : Part) (b : ℕ) (c : Bool) → Calm (drup.after w.parser (b ∷ [])).mode → Sound (cond {A = Turn} c
    (record { to = record w { parser = drup.after w.parser (b ∷ []); part = part; line = Start }; says = map Says (drup.said w.parser (b ∷ [])) ++ IsNext w.place ∷ [] })
    (record { to = record w { parser = drup.after w.parser (b ∷ []); line = Named part }; says = map Says (drup.said w.parser (b ∷ [])) })).to
go_on_by w part b true k = k
go_on_by w part b false k = k

go_on_sound : (w : InvOf) (part : Part) (b : ℕ) → is_space b ≡ true → Calm w.parser.mode → Sound (goes_on w part b).to
go_on_sound w part b h k = go_on_by w part b (eqb b 10) (space_calm w.parser b k h)

end_sound : (w : InvOf) (part : Option Part) (b : ℕ) → is_space b ≡ true → Calm w.parser.mode → Sound (ends w part b).to
end_sound w None b h k = tt
end_sound w (Some part) b h k = elim (cases_Bool (is_next w.part part)) [ inl t ↦ rw t (go_on_sound w part b h k) | inr f ↦ rw f tt ]

turn_sound_by : (w : InvOf) (line : Line) (b : ℕ) → IsSound w.parser line → Sound w → Sound (turn_by w line b).to
turn_sound_by w Start b k s = elim (cases_Bool (is_space b)) [ inl t ↦ rw t (space_calm w.parser b k t) | inr f ↦ rw f (begin_sound (placed w) b k) ]
turn_sound_by w Letter b k s = elim (cases_Bool (is_space b)) [ inl t ↦ rw t (read_sound w (115 ∷ []) b) | inr f ↦ rw f (grow_sound w (32 ∷ 32 ∷ []) (grown S b) (w.parser.taken + 1) (refl, (refl, tt)) k) ]
turn_sound_by w (Word l) b k s = elim (cases_Bool (is_space b)) [ inl t ↦ rw t (end_sound w (named l) b t k) | inr f ↦ rw f (grow_sound w (32 ∷ []) (grown l b) w.parser.taken (refl, tt) k) ]
turn_sound_by w (Named part) b k s = elim (cases_Bool (is_space b)) [ inl t ↦ rw t (go_on_sound w part b t k) | inr f ↦ rw f tt ]
turn_sound_by w Inside b k s = read_sound w [] b
turn_sound_by w (Refused f) b k s = s
turn_sound_by w Lost b k s = s

after_sound : (w : InvOf) (bytes : List ℕ) → Sound w → Sound (after w bytes)
after_sound w [] s = s
after_sound w (b ∷ bytes) s = after_sound (turn w b).to bytes (turn_sound_by w w.line b s s)

-- one byte after a fault
calm_no_fault : (m : Mode) (f : InvFault) → Calm m → parsed (fault_of m) ≡ Some f → ⊥
calm_no_fault m f k e = let n = ap parsed (calm_none m k) in cc

inside_stays : (w : InvOf) (m : Mode) (f : InvFault) (b : ℕ) → w.parser.mode ≡ m → parsed (fault_of m) ≡ Some f → fault (reads w (b ∷ []) b).to ≡ Some f
inside_stays w (mode.Start amid) f b q e = cc
inside_stays w (mode.Skip amid) f b q e = cc
inside_stays w (mode.Head kind) f b q e = cc
inside_stays w mode.StatusHead f b q e = cc
inside_stays w mode.StatusGap f b q e = cc
inside_stays w (mode.Spelled n) f b q e = cc
inside_stays w mode.Whole f b q e = cc
inside_stays w (mode.InList kind part) f b q e = cc
inside_stays w mode.Closed f b q e = cc
inside_stays w (mode.Bad g) f b q e =
    let n : (drup.after w.parser (b ∷ [])).mode ≡ mode.Bad g = bad_next g w.parser b q in
    subst (λ (m : Mode). fault_by (record w { parser = record (drup.after w.parser (b ∷ [])) { mode = m } }) (line_after (fault_of m) b) ≡ Some f) (sym n) e
inside_stays w mode.Lost f b q e = cc

turn_stays_by : (w : InvOf) (line : Line) (f : InvFault) (b : ℕ) → w.line ≡ line → IsSound w.parser line → fault_by w line ≡ Some f → fault (turn_by w line b).to ≡ Some f
turn_stays_by w Start f b q k e = absurd (calm_no_fault w.parser.mode f k e)
turn_stays_by w Letter f b q k e = absurd (calm_no_fault w.parser.mode f k e)
turn_stays_by w (Word s) f b q k e = absurd (calm_no_fault w.parser.mode f k e)
turn_stays_by w (Named part) f b q k e = absurd (calm_no_fault w.parser.mode f k e)
turn_stays_by w Inside f b q k e = inside_stays w w.parser.mode f b refl e
turn_stays_by w (Refused g) f b q k e = ap (fault_by w) q ∙ e
turn_stays_by w Lost f b q k e = cc

stays : (w : InvOf) (f : InvFault) (bytes : List ℕ) → Sound w → fault w ≡ Some f → fault (after w bytes) ≡ Some f
stays w f [] s e = e
stays w f (b ∷ bytes) s e = stays (turn w b).to f bytes (turn_sound_by w w.line b s s) (turn_stays_by w w.line f b refl s e)

pub fault_stays : (vars : ℕ) (f : InvFault) (bytes more : List ℕ) → fault (after (fresh vars) bytes) ≡ Some f → fault (after (fresh vars) (bytes ++ more)) ≡ Some f
fault_stays vars f bytes more e =
    ap fault (after_append (fresh vars) bytes more) ∙ stays (after (fresh vars) bytes) f more (after_sound (fresh vars) bytes (inl (false, refl))) e
