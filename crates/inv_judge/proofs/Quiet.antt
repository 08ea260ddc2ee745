-- After a fault nothing more is said.
use Rattle.std.proofs.Common.{◌≡◌, ℕ, ◌+◌, true, eqb, ◌&&◌, ◌||◌, List, [], ◌∷◌, ◌++◌, map, Option, Some, None, refl, ap, sym, ◌∙◌, subst, inl, inr, arith}
use Rattle.std.proofs.lemmas.Bool.{cases_Bool}
use Rattle.cnf_form.specs.Cnf.{LitOf}
use Rattle.cert_stream.specs.Machine.{DrupOf}
use Rattle.cert_stream.specs.Machine as drup_machine
use Rattle.cert_stream.specs.Telling as drup
use Rattle.cert_stream.specs.Telling.{Saying, told_by}
use Rattle.cert_stream.specs.declared.mode.Event.{Event}
use Rattle.cert_stream.specs.declared.mode.Mode.{Mode}
use Rattle.cert_stream.specs.declared.mode.Mode.TheVariants as mode
use Rattle.cert_stream.specs.declared.mode.ParseFault.{ParseFault}
use Rattle.cert_stream.proofs.Faults.{bad_next}
use Rattle.cert_stream.proofs.Turning.{parser}
use Rattle.inv_stream.specs.Machine.{InvOf, InvSaying, Says, begins, ends, fault, fault_by, grows, is_clause, is_early, is_space, parsed, passes, placed, reads, turn, turn_by}
use Rattle.inv_stream.specs.Spelling.{grown, is_next, named, place_of}
use Rattle.inv_stream.specs.Telling.{after, fresh, said}
use Rattle.cert_stream.specs.declared.mode.ParseFaultKind.TheVariants.{BadLine}
use Rattle.inv_stream.specs.declared.mode.InvFault.{InvFault}
use Rattle.inv_stream.specs.declared.mode.InvFaultKind.{InvFaultKind}
use Rattle.inv_stream.specs.declared.mode.InvFaultKind.TheVariants.{Parse}
use Rattle.inv_stream.specs.declared.mode.Line.{Line}
use Rattle.inv_stream.specs.declared.mode.Line.TheVariants.{Start, Letter, Word, Named, Inside, Refused, Lost}
use Rattle.inv_stream.specs.declared.mode.Part.{Part}
use Rattle.inv_stream.specs.declared.mode.Spell.{Spell}
use Rattle.inv_stream.specs.declared.mode.Spell.TheVariants as spell
use Rattle.inv_stream.proofs.Cutting.{after_append}
use Rattle.inv_stream.proofs.Faults.{fault_stays}

-- lines of DRUP text, after their fault
no_event_at : (g : ParseFault) (vars taken place : ℕ) (lits : List LitOf) (b : ℕ) → (drup_machine.turn (parser vars taken place (mode.Bad g) lits) b).event ≡ None
no_event_at g vars taken place lits b = elim (cases_Bool (eqb b 10)) [
  | inl t ↦ rw t refl
  | inr n ↦ rw n (elim (cases_Bool (eqb b 32)) [ inl t ↦ rw t refl | inr k ↦ rw k (elim (cases_Bool (eqb b 9)) [ inl t ↦ rw t refl | inr j ↦ rw j (elim (cases_Bool (eqb b 13)) [ inl t ↦ rw t refl | inr i ↦ rw i refl ]) ]) ])
]

no_event : (g : ParseFault) (p : DrupOf) (b : ℕ) → p.mode ≡ mode.Bad g → (drup_machine.turn p b).event ≡ None
no_event g p b e = subst (λ (m : Mode). (drup_machine.turn (record p { mode = m }) b).event ≡ None) (sym e) (no_event_at g p.vars p.taken p.place p.lits b)

nothing_told : (g : ParseFault) (p : DrupOf) (bytes : List ℕ) → p.mode ≡ mode.Bad g → drup.said p bytes ≡ []
nothing_told g p [] e = refl
nothing_told g p (b ∷ bytes) e =
    ap (λ (o : Option Event). told_by (drup_machine.turn p b).to o ++ drup.said (drup_machine.turn p b).to bytes) (no_event g p b e)
    ∙ nothing_told g (drup_machine.turn p b).to bytes (bad_next g p b e)

bad_of : (m : Mode) (f : InvFault) → parsed (drup_machine.fault_of m) ≡ Some f → (g : ParseFault) × (m ≡ mode.Bad g)
bad_of (mode.Start amid) f e = cc
bad_of (mode.Skip amid) f e = cc
bad_of (mode.Head kind) f e = cc
bad_of mode.StatusHead f e = cc
bad_of mode.StatusGap f e = cc
bad_of (mode.Spelled n) f e = cc
bad_of mode.Whole f e = cc
bad_of (mode.InList kind part) f e = cc
bad_of mode.Closed f e = cc
bad_of (mode.Bad g) f e = (g, refl)
bad_of mode.Lost f e = cc

module _ (w : InvOf) (g : ParseFault) (m : w.parser.mode ≡ mode.Bad g) where
  passes_nothing : (bytes : List ℕ) (line : Line) → (passes w bytes line).says ≡ []
  passes_nothing bytes line = ap (λ (ss : List Saying). map Says ss) (nothing_told g w.parser bytes m)

  reads_nothing : (bytes : List ℕ) (b : ℕ) → (reads w bytes b).says ≡ []
  reads_nothing bytes b = ap (λ (ss : List Saying). map Says ss) (nothing_told g w.parser bytes m)

  begins_nothing : (b : ℕ) → (begins w b).says ≡ []
  begins_nothing b = elim (cases_Bool (eqb b 105)) [
    | inl t ↦ rw t (passes_nothing (32 ∷ []) (Word spell.I))
    | inr f ↦ rw f (elim (cases_Bool (eqb b 115)) [
      | inl t ↦ rw t refl
      | inr k ↦ rw k (elim (cases_Bool (eqb b 118 || is_early w.part b)) [
        | inl t ↦ rw t refl
        | inr h ↦ rw h (elim (cases_Bool (is_clause b && eqb (place_of w.part) 0)) [ inl t ↦ rw t refl | inr i ↦ rw i (reads_nothing (b ∷ []) b) ])
      ])
    ])
  ]

  grows_nothing : (blanks : List ℕ) (s : Option Spell) (byte : ℕ) → (grows w blanks s byte).says ≡ []
  grows_nothing blanks None byte = refl
  grows_nothing blanks (Some s) byte = passes_nothing blanks (Word s)

no_letter : (s : Spell) → grown s 120 ≡ None
no_letter spell.I = refl
no_letter spell.In = refl
no_letter spell.Inv = refl
no_letter spell.S = refl
no_letter spell.St = refl
no_letter spell.Sta = refl
no_letter spell.Star = refl
no_letter spell.Start = refl
no_letter spell.Ste = refl
no_letter spell.Step = refl
no_letter spell.Sa = refl
no_letter spell.Saf = refl
no_letter spell.Safe = refl

abbrev byte_at : Option InvFault → ℕ
byte_at None = 0
byte_at (Some f) = f.byte

abbrev fault_at : InvFaultKind → ℕ → InvFault
fault_at kind n = record { kind = kind; byte = n }

two_bytes : (f : InvFault) (kind : InvFaultKind) (n : ℕ) → Some (fault_at kind n) ≡ Some f → Some (fault_at kind (n + 1)) ≡ Some f → ⊥
two_bytes f kind n one two = let k : n ≡ n + 1 = ap byte_at (one ∙ sym two) in omega arith

-- A part's word without a fault: a letter after it would be at fault there, and with a blank before the letter one byte later.
module _ (w : InvOf) (f : InvFault) (stay : (more : List ℕ) → fault (after w more) ≡ Some f) where
  never_named : (part : Part) → w.line ≡ Named part → ⊥
  never_named part e = two_bytes f (Parse BadLine) w.parser.taken
      (subst (λ (line : Line). fault (turn_by w line 120).to ≡ Some f) e (stay (120 ∷ [])))
      (subst (λ (line : Line). fault (turn (turn_by w line 32).to 120).to ≡ Some f) e (stay (32 ∷ 120 ∷ [])))

  never_word : (s : Spell) (part : Part) → w.line ≡ Word s → named s ≡ Some part → is_next w.part part ≡ true → ⊥
  never_word s part e n i = two_bytes f (Parse BadLine) w.parser.taken
      (subst (λ (o : Option Spell). fault (grows w (32 ∷ []) o w.parser.taken).to ≡ Some f) (no_letter s)
      (subst (λ (line : Line). fault (turn_by w line 120).to ≡ Some f) e (stay (120 ∷ []))))
      (rw i at (subst (λ (o : Option Part). fault (turn (ends w o 32).to 120).to ≡ Some f) n
      (subst (λ (line : Line). fault (turn (turn_by w line 32).to 120).to ≡ Some f) e (stay (32 ∷ 120 ∷ [])))))

  word_nothing : (s : Spell) (b : ℕ) → w.line ≡ Word s → (o : Option Part) → named s ≡ o → (ends w o b).says ≡ []
  word_nothing s b e None n = refl
  word_nothing s b e (Some part) n = elim (cases_Bool (is_next w.part part)) [ inl t ↦ absurd (never_word s part e n t) | inr k ↦ rw k refl ]

  says_nothing_by : (line : Line) (b : ℕ) → w.line ≡ line → fault_by w line ≡ Some f → (turn_by w line b).says ≡ []
  says_nothing_by Start b q e = let g = bad_of w.parser.mode f e in elim (cases_Bool (is_space b)) [
    | inl t ↦ rw t (passes_nothing w g.0 g.1 (b ∷ []) Start)
    | inr k ↦ rw k (begins_nothing (placed w) g.0 g.1 b)
  ]
  says_nothing_by Letter b q e = let g = bad_of w.parser.mode f e in elim (cases_Bool (is_space b)) [
    | inl t ↦ rw t (reads_nothing w g.0 g.1 (115 ∷ b ∷ []) b)
    | inr k ↦ rw k (grows_nothing w g.0 g.1 (32 ∷ 32 ∷ []) (grown spell.S b) (w.parser.taken + 1))
  ]
  says_nothing_by (Word s) b q e = let g = bad_of w.parser.mode f e in elim (cases_Bool (is_space b)) [
    | inl t ↦ rw t (word_nothing s b q (named s) refl)
    | inr k ↦ rw k (grows_nothing w g.0 g.1 (32 ∷ []) (grown s b) w.parser.taken)
  ]
  says_nothing_by (Named part) b q e = absurd (never_named part q)
  says_nothing_by Inside b q e = let g = bad_of w.parser.mode f e in reads_nothing w g.0 g.1 (b ∷ []) b
  says_nothing_by (Refused h) b q e = refl
  says_nothing_by Lost b q e = refl

  says_nothing : (b : ℕ) → (turn w b).says ≡ []
  says_nothing b = says_nothing_by w.line b refl (stay [])

stays_on : (w : InvOf) (f : InvFault) (b : ℕ) → ((more : List ℕ) → fault (after w more) ≡ Some f) → (more : List ℕ) → fault (after (turn w b).to more) ≡ Some f
stays_on w f b stay more = stay (b ∷ more)

nothing_more : (w : InvOf) (f : InvFault) (more : List ℕ) → ((more : List ℕ) → fault (after w more) ≡ Some f) → said w more ≡ []
nothing_more w f [] stay = refl
nothing_more w f (b ∷ more) stay =
    ap (λ (ss : List InvSaying). ss ++ said (turn w b).to more) (says_nothing w f stay b) ∙ nothing_more (turn w b).to f more (stays_on w f b stay)

pub quiet_after_fault : (vars : ℕ) (f : InvFault) (bytes more : List ℕ) → fault (after (fresh vars) bytes) ≡ Some f → said (after (fresh vars) bytes) more ≡ []
quiet_after_fault vars f bytes more e =
    nothing_more (after (fresh vars) bytes) f more (λ further. ap fault (sym (after_append (fresh vars) bytes further)) ∙ fault_stays vars f bytes further e)
