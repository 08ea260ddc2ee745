-- A fault's byte is the number of bytes of the longest part of a hinted stream with which one begins.
use Rattle.std.proofs.Common.{◌≡◌, ◌⊎◌, ℕ, Bool, true, List, [], ◌∷◌, ◌++◌, length, Option, Some, None, refl, ap, sym, ◌∙◌, inl, inr, arith, subst}
use Rattle.std.specs.Prelude.{Contains}
use Rattle.std.proofs.lemmas.List.Elements.{Contains-append_cases}
use Rattle.cnf_form.proofs.Members.{Contains-empty, Contains-head, Contains-one}
use Rattle.cert_stream.specs.LratMachine.{LratOf, turn, at_end, fault_of}
use Rattle.cert_stream.specs.LratTelling.{IsFault, saying, told_by, after, said, fresh, fault_said, spoken}
use Rattle.cert_stream.specs.LratLines.{sayings}
use Rattle.cert_stream.specs.LratBeginning.{Begins, HasFault}
use Rattle.cert_stream.specs.declared.mode.Event.{Event}
use Rattle.cert_stream.specs.declared.mode.Event.TheVariants.{Clause, Delete, Value, ValuesEnd, Unknown}
use Rattle.cert_stream.specs.declared.mode.ParseFault.{ParseFault}
use Rattle.cert_stream.specs.declared.lrat.mode.Mode.{Mode}
use Rattle.cert_stream.specs.declared.lrat.mode.Mode.TheVariants.{Start, Skip, ValuesHead, StatusHead, StatusGap, Spelled, Whole, InId, AfterId, DeletionHead, InLits, InIds, Closed, Bad}
use Rattle.cert_stream.proofs.LratTurning.{kept}
use Rattle.cert_stream.proofs.LratCutting.{after_append, after_taken}
use Rattle.cert_stream.proofs.FirstFaults.{Reader, in_last, from_last}
use Rattle.cert_stream.proofs.LratFaults.{bad_stays}
use Rattle.cert_stream.proofs.LratGoing.{Going, turn_next, completes}
use Rattle.cert_stream.proofs.LratStreams.{stream_spoken}

-- no event is a fault
saying_none : (w : LratOf) (e : Event) (f : ParseFault) → saying w e ≡ IsFault f → ⊥
saying_none w Clause f h = cc
saying_none w Delete f h = cc
saying_none w (Value l) f h = cc
saying_none w ValuesEnd f h = cc
saying_none w Unknown f h = cc

told_none : (w : LratOf) (e : Option Event) (f : ParseFault) → Contains (told_by w e) (IsFault f) → ⊥
told_none w None f h = Contains-empty (IsFault f) h
told_none w (Some e) f h = saying_none w e f (Contains-one (saying w e) (IsFault f) h)

said_none : (bytes : List ℕ) (w : LratOf) (f : ParseFault) → Contains (said w bytes) (IsFault f) → ⊥
said_none [] w f h = Contains-empty (IsFault f) h
said_none (b ∷ bs) w f h =
    let z = (turn w b).to in
    elim (Contains-append_cases (told_by z (turn w b).event) (said z bs) (IsFault f) h) [ inl k ↦ told_none z (turn w b).event f k | inr k ↦ said_none bs z f k ]

mode_fault : (m : Mode) (f : ParseFault) → Contains (fault_said (fault_of m)) (IsFault f) → m ≡ Bad f
mode_fault (Start amid) f h = absurd (Contains-empty (IsFault f) h)
mode_fault (Skip amid) f h = absurd (Contains-empty (IsFault f) h)
mode_fault ValuesHead f h = absurd (Contains-empty (IsFault f) h)
mode_fault (InId n) f h = absurd (Contains-empty (IsFault f) h)
mode_fault AfterId f h = absurd (Contains-empty (IsFault f) h)
mode_fault DeletionHead f h = absurd (Contains-empty (IsFault f) h)
mode_fault StatusHead f h = absurd (Contains-empty (IsFault f) h)
mode_fault StatusGap f h = absurd (Contains-empty (IsFault f) h)
mode_fault (Spelled n) f h = absurd (Contains-empty (IsFault f) h)
mode_fault Whole f h = absurd (Contains-empty (IsFault f) h)
mode_fault (InLits kind part) f h = absurd (Contains-empty (IsFault f) h)
mode_fault (InIds kind part) f h = absurd (Contains-empty (IsFault f) h)
mode_fault Closed f h = absurd (Contains-empty (IsFault f) h)
mode_fault (Bad g) f h = let e : IsFault g ≡ IsFault f = Contains-one (IsFault g) (IsFault f) h in let k : g ≡ f = cc in ap Bad k

module _ (vars : ℕ) where
  abbrev at : List ℕ → LratOf
  at bytes = after (fresh vars) bytes

  -- the fault is in what is said exactly where the bytes are at it
  pub fault_is : (ended : Bool) (bytes : List ℕ) (f : ParseFault) → HasFault (sayings vars ended bytes) f → (at bytes).mode ≡ Bad f
  fault_is ended bytes f h =
      let w = at bytes in
      let k : Contains (spoken ended (fresh vars) bytes) (IsFault f) = subst (λ z. Contains z (IsFault f)) (sym (stream_spoken vars ended bytes)) h in
      mode_fault w.mode f
      (in_last (IsFault f) (said (fresh vars) bytes) ended (told_by w (at_end w.mode)) (fault_said (fault_of w.mode)) (said_none bytes (fresh vars) f) (told_none w (at_end w.mode) f) k)

  pub fault_in : (ended : Bool) (bytes : List ℕ) (f : ParseFault) → (at bytes).mode ≡ Bad f → HasFault (sayings vars ended bytes) f
  fault_in ended bytes f h =
      let w = at bytes in
      let k : Contains (fault_said (fault_of w.mode)) (IsFault f) = subst (λ m. Contains (fault_said (fault_of m)) (IsFault f)) (sym h) (Contains-head (IsFault f) []) in
      subst (λ z. Contains z (IsFault f)) (stream_spoken vars ended bytes) (from_last (IsFault f) (said (fresh vars) bytes) ended (told_by w (at_end w.mode)) (fault_said (fault_of w.mode)) k)

pub same_fault : (m : Mode) (f g : ParseFault) → m ≡ Bad f → m ≡ Bad g → f ≡ g
same_fault m f g h k = let e : Bad f ≡ Bad g = sym h ∙ k in cc

module _ (vars : ℕ) where
  pub goes_next : (bytes : List ℕ) (b : ℕ) → Going (at vars bytes).vars (at vars bytes).mode
      → Going (at vars (bytes ++ b ∷ [])).vars (at vars (bytes ++ b ∷ [])).mode ⊎ ((f : ParseFault) × ((at vars (bytes ++ b ∷ [])).mode ≡ Bad f) × (f.byte ≡ length bytes))
  goes_next bytes b n =
      let w = at vars bytes in
      let t = turn_next w b n in
      let e : at vars (bytes ++ b ∷ []) ≡ (turn w b).to = after_append (fresh vars) bytes (b ∷ []) in
      elim t.1 [
        | inl g ↦ inl (subst (λ (z : LratOf). Going z.vars z.mode) (sym e) (subst (λ z. Going z (turn w b).to.mode) (sym t.0) g))
        | inr g ↦ inr (g.0, ap (λ (z : LratOf). z.mode) e ∙ g.1, g.2 ∙ after_taken (fresh vars) bytes ∙ omega arith)
      ]

  pub goes_ends : (bytes : List ℕ) → Going (at vars bytes).vars (at vars bytes).mode → Begins vars bytes
  goes_ends bytes n =
      let w = at vars bytes in
      let c = completes w.vars w.taken w.place w.mode (kept w.id w.lits w.hints) n in
      let e : at vars (bytes ++ (c.more ++ 10 ∷ [])) ≡ after (after w c.more) (10 ∷ []) = after_append (fresh vars) bytes (c.more ++ 10 ∷ []) ∙ after_append w c.more (10 ∷ []) in
      let m : (at vars (bytes ++ (c.more ++ 10 ∷ []))).mode ≡ Start c.amid = ap (λ (z : LratOf). z.mode) e ∙ fed (after w c.more) c.amid c.whole in
      (c.more, λ f h. let k = fault_is vars true (bytes ++ (c.more ++ 10 ∷ [])) f h in let x : Start c.amid ≡ Bad f = sym m ∙ k in cc)
    where
      fed : (w : LratOf) (amid : Bool) → w.mode ≡ Start amid → (after w (10 ∷ [])).mode ≡ Start amid
      fed w amid e = subst (λ m. (after (let v : LratOf = record w { mode = m } in v) (10 ∷ [])).mode ≡ Start amid) (sym e) refl

  abbrev pub reader : Reader
  reader = record {
    Goes = λ bytes. Going (at vars bytes).vars (at vars bytes).mode;
    IsAt = λ bytes f. (at vars bytes).mode ≡ Bad f;
    Tells = λ ended bytes f. HasFault (sayings vars ended bytes) f;
    starts = tt;
    next = goes_next;
    stays = λ bytes more f h. ap (λ (z : LratOf). z.mode) (after_append (fresh vars) bytes more) ∙ bad_stays f (at vars bytes) more h;
    apart = λ bytes f h n. subst (Going (at vars bytes).vars) h n;
    same = λ bytes f g. same_fault (at vars bytes).mode f g;
    told = fault_is vars;
    tells = fault_in vars;
    ends = goes_ends;
  }
