-- What calls make of a parser and a receiver.
use Rattle.std.proofs.Common.{◌≡◌, ℕ, Bool, true, false, eqb, List, [], ◌∷◌, ◌++◌, map, refl, ap, sym, ◌∙◌, subst, inl, inr}
use Rattle.cert_stream.specs.Machine.{DrupOf, fault_of}
use Rattle.cert_stream.specs.Telling as drup
use Rattle.cert_stream.specs.Telling.{Gets, Saying}
use Rattle.cert_stream.proofs.Cutting.{gets_append}
use Rattle.inv_stream.specs.Machine.{InvOf, IsNext, Says, Turn, goes_on, line_after, passes, reads}
use Rattle.inv_stream.specs.Taking.{IsTaken}
use Rattle.inv_stream.specs.Telling.{Hears}
use Rattle.inv_stream.specs.declared.mode.Line.{Line}
use Rattle.inv_stream.specs.declared.mode.Line.TheVariants.{Start, Inside}
use Rattle.inv_stream.specs.declared.mode.Part.{Part}
use Rattle.inv_stream.proofs.Cutting.{gets_says, gets_stopped}

module _ {A : Type 0} (gets : A → Saying → A → Type 0) (parts : A → ℕ → A → Type 0) (stops : A → Bool) where
  pub passed : (w v : InvOf) (bytes : List ℕ) (line : Line) (x y : A) (p : DrupOf) (s t : Bool) → Gets gets stops x (drup.said w.parser bytes) y s → t ≡ s → (s ≡ false → p ≡ drup.after w.parser bytes)
      → v ≡ record w { parser = p; line = line } → IsTaken gets parts stops (passes w bytes line) x y v t
  passed w v bytes line x y p s t told e kept is = record {
    told = subst (λ (z : Bool). Gets (Hears gets parts) stops x (map Says (drup.said w.parser bytes)) y z) (sym e) (gets_says gets parts stops x y (drup.said w.parser bytes) s told);
    kept = λ h. is ∙ ap (λ (q : DrupOf). let u : InvOf = record w { parser = q; line = line } in u) (kept (sym e ∙ h));
  }

  pub read_on : (w v u : InvOf) (bytes : List ℕ) (b : ℕ) (x y : A) (s : Bool) → IsTaken gets parts stops (passes w bytes Inside) x y v s → u ≡ record v { line = line_after (fault_of v.parser.mode) b }
      → IsTaken gets parts stops (reads w bytes b) x y u s
  read_on w v u bytes b x y s t is = record {
    told = t.told;
    kept = λ h. is ∙ ap (λ (z : InvOf). let u : InvOf = record z { line = line_after (fault_of z.parser.mode) b } in u) (t.kept h);
  }

  -- a part's word and its line feed: they stop the receiver before the word is told, or then it is told
  pub went_stopped : (w v : InvOf) (part : Part) (b : ℕ) (x y : A) → eqb b 10 ≡ true → IsTaken gets parts stops (passes w (b ∷ []) Start) x y v true → (u : InvOf) → IsTaken gets parts stops (goes_on w part b) x y u true
  went_stopped w v part b x y e t u = subst (λ (z : Turn). IsTaken gets parts stops z x y u true) (sym (goes_is w part b e)) (record {
    told = gets_stopped (Hears gets parts) stops x y (map Says (drup.said w.parser (b ∷ []))) (IsNext w.place ∷ []) t.told;
    kept = λ h. cc;
  })
    where
      goes_is : (w : InvOf) (part : Part) (b : ℕ) → eqb b 10 ≡ true
          → goes_on w part b ≡ record { to = record w { parser = drup.after w.parser (b ∷ []); part = part; line = Start }; says = map Says (drup.said w.parser (b ∷ [])) ++ IsNext w.place ∷ [] }
      goes_is w part b e = rw e refl

  pub went_on : (w v u : InvOf) (part : Part) (b : ℕ) (x y z : A) (s : Bool) → eqb b 10 ≡ true → IsTaken gets parts stops (passes w (b ∷ []) Start) x y v false → parts y v.place z → s ≡ stops z → u ≡ record v { part = part }
      → IsTaken gets parts stops (goes_on w part b) x z u s
  went_on w v u part b x y z s e t g st is = subst (λ (r : Turn). IsTaken gets parts stops r x z u s) (sym (goes_is w part b e)) (record {
    told = gets_append (Hears gets parts) stops x y z (map Says (drup.said w.parser (b ∷ []))) (IsNext w.place ∷ []) s t.told (last s st);
    kept = λ h. is ∙ ap (λ (r : InvOf). let q : InvOf = record r { part = part } in q) (t.kept refl);
  })
    where
      goes_is : (w : InvOf) (part : Part) (b : ℕ) → eqb b 10 ≡ true
          → goes_on w part b ≡ record { to = record w { parser = drup.after w.parser (b ∷ []); part = part; line = Start }; says = map Says (drup.said w.parser (b ∷ [])) ++ IsNext w.place ∷ [] }
      goes_is w part b e = rw e refl

      heard : parts y w.place z
      heard = subst (λ (n : ℕ). parts y n z) (ap (λ (r : InvOf). r.place) (t.kept refl)) g

      last : (s : Bool) → s ≡ stops z → Gets (Hears gets parts) stops y (IsNext w.place ∷ []) z s
      last true st = (z, heard, inl (sym st, refl, refl))
      last false st = (z, heard, inr (sym st, (refl, refl)))
