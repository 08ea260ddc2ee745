-- Sayings lead from one claim to another.
use Rattle.std.proofs.Common.{◌≡◌, ℕ, Bool, true, false, List, [], ◌∷◌, ◌++◌, Option, Some, None, Result, Ok, Err, refl, sym, ap, ◌∙◌, subst, inl, inr, append_assoc}
use Rattle.std.specs.Prelude.{is_some}
use Rattle.std.proofs.lemmas.List.{append-nil}
use Rattle.cert_stream.specs.Telling.{Gets}
use Rattle.cert_stream.specs.declared.feeding.Fed.{Fed}
use Rattle.cert_stream.specs.declared.feeding.Fed.TheVariants.{More, Stopped}
use Rattle.inv_stream.specs.Machine.{InvOf, InvSaying, IsFault, IsNext, Says, fault}
use Rattle.inv_stream.specs.Telling as telling
use Rattle.inv_stream.specs.Telling.{after, answer, at_end_says, fault_said, is_stopped, said}
use Rattle.inv_stream.specs.declared.mode.InvFault.{InvFault}
use Rattle.inv_fate.specs.Fate.{SayingsFate, fault_kind}
use Rattle.inv_judge.specs.Claim.{ClaimOf, FateFrom, HearsPart, HearsSaying, Leads, concluded, with_outcome}
use Rattle.inv_judge.specs.Judging.{Heard}
use Rattle.inv_judge.specs.declared.outcome.InvOutcome.{InvOutcome}
use Rattle.inv_judge.specs.declared.outcome.InvOutcome.TheVariants as outcome

pub some_outcome : (o : Option InvOutcome) → is_some o ≡ true → (won : InvOutcome) × (o ≡ Some won)
some_outcome None e = cc
some_outcome (Some won) e = (won, refl)

pub no_outcome : (o : Option InvOutcome) → is_some o ≡ false → o ≡ None
no_outcome None e = refl
no_outcome (Some won) e = cc

-- nothing more
leads_nothing : (x : ClaimOf) → x.outcome ≡ None → Leads x [] x
leads_nothing x e = record { pair = refl; fate = λ rest fate h. subst (λ (o : Option InvOutcome). FateFrom x o rest fate) e h }

-- sayings, and what comes after them
pub leads_append : (x y z : ClaimOf) (ss ts : List InvSaying) → Leads x ss y → y.outcome ≡ None → Leads y ts z → Leads x (ss ++ ts) z
leads_append x y z ss ts h e k = record {
  pair = k.pair ∙ h.pair;
  fate = λ rest fate g. subst (λ (s : List InvSaying). SayingsFate x.pair x.part x.invariant x.present s fate) (sym (append_assoc ss ts rest))
      (h.fate (ts ++ rest) fate (subst (λ (o : Option InvOutcome). FateFrom y o (ts ++ rest) fate) (sym e) (k.fate rest fate g)));
}

-- after an outcome all else is nothing
pub leads_ever : (x y : ClaimOf) (ss more : List InvSaying) (o : InvOutcome) → Leads x ss y → y.outcome ≡ Some o → Leads x (ss ++ more) y
leads_ever x y ss more o h e = record {
  pair = h.pair;
  fate = λ rest fate g. subst (λ (s : List InvSaying). SayingsFate x.pair x.part x.invariant x.present s fate) (sym (append_assoc ss more rest))
      (h.fate (more ++ rest) fate (subst (λ (k : Option InvOutcome). FateFrom y k (more ++ rest) fate) (sym e) (subst (λ (k : Option InvOutcome). FateFrom y k rest fate) e g)));
}

heard_one : (x y : ClaimOf) (s : InvSaying) → telling.Hears HearsSaying HearsPart x s y → x.outcome ≡ None → Leads x (s ∷ []) y
heard_one x y (IsNext place) h e = h e
heard_one x y (Says s) h e = h e
heard_one x y (IsFault f) h e = absurd h

-- what a receiver gets leads to what it is then
pub gets_lead : (ss : List InvSaying) (x y : ClaimOf) (stopped : Bool) → x.outcome ≡ None → Gets (telling.Hears HearsSaying HearsPart) (λ (c : ClaimOf). is_some c.outcome) x ss y stopped
    → Leads x ss y × (is_some y.outcome ≡ stopped)
gets_lead [] x y stopped e (p, q) = (subst (Leads x []) p (leads_nothing x e), subst (λ (z : ClaimOf). is_some z.outcome ≡ stopped) p (ap is_some e ∙ sym q))
gets_lead (s ∷ ss) x y stopped e (z, h, inl (t, p, q)) =
    let o = some_outcome z.outcome t in
    (subst (Leads x (s ∷ ss)) p (leads_ever x z (s ∷ []) ss o.0 (heard_one x z s h e) o.1), subst (λ (w : ClaimOf). is_some w.outcome ≡ stopped) p (t ∙ sym q))
gets_lead (s ∷ ss) x y stopped e (z, h, inr (f, g)) =
    let n = no_outcome z.outcome f in
    let k = gets_lead ss z y stopped n g in
    (leads_append x z y (s ∷ []) ss (heard_one x z s h e) n k.0, k.1)

hears_fault : (x y : ClaimOf) (ss : List InvSaying) (f : InvFault) → Leads x ss y → y.outcome ≡ None → Leads x (ss ++ IsFault f ∷ []) (with_outcome y (outcome.Bad (record { kind = fault_kind f.kind; at = f.byte })))
hears_fault x y ss f h e = record {
  pair = h.pair;
  fate = λ rest fate g. subst (λ (s : List InvSaying). SayingsFate x.pair x.part x.invariant x.present s fate) (sym (append_assoc ss (IsFault f ∷ []) rest))
      (h.fate (IsFault f ∷ rest) fate (subst (λ (o : Option InvOutcome). FateFrom y o (IsFault f ∷ rest) fate) (sym e) g));
}

-- what a call of the parser makes of a claim, with the fault that it answers
pub heard_answer : (x y : ClaimOf) (ss : List InvSaying) (fed : Result Fed InvFault) (o : Option InvFault) → Leads x ss y → is_some y.outcome ≡ is_stopped fed → (is_stopped fed ≡ false → fed ≡ answer o)
    → Leads x (ss ++ fault_said o) (concluded y fed) × ((concluded y fed).outcome ≡ None → (is_stopped fed ≡ false) × (o ≡ None))
heard_answer x y ss (Ok More) None h s a = (subst (λ (z : List InvSaying). Leads x z y) (sym (append-nil ss)) h, λ n. (refl, refl))
heard_answer x y ss (Ok More) (Some f) h s a = absurd (let e = a refl in cc)
heard_answer x y ss (Ok Stopped) o h s a = let w = some_outcome y.outcome s in (leads_ever x y ss (fault_said o) w.0 h w.1, λ n. absurd (let e = sym n ∙ w.1 in cc))
heard_answer x y ss (Err f) None h s a = absurd (let e = a refl in cc)
heard_answer x y ss (Err f) (Some g) h s a =
    let e : f ≡ g = let r = a refl in cc in
    (subst (λ (k : InvFault). Leads x (ss ++ IsFault k ∷ []) (concluded y (Err f))) e (hears_fault x y ss f h (no_outcome y.outcome s)), λ n. absurd (cc))

pub heard : (w v : InvOf) (x y : ClaimOf) (bytes : List ℕ) (fed : Result Fed InvFault) → x.outcome ≡ None
    → Gets (telling.Hears HearsSaying HearsPart) (λ (c : ClaimOf). is_some c.outcome) x (said w bytes) y (is_stopped fed) → (is_stopped fed ≡ false → v ≡ after w bytes) → (is_stopped fed ≡ false → fed ≡ answer (fault (after w bytes)))
    → Heard w x bytes v (concluded y fed)
heard w v x y bytes fed n g kept a =
    let l = gets_lead (said w bytes) x y (is_stopped fed) n g in
    let r = heard_answer x y (said w bytes) fed (fault (after w bytes)) l.0 l.1 a in
    record { leads = r.0; kept = λ e. kept (r.1 e).0; whole = λ e. (r.1 e).1 }

-- and of its end
pub ended : (w : InvOf) (x y : ClaimOf) (fed : Result Fed InvFault) → x.outcome ≡ None
    → Gets (telling.Hears HearsSaying HearsPart) (λ (c : ClaimOf). is_some c.outcome) x (at_end_says w) y (is_stopped fed) → (is_stopped fed ≡ false → fed ≡ answer (fault w))
    → Leads x (at_end_says w ++ fault_said (fault w)) (concluded y fed)
ended w x y fed n g a =
    let l = gets_lead (at_end_says w) x y (is_stopped fed) n g in
    (heard_answer x y (at_end_says w) fed (fault w) l.0 l.1 a).0
