-- Streams of every kind that begin with a certificate are found to, and those that are found to do.
use Rattle.std.proofs.Common.{◌≡◌, ◌⊎◌, ℕ, ◌<◌, ◌≤◌, Bool, true, false, List, [], ◌∷◌, ◌++◌, length, take, drop, take-append-drop, Some, refl, sym, subst, inl, inr, arith, append_assoc, ◌+◌, ap, ◌∙◌}
use Rattle.std.proofs.lemmas.List.{append-nil, length-append, length-take}
use Rattle.cnf_form.specs.Cnf.{FormulaOf}
use Rattle.cnf_form.specs.Dimacs.{IsDimacs}
use Rattle.proof_stream.specs.declared.spot.Form.TheVariants.{Text, Binary}
use Rattle.sby_terms.specs.declared.names.Answer.{Answer}
use Rattle.sby_terms.specs.declared.names.Answer.TheVariants.{Sat, Unsat}
use Rattle.cert_judge.specs.Fate.{Found}
use Rattle.cert_judge.specs.KindCert.{BeginsCert, Counts, HoldsCert, IsClosedCert, IsOpenCert, IsSpace}
use Rattle.cert_judge.specs.Kinds.{BytesFate, FateOf, FateSoFar, IsFate, IsFateSoFar}
use Rattle.cert_judge.specs.Output.{has_values, stream_of}
use Rattle.cert_judge.specs.OutputFate.{IsOutputFate, own_fate}
use Rattle.cert_judge.specs.declared.stream.StreamKind.{StreamKind}
use Rattle.cert_judge.specs.declared.stream.StreamKind.TheVariants.{Drup, Lrat, Proof, ProofBinary}
use Rattle.cert_judge.proofs.BinaryCerts.{binary_cert, binary_closed, binary_lines_cert, binary_open}
use Rattle.cert_judge.proofs.Bounding.{sides}
use Rattle.cert_judge.proofs.DrupAccepting.{cert_fate}
use Rattle.cert_judge.proofs.CertEnds.{Ends, drup_zero, lrat_zero, parts}
use Rattle.cert_judge.proofs.DrupCerts.{cert_found as drup_found}
use Rattle.cert_judge.proofs.DrupFollowing.{fate_followed}
use Rattle.cert_judge.proofs.FileFates.{file_never}
use Rattle.cert_judge.proofs.KindFates.{fate_at_end, fate_stays, laws}
use Rattle.cert_judge.proofs.LratAccepting.{cert_fate as hinted_fate}
use Rattle.cert_judge.proofs.LratCerts.{cert_found as lrat_found}
use Rattle.cert_judge.proofs.LratFollowing.{fate_followed as hinted_followed}
use Rattle.cert_judge.proofs.OutputFates.{own_same}
use Rattle.cert_judge.proofs.TextCerts.{lines_cert, text_cert, text_closed, text_followed, text_open}

-- the bytes are a certificate so far, and stay so
module _ (kind : StreamKind) (f : FormulaOf) (most : ℕ) (answer : Answer) where
  stays_found : (bytes rest : List ℕ) → length bytes ≤ most → BytesFate kind f false bytes (Some (Found answer)) → FateSoFar kind f (bytes ++ rest) most (Some (Found answer))
  stays_found bytes rest l h = fate_stays kind f most bytes rest (Found answer) (record { within = λ _. h; beyond = λ b. absurd (omega (arith, b, l)) })

  whole_found : (bytes : List ℕ) → length bytes ≤ most → BytesFate kind f true bytes (Some (Found answer)) → FateOf kind f bytes most (Found answer)
  whole_found bytes l h = record { within = λ _. inl h; beyond = λ b. absurd (omega (arith, b, l)) }

-- a certificate that counts, where more follows
closed_so_far : (kind : StreamKind) (f : FormulaOf) (most : ℕ) (answer : Answer) (cert rest : List ℕ) (b : ℕ) → IsClosedCert kind f cert answer → Counts kind most cert (b ∷ rest)
    → FateSoFar kind f (cert ++ b ∷ rest) most (Some (Found answer))
closed_so_far Drup f most answer cert rest b c (s, l) = fate_followed f answer cert rest b most s l (cert_fate f cert most answer c (omega (arith, l)))
closed_so_far Lrat f most answer cert rest b c (s, l) = hinted_followed f answer cert rest b most s l (hinted_fate f cert most answer c (omega (arith, l)))
closed_so_far Proof f most answer cert rest b (e, none, c) (s, l) =
    let len = length-append cert (b ∷ []) in
    subst (λ z. FateSoFar Proof f z most (Some (Found answer))) (append_assoc cert (b ∷ []) rest)
    (subst (λ a. FateSoFar Proof f ((cert ++ b ∷ []) ++ rest) most (Some (Found a))) (sym e) (stays_found Proof f most Unsat (cert ++ b ∷ []) rest (omega (arith, l, len)) (text_followed f cert b s none c)))
closed_so_far ProofBinary f most answer cert rest b (e, (front, q, r)) l =
    subst (λ a. FateSoFar ProofBinary f (cert ++ b ∷ rest) most (Some (Found a))) (sym e)
    (stays_found ProofBinary f most Unsat cert (b ∷ rest) l (subst (λ z. BytesFate ProofBinary f false z (Some (Found Unsat))) (sym q) (binary_closed f front r)))

-- and where the stream ends with it
closed_whole : (kind : StreamKind) (f : FormulaOf) (most : ℕ) (answer : Answer) (cert : List ℕ) → IsClosedCert kind f cert answer → Counts kind most cert [] → FateOf kind f cert most (Found answer)
closed_whole Drup f most answer cert c l = cert_fate f cert most answer c l
closed_whole Lrat f most answer cert c l = hinted_fate f cert most answer c l
closed_whole Proof f most answer cert (e, none, c) l = subst (λ a. FateOf Proof f cert most (Found a)) (sym e) (whole_found Proof f most Unsat cert l (text_closed f cert none c))
closed_whole ProofBinary f most answer cert (e, (front, q, r)) l =
    subst (λ a. FateOf ProofBinary f cert most (Found a)) (sym e)
    (fate_at_end ProofBinary f most cert (Found Unsat)
    (subst (λ z. FateSoFar ProofBinary f z most (Some (Found Unsat))) (append-nil cert)
    (stays_found ProofBinary f most Unsat cert [] l (subst (λ z. BytesFate ProofBinary f false z (Some (Found Unsat))) (sym q) (binary_closed f front r)))))

closed_found : (kind : StreamKind) (f : FormulaOf) (most : ℕ) (answer : Answer) (cert rest : List ℕ) → IsClosedCert kind f cert answer → Counts kind most cert rest → FateOf kind f (cert ++ rest) most (Found answer)
closed_found kind f most answer cert [] c l = subst (λ z. FateOf kind f z most (Found answer)) (sym (append-nil cert)) (closed_whole kind f most answer cert c l)
closed_found kind f most answer cert (b ∷ rest) c l = fate_at_end kind f most (cert ++ b ∷ rest) (Found answer) (closed_so_far kind f most answer cert rest b c l)

pub followed_found : (kind : StreamKind) (job cert rest : List ℕ) (b most : ℕ) (answer : Answer) (f : FormulaOf) → IsDimacs job f → IsClosedCert kind f cert answer → Counts kind most cert (b ∷ rest)
    → IsFateSoFar kind job (cert ++ b ∷ rest) most (Some (Found answer))
followed_found kind job cert rest b most answer f d c l = (f, d, closed_so_far kind f most answer cert rest b c l)

open_found : (kind : StreamKind) (f : FormulaOf) (most : ℕ) (answer : Answer) (file : List ℕ) → IsOpenCert kind f file answer → length file ≤ most → FateOf kind f file most (Found answer)
open_found Drup f most answer file c l = absurd c
open_found Lrat f most answer file c l = absurd c
open_found Proof f most answer file (e, none, (G, g, a)) l = subst (λ a. FateOf Proof f file most (Found a)) (sym e) (whole_found Proof f most Unsat file l (text_open f file none G g a))
open_found ProofBinary f most answer file (e, r) l = subst (λ a. FateOf ProofBinary f file most (Found a)) (sym e) (whole_found ProofBinary f most Unsat file l (binary_open f file r))

begins_found : (kind : StreamKind) (f : FormulaOf) (stream : List ℕ) (most : ℕ) (answer : Answer) → BeginsCert kind f stream most answer → FateOf kind f stream most (Found answer)
begins_found kind f stream most answer (inl (cert, rest, e, c, l)) = subst (λ z. FateOf kind f z most (Found answer)) (sym e) (closed_found kind f most answer cert rest c l)
begins_found kind f stream most answer (inr (c, l)) = open_found kind f most answer stream c l

pub held_found : (kind : StreamKind) (job stream : List ℕ) (most : ℕ) (answer : Answer) → HoldsCert kind job stream most answer → IsFate kind job stream most (Found answer)
held_found kind job stream most answer (f, d, h) = (f, d, begins_found kind f stream most answer h)

-- what follows a certificate with which bytes begin
abbrev Follows : StreamKind → Bool → List ℕ → Type 0
Follows Drup ended rest = Ends ended rest
Follows Lrat ended rest = Ends ended rest
Follows Proof ended rest = Ends ended rest
Follows ProofBinary ended rest = Unit {0}

-- so it counts, where the bytes are all, and where others come
counts_whole : (kind : StreamKind) (most : ℕ) (cert rest : List ℕ) → Follows kind true rest → length cert + length rest ≤ most → Counts kind most cert rest
counts_whole Drup most cert [] i l = omega (arith, l)
counts_whole Drup most cert (b ∷ rest) i l = (i, omega (arith, l))
counts_whole Lrat most cert [] i l = omega (arith, l)
counts_whole Lrat most cert (b ∷ rest) i l = (i, omega (arith, l))
counts_whole Proof most cert [] i l = omega (arith, l)
counts_whole Proof most cert (b ∷ rest) i l = (i, omega (arith, l))
counts_whole ProofBinary most cert rest i l = omega (arith, l)

counts_part : (kind : StreamKind) (most : ℕ) (cert rest more : List ℕ) → Follows kind false rest → length cert + length rest ≤ most → Counts kind most cert (rest ++ more)
counts_part Drup most cert [] more i l = absurd (let k = i in cc)
counts_part Drup most cert (b ∷ rest) more i l = (i, omega (arith, l))
counts_part Lrat most cert [] more i l = absurd (let k = i in cc)
counts_part Lrat most cert (b ∷ rest) more i l = (i, omega (arith, l))
counts_part Proof most cert [] more i l = absurd (let k = i in cc)
counts_part Proof most cert (b ∷ rest) more i l = (i, omega (arith, l))
counts_part ProofBinary most cert rest more i l = omega (arith, l)

-- what is found begins with a certificate
module _ (kind : StreamKind) (f : FormulaOf) (most : ℕ) (answer : Answer) where
  abbrev Closed : Bool → List ℕ → Type 0
  Closed ended bytes = (cert : List ℕ) × (rest : List ℕ) × (bytes ≡ cert ++ rest) × IsClosedCert kind f cert answer × Follows kind ended rest

  begins_by : ((bytes : List ℕ) → BytesFate kind f false bytes (Some (Found answer)) → Closed false bytes) → ((bytes : List ℕ) → BytesFate kind f true bytes (Some (Found answer)) → Closed true bytes ⊎ IsOpenCert kind f bytes answer)
      → (stream : List ℕ) → FateOf kind f stream most (Found answer) → BeginsCert kind f stream most answer
  begins_by more all stream h =
      elim (sides (length stream) most) [
        | inl l ↦ elim (h.within l) [
          | inl k ↦ elim (all stream k) [
            | inl (cert, rest, e, c, i) ↦ let len = ap length e ∙ length-append cert rest in inl (cert, rest, e, c, counts_whole kind most cert rest i (omega (arith, len, l)))
            | inr c ↦ inr (c, l)
          ]
          | inr (k, e) ↦ absurd (let g = e in cc)
        ]
        | inr l ↦ elim ((h.beyond l).beyond l) [
          | inl (x, k, e) ↦ inl (taken stream (more (take most stream) (rw e k)))
          | inr (k, e) ↦ absurd (let g = e in cc)
        ]
      ]
    where
      taken : (stream : List ℕ) → Closed false (take most stream) → (cert : List ℕ) × (rest : List ℕ) × (stream ≡ cert ++ rest) × IsClosedCert kind f cert answer × Counts kind most cert rest
      taken stream (cert, rest, e, c, i) =
          let len = sym (ap length e ∙ length-append cert rest) in
          let t = length-take most stream in (
            cert,
            rest ++ drop most stream,
            sym (take-append-drop most stream) ∙ ap (λ z. z ++ drop most stream) e ∙ append_assoc cert rest (drop most stream),
            c,
            counts_part kind most cert rest (drop most stream) i (omega (arith, len, t)),
          )

-- DRUP text and hinted text
more_found : (kind : StreamKind) (f : FormulaOf) (answer : Answer) (s rest : List ℕ) → BytesFate kind f false s (Some (Found answer)) → BytesFate kind f false (s ++ rest) (Some (Found answer))
more_found kind f answer s rest h = (laws kind f).on false s rest (Found answer) h

drup_parts : (f : FormulaOf) (answer : Answer) (ended : Bool) (s : List ℕ) → BytesFate Drup f ended s (Some (Found answer)) → Closed Drup f 0 answer ended s
drup_parts f answer = parts (λ ended s. BytesFate Drup f ended s (Some (Found answer))) (λ c. IsClosedCert Drup f c answer) (λ ended s h. drup_found f answer ended s h) (more_found Drup f answer) (λ s c. drup_zero f answer s c)

lrat_parts : (f : FormulaOf) (answer : Answer) (ended : Bool) (s : List ℕ) → BytesFate Lrat f ended s (Some (Found answer)) → Closed Lrat f 0 answer ended s
lrat_parts f answer = parts (λ ended s. BytesFate Lrat f ended s (Some (Found answer))) (λ c. IsClosedCert Lrat f c answer) (λ ended s h. lrat_found f answer ended s h) (more_found Lrat f answer) (λ s c. lrat_zero f answer s c)

fate_begins : (kind : StreamKind) (f : FormulaOf) (stream : List ℕ) (most : ℕ) (answer : Answer) → FateOf kind f stream most (Found answer) → BeginsCert kind f stream most answer
fate_begins Drup f stream most answer h = begins_by Drup f most answer (λ bytes k. drup_parts f answer false bytes k) (λ bytes k. inl (drup_parts f answer true bytes k)) stream h
fate_begins Lrat f stream most answer h = begins_by Lrat f most answer (λ bytes k. lrat_parts f answer false bytes k) (λ bytes k. inl (lrat_parts f answer true bytes k)) stream h
fate_begins Proof f stream most Unsat h = begins_by Proof f most Unsat (λ bytes k. lines_cert f bytes k) (λ bytes k. text_cert f bytes k) stream h
fate_begins Proof f stream most Sat h = begins_by Proof f most Sat (λ bytes k. absurd (file_never Text f false bytes k)) (λ bytes k. absurd (file_never Text f true bytes k)) stream h
fate_begins ProofBinary f stream most Unsat h = begins_by ProofBinary f most Unsat (λ bytes k. binary_lines_cert f bytes k) (λ bytes k. binary_cert f bytes k) stream h
fate_begins ProofBinary f stream most Sat h = begins_by ProofBinary f most Sat (λ bytes k. absurd (file_never Binary f false bytes k)) (λ bytes k. absurd (file_never Binary f true bytes k)) stream h

pub found_holds : (kind : StreamKind) (job stream : List ℕ) (most : ℕ) (answer : Answer) → IsFate kind job stream most (Found answer) → HoldsCert kind job stream most answer
found_holds kind job stream most answer (f, d, h) = (f, d, fate_begins kind f stream most answer h)

-- a solver's output, read as a stream
own_found : (values : Bool) (answer : Answer) → Some (Found answer) ≡ own_fate values (Found answer)
own_found true answer = refl
own_found false answer = refl

pub output_found : (job bytes : List ℕ) (most : ℕ) (answer : Answer) → HoldsCert Drup job (stream_of true bytes) most answer → IsOutputFate job bytes most (Some (Found answer))
output_found job bytes most answer h = (Found answer, held_found Drup job (stream_of true bytes) most answer h, own_found (has_values bytes) answer)

pub output_holds : (job bytes : List ℕ) (most : ℕ) (answer : Answer) → IsOutputFate job bytes most (Some (Found answer)) → HoldsCert Drup job (stream_of true bytes) most answer
output_holds job bytes most answer (x, h, e) = found_holds Drup job (stream_of true bytes) most answer (subst (IsFate Drup job (stream_of true bytes) most) (own_same (has_values bytes) x (Found answer) e) h)

-- what was found of a stream stays where white space or a line feed follows
pub drup_stays : (job stream rest : List ℕ) (b most : ℕ) (answer : Answer) → IsFate Drup job stream most (Found answer) → IsSpace b → length stream < most → IsFateSoFar Drup job (stream ++ b ∷ rest) most (Some (Found answer))
drup_stays job stream rest b most answer (f, d, h) s l = (f, d, fate_followed f answer stream rest b most s l h)

pub lrat_stays : (job stream rest : List ℕ) (b most : ℕ) (answer : Answer) → IsFate Lrat job stream most (Found answer) → IsSpace b → length stream < most → IsFateSoFar Lrat job (stream ++ b ∷ rest) most (Some (Found answer))
lrat_stays job stream rest b most answer (f, d, h) s l = (f, d, hinted_followed f answer stream rest b most s l h)
