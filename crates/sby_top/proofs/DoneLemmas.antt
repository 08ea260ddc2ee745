-- The status in the last line of a task, by its bytes.
use Rattle.std.proofs.Common.{◌≡◌, ℕ, ◌<◌, ◌^◌, List, [], ◌∷◌, ◌++◌, refl, sym, ap, subst, ◌∙◌, append_assoc, arith}
use Rattle.std.specs.Prelude.{codes}
use Rattle.std.specs.Fmt.{decimal}
use Rattle.std.specs.Str.Parse.{AllDigits}
use Rattle.std.proofs.lemmas.Fmt.{decimal_is_IsNumeral}
use Rattle.std.proofs.lemmas.Str.Parse.{digit_from_value}
use Rattle.sby_terms.specs.declared.names.Status.{Status}
use Rattle.sby_terms.specs.declared.names.Status.TheVariants.{Pass, Fail, Unknown, Error, Timeout, Memory}
use Rattle.sby_lines.specs.Lines.{done_line}
use Rattle.sby_lines.specs.Texts.{done_text, line_of, status_text}

-- no byte of the list is this one
Lacks : ℕ → List ℕ → Type 0
Lacks c [] = Unit {0}
Lacks c (b ∷ bs) = (b ≡ c → ⊥) × Lacks c bs

head_same : (a b : ℕ) (xs ys : List ℕ) → a ∷ xs ≡ b ∷ ys → a ≡ b
head_same a b xs ys e = cc

tail_same : (a b : ℕ) (xs ys : List ℕ) → a ∷ xs ≡ b ∷ ys → xs ≡ ys
tail_same a b xs ys e = cc

lacks_not : (c : ℕ) (xs ys : List ℕ) → Lacks c (xs ++ c ∷ ys) → ⊥
unfolding Lacks
lacks_not c [] ys h = h.0 refl
lacks_not c (x ∷ xs) ys h = lacks_not c xs ys h.1

-- what stands before the last such byte
before_last : (c : ℕ) (a b d e : List ℕ) → Lacks c d → Lacks c e → a ++ c ∷ d ≡ b ++ c ∷ e → a ≡ b
before_last c [] [] d e hd he h = refl
before_last c [] (y ∷ b) d e hd he h = absurd (lacks_not c b e (subst (Lacks c) (tail_same c y d (b ++ c ∷ e) h) hd))
before_last c (x ∷ a) [] d e hd he h = absurd (lacks_not c a d (subst (Lacks c) (sym (tail_same x c (a ++ c ∷ d) e h)) he))
before_last c (x ∷ a) (y ∷ b) d e hd he h =
    let rest = before_last c a b d e hd he (tail_same x y (a ++ c ∷ d) (b ++ c ∷ e) h) in
    ap (λ (n : ℕ). n ∷ a) (head_same x y (a ++ c ∷ d) (b ++ c ∷ e) h) ∙ ap (λ (l : List ℕ). y ∷ l) rest

lacks_both : (c : ℕ) (xs ys : List ℕ) → Lacks c xs → Lacks c ys → Lacks c (xs ++ ys)
unfolding Lacks
lacks_both c [] ys hx hy = hy
lacks_both c (x ∷ xs) ys hx hy = (hx.0, lacks_both c xs ys hx.1 hy)

last_of : ℕ → List ℕ → ℕ
last_of d [] = d
last_of d (x ∷ xs) = last_of x xs

last_app : (d : ℕ) (xs : List ℕ) (y : ℕ) (ys : List ℕ) → last_of d (xs ++ y ∷ ys) ≡ last_of y ys
unfolding last_of
last_app d [] y ys = refl
last_app d (x ∷ xs) y ys = last_app x xs y ys

digits_lack : (ds : List ℕ) → AllDigits 10 ds → Lacks 44 ds
unfolding Lacks
digits_lack [] a = tt
digits_lack (b ∷ bs) a = let k = digit_from_value b a.0 in ((λ is. absurd (omega (arith, k.0, is))), digits_lack bs a.1)

tail_lacks : (rc : ℕ) → rc < 2 ^ 64 → Lacks 44 (codes " rc=" ++ (decimal rc ++ (codes ")" ++ 10 ∷ [])))
unfolding Lacks
tail_lacks rc small = lacks_both 44 (codes " rc=") (decimal rc ++ (codes ")" ++ 10 ∷ [])) (omega arith, (omega arith, (omega arith, (omega arith, tt))))
    (lacks_both 44 (decimal rc) (codes ")" ++ 10 ∷ []) (digits_lack (decimal rc) (decimal_is_IsNumeral rc small).0.1) (omega arith, (omega arith, tt)))

-- the last line, up to its last comma
line_split : (name : List ℕ) (s : Status) (rc : ℕ) → done_line name s rc
    ≡ (codes "SBY [" ++ (name ++ (codes "] " ++ (codes "DONE (" ++ status_text s)))) ++ 44 ∷ (codes " rc=" ++ (decimal rc ++ (codes ")" ++ 10 ∷ [])))
unfolding done_text line_of
line_split name s rc =
    let text = status_text s in
    let end = codes ")" ++ 10 ∷ [] in
    let rest = codes " rc=" ++ (decimal rc ++ end) in
    let done = codes "DONE (" ++ (((text ++ codes ", rc=") ++ decimal rc) ++ codes ")") in
    let inner : (((text ++ codes ", rc=") ++ decimal rc) ++ codes ")") ++ 10 ∷ [] ≡ text ++ 44 ∷ rest =
    append_assoc ((text ++ codes ", rc=") ++ decimal rc) (codes ")") (10 ∷ [])
    ∙ (append_assoc (text ++ codes ", rc=") (decimal rc) end ∙ append_assoc text (codes ", rc=") (decimal rc ++ end)) in
    ap (λ (t : List ℕ). codes "SBY [" ++ (t ++ 10 ∷ [])) (append_assoc name (codes "] ") done)
    ∙ (ap (λ (t : List ℕ). codes "SBY [" ++ t) (append_assoc name (codes "] " ++ done) (10 ∷ []))
    ∙ (ap (λ (t : List ℕ). codes "SBY [" ++ (name ++ (codes "] " ++ (codes "DONE (" ++ t)))) inner
    ∙ ap (λ (t : List ℕ). codes "SBY [" ++ t) (sym (append_assoc name (codes "] " ++ (codes "DONE (" ++ text)) (44 ∷ rest)))))

-- the last letter of a status
letter : Status → ℕ
letter Pass = 83
letter Fail = 76
letter Unknown = 78
letter Error = 82
letter Timeout = 84
letter Memory = 89

letter_same : (s t : Status) → letter s ≡ letter t → s ≡ t
unfolding letter
letter_same Pass Pass e = refl
letter_same Pass Fail e = absurd (omega (arith, e))
letter_same Pass Unknown e = absurd (omega (arith, e))
letter_same Pass Error e = absurd (omega (arith, e))
letter_same Pass Timeout e = absurd (omega (arith, e))
letter_same Pass Memory e = absurd (omega (arith, e))
letter_same Fail Pass e = absurd (omega (arith, e))
letter_same Fail Fail e = refl
letter_same Fail Unknown e = absurd (omega (arith, e))
letter_same Fail Error e = absurd (omega (arith, e))
letter_same Fail Timeout e = absurd (omega (arith, e))
letter_same Fail Memory e = absurd (omega (arith, e))
letter_same Unknown Pass e = absurd (omega (arith, e))
letter_same Unknown Fail e = absurd (omega (arith, e))
letter_same Unknown Unknown e = refl
letter_same Unknown Error e = absurd (omega (arith, e))
letter_same Unknown Timeout e = absurd (omega (arith, e))
letter_same Unknown Memory e = absurd (omega (arith, e))
letter_same Error Pass e = absurd (omega (arith, e))
letter_same Error Fail e = absurd (omega (arith, e))
letter_same Error Unknown e = absurd (omega (arith, e))
letter_same Error Error e = refl
letter_same Error Timeout e = absurd (omega (arith, e))
letter_same Error Memory e = absurd (omega (arith, e))
letter_same Timeout Pass e = absurd (omega (arith, e))
letter_same Timeout Fail e = absurd (omega (arith, e))
letter_same Timeout Unknown e = absurd (omega (arith, e))
letter_same Timeout Error e = absurd (omega (arith, e))
letter_same Timeout Timeout e = refl
letter_same Timeout Memory e = absurd (omega (arith, e))
letter_same Memory Pass e = absurd (omega (arith, e))
letter_same Memory Fail e = absurd (omega (arith, e))
letter_same Memory Unknown e = absurd (omega (arith, e))
letter_same Memory Error e = absurd (omega (arith, e))
letter_same Memory Timeout e = absurd (omega (arith, e))
letter_same Memory Memory e = refl

text_ends : (s : Status) → last_of 93 (codes " DONE (" ++ status_text s) ≡ letter s
unfolding last_of letter status_text
text_ends Pass = refl
text_ends Fail = refl
text_ends Unknown = refl
text_ends Error = refl
text_ends Timeout = refl
text_ends Memory = refl

prefix : List ℕ → Status → List ℕ
prefix name s = codes "SBY [" ++ (name ++ (codes "] " ++ (codes "DONE (" ++ status_text s)))

prefix_ends : (d : ℕ) (front name : List ℕ) (s : Status) → last_of d (front ++ prefix name s) ≡ letter s
unfolding last_of prefix
prefix_ends d front name s =
    last_app d front 83 (codes "BY [" ++ (name ++ (codes "] " ++ (codes "DONE (" ++ status_text s))))
    ∙ (last_app 91 name 93 (codes " DONE (" ++ status_text s) ∙ text_ends s)

-- the status in a last line is the one that its bytes tell
pub one_done : (front other name : List ℕ) (s t : Status) (rc number : ℕ) → rc < 2 ^ 64 → number < 2 ^ 64 → front ++ done_line name s rc ≡ other ++ done_line name t number → s ≡ t
unfolding prefix
one_done front other name s t rc number small few same =
    let rest : ℕ → List ℕ = λ n. codes " rc=" ++ (decimal n ++ (codes ")" ++ 10 ∷ [])) in
    let split : (f : List ℕ) (x : Status) (n : ℕ) → f ++ done_line name x n ≡ (f ++ prefix name x) ++ 44 ∷ rest n =
    λ f x n. ap (λ (l : List ℕ). f ++ l) (line_split name x n) ∙ sym (append_assoc f (prefix name x) (44 ∷ rest n)) in
    let before = before_last 44 (front ++ prefix name s) (other ++ prefix name t) (rest rc) (rest number) (tail_lacks rc small) (tail_lacks number few)
    (sym (split front s rc) ∙ (same ∙ split other t number)) in
    letter_same s t (sym (prefix_ends 0 front name s) ∙ (ap (λ (l : List ℕ). last_of 0 l) before ∙ prefix_ends 0 other name t))
