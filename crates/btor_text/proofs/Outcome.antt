-- What comes of a line's words.
use Rattle.std.proofs.Common.{◌≡◌, ◌≢◌, ℕ, Bool, List, [], ◌∷◌, Option, Some, None, refl, sym, ap, ◌∙◌, subst, inr}
use Rattle.std.specs.Prelude.{◌↔◌}
use Rattle.btor_core.specs.declared.line.Line.{Line}
use Rattle.btor_core.specs.Shape.{BtorOf}
use Rattle.btor_text.specs.Grammar.{Spells}
use Rattle.btor_text.specs.Reading.{SaidOf, bare, bits_back, cons_word, line_said}
use Rattle.btor_text.specs.Form.{saying}
use Rattle.btor_text.specs.Refusals.{IsPlaced, IsRefused, MayFollow, Refuses, Says}
use Rattle.btor_text.specs.Steps.{GoesOn, with_said}
use Rattle.btor_text.specs.declared.form.Said.{Said}
use Rattle.btor_text.specs.declared.reading.BtorKind.{BtorKind}
use Rattle.btor_text.specs.declared.reading.BtorKind.TheVariants as kind
use Rattle.btor_text.proofs.Back.{AreSome}
use Rattle.btor_text.proofs.Refusing.{says_same}
use Rattle.btor_text.proofs.Saying.{says}

-- a first word is one of some
pub some_words : (ws rest : List (List ℕ)) (w : List ℕ) → ws ≡ cons_word w rest → w ≢ [] → ws ≢ []
some_words ws rest [] e some none = some refl
some_words ws rest (b ∷ w) e some none = let h : [] ≡ (b ∷ w) ∷ rest = sym none ∙ e in cc

abbrev pub Exact : List (List ℕ) → Option SaidOf → Type 0
Exact words o = (constants : List Bool) (l : Line) → (o ≡ Some (line_said constants l)) ↔ Spells constants words l

-- words that say nothing are no line's
pub no_line : (m : BtorOf) (words : List (List ℕ)) → words ≢ [] → Exact words None → IsRefused m words kind.Syntax
no_line m words some exact = (some, λ x say placed. let e : None ≡ Some (line_said say.0 say.1) = (exact say.0 say.1).1 say.2 in absurd (cc))

pub words_say : (words : List (List ℕ)) (said : Said) → bare said.body ≡ said.body → Exact words (Some (saying said)) → Says words (saying said)
words_say words said e exact = says words (saying said) (bits_back said.digits.now) e refl (λ constants l is. (exact constants l).0 (ap (λ (x : SaidOf). Some x) (sym is)))

pub refused : (m : BtorOf) (words : List (List ℕ)) (x : SaidOf) (k : BtorKind) → AreSome words → words ≢ [] → Says words x → Refuses m x k → IsRefused m words k
refused m words x kind.Syntax all some say r = (some, λ y says placed. r (subst (λ (z : SaidOf). IsPlaced m.lines z) (says_same words y x all says say) placed))
refused m words x kind.UnknownNid all some say r = (x, say, r)
refused m words x kind.Sort all some say r = (x, say, r)
refused m words x kind.Limit all some say r = (x, say, r)

pub goes_on : (m n : BtorOf) (words : List (List ℕ)) (x : SaidOf) → Says words x → MayFollow m x → n ≡ with_said m x → GoesOn m words n
goes_on m n words x say f e = inr (x, record { says = say; follows = f; grown = e })
