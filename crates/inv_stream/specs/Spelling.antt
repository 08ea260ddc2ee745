-- The words of parts, letter by letter.
use Rattle.std.specs.Prelude.{ℕ, ◌+◌, Bool, cond, eqb, List, [], Option, Some, None, codes}
use Rattle.inv_stream.specs.declared.mode.Part.{Part}
use Rattle.inv_stream.specs.declared.mode.Part.TheVariants.{Head, Inv, Start, Step, Safe}
use Rattle.inv_stream.specs.declared.mode.Spell.{Spell}
use Rattle.inv_stream.specs.declared.mode.Spell.TheVariants.{I, In, Inv as WholeInv, S, St, Sta, Star, Start as WholeStart, Ste, Step as WholeStep, Sa, Saf, Safe as WholeSafe}

-- a part's word; the head has none
abbrev pub word_of : Part → List ℕ
word_of Head = []
word_of Inv = codes "inv"
word_of Start = codes "start"
word_of Step = codes "step"
word_of Safe = codes "safe"

abbrev pub place_of : Part → ℕ
place_of Head = 0
place_of Inv = 1
place_of Start = 2
place_of Step = 3
place_of Safe = 4

-- the second comes right after the first
abbrev pub is_next : Part → Part → Bool
is_next part other = eqb (place_of other) (place_of part + 1)

-- the letters so far
abbrev pub letters : Spell → List ℕ
letters I = codes "i"
letters In = codes "in"
letters WholeInv = codes "inv"
letters S = codes "s"
letters St = codes "st"
letters Sta = codes "sta"
letters Star = codes "star"
letters WholeStart = codes "start"
letters Ste = codes "ste"
letters WholeStep = codes "step"
letters Sa = codes "sa"
letters Saf = codes "saf"
letters WholeSafe = codes "safe"

-- the letters with one more, where a part's word begins so
abbrev pub if_letter : ℕ → ℕ → Spell → Option Spell → Option Spell
if_letter b letter longer other = cond (eqb b letter) (Some longer) other

abbrev pub grown : Spell → ℕ → Option Spell
grown I b = if_letter b 110 In None
grown In b = if_letter b 118 WholeInv None
grown WholeInv b = None
grown S b = if_letter b 116 St (if_letter b 97 Sa None)
grown St b = if_letter b 97 Sta (if_letter b 101 Ste None)
grown Sta b = if_letter b 114 Star None
grown Star b = if_letter b 116 WholeStart None
grown WholeStart b = None
grown Ste b = if_letter b 112 WholeStep None
grown WholeStep b = None
grown Sa b = if_letter b 102 Saf None
grown Saf b = if_letter b 101 WholeSafe None
grown WholeSafe b = None

-- the part of which they are the whole word
abbrev pub named : Spell → Option Part
named I = None
named In = None
named WholeInv = Some Inv
named S = None
named St = None
named Sta = None
named Star = None
named WholeStart = Some Start
named Ste = None
named WholeStep = Some Step
named Sa = None
named Saf = None
named WholeSafe = Some Safe
