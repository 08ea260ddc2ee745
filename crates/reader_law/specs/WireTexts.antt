-- Texts of a wire: its attributes and its options, both in any order.
use Rattle.std.specs.Prelude.{◌≡◌, ◌≢◌, ℕ, ◌<◌, Bool, true, false, List, [], ◌∷◌, ◌++◌, map, reverse, take, Option, Some, None, unwrap_or, codes}
use Rattle.design_core.specs.Shape.{WireOf}
use Rattle.rtlil_constant.specs.Constants.{Word}
use Rattle.reader_law.specs.Printed.{Line, IsIdentifier}
use Rattle.reader_law.specs.ConstantTexts.{State, IsAttributeText, IsNumberText}
use Rattle.reader_law.specs.ConstantTexts.State.{Zero, One, Undefined, HighImpedance, DontCare, Marked}

-- where a bit starts, if its digit tells it
abbrev pub start_of : State → Option Bool
start_of Zero = Some false
start_of One = Some true
start_of Undefined = None
start_of HighImpedance = None
start_of DontCare = None
start_of Marked = None

-- the lowest digit tells it of bit 0, and digits past the wire tell nothing
abbrev pub start_bits : ℕ → List State → List (Option Bool)
start_bits width states = map start_of (take width (reverse states))

-- attributes, and the constants of each `\init` among them
pub data IsAttributes : Line → List (List State) → Type 0 where
  no_attribute : IsAttributes [] []
  init : (w : Word) (states : List State) (ws : Line) (inits : List (List State)) → IsAttributeText w states → IsAttributes ws inits → IsAttributes (codes "attribute" ∷ codes "\\init" ∷ w ∷ ws) (states ∷ inits)
  other : (name w : Word) (states : List State) (ws : Line) (inits : List (List State)) → IsIdentifier name → name ≢ codes "\\init" → IsAttributeText w states → IsAttributes ws inits
      → IsAttributes (codes "attribute" ∷ name ∷ w ∷ ws) inits

-- options, the width among them, which is given once at most, and whether the wire is an input; the others have no meaning here
pub data IsOptions : Line → Option ℕ → Bool → Type 0 where
  no_option : IsOptions [] None false
  width : (w : Word) (n : ℕ) (ws : Line) (is_input : Bool) → IsNumberText w n → 0 < n → IsOptions ws None is_input → IsOptions (codes "width" ∷ w ∷ ws) (Some n) is_input
  offset : (w : Word) (n : ℕ) (ws : Line) (given : Option ℕ) (is_input : Bool) → IsNumberText w n → IsOptions ws given is_input → IsOptions (codes "offset" ∷ w ∷ ws) given is_input
  offset_below : (w : Word) (n : ℕ) (ws : Line) (given : Option ℕ) (is_input : Bool) → IsNumberText w n → IsOptions ws given is_input → IsOptions (codes "offset" ∷ (codes "-" ++ w) ∷ ws) given is_input
  input : (w : Word) (n : ℕ) (ws : Line) (given : Option ℕ) (is_input : Bool) → IsNumberText w n → IsOptions ws given is_input → IsOptions (codes "input" ∷ w ∷ ws) given true
  output : (w : Word) (n : ℕ) (ws : Line) (given : Option ℕ) (is_input : Bool) → IsNumberText w n → IsOptions ws given is_input → IsOptions (codes "output" ∷ w ∷ ws) given is_input
  upto : (ws : Line) (given : Option ℕ) (is_input : Bool) → IsOptions ws given is_input → IsOptions (codes "upto" ∷ ws) given is_input
  signed : (ws : Line) (given : Option ℕ) (is_input : Bool) → IsOptions ws given is_input → IsOptions (codes "signed" ∷ ws) given is_input

-- a wire's words: without a width it has one bit
pub record IsWireText (ws : Line) (x : WireOf) : Type 0 where
  pub attributes : Line
  pub inits : List (List State)
  pub options : Line
  pub given : Option ℕ
  pub are : ws ≡ attributes ++ codes "wire" ∷ (options ++ x.name ∷ [])
  pub is_attributes : IsAttributes attributes inits
  pub is_options : IsOptions options given x.input
  pub name : IsIdentifier x.name
  pub bits : x.width ≡ unwrap_or given 1
  pub starts : x.inits ≡ map (start_bits x.width) inits
