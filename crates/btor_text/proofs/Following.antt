-- A line that may come after a model's, added to them.
use Rattle.std.proofs.Common.{◌≡◌, ℕ, ◌^◌, ◌<◌, Bool, List, [], ◌∷◌, ◌++◌, length, refl, sym, ap, ◌∙◌, subst}
use Rattle.std.proofs.lemmas.List.{append-nil}
use Rattle.btor_core.specs.declared.line.Node.{Node}
use Rattle.btor_core.specs.declared.line.Node.TheVariants as node
use Rattle.btor_core.specs.declared.line.Body.{Body}
use Rattle.btor_core.specs.declared.line.Body.TheVariants as body
use Rattle.btor_core.specs.declared.line.Line.{Line}
use Rattle.btor_core.specs.Fits.{BodyFits, IsBtor, IsWidth, LineFits, NodeFits}
use Rattle.btor_core.specs.Shape.{BtorOf, sort_at}
use Rattle.btor_text.specs.Reading.{SaidOf, bare, bare_node, body_digits, node_digits}
use Rattle.btor_text.specs.Refusals.{IsKnown, Matches, MayFollow, MayStand, BodyHasRoom, NodeHasRoom, NodeKnown, NodeMatches}
use Rattle.btor_text.specs.Steps.{fill, fill_node, with_said}
use Rattle.btor_text.proofs.Sized.{sort_is_width}

abbrev pub IsPlain : Node → Type 0
IsPlain n = (k : ℕ) → n ≡ node.Const k → ⊥

abbrev pub IsNoValue : Body → Type 0
IsNoValue b = (s w : ℕ) (n : Node) → b ≡ body.Value s w n → ⊥

node_fits : (constants bits : List Bool) (before : List Line) (w : ℕ) (n : Node) → IsPlain n → NodeKnown before n → NodeMatches bits before w n → NodeFits constants before w n
node_fits constants bits before w node.Input plain known fits = tt
node_fits constants bits before w node.State plain known fits = tt
node_fits constants bits before w (node.Const start) plain known fits = absurd (plain start refl)
node_fits constants bits before w node.Zero plain known fits = tt
node_fits constants bits before w node.One plain known fits = tt
node_fits constants bits before w node.Ones plain known fits = tt
node_fits constants bits before w (node.Unary k a) plain known fits = (known, fits)
node_fits constants bits before w (node.Binary k a b) plain known fits = (known.0, known.1, fits)
node_fits constants bits before w (node.Slice a upper lower) plain known fits = (known, fits)
node_fits constants bits before w (node.Uext a by) plain known fits = (known, fits)
node_fits constants bits before w (node.Sext a by) plain known fits = (known, fits)
node_fits constants bits before w (node.Ite s a b) plain known fits = (known.0, known.1, known.2, fits)

fill_plain : (p : ℕ) (n : Node) → IsPlain n → fill_node p n ≡ n
fill_plain p node.Input plain = refl
fill_plain p node.State plain = refl
fill_plain p (node.Const start) plain = absurd (plain start refl)
fill_plain p node.Zero plain = refl
fill_plain p node.One plain = refl
fill_plain p node.Ones plain = refl
fill_plain p (node.Unary k a) plain = refl
fill_plain p (node.Binary k a b) plain = refl
fill_plain p (node.Slice a upper lower) plain = refl
fill_plain p (node.Uext a by) plain = refl
fill_plain p (node.Sext a by) plain = refl
fill_plain p (node.Ite t a b) plain = refl

no_digits : (n : Node) (bs : List Bool) → IsPlain n → node_digits n bs ≡ []
no_digits node.Input bs plain = refl
no_digits node.State bs plain = refl
no_digits (node.Const start) bs plain = absurd (plain start refl)
no_digits node.Zero bs plain = refl
no_digits node.One bs plain = refl
no_digits node.Ones bs plain = refl
no_digits (node.Unary k a) bs plain = refl
no_digits (node.Binary k a b) bs plain = refl
no_digits (node.Slice a upper lower) bs plain = refl
no_digits (node.Uext a by) bs plain = refl
no_digits (node.Sext a by) bs plain = refl
no_digits (node.Ite t a b) bs plain = refl

plain_body_fits : (constants bits : List Bool) (before : List Line) (b : Body) → IsNoValue b → MayStand before b → IsKnown before b → Matches bits before b → BodyHasRoom constants b → BodyFits constants before b
plain_body_fits constants bits before (body.Sort w) other stand known fits room = (stand, room)
plain_body_fits constants bits before (body.Value s w n) other stand known fits room = absurd (other s w n refl)
plain_body_fits constants bits before (body.Init s q v) other stand known fits room = record { fits = record { sort = known.0; state = fits.0; value = fits.1 }; first = stand.0; early = stand.1 }
plain_body_fits constants bits before (body.Next s q v) other stand known fits room = record { fits = record { sort = known.0; state = fits.0; value = fits.1 }; first = stand }
plain_body_fits constants bits before (body.Bad n) other stand known fits room = fits
plain_body_fits constants bits before (body.Constraint n) other stand known fits room = fits

fill_other : (f : ℕ → ℕ) (p : ℕ) (b : Body) → IsNoValue b → fill f p b ≡ b
fill_other f p (body.Sort w) other = refl
fill_other f p (body.Value s w n) other = absurd (other s w n refl)
fill_other f p (body.Init s q v) other = refl
fill_other f p (body.Next s q v) other = refl
fill_other f p (body.Bad n) other = refl
fill_other f p (body.Constraint n) other = refl

other_digits : (b : Body) (bs : List Bool) → IsNoValue b → body_digits b bs ≡ []
other_digits (body.Sort w) bs other = refl
other_digits (body.Value s w n) bs other = absurd (other s w n refl)
other_digits (body.Init s q v) bs other = refl
other_digits (body.Next s q v) bs other = refl
other_digits (body.Bad n) bs other = refl
other_digits (body.Constraint n) bs other = refl

grown : (m : BtorOf) (x : SaidOf) (b : Body) → b ≡ fill (sort_at m.lines) (length m.constants) x.body → x.bits ≡ [] → record { lines = m.lines ++ record { nid = x.nid; body = b } ∷ []; constants = m.constants } ≡ with_said m x
grown m x b e none =
    let P : Body → List Bool → BtorOf = λ c cs. record { lines = m.lines ++ record { nid = x.nid; body = c } ∷ []; constants = cs } in
    ap (λ (c : Body). P c m.constants) e ∙ ap (λ (cs : List Bool). P (fill (sort_at m.lines) (length m.constants) x.body) cs) (sym (append-nil m.constants) ∙ ap (λ (bs : List Bool). m.constants ++ bs) (sym none))

-- a line that is no value's
module _ (m : BtorOf) (x : SaidOf) (other : IsNoValue x.body) where
  pub other_fits : MayFollow m x → LineFits m.constants m.lines (record { nid = x.nid; body = x.body })
  other_fits f = record {
    some = f.placed.some;
    limit = f.within.nid;
    rises = f.placed.rises;
    body = plain_body_fits m.constants x.bits m.lines x.body other f.placed.body f.known f.widths f.within.body;
  }

  pub other_grown : (bs : List Bool) → x.bits ≡ body_digits x.body bs → record { lines = m.lines ++ record { nid = x.nid; body = x.body } ∷ []; constants = m.constants } ≡ with_said m x
  other_grown bs e = grown m x x.body (sym (fill_other (sort_at m.lines) (length m.constants) x.body other)) (e ∙ other_digits x.body bs other)

-- a value of a sort
module _ (m : BtorOf) (x : SaidOf) (s : ℕ) (n : Node) (ds : List Bool) (is : x.body ≡ body.Value s 0 n) (from : x.bits ≡ body_digits x.body ds) (h : IsBtor m) (f : MayFollow m x) where
  value_known : IsKnown m.lines (body.Value s 0 n)
  value_known = subst (λ (b : Body). IsKnown m.lines b) is f.known

  value_matches : NodeMatches x.bits m.lines (sort_at m.lines s) n
  value_matches = subst (λ (b : Body). Matches x.bits m.lines b) is f.widths

  value_room : BodyHasRoom m.constants (body.Value s 0 n)
  value_room = subst (λ (b : Body). BodyHasRoom m.constants b) is f.within.body

  value_bits : x.bits ≡ node_digits n ds
  value_bits = from ∙ ap (λ (b : Body). body_digits b ds) is

  filled_value : fill (sort_at m.lines) (length m.constants) x.body ≡ body.Value s (sort_at m.lines s) (fill_node (length m.constants) n)
  filled_value = ap (λ (b : Body). fill (sort_at m.lines) (length m.constants) b) is

  -- which is no constant
  module _ (plain : IsPlain n) (w : ℕ) (wide : w ≡ sort_at m.lines s) where
    pub value_fits : LineFits m.constants m.lines (record { nid = x.nid; body = body.Value s w n })
    value_fits =
        let width : IsWidth w = subst IsWidth (sym wide) (sort_is_width m s h value_known.0) in
        let fits : NodeFits m.constants m.lines w n = subst (λ (v : ℕ). NodeFits m.constants m.lines v n) (sym wide) (node_fits m.constants x.bits m.lines (sort_at m.lines s) n plain value_known.1 value_matches) in
        record { some = f.placed.some; limit = f.within.nid; rises = f.placed.rises; body = record { width = width; sort = sym wide; node = fits } }

    pub value_grown : record { lines = m.lines ++ record { nid = x.nid; body = body.Value s w n } ∷ []; constants = m.constants } ≡ with_said m x
    value_grown =
        grown m x (body.Value s w n) (ap (λ (v : ℕ). body.Value s v n) wide ∙ ap (λ (o : Node). body.Value s (sort_at m.lines s) o) (sym (fill_plain (length m.constants) n plain)) ∙ sym filled_value) (value_bits ∙ no_digits n ds plain)

-- a constant of a sort
module _ (m : BtorOf) (x : SaidOf) (s k : ℕ) (ds : List Bool) (is : x.body ≡ body.Value s 0 (node.Const k)) (from : x.bits ≡ body_digits x.body ds) (h : IsBtor m) (f : MayFollow m x) where
  bits_are : x.bits ≡ ds
  bits_are = value_bits m x s (node.Const k) ds is from h f

  pub constant_sort : sort_at m.lines s ≡ length ds
  constant_sort = sym (value_matches m x s (node.Const k) ds is from h f) ∙ ap (λ (bs : List Bool). length bs) bits_are

  pub constant_width_fits : IsWidth (length ds)
  constant_width_fits = subst IsWidth constant_sort (sort_is_width m s h (value_known m x s (node.Const k) ds is from h f).0)

  pub constant_room : length m.constants < 2 ^ 32
  constant_room = value_room m x s (node.Const k) ds is from h f

  pub constant_grown : record { lines = m.lines ++ record { nid = x.nid; body = body.Value s (length ds) (node.Const (length m.constants)) } ∷ []; constants = m.constants ++ ds } ≡ with_said m x
  constant_grown =
      let P : Body → List Bool → BtorOf = λ b bs. record { lines = m.lines ++ record { nid = x.nid; body = b } ∷ []; constants = m.constants ++ bs } in
      ap (λ (b : Body). P b ds) (ap (λ (w : ℕ). body.Value s w (node.Const (length m.constants))) (sym constant_sort) ∙ sym (filled_value m x s (node.Const k) ds is from h f))
      ∙ ap (λ (bs : List Bool). P (fill (sort_at m.lines) (length m.constants) x.body) bs) (sym bits_are)

-- a bare value has no width
pub bare_value : (b : Body) (s w : ℕ) (n : Node) → b ≡ body.Value s w n → bare b ≡ b → b ≡ body.Value s 0 n
bare_value b s w n e h =
    let same : body.Value s 0 (bare_node n) ≡ body.Value s w n = ap bare (sym e) ∙ h ∙ e in
    let width : 0 ≡ w = cc in
    e ∙ ap (λ (v : ℕ). body.Value s v n) (sym width)

pub plain_room : (cs : List Bool) (n : Node) → IsPlain n → NodeHasRoom cs n
plain_room cs node.Input plain = tt
plain_room cs node.State plain = tt
plain_room cs (node.Const start) plain = absurd (plain start refl)
plain_room cs node.Zero plain = tt
plain_room cs node.One plain = tt
plain_room cs node.Ones plain = tt
plain_room cs (node.Unary k a) plain = tt
plain_room cs (node.Binary k a b) plain = tt
plain_room cs (node.Slice a upper lower) plain = tt
plain_room cs (node.Uext a by) plain = tt
plain_room cs (node.Sext a by) plain = tt
plain_room cs (node.Ite t a b) plain = tt
