-- Values line by line, from what is chosen for inputs and states.
use Rattle.std.proofs.Common.{◌≡◌, ℕ, ◌+◌, ◌<◌, ◌≤◌, Bool, true, false, cond, eqb, take, drop, List, [], ◌∷◌, ◌++◌, refl, sym, ap, ◌∙◌, subst, arith, length, append_assoc}
use Rattle.std.specs.Prelude.{All, pos, negsuc}
use Rattle.std.proofs.lemmas.Bool.Decides.{nat_tests}
use Rattle.std.proofs.lemmas.List.{drop-append-le, take-append-le}
use Rattle.std.proofs.Common.{length-drop}
use Rattle.std.proofs.lemmas.List.Elements.{All-append, All-cons, All-head, All-nil, All-tail, All-weaker}
use Rattle.sby_bits.specs.Rows.{Row, fit, ext}
use Rattle.sby_bits.specs.Words.{some_bit}
use Rattle.cell_table.specs.Cells.{slice_fn}
use Rattle.btor_core.specs.declared.line.Node.{Node}
use Rattle.btor_core.specs.declared.line.Node.TheVariants as node
use Rattle.btor_core.specs.declared.line.Body.{Body}
use Rattle.btor_core.specs.declared.line.Body.TheVariants as body
use Rattle.btor_core.specs.declared.line.Line.{Line}
use Rattle.btor_core.specs.declared.line.Word.{Word}
use Rattle.btor_core.specs.Shape.{BtorOf, open_nodes_of, open_words, open_words_of, value_width}
use Rattle.btor_core.specs.Fits.{BodyFits, HasValue, IsBtor, LineFits, NodeFits}
use Rattle.btor_core.specs.Meaning.{BodyHolds, Holds, LineHolds, NodeHolds, Values, binary_row, unary_row}
use Rattle.btor_core.specs.Choices.{Agree, AreChoices}
use Rattle.btor_core.specs.Growth.{GoesFurther, Grows}
use Rattle.btor_core.proofs.Cuts.{all_at, all_back, all_cuts, all_front, cut_front}
use Rattle.btor_core.proofs.Reading.{at_below}
use Rattle.btor_core.proofs.Rows.{node_local}

abbrev node_row : List Bool → Values → Values → ℕ → ℕ → Node → Row
node_row constants choice vs k w node.Input = choice k
node_row constants choice vs k w node.State = choice k
node_row constants choice vs k w (node.Const start) = take w (drop start constants)
node_row constants choice vs k w node.Zero = fit w (pos 0)
node_row constants choice vs k w node.One = fit w (pos 1)
node_row constants choice vs k w node.Ones = fit w (negsuc 0)
node_row constants choice vs k w (node.Unary o a) = unary_row o w (vs a)
node_row constants choice vs k w (node.Binary o a b) = binary_row o w (vs a) (vs b)
node_row constants choice vs k w (node.Slice a upper lower) = slice_fn w lower (vs a)
node_row constants choice vs k w (node.Uext a by) = ext (vs a) false w
node_row constants choice vs k w (node.Sext a by) = ext (vs a) true w
node_row constants choice vs k w (node.Ite s a b) = cond (some_bit (vs s)) (vs a) (vs b)

abbrev body_row : List Bool → Values → Values → ℕ → Body → Row
body_row constants choice vs k (body.Sort w) = []
body_row constants choice vs k (body.Value s w n) = node_row constants choice vs k w n
body_row constants choice vs k (body.Init s q v) = []
body_row constants choice vs k (body.Next s q v) = []
body_row constants choice vs k (body.Bad n) = []
body_row constants choice vs k (body.Constraint n) = []

-- the values with this row at k
abbrev put : Values → ℕ → Row → Values
put vs k r j = cond (eqb j k) r (vs j)

put_there : (vs : Values) (k : ℕ) (r : Row) → put vs k r k ≡ r
put_there vs k r = let e : eqb k k ≡ true = grind (arith, nat_tests) in rw e refl

put_other : (vs : Values) (k j : ℕ) (r : Row) → j < k → put vs k r j ≡ vs j
put_other vs k j r h = let e : eqb j k ≡ false = grind (arith, nat_tests) in rw e refl

-- a node has the row that is made for it
node_made : (constants : List Bool) (choice vs : Values) (k w : ℕ) (n : Node) → AreChoices (open_nodes_of k w n) choice → NodeHolds constants vs w (node_row constants choice vs k w n) n
node_made constants choice vs k w node.Input f = f 0 (record { nid = k; width = w }) (omega arith)
node_made constants choice vs k w node.State f = f 0 (record { nid = k; width = w }) (omega arith)
node_made constants choice vs k w (node.Const start) f = refl
node_made constants choice vs k w node.Zero f = refl
node_made constants choice vs k w node.One f = refl
node_made constants choice vs k w node.Ones f = refl
node_made constants choice vs k w (node.Unary o a) f = refl
node_made constants choice vs k w (node.Binary o a b) f = refl
node_made constants choice vs k w (node.Slice a upper lower) f = refl
node_made constants choice vs k w (node.Uext a by) f = refl
node_made constants choice vs k w (node.Sext a by) f = refl
node_made constants choice vs k w (node.Ite s a b) f = refl

body_made : (constants : List Bool) (before : List Line) (choice vs us : Values) (k : ℕ) (b : Body) → ((j : ℕ) → HasValue before j → us j ≡ vs j) → us k ≡ body_row constants choice vs k b → BodyFits constants before b → AreChoices (open_words_of k b) choice
    → BodyHolds constants us k b
body_made constants before choice vs us k (body.Sort w) same e f c = tt
body_made constants before choice vs us k (body.Value s w n) same e f c = rw e (node_local constants before vs us w (node_row constants choice vs k w n) n same f.node (node_made constants choice vs k w n c))
body_made constants before choice vs us k (body.Init s q v) same e f c = tt
body_made constants before choice vs us k (body.Next s q v) same e f c = tt
body_made constants before choice vs us k (body.Bad n) same e f c = tt
body_made constants before choice vs us k (body.Constraint n) same e f c = tt

-- an open word has the row that was chosen
agree_one : (choice us : Values) (k w : ℕ) → us k ≡ choice k → Agree (record { nid = k; width = w } ∷ []) choice us
agree_one choice us k w e = let a : Word = record { nid = k; width = w } in All-cons (λ (x : Word). us x.nid ≡ choice x.nid) a [] e (All-nil (λ (x : Word). us x.nid ≡ choice x.nid))

agree_none : (choice us : Values) → Agree [] choice us
agree_none choice us = All-nil (λ (x : Word). us x.nid ≡ choice x.nid)

node_chosen : (constants : List Bool) (choice vs us : Values) (k w : ℕ) (n : Node) → us k ≡ node_row constants choice vs k w n → Agree (open_nodes_of k w n) choice us
node_chosen constants choice vs us k w node.Input e = agree_one choice us k w e
node_chosen constants choice vs us k w node.State e = agree_one choice us k w e
node_chosen constants choice vs us k w (node.Const start) e = agree_none choice us
node_chosen constants choice vs us k w node.Zero e = agree_none choice us
node_chosen constants choice vs us k w node.One e = agree_none choice us
node_chosen constants choice vs us k w node.Ones e = agree_none choice us
node_chosen constants choice vs us k w (node.Unary o a) e = agree_none choice us
node_chosen constants choice vs us k w (node.Binary o a b) e = agree_none choice us
node_chosen constants choice vs us k w (node.Slice a upper lower) e = agree_none choice us
node_chosen constants choice vs us k w (node.Uext a by) e = agree_none choice us
node_chosen constants choice vs us k w (node.Sext a by) e = agree_none choice us
node_chosen constants choice vs us k w (node.Ite s a b) e = agree_none choice us

body_chosen : (constants : List Bool) (choice vs us : Values) (k : ℕ) (b : Body) → us k ≡ body_row constants choice vs k b → Agree (open_words_of k b) choice us
body_chosen constants choice vs us k (body.Sort w) e = agree_none choice us
body_chosen constants choice vs us k (body.Value s w n) e = node_chosen constants choice vs us k w n e
body_chosen constants choice vs us k (body.Init s q v) e = agree_none choice us
body_chosen constants choice vs us k (body.Next s q v) e = agree_none choice us
body_chosen constants choice vs us k (body.Bad n) e = agree_none choice us
body_chosen constants choice vs us k (body.Constraint n) e = agree_none choice us

-- values for the lines of `rest` that go on from vs
record Extends (constants : List Bool) (rest : List Line) (vs choice us : Values) : Type 0 where
  same : (j : ℕ) → All (λ l. j < l.nid) rest → us j ≡ vs j
  holds : All (LineHolds constants us) rest
  chosen : Agree (open_words rest) choice us

-- the numbers of later lines are greater
later : (m : BtorOf) (before rest : List Line) (l : Line) → IsBtor m → m.lines ≡ before ++ l ∷ rest → All (λ x. l.nid < x.nid) rest
later m before rest l fits e = all_cuts (λ (x : Line). l.nid < x.nid) [] rest (λ b more x cut.
    let whole : m.lines ≡ (before ++ l ∷ b) ++ x ∷ more = e ∙ ap (λ (ls : List Line). before ++ l ∷ ls) cut ∙ sym (append_assoc before (l ∷ b) (x ∷ more)) in
    all_at (λ (k : Line). k.nid < x.nid) (before ++ l ∷ b) before b l refl (fits.each (before ++ l ∷ b) more x whole).rises)

module _ (m : BtorOf) (fits : IsBtor m) (choice : Values) where
  extend : (before rest : List Line) (vs : Values) → m.lines ≡ before ++ rest → AreChoices (open_words rest) choice → (us : Values) × Extends m.constants rest vs choice us
  extend before [] vs e c = (vs, record { same = λ j h. refl; holds = All-nil (LineHolds m.constants vs); chosen = agree_none choice vs })
  extend before (l ∷ rest) vs e c =
      let row : Row = body_row m.constants choice vs l.nid l.body in
      let cut : m.lines ≡ (before ++ l ∷ []) ++ rest = e ∙ sym (append_assoc before (l ∷ []) rest) in
      let mine : AreChoices (open_words_of l.nid l.body) choice = all_front (λ (a : Word). length (choice a.nid) ≡ a.width) (open_words_of l.nid l.body) (open_words rest) c in
      let theirs : AreChoices (open_words rest) choice = all_back (λ (a : Word). length (choice a.nid) ≡ a.width) (open_words_of l.nid l.body) (open_words rest) c in
      let more = extend (before ++ l ∷ []) rest (put vs l.nid row) cut theirs in
      let us : Values = more.0 in
      let line : LineFits m.constants before l = fits.each before rest l e in
      let above : All (λ (x : Line). l.nid < x.nid) rest = later m before rest l fits e in
      let at_l : us l.nid ≡ row = more.1.same l.nid above ∙ put_there vs l.nid row in
      let below : (j : ℕ) → HasValue before j → us j ≡ vs j = λ j some.
      let less : j < l.nid = at_below value_width before j l.nid line.rises some in
      more.1.same j (All-weaker (λ (x : Line). l.nid < x.nid) (λ (x : Line). j < x.nid) (λ x h. omega arith) rest above) ∙ put_other vs l.nid j row less in (
        us,
        record {
          same = λ j h.
              let less : j < l.nid = All-head (λ (x : Line). j < x.nid) l rest h in
              more.1.same j (All-tail (λ (x : Line). j < x.nid) l rest h) ∙ put_other vs l.nid j row less;
          holds = All-cons (LineHolds m.constants us) l rest (body_made m.constants before choice vs us l.nid l.body below at_l line.body mine) more.1.holds;
          chosen = All-append (λ (a : Word). us a.nid ≡ choice a.nid) (open_words_of l.nid l.body) (open_words rest) (body_chosen m.constants choice vs us l.nid l.body at_l) more.1.chosen;
        },
      )

pub choices_have_values : (m : BtorOf) (choice : Values) → IsBtor m → AreChoices (open_words m.lines) choice → (vs : Values) × Holds m vs × Agree (open_words m.lines) choice vs
choices_have_values m choice fits c =
    let made = extend m fits choice [] m.lines (λ k. []) refl c in
    (made.0, made.1.holds, made.1.chosen)

-- a constant's bits are the same in a table that has more
bits_stay : (cs more : List Bool) (w start : ℕ) → start + w ≤ length cs → take w (drop start (cs ++ more)) ≡ take w (drop start cs)
bits_stay cs more w start h =
    let front : start ≤ length cs = omega arith in
    let rest : w ≤ length (drop start cs) = let e = length-drop start cs in omega arith in
    ap (λ (bs : List Bool). take w bs) (drop-append-le start cs more front) ∙ take-append-le w (drop start cs) more rest

node_stays : (cs more : List Bool) (before : List Line) (vs : Values) (w : ℕ) (r : Row) (n : Node) → NodeFits cs before w n → NodeHolds (cs ++ more) vs w r n → NodeHolds cs vs w r n
node_stays cs more before vs w r node.Input f h = h
node_stays cs more before vs w r node.State f h = h
node_stays cs more before vs w r (node.Const start) f h = h ∙ bits_stay cs more w start f.1
node_stays cs more before vs w r node.Zero f h = h
node_stays cs more before vs w r node.One f h = h
node_stays cs more before vs w r node.Ones f h = h
node_stays cs more before vs w r (node.Unary o a) f h = h
node_stays cs more before vs w r (node.Binary o a b) f h = h
node_stays cs more before vs w r (node.Slice a upper lower) f h = h
node_stays cs more before vs w r (node.Uext a by) f h = h
node_stays cs more before vs w r (node.Sext a by) f h = h
node_stays cs more before vs w r (node.Ite s a b) f h = h

node_grows : (cs more : List Bool) (before : List Line) (vs : Values) (w : ℕ) (r : Row) (n : Node) → NodeFits cs before w n → NodeHolds cs vs w r n → NodeHolds (cs ++ more) vs w r n
node_grows cs more before vs w r node.Input f h = h
node_grows cs more before vs w r node.State f h = h
node_grows cs more before vs w r (node.Const start) f h = h ∙ sym (bits_stay cs more w start f.1)
node_grows cs more before vs w r node.Zero f h = h
node_grows cs more before vs w r node.One f h = h
node_grows cs more before vs w r node.Ones f h = h
node_grows cs more before vs w r (node.Unary o a) f h = h
node_grows cs more before vs w r (node.Binary o a b) f h = h
node_grows cs more before vs w r (node.Slice a upper lower) f h = h
node_grows cs more before vs w r (node.Uext a by) f h = h
node_grows cs more before vs w r (node.Sext a by) f h = h
node_grows cs more before vs w r (node.Ite s a b) f h = h

body_stays : (cs more : List Bool) (before : List Line) (vs : Values) (k : ℕ) (b : Body) → BodyFits cs before b → BodyHolds (cs ++ more) vs k b → BodyHolds cs vs k b
body_stays cs more before vs k (body.Sort w) f h = tt
body_stays cs more before vs k (body.Value s w n) f h = node_stays cs more before vs w (vs k) n f.node h
body_stays cs more before vs k (body.Init s q v) f h = tt
body_stays cs more before vs k (body.Next s q v) f h = tt
body_stays cs more before vs k (body.Bad n) f h = tt
body_stays cs more before vs k (body.Constraint n) f h = tt

-- values of a line hold by other values that are the same at the line and where lines before it have a value
body_goes_on : (cs more : List Bool) (before : List Line) (vs us : Values) (k : ℕ) (b : Body) → ((j : ℕ) → HasValue before j → us j ≡ vs j) → us k ≡ vs k → BodyFits cs before b → BodyHolds cs vs k b → BodyHolds (cs ++ more) us k b
body_goes_on cs more before vs us k (body.Sort w) same e f h = tt
body_goes_on cs more before vs us k (body.Value s w n) same e f h = rw e (node_grows cs more before us w (vs k) n f.node (node_local cs before vs us w (vs k) n same f.node h))
body_goes_on cs more before vs us k (body.Init s q v) same e f h = tt
body_goes_on cs more before vs us k (body.Next s q v) same e f h = tt
body_goes_on cs more before vs us k (body.Bad n) same e f h = tt
body_goes_on cs more before vs us k (body.Constraint n) same e f h = tt

-- values of a model hold of its first lines
pub front_holds : (m n : BtorOf) → IsBtor m → Grows m n → (vs : Values) → Holds n vs → Holds m vs
front_holds m n fits g vs h =
    let all : All (LineHolds (m.constants ++ g.bits) vs) (m.lines ++ g.more) = rw (g.lines, g.constants) at h in
    all_cuts (LineHolds m.constants vs) [] m.lines (λ b more l e.
    body_stays m.constants g.bits b vs l.nid l.body (fits.each b more l e).body (all_at (LineHolds (m.constants ++ g.bits) vs) (m.lines ++ g.more) b (more ++ g.more) l (cut_front m.lines g.more b more l e) all))

-- the numbers of a model's lines are below those of lines that were added
added_above : (m n : BtorOf) → IsBtor n → (g : Grows m n) → (b more : List Line) (l : Line) → m.lines ≡ b ++ l ∷ more → All (λ x. l.nid < x.nid) g.more
added_above m n fits g b more l e = all_back (λ (x : Line). l.nid < x.nid) more g.more (later n b (more ++ g.more) l fits (g.lines ∙ cut_front m.lines g.more b more l e))

-- a number that has a value is below all that are above the lines
values_below : (lines : List Line) (j : ℕ) (x : ℕ) → HasValue lines j → All (λ l. l.nid < x) lines → j < x
values_below lines j x some h = at_below value_width lines j x h some

-- values of a model go on with any choice for what was added
pub values_go_on : (m n : BtorOf) → IsBtor m → IsBtor n → (g : Grows m n) → (vs choice : Values) → Holds m vs → AreChoices (open_words g.more) choice → (us : Values) × GoesFurther m n g.more vs choice us
values_go_on m n fits all_fits g vs choice holds c =
    let made = extend n all_fits choice m.lines g.more vs g.lines c in
    let us : Values = made.0 in
    let below : (j : ℕ) → HasValue m.lines j → us j ≡ vs j = λ j some.
    made.1.same j (all_cuts (λ (x : Line). j < x.nid) [] g.more (λ b more x e.
    let cut : n.lines ≡ (m.lines ++ b) ++ x ∷ more = g.lines ∙ ap (λ (ls : List Line). m.lines ++ ls) e ∙ sym (append_assoc m.lines b (x ∷ more)) in
    values_below m.lines j x.nid some (all_front (λ (k : Line). k.nid < x.nid) m.lines b (all_fits.each (m.lines ++ b) more x cut).rises))) in
    let first : All (LineHolds (m.constants ++ g.bits) us) m.lines = all_cuts (LineHolds (m.constants ++ g.bits) us) [] m.lines (λ b more l e.
    let mine : us l.nid ≡ vs l.nid = made.1.same l.nid (added_above m n all_fits g b more l e) in
    let before : (j : ℕ) → HasValue b j → us j ≡ vs j = λ j some.
    let less : j < l.nid = at_below value_width b j l.nid (fits.each b more l e).rises some in
    made.1.same j (All-weaker (λ (x : Line). l.nid < x.nid) (λ (x : Line). j < x.nid) (λ x h. omega arith) g.more (added_above m n all_fits g b more l e)) in
    body_goes_on m.constants g.bits b vs us l.nid l.body before mine (fits.each b more l e).body (all_at (LineHolds m.constants vs) m.lines b more l e holds)) in
    let rest : All (LineHolds (m.constants ++ g.bits) us) g.more = subst (λ (cs : List Bool). All (LineHolds cs us) g.more) g.constants made.1.holds in
    let whole : All (LineHolds (m.constants ++ g.bits) us) (m.lines ++ g.more) = All-append (LineHolds (m.constants ++ g.bits) us) m.lines g.more first rest in
    let all : Holds n us = subst (λ (cs : List Bool). All (LineHolds cs us) n.lines) (sym g.constants) (subst (λ (ls : List Line). All (LineHolds (m.constants ++ g.bits) us) ls) (sym g.lines) whole) in
    (us, record { holds = all; same = below; chosen = made.1.chosen })
