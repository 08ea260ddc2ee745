-- Texts and models, one line more.
use Rattle.std.proofs.Common.{◌≡◌, ℕ, ◌+◌, ◌<◌, ◌≤◌, ◌^◌, Bool, List, [], ◌∷◌, ◌++◌, Some, length, take, drop, refl, sym, ap, ◌∙◌, subst, inl, inr, arith, length-drop}
use Rattle.std.specs.Prelude.{All}
use Rattle.std.specs.List.{AllZip}
use Rattle.std.proofs.lemmas.List.{append-nil, take-append-le, drop-append-le}
use Rattle.std.proofs.lemmas.List.Elements.{All-head, All-tail}
use Rattle.btor_core.specs.declared.line.Node.{Node}
use Rattle.btor_core.specs.declared.line.Node.TheVariants as node
use Rattle.btor_core.specs.declared.line.Body.{Body}
use Rattle.btor_core.specs.declared.line.Body.TheVariants as body
use Rattle.btor_core.specs.declared.line.Line.{Line}
use Rattle.btor_core.specs.Shape.{BtorOf, constant_bits, constant_node_width, constant_width, sort_at}
use Rattle.btor_core.specs.Fits.{BodyFits, IsBtor, NodeFits}
use Rattle.btor_core.proofs.Cuts.{all_cuts, push_cut}
use Rattle.btor_text.specs.Grammar.{AreLines, Spells, all_words, body_bits, line_words, node_bits, put_words, uncommented}
use Rattle.btor_text.specs.Reading.{SaidOf, line_said, said_of}
use Rattle.btor_text.specs.Refusals.{BodyHasRoom, HasRoom, MayFollow, NodeHasRoom, Says}
use Rattle.btor_text.specs.Steps.{GoesOn, fill, fill_node, line_of, with_said}
use Rattle.btor_text.proofs.Back.{AreSome, line_read, words_some}
use Rattle.btor_text.proofs.Forth.{line_exact}
use Rattle.btor_text.proofs.Saying.{filled_says, matches_width, says_bare, says_digits}

-- bits of lines stay as the table grows
take_within : (cs bits : List Bool) (p w : ℕ) → p + w ≤ length cs → take w (drop p (cs ++ bits)) ≡ take w (drop p cs)
take_within cs bits p w h =
    let d = length-drop p cs in
    ap (λ (bs : List Bool). take w bs) (drop-append-le p cs bits (omega arith)) ∙ take-append-le w (drop p cs) bits (omega arith)

node_bits_stay : (cs bits : List Bool) (before : List Line) (w : ℕ) (n : Node) → NodeFits cs before w n → node_bits (cs ++ bits) w n ≡ node_bits cs w n
node_bits_stay cs bits before w node.Input f = refl
node_bits_stay cs bits before w node.State f = refl
node_bits_stay cs bits before w (node.Const start) f = take_within cs bits start w f.1
node_bits_stay cs bits before w node.Zero f = refl
node_bits_stay cs bits before w node.One f = refl
node_bits_stay cs bits before w node.Ones f = refl
node_bits_stay cs bits before w (node.Unary k a) f = refl
node_bits_stay cs bits before w (node.Binary k a b) f = refl
node_bits_stay cs bits before w (node.Slice a upper lower) f = refl
node_bits_stay cs bits before w (node.Uext a by) f = refl
node_bits_stay cs bits before w (node.Sext a by) f = refl
node_bits_stay cs bits before w (node.Ite t a b) f = refl

body_bits_stay : (cs bits : List Bool) (before : List Line) (b : Body) → BodyFits cs before b → body_bits (cs ++ bits) b ≡ body_bits cs b
body_bits_stay cs bits before (body.Sort w) f = refl
body_bits_stay cs bits before (body.Value s w n) f = node_bits_stay cs bits before w n f.node
body_bits_stay cs bits before (body.Init s q v) f = refl
body_bits_stay cs bits before (body.Next s q v) f = refl
body_bits_stay cs bits before (body.Bad n) f = refl
body_bits_stay cs bits before (body.Constraint n) f = refl

abbrev pub BitsAgree : List Bool → List Bool → Line → Type 0
BitsAgree cs ds l = body_bits ds l.body ≡ body_bits cs l.body

pub bits_stay : (m : BtorOf) (bits : List Bool) → IsBtor m → All (BitsAgree m.constants (m.constants ++ bits)) m.lines
bits_stay m bits h = all_cuts (BitsAgree m.constants (m.constants ++ bits)) [] m.lines (λ before more l e. body_bits_stay m.constants bits before l.body (h.each before more l e).body)

spells_same : (cs ds : List Bool) (words : List (List ℕ)) (l : Line) → BitsAgree cs ds l → Spells cs words l → Spells ds words l
spells_same cs ds words l e h = rw e h

pub all_same : (cs ds : List Bool) (wss : List (List (List ℕ))) (ls : List Line) → All (BitsAgree cs ds) ls → AllZip (Spells cs) wss ls → AllZip (Spells ds) wss ls
all_same cs ds [] [] a h = tt
all_same cs ds [] (l ∷ ls) a h = absurd h
all_same cs ds (w ∷ wss) [] a h = absurd h
all_same cs ds (w ∷ wss) (l ∷ ls) a h = (spells_same cs ds w l (All-head (BitsAgree cs ds) l ls a) h.0, all_same cs ds wss ls (All-tail (BitsAgree cs ds) l ls a) h.1)

zip_append : (cs : List Bool) (wss uss : List (List (List ℕ))) (ls ks : List Line) → AllZip (Spells cs) wss ls → AllZip (Spells cs) uss ks → AllZip (Spells cs) (wss ++ uss) (ls ++ ks)
zip_append cs [] uss [] ks h g = g
zip_append cs [] uss (l ∷ ls) ks h g = absurd h
zip_append cs (w ∷ wss) uss [] ks h g = absurd h
zip_append cs (w ∷ wss) uss (l ∷ ls) ks h g = (h.0, zip_append cs wss uss ls ks h.1 g)

put_append : (ws : List (List ℕ)) (wss uss : List (List (List ℕ))) → put_words ws (wss ++ uss) ≡ put_words ws wss ++ uss
put_append [] wss uss = refl
put_append (w ∷ ws) wss uss = refl

pub all_words_append : (texts more : List (List ℕ)) → all_words (texts ++ more) ≡ all_words texts ++ all_words more
all_words_append [] more = refl
all_words_append (t ∷ texts) more = ap (λ (wss : List (List (List ℕ))). put_words (line_words t) wss) (all_words_append texts more) ∙ put_append (line_words t) (all_words texts) (all_words more)

-- words that say something are some
says_some : (words : List (List ℕ)) (x : SaidOf) → Says words x → put_words words [] ≡ words ∷ []
says_some [] x h = absurd (none h.0 h.1 h.2)
  where
    none : (cs : List Bool) (l : Line) → Spells cs [] l → ⊥
    none cs l (inl z) = z
    none cs l (inr z) = no z.1 z.2 z.3
      where
        no : (front : List (List ℕ)) (symbol : List ℕ) → [] ≡ front ++ symbol ∷ [] → ⊥
        no [] symbol e = absurd (cc)
        no (w ∷ front) symbol e = absurd (cc)
says_some (w ∷ words) x h = refl

said_back : (m : BtorOf) (x : SaidOf) (words : List (List ℕ)) → Says words x → MayFollow m x → line_said (m.constants ++ x.bits) (line_of m x) ≡ x
said_back m x words h f = filled_says m.constants x (sort_at m.lines) (length m.constants) x.bits (says_bare words x h) refl (says_digits words x h) (matches_width m x f.widths)

pub says_one : (words : List (List ℕ)) (x : SaidOf) → AreSome words → Says words x → said_of words ≡ Some x
says_one words x some h = line_read h.0 words h.1 some h.2 ∙ ap (λ (y : SaidOf). Some y) h.3

pub lines_on : (texts : List (List ℕ)) (text : List ℕ) (m : BtorOf) (x : SaidOf) → IsBtor m → AreLines texts m → Says (line_words text) x → MayFollow m x → AreLines (texts ++ text ∷ []) (with_said m x)
lines_on texts text m x h lines say f =
    let words = line_words text in
    let cs = m.constants ++ x.bits in
    let old : AllZip (Spells cs) (all_words texts) m.lines = all_same m.constants cs (all_words texts) m.lines (bits_stay m x.bits h) lines in
    let some = words_some (uncommented text) in
    let new : Spells cs words (line_of m x) = (line_exact cs words (line_of m x) some).0 (says_one words x some say ∙ ap (λ (y : SaidOf). Some y) (sym (said_back m x words say f))) in
    let wss : all_words (texts ++ text ∷ []) ≡ all_words texts ++ words ∷ [] = all_words_append texts (text ∷ []) ∙ ap (λ (uss : List (List (List ℕ))). all_words texts ++ uss) (says_some words x say) in
    rw wss (zip_append cs (all_words texts) (words ∷ []) m.lines (line_of m x ∷ []) old (new, tt))

pub lines_pass : (texts : List (List ℕ)) (text : List ℕ) (m : BtorOf) → AreLines texts m → line_words text ≡ [] → AreLines (texts ++ text ∷ []) m
lines_pass texts text m lines none =
    let put : all_words (text ∷ []) ≡ [] = rw none refl in
    let wss : all_words (texts ++ text ∷ []) ≡ all_words texts = all_words_append texts (text ∷ []) ∙ ap (λ (uss : List (List (List ℕ))). all_words texts ++ uss) put ∙ append-nil (all_words texts) in
    rw wss lines

node_room : (m : BtorOf) (w : ℕ) (n : Node) → NodeHasRoom m.constants n → 1 ≤ constant_node_width w (fill_node (length m.constants) n) → length m.constants < 2 ^ 32
node_room m w node.Input f some = absurd (omega arith)
node_room m w node.State f some = absurd (omega arith)
node_room m w (node.Const start) f some = f
node_room m w node.Zero f some = absurd (omega arith)
node_room m w node.One f some = absurd (omega arith)
node_room m w node.Ones f some = absurd (omega arith)
node_room m w (node.Unary k a) f some = absurd (omega arith)
node_room m w (node.Binary k a b) f some = absurd (omega arith)
node_room m w (node.Slice a upper lower) f some = absurd (omega arith)
node_room m w (node.Uext a by) f some = absurd (omega arith)
node_room m w (node.Sext a by) f some = absurd (omega arith)
node_room m w (node.Ite t a b) f some = absurd (omega arith)

body_room : (m : BtorOf) (b : Body) → BodyHasRoom m.constants b → 1 ≤ constant_width (fill (sort_at m.lines) (length m.constants) b) → length m.constants < 2 ^ 32
body_room m (body.Sort w) f some = absurd (omega arith)
body_room m (body.Value s w n) f some = node_room m (sort_at m.lines s) n f some
body_room m (body.Init s q v) f some = absurd (omega arith)
body_room m (body.Next s q v) f some = absurd (omega arith)
body_room m (body.Bad n) f some = absurd (omega arith)
body_room m (body.Constraint n) f some = absurd (omega arith)

pub room_on : (m : BtorOf) (x : SaidOf) → IsBtor m → HasRoom m.lines → MayFollow m x → HasRoom (with_said m x).lines
room_on m x h room f before more l e some =
    elim (push_cut m.lines (line_of m x) before more l e) as (λ _. constant_bits before < 2 ^ 32) [
      | inl p ↦
          let wide : 1 ≤ constant_width (line_of m x).body = subst (λ (k : Line). 1 ≤ constant_width k.body) p.last some in
          let fits : length m.constants < 2 ^ 32 = body_room m x.body f.within.body wide in
          let same : constant_bits before ≡ length m.constants = ap (λ (ls : List Line). constant_bits ls) p.all ∙ sym h.table in
          omega arith
      | inr p ↦ room before p.rest l p.cut some
    ]

-- what a text is read as, a line further
pub record ReadsTo (texts : List (List ℕ)) (m : BtorOf) : Type 0 where
  pub btor : IsBtor m
  pub room : HasRoom m.lines
  pub text : AreLines texts m

pub reads_on : (texts : List (List ℕ)) (text : List ℕ) (m n : BtorOf) → ReadsTo texts m → IsBtor n → GoesOn m (line_words text) n → ReadsTo (texts ++ text ∷ []) n
reads_on texts text m n r h (inl g) = subst (λ (p : BtorOf). ReadsTo (texts ++ text ∷ []) p) (sym g.1) (record { btor = r.btor; room = r.room; text = lines_pass texts text m r.text g.0 })
reads_on texts text m n r h (inr g) =
    let x = g.0 in
    let on = g.1 in
    record {
      btor = h;
      room = subst (λ (p : BtorOf). HasRoom p.lines) (sym on.grown) (room_on m x r.btor r.room on.follows);
      text = subst (λ (p : BtorOf). AreLines (texts ++ text ∷ []) p) (sym on.grown) (lines_on texts text m x r.btor r.text on.says on.follows);
    }
