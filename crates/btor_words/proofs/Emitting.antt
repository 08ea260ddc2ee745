-- From lines that were added to words that were emitted.
use Rattle.std.proofs.Common.{◌≡◌, ℕ, ◌+◌, ◌≤◌, List, [], ◌++◌, refl, ◌∙◌, ap, arith, length}
use Rattle.std.proofs.lemmas.List.{append-nil}
use Rattle.sby_bits.specs.Rows.{Row}
use Rattle.btor_core.specs.Shape.{BtorOf, open_nodes_of, open_words}
use Rattle.btor_core.specs.Meaning.{Values, Holds, NodeHolds}
use Rattle.btor_core.specs.Fits.{HasValue, IsBtor}
use Rattle.btor_core.specs.declared.line.Word.{Word}
use Rattle.btor_core.specs.declared.line.Node.{Node}
use Rattle.btor_core.proofs.Choosing.{front_holds}
use Rattle.btor_core.proofs.Fitting.{width_stays}
use Rattle.btor_core.proofs.Growing.{grows_on, grows_same, keeps_on, keeps_same}
use Rattle.btor_core.proofs.Rows.{widths_are}
use Rattle.btor_words.specs.Emitting.{Adds, Emits, IsWord}
use Rattle.btor_words.specs.Lining.{Lines}

pub has_value : {m : BtorOf} {a : Word} → IsWord m a → HasValue m.lines a.nid
has_value w = let e = w.width in let s = w.size.0 in omega arith

pub word_long : {m : BtorOf} {a : Word} (vs : Values) → IsWord m a → Holds m vs → length (vs a.nid) ≡ a.width
word_long {m} {a} vs w h = widths_are m vs w.btor h a.nid (has_value w) ∙ w.width

-- a word stays one as lines are added
pub still : {m n : BtorOf} {a : Word} {k : ℕ} {P : Values → Type 0} → Adds m n k P → IsWord m a → IsWord n a
still {m} {n} {a} s w = record { btor = s.btor; size = w.size; width = width_stays m n s.grows a.nid (has_value w) ∙ w.width }

pub both : {m0 m1 m2 : BtorOf} {j k : ℕ} {P Q : Values → Type 0} → Adds m0 m1 j P → Adds m1 m2 k Q → Adds m0 m2 (j + k) (λ vs. P vs × Q vs)
both {m0} {m1} {m2} s t = record {
  btor = t.btor;
  grows = grows_on m0 m1 m2 s.grows t.grows;
  lists = keeps_on m0 m1 m2 s.lists t.lists;
  opened = t.opened ∙ s.opened;
  few = let a = s.few in let b = t.few in omega arith;
  holds = λ vs h. (s.holds vs (front_holds m1 m2 s.btor t.grows vs h), t.holds vs h);
}

-- lines by which P holds, then a word with the row f, which by P is g
pub last : {m0 m1 m2 : BtorOf} {j k w : ℕ} {a : Word} {P : Values → Type 0} {f : Values → Row} (most : ℕ) (g : Values → Row) → IsBtor m0 → Adds m0 m1 j P → Emits m1 m2 a w k f → j + k ≤ most
    → ((vs : Values) → Holds m0 vs → P vs → f vs ≡ g vs) → Emits m0 m2 a w most g
last {m0} {m1} {m2} most g b s e fits is =
    let t = both s e.adds in
    record {
      adds = record {
        btor = t.btor;
        grows = t.grows;
        lists = t.lists;
        opened = t.opened;
        few = let h = t.few in omega arith;
        holds = λ vs h. let p = t.holds vs h in p.1 ∙ is vs (front_holds m0 m2 b t.grows vs h) p.0;
      };
      word = e.word;
      size = e.size;
    }

-- a word by another name of its row
pub renamed : {m0 m1 : BtorOf} {k w : ℕ} {a : Word} {f : Values → Row} (most : ℕ) (g : Values → Row) → IsBtor m0 → Emits m0 m1 a w k f → k ≤ most → ((vs : Values) → Holds m0 vs → f vs ≡ g vs) → Emits m0 m1 a w most g
renamed {m0} {m1} most g b e fits is =
    let s = e.adds in
    record {
      adds = record { btor = s.btor; grows = s.grows; lists = s.lists; opened = s.opened; few = let h = s.few in omega arith; holds = λ vs h. s.holds vs h ∙ is vs (front_holds m0 m1 b s.grows vs h) };
      word = e.word;
      size = e.size;
    }

pub same_as : {m0 m1 : BtorOf} {k w : ℕ} {a : Word} {f : Values → Row} (g : Values → Row) → Emits m0 m1 a w k f → ((vs : Values) → f vs ≡ g vs) → Emits m0 m1 a w k g
same_as g e is =
    let s = e.adds in
    record { adds = record { btor = s.btor; grows = s.grows; lists = s.lists; opened = s.opened; few = s.few; holds = λ vs h. s.holds vs h ∙ is vs }; word = e.word; size = e.size }

-- its width by another name
pub sized : {m0 m1 : BtorOf} {k v w : ℕ} {a : Word} {f : Values → Row} → Emits m0 m1 a v k f → v ≡ w → Emits m0 m1 a w k f
sized e q = record { adds = e.adds; word = e.word; size = e.size ∙ q }

-- a word that stood there
pub stood : {m : BtorOf} {a : Word} (w most : ℕ) (g : Values → Row) → IsWord m a → a.width ≡ w → ((vs : Values) → Holds m vs → vs a.nid ≡ g vs) → Emits m m a w most g
stood {m} w most g word e is = record {
  adds = record { btor = word.btor; grows = grows_same m; lists = keeps_same m; opened = refl; few = omega arith; holds = is };
  word = word;
  size = e;
}

-- one line, which is no input and no state
pub lined : {old new : BtorOf} {a : Word} {w : ℕ} {n : Node} (row : Values → Row) → IsBtor old → Lines old new a w n → open_nodes_of a.nid w n ≡ []
    → ((vs : Values) → Holds old vs → NodeHolds new.constants vs w (vs a.nid) n → vs a.nid ≡ row vs) → Emits old new a w 2 row
lined {old} {new} {a} row b l closed is = record {
  adds = record {
    btor = l.word.btor;
    grows = l.grows;
    lists = l.lists;
    opened = l.opened ∙ ap (λ (ws : List Word). open_words old.lines ++ ws) closed ∙ append-nil (open_words old.lines);
    few = l.few;
    holds = λ vs h. is vs (front_holds old new b l.grows vs h) (l.holds vs h);
  };
  word = l.word;
  size = l.size;
}
