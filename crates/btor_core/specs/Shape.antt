-- A model of BTOR2 as contracts see it, and what can be read off its lines.
use Rattle.std.specs.Prelude.{ℕ, Bool, cond, eqb, sum_by, List, [], ◌∷◌}
use Rattle.std.specs.List.{flat_map}
use Rattle.btor_core.specs.declared.line.Body.{Body}
use Rattle.btor_core.specs.declared.line.Body.TheVariants as body
use Rattle.btor_core.specs.declared.line.Line.{Line}
use Rattle.btor_core.specs.declared.line.Node.{Node}
use Rattle.btor_core.specs.declared.line.Node.TheVariants as node
use Rattle.btor_core.specs.declared.line.Word.{Word}

-- lines in file order, and the bits of all constants, in the order of their lines, of each the lowest first
pub record BtorOf : Type 0 where
  pub lines : List Line
  pub constants : List Bool

-- a state, and the line whose value it takes
pub record TieOf : Type 0 where
  pub state : ℕ
  pub value : ℕ

-- what `read` makes of the line with this number; 0 where no line has it
abbrev pub at_nid : (Body → ℕ) → List Line → ℕ → ℕ
at_nid read [] k = 0
at_nid read (l ∷ lines) k = cond (eqb l.nid k) (read l.body) (at_nid read lines k)

-- the width of a sort; of a value; of a state: 0 for each other line
abbrev pub sort_width : Body → ℕ
sort_width (body.Sort w) = w
sort_width (body.Value s w n) = 0
sort_width (body.Init s q v) = 0
sort_width (body.Next s q v) = 0
sort_width (body.Bad n) = 0
sort_width (body.Constraint n) = 0

abbrev pub value_width : Body → ℕ
value_width (body.Sort w) = 0
value_width (body.Value s w n) = w
value_width (body.Init s q v) = 0
value_width (body.Next s q v) = 0
value_width (body.Bad n) = 0
value_width (body.Constraint n) = 0

abbrev pub state_node_width : ℕ → Node → ℕ
state_node_width w node.Input = 0
state_node_width w node.State = w
state_node_width w (node.Const start) = 0
state_node_width w node.Zero = 0
state_node_width w node.One = 0
state_node_width w node.Ones = 0
state_node_width w (node.Unary k a) = 0
state_node_width w (node.Binary k a b) = 0
state_node_width w (node.Slice a upper lower) = 0
state_node_width w (node.Uext a by) = 0
state_node_width w (node.Sext a by) = 0
state_node_width w (node.Ite s a b) = 0

abbrev pub state_width : Body → ℕ
state_width (body.Sort w) = 0
state_width (body.Value s w n) = state_node_width w n
state_width (body.Init s q v) = 0
state_width (body.Next s q v) = 0
state_width (body.Bad n) = 0
state_width (body.Constraint n) = 0

-- the width of the sort, the value, the state that this line is
abbrev pub sort_at : List Line → ℕ → ℕ
sort_at lines k = at_nid sort_width lines k

abbrev pub width_at : List Line → ℕ → ℕ
width_at lines k = at_nid value_width lines k

abbrev pub state_at : List Line → ℕ → ℕ
state_at lines k = at_nid state_width lines k

-- how many bits of the table of constants a line takes
abbrev pub constant_node_width : ℕ → Node → ℕ
constant_node_width w node.Input = 0
constant_node_width w node.State = 0
constant_node_width w (node.Const start) = w
constant_node_width w node.Zero = 0
constant_node_width w node.One = 0
constant_node_width w node.Ones = 0
constant_node_width w (node.Unary k a) = 0
constant_node_width w (node.Binary k a b) = 0
constant_node_width w (node.Slice a upper lower) = 0
constant_node_width w (node.Uext a by) = 0
constant_node_width w (node.Sext a by) = 0
constant_node_width w (node.Ite s a b) = 0

abbrev pub constant_width : Body → ℕ
constant_width (body.Sort w) = 0
constant_width (body.Value s w n) = constant_node_width w n
constant_width (body.Init s q v) = 0
constant_width (body.Next s q v) = 0
constant_width (body.Bad n) = 0
constant_width (body.Constraint n) = 0

abbrev pub constant_bits : List Line → ℕ
constant_bits lines = sum_by (λ l. constant_width l.body) lines

-- what each line adds to the four lists of a model
abbrev pub inits_of : Body → List TieOf
inits_of (body.Sort w) = []
inits_of (body.Value s w n) = []
inits_of (body.Init s q v) = record { state = q; value = v } ∷ []
inits_of (body.Next s q v) = []
inits_of (body.Bad n) = []
inits_of (body.Constraint n) = []

abbrev pub nexts_of : Body → List TieOf
nexts_of (body.Sort w) = []
nexts_of (body.Value s w n) = []
nexts_of (body.Init s q v) = []
nexts_of (body.Next s q v) = record { state = q; value = v } ∷ []
nexts_of (body.Bad n) = []
nexts_of (body.Constraint n) = []

abbrev pub constraints_of : Body → List ℕ
constraints_of (body.Sort w) = []
constraints_of (body.Value s w n) = []
constraints_of (body.Init s q v) = []
constraints_of (body.Next s q v) = []
constraints_of (body.Bad n) = []
constraints_of (body.Constraint n) = n ∷ []

abbrev pub bads_of : Body → List ℕ
bads_of (body.Sort w) = []
bads_of (body.Value s w n) = []
bads_of (body.Init s q v) = []
bads_of (body.Next s q v) = []
bads_of (body.Bad n) = n ∷ []
bads_of (body.Constraint n) = []

-- what states start as; what they have next; the lines that are set in each cycle; the lines that are bad: each in file order
abbrev pub inits : List Line → List TieOf
inits lines = flat_map (λ l. inits_of l.body) lines

abbrev pub nexts : List Line → List TieOf
nexts lines = flat_map (λ l. nexts_of l.body) lines

abbrev pub constraints : List Line → List ℕ
constraints lines = flat_map (λ l. constraints_of l.body) lines

abbrev pub bads : List Line → List ℕ
bads lines = flat_map (λ l. bads_of l.body) lines

-- the word of an input's or a state's line
abbrev pub open_nodes_of : ℕ → ℕ → Node → List Word
open_nodes_of k w node.Input = record { nid = k; width = w } ∷ []
open_nodes_of k w node.State = record { nid = k; width = w } ∷ []
open_nodes_of k w (node.Const start) = []
open_nodes_of k w node.Zero = []
open_nodes_of k w node.One = []
open_nodes_of k w node.Ones = []
open_nodes_of k w (node.Unary o a) = []
open_nodes_of k w (node.Binary o a b) = []
open_nodes_of k w (node.Slice a upper lower) = []
open_nodes_of k w (node.Uext a by) = []
open_nodes_of k w (node.Sext a by) = []
open_nodes_of k w (node.Ite s a b) = []

abbrev pub open_words_of : ℕ → Body → List Word
open_words_of k (body.Sort w) = []
open_words_of k (body.Value s w n) = open_nodes_of k w n
open_words_of k (body.Init s q v) = []
open_words_of k (body.Next s q v) = []
open_words_of k (body.Bad n) = []
open_words_of k (body.Constraint n) = []

-- the inputs and the states, in file order
abbrev pub open_words : List Line → List Word
open_words lines = flat_map (λ l. open_words_of l.nid l.body) lines
