-- The state of a search in depth that gathers strongly connected components.
use Rattle.std.specs.Prelude.{◌≡◌, ◌⊎◌, ℕ, ◌+◌, ◌-◌, ◌*◌, ◌<◌, ◌≤◌, Bool, true, false, List, [], ◌∷◌, Some, slice_get, length}
use Rattle.digraph.specs.Graph.{Graph, IsEntry, HasEdge, Reaches, IsOnCycle}
use Rattle.digraph.specs.declared.search.Mark.{Mark}
use Rattle.digraph.specs.declared.search.Mark.TheVariants.{New, Open, Done}

abbrev pub IsDone : List Mark → ℕ → Type 0
IsDone marks a = (i : ℕ) × (slice_get marks a ≡ Some (Done i))

-- no component begins above place q, at place p or below
abbrev pub NoBound : List ℕ → ℕ → ℕ → Type 0
NoBound bounds q p = (j x : ℕ) → slice_get bounds j ≡ Some x → q < x → x ≤ p → ⊥

-- b is done, or stands in the component of place p or above
abbrev pub IsPassed : List Mark → List ℕ → ℕ → ℕ → Type 0
IsPassed marks bounds p b = IsDone marks b ⊎ ((q : ℕ) × (slice_get marks b ≡ Some (Open q)) × NoBound bounds q p)

-- The stack has the open nodes, by their places. The bounds are the places where its components begin, each with a node of the path.
-- A node on the path has been looked at as far as its cursor, any other open node to its row's end.
pub record State (g : Graph) (marks : List Mark) (cursors stack bounds path order : List ℕ) (cyclic : List Bool) : Type 0 where
  pub marks_size : length marks ≡ length g
  pub cursors_size : length cursors ≡ length g
  pub cyclic_size : length cyclic ≡ length g
  pub opened : (a p : ℕ) → slice_get marks a ≡ Some (Open p) → slice_get stack p ≡ Some a
  pub stacked : (p a : ℕ) → slice_get stack p ≡ Some a → slice_get marks a ≡ Some (Open p)
  pub finished : (a i : ℕ) → slice_get marks a ≡ Some (Done i) → slice_get order i ≡ Some a
  pub ordered : (i a : ℕ) → slice_get order i ≡ Some a → slice_get marks a ≡ Some (Done i)
  pub fresh : (a : ℕ) → slice_get marks a ≡ Some New → slice_get cursors a ≡ Some 0
  pub bounded : (j x : ℕ) → slice_get bounds j ≡ Some x → (a : ℕ) × (k : ℕ) × (slice_get stack x ≡ Some a) × (slice_get path k ≡ Some a)
  pub rising : (j k x y : ℕ) → j < k → slice_get bounds j ≡ Some x → slice_get bounds k ≡ Some y → x < y
  pub covered : (p a : ℕ) → slice_get stack p ≡ Some a → (j : ℕ) × (x : ℕ) × (slice_get bounds j ≡ Some x) × (x ≤ p)
  pub on_path : (k a : ℕ) → slice_get path k ≡ Some a → (p : ℕ) × (slice_get marks a ≡ Some (Open p))
  pub path_rises : (k l a b p q : ℕ) → k < l → slice_get path k ≡ Some a → slice_get path l ≡ Some b
      → slice_get marks a ≡ Some (Open p) → slice_get marks b ≡ Some (Open q) → p < q
  pub forward : (p q a b : ℕ) → p ≤ q → slice_get stack p ≡ Some a → slice_get stack q ≡ Some b → Reaches g a b
  pub back : (p q a b : ℕ) → q ≤ p → slice_get stack p ≡ Some a → slice_get stack q ≡ Some b → NoBound bounds q p → Reaches g a b
  pub scanned : (a p m k b : ℕ) → slice_get marks a ≡ Some (Open p) → slice_get cursors a ≡ Some m → k < m → IsEntry g a k b → IsPassed marks bounds p b
  pub awaits : (a p : ℕ) → slice_get marks a ≡ Some (Open p) → ((k : ℕ) × (slice_get path k ≡ Some a)) ⊎ ((b : ℕ) → HasEdge g a b → IsPassed marks bounds p b)
  pub closed : (a i b : ℕ) → slice_get marks a ≡ Some (Done i) → HasEdge g a b → IsDone marks b
  pub earlier : (a i b j : ℕ) → slice_get marks a ≡ Some (Done i) → slice_get cyclic a ≡ Some false → HasEdge g a b → slice_get marks b ≡ Some (Done j) → j < i
  pub on_cycle : (a i : ℕ) → slice_get marks a ≡ Some (Done i) → slice_get cyclic a ≡ Some true → IsOnCycle g a
  pub on_none : (a i : ℕ) → slice_get marks a ≡ Some (Done i) → slice_get cyclic a ≡ Some false → IsOnCycle g a → ⊥

-- Of the nodes that are done those have one leader that reach each other. It is one of them.
pub record Led (g : Graph) (marks : List Mark) (leaders : List ℕ) : Type 0 where
  pub size : length leaders ≡ length g
  pub leader_done : (a i l : ℕ) → slice_get marks a ≡ Some (Done i) → slice_get leaders a ≡ Some l → IsDone marks l
  pub own : (a i l : ℕ) → slice_get marks a ≡ Some (Done i) → slice_get leaders a ≡ Some l → Reaches g a l × Reaches g l a
  pub led : (a i b j l : ℕ) → slice_get marks a ≡ Some (Done i) → slice_get marks b ≡ Some (Done j) → slice_get leaders a ≡ Some l → slice_get leaders b ≡ Some l
      → Reaches g a b
  pub one : (a i b j : ℕ) → slice_get marks a ≡ Some (Done i) → slice_get marks b ≡ Some (Done j) → Reaches g a b → Reaches g b a
      → slice_get leaders a ≡ slice_get leaders b

-- how many entries of the rows are to be looked at
abbrev pub left : Graph → List ℕ → ℕ
left [] cursors = 0
left (row ∷ g) [] = 0
left (row ∷ g) (m ∷ cursors) = (length row.items - m) + left g cursors

abbrev pub news : List Mark → ℕ
news [] = 0
news (New ∷ marks) = 1 + news marks
news (Open p ∷ marks) = news marks
news (Done i ∷ marks) = news marks

-- what is left to do
abbrev pub work : Graph → List Mark → List ℕ → List ℕ → ℕ
work g marks cursors path = left g cursors + (2 * news marks + length path)

-- the search goes on, with less to do; what was seen stays seen
pub record GoesOn (g : Graph) (before : ℕ) (old marks : List Mark) (cursors stack bounds path order : List ℕ) (cyclic : List Bool) (leaders : List ℕ) : Type 0 where
  pub state : State g marks cursors stack bounds path order cyclic
  pub led : Led g marks leaders
  pub less : work g marks cursors path < before
  pub seen : (a : ℕ) → slice_get marks a ≡ Some New → slice_get old a ≡ Some New

-- Of the bounds those are kept that are at most q.
pub record Keeps (q : ℕ) (old bounds : List ℕ) : Type 0 where
  pub within : (j x : ℕ) → slice_get bounds j ≡ Some x → (slice_get old j ≡ Some x) × (x ≤ q)
  pub kept : (j x : ℕ) → slice_get old j ≡ Some x → x ≤ q → slice_get bounds j ≡ Some x

-- Of the stack what stands from some place on is done, and marked as on a cycle or on none; the rest is as it was.
pub record Closing (on_cycle : Bool) (first : ℕ) (old marks : List Mark) (old_stack stack old_order order : List ℕ) (old_cyclic cyclic : List Bool) : Type 0 where
  pub marks_size : length marks ≡ length old
  pub cyclic_size : length cyclic ≡ length old_cyclic
  pub opened : (a p : ℕ) → slice_get marks a ≡ Some (Open p) → slice_get stack p ≡ Some a
  pub stacked : (p a : ℕ) → slice_get stack p ≡ Some a → slice_get marks a ≡ Some (Open p)
  pub finished : (a i : ℕ) → slice_get marks a ≡ Some (Done i) → slice_get order i ≡ Some a
  pub ordered : (i a : ℕ) → slice_get order i ≡ Some a → slice_get marks a ≡ Some (Done i)
  pub more : length old_order ≤ length order
  pub prefix : (p a : ℕ) → slice_get stack p ≡ Some a → slice_get old_stack p ≡ Some a
  pub still : (a p : ℕ) → p < length stack → slice_get old a ≡ Some (Open p) → slice_get marks a ≡ Some (Open p)
  pub still_new : (a : ℕ) → slice_get marks a ≡ Some New → slice_get old a ≡ Some New
  pub still_done : (a i : ℕ) → slice_get old a ≡ Some (Done i) → (slice_get marks a ≡ Some (Done i)) × (slice_get cyclic a ≡ slice_get old_cyclic a)
  pub now_done : (a i : ℕ) → slice_get marks a ≡ Some (Done i)
      → (slice_get old a ≡ Some (Done i)) ⊎ ((p : ℕ) × (length stack ≤ p) × (slice_get old a ≡ Some (Open p)) × (slice_get cyclic a ≡ Some on_cycle) × (length old_order ≤ i))
  pub done : (a p : ℕ) → length stack ≤ p → slice_get old a ≡ Some (Open p) → IsDone marks a
  pub same_news : news marks ≡ news old

-- Of the stack what stands from some place on has the leader; the leaders of what was done are as they were.
pub record Leading (leader : ℕ) (old : List Mark) (stack old_leaders leaders : List ℕ) : Type 0 where
  pub size : length leaders ≡ length old_leaders
  pub still : (a i : ℕ) → slice_get old a ≡ Some (Done i) → slice_get leaders a ≡ slice_get old_leaders a
  pub now : (a p : ℕ) → length stack ≤ p → slice_get old a ≡ Some (Open p) → slice_get leaders a ≡ Some leader
