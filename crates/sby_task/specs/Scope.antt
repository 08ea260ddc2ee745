-- The lines that hold for a task.
use Rattle.std.specs.Prelude.{ℕ, Bool, true, cond, not, ◌&&◌, ◌||◌, eqb, List, [], ◌∷◌, take, drop}
use Rattle.std.specs.List.{list_any}
use Rattle.sby_file.specs.Prefix.{is_negated, mark_name, prefix_length, is_block_end, opens_block}
use Rattle.sby_file.specs.declared.config.Row.{Row}

-- a word of a prefix holds for a task with that name or tag, with `~` for the others
abbrev pub word_holds : (List ℕ → Bool) → List ℕ → Bool
word_holds is_here word = cond (is_negated word) (not (is_here (mark_name word))) (is_here (mark_name word))

abbrev pub any_holds : (List ℕ → Bool) → List (List ℕ) → Bool
any_holds is_here prefix = list_any (word_holds is_here) prefix

-- a prefix holds where one of its words does
abbrev pub holds : (List ℕ → Bool) → List (List ℕ) → Bool
holds is_here words = eqb (prefix_length words) 0 || any_holds is_here (take (prefix_length words) words)

-- a line without its prefix
abbrev pub rest_of : Row → Row
rest_of row = record row { words = drop (prefix_length row.words) row.words }

-- the lines that hold, without their prefixes: outside blocks and in blocks that hold
abbrev pub kept : (List ℕ → Bool) → Bool → List Row → List Row
kept is_here block_holds [] = []
kept is_here block_holds (row ∷ rows) =
    cond (is_block_end row.words) (kept is_here true rows)
    (cond (opens_block row.words) (kept is_here (holds is_here row.words) rows)
    (cond (block_holds && holds is_here row.words) (rest_of row ∷ kept is_here block_holds rows) (kept is_here block_holds rows)))
