-- What each step on the word tells the seat that takes it.
use Rattle.std.specs.Prelude.{◌≡◌, ℕ, ◌+◌, ◌-◌, ◌==◌, Bool, true, false, not}
use Rattle.atomic_table.specs.Table.{Step, Me}
use Rattle.jobs_pool.specs.declared.view.View.{View}

-- the word was seen
abbrev pub saw : View → ℕ → View
saw v n = record { held = v.held; turn = not v.turn; seen = n; found = n }

-- a place was taken, or another word was found
abbrev pub tried : Bool → View → ℕ → View
tried true v n = record { held = v.held + 1; turn = v.turn; seen = v.seen; found = v.found }
tried false v n = record { held = v.held; turn = v.turn; seen = v.seen; found = n }

-- a place was given back
abbrev pub gave : View → View
gave v = record { held = v.held - 1; turn = v.turn; seen = v.seen; found = v.found }

-- a look
abbrev pub Looked : {S : Type 0} → Step S → Me S View → ℕ → Me S View → Type 0
Looked st m n after = after ≡ (saw m.0 n, m.1)

-- a try: it wins where the word is the one that it was to be
abbrev pub Tried : {S : Type 0} → Step S → Me S View → ℕ → Me S View → Type 0
Tried st m n after = after ≡ (tried (n == st.first) m.0 n, m.1)

-- a place given back
abbrev pub Gave : {S : Type 0} → Step S → Me S View → ℕ → Me S View → Type 0
Gave st m n after = after ≡ (gave m.0, m.1)
