-- One machine of the table at its deadline.
use Rattle.std.specs.Prelude.{ℕ, cond, get_or, set}
use Rattle.types.specs.Numbers.{Epoch}
use Rattle.types.specs.Places.{is_overdue, made_ready}
use Rattle.types.specs.declared.Place.{Place}
use Rattle.rules.specs.Table.{Entry, entry, Table}
use Rattle.board.specs.Held.{no_machine}

-- 'waiting machines at or past the deadline become ready, stamp kept'
abbrev pub aged_place : Epoch → ℕ → Place → Place
aged_place epoch wait p = cond (is_overdue epoch wait p) (made_ready p) p

abbrev pub aged_entry : Epoch → ℕ → Entry Place → Entry Place
aged_entry epoch wait e = entry e.key (aged_place epoch wait e.val)

-- the entry at row i
abbrev pub aged : Epoch → ℕ → ℕ → Table Place → Table Place
aged epoch wait i t = set t i (aged_entry epoch wait (get_or t i no_machine))
