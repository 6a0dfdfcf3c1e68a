-- What the leaves make of a value: a place's words, and rows changed in part.
use Rattle.std.specs.Prelude.{ℕ, get_or, set}
use Rattle.types.specs.Numbers.{Epoch}
use Rattle.types.specs.declared.Place.{Place}
use Rattle.types.specs.declared.Machine.{Machine}
use Rattle.rules.specs.Table.{Entry, entry, Table}
use Rattle.rules.specs.Board.{Settings}

abbrev pub at_epoch : Epoch → Settings → Settings
at_epoch e s = record { epoch = e; size = s.size; drain = s.drain; wait = s.wait; interval = s.interval; most = s.most }

-- the value at row i of a table changed
abbrev pub change_at : {A : Type 0} → Entry A → ℕ → (A → A) → Table A → Table A
change_at d i f t = set t i (entry (get_or t i d).key (f (get_or t i d).val))

-- a machine's record as an entry of the table
abbrev pub machine_entry : Machine → Entry Place
machine_entry m = entry m.id.0 m.place
