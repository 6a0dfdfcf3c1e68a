-- A machine's row read back.
use Prim.Native.Nat.{ℕ}
use mathlib.Core.Path.{◌≡◌, refl, ◌∙◌}
use mathlib.Core.List.{List}
use lib.ListN.{get_or}
use Rattle.types.specs.declared.Place.{Place}
use Rattle.types.specs.declared.Machine.{Machine}
use Rattle.rules.specs.Table.{Entry}
use Rattle.rules.specs.Board.{machine_of}
use Rattle.rules.specs.Snapshot.{place_of, machine_words}
use Rattle.board.proofs.One.{place_back}

pub machine_back : (t : List ℕ) (e : Entry Place) (p : Place) → p ≡ place_of (get_or t 1 0) (get_or t 2 0) (get_or t 3 0) (get_or t 4 0) → t ≡ machine_words e
    → ◌≡◌ {A = Machine} (record { id = record { 0 = get_or t 0 0 }; place = p }) (machine_of e)
unfolding machine_words
machine_back t e p h q =
    let v : p ≡ e.val = rw q at h ∙ place_back e.val in
    rw (q, v)

-- an id is the first word
pub machine_key : (e : Entry Place) → get_or (machine_words e) 0 0 ≡ e.key
unfolding machine_words
machine_key e = refl
