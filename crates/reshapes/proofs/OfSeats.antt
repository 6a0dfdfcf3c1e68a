-- A table of seats: a row lent, a row put, a row more.
use Prim.Native.Nat.{ℕ, ◌+◌, ◌-◌, ◌*◌, ◌≤◌, ◌<◌}
use mathlib.Core.Path.{◌≡◌, refl, ap, sym, ◌∙◌}
use mathlib.Core.List.{List}
use native.Mathlib.Omega.{arith}
use borrow.Rule.Slice.PartMut.{put_mid}
use lib.ListN.{length, get_or, set, take, drop, replicate}
use lib.Seq.{set-get_or}
use Rattle.rules.specs.Table.{Entry, entry, Table}
use Rattle.rules.specs.Board.{Seat, most_seats}
use Rattle.rules.specs.Snapshot.{seat_words, is_one}
use Rattle.shifts.proofs.Parts.{spot_read, spot_put}
use Rattle.tables.proofs.Tables.{row_spot}
use Rattle.board.specs.Layout.{seat_width, seat_table}
use Rattle.board.specs.Held.{no_seat}
use Rattle.board.proofs.One.{bit_back}
use Rattle.board.proofs.Widths.{seat_wide}

pub seat_back_of : (t : List ℕ) (e : Entry Seat) → t ≡ seat_words e → ◌≡◌ {A = Entry Seat} (entry (get_or t 0 0) (record { child = get_or t 1 0; ready = is_one (get_or t 2 0) })) e
unfolding seat_words
seat_back_of t e q = rw (q, bit_back e.val.ready)

pub seat_key : (e : Entry Seat) → get_or (seat_words e) 0 0 ≡ e.key
unfolding seat_words
seat_key e = refl

pub no_seat_lem : seat_words no_seat ≡ replicate seat_width 0
unfolding seat_words
no_seat_lem = refl

module _ (xs : Table Seat) (t : List ℕ) (e : t ≡ seat_table xs) (l : length xs ≤ most_seats) (k : ℕ) (h : k < length xs) where
  whole : t ≡ seat_table (set xs k (get_or xs k no_seat))
  whole = e ∙ ap seat_table (sym (set-get_or xs k no_seat))

  pub seat_lent : take (1 + k * seat_width + seat_width - (1 + k * seat_width)) (drop (1 + k * seat_width) t) ≡ seat_words (get_or xs k no_seat)
  seat_lent =
      spot_read (row_spot seat_words seat_width seat_wide most_seats xs k h l) (get_or xs k no_seat) t (1 + k * seat_width) (1 + k * seat_width + seat_width - (1 + k * seat_width)) whole refl
      (omega (arith, seat_wide (get_or xs k no_seat)))

  pub seat_put : (y : Entry Seat) (p : List ℕ) → p ≡ seat_words y → put_mid (1 + k * seat_width) (1 + k * seat_width + seat_width - (1 + k * seat_width)) t p ≡ seat_table (set xs k y)
  seat_put y p q =
      spot_put (row_spot seat_words seat_width seat_wide most_seats xs k h l) (get_or xs k no_seat) y t p (1 + k * seat_width) (1 + k * seat_width + seat_width - (1 + k * seat_width)) whole refl
      (omega (arith, seat_wide (get_or xs k no_seat))) q
