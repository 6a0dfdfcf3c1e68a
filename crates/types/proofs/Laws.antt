-- What `search` is handed of a place: a deadline, tested without the sum of stamp and wait, and a watcher's seat.
use Prim.Native.Nat.{ℕ, ◌+◌, ◌-◌, ◌≤◌, ◌<◌}
use mathlib.Core.Path.{◌≡◌, refl, sym}
use mathlib.Core.Bool.{Bool, true, false}
use native.Mathlib.Omega.{arith}
use borrow.Author.Tests.{leb-true, leb-false, le-leb, lt-leb}
use lib.Dec.{leb}
use Rattle.types.specs.Places.{is_overdue, seated_from_watch}
use Rattle.types.specs.declared.ShardId.{ShardId}
use Rattle.types.specs.declared.Epoch.{Epoch}
use Rattle.types.specs.declared.Place.{Place}
use Rattle.types.specs.declared.Place.TheVariants.{Seated, Observing}

leb_sub : (w n e : ℕ) → e ≤ n → leb w (n - e) ≡ leb (e + w) n
leb_sub w n e h = go (leb w (n - e)) refl
  where
    go : (x : Bool) → leb w (n - e) ≡ x → x ≡ leb (e + w) n
    go true q = let l = leb-true w (n - e) q in sym (le-leb (e + w) n (omega arith))
    go false q = let l = leb-false w (n - e) q in sym (lt-leb (e + w) n (omega arith))

-- a waiting machine, by its stamp
module _ (wait : ℕ) {now : ℕ} {p : Place} {s : ShardId} {r : Bool} {e : Epoch} (seat : p ≡ Seated s r e) (waits : r ≡ false) where
  pub stamped_later : now < e.0 → false ≡ is_overdue now wait p
  stamped_later h = rw (seat, waits) (sym (lt-leb (e.0 + wait) now (omega arith)))

  pub stamped_by_now : e.0 ≤ now → leb wait (now - e.0) ≡ is_overdue now wait p
  stamped_by_now h = rw (seat, waits) (leb_sub wait now e.0 h)

pub watcher_seated : (s t : ShardId) (m : Bool) (e w : Epoch) (p q : Place) → p ≡ Observing t w → q ≡ Seated s m e → q ≡ seated_from_watch s.0 m e.0 p
watcher_seated s t m e w p q watched seat = rw watched seat
