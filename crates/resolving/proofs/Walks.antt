-- The walk that closes what is marked: the board so far, and what is still to come.
use Prim.Native.Nat.{ℕ, ◌+◌, ◌≤◌, ◌<◌}
use mathlib.Core.Path.{◌≡◌, refl, ap, sym, ◌∙◌}
use mathlib.Core.List.{List, [], ◌∷◌, ◌++◌, append_assoc}
use mathlib.Core.Bool.{Bool, true, false}
use native.Mathlib.Omega.{arith}
use native.Mathlib.Numerals.{add-one}
use lib.ListN.{length, get_or, drop, length-append, drop_of_length-le}
use lib.Seq.{drop-cons, take_at, drop-append-add, get_or_at}
use Rattle.types.specs.Places.{is_seated_on}
use Rattle.types.specs.declared.Answer.TheVariants.{Done}
use Rattle.types.specs.declared.Outcome.{Outcome}
use Rattle.rules.specs.Lists.{keep}
use Rattle.rules.specs.Board.{Rotation, Board, on_rotations}
use Rattle.rules.specs.WellFormed.{well_formed}
use Rattle.rules.specs.Moves.{place, quit, take_off, for_all, pooled_from, drop_first}
use Rattle.rules.specs.Turns.{checked, alone}
use Rattle.rules.specs.Places.{is_resolved, has_seats_free, is_rotation, retire, close, resolved, resolve}
use Rattle.rules.proofs.Tests.{by_cases}
use Rattle.rules.proofs.KeptBoard.{good_of_lem, of_good}
use Rattle.rules.proofs.KeptPlaces.{good_close}
use Rattle.tables.specs.Rows.{remove_at}
use Rattle.board.specs.Held.{Holds, no_rotation}
use Rattle.board.proofs.Keyed.{rotations_rise}
use Rattle.shards.proofs.Order.{rotation_goes}
use Rattle.steps.specs.Inner.{outcome, Step}
use Rattle.resolving.specs.Walked.{Turned}

-- ---- lists

module _ {A : Type 0} (f : A → Bool) (l : List A) (i : ℕ) (d : A) (h : i < length l) where
  keep_here : f (get_or l i d) ≡ true → keep f (drop i l) ≡ get_or l i d ∷ keep f (drop (i + 1) l)
  unfolding keep
  keep_here e = rw (add-one i) (ap (keep f) (drop-cons l i d h) ∙ rw e)

  keep_past : f (get_or l i d) ≡ false → keep f (drop i l) ≡ keep f (drop (i + 1) l)
  unfolding keep
  keep_past e = rw (add-one i) (ap (keep f) (drop-cons l i d h) ∙ rw e)

removed_at : {A : Type 0} (p : List A) (y : A) (q : List A) (n : ℕ) → length p ≡ n → remove_at (p ++ y ∷ q) n ≡ p ++ q
removed_at p y q n e = rw (← e, ← add-one (length p), drop-append-add p (y ∷ q) 1) (ap (λ (k : List _). k ++ q) (take_at p (y ∷ q) (length p) refl))

-- ---- a closing changes no other rotation

close_rotations : (q : Rotation) (b : Board) → (close q b).rotations ≡ drop_first (is_rotation q.shard q.victim) b.rotations
unfolding close retire take_off quit place
close_rotations q b =
    let c : Board = on_rotations (drop_first (is_rotation q.shard q.victim)) b in
    by_cases (λ (d : Board). d.rotations ≡ c.rotations) (has_seats_free q.shard c) c (take_off q.shard (pooled_from (is_seated_on q.shard)) q.victim c) (λ e. refl) (λ e. refl)

-- ---- i rotations have had their turn; those kept are the rows below `row`, and the others are to come

pub record Walked (b : Board) (i row : ℕ) (ws : List ℕ) : Type 0 where
  pub board : Board
  pub held : Holds ws board
  pub good : well_formed board ≡ true
  pub kept : List Rotation
  pub row_is : length kept ≡ row
  pub rotations : board.rotations ≡ kept ++ drop i b.rotations
  pub rest : for_all close (keep (is_resolved b) (drop i b.rotations)) board ≡ for_all close (resolved b) b
  pub many : i + length (keep (is_resolved b) (drop i b.rotations)) ≡ row + length (resolved b)

pub walk_begins : (b : Board) (ws : List ℕ) → Holds ws b → well_formed b ≡ true → Walked b 0 0 ws
unfolding resolved
walk_begins b ws h ok = record { board = b; held = h; good = ok; kept = []; row_is = refl; rotations = refl; rest = refl; many = refl }

module _ (b : Board) (i row : ℕ) (ws : List ℕ) (w : Walked b i row ws) where
  module _ (l : i < length b.rotations) where
    abbrev now : Rotation
    now = get_or b.rotations i no_rotation

    abbrev later : List Rotation
    later = drop (i + 1) b.rotations

    split_here : w.board.rotations ≡ w.kept ++ now ∷ later
    split_here = w.rotations ∙ rw (add-one i) (ap (λ (k : List Rotation). w.kept ++ k) (drop-cons b.rotations i no_rotation l))

    pub row_within : row < length w.board.rotations
    row_within = rw split_here (omega (arith, w.row_is, length-append w.kept (now ∷ later)))

    same_one : get_or w.board.rotations row no_rotation ≡ now
    same_one = rw split_here (get_or_at w.kept now later no_rotation row w.row_is)

    passed : is_resolved b now ≡ false → (after : List ℕ) → Holds after w.board → Walked b (i + 1) (row + 1) after
    passed n after h =
        let k = keep_past (is_resolved b) b.rotations i no_rotation l n in
        record {
          board = w.board;
          held = h;
          good = w.good;
          kept = w.kept ++ (now ∷ []);
          row_is = omega (arith, w.row_is, length-append w.kept (now ∷ []));
          rotations = split_here ∙ sym (append_assoc w.kept (now ∷ []) later);
          rest = rw (← k) w.rest;
          many = omega (arith, w.many, ap length k);
        }

    closed : is_resolved b now ≡ true → (after : List ℕ) → Holds after (close now w.board) → Walked b (i + 1) row after
    unfolding for_all
    closed y after h =
        let k = keep_here (is_resolved b) b.rotations i no_rotation l y in
        let goes = rw same_one at (rotation_goes w.board.rotations row no_rotation (rotations_rise w.board w.good) row_within) in
        let cut : remove_at w.board.rotations row ≡ w.kept ++ later = rw split_here (removed_at w.kept now later row w.row_is) in
        record {
          board = close now w.board;
          held = h;
          good = of_good (good_close now w.board (good_of_lem w.board w.good));
          kept = w.kept;
          row_is = w.row_is;
          rotations = close_rotations now w.board ∙ goes ∙ cut;
          rest = sym (ap (λ (m : List Rotation). for_all close m w.board) k) ∙ w.rest;
          many = omega (arith, w.many, ap length k);
        }

    pub walk_turns : (m : Bool) → m ≡ is_resolved b now → (after : List ℕ) (next : ℕ)
        → ((c : Board) → Holds ws c → well_formed c ≡ true → row < length c.rotations → Turned c row m after next) → Walked b (i + 1) next after
    walk_turns m e after next step = go m e (step w.board w.held w.good row_within)
      where
        go : (m : Bool) → m ≡ is_resolved b now → Turned w.board row m after next → Walked b (i + 1) next after
        go true e t = let p = t.closed refl in rw p.0 (closed (sym e) after (rw same_one at p.1))
        go false e t = let p = t.passed refl in rw p.0 (passed (sym e) after p.1)

  -- past the last row
  pub walk_ends : length b.rotations ≤ i → (i ≡ row + length (resolved b)) × Holds ws (for_all close (resolved b) b)
  unfolding keep for_all
  walk_ends l =
      let z : drop i b.rotations ≡ [] = drop_of_length-le b.rotations {i = i} l in
      (omega (arith, w.many, ap (λ (k : List Rotation). length (keep (is_resolved b) k)) z), rw (← w.rest, z) w.held)

-- ---- the step

pub resolve_done : (b : Board) → well_formed b ≡ true → (after : List ℕ) (r : Outcome) (n : ℕ) → n ≡ length (resolved b) → Holds after (for_all close (resolved b) b) → r ≡ outcome Done n 0 → Step resolve b after r
unfolding resolve alone checked
resolve_done b ok after r n e h t = record { told = rw (ok, ← e) t; left = rw ok h }
