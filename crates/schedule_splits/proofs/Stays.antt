-- What an abort of a shard's rotations leaves, said on the board before it.
use mathlib.Core.Path.{◌≡◌, refl, ap, sym, ◌∙◌}
use mathlib.Core.Logic.{◌≢◌}
use mathlib.Core.List.{List, [], ◌∷◌}
use mathlib.Core.Option.{Option, none, some, map}
use mathlib.Core.Bool.{Bool, true, false, not, true≢false}
use lib.Dec.{eqb}
use Rattle.types.specs.Numbers.{Shard, Id}
use Rattle.types.specs.Places.{is_seated_on}
use Rattle.types.specs.declared.Place.{Place}
use Rattle.rules.specs.Lists.{◌and◌, ◌or◌, any, keep, has, strike, sort}
use Rattle.rules.specs.Table.{Table, at}
use Rattle.rules.specs.Board.{Settings, Boundary, Reshape, Board}
use Rattle.rules.specs.Moves.{says, members_of, place, quit, take_off, for_all, pooled_from, entrants_on, abort_rotations}
use Rattle.rules.specs.Schedule.{seated_there}
use Rattle.rules.proofs.Counts.{eqb_same}
use Rattle.rules.proofs.KeptTables.{at_update, at_other, holds_same}
use Rattle.rules.proofs.TakenOff.{keep_all, keep_keep, struck}
use Rattle.rules.proofs.Turns.{for_all_keeps}
use Rattle.tables.proofs.Bools.{and_end}

-- ---- lists

-- x is none of a list that begins with y
none_head : (x y : Id) (l : List Id) → has x (y ∷ l) ≡ false → (x ≢ y) × (has x l ≡ false)
unfolding has any ◌or◌
none_head x y l e = go (eqb y x) refl e
  where
    go : (c : Bool) → eqb y x ≡ c → (c or has x l) ≡ false → (x ≢ y) × (has x l ≡ false)
    go true u v = absurd (true≢false v)
    go false u v = (λ p. true≢false (sym (eqb_same y) ∙ rw p at u), v)

-- ---- one entrant leaves

module _ (s : Shard) where
  abbrev leaves : Id → Board → Board
  leaves = take_off s (pooled_from (is_seated_on s))

  members_left : (x : Id) (b : Board) → members_of s (leaves x b) ≡ strike x (members_of s b)
  unfolding members_of take_off quit place strike keep
  members_left x b = ap (λ (o : Option (List Id)). elim o [ none ↦ [] | some members ↦ members ]) (at_update s (strike x) b.committees) ∙ go (at s b.committees)
    where
      go : (o : Option (List Id)) → elim (map (strike x) o) [ none ↦ [] | some members ↦ members ] ≡ strike x (elim o [ none ↦ [] | some members ↦ members ])
      go none = refl
      go (some l) = refl

  says_left : (f : Place → Bool) (x y : Id) (b : Board) → y ≢ x → says f (leaves x b) y ≡ says f b y
  unfolding take_off quit place
  says_left f x y b n = holds_same y f _ _ (at_other y x (pooled_from (is_seated_on s)) b.machines n)

  -- ---- all of them

  all_members : (l : List Id) (b : Board) → members_of s (for_all leaves l b) ≡ keep (λ y. not (has y l)) (members_of s b)
  unfolding for_all has any
  all_members [] b = sym (keep_all _ (λ y. refl) (members_of s b))
  all_members (x ∷ l) b = all_members l (leaves x b) ∙ ap (keep (λ y. not (has y l))) (members_left x b) ∙ struck x l (members_of s b)

  all_says : (f : Place → Bool) (l : List Id) (b : Board) (y : Id) → has y l ≡ false → says f (for_all leaves l b) y ≡ says f b y
  unfolding for_all
  all_says f [] b y n = refl
  all_says f (x ∷ l) b y n = let h = none_head y x l n in all_says f l (leaves x b) y h.1 ∙ says_left f x y b h.0

-- ---- the abort

module _ (t : Shard) (b : Board) where
  abbrev pub entrants : List Id
  entrants = entrants_on t b.rotations

  -- the members that stay, in their order
  abbrev pub stayers : List Id
  stayers = keep (λ y. says (is_seated_on t) b y and not (has y entrants)) (members_of t b)

  pub stayer_says : (f : Place → Bool) (y : Id) → has y entrants ≡ false → says f (abort_rotations t b) y ≡ says f b y
  unfolding abort_rotations
  stayer_says f y n = all_says t f entrants b y n

  pub seated_stay : seated_there t (abort_rotations t b) ≡ sort stayers
  unfolding seated_there abort_rotations members_of ◌and◌
  seated_stay =
      ap (λ (l : List Id). sort (keep (says (is_seated_on t) (abort_rotations t b)) l)) (all_members t entrants b)
      ∙ ap sort (keep_keep (says (is_seated_on t) (abort_rotations t b)) (λ y. not (has y entrants)) _ (λ y. go y (has y entrants) refl) (members_of t b))
    where
      never : (c : Bool) → (c and false) ≡ false
      never true = refl
      never false = refl

      go : (y : Id) (c : Bool) → has y entrants ≡ c → (says (is_seated_on t) b y and not (has y entrants)) ≡ (not (has y entrants) and says (is_seated_on t) (abort_rotations t b) y)
      go y true u = rw u (never (says (is_seated_on t) b y))
      go y false u = rw (u, stayer_says (is_seated_on t) y u) (and_end (says (is_seated_on t) b y))

  -- the rest of the board is as it was
  abbrev made : Settings → Table Boundary → Table Reshape → Board
  made settings bounds reshapes = record {
    settings = settings;
    machines = (abort_rotations t b).machines;
    committees = (abort_rotations t b).committees;
    bounds = bounds;
    rotations = (abort_rotations t b).rotations;
    reshapes = reshapes;
  }

  abbrev pub Aborted : Board
  Aborted = made b.settings b.bounds b.reshapes

  record Rest (c : Board) : Type 0 where
    settings : c.settings ≡ b.settings
    bounds : c.bounds ≡ b.bounds
    reshapes : c.reshapes ≡ b.reshapes

  abort_keeps : Rest (abort_rotations t b)
  unfolding abort_rotations take_off quit place
  abort_keeps =
      let p = for_all_keeps Rest _ (λ x c g. record { settings = g.settings; bounds = g.bounds; reshapes = g.reshapes }) entrants b (record { settings = refl; bounds = refl; reshapes = refl }) in
      record { settings = p.settings; bounds = p.bounds; reshapes = p.reshapes }

  pub abort_rest : abort_rotations t b ≡ Aborted
  abort_rest =
      ap (λ s. made s (abort_rotations t b).bounds (abort_rotations t b).reshapes) abort_keeps.settings
      ∙ ap (λ v. made b.settings v (abort_rotations t b).reshapes) abort_keeps.bounds
      ∙ ap (made b.settings b.bounds) abort_keeps.reshapes
