-- Members counted one by one, and the definitions' counts of those seated on a shard.
use Prim.Native.Nat.{ℕ, ◌+◌}
use mathlib.Core.Path.{◌≡◌, refl, ap, sym, ◌∙◌}
use mathlib.Core.List.{List, [], ◌∷◌}
use mathlib.Core.Option.{Option, none, some}
use mathlib.Core.Bool.{Bool, true, false, cond, ◌&&◌}
use native.Mathlib.Omega.{arith}
use lib.Dec.{leb}
use lib.ListN.{length, get_or}
use Rattle.types.specs.Numbers.{Shard, Id}
use Rattle.types.specs.Places.{is_seated_on, is_ready}
use Rattle.types.specs.declared.Place.{Place}
use Rattle.types.specs.declared.Place.TheVariants.{Short}
use Rattle.rules.specs.Lists.{◌and◌, bit_of, count, keep, insert, sort}
use Rattle.rules.specs.Table.{Entry, at, holds_at, is_some}
use Rattle.rules.specs.Board.{Reshape, Board}
use Rattle.rules.specs.Moves.{says, members_of}
use Rattle.rules.specs.Snapshot.{value_of, reshape_words}
use Rattle.rules.specs.Schedule.{seated_there}
use Rattle.rules.proofs.KeptLists.{length_sort}
use Rattle.tables.proofs.Bools.{and_is}
use Rattle.board.specs.Layout.{reshape_head, reshape_row}
use Rattle.waits.specs.declared.Members.{Members}
use Rattle.waits.specs.Counts.{is_ready_on, Mustered}

-- ---- a member, whose place was looked up by id

module _ (b : Board) (s : Shard) (p : Place) (x y : Id) (said : (f : Place → Bool) → f Short ≡ false → f p ≡ says f b x) (e : x ≡ y) where
  pub seated_told : (c : Bool) → c ≡ is_seated_on s p → c ≡ says (is_seated_on s) b y
  seated_told c i = rw (i, ← e) (said (is_seated_on s) refl)

  pub ready_told : (c d : Bool) → c ≡ is_seated_on s p → d ≡ is_ready p → (c && d) ≡ says (is_ready_on s) b y
  unfolding ◌and◌
  ready_told c d i j = rw (i, j, ← e) (and_is (is_seated_on s p) (is_ready p) ∙ said (is_ready_on s) refl)

-- ---- counts of a list that is sorted, and of those kept

module _ (f : ℕ → Bool) where
  count_insert : (x : ℕ) (l : List ℕ) → count f (insert x l) ≡ bit_of (f x) + count f l
  unfolding count insert
  count_insert x [] = refl
  count_insert x (y ∷ l) = go (leb x y) (count_insert x l)
    where
      go : (c : Bool) → count f (insert x l) ≡ bit_of (f x) + count f l → count f (cond c (x ∷ y ∷ l) (y ∷ insert x l)) ≡ bit_of (f x) + (bit_of (f y) + count f l)
      go true h = refl
      go false h = omega arith

  count_sort : (l : List ℕ) → count f (sort l) ≡ count f l
  unfolding count sort
  count_sort [] = refl
  count_sort (x ∷ l) = count_insert x (sort l) ∙ ap (λ n. bit_of (f x) + n) (count_sort l)

length_keep : {A : Type 0} (f : A → Bool) (l : List A) → length (keep f l) ≡ count f l
unfolding keep count
length_keep f [] = refl
length_keep f (x ∷ l) = go (f x) (length_keep f l)
  where
    go : (c : Bool) → length (keep f l) ≡ count f l → length (cond c (x ∷ keep f l) (keep f l)) ≡ bit_of c + count f l
    go true h = omega arith
    go false h = omega arith

count_keep : {A : Type 0} (f g h : A → Bool) → ((x : A) → h x ≡ (f x and g x)) → (l : List A) → count g (keep f l) ≡ count h l
unfolding keep count ◌and◌
count_keep f g h e [] = refl
count_keep f g h e (x ∷ l) = rw (e x) (go (f x) (count_keep f g h e l))
  where
    go : (c : Bool) → count g (keep f l) ≡ count h l → count g (cond c (x ∷ keep f l) (keep f l)) ≡ bit_of (c and g x) + count h l
    go true i = ap (λ n. bit_of (g x) + n) i
    go false i = omega arith

-- ---- those seated on a shard

ready_there : (s : Shard) (b : Board) (x : Id) → says (is_ready_on s) b x ≡ (says (is_seated_on s) b x and says is_ready b x)
unfolding holds_at ◌and◌
ready_there s b x = go (at x b.machines)
  where
    go : (o : Option Place) → elim o [ none ↦ false | some p ↦ is_ready_on s p ] ≡ (elim o [ none ↦ false | some p ↦ is_seated_on s p ] and elim o [ none ↦ false | some p ↦ is_ready p ])
    go none = refl
    go (some p) = refl

pub mustered : (s : Shard) (b : Board) (l : List Id) → l ≡ members_of s b → (r : Members) → r.seated ≡ count (says (is_seated_on s) b) l → r.ready ≡ count (says (is_ready_on s) b) l → Mustered s b r
unfolding seated_there
mustered s b l m r i j = record {
  seated = rw (← m) (i ∙ sym (length_sort (keep (says (is_seated_on s) b) l) ∙ length_keep (says (is_seated_on s) b) l));
  ready = rw (← m) (j ∙ sym (count_sort (says is_ready b) (keep (says (is_seated_on s) b) l) ∙ count_keep (says (is_seated_on s) b) (says is_ready b) (says (is_ready_on s) b) (ready_there s b) l));
}

pub none_mustered : (s : Shard) (b : Board) → members_of s b ≡ [] → Mustered s b (record { seated = 0; ready = 0 })
unfolding count
none_mustered s b n = mustered s b [] (sym n) _ refl refl

-- ---- the drain's word

pub drain_is : (e : Entry Reshape) → get_or (reshape_row e) 4 0 ≡ value_of e.val.drain_by
unfolding reshape_row reshape_head reshape_words
drain_is e = refl

pub some_is : (o : Option ℕ) (w : ℕ) → is_some o ≡ true → w ≡ value_of o → some w ≡ o
unfolding value_of is_some
some_is (some v) w h e = ap some e
some_is none w h e = absurd (grind arith)

pub none_is : (o : Option ℕ) → is_some o ≡ false → none ≡ o
unfolding is_some
none_is none h = refl
none_is (some v) h = absurd (grind arith)
