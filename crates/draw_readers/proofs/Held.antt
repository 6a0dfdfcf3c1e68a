-- A reader over lent draws, at a lifetime α: what the walks over it share.
--     listed, Listed       the machine value of a lent list, and its type
--     apart        a reader owns what its list owns, and is Copy: the list's part is had beside the reader's
--     together     a reader is made of a list and a position
--     reader_is    what is known of a reader whose list is known, at any position
-- Assumes `Logic`.
use mathlib.Core.Path.{◌≡◌, refl}
use Prim.Native.Nat.{ℕ, ◌<◌, ◌^◌}
use mathlib.Core.List.{List, [], ◌∷◌}
use lib.ListN.{length}
use seplogic.Ra.Ura.{Ura}
use mir.Syntax.{w64}
use mir.Val.{Val}
use base.Logic.{ent, sep}
use types.Logic.{Logic, sem}
use types.Kit.{‵, ◌⊛◌, given, ◌$◌, ◌∵◌, !, qed, by, move, drop, use1, split, learn, fjoin, frame, done}
use denote.RattleType.{RattleType}
use denote.Laws.{Is}
use denote.Plain.{uint_Makes}
use denote.Builtin.{u64, usize}
use denote.Ref.{Bor, NamedLft}
use denote.Slice.{slice_val, ShrSlice}
use denote.Steps.{nothing, owned}
use denote.Struct.Laws as LL
use denote.Struct.Rest.{all_own, field_own, rest, own_open, own_out, own_shut}
use Rattle.draw_readers.specs.declared.DrawReader.{DrawReader}
use Rattle.draw_readers.specs.contracts.DrawReader as T
use Rattle.draw_readers.proofs.DrawReader.TheLaws as T'

abbrev pub listed : Bor (List ℕ) → Val
listed s = slice_val s.ref_ptr (length s.now)

abbrev pub Listed : NamedLft → RattleType
Listed α = ShrSlice α.mir α.lft u64

pub reader_is : (α : NamedLft) (d : DrawReader) (n : ℕ) → n < 2 ^ 64 → Is (T.the_row α) d (T'.lowered d ∷ []) → Is (T.the_row α) (record { draws = d.draws; at = n }) (T'.lowered (record { draws = d.draws; at = n }) ∷ [])
reader_is α d n fits is = LL.owes (T.the_type α) (T'.the_laws α) (record { draws = d.draws; at = n }) ((LL.owed (T.the_type α) (T'.the_laws α) d _ is).0, ((refl, fits), tt))

module _ {M : Type 1} {𝓤 : Ura M} (𝓛 : Logic 𝓤) (α : NamedLft) where
  pub apart : (d : DrawReader) → ent 𝓤 (sem 𝓛 ((T.the_row α).own_val d (T'.lowered d ∷ []))) (sep 𝓤 (sem 𝓛 ((Listed α).own_val d.draws (listed d.draws ∷ []))) (sem 𝓛 ((T.the_row α).own_val d (T'.lowered d ∷ []))))
  apart d =
      qed 𝓛 (‵ ((T.the_row α).own_val d (T'.lowered d ∷ [])) ∷ []) ∵
      use1 𝓛 (‵ ((T.the_row α).own_val d (T'.lowered d ∷ [])) ⊛ ‵ ((T.the_row α).own_val d (T'.lowered d ∷ []))) ((LL.copy (T.the_type α) (T'.the_copy α) 𝓛).twice d (T'.lowered d ∷ [])) $ split ! $
      use1 𝓛 (given (T'.lowered d ∷ [] ≡ T'.lowered d ∷ []) (‵ (all_own (T.the_type α).parts (T'.the_laws α) (d.draws, (d.at, tt))))) (own_open 𝓛 (T.the_type α) (T'.the_laws α) (d.draws, (d.at, tt)) (T'.lowered d)) $ learn ! (λ _.
      use1 𝓛 (‵ (field_own (T.the_type α).parts (T'.the_laws α) 0 d.draws) ⊛ ‵ (rest (T.the_type α).parts (T'.the_laws α) 0 (d.draws, (d.at, tt)))) (own_out 𝓛 (T.the_type α).parts (T'.the_laws α) 0 (d.draws, (d.at, tt))) $ split ! $
      frame ! $ drop ! $ done !)

  pub together : (s : Bor (List ℕ)) (n : ℕ) → n < 2 ^ 64 → ent 𝓤 (sem 𝓛 ((Listed α).own_val s (listed s ∷ []))) (sem 𝓛 ((T.the_row α).own_val (record { draws = s; at = n }) (T'.lowered (record { draws = s; at = n }) ∷ [])))
  together s n fits =
      qed 𝓛 (‵ ((Listed α).own_val s (listed s ∷ [])) ∷ []) ∵ nothing ! $ owned ! usize (Is usize) (uint_Makes 𝓛 w64) n _ (refl, fits) $ fjoin ! $ move ! (1 ∷ 0 ∷ []) $ fjoin ! $
      by ! (own_shut 𝓛 (T.the_type α) (T'.the_laws α) (s, (n, tt)))
