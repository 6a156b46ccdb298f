-- Arguments that do not depend on the cutting of a body within a limit.
use Rattle.std.proofs.Common.{◌≤◌, ℕ, max, List, length, refl, arith, inl, inr}
use Rattle.std.specs.Prelude.{Result, Ok, Err}
use Rattle.web_request.specs.declared.source.Mark.{Mark}
use Rattle.web_request.specs.Body.{piece_bytes}
use Rattle.web_reply.specs.Replies.{Fault}
use Rattle.web_extract.specs.FirstTaker.{AllOrNone, LeavesAllOrNone}
use Rattle.web_extract.specs.ListMeanings.{Meaning, Means1, Means2, Means3, Means4, Member}
use Rattle.web_cutting.specs.CutFree.{CutFree, CutFreeWithin}

module _ (limit : ℕ) where
  abbrev Small : List Mark → Type 0
  Small m = length (piece_bytes m) ≤ limit

  -- what is left of a body within the limit is within it
  left_small : (m left : List Mark) → AllOrNone m left → Small m → Small left
  left_small m left (inl same) small = rw same small
  left_small m left (inr none) small = rw none (omega arith)

  pub free_within : {X : Type 0} (means : List Mark → List Mark → ℕ → X → Type 0) → CutFree means → CutFreeWithin limit means
  free_within means free m n rest d x same small h = free m n rest d x same h

  pub turned_within : {X Y : Type 0} (means : List Mark → List Mark → ℕ → X → Type 0) (into : X → Y → Type 0) → CutFreeWithin limit means
      → CutFreeWithin limit (λ m rest n y. (x : X) × means m rest n x × into x y)
  turned_within means into free m n rest d y same small h =
      let r = free m n rest d h.0 same small h.1 in
      (r.0, r.1, (h.0, r.2, h.2), r.3)

  pub member_within : {T E : Type 0} (converts : E → Fault → Type 0) (means : List Mark → List Mark → ℕ → Result T E → Type 0)
      → CutFreeWithin limit means → CutFreeWithin limit (Member converts means)
  member_within converts means free m n rest d (Ok v) same small h = free m n rest d (Ok v) same small h
  member_within converts means free m n rest d (Err x) same small h =
      let r = free m n rest d (Err h.0) same small h.1 in
      (r.0, r.1, (h.0, r.2, h.2), r.3)

  pub one_within : {A : Type 0} (first : Meaning A) → CutFreeWithin limit first → CutFreeWithin limit (Means1 first)
  one_within first free m n rest d (Ok v) same small h = free m n rest d (Ok v.0) same small h
  one_within first free m n rest d (Err e) same small h = free m n rest d (Err e) same small h

  pub two_within : {A B : Type 0} (first : Meaning A) (second : Meaning B) → LeavesAllOrNone first
      → CutFreeWithin limit first → CutFreeWithin limit second → CutFreeWithin limit (Means2 first second)
  two_within first second leaves free1 free2 m n rest d x same small (left, j) =
      let a = free1 m n left j.n1 j.x1 same small j.first_gives in
      let less = left_small m left (leaves m left j.n1 j.x1 j.first_gives) small in
      let b = free2 left a.0 rest j.n2 j.x2 a.3 less j.second_gives in (
        b.0,
        max a.1 b.1,
        (
          a.0,
          record {
            n1 = a.1;
            x1 = j.x1;
            first_gives = a.2;
            n2 = b.1;
            x2 = j.x2;
            second_gives = b.2;
            delay = refl;
            result = j.result;
          },
        ),
        b.3,
      )

  pub three_within : {A B C : Type 0} (first : Meaning A) (second : Meaning B) (third : Meaning C)
      → LeavesAllOrNone first → LeavesAllOrNone second
      → CutFreeWithin limit first → CutFreeWithin limit second → CutFreeWithin limit third → CutFreeWithin limit (Means3 first second third)
  three_within first second third leaves1 leaves2 free1 free2 free3 m n rest d x same small (left1, left2, j) =
      let a = free1 m n left1 j.n1 j.x1 same small j.first_gives in
      let less = left_small m left1 (leaves1 m left1 j.n1 j.x1 j.first_gives) small in
      let b = two_within second third leaves2 free2 free3 left1 a.0 rest j.n2 j.x2 a.3 less (left2, j.second_gives) in (
        b.0,
        max a.1 b.1,
        (
          a.0,
          b.2.0,
          record {
            n1 = a.1;
            x1 = j.x1;
            first_gives = a.2;
            n2 = b.1;
            x2 = j.x2;
            second_gives = b.2.1;
            delay = refl;
            result = j.result;
          },
        ),
        b.3,
      )

  pub four_within : {A B C D : Type 0} (first : Meaning A) (second : Meaning B) (third : Meaning C) (fourth : Meaning D)
      → LeavesAllOrNone first → LeavesAllOrNone second → LeavesAllOrNone third
      → CutFreeWithin limit first → CutFreeWithin limit second → CutFreeWithin limit third → CutFreeWithin limit fourth
      → CutFreeWithin limit (Means4 first second third fourth)
  four_within first second third fourth leaves1 leaves2 leaves3 free1 free2 free3 free4 m n rest d x same small (left1, left2, left3, j) =
      let k = j.second_gives in
      let a = free1 m n left1 j.n1 j.x1 same small j.first_gives in
      let less1 = left_small m left1 (leaves1 m left1 j.n1 j.x1 j.first_gives) small in
      let b = free2 left1 a.0 left2 k.n1 k.x1 a.3 less1 k.first_gives in
      let less2 = left_small left1 left2 (leaves2 left1 left2 k.n1 k.x1 k.first_gives) less1 in
      let c = two_within third fourth leaves3 free3 free4 left2 b.0 rest k.n2 k.x2 b.3 less2 (left3, k.second_gives) in (
        c.0,
        max a.1 (max b.1 c.1),
        (
          a.0,
          b.0,
          c.2.0,
          record {
            n1 = a.1;
            x1 = j.x1;
            first_gives = a.2;
            n2 = max b.1 c.1;
            x2 = j.x2;
            second_gives = record {
              n1 = b.1;
              x1 = k.x1;
              first_gives = b.2;
              n2 = c.1;
              x2 = k.x2;
              second_gives = c.2.1;
              delay = refl;
              result = k.result;
            };
            delay = refl;
            result = j.result;
          },
        ),
        c.3,
      )
