-- Bodies of a folder as they are sent.
use Rattle.std.specs.Prelude.{◌≡◌, ◌≤◌, ◌<◌, ◌^◌, ◌⊎◌, ℕ, List, Option, None, Some, drop}
use Rattle.web_body.specs.declared.payload.Payload.{Payload}
use Rattle.web_body.specs.declared.payload.Payload.TheVariants as payload
use Rattle.web_reply.specs.Replies.{Reply, bare_reply, with_body}
use Rattle.web_reply.specs.declared.body.BoxBody.{BoxBody}
use Rattle.web_reply.specs.declared.body.BoxBody.TheVariants as boxed
use Rattle.web_folders.specs.declared.body.FilePart.{FilePart}
use Rattle.web_folders.specs.declared.body.FolderBody.{FolderBody}
use Rattle.web_folders.specs.declared.body.FolderBody.TheVariants as body
use Rattle.web_files.specs.Pieces.{PiecesLeft, pieces_of}

-- What is known of an open file: the bytes that are left to be read, the position, and all of its
-- bytes. Of the files of a system nothing is.
pub record Known (F : Type 0) : Type 0 where
  pub left : F → Option (List ℕ)
  pub position : F → Option ℕ
  pub bytes : F → Option (List ℕ)

-- What is left to be read is what stands from the position on.
abbrev pub ReadsFromPosition : {F : Type 0} → Known F → Type 0
ReadsFromPosition {F} known =
    (file : F) (at : ℕ) (bytes : List ℕ) → known.position file ≡ Some at
    → known.bytes file ≡ Some bytes → known.left file ≡ Some (drop at bytes)

-- The file from which this position is read next. For the first byte it is the file as it was. For
-- another one it was moved: where its position and its bytes are known, those from there on are
-- left.
pub record IsMoved {F : Type 0} (known : Known F) (file : F) (first : ℕ) (moved : F) : Type 0 where
  pub stays : first ≡ 0 → moved ≡ file
  pub moves : 0 < first → (at : ℕ) (bytes : List ℕ) → ReadsFromPosition known
      → known.position file ≡ Some at → known.bytes file ≡ Some bytes
      → known.left moved ≡ Some (drop first bytes)

-- a body of this length and payload
abbrev pub IsSized : ℕ → Payload PiecesLeft → BoxBody PiecesLeft → Type 0
IsSized count payload (boxed.Sized n p) = (n ≡ count) × (p.value ≡ payload)
IsSized count payload boxed.Empty = ⊥
IsSized count payload (boxed.Bytes bytes) = ⊥
IsSized count payload (boxed.Stream p) = ⊥

-- So many bytes of the file, in pieces, from the first position of the part on.
pub record SendsPart {F : Type 0} (known : Known F) (part : FilePart F) (given : BoxBody PiecesLeft)
    : Type 0 where
  pub few : part.count < 2 ^ 63
  pub moved : F
  pub is_moved : IsMoved known part.file part.first moved
  pub sends : IsSized part.count (payload.Stream (pieces_of part.count (known.left moved))) given

abbrev pub SendsBody : {F : Type 0} → Known F → FolderBody F → BoxBody PiecesLeft → Type 0
SendsBody known body.Empty given = given ≡ boxed.Empty
SendsBody known (body.Page page) given = given ≡ boxed.Bytes page
SendsBody known (body.File part) given = SendsPart known part given
SendsBody known (body.Omitted count) given = IsSized count payload.None given

-- What may be refused: a part that begins after the first byte, to which the file has to be moved,
-- or one of 2^63 bytes or more.
abbrev pub MayBeRefused : {F : Type 0} → FolderBody F → Type 0
MayBeRefused body.Empty = ⊥
MayBeRefused (body.Page page) = ⊥
MayBeRefused (body.File part) = (0 < part.first) ⊎ (2 ^ 63 ≤ part.count)
MayBeRefused (body.Omitted count) = ⊥

-- The reply with its body as it is sent, and all else as it was; or an empty 500, if its body may
-- be refused.
abbrev pub Streams : {F : Type 0} → Known F → Reply (FolderBody F) → Reply (BoxBody PiecesLeft)
    → Type 0
Streams known reply sent =
    ((given : BoxBody PiecesLeft) × SendsBody known reply.body given
    × (sent ≡ with_body given reply))
    ⊎ (MayBeRefused reply.body × (sent ≡ bare_reply 500 boxed.Empty))

-- by whether it can be read
abbrev pub SendsIfRead : {F : Type 0} → Known F → FolderBody F → Option (BoxBody PiecesLeft)
    → Type 0
SendsIfRead known b None = MayBeRefused b
SendsIfRead known b (Some given) = SendsBody known b given
