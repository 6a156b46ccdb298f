-- What the members' futures give carries over to the whole.
use Rattle.std.proofs.Common.{◌≡◌, ℕ, List, subst, sym}
use Rattle.std.specs.Prelude.{Option, None, Some, Result, Ok, Err}
use Rattle.web_request.specs.declared.source.Mark.{Mark}
use Rattle.web_reply.specs.Replies.{Fault}
use Rattle.web_extract.specs.Extracts.{Extracts, ExtractsBoth}
use Rattle.web_extract.specs.ArgumentLists.{Gives, ConvertsRefusal, Joins1, Joins2, nested3, nested4}
use Rattle.web_extract.specs.ListMeanings.{ArgumentMeaning, Member, Means1, Means2, Means3, Means4}
use Rattle.web_extract.specs.OptionArgument.{GivesOption}
use Rattle.web_extract.specs.ResultArgument.{GivesResult}

pub extracts_option : {T E : Type 0} (means : ArgumentMeaning T E) (gives : ℕ → Result T E → Type 0) (old new : Option (List Mark))
    → Extracts means gives old new → Extracts (λ m rest n x. GivesOption {T = T} {E = E} (means m rest) n x) (GivesOption gives) old new
extracts_option means gives None new h = tt
extracts_option means gives (Some m) new h = (h.0, h.1, λ n x g. (g.0, h.2 n g.0 g.1, g.2))

pub extracts_result : {T E F : Type 0} (c : E → F → Type 0) (means : ArgumentMeaning T E) (gives : ℕ → Result T E → Type 0) (old new : Option (List Mark))
    → Extracts means gives old new → Extracts (λ m rest n x. GivesResult c (means m rest) n x) (λ n x. GivesResult c gives n x) old new
extracts_result c means gives None new h = tt
extracts_result c means gives (Some m) new h = (h.0, h.1, λ n x g. (g.0, h.2 n g.0 g.1, g.2))

-- one relation allows no more than another
abbrev Within : {T E : Type 0} → (ℕ → Result T E → Type 0) → (ℕ → Result T E → Type 0) → Type 0
Within {T} {E} g k = (n : ℕ) (x : Result T E) → g n x → k n x

turned_within : {T E : Type 0} (c : E → Fault → Type 0) (g k : ℕ → Result T E → Type 0) → Within g k → Within (ConvertsRefusal c g) (ConvertsRefusal c k)
turned_within c g k f n (Ok v) h = f n (Ok v) h
turned_within c g k f n (Err x) h = (h.0, f n (Err h.0) h.1, h.2)

joins1_within : {A : Type 0} (g k : Gives A) → Within g k → Within (Joins1 g) (Joins1 k)
joins1_within g k f n (Ok v) h = f n (Ok v.0) h
joins1_within g k f n (Err x) h = f n (Err x) h

pub joins2_within : {A B : Type 0} (g1 k1 : Gives A) (g2 k2 : Gives B) → Within g1 k1 → Within g2 k2 → Within (Joins2 g1 g2) (Joins2 k1 k2)
joins2_within g1 k1 g2 k2 f1 f2 n x h = record {
  n1 = h.n1;
  x1 = h.x1;
  first_gives = f1 h.n1 h.x1 h.first_gives;
  n2 = h.n2;
  x2 = h.x2;
  second_gives = f2 h.n2 h.x2 h.second_gives;
  delay = h.delay;
  result = h.result;
}

-- a refusal that is converted into itself
abbrev pub itself : Fault → Fault → Type 0
itself e f = f ≡ e

itself_within : {T : Type 0} (g : Gives T) → Within (ConvertsRefusal itself g) g
itself_within g n (Ok v) h = h
itself_within g n (Err x) h = subst (λ (e : Fault). g n (Err e)) (sym h.2) h.1

-- a place that waits for two others allows what the two do
rest_within : {T : Type 0} (g k : Gives T) → Within g k → Within (ConvertsRefusal itself g) k
rest_within g k f n x h = f n x (itself_within g n x h)

-- the next place begins with the marks that the place before left
next_extracts : {T E : Type 0} (means : ArgumentMeaning T E) (gives : ℕ → Result T E → Type 0) (old new : Option (List Mark)) (m : List Mark)
    → old ≡ Some m → Extracts means gives old new → Extracts means gives (Some m) new
next_extracts means gives old new m e h = subst (λ (o : Option (List Mark)). Extracts means gives o new) e h

pub extracts1 : {A E : Type 0} (c : E → Fault → Type 0) (means1 : ArgumentMeaning A E) (g1 : ℕ → Result A E → Type 0) (old new : Option (List Mark))
    → Extracts means1 g1 old new → Extracts (λ m rest n x. Means1 (Member c means1) m rest n x) (λ n x. Joins1 (ConvertsRefusal c g1) n x) old new
extracts1 c means1 g1 None new h = tt
extracts1 c means1 g1 (Some m) new h =
    (h.0, h.1, joins1_within (ConvertsRefusal c g1) (ConvertsRefusal c (means1 m h.0)) (turned_within c g1 (means1 m h.0) h.2))

pub extracts2 : {A B E F : Type 0} (c1 : E → Fault → Type 0) (c2 : F → Fault → Type 0) (means1 : ArgumentMeaning A E) (means2 : ArgumentMeaning B F)
    (g1 : ℕ → Result A E → Type 0) (g2 : ℕ → Result B F → Type 0) (old new : Option (List Mark))
    → ExtractsBoth means1 means2 g1 g2 old new
    → Extracts (λ m rest n x. Means2 (Member c1 means1) (Member c2 means2) m rest n x) (λ n x. Joins2 (ConvertsRefusal c1 g1) (ConvertsRefusal c2 g2) n x) old new
extracts2 c1 c2 means1 means2 g1 g2 None new h = tt
extracts2 c1 c2 means1 means2 g1 g2 (Some m) new (mid, h, k) =
    let j = next_extracts means2 g2 mid new h.0 h.1 k in
    let f1 = turned_within c1 g1 (means1 m h.0) h.2 in
    let f2 = turned_within c2 g2 (means2 h.0 j.0) j.2 in
    (j.0, j.1, λ n x d. (h.0, joins2_within (ConvertsRefusal c1 g1) (ConvertsRefusal c1 (means1 m h.0)) (ConvertsRefusal c2 g2) (ConvertsRefusal c2 (means2 h.0 j.0)) f1 f2 n x d))

pub extracts3 : {A B C E F G : Type 0} (c1 : E → Fault → Type 0) (c2 : F → Fault → Type 0) (c3 : G → Fault → Type 0)
    (means1 : ArgumentMeaning A E) (means2 : ArgumentMeaning B F) (means3 : ArgumentMeaning C G)
    (g1 : ℕ → Result A E → Type 0) (g2 : ℕ → Result B F → Type 0) (g3 : ℕ → Result C G → Type 0) (old mid1 new : Option (List Mark))
    → Extracts means1 g1 old mid1 → ExtractsBoth means2 means3 g2 g3 mid1 new
    → Extracts (λ m rest n x. Means3 (Member c1 means1) (Member c2 means2) (Member c3 means3) m rest n x)
    (λ n x. Joins2 (ConvertsRefusal c1 g1) (ConvertsRefusal itself (Joins2 (ConvertsRefusal c2 g2) (ConvertsRefusal c3 g3))) n (nested3 x)) old new
extracts3 c1 c2 c3 means1 means2 means3 g1 g2 g3 None mid1 new h1 h = tt
extracts3 c1 c2 c3 means1 means2 means3 g1 g2 g3 (Some m) mid1 new h1 (mid2, h2, h3) =
    let j2 = next_extracts means2 g2 mid1 mid2 h1.0 h1.1 h2 in
    let j3 = next_extracts means3 g3 mid2 new j2.0 j2.1 h3 in
    let k1 = ConvertsRefusal c1 (means1 m h1.0) in
    let k2 = ConvertsRefusal c2 (means2 h1.0 j2.0) in
    let k3 = ConvertsRefusal c3 (means3 j2.0 j3.0) in
    let rest = joins2_within (ConvertsRefusal c2 g2) k2 (ConvertsRefusal c3 g3) k3 (turned_within c2 g2 (means2 h1.0 j2.0) j2.2) (turned_within c3 g3 (means3 j2.0 j3.0) j3.2) in
    let all = joins2_within (ConvertsRefusal c1 g1) k1 (ConvertsRefusal itself (Joins2 (ConvertsRefusal c2 g2) (ConvertsRefusal c3 g3))) (Joins2 k2 k3)
    (turned_within c1 g1 (means1 m h1.0) h1.2) (rest_within (Joins2 (ConvertsRefusal c2 g2) (ConvertsRefusal c3 g3)) (Joins2 k2 k3) rest) in
    (j3.0, j3.1, λ n x d. (h1.0, j2.0, all n (nested3 x) d))

pub extracts4 : {A B C D E F G H : Type 0} (c1 : E → Fault → Type 0) (c2 : F → Fault → Type 0) (c3 : G → Fault → Type 0) (c4 : H → Fault → Type 0)
    (means1 : ArgumentMeaning A E) (means2 : ArgumentMeaning B F) (means3 : ArgumentMeaning C G) (means4 : ArgumentMeaning D H)
    (g1 : ℕ → Result A E → Type 0) (g2 : ℕ → Result B F → Type 0) (g3 : ℕ → Result C G → Type 0) (g4 : ℕ → Result D H → Type 0)
    (old mid new : Option (List Mark))
    → ExtractsBoth means1 means2 g1 g2 old mid → ExtractsBoth means3 means4 g3 g4 mid new
    → Extracts (λ m rest n x. Means4 (Member c1 means1) (Member c2 means2) (Member c3 means3) (Member c4 means4) m rest n x)
    (λ n x. Joins2 (ConvertsRefusal c1 g1) (ConvertsRefusal itself (Joins2 (ConvertsRefusal c2 g2) (ConvertsRefusal itself (Joins2 (ConvertsRefusal c3 g3) (ConvertsRefusal c4 g4))))) n (nested4 x)) old new
extracts4 c1 c2 c3 c4 means1 means2 means3 means4 g1 g2 g3 g4 None mid new h k = tt
extracts4 c1 c2 c3 c4 means1 means2 means3 means4 g1 g2 g3 g4 (Some m) mid new (mid1, h1, h2) (mid3, h3, h4) =
    let j2 = next_extracts means2 g2 mid1 mid h1.0 h1.1 h2 in
    let j3 = next_extracts means3 g3 mid mid3 j2.0 j2.1 h3 in
    let j4 = next_extracts means4 g4 mid3 new j3.0 j3.1 h4 in
    let k1 = ConvertsRefusal c1 (means1 m h1.0) in
    let k2 = ConvertsRefusal c2 (means2 h1.0 j2.0) in
    let k3 = ConvertsRefusal c3 (means3 j2.0 j3.0) in
    let k4 = ConvertsRefusal c4 (means4 j3.0 j4.0) in
    let last = joins2_within (ConvertsRefusal c3 g3) k3 (ConvertsRefusal c4 g4) k4 (turned_within c3 g3 (means3 j2.0 j3.0) j3.2) (turned_within c4 g4 (means4 j3.0 j4.0) j4.2) in
    let rest = joins2_within (ConvertsRefusal c2 g2) k2 (ConvertsRefusal itself (Joins2 (ConvertsRefusal c3 g3) (ConvertsRefusal c4 g4))) (Joins2 k3 k4)
    (turned_within c2 g2 (means2 h1.0 j2.0) j2.2) (rest_within (Joins2 (ConvertsRefusal c3 g3) (ConvertsRefusal c4 g4)) (Joins2 k3 k4) last) in
    let all = joins2_within (ConvertsRefusal c1 g1) k1 (ConvertsRefusal itself (Joins2 (ConvertsRefusal c2 g2) (ConvertsRefusal itself (Joins2 (ConvertsRefusal c3 g3) (ConvertsRefusal c4 g4))))) (Joins2 k2 (Joins2 k3 k4))
    (turned_within c1 g1 (means1 m h1.0) h1.2)
    (rest_within (Joins2 (ConvertsRefusal c2 g2) (ConvertsRefusal itself (Joins2 (ConvertsRefusal c3 g3) (ConvertsRefusal c4 g4)))) (Joins2 k2 (Joins2 k3 k4)) rest) in
    (j4.0, j4.1, λ n x d. (h1.0, j2.0, j3.0, all n (nested4 x) d))
