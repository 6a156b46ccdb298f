-- Parts that are taken one by one.
use Rattle.std.proofs.Common.{◌≡◌, ℕ, ◌+◌, ◌<◌, List, [], ◌∷◌, ◌++◌, map, length, drop, get_or, subst, ◌≤◌, refl, sym, ap, ◌∙◌, arith}
use Rattle.std.proofs.lemmas.List.{append-nil, append_assoc, at_drop_all, at_drop_more}
use Rattle.std.specs.List.{flat_map}
use Rattle.web_multipart_parts.specs.Parts.{Closes, CutOff, Ending, Fails, Form, Found, Parts, delimiter_of, later_ending, later_found, no_part, parts_of}
use Rattle.web_multipart_parts.specs.PartReading.{GivesEnd, GivesPart, GoesOn, Reader, parts_with}
use Rattle.web_multipart_parts.specs.PieceParts.{NothingMore, PartsAre, SameDue, end_of}
use Rattle.web_multipart_parts.proofs.BoundaryLemmas.{open_cut}
use Rattle.web_multipart_parts.specs.declared.part.Part.{Part}
use Rattle.web_multipart_parts.specs.declared.part.PartError.{PartError}
use Rattle.web_multipart_parts.specs.declared.part_machine.PartState.TheVariants as place
use Rattle.web_multipart_parts.specs.declared.piece_parts.BodyEnd.{BodyEnd}
use Rattle.web_multipart_parts.specs.declared.piece_parts.BodyEnd.TheVariants as end

later_parts : (n : ℕ) (fs : List Found) → map (λ f. f.part) (map (later_found n) fs) ≡ map (λ f. f.part) fs
later_parts n [] = refl
later_parts n (f ∷ fs) = ap (λ ps. f.part ∷ ps) (later_parts n fs)

later_end : (n : ℕ) (e : Ending) → end_of (later_ending n e) ≡ end_of e
later_end n (Closes k) = refl
later_end n (Fails k error) = refl
later_end n CutOff = refl

pub due_same : (r : Reader) (parts : List Part) → SameDue r parts r parts
due_same r parts = record { are = λ more. refl; ends = λ more. refl }

module _ (a : Reader) (front : List Part) (b : Reader) (now : List Part) (s : SameDue a front b now) where
  pub due_part : (part : Part) (c : Reader) → GivesPart b part c → (next : List Part) → next ≡ now ++ part ∷ [] → SameDue a front c next
  due_part part c g next next_is = rw next_is (record {
    are = λ more.
        s.are more
        ∙ (ap (λ (p : Parts). now ++ map (λ f. f.part) p.found) (g.parts more)
        ∙ (ap (λ ps. now ++ part ∷ ps) (later_parts g.read (parts_with c more).found)
        ∙ sym (append_assoc now (part ∷ []) (map (λ f. f.part) (parts_with c more).found))));
    ends = λ more. s.ends more ∙ (ap (λ (p : Parts). end_of p.ending) (g.parts more) ∙ later_end g.read (parts_with c more).ending);
  })

  pub due_goes : (c : Reader) → GoesOn b c → SameDue a front c now
  due_goes c g = record {
    are = λ more. s.are more ∙ (ap (λ (p : Parts). now ++ map (λ f. f.part) p.found) (g.parts more) ∙ ap (λ ps. now ++ ps) (later_parts g.read (parts_with c more).found));
    ends = λ more. s.ends more ∙ (ap (λ (p : Parts). end_of p.ending) (g.parts more) ∙ later_end g.read (parts_with c more).ending);
  }

  pub due_closes : GivesEnd b Closes → NothingMore a front end.Closed now
  due_closes g = record {
    are = λ more. s.are more ∙ (ap (λ (p : Parts). now ++ map (λ f. f.part) p.found) (g.parts more) ∙ append-nil now);
    ends = λ more. s.ends more ∙ ap (λ (p : Parts). end_of p.ending) (g.parts more);
  }

  pub due_fails : (error : PartError) → GivesEnd b (λ n. Fails n error) → NothingMore a front (end.Failed error) now
  due_fails error g = record {
    are = λ more. s.are more ∙ (ap (λ (p : Parts). now ++ map (λ f. f.part) p.found) (g.parts more) ∙ append-nil now);
    ends = λ more. s.ends more ∙ ap (λ (p : Parts). end_of p.ending) (g.parts more);
  }

-- ---- over all pieces

abbrev pub start_of : Form → Reader
start_of form = record { form = form; place = place.Opening; left = 64; came = [] }

-- what is left of the bytes comes after what came
pub record Left (form : Form) (all rest : List ℕ) (r : Reader) (parts : List Part) : Type 0 where
  pub found : parts ++ map (λ f. f.part) (parts_with r rest).found ≡ map (λ f. f.part) (parts_of form all).found
  pub ended : end_of (parts_with r rest).ending ≡ end_of (parts_of form all).ending
  pub cut_off : parts_with r [] ≡ no_part CutOff

pub left_start : (boundary : List ℕ) (limit : ℕ) (all : List ℕ) → Left (record { delimiter = delimiter_of boundary; limit = limit }) all all (start_of (record { delimiter = delimiter_of boundary; limit = limit })) []
left_start boundary limit all = record {
  found = refl;
  ended = refl;
  cut_off = open_cut (record { delimiter = delimiter_of boundary; limit = limit }) 64 [] refl (omega arith);
}

module _ (form : Form) (all : List ℕ) where
  fed : (r : Reader) (piece more : List ℕ) → parts_with r (piece ++ more) ≡ parts_with (record r { came = r.came ++ piece }) more
  fed r piece more = ap (λ (xs : List ℕ). parts_with (record r { came = [] }) xs) (sym (append_assoc r.came piece more))

  -- a piece came, and what stands is taken
  pub left_more : (piece rest : List ℕ) (r : Reader) (parts : List Part) → Left form all (piece ++ rest) r parts → (new : Reader) (new_parts : List Part)
      → SameDue (record r { came = r.came ++ piece }) parts new new_parts → parts_with new [] ≡ no_part CutOff → Left form all rest new new_parts
  left_more piece rest r parts l new new_parts s cut = record {
    found = sym (s.are rest) ∙ (ap (λ (p : Parts). parts ++ map (λ f. f.part) p.found) (sym (fed r piece rest)) ∙ l.found);
    ended = sym (s.ends rest) ∙ (ap (λ (p : Parts). end_of p.ending) (sym (fed r piece rest)) ∙ l.ended);
    cut_off = cut;
  }

  pub left_ends : (piece rest : List ℕ) (r : Reader) (parts : List Part) → Left form all (piece ++ rest) r parts → (ended : BodyEnd) (new_parts : List Part)
      → NothingMore (record r { came = r.came ++ piece }) parts ended new_parts → PartsAre new_parts ended (parts_of form all)
  left_ends piece rest r parts l ended new_parts s = record {
    are = sym (s.are rest) ∙ (ap (λ (p : Parts). parts ++ map (λ f. f.part) p.found) (sym (fed r piece rest)) ∙ l.found);
    ends = sym (s.ends rest) ∙ (ap (λ (p : Parts). end_of p.ending) (sym (fed r piece rest)) ∙ l.ended);
  }

  pub left_unfinished : (r : Reader) (parts : List Part) → Left form all [] r parts → PartsAre parts end.Unfinished (parts_of form all)
  left_unfinished r parts l = record {
    are = sym (append-nil parts) ∙ (ap (λ (p : Parts). parts ++ map (λ f. f.part) p.found) (sym l.cut_off) ∙ l.found);
    ends = ap (λ (p : Parts). end_of p.ending) (sym l.cut_off) ∙ l.ended;
  }

pub pieces_step : {X : Type 0} (f : X → List ℕ) (xs : List X) (i : ℕ) (x : X) → i < length xs → x ≡ get_or xs i x → flat_map f (drop i xs) ≡ f x ++ flat_map f (drop (i + 1) xs)
pieces_step f xs i x h is = at_drop_more (flat_map f) xs i x h ∙ ap (λ y. f y ++ flat_map f (drop (i + 1) xs)) (sym is)

pub left_all : {X : Type 0} (f : X → List ℕ) (form : Form) (all : List ℕ) (xs : List X) (i : ℕ) (r : Reader) (parts : List Part) → length xs ≤ i → Left form all (flat_map f (drop i xs)) r parts → Left form all [] r parts
left_all f form all xs i r parts h l = subst (λ (ys : List ℕ). Left form all ys r parts) (at_drop_all (flat_map f) xs i h) l
