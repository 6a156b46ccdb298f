-- The first fault is that of the first faulty line.
use Rattle.std.proofs.Common.{◌≡◌, ℕ, ◌+◌, List, [], ◌∷◌, ◌++◌, length, Option, Some, None, refl, ap, ◌∙◌, append_assoc}
use Rattle.std.proofs.lemmas.List.{append-nil}
use Rattle.cli_script.specs.Line.{Line}
use Rattle.cli_script.specs.LineFaults.{fault_of}
use Rattle.cli_script.specs.Script.{fault_or, first_fault_after, first_fault, IsFirstFault, NoneFaulty}
use Rattle.cli_script.specs.declared.reason.LineFault.{LineFault}
use Rattle.cli_script.specs.declared.script.InvalidScript.{InvalidScript}

none_next : (r : Option LineFault) (n : ℕ) (next : Option InvalidScript) → fault_or r n next ≡ None → (r ≡ None) × (next ≡ None)
none_next None n next e = (refl, e)
none_next (Some r) n next e = absurd (cc)

-- the same, after some lines

abbrev NoneAfter : List Line → List Line → Type 0
NoneAfter before left = (b : List Line) (l : Line) (a : List Line) → left ≡ b ++ l ∷ a → fault_of (before ++ b) l ≡ None

none_after : (before left : List Line) → first_fault_after before left ≡ None → NoneAfter before left
none_after before [] e [] l a is = absurd (cc)
none_after before [] e (y ∷ b) l a is = absurd (cc)
none_after before (x ∷ left) e [] l a is =
    let first = none_next (fault_of before x) _ _ e in
    let same : x ≡ l = cc in
    rw (append-nil before, ← same) first.0
none_after before (x ∷ left) e (y ∷ b) l a is =
    let first = none_next (fault_of before x) _ _ e in
    let same : y ≡ x = cc in
    let tail : left ≡ b ++ l ∷ a = cc in
    rw (same, ← append_assoc before (x ∷ []) b) (none_after (before ++ x ∷ []) left first.1 b l a tail)

after_none : (before left : List Line) → NoneAfter before left → first_fault_after before left ≡ None
after_none before [] none = refl
after_none before (x ∷ left) none =
    let first : fault_of before x ≡ None = rw append-nil at (none [] x left refl) in
    rw first (after_none (before ++ x ∷ []) left (λ b l a is. rw (append_assoc before (x ∷ []) b) (none (x ∷ b) l a (ap (λ k. x ∷ k) is))))

pub valid : (lines : List Line) → (first_fault lines ≡ None → NoneFaulty lines) × (NoneFaulty lines → first_fault lines ≡ None)
valid lines = (none_after [] lines, after_none [] lines)

pub record IsFirstAfter (before left : List Line) (fault : InvalidScript) (b : List Line) (l : Line) (a : List Line) : Type 0 where
  left_is : left ≡ b ++ l ∷ a
  number_is : fault.line ≡ length (before ++ b) + 1
  faulty : fault_of (before ++ b) l ≡ Some fault.reason
  none_before : NoneAfter before b

earlier : (before : List Line) (x : Line) (b : List Line) → fault_of before x ≡ None → NoneAfter (before ++ x ∷ []) b → NoneAfter before (x ∷ b)
earlier before x b none least [] l a is =
    let same : x ≡ l = cc in
    rw (append-nil before, ← same) none
earlier before x b none least (y ∷ c) l a is =
    let same : y ≡ x = cc in
    let tail : b ≡ c ++ l ∷ a = cc in
    rw (same, ← append_assoc before (x ∷ []) c) (least c l a tail)

one_more : (before left : List Line) (x : Line) (fault : InvalidScript) (b : List Line) (l : Line) (a : List Line) → fault_of before x ≡ None
    → IsFirstAfter (before ++ x ∷ []) left fault b l a → IsFirstAfter before (x ∷ left) fault (x ∷ b) l a
one_more before left x fault b l a none at = record {
  left_is = ap (λ k. x ∷ k) at.left_is;
  number_is = at.number_is ∙ ap (λ k. length k + 1) (append_assoc before (x ∷ []) b);
  faulty = rw append_assoc at at.faulty;
  none_before = earlier before x b none at.none_before;
}

nothing_split : (b : List Line) (l : Line) (a : List Line) → [] ≡ b ++ l ∷ a → ⊥
nothing_split [] l a e = cc
nothing_split (y ∷ b) l a e = cc

First : List Line → List Line → InvalidScript → Type 0
First before left fault = (b : List Line) × (l : Line) × (a : List Line) × IsFirstAfter before left fault b l a

by_first : (before left : List Line) (x : Line) (fault : InvalidScript) (r : Option LineFault) → fault_of before x ≡ r → fault_or r (length before + 1) (first_fault_after (before ++ x ∷ []) left) ≡ Some fault
    → (first_fault_after (before ++ x ∷ []) left ≡ Some fault → First (before ++ x ∷ []) left fault) → First before (x ∷ left) fault
unfolding First
by_first before left x fault (Some r) is e next =
    let f : fault ≡ record { line = length before + 1; reason = r } = cc in (
      [],
      x,
      left,
      record {
        left_is = refl;
        number_is = rw (f, append-nil before) refl;
        faulty = rw (f, append-nil before) is;
        none_before = λ b l a none. absurd (nothing_split b l a none);
      },
    )
by_first before left x fault None is e next =
    let found = next e in
    (x ∷ found.0, found.1, found.2, one_more before left x fault found.0 found.1 found.2 is found.3)

first_after : (before left : List Line) (fault : InvalidScript) → first_fault_after before left ≡ Some fault → First before left fault
first_after before [] fault e = absurd (cc)
first_after before (x ∷ left) fault e = by_first before left x fault (fault_of before x) refl e (first_after (before ++ x ∷ []) left fault)

pub first : (lines : List Line) (fault : InvalidScript) → first_fault lines ≡ Some fault
    → (before : List Line) × (line : Line) × (after : List Line) × IsFirstFault lines fault before line after
unfolding First
first lines fault e =
    let found = first_after [] lines fault e in
    (found.0, found.1, found.2, record { lines_are = found.3.left_is; number_is = found.3.number_is; reason_is = found.3.faulty; none_before = found.3.none_before })
