-- What is written of a connection over a source, and how it ends.
use Rattle.std.specs.Prelude.{◌≡◌, ◌≢◌, ℕ, ◌⊎◌, List, ◌++◌, ⊤}
use Rattle.web_texts.specs.Counts.{Rose}
use Rattle.web_worker.specs.Setting.{Setting}
use Rattle.web_messages.specs.declared.limits.Limits.{Limits}
use Rattle.web_http1.specs.declared.ended.Ended.{Ended}
use Rattle.web_http1.specs.declared.ended.Ended.TheVariants as ended
use Rattle.web_http1.specs.Answers.{Answers, AnswersAtFault}

module _ {S L D C V K : Type 0} (s : Setting S L D C V K) (limits : Limits) where
  -- The answers of the bytes, which are all that come, were written, and the connection ended as
  -- they say; or an allocation failed, and a prefix of them was written.
  abbrev pub AnswersAll : List ℕ → Ended → List ℕ → List ℕ → Type 0
  AnswersAll bytes result before behind =
      (text : List ℕ) (end : Ended) → Answers s limits bytes text end
      → ((result ≡ end) × (behind ≡ before ++ text))
      ⊎ ((result ≡ ended.NoMemory)
      × (front : List ℕ) × (back : List ℕ) × (text ≡ front ++ back) × (behind ≡ before ++ front))

  -- Reading failed after the bytes: those answers of them were written of which the connection
  -- ends so, where there are some; or an allocation failed.
  abbrev pub AnswersUpToFault : List ℕ → Ended → List ℕ → List ℕ → Type 0
  AnswersUpToFault bytes result before behind =
      (text : List ℕ) (end : Ended) → AnswersAtFault s limits bytes text end
      → (result ≢ ended.NoMemory)
      → (written : List ℕ) × AnswersAtFault s limits bytes written result
      × (behind ≡ before ++ written)

-- the count of faults rose where reading failed; then it ended so, or an allocation failed
abbrev pub StopsAtFault : Ended → ℕ → ℕ → Type 0
StopsAtFault ended.SourceFault old new = Rose old new
StopsAtFault ended.NoMemory old new = ⊤
StopsAtFault ended.Closed old new = new ≡ old
StopsAtFault (ended.Refused w) old new = new ≡ old

-- unless an allocation failed
abbrev pub UnlessLacking : Ended → Type 0 → Type 0
UnlessLacking ended.NoMemory P = ⊤
UnlessLacking ended.SourceFault P = P
UnlessLacking ended.Closed P = P
UnlessLacking (ended.Refused w) P = P

-- bytes were written after those that stood there, and nothing else
abbrev pub Appends : List ℕ → List ℕ → Type 0
Appends before behind = (given : List ℕ) × (behind ≡ before ++ given)
