-- What a poll of a stream means for the parts that are collected.
use Rattle.std.proofs.Common.{◌≡◌, ℕ, suc, List, [], ◌∷◌, ◌++◌, Option, None, Some, Ok, Err, refl, sym, ◌∙◌, ap, map, append_assoc}
use Rattle.std.specs.Prelude.{IfSome, Result, option_map}
use Rattle.std.proofs.lemmas.List.{append-nil}
use Rattle.web_request.specs.declared.source.Mark.{Mark}
use Rattle.web_body.specs.PollSteps.{UnlessNoMemory}
use Rattle.web_body.specs.declared.poll.Step.{Step}
use Rattle.web_body.specs.declared.poll.Step.TheVariants as step
use Rattle.web_multipart_parts.specs.declared.part.Part.{Part}
use Rattle.web_reply.specs.Replies.{Fault}
use Rattle.web_multipart_stream.specs.MultipartErrors.{multipart_fault}
use Rattle.web_multipart_stream.specs.PartSchedules.{Closed, Due, Failed, Outcome, Schedule, ended, later, one_later as schedule_later, part_due}
use Rattle.web_multipart_stream.specs.PartStreams.{KeepsStall}
use Rattle.web_multipart_stream.specs.ScheduleLaws.{parts_of_schedule}
use Rattle.web_multipart_stream.specs.declared.error.MultipartError.{MultipartError}
use Rattle.web_multipart.specs.Collections.{AllowsParts, Collection, EndsNow, collection, one_later, result_of}

with_parts : (n : ℕ) (o : Outcome) (ps qs : List Part) → ps ≡ qs → ◌≡◌ {A = Collection} (record { delay = n; parts = ps; outcome = o }) (record { delay = n; parts = qs; outcome = o })
with_parts n o ps qs e = ap (λ (x : List Part). let c : Collection = record { delay = n; parts = x; outcome = o } in c) e

parts_later : (ds : List Due) → map (λ d. d.part) (map later ds) ≡ map (λ d. d.part) ds
parts_later [] = refl
parts_later (d ∷ ds) = ap (λ (ps : List Part). d.part ∷ ps) (parts_later ds)

pub collect_part : (came : List Part) (part : Part) (old new : Option Schedule) → old ≡ option_map (part_due part) new
    → option_map (collection (came ++ part ∷ [])) new ≡ option_map (collection came) old
collect_part came part old None is = rw is refl
collect_part came part old (Some s) is = rw is (ap Some (with_parts s.ends s.outcome _ _ (append_assoc came (part ∷ []) (parts_of_schedule s))))

pub collect_stall : (came : List Part) (old new : Option Schedule) → old ≡ option_map schedule_later new
    → option_map (collection came) old ≡ option_map one_later (option_map (collection came) new)
collect_stall came old None is = rw is refl
collect_stall came old (Some s) is = rw is (ap Some (with_parts (suc s.ends) s.outcome _ _ (ap (λ (ps : List Part). came ++ ps) (parts_later s.parts))))

pub collect_closed : (came : List Part) (old : Option Schedule) → IfSome old (λ s. s ≡ ended Closed) → IfSome (option_map (collection came) old) (EndsNow came (Ok tt))
collect_closed came None is = tt
collect_closed came (Some s) is = rw is (with_parts 0 Closed _ _ (append-nil came))

pub collect_failed : (came : List Part) (error : MultipartError) (old : Option Schedule) → IfSome old (λ s. s ≡ ended (Failed error)) → IfSome (option_map (collection came) old) (EndsNow came (Err error))
collect_failed came error None is = tt
collect_failed came error (Some s) is = rw is (refl, refl)

-- ---- results

pub closed_allowed : (c : Option Collection) (parts : List Part) → IfSome c (EndsNow parts (Ok tt)) → AllowsParts c 0 (Ok parts)
closed_allowed None parts is = tt
closed_allowed (Some c) parts is = rw is (refl, refl)

failed_result : (c : Collection) (error : MultipartError) → c.outcome ≡ Failed error → result_of c ≡ Err (multipart_fault error)
failed_result c error is = rw is refl

pub failed_allowed : (c : Option Collection) (parts : List Part) (error : MultipartError) (x : Result (List Part) Fault) → IfSome c (EndsNow parts (Err error)) → x ≡ Err (multipart_fault error) → AllowsParts c 0 x
failed_allowed None parts error x is same = tt
failed_allowed (Some c) parts error x is same = (sym is.0, same ∙ sym (failed_result c error is.1))

pub later_allowed : (old new : Option Collection) → old ≡ option_map one_later new → (n : ℕ) (x : Result (List Part) Fault) → AllowsParts new n x → AllowsParts old (suc n) x
later_allowed old None is n x allowed = rw is tt
later_allowed old (Some c) is n x allowed = rw is (ap suc allowed.0, allowed.1)

-- ---- what holds of each result holds of this one

pub unless_no_memory : {T : Type 0} (s : Step T) (P : Type 0) → P → UnlessNoMemory s P
unless_no_memory step.Pending P p = p
unless_no_memory (step.Ready x) P p = p
unless_no_memory step.NoMemory P p = tt

pub stall_kept : {T : Type 0} (s : Step T) (old new : Option (List Mark)) → new ≡ old → KeepsStall s old new
stall_kept step.Pending old new is = tt
stall_kept (step.Ready x) old new is = is
stall_kept step.NoMemory old new is = is
