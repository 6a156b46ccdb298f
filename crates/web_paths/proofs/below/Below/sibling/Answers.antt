use Rattle.std.proofs.Common.{◌≡◌, ◌∙◌, ◌++◌, ◌==◌, ap, sym, string_bytes, length, false}
use Rattle.std.specs.List.{list_all}
use Rattle.web_paths.specs.FileNames.{is_file_name, is_name_byte}
use Rattle.web_paths.specs.PathsBelow.{names_in, segments}
use Rattle.web_paths.specs.declared.names.HiddenNames.TheVariants.{Allowed}
use Rattle.web_paths.proofs.NameLemmas.{names_in-none, names_in-some, names_in-text, segments-text, sibling-bytes, sibling-found, sibling-none, sibling-refused}
use Rattle.web_paths.proofs.below.Below.sibling.Goals as goal
use Rattle.web_paths.proofs.below.Below.sibling.Goals.{then-is_empty-via-then-is_empty, then-is_empty-via-else-is_empty+then-not-has_name_bytes}

pub returns-then-is_empty : goal.returns-then-is_empty
returns-then-is_empty c =
    let text = string_bytes c.self.inside.path in
    let view = ap (λ v. v.names) c.self.view_is in
    elim c.then-is_empty.branch [
      | then-is_empty-via-then-is_empty w ↦
          sibling-none c.args.self.now c.args.ending.now (sym view ∙ names_in-none text (ap (λ n. n == 0) (sym c.self.inside.path.bytes.ok.0) ∙ sym c.is_empty.ensures ∙ w.if-is_empty.true))
      | then-is_empty-via-else-is_empty+then-not-has_name_bytes w ↦
          sibling-bytes c.args.self.now (names_in text) c.args.ending.now (sym view) (names_in-some text (ap (λ n. n == 0) (sym c.self.inside.path.bytes.ok.0) ∙ sym c.is_empty.ensures ∙ w.if-is_empty.false)) (ap (list_all is_name_byte) (sym w.as_bytes.ensures.value) ∙ sym w.has_name_bytes.ensures ∙ w.if-not-has_name_bytes.true)
    ]

pub returns-then-not-are_names : goal.returns-then-not-are_names
returns-then-not-are_names c =
    let text = string_bytes c.self.inside.path in
    let some : (length text == 0) ≡ false = ap (λ n. n == 0) (sym c.self.inside.path.bytes.ok.0) ∙ sym c.is_empty.ensures ∙ c.if-is_empty.false in
    let plain = ap (list_all is_name_byte) (sym c.as_bytes.ensures.value) ∙ sym c.has_name_bytes.ensures ∙ c.if-not-has_name_bytes.false in
    let is : string_bytes c.push_str.new.self ≡ text ++ c.args.ending.now = c.in_ok-push_str.ensures.bytes ∙ ap (λ t. t ++ c.args.ending.now) (c.in_ok-path.ensures.ok ∙ c.as_str.ensures.value) in
    let all = segments-text text c.args.ending.now some c.self.invariant plain in
    sibling-refused c.args.self.now (names_in text) c.args.ending.now (sym (ap (λ v. v.names) c.self.view_is)) (names_in-some text some)
    (ap (list_all (is_file_name Allowed)) (sym all ∙ ap segments (sym is) ∙ ap segments (sym c.as_str-2.ensures.value)) ∙ sym c.are_names.ensures ∙ c.if-not-are_names.true)

pub invariant_of-result : goal.invariant_of-result
invariant_of-result c =
    let text = string_bytes c.self.inside.path in
    let some : (length text == 0) ≡ false = ap (λ n. n == 0) (sym c.self.inside.path.bytes.ok.0) ∙ sym c.is_empty.ensures ∙ c.if-is_empty.false in
    let plain = ap (list_all is_name_byte) (sym c.as_bytes.ensures.value) ∙ sym c.has_name_bytes.ensures ∙ c.if-not-has_name_bytes.false in
    let is : string_bytes c.push_str.new.self ≡ text ++ c.args.ending.now = c.in_ok-push_str.ensures.bytes ∙ ap (λ t. t ++ c.args.ending.now) (c.in_ok-path.ensures.ok ∙ c.as_str.ensures.value) in
    let all = segments-text text c.args.ending.now some c.self.invariant plain in
    let names = names_in-text text c.args.ending.now some c.self.invariant plain in
    ap (list_all (is_file_name Allowed)) (ap names_in is ∙ names ∙ sym all ∙ ap segments (sym is) ∙ ap segments (sym c.as_str-2.ensures.value)) ∙ sym c.are_names.ensures ∙ c.if-not-are_names.false

pub returns : goal.returns
returns c =
    let text = string_bytes c.self.inside.path in
    let some : (length text == 0) ≡ false = ap (λ n. n == 0) (sym c.self.inside.path.bytes.ok.0) ∙ sym c.is_empty.ensures ∙ c.if-is_empty.false in
    let plain = ap (list_all is_name_byte) (sym c.as_bytes.ensures.value) ∙ sym c.has_name_bytes.ensures ∙ c.if-not-has_name_bytes.false in
    let is : string_bytes c.push_str.new.self ≡ text ++ c.args.ending.now = c.in_ok-push_str.ensures.bytes ∙ ap (λ t. t ++ c.args.ending.now) (c.in_ok-path.ensures.ok ∙ c.as_str.ensures.value) in
    let all = segments-text text c.args.ending.now some c.self.invariant plain in
    let names = names_in-text text c.args.ending.now some c.self.invariant plain in
    let good = ap (list_all (is_file_name Allowed)) (sym all ∙ ap segments (sym is) ∙ ap segments (sym c.as_str-2.ensures.value)) ∙ sym c.are_names.ensures ∙ c.if-not-are_names.false in
    sibling-found c.args.self.now (names_in text) (names_in (string_bytes c.push_str.new.self)) c.args.ending.now (sym (ap (λ v. v.names) c.self.view_is)) (names_in-some text some) good (ap names_in is ∙ names)
