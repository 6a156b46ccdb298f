use Rattle.web_paths.specs.FileNames.{is_file_name}
use Rattle.web_paths.specs.declared.names.HiddenNames.TheVariants.{Allowed}
use Rattle.std.proofs.Common.{◌∙◌, ◌==◌, ap, sym, length, string_bytes, append-nil}
use Rattle.std.specs.List.{flat_map, list_all}
use Rattle.web_paths.specs.PathsBelow.{slashed}
use Rattle.web_paths.proofs.PathLemmas.{slashed-empty, slashed-text}
use Rattle.web_paths.proofs.below.Below.in_folder.Goals as goal
use Rattle.web_paths.proofs.below.Below.in_folder.Goals.{then-not-is_empty+in_ok-push_slashed, else-not-is_empty}

pub returns-clause-path : goal.returns-clause-path
returns-clause-path c =
    let root = c.args.root.now in
    let text = string_bytes c.self.inside.path in
    let names = c.as_str-below.ensures.value in
    let view = ap (λ v. flat_map slashed v.names) c.self.view_is in
    let empty = c.is_empty.ensures ∙ ap (λ t. length t == 0) names in
    let start = c.in_ok-path.ensures.ok in
    elim c.if-not-is_empty.branch [
      | then-not-is_empty+in_ok-push_slashed w ↦
          let some = slashed-text text (sym empty ∙ w.if-not-is_empty.true) in
          cc (some, view, names, start, w.in_ok-push_slashed.ensures, w.path-is)
      | else-not-is_empty w ↦
          let none = slashed-empty text (sym empty ∙ w.if-not-is_empty.false) in
          cc (none, view, start, append-nil root, w.path-is)
    ]

pub returns-clause-names : goal.returns-clause-names
returns-clause-names c = ap (λ v. list_all (is_file_name Allowed) v.names) (sym c.self.view_is) ∙ c.self.invariant
