use Rattle.std.specs.List.{list_all}
use Rattle.web_paths.specs.FileNames.{is_file_name}
use Rattle.web_paths.specs.declared.names.HiddenNames.TheVariants.{Allowed}
use Rattle.std.proofs.Common.{◌∙◌, ap, sym, string_bytes}
use Rattle.web_paths.specs.PathsBelow.{joined}
use Rattle.web_paths.proofs.PathLemmas.{joined-names_in}
use Rattle.web_paths.proofs.below.Below.as_str.Goals as goal

pub returns-clause-text : goal.returns-clause-text
returns-clause-text c =
    c.as_str.ensures.value ∙ sym (joined-names_in (string_bytes c.self.inside.path)) ∙ ap (λ v. joined v.names) c.self.view_is

pub returns-clause-names : goal.returns-clause-names
returns-clause-names c = ap (λ v. list_all (is_file_name Allowed) v.names) (sym c.self.view_is) ∙ c.self.invariant
