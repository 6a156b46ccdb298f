use Rattle.std.proofs.Common.{◌≡◌, map, true}
use Rattle.std.specs.List.{list_all}
use Rattle.web_paths.specs.FileNames.{is_file_name}
use Rattle.web_paths.specs.declared.names.HiddenNames.TheVariants.{Allowed}
use Rattle.web_paths.proofs.below.are_names.Given as goal

abbrev pub invariant-loop-name : goal.invariant-loop-name
invariant-loop-name l = list_all (is_file_name Allowed) (map (λ x. x.now) l.yielded) ≡ true
