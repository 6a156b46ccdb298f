use Rattle.std.proofs.Common.{◌≡◌, map, true}
use Rattle.std.specs.List.{list_all}
use Rattle.percent_encoding.specs.Percent.{percent_decode}
use Rattle.web_paths.specs.FileNames.{is_file_name}
use Rattle.web_paths.specs.PathsBelow.{joined}
use Rattle.web_paths.proofs.below.joined_names.Given as goal

abbrev pub invariant-loop-segment : goal.invariant-loop-segment
invariant-loop-segment l =
    let so_far = map (λ x. percent_decode x.now) l.yielded in
    record {
      names : list_all (is_file_name l.hidden) so_far ≡ true;
      text : l.names.items ≡ joined so_far;
    }
