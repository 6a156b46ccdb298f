use Rattle.std.proofs.Common.{◌≡◌, true, drop}
use Rattle.web_folders.specs.FileMediaTypes.{are_visible, media_type_in, plain_rows}
use Rattle.web_folders.proofs.media_type.media_type_in.Given as goal

abbrev pub invariant-loop-row : goal.invariant-loop-row
invariant-loop-row l =
    record {
      value : media_type_in (plain_rows (drop l.row-index l.rows)) l.extension ≡ media_type_in (plain_rows l.rows) l.extension;
      visible : are_visible (plain_rows (drop l.row-index l.rows)) ≡ true;
    }
