-- Names of files and folders.
use Rattle.std.specs.Prelude.{ℕ, ◌==◌, ◌&&◌, ◌||◌, not, nat_le, Bool, true, false}
use Rattle.std.specs.Prelude.{List, [], ◌∷◌, length}
use Rattle.std.specs.List.{list_all}
use Rattle.web_paths.specs.declared.names.HiddenNames.{HiddenNames}
use Rattle.web_paths.specs.declared.names.HiddenNames.TheVariants.{Refused, Allowed}

abbrev pub allows_hidden : HiddenNames → Bool
allows_hidden Refused = false
allows_hidden Allowed = true

-- empty, `.` or `..`: at most two dots, and nothing else
abbrev pub is_dots : List ℕ → Bool
is_dots name = nat_le (length name) 2 && list_all (λ b. b == 46) name

abbrev pub begins_with_dot : List ℕ → Bool
begins_with_dot [] = false
begins_with_dot (b ∷ rest) = b == 46

-- neither a slash nor NUL
abbrev pub is_name_byte : ℕ → Bool
is_name_byte b = not (b == 47) && not (b == 0)

-- Neither empty nor `.` nor `..`, without a slash and NUL, and with a dot in front only where such
-- names are allowed.
abbrev pub is_file_name : HiddenNames → List ℕ → Bool
is_file_name hidden name =
    not (is_dots name) && (allows_hidden hidden || not (begins_with_dot name))
    && list_all is_name_byte name
