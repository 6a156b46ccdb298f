use Rattle.std.proofs.Common.{◌∙◌, ap, sym, string_bytes}
use Rattle.std.specs.Str.{is_utf8}
use Rattle.web_paths.proofs.PathLemmas.{below-found, names_in-Allowed}
use Rattle.web_paths.proofs.below.Below.of_path.Goals as goal

pub invariant_of-result : goal.invariant_of-result
invariant_of-result c =
    let names = rw c.in-Some.is at c.in_ok-names.ensures in
    let text = c.in-Some-text_of.ensures in
    names_in-Allowed c.args.hidden c.args.path.now _ (string_bytes c.in-Some-text_of.text) c.without_last_slash.ensures names.0 (text.1 ∙ names.1)

pub returns : goal.returns
returns c =
    let names = rw c.in-Some.is at c.in_ok-names.ensures in
    let text = c.in-Some-text_of.ensures in
    let found = below-found c.args.hidden c.args.path.now _ (string_bytes c.in-Some-text_of.text) (sym c.begins_with_slash.ensures ∙ c.if-not-begins_with_slash.false) c.without_last_slash.ensures names.0 (text.1 ∙ names.1) (ap is_utf8 text.1 ∙ text.0) in
    rw c.ends_in_slash.ensures found
