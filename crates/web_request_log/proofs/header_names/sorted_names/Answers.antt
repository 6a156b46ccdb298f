use Rattle.std.proofs.Common.{rules, ◌≡◌, ap, ◌∙◌, map}
use Rattle.std.proofs.lemmas.List.{append-nil}
use Rattle.std.proofs.lemmas.List.Sorted.{answers_always, ranks_by}
use Rattle.std.proofs.lemmas.Cmp.{nat_list_cmp_total}
use Rattle.web_request_log.specs.SortedNames.{sorted_names, before}
use Rattle.http_header.specs.HeaderMap.{keys}
use Rattle.web_request_log.proofs.SortedNamesLemmas.{sorted_is}
use Rattle.web_request_log.proofs.header_names.sorted_names.Goals as goal

pub returns : goal.returns
returns c =
    let all : map (λ n. n.now) c.loop-name.names.items ≡ keys c.args.headers.now = rw (c.in-None.ensures.steps.0, append-nil) at c.loop-name.invariant in
    sorted_is (λ n. n.now) c.loop-name.names.items c.sort_unstable_by.new.self.items c.sort_unstable_by.ensures.permutation
    (c.sort_unstable_by.ensures.sorted (λ x y. before x.now y.now) (ranks_by nat_list_cmp_total (λ n. n.now)) (answers_always _ _ _ (λ f a r g h. search rules)))
    ∙ ap sorted_names all
