use Rattle.std.proofs.Common.{rules, ◌≡◌, string_bytes, sym, ◌∙◌, arith, get_or, lit<}
use Rattle.std.proofs.lemmas.Bool.Decides.{nat_tests}
use Rattle.web_texts.proofs.EscapeLemmas.{last_part, next_part, next_backslash}
use Rattle.web_texts.proofs.grammar.quoted_text.unescape.Goals as goal

pub returns-in-None : goal.returns-in-None
returns-in-None c =
    c.from.ensures ∙ last_part _ _ c.args.text.now c.parts.rest.now c.parts.invariant.so_far c.in-None.ensures c.in_ok-push_str-in-None.ensures.bytes

pub parts-preserved-then-starts_with : goal.parts-preserved-then-starts_with
parts-preserved-then-starts_with c =
    let test = c.if-starts_with.ensures.byte (lit< tt) (lit< tt) (λ w o h. h) in
    let this : get_or c.in-Some.after.now 0 0 ≡ 92 = grind (arith, nat_tests, test) in
    record {
      so_far = rw (c.in_ok-push-in-Some.ensures.bytes, c.in_ok-push-in-Some.ensures.ascii (lit< tt), c.range_from-rest.ensures.value)
          (next_backslash (string_bytes c.parts.made) (string_bytes c.push_str-in-Some.new.self) c.args.text.now c.parts.rest.now c.in-Some.before.now c.in-Some.after.now
          c.parts.invariant.so_far c.in-Some.ensures c.in_ok-push_str-in-Some.ensures.bytes this);
      text = search rules;
    }

pub parts-preserved : goal.parts-preserved
parts-preserved c =
    let test = c.if-starts_with.ensures.byte (lit< tt) (lit< tt) (λ w o h. h) in
    record {
      so_far = next_part (string_bytes c.parts.made) (string_bytes c.push_str-in-Some.new.self) c.args.text.now c.parts.rest.now c.in-Some.before.now c.in-Some.after.now
          c.parts.invariant.so_far c.in-Some.ensures c.in_ok-push_str-in-Some.ensures.bytes (sym test);
      text = search rules;
    }
