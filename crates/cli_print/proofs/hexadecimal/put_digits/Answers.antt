use Rattle.std.proofs.Common.{◌++◌, append_assoc, ap, take, drop, ◌∙◌}
use Rattle.hex.specs.Hex.{encode_lower}
use Rattle.cli_print.proofs.HexadecimalLemmas.{encode_cut}
use Rattle.cli_print.proofs.hexadecimal.put_digits.Goals as goal

pub chunks-preserved : goal.chunks-preserved
chunks-preserved c =
    let rest = c.chunks.rest.now in
    rw (c.in_ok-put_block.ensures, c.split_at.ensures.front, c.split_at.ensures.back)
    (append_assoc c.chunks.out.items (encode_lower (take 64 rest)) (encode_lower (drop 64 rest))
    ∙ ap (λ l. c.chunks.out.items ++ l) (encode_cut 64 rest) ∙ c.chunks.invariant)
