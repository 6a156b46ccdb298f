use Rattle.std.proofs.Common.{◌∙◌, refl, sym, arith}
use Rattle.web_multipart_parts.proofs.PlaceLemmas.{none_searched}
use Rattle.web_multipart_parts.proofs.FirstByteLemmas.{goes_past, next_within, none_left, stands_here}
use Rattle.web_multipart_parts.proofs.places.place_among_few.Goals as goal

pub loop-skipped-init : goal.loop-skipped-init
loop-skipped-init c =
    let s = c.requires.searched in
    record { within = s.within; none = none_searched c.args.text.now c.args.bytes.now c.args.searched s }

pub returns-then-starts_with-clause-place : goal.returns-then-starts_with-clause-place
returns-then-starts_with-clause-place c =
    let v = c.loop-skipped.invariant in
    stands_here c.args.text.now c.args.bytes.now c.requires.some c.loop-skipped.from v.within v.none c.in-Some.skipped c.in-Some.ensures (sym c.starts_with.ensures.value ∙ c.if-starts_with.true) (c.if-starts_with.ensures.bound refl)

pub loop-skipped-preserved : goal.loop-skipped-preserved
loop-skipped-preserved c =
    let v = c.loop-skipped.invariant in
    let fits = next_within c.args.text.now c.args.bytes.now c.requires.some c.loop-skipped.from v.within v.none c.in-Some.skipped c.in-Some.ensures in
    record {
      within = omega (arith, fits);
      none = goes_past c.args.text.now c.args.bytes.now c.requires.some c.loop-skipped.from v.within v.none c.in-Some.skipped c.in-Some.ensures (sym c.starts_with.ensures.value ∙ c.if-starts_with.false);
    }

pub returns-clause-place : goal.returns-clause-place
returns-clause-place c =
    let v = c.loop-skipped.invariant in
    none_left c.args.text.now c.args.bytes.now c.requires.some c.loop-skipped.from v.within v.none c.in_default.ensures
