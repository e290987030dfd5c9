use Rattle.std.proofs.Common.{rules, ◌≡◌, Ok, arith}
use Rattle.image_file.specs.Reading.{image_in}
use Rattle.image_file.proofs.ReadingLaws.{good_image}
use Rattle.image_file.proofs.read.image_in.Goals as goal

pub invariant_of-result : goal.invariant_of-result
unfolding image_in
invariant_of-result c =
    let read : image_in c.args.bytes.now
    ≡ Ok (record {
      memory_lines = c.in_ok-memory_lines.memory_lines;
      code = c.in_ok-code.code.items;
      segments = c.in_ok-segments.segments.items;
    }) = search rules in
    good_image c.args.bytes.now _ (λ i. (c.type_inv.bytes i).fits) (omega (arith, c.requires.size)) read
