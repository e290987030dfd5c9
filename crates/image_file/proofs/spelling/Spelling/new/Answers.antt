use Rattle.std.proofs.Common.{◌≡◌, Ok, subst, arith}
use Rattle.image_file.specs.Value.{ImageValue, image_bytes}
use Rattle.image_file.specs.Reading.{image_meaning}
use Rattle.image_file.proofs.SpellingLaws.{length-image_bytes}
use Rattle.image_file.proofs.RoundTripLaws.{spelling_is_read}
use Rattle.image_file.proofs.spelling.Spelling.new.Goals as goal

pub invariant_of-result : goal.invariant_of-result
invariant_of-result c =
    let image : ImageValue = record
    { memory_lines = c.image.inside.memory_lines; code = c.image.inside.code.items; segments = c.image.inside.segments.items } in
    rw (c.deref.ensures.value, c.deref-2.ensures.value) (omega arith, omega (arith, c.image.invariant.few_bytes, length-image_bytes image))

pub returns-clause-read : goal.returns-clause-read
returns-clause-read c =
    let P : ImageValue → Type 0 = λ image. image_meaning (image_bytes image) ≡ Ok image in
    subst P c.image.view_is (spelling_is_read _ c.image.invariant)
