use Rattle.image_file.proofs.ReadingLaws.{only_spelling, fault_within}
use Rattle.image_file.proofs.read.read_image.Goals as goal

pub returns-in-Ok-clause-spelled : goal.returns-in-Ok-clause-spelled
returns-in-Ok-clause-spelled c = only_spelling c.args.bytes.now c.in-Ok.image (λ i. (c.type_inv.bytes i).fits) c.in-Ok.ensures.value

pub overflow_sub-result : goal.overflow_sub-result
overflow_sub-result c = fault_within c.args.bytes.now c.in-Err-Cause.cause c.in-Err-Cause.left (λ i. (c.type_inv.bytes i).fits)
    (rw c.in-Err-Cause.field-0-is at c.in-Err-Cause.ensures.value)
