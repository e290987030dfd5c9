use Rattle.std.proofs.Common.{inl, refl}
use Rattle.image_file.specs.Value.{image_bytes}
use Rattle.kmp_call.specs.declared.status.Status.TheVariants.{Done}
use Rattle.kmp_call.proofs.InputLaws.{meaning_ends, unloaded_ends, unloaded_tells}
use Rattle.kmp.specs.Outcome.{IsImageDue}
use Rattle.kmp.proofs.obey.obey_asm.Goals as goal

pub returns-in-Ok-clause-ends : goal.returns-in-Ok-clause-ends
returns-in-Ok-clause-ends g c =
    meaning_ends _ _ _ _ _ _ _ _ _ _ IsImageDue _ c.in-Ok.ensures.loads (inl (record {
      text = image_bytes c.in-Ok.field-0.image;
      due = Done;
      is_due = (refl, refl);
      answers = c.write.ensures.answers;
    }))

pub returns-in-Err-clause-ends : goal.returns-in-Err-clause-ends
returns-in-Err-clause-ends g c =
    unloaded_ends _ _ _ _ _ _ _ _ _ _ IsImageDue (λ refusal text due is. is) c.in-Err.fault c.in-Err.ensures.loads
    c.end_unloaded.ensures.ends

pub returns-in-Err-clause-tells : goal.returns-in-Err-clause-tells
returns-in-Err-clause-tells g c =
    rw c.end_unloaded.ensures.split
    (unloaded_tells _ _ _ _ _ _ _ _ _ _ c.in-Err.fault c.in-Err.ensures.loads c.end_unloaded.ensures.ends)
