use Rattle.kmp_call.specs.Outcome.{IsRunDue}
use Rattle.kmp_call.proofs.InputLaws.{meaning_ends, unloaded_ends, unloaded_tells}
use Rattle.kmp.proofs.obey.obey_run.Goals as goal

pub returns-in-Ok-clause-ends : goal.returns-in-Ok-clause-ends
returns-in-Ok-clause-ends g c =
    meaning_ends _ _ _ _ _ _ _ _ _ _ (IsRunDue c.args.setup.now) _ c.in-Ok.ensures.loads c.run.ensures.written

pub returns-in-Err-clause-ends : goal.returns-in-Err-clause-ends
returns-in-Err-clause-ends g c =
    unloaded_ends _ _ _ _ _ _ _ _ _ _ (IsRunDue c.args.setup.now) (λ refusal text due is. is) c.in-Err.fault c.in-Err.ensures.loads
    c.end_unloaded.ensures.ends

pub returns-in-Err-clause-tells : goal.returns-in-Err-clause-tells
returns-in-Err-clause-tells g c =
    rw c.end_unloaded.ensures.split
    (unloaded_tells _ _ _ _ _ _ _ _ _ _ c.in-Err.fault c.in-Err.ensures.loads c.end_unloaded.ensures.ends)
