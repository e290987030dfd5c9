use Rattle.std.proofs.Common.{◌≡◌, ap, inl, inr}
use Rattle.std.specs.Prelude.{Ok}
use Rattle.kmp_words.specs.Loaded.{image_in}
use Rattle.workload_image.proofs.ProgramLaws.{source_meant}
use Rattle.kmp.specs.Outcome.{trial_meaning}
use Rattle.kmp.proofs.trial.obey_trial.Goals as goal

pub returns-in-Ok-loaded_from : goal.returns-in-Ok-loaded_from
returns-in-Ok-loaded_from g c =
    let loaded = c.in-Ok-loaded_from.field-0 in
    let meaning = rw (c.deref.ensures.value, c.in-Ok.ensures.text) at c.in-Ok-loaded_from.ensures.meaning in
    let means : trial_meaning c.args.setup.now c.args.size ≡ Ok loaded.image = ap image_in meaning in
    record {
      written = elim c.run_trial.ensures.written [
        | inl finishes ↦
            inl (record {
              text = finishes.text;
              due = finishes.due;
              is_due = (loaded.image, means, finishes.is_due);
              answers = finishes.answers;
            })
        | inr out ↦ inr out
      ];
    }

pub unreachable-requires : goal.unreachable-requires
unreachable-requires g c =
    let meaning = rw (c.in-Err-Refused.field-0-is, c.deref.ensures.value, c.in-Ok.ensures.text) at c.in-Err-Refused.ensures.meaning in
    let program = source_meant c.args.setup.now.seed c.args.size c.requires.size in
    absurd cc
