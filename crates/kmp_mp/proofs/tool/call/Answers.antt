use Rattle.std.proofs.Common.{refl}
use Rattle.kmp_call.proofs.CallLaws.{obeyed_call, refused_call}
use Rattle.kmp_mp.proofs.StatusLemmas.{is_of_input}
use Rattle.kmp_mp.proofs.tool.call.Goals as goal

pub returns-in-Ok : goal.returns-in-Ok
returns-in-Ok g c = record {
  obeys = rw (← c.in-Ok.ensures.meaning)
      (obeyed_call _ _ _ _ _ _ _ _ _ _ c.in-Ok.order (is_of_input c.in-Ok.order) c.obey.ensures.ends);
}

pub returns-in-Err : goal.returns-in-Err
returns-in-Err g c = record {
  obeys = rw (← c.in-Err.ensures.meaning)
      (refused_call _ _ _ _ _ _ _ _ _ _ c.in-Err.fault refl c.refuse_words.ensures.answers);
}
