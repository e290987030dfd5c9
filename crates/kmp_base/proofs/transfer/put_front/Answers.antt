use Rattle.std.proofs.Common.{◌∙◌, length, take, drop, sym, ap, arith, length-drop, take-add}
use Rattle.std.proofs.lemmas.List.{take_rest}
use Rattle.std.specs.Io.KnownBytes.{append_known}
use Rattle.std_laws.proofs.OptionLaws.{append_known-append}
use Rattle.kmp_base.proofs.transfer.put_front.Goals as goal

pub loop-count-preserved : goal.loop-count-preserved
loop-count-preserved g c =
    let bytes = c.args.bytes.now in
    let count = c.loop-count.count in
    let more = c.in-Took.more in record {
      within = omega (arith, rw take_rest at c.in-Took.ensures.bound, length-drop count bytes);
      appended = (rw take_rest at c.in-Took.ensures.appended)
          ∙ ap (λ known. append_known known (take more (drop count bytes))) c.loop-count.invariant.appended
          ∙ append_known-append (g.K.Sink.held c.args.sink.now) (take count bytes) (take more (drop count bytes))
          ∙ ap (append_known (g.K.Sink.held c.args.sink.now)) (sym (take-add count more bytes));
      no_fault = c.in-Took.ensures.no_fault ∙ c.loop-count.invariant.no_fault;
      no_call = λ empty. absurd (omega (arith, ap length empty));
    }
