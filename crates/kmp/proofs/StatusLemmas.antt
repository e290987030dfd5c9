-- Which statuses what is due for an order has: those that tell what became of its input.
use Rattle.std.proofs.Common.{◌≡◌, ℕ, Bool, true, false, List, inl, inr, ap}
use Rattle.std.specs.Prelude.{Result, Ok, Err, if◌then◌else◌}
use Rattle.kmp_base.specs.declared.setup.Setup.{Setup}
use Rattle.image_file.specs.Value.{ImageValue}
use Rattle.report_text.specs.Report.{ReportValue}
use Rattle.kmp_words.specs.Input.{meaning_of}
use Rattle.kmp_words.specs.Loaded.{image_in}
use Rattle.kmp_words.specs.declared.input.Input.TheVariants as inputs
use Rattle.kmp_words.specs.declared.input.Refusal.{Refusal}
use Rattle.kmp_words.specs.declared.order.Order.{Order}
use Rattle.kmp_words.specs.declared.order.Order.TheVariants as orders
use Rattle.kmp_call.specs.Status.{code_of, IsOfInput}
use Rattle.kmp_call.specs.declared.status.Status.{Status}
use Rattle.kmp_call.specs.declared.status.Status.TheVariants as statuses
use Rattle.kmp_call.proofs.CallLaws.{run_is_of_input}
use Rattle.kmp.specs.Outcome.{IsImageDue, IsCheckDue, IsVerdictDue, IsTrialDue, IsDue}

image_is_of_input : (meaning : Result ImageValue Refusal) (text : List ℕ) (due : Status) → IsImageDue meaning text due → IsOfInput due
image_is_of_input (Ok image) text due is = inl (ap code_of is.1)
image_is_of_input (Err refusal) text due is = inr (inr (inl (ap code_of is.1)))

verdict_is_of_input : (report : ReportValue) (text : List ℕ) (due : Status) → IsVerdictDue report text due → IsOfInput due
verdict_is_of_input report text due (inl (right, written, is)) = inl (ap code_of is)
verdict_is_of_input report text due (inr (wrong, difference, first, written, is)) = inr (inr (inr (ap code_of is)))

check_is_of_input : (bytes text : List ℕ) (due : Status) → IsCheckDue bytes text due → IsOfInput due
check_is_of_input bytes text due (inl (report, form, spelled, within, verdict)) = verdict_is_of_input report text due verdict
check_is_of_input bytes text due (inr (inl (line, bad, within, written, is))) = inr (inr (inl (ap code_of is)))
check_is_of_input bytes text due (inr (inr (long, written, is))) = inr (inr (inl (ap code_of is)))

trial_is_of_input : (setup : Setup) (size : ℕ) (text : List ℕ) (due : Status) → IsTrialDue setup size text due → IsOfInput due
trial_is_of_input setup size text due (image, means, (report, is_of, written, is)) = by_halts _ is
  where
    by_halts : (halts : Bool) → due ≡ (if halts then statuses.Done else statuses.OtherEnd) → IsOfInput due
    by_halts true is = inl (ap code_of is)
    by_halts false is = inr (inl (ap code_of is))

-- what is due for an order has a status of its input
pub is_of_input : (order : Order) (bytes text : List ℕ) (due : Status) → IsDue order bytes text due → IsOfInput due
is_of_input (orders.Run setup input) bytes text due is = run_is_of_input setup (image_in (meaning_of input bytes)) text due is
is_of_input (orders.Asm memory_lines) bytes text due is =
    image_is_of_input (image_in (meaning_of (inputs.Source memory_lines) bytes)) text due is
is_of_input orders.Replay bytes text due is = check_is_of_input bytes text due is
is_of_input (orders.Trial setup size) bytes text due is = trial_is_of_input setup size text due is
