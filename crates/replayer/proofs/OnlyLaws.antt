-- A report has one first difference.
use Rattle.std.proofs.Common.{◌≡◌, inl, inr, sym, ap, ◌∙◌}
use Rattle.std.proofs.lemmas.Option.{same_Some}
use Rattle.access_log.specs.Replay.{FlatMachine}
use Rattle.history_check.proofs.OnlyLaws.{one_history, difference_isnt_right}
use Rattle.report_text.specs.Report.{ReportValue}
use Rattle.row_check.specs.declared.difference.Difference.{Difference}
use Rattle.row_check.specs.Judgments.{first_told}
use Rattle.replayer.specs.Difference.{OutcomeDiffers, IsDifference}
use Rattle.replayer.specs.Outcome.{outcome_judged}

one_outcome : (report : ReportValue) {a b : Difference} → OutcomeDiffers report a → OutcomeDiffers report b → a ≡ b
one_outcome report {a} {b} h k =
    let machine : k.machine ≡ h.machine = same_Some k.machine h.machine (sym k.right.made ∙ h.right.made) in
    same_Some a b (sym h.first ∙ ap (λ (m : FlatMachine). first_told (outcome_judged report m)) (sym machine) ∙ k.first)

pub one_difference : (report : ReportValue) (a b : Difference) → IsDifference report a → IsDifference report b → a ≡ b
one_difference report a b (inl h) (inl k) = one_history h k
one_difference report a b (inl h) (inr k) = absurd (difference_isnt_right h k.right)
one_difference report a b (inr h) (inl k) = absurd (difference_isnt_right k h.right)
one_difference report a b (inr h) (inr k) = one_outcome report h k
