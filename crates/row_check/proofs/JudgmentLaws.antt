-- No difference is told exactly where all judgments agree, and then what is kept is what is due.
use Rattle.std.proofs.Common.{◌≡◌, ℕ, Bool, true, false, cond, List, [], ◌∷◌, refl, sym, ap, ◌∙◌}
use Rattle.std.specs.Prelude.{Option, Some, None}
use Rattle.std.specs.List.{AllByRecursion}
use Rattle.std.proofs.lemmas.Bool.{eqb-true, eq-eqb}
use Rattle.std.proofs.lemmas.Option.{none-some}
use Rattle.mips_isa.specs.declared.Stop.{Stop}
use Rattle.mips_isa.specs.declared.Stop.TheVariants.{OffCode, Halt, Misaligned, Outside, CodeWrite}
use Rattle.row_check.specs.Judgments.{Judgment, told, first_told, is_same_optional, is_same_stop}

abbrev pub Agrees : Judgment → Type 0
Agrees judgment = judgment.same ≡ true

abbrev pub Agree : List Judgment → Type 0
Agree judgments = AllByRecursion Agrees judgments

none_step : (judgment : Judgment) (more : List Judgment) (same : Bool) → cond same (first_told more) (Some (told judgment)) ≡ None
    → (same ≡ true) × (first_told more ≡ None)
none_step judgment more true none = (refl, none)
none_step judgment more false none = absurd (none-some (told judgment) (sym none))

pub agree : (judgments : List Judgment) → first_told judgments ≡ None → Agree judgments
agree [] none = tt
agree (judgment ∷ more) none =
    let step = none_step judgment more judgment.same none in
    (step.0, agree more step.1)

pub none_differs : (judgments : List Judgment) → Agree judgments → first_told judgments ≡ None
none_differs [] all = refl
none_differs (judgment ∷ more) all = ap (λ same. cond same (first_told more) (Some (told judgment))) all.0 ∙ none_differs more all.1

-- ---- numbers that may be left out

pub optional_is : (a b : Option ℕ) → is_same_optional a b ≡ true → a ≡ b
optional_is None None same = refl
optional_is (Some a) (Some b) same = ap (λ n. Some n) (eqb-true a b same)
optional_is None (Some b) same = cc
optional_is (Some a) None same = cc

pub optional_same : (a b : Option ℕ) → a ≡ b → is_same_optional a b ≡ true
optional_same None None is = refl
optional_same (Some a) (Some b) is = eq-eqb a b cc
optional_same None (Some b) is = cc
optional_same (Some a) None is = cc

-- ---- stops

pub stop_is : (a b : Stop) → is_same_stop a b ≡ true → a ≡ b
stop_is OffCode OffCode same = refl
stop_is Halt Halt same = refl
stop_is Misaligned Misaligned same = refl
stop_is Outside Outside same = refl
stop_is CodeWrite CodeWrite same = refl
stop_is a b same = cc

pub stop_same : (stop : Stop) → is_same_stop stop stop ≡ true
stop_same OffCode = refl
stop_same Halt = refl
stop_same Misaligned = refl
stop_same Outside = refl
stop_same CodeWrite = refl
