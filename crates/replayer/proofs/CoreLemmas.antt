-- How far a core comes that is to catch up, and what its rows judge.
use Rattle.std.proofs.Common.{◌≡◌, ℕ, zero, suc, ◌+◌, ◌-◌, ◌≤◌, List, length, Option, Some, None, refl, sym, ap}
use Rattle.std.proofs.Common.{◌∙◌, arith}
use Rattle.std.specs.Prelude.{◌==◌, slice_get}
use Rattle.std.specs.List.{count_by}
use Rattle.std.proofs.lemmas.List.Sums.{length-filter}
use Rattle.std.specs.Option.{option_map}
use Rattle.std.proofs.lemmas.Option.{same_Some}
use Rattle.std_laws.proofs.OptionLaws.{option_and_then_parts}
use Rattle.mips_isa.specs.declared.CoreState.{CoreState}
use Rattle.mips_isa.specs.Steps.{next_of}
use Rattle.access_log.specs.declared.Core.{Core}
use Rattle.access_log.specs.declared.Entry.{Entry}
use Rattle.access_log.specs.declared.Item.{Item}
use Rattle.access_log.specs.Items.{entries}
use Rattle.access_log.specs.Replay.{FlatMachine, memory_bytes, quiet, quiet_steps, caught_up, own}
use Rattle.access_log.proofs.ReplayLaws.{CaughtUp-from}
use Rattle.seq_machine.specs.declared.Reach.{Reach}
use Rattle.seq_machine.specs.declared.Reach.TheVariants.{There, AccessAt, StopAt, Passed}
use Rattle.seq_machine.specs.Reaching.{Reaches, CatchesUp}
use Rattle.seq_machine.proofs.ReachingLaws.{access_not_quiet, stop_not_quiet}
use Rattle.report_rows.specs.Ends.{EndValue}
use Rattle.report_text.specs.Counts.{at_entry}
use Rattle.report_text.proofs.CountLaws.{count_by_at_entry}
use Rattle.report_text.specs.Report.{ReportValue}
use Rattle.row_check.specs.declared.difference.Difference.{Difference}
use Rattle.row_check.specs.Judgments.{first_told}
use Rattle.replayer.specs.Cores.{farthest, core_to, core_judged}
use Rattle.replayer.proofs.RightCores.{core_of, farther, farthest-caught_up}

-- the accesses of a core are counted among all items
pub accesses_counted : (items : List Item) (core : ℕ)
    → count_by (at_entry (λ (entry : Entry). entry.core == core)) items ≡ length (own (entries items) core)
accesses_counted items core =
    count_by_at_entry (λ (entry : Entry). entry.core == core) items
    ∙ sym (length-filter (λ (entry : Entry). entry.core == core) (entries items))

-- ---- how far a core comes

farthest-farther : (code : List ℕ) (bytes steps : ℕ) (core : Core)
    → farthest code bytes (suc steps) core ≡ farther code bytes steps core (quiet (next_of code bytes core.state))
unfolding farthest
farthest-farther code bytes steps core = refl

farthest-zero : (code : List ℕ) (bytes steps : ℕ) (core : Core) → steps ≡ 0 → farthest code bytes steps core ≡ core
unfolding farthest
farthest-zero code bytes zero core is = refl
farthest-zero code bytes (suc steps) core is = absurd (omega arith)

-- a core before a stop or an access stays
farthest-blocked : (code : List ℕ) (bytes steps : ℕ) (core : Core) → quiet (next_of code bytes core.state) ≡ None
    → farthest code bytes steps core ≡ core
farthest-blocked code bytes zero core blocked = farthest-zero code bytes zero core refl
farthest-blocked code bytes (suc steps) core blocked =
    farthest-farther code bytes steps core ∙ ap (farther code bytes steps core) blocked

-- quiet instructions are executed first
farthest-quiet : (code : List ℕ) (bytes k steps rest : ℕ) (core : Core) (state : CoreState) → steps ≡ k + rest
    → quiet_steps code bytes k core.state ≡ Some state
    → farthest code bytes steps core ≡ farthest code bytes rest (core_of (core.executed + k) state)
unfolding quiet_steps
farthest-quiet code bytes zero steps rest core state is quiet_is =
    let same : steps ≡ rest = omega arith in
    let stays : core.executed ≡ core.executed + zero = omega arith in
    ap (λ n. farthest code bytes n core) same
    ∙ ap (λ s. farthest code bytes rest (core_of core.executed s)) (same_Some core.state state quiet_is)
    ∙ ap (λ n. farthest code bytes rest (core_of n state)) stays
farthest-quiet code bytes (suc k) zero rest core state is quiet_is = absurd (omega arith)
farthest-quiet code bytes (suc k) (suc steps) rest core state is quiet_is =
    let first = option_and_then_parts (quiet_steps code bytes k) (quiet (next_of code bytes core.state)) state quiet_is in
    let same : steps ≡ k + rest = omega arith in
    let more : core.executed + 1 + k ≡ core.executed + suc k = omega arith in
    farthest-farther code bytes steps core
    ∙ ap (farther code bytes steps core) first.1
    ∙ farthest-quiet code bytes k steps rest (core_of (core.executed + 1) first.0) state same first.2
    ∙ ap (λ n. farthest code bytes rest (core_of n state)) more

-- a core that has caught up to m executed instructions, of n
farthest-from : (code : List ℕ) (bytes m n : ℕ) (core new : Core) → m ≤ n → caught_up code bytes m core ≡ Some new
    → farthest code bytes (n - core.executed) core ≡ farthest code bytes (n - m) new
farthest-from code bytes m n core new few h =
    let c = CaughtUp-from code bytes m core new h in
    let before : core.executed ≤ m = c.before in
    let count : core.executed + (m - core.executed) ≡ new.executed = omega (arith, c.count) in
    farthest-quiet code bytes (m - core.executed) (n - core.executed) (n - m) core new.state (omega arith) c.steps
    ∙ ap (λ e. farthest code bytes (n - m) (core_of e new.state)) count

-- where each answer leaves the core
reached : (code : List ℕ) (bytes n : ℕ) (old : Core) (reach : Reach) (new : Core) → Reaches code bytes n old reach new
    → farthest code bytes (n - old.executed) old ≡ new
reached code bytes n old There new h = farthest-caught_up code bytes n old new h
reached code bytes n old (AccessAt m) new h =
    let few : m ≤ n = omega (arith, h.0) in
    farthest-from code bytes m n old new few h.1
    ∙ farthest-blocked code bytes (n - m) new (access_not_quiet (next_of code bytes new.state) h.2)
reached code bytes n old (StopAt m) new h =
    let few : m ≤ n = omega (arith, h.0) in
    farthest-from code bytes m n old new few h.1
    ∙ farthest-blocked code bytes (n - m) new (stop_not_quiet (next_of code bytes new.state) h.2)
reached code bytes n old (Passed m) new h =
    farthest-zero code bytes (n - old.executed) old (omega (arith, h.0, h.1)) ∙ sym h.2

-- the core that was to catch up has come as far as it can
pub caught_up_to : (machine new : FlatMachine) (index n : ℕ) (reach : Reach) (h : CatchesUp machine index n reach new) (before : Core)
    → slice_get machine.cores index ≡ Some before
    → core_to machine n before ≡ h.after
caught_up_to machine new index n reach h before was =
    let same : before ≡ h.before = same_Some before h.before (sym was ∙ h.was) in
    ap (core_to machine n) same ∙ reached machine.code (memory_bytes machine) n h.before reach h.after h.reaches

-- ---- its rows

-- what is read of a core at an index
pub stands : (cores : List Core) (index executed : ℕ) (core : Core) (state : CoreState) → slice_get cores index ≡ Some core
    → option_map (λ (c : Core). c.state) (slice_get cores index) ≡ Some state
    → option_map (λ (c : Core). c.executed) (slice_get cores index) ≡ Some executed
    → core_of executed state ≡ core
stands cores index executed core state is state_is executed_is =
    let same_state : core.state ≡ state = same_Some core.state state (sym (ap (option_map (λ (c : Core). c.state)) is) ∙ state_is) in
    let same_executed : core.executed ≡ executed =
    same_Some core.executed executed (sym (ap (option_map (λ (c : Core). c.executed)) is) ∙ executed_is) in
    rw (← same_state, ← same_executed) refl

-- what is told of its rows, in other words
pub core_rows : (line core : ℕ) (told : Option Difference) (given report : ReportValue) (items : List Item) (kept other : EndValue)
    (there core_there : Core)
    → given ≡ report → items ≡ given.items → other ≡ kept → there ≡ core_there
    → told ≡ first_told (core_judged line given.setup given.image core (own (entries items) core) other there)
    → told ≡ first_told (core_judged line report.setup report.image core (own (entries report.items) core) kept core_there)
core_rows line core told given report items kept other there core_there is items_are other_is there_is told_is =
    rw (items_are, is, other_is, there_is) at told_is
