-- Each core of the machine has 32 registers, and the machine keeps its code, its cores and the size of its memory.
use Rattle.std.proofs.Common.{◌≡◌, ℕ, zero, suc, ◌-◌, ◌+◌, Bool, true, false, cond, List, [], ◌∷◌, length, refl, sym, ap, ◌∙◌}
use Rattle.std.specs.Prelude.{◌==◌, Option, Some, None, map, slice_get, slice_set}
use Rattle.std.specs.List.{AllByRecursion, range_with_len}
use Rattle.std.proofs.lemmas.List.{length-set, length-map}
use Rattle.std.proofs.lemmas.Option.{none-some, same_Some}
use Rattle.std_laws.proofs.ListLaws.{AllByRecursion-slice_get, AllByRecursion-set}
use Rattle.std_laws.proofs.OptionLaws.{option_and_then_parts, cond_some_parts}
use Rattle.mips_isa.specs.declared.CoreState.{CoreState}
use Rattle.mips_isa.specs.declared.Instr.{Instr}
use Rattle.mips_isa.specs.declared.Kind.{Kind}
use Rattle.mips_isa.specs.declared.Stop.{Stop}
use Rattle.mips_isa.specs.declared.Next.{Next}
use Rattle.mips_isa.specs.declared.Next.TheVariants.{Stops, Asks, Goes}
use Rattle.mips_isa.specs.Effects.{kind_of}
use Rattle.mips_isa.specs.Steps.{written_to, executed, answered, instr_at, stop_of, next_by, next_at, next_of, finish_by, kind_at}
use Rattle.mips_isa.specs.Steps.{finish_of}
use Rattle.image_file.specs.Value.{ImageValue, start_state, start_states}
use Rattle.image_file.proofs.StartLaws.{length-start_states, registers-start_state}
use Rattle.access_log.specs.declared.Core.{Core}
use Rattle.access_log.specs.declared.Entry.{Entry}
use Rattle.access_log.specs.Memory.{due, is_same}
use Rattle.access_log.specs.Replay.{FlatMachine, memory_bytes, quiet, next_in, caught_up, caught_up_in, caught_up_for, finished, entered_by}
use Rattle.access_log.specs.Replay.{entered, entered_all, starting, started}
use Rattle.seq_machine.proofs.EnteringLaws.{as_large-entered}
use Rattle.replayer.specs.Cores.{farthest}
use Rattle.replayer.proofs.RightCores.{core_of, farther, farthest-caught_up}

-- ---- instructions

length-written_to : (regs : List ℕ) (r value : ℕ) → length (written_to regs r value) ≡ length regs
length-written_to regs r value = by_test (r == 0)
  where
    by_test : (none : Bool) → length (cond none regs (slice_set regs r value)) ≡ length regs
    by_test true = refl
    by_test false = length-set regs r value

abbrev KeepsCount : CoreState → CoreState → Type 0
KeepsCount old new = length new.regs ≡ length old.regs

executed-count : (instr : Instr) (state : CoreState) → KeepsCount state (executed instr state)
unfolding executed
executed-count instr state = length-written_to state.regs _ _

answered-count : (instr : Instr) (kind : Kind) (old : ℕ) (state : CoreState) → KeepsCount state (answered instr kind old state)
unfolding answered
answered-count instr kind old state = length-written_to state.regs _ _

by_kind : (state new : CoreState) (instr : Instr) (kind : Option Kind) → next_by state instr kind ≡ Goes new → KeepsCount state new
by_kind state new instr None goes =
    let is : executed instr state ≡ new = cc in
    ap (λ (s : CoreState). length s.regs) (sym is) ∙ executed-count instr state
by_kind state new instr (Some kind) goes = cc

by_stop : (state new : CoreState) (stop : Option Stop) (instr : Option Instr) → next_at state stop instr ≡ Goes new → KeepsCount state new
by_stop state new (Some stop) instr goes = cc
by_stop state new None None goes = cc
by_stop state new None (Some instr) goes = by_kind state new instr (kind_of instr) goes

quiet-goes : (next : Next) (state : CoreState) → quiet next ≡ Some state → next ≡ Goes state
quiet-goes (Goes there) state is = cc
quiet-goes (Asks access) state is = absurd (none-some state is)
quiet-goes (Stops stop) state is = absurd (none-some state is)

quiet-count : (code : List ℕ) (bytes : ℕ) (state new : CoreState) → quiet (next_of code bytes state) ≡ Some new → KeepsCount state new
unfolding next_of
quiet-count code bytes state new is =
    by_stop state new (stop_of code bytes state) (instr_at code state.dpc) (quiet-goes (next_of code bytes state) new is)

finish-count : (code : List ℕ) (state : CoreState) (old : ℕ) → KeepsCount state (finish_of code state old)
unfolding finish_of
finish-count code state old = by_instr (instr_at code state.dpc) (kind_at (instr_at code state.dpc))
  where
    by_instr : (instr : Option Instr) (kind : Option Kind) → KeepsCount state (finish_by state old instr kind)
    by_instr (Some instr) (Some kind) = answered-count instr kind old state
    by_instr (Some instr) None = refl
    by_instr None kind = refl

-- ---- cores

abbrev pub HasRegisters : Core → Type 0
HasRegisters core = length core.state.regs ≡ 32

pub farthest-registers : (code : List ℕ) (bytes steps : ℕ) (core : Core) → HasRegisters core → HasRegisters (farthest code bytes steps core)
unfolding farthest
farthest-registers code bytes zero core has = has
farthest-registers code bytes (suc steps) core has =
    by_next (λ state. farthest-registers code bytes steps (core_of (core.executed + 1) state)) (quiet (next_of code bytes core.state)) refl
  where
    by_next : ((state : CoreState) → length state.regs ≡ 32 → HasRegisters (farthest code bytes steps (core_of (core.executed + 1) state)))
        → (next : Option CoreState) → quiet (next_of code bytes core.state) ≡ next → HasRegisters (farther code bytes steps core next)
    by_next others (Some state) is = others state (quiet-count code bytes core.state state is ∙ has)
    by_next others None is = has

caught_up-registers : (code : List ℕ) (bytes n : ℕ) (core final : Core) → caught_up code bytes n core ≡ Some final → HasRegisters core
    → HasRegisters final
caught_up-registers code bytes n core final caught has =
    rw (← farthest-caught_up code bytes n core final caught) (farthest-registers code bytes (n - core.executed) core has)

-- ---- the machine

all_start : (image : ImageValue) (cores first n : ℕ)
    → AllByRecursion HasRegisters (map starting (map (λ core. start_state image core cores) (range_with_len first n)))
all_start image cores first zero = tt
all_start image cores first (suc n) = (registers-start_state image cores first, all_start image cores (first + 1) n)

-- A machine of this code, with so many cores, and so many words of memory.
pub record IsMachine (code : List ℕ) (cores words : ℕ) (machine : FlatMachine) : Type 0 where
  pub code_is : machine.code ≡ code
  pub registers : AllByRecursion HasRegisters machine.cores
  pub cores_are : length machine.cores ≡ cores
  pub words_are : length machine.memory ≡ words

is_started : (image : ImageValue) (memory : List ℕ) (cores : ℕ)
    → IsMachine image.code cores (length memory) (started image.code memory (start_states image cores))
unfolding started
is_started image memory cores = record {
  code_is = refl;
  registers = all_start image cores 0 cores;
  cores_are = length-map (start_states image cores) starting ∙ length-start_states image cores;
  words_are = refl;
}

-- what an entry leaves of code and registers
abbrev Leaves : FlatMachine → FlatMachine → Type 0
Leaves old new = (new.code ≡ old.code) × AllByRecursion HasRegisters new.cores

by_leaves : (machine : FlatMachine) (entry : Entry) (core : Core) (next : Next) (new : FlatMachine)
    → entered_by machine entry core next ≡ Some new
    → AllByRecursion HasRegisters machine.cores → HasRegisters core → Leaves machine new
by_leaves machine entry core (Stops stop) new made all has = absurd (none-some new made)
by_leaves machine entry core (Goes state) new made all has = absurd (none-some new made)
by_leaves machine entry core (Asks access) new made all has =
    let parts = cond_some_parts (is_same entry (due machine.memory entry.core core.executed access)) _ new made in
    rw (← same_Some _ new parts.1) (
      refl,
      AllByRecursion-set HasRegisters machine.cores entry.core (finished machine.code entry.old core) all
          (finish-count machine.code core.state entry.old ∙ has),
    )

entered-leaves : (entry : Entry) (machine new : FlatMachine) → entered entry machine ≡ Some new → AllByRecursion HasRegisters machine.cores
    → Leaves machine new
unfolding entered
entered-leaves entry machine new made all =
    let by = option_and_then_parts (λ (core : Core). entered_by machine entry core (next_in machine core)) (caught_up_for machine entry) new
    made
    in
    let from = option_and_then_parts (caught_up_in machine entry.nth) (slice_get machine.cores entry.core) by.0 by.1 in
    by_leaves machine entry by.0 (next_in machine by.0) new by.2 all
    (caught_up-registers machine.code (memory_bytes machine) entry.nth from.0 by.0 from.2
    (AllByRecursion-slice_get HasRegisters machine.cores entry.core from.0 all from.1))

is_entered : (code : List ℕ) (cores words : ℕ) (order : List Entry) (machine new : FlatMachine) → entered_all order machine ≡ Some new
    → IsMachine code cores words machine → IsMachine code cores words new
unfolding entered_all
is_entered code cores words [] machine new made is = rw (← same_Some machine new made) is
is_entered code cores words (entry ∷ order) machine new made is =
    let first = option_and_then_parts (entered_all order) (entered entry machine) new made in
    let leaves = entered-leaves entry machine first.0 first.1 is.registers in
    let large = as_large-entered machine entry first.0 first.1 in
    is_entered code cores words order first.0 new first.2 (record {
      code_is = leaves.0 ∙ is.code_is;
      registers = leaves.1;
      cores_are = large.cores ∙ is.cores_are;
      words_are = large.memory ∙ is.words_are;
    })

pub is_machine : (image : ImageValue) (memory : List ℕ) (cores : ℕ) (order : List Entry) (machine : FlatMachine)
    → entered_all order (started image.code memory (start_states image cores)) ≡ Some machine
    → IsMachine image.code cores (length memory) machine
is_machine image memory cores order machine made =
    is_entered image.code cores (length memory) order (started image.code memory (start_states image cores)) machine made
    (is_started image memory cores)
