-- A right report keeps the bounds of those that are read.
use Rattle.std.proofs.Common.{◌≡◌, ℕ, zero, suc, ◌+◌, ◌-◌, ◌*◌, ◌==◌, ◌<◌, ◌≤◌, Bool, true, false, List, [], ◌∷◌, length, get_or, drop, map}
use Rattle.std.proofs.Common.{refl, sym, ap, subst, ◌∙◌, arith}
use Rattle.std.specs.Prelude.{Option, Some, None, slice_get, if◌then◌else◌}
use Rattle.std.specs.Option.{option_map}
use Rattle.std.specs.List.{All, AllByRecursion}
use Rattle.std.proofs.lemmas.Option.{same_Some, slice_get-get_or, slice_get-map, slice_get_within, IfSome_then}
use Rattle.std.proofs.lemmas.Bool.Decides.{nat_tests}
use Rattle.std.proofs.lemmas.List.{length-map, length-drop}
use Rattle.std.proofs.lemmas.List.Elements.{recursion_from_All}
use Rattle.std_laws.proofs.ListLaws.{AllByRecursion-weaker}
use Rattle.kmp_base.specs.declared.setup.Setup.{Setup}
use Rattle.kmp_base.specs.declared.setup.MachineKind.{MachineKind}
use Rattle.kmp_base.specs.declared.setup.MachineKind.TheVariants.{Plain, Pipe, Full}
use Rattle.kmp_base.specs.Machines.{most_ways}
use Rattle.kmp_base.specs.Limits.{IsWithinLimits}
use Rattle.mips_isa.specs.declared.Instr.{Instr}
use Rattle.mips_isa.specs.declared.Next.{Next}
use Rattle.mips_isa.specs.Steps.{next_of}
use Rattle.image_file.specs.Value.{ImageValue, IsGood, memory_bytes, start_memory, start_state, start_states}
use Rattle.image_file.proofs.RoundTripLaws.{spelling_is_read}
use Rattle.image_file.proofs.StartLaws.{bytes-start_memory, length-start_states, start_states-at}
use Rattle.access_log.specs.declared.Core.{Core}
use Rattle.access_log.specs.declared.Entry.{Entry}
use Rattle.access_log.specs.declared.Item.{Item}
use Rattle.access_log.specs.declared.Item.TheVariants.{Done, Bus}
use Rattle.access_log.specs.Items.{entries, transactions, HasWords}
use Rattle.access_log.specs.Replay.{own}
use Rattle.access_log.specs.Interleaving.{Interleaves}
use Rattle.access_log.proofs.MergeLaws.{length-memory_after}
use Rattle.access_log.proofs.SplitLaws.{split}
use Rattle.timetable.specs.declared.End.{End}
use Rattle.timetable.specs.declared.End.TheVariants.{Stopped, Spent}
use Rattle.timetable.specs.declared.CoreEnd.{CoreEnd}
use Rattle.timetable.specs.declared.rows.TimeRow.{TimeRow}
use Rattle.timetable.specs.Outcome.{OutcomeValue, IsState, final_of}
use Rattle.timetable.specs.Trace.{trace}
use Rattle.timetable.proofs.ClockLaws.{AreAtMost, IsWithinBudget, spent-within, stop-within}
use Rattle.timetable.proofs.TraceLengthLaws.{length-trace}
use Rattle.right_run.specs.Cycles.{EndsRightly, IsPlainEnd}
use Rattle.right_run.specs.Stages.{found_by, executed_by, EndsInStages, IsStagedEnd}
use Rattle.right_run.specs.Right.{IsRight, caches_of}
use Rattle.right_run.proofs.MachineLaws.{IsRightOn, right-on}
use Rattle.report_rows.specs.declared.MemoryWord.{MemoryWord}
use Rattle.report_rows.specs.Bounds.{IsWord, IsTime, IsItem, most_rows, AreTimes, IsEnd, AreMemoryWords, IsCount}
use Rattle.report_rows.specs.Ends.{end_value}
use Rattle.report_text.specs.Counts.{counts_of}
use Rattle.report_text.specs.Form.{IsReport}
use Rattle.report_text.specs.Report.{words_from, words_past, report_of}
use Rattle.report_text.proofs.CountLaws.{length-counts_of}
use Rattle.report_build.proofs.FormReplay.{replay-cores, IsAsked, all_asked}
use Rattle.report_build.proofs.TransactionForm.{IsOnBus, AreOnLines, bus-form}

-- ---- the accesses

items_form : (machine : MachineKind) (cores bytes most : ℕ) (items : List Item) → most ≤ 100000
    → AllByRecursion (IsOnBus machine cores bytes) (transactions items)
    → AllByRecursion (λ (entry : Entry). entry.core < cores) (entries items)
    → AllByRecursion (IsAsked bytes most) (entries items) → AllByRecursion HasWords items
    → AllByRecursion (IsItem machine cores bytes) items
items_form machine cores bytes most [] few buses within asked words = tt
items_form machine cores bytes most (Bus transaction ∷ items) few buses within asked words =
    (buses.0, items_form machine cores bytes most items few buses.1 within asked words.1)
items_form machine cores bytes most (Done entry ∷ items) few buses within asked words =
    let time : entry.nth ≤ 100002 = omega (arith, few, asked.0.nth) in (
      record { core = within.0; nth = time; kind = asked.0.kind; addr = asked.0.addr; old = words.0.0; new = words.0.1 },
      items_form machine cores bytes most items few buses within.1 asked.1 words.1,
    )

-- ---- the ends of the cores

-- What is right of the end of a core beside its state, with so many rows of a timetable at most.
record EndsWithin (budget most : ℕ) (ended : CoreEnd) : Type 0 where
  pub cycles : ended.cycles ≤ budget
  pub retired : ended.retired ≤ budget
  pub few_rows : length ended.rows.rows ≤ most
  pub times : AllByRecursion AreTimes ended.rows.rows

-- an unpipelined core that ended rightly didn't pass its budget
within_budget : (end : End) (budget cycles used : ℕ) (next : Next) → EndsRightly end budget cycles used next → (cycles ≤ budget)
    × (used ≤ budget)
within_budget (Stopped stop) budget cycles used next right = (right.2, omega (arith, right.1, right.2))
within_budget Spent budget cycles used next right = (omega (arith, right.0), right.1)

plain_within : (budget accesses : ℕ) (next : Next) (ended : CoreEnd) → IsPlainEnd budget accesses next ended → ended.rows.rows ≡ []
    → EndsWithin budget 0 ended
plain_within budget accesses next ended right none =
    let within = within_budget ended.end budget ended.cycles (ended.retired + accesses) next right in record {
      cycles = within.0;
      retired = omega (arith, within.1);
      few_rows = omega (arith, ap (λ (rows : List TimeRow). length rows) none);
      times = subst (AllByRecursion AreTimes) (sym none) tt;
    }

-- nor did one with five stages
staged_budget : (end : End) (bound : Option ℕ) (budget : ℕ) (instrs : List (Option Instr)) (instr : Option Instr) (next : Next)
    (cycles : ℕ) (rows : List TimeRow) → EndsInStages end bound budget instrs instr next cycles rows
    → (cycles ≤ budget) × IsWithinBudget budget instrs rows
staged_budget (Stopped stop) bound budget instrs instr next cycles rows right =
    (right.1, stop-within bound instrs instr cycles budget rows right.2 right.1)
staged_budget Spent bound budget instrs instr next cycles rows right =
    (omega (arith, right.0), spent-within bound instrs instr budget rows right.1)

times_form : (most : ℕ) (row : TimeRow) → most ≤ 100002 → AreAtMost most row → AreTimes row
times_form most row few are =
    let time : (n : ℕ) → n ≤ most → IsTime n = λ n within. omega (arith, few, within) in record {
      i = time row.i are.i;
      f = time row.f are.f;
      d = time row.d are.d;
      e = time row.e are.e;
      a = IfSome_then row.a are.a time;
      m = time row.m are.m;
      w = IfSome_then row.w are.w time;
    }

staged_within : (bound : Option ℕ) (budget : ℕ) (image : ImageValue) (core cores : ℕ) (accesses : List Entry) (ended : CoreEnd)
    → budget ≤ 100000 → length (executed_by image core cores accesses ended.retired) ≡ ended.retired
    → IsStagedEnd bound budget image core cores accesses ended → EndsWithin budget 100002 ended
staged_within bound budget image core cores accesses ended few executed right =
    let within = staged_budget ended.end bound budget (executed_by image core cores accesses ended.retired) _ _ ended.cycles
    ended.rows.rows right in
    let times : (row : TimeRow) → AreAtMost (budget + 2) row → AreTimes row =
    λ row are. times_form (budget + 2) row (omega (arith, few)) are in record {
      cycles = within.0;
      retired = omega (arith, within.1.executed, executed);
      few_rows = omega (arith, within.1.few, few);
      times = AllByRecursion-weaker (AreAtMost (budget + 2)) AreTimes times ended.rows.rows within.1.clocks;
    }

ends_form : (budget most : ℕ) (cores : List CoreEnd) → budget ≤ 100000 → AllByRecursion (EndsWithin budget most) cores
    → AllByRecursion (λ (ended : CoreEnd). IsState ended.state) cores → AllByRecursion (IsEnd budget most) (map end_value cores)
ends_form budget most [] few right states = tt
ends_form budget most (ended ∷ cores) few right states =
    let time : ended.retired ≤ 100002 = omega (arith, few, right.0.retired) in
    let words = recursion_from_All IsWord ended.state.regs states.0.words in (
      record {
        cycles = right.0.cycles;
        retired = time;
        pc = states.0.pc;
        dpc = states.0.dpc;
        registers = states.0.registers;
        words = words;
        few_rows = right.0.few_rows;
        times = right.0.times;
      },
      ends_form budget most cores few right.1 states.1,
    )

abbrev retired_of : List CoreEnd → List ℕ
retired_of cores = map (λ (ended : CoreEnd). ended.retired) cores

retired_at : (cores : List CoreEnd) (core n : ℕ) → slice_get (retired_of cores) core ≡ Some n → (ended : CoreEnd)
    × (slice_get cores core ≡ Some ended) × (ended.retired ≡ n)
retired_at [] core n h = cc
retired_at (ended ∷ cores) zero n h = (ended, refl, same_Some ended.retired n h)
retired_at (ended ∷ cores) (suc core) n h = retired_at cores core n h

-- ---- the words of memory

abbrev AreWords : List MemoryWord → Type 0
AreWords words = AllByRecursion (λ (word : MemoryWord). IsWord word.value) words

-- the words from an index on stand at addresses from its own on
words_form : (size low index : ℕ) (memory : List ℕ) → low ≤ 4 * index → length memory ≤ size - index → AreWords (words_from index memory)
    → AreMemoryWords (4 * size) low (words_from index memory)
words_form size low index [] from within words = tt
words_form size low index (word ∷ memory) from within words =
    by_word (word == 0) refl words (λ next from_next. words_form size next (index + 1) memory from_next (omega arith))
  where
    by_word : (is_zero : Bool) → (word == 0) ≡ is_zero
        → AreWords (if is_zero then words_from (index + 1) memory
        else (record { addr = 4 * index; value = word } ∷ words_from (index + 1) memory))
        → ((next : ℕ) → next ≤ 4 * (index + 1) → AreWords (words_from (index + 1) memory)
        → AreMemoryWords (4 * size) next (words_from (index + 1) memory))
        → AreMemoryWords (4 * size) low
        (if is_zero then words_from (index + 1) memory else (record { addr = 4 * index; value = word } ∷ words_from (index + 1) memory))
    by_word true test words others = others low (omega arith) words
    by_word false test words others =
        let some : 1 ≤ word = grind (arith, nat_tests) in (
          record { addr = record { aligned = omega arith; inside = omega arith }; from = from; some = some; value = words.0 },
          others (4 * index + 4) (omega arith) words.1,
        )

past_form : (code : ℕ) (memory : List ℕ) → AreWords (words_past code memory)
    → AreMemoryWords (4 * length memory) (4 * code) (words_past code memory)
past_form code memory words =
    let left : length (drop code memory) ≤ length memory - code = omega (arith, length-drop code memory) in
    words_form (length memory) (4 * code) code (drop code memory) (omega arith) left words

-- ---- the whole

-- what a replay makes sure of, on any machine
module _ (machine : MachineKind) (setup : Setup) (image : ImageValue) (outcome : OutcomeValue)
    (right : IsRightOn machine setup image outcome) where
  abbrev finals : List Core
  finals = map final_of outcome.cores

  abbrev own_entries : ℕ → List Entry
  own_entries core = own (entries outcome.items) core

  cores_are : length outcome.cores ≡ setup.cores
  cores_are =
      sym (length-map outcome.cores final_of)
      ∙ replay-cores image.code (start_memory image) (start_states image setup.cores) (entries outcome.items) (retired_of outcome.cores) _
      right.replays
      ∙ length-start_states image setup.cores

  interleaves : Interleaves image.code (start_memory image) (start_states image setup.cores) (entries outcome.items)
      (retired_of outcome.cores) finals outcome.words
  interleaves =
      let counts : length (retired_of outcome.cores) ≡ length (start_states image setup.cores) =
      length-map outcome.cores (λ (ended : CoreEnd). ended.retired) ∙ cores_are ∙ sym (length-start_states image setup.cores) in
      split image.code (start_memory image) (start_states image setup.cores) (entries outcome.items) (retired_of outcome.cores) _ counts
      right.replays

  -- a core executed as many instructions as it retired
  executed : IsGood image → (core : ℕ) (ended : CoreEnd) → slice_get outcome.cores core ≡ Some ended
      → length (executed_by image core setup.cores (own_entries core) ended.retired) ≡ ended.retired
  executed good core ended here =
      let below : core < setup.cores = omega (arith, slice_get_within outcome.cores core ended here, cores_are) in
      let start = start_state image core setup.cores in
      let count = slice_get-map (λ (e : CoreEnd). e.retired) outcome.cores core ∙ ap (option_map (λ (e : CoreEnd). e.retired)) here in
      let final = slice_get-map final_of outcome.cores core ∙ ap (option_map final_of) here in
      let alone = interleaves.alone core ended.retired start (final_of ended) (start_states-at image setup.cores core below) count final in
      subst (λ bytes. length (trace image.code bytes ended.retired start (found_by (own_entries core))) ≡ ended.retired)
      (bytes-start_memory image good)
      (length-trace image.code (4 * length (start_memory image)) (own_entries core) ended.retired start alone.mid (final_of ended)
      alone.own_entries alone.end)

  items_are : setup.cores ≤ 8 → AreOnLines image outcome.items → IsGood image → setup.budget ≤ 100000 → All HasWords outcome.items
      → ((core : ℕ) (ended : CoreEnd) → slice_get outcome.cores core ≡ Some ended → ended.retired ≤ setup.budget)
      → AllByRecursion (IsItem machine setup.cores (memory_bytes image)) outcome.items
  items_are few_cores lines good few words within =
      let few_retired : (core n : ℕ) → slice_get (retired_of outcome.cores) core ≡ Some n → n ≤ setup.budget =
      λ core n here. let ended = retired_at outcome.cores core n here in omega (arith, within core ended.0 ended.1, ended.2) in
      let asked = all_asked image.code (start_memory image) (start_states image setup.cores) (entries outcome.items)
      (retired_of outcome.cores) finals outcome.words setup.budget interleaves few_retired in
      let buses = bus-form machine setup image outcome.items few_cores lines right.follows in
      items_form machine setup.cores (memory_bytes image) setup.budget outcome.items few buses
      (rw (length-start_states image setup.cores) at interleaves.within)
      (rw (bytes-start_memory image good) at asked) (recursion_from_All HasWords outcome.items words)

  words_are : IsGood image → All (λ (word : MemoryWord). IsWord word.value) (words_past (length image.code) outcome.words)
      → AreMemoryWords (memory_bytes image) (4 * length image.code) (words_past (length image.code) outcome.words)
  words_are good words =
      let same = length-memory_after (entries outcome.items) (start_memory image) outcome.words interleaves.remembers in
      let bytes : 4 * length outcome.words ≡ memory_bytes image = omega (arith, same, bytes-start_memory image good) in
      rw bytes at (past_form (length image.code) outcome.words
      (recursion_from_All (λ (word : MemoryWord). IsWord word.value) (words_past (length image.code) outcome.words) words))

-- each core's end, by the machine
AreWithin : MachineKind → Setup → OutcomeValue → Type 0
AreWithin machine setup outcome =
    (core : ℕ) (ended : CoreEnd) → slice_get outcome.cores core ≡ Some ended → EndsWithin setup.budget (most_rows machine) ended

are_within : (machine : MachineKind) (setup : Setup) (image : ImageValue) (outcome : OutcomeValue) → IsGood image → setup.budget ≤ 100000
    → IsRightOn machine setup image outcome → AreWithin machine setup outcome
unfolding AreWithin
are_within Plain setup image outcome good few right core ended here =
    let end = right.ends core ended here in
    plain_within setup.budget (length (own (entries outcome.items) core)) (next_of image.code (memory_bytes image) ended.state) ended end.0
    end.1
are_within Pipe setup image outcome good few right core ended here =
    staged_within (Some 0) setup.budget image core setup.cores (own (entries outcome.items) core) ended few
    (executed Pipe setup image outcome right good core ended here) (right.ends core ended here)
are_within Full setup image outcome good few right core ended here =
    staged_within None setup.budget image core setup.cores (own (entries outcome.items) core) ended few
    (executed Full setup image outcome right good core ended here) (right.ends core ended here)

-- the words and counts of what a run leaves fit their types
pub record Fits (setup : Setup) (image : ImageValue) (outcome : OutcomeValue) : Type 0 where
  pub seed : IsWord setup.seed
  pub good : IsGood image
  pub ways : setup.ways ≤ most_ways setup.machine
  pub items : All HasWords outcome.items
  pub lines : AreOnLines image outcome.items
  pub states : All (λ (ended : CoreEnd). IsState ended.state) outcome.cores
  pub words : All (λ (word : MemoryWord). IsWord word.value) (words_past (length image.code) outcome.words)
  pub counts : All IsCount (counts_of (caches_of setup) (map end_value outcome.cores) outcome.items)

pub right_form : (setup : Setup) (image : ImageValue) (outcome : OutcomeValue) → IsWithinLimits setup
    → Fits setup image outcome → IsRight setup image outcome → IsReport (report_of setup image outcome)
unfolding report_of AreWithin
right_form setup image outcome limits fits is =
    let machine = setup.machine in
    let right = right-on machine setup image outcome refl is in
    let ends = map end_value outcome.cores in
    let within = are_within machine setup image outcome fits.good limits.budget right in
    let each : All (EndsWithin setup.budget (most_rows machine)) outcome.cores =
    λ core d below. within core (get_or outcome.cores core d) (slice_get-get_or outcome.cores core d below) in
    record {
      header = record {
        limits = limits;
        ways = fits.ways;
        seed = fits.seed;
      };
      image = spelling_is_read image fits.good;
      image_size = fits.good.few_bytes;
      items = items_are machine setup image outcome right limits.cores fits.lines fits.good limits.budget fits.items
          (λ core ended here. (within core ended here).retired);
      cores = length-map outcome.cores end_value ∙ cores_are machine setup image outcome right;
      ends = ends_form setup.budget (most_rows machine) outcome.cores limits.budget
          (recursion_from_All (EndsWithin setup.budget (most_rows machine)) outcome.cores each)
          (recursion_from_All (λ (ended : CoreEnd). IsState ended.state) outcome.cores fits.states);
      words = words_are machine setup image outcome right fits.good fits.words;
      thirteen = length-counts_of (caches_of setup) ends outcome.items;
      counts = recursion_from_All IsCount (counts_of (caches_of setup) ends outcome.items) fits.counts;
    }
