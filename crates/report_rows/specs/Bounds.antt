-- What the rows of a report may say.
use Rattle.std.specs.Prelude.{◌≡◌, ◌≢◌, ℕ, ◌+◌, ◌*◌, ◌/◌, ◌%◌, ◌^◌, ◌<◌, ◌≤◌, Bool, true, false, List, [], ◌∷◌, length, IfSome}
use Rattle.std.specs.List.{AllByRecursion}
use Rattle.kmp_base.specs.declared.setup.Setup.{Setup}
use Rattle.kmp_base.specs.declared.setup.MachineKind.{MachineKind}
use Rattle.kmp_base.specs.declared.setup.MachineKind.TheVariants.{Plain, Full}
use Rattle.kmp_base.specs.Limits.{IsWithinLimits}
use Rattle.kmp_base.specs.Machines.{most_ways}
use Rattle.mips_isa.specs.declared.Kind.TheVariants.{Fetch}
use Rattle.access_log.specs.declared.Entry.{Entry}
use Rattle.access_log.specs.declared.Transaction.{Transaction}
use Rattle.access_log.specs.declared.Item.{Item}
use Rattle.access_log.specs.declared.Item.TheVariants.{Done, Bus}
use Rattle.timetable.specs.declared.rows.TimeRow.{TimeRow}
use Rattle.report_rows.specs.declared.MemoryWord.{MemoryWord}
use Rattle.report_rows.specs.Ends.{EndValue}

-- eight hexadecimal digits spell it
abbrev pub IsWord : ℕ → Type 0
IsWord n = n < 2 ^ 32

abbrev pub IsByte : ℕ → Type 0
IsByte n = n < 2 ^ 8

-- more than any number of instructions or cycles, which a budget bounds
abbrev pub IsTime : ℕ → Type 0
IsTime n = n ≤ 100002

-- Whether the machine has caches and a bus.
abbrev pub has_bus : MachineKind → Bool
has_bus Full = true
has_bus machine = false

-- The header: numbers within their limits, and no more ways than the machine may have.
pub record IsHeader (setup : Setup) : Type 0 where
  pub limits : IsWithinLimits setup
  pub ways : setup.ways ≤ most_ways setup.machine
  pub seed : IsWord setup.seed

-- An address of a word within so many bytes of memory.
pub record IsAddress (bytes addr : ℕ) : Type 0 where
  pub aligned : addr % 4 ≡ 0
  pub inside : addr < bytes

-- An access of one of so many cores.
pub record IsEntry (cores bytes : ℕ) (entry : Entry) : Type 0 where
  pub core : entry.core < cores
  pub nth : IsTime entry.nth
  pub kind : entry.kind ≢ Fetch
  pub addr : IsAddress bytes entry.addr
  pub old : IsWord entry.old
  pub new : IfSome entry.new IsWord

-- A cache of so many cores, each of which has two.
abbrev pub IsCache : ℕ → ℕ → Type 0
IsCache cores cache = cache < 2 * cores

-- A line of eight bytes within so many bytes of memory.
abbrev pub IsLine : ℕ → ℕ → Type 0
IsLine bytes line = line < bytes / 8

-- A transaction of one of the caches of so many cores.
pub record IsTransaction (cores bytes : ℕ) (bus : Transaction) : Type 0 where
  pub master : IsCache cores bus.master
  pub line : IsLine bytes bus.line
  pub ch : bus.ch < 2 ^ 16
  pub di : IfSome bus.di (IsCache cores)
  pub victim : IfSome bus.victim (IsLine bytes)

-- Cores make accesses, and caches on a bus transactions.
abbrev pub IsItem : MachineKind → ℕ → ℕ → Item → Type 0
IsItem machine cores bytes (Done entry) = IsEntry cores bytes entry
IsItem machine cores bytes (Bus transaction) = (has_bus machine ≡ true) × IsTransaction cores bytes transaction

-- How many rows the timetable of a core may have, by the machine: an unpipelined core has none.
abbrev pub most_rows : MachineKind → ℕ
most_rows Plain = 0
most_rows machine = 100002

-- The cycles in which an instruction passed the stages of a pipeline.
pub record AreTimes (row : TimeRow) : Type 0 where
  pub i : IsTime row.i
  pub f : IsTime row.f
  pub d : IsTime row.d
  pub e : IsTime row.e
  pub a : IfSome row.a IsTime
  pub m : IsTime row.m
  pub w : IfSome row.w IsTime

-- The end of a core within its budget, with so many rows of a timetable at most.
pub record IsEnd (budget most : ℕ) (ended : EndValue) : Type 0 where
  pub cycles : ended.cycles ≤ budget
  pub retired : IsTime ended.retired
  pub pc : IsWord ended.state.pc
  pub dpc : IsWord ended.state.dpc
  pub registers : length ended.state.regs ≡ 32
  pub words : AllByRecursion IsWord ended.state.regs
  pub few_rows : length ended.rows ≤ most
  pub times : AllByRecursion AreTimes ended.rows

-- A memory word at an address from `low` on, that isn't 0.
pub record IsMemoryWord (bytes low : ℕ) (word : MemoryWord) : Type 0 where
  pub addr : IsAddress bytes word.addr
  pub from : low ≤ word.addr
  pub some : 1 ≤ word.value
  pub value : IsWord word.value

-- Memory words by rising address, from `low` on.
abbrev pub AreMemoryWords : ℕ → ℕ → List MemoryWord → Type 0
AreMemoryWords bytes low [] = Unit {0}
AreMemoryWords bytes low (word ∷ words) = IsMemoryWord bytes low word × AreMemoryWords bytes (word.addr + 4) words

-- a count of 64 bits
abbrev pub IsCount : ℕ → Type 0
IsCount n = n < 2 ^ 64
