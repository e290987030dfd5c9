-- What the words of the command line ask for.
use Rattle.std.specs.Prelude.{◌≡◌, ◌⊎◌, ℕ, ◌≤◌, ◌+◌, ◌/◌, ◌%◌, ◌^◌, ◌==◌, ◌&&◌, Bool, not, nat_le, if◌then◌else◌, List, [], ◌∷◌, length}
use Rattle.std.specs.Prelude.{drop}
use Rattle.std.specs.Prelude.{take_while, map, codes, decimal, max, Option, Some, None, is_some, option_map, option_and_then, Result, Ok}
use Rattle.std.specs.Prelude.{Err}
use Rattle.std.specs.Borrow.{Bor}
use Rattle.std.specs.Option.{ok_or, option_map_or}
use Rattle.std.specs.Str.{bytes_eq}
use Rattle.std.specs.Str.Parse.{digits_value}
use Rattle.std.specs.Int.{is_power_of_two}
use Rattle.kmp_base.specs.Bind.{◌>>=◌}
use Rattle.kmp_base.specs.Names.{with_names, machine_name, turns_name}
use Rattle.kmp_base.specs.declared.setup.Setup.{Setup}
use Rattle.kmp_base.specs.declared.setup.MachineKind.{MachineKind}
use Rattle.kmp_base.specs.declared.setup.MachineKind.TheVariants as machines
use Rattle.kmp_base.specs.declared.setup.Policy.TheVariants as policies
use Rattle.kmp_base.specs.declared.setup.Turns.{Turns}
use Rattle.kmp_base.specs.declared.setup.Turns.TheVariants as turns
use Rattle.kmp_base.specs.Names.{named}
use Rattle.kmp_words.specs.declared.order.Order.{Order}
use Rattle.kmp_words.specs.declared.order.Order.TheVariants as orders
use Rattle.kmp_base.specs.Limits.{IsWithinLimits}
use Rattle.kmp_base.specs.Machines.{most_ways}
use Rattle.kmp_words.specs.declared.input.Input.{Input}
use Rattle.kmp_words.specs.declared.input.Input.TheVariants as inputs
use Rattle.kmp_words.specs.declared.options.Command.{Command}
use Rattle.kmp_words.specs.declared.options.Command.TheVariants as commands
use Rattle.kmp_words.specs.declared.options.OptionName.{OptionName}
use Rattle.kmp_words.specs.declared.options.OptionName.TheVariants as names
use Rattle.kmp_words.specs.declared.options.Options.{Options}
use Rattle.kmp_words.specs.declared.program.Program.{Program}
use Rattle.kmp_words.specs.declared.program.Program.TheVariants as programs
use Rattle.kmp_words.specs.declared.fault.WordFault.{WordFault}
use Rattle.kmp_words.specs.declared.fault.WordCause.{WordCause}
use Rattle.kmp_words.specs.declared.fault.WordCause.TheVariants.{NoCommand, UnknownCommand, UnknownOption, OptionTwice, BadValue, Excluded}

-- the bytes of the words
abbrev pub texts_of : List (Bor (List ℕ)) → List (List ℕ)
texts_of words = map (λ (word : Bor (List ℕ)). word.now) words

-- the commands of each program
abbrev pub command_names : Program → List (List ℕ × Command)
command_names programs.Kmp =
    (codes "run", commands.Run) ∷ (codes "asm", commands.Asm) ∷ (codes "replay", commands.Replay) ∷ (codes "trial", commands.Trial) ∷ []
command_names programs.KmpMp = (codes "run", commands.RunOnThreads) ∷ []

-- the options of every machine
abbrev pub machine_options : List (List ℕ × OptionName)
machine_options =
    (codes "--machine", names.Machine)
    ∷ (codes "--cores", names.Cores)
    ∷ (codes "--budget", names.Budget)
    ∷ (codes "--seed", names.Seed)
    ∷ (codes "--sets", names.Sets)
    ∷ (codes "--ways", names.Ways)
    ∷ []

-- the options of a run whose cores are on threads
abbrev pub threads_options : List (List ℕ × OptionName)
threads_options = (codes "--memory", names.Memory) ∷ (codes "--image", names.Image) ∷ machine_options

-- the options of each command
abbrev pub options_of : Command → List (List ℕ × OptionName)
options_of commands.Run = (codes "--turns", names.Turns) ∷ threads_options
options_of commands.RunOnThreads = threads_options
options_of commands.Asm = (codes "--memory", names.Memory) ∷ []
options_of commands.Replay = []
options_of commands.Trial = (codes "--turns", names.Turns) ∷ (codes "--size", names.Size) ∷ machine_options

-- The name in a word: what stands before its first `=`.
abbrev pub name_in : List ℕ → List ℕ
name_in word = take_while (λ b. not (b == 61)) word

-- The value in a word: what stands behind that `=`, where there is one.
abbrev pub value_in : List ℕ → Option (List ℕ)
value_in word = elim (drop (length (name_in word)) word) [
  | [] ↦ None
  | equals ∷ value ↦ Some value
]

-- The number that a text spells: decimal digits without a leading zero.
abbrev pub number_in : List ℕ → Option ℕ
number_in text = let number = digits_value 10 text in if bytes_eq text (decimal number) then Some number else None

-- the lines of a memory of so many bytes: from 16 to 16,777,216, a multiple of 8
abbrev pub lines_of : ℕ → Option ℕ
lines_of bytes = if nat_le 16 bytes && nat_le bytes (2 ^ 24) && (bytes % 8 == 0) then Some (bytes / 8) else None

-- the number that a text spells, where it is from a least one to a greatest
abbrev pub number_within : ℕ → ℕ → List ℕ → Option ℕ
number_within least most text =
    option_and_then (λ number. if nat_le least number && nat_le number most then Some number else None) (number_in text)

-- the sets of a cache that a text spells: a power of two from 1 to 256
abbrev pub sets_in : List ℕ → Option ℕ
sets_in text = option_and_then (λ sets. if is_power_of_two sets then Some sets else None) (number_within 1 256 text)

abbrev pub machine_names : List (List ℕ × MachineKind)
machine_names = with_names machine_name (machines.Plain ∷ machines.Pipe ∷ machines.Full ∷ [])

abbrev pub turns_names : List (List ℕ × Turns)
turns_names = with_names turns_name (turns.Round ∷ turns.Seeded ∷ [])

-- no option
abbrev pub no_options : Options
no_options = record {
  machine = None;
  cores = None;
  budget = None;
  turns = None;
  seed = None;
  sets = None;
  ways = None;
  size = None;
  memory = None;
  image = None;
}

-- whether an option stands already
abbrev pub stands_in : Options → OptionName → Bool
stands_in options names.Machine = is_some options.machine
stands_in options names.Cores = is_some options.cores
stands_in options names.Budget = is_some options.budget
stands_in options names.Turns = is_some options.turns
stands_in options names.Seed = is_some options.seed
stands_in options names.Sets = is_some options.sets
stands_in options names.Ways = is_some options.ways
stands_in options names.Size = is_some options.size
stands_in options names.Memory = is_some options.memory
stands_in options names.Image = is_some options.image

-- Options with one more, which stands at a word and has a value or none; None where its value is a bad one.
abbrev pub with_option : Options → OptionName → ℕ → Option (List ℕ) → Option Options
with_option options names.Machine word (Some text) =
    option_map (λ machine. record options { machine = Some machine }) (named machine_names text)
with_option options names.Cores word (Some text) =
    option_map (λ cores. record options { cores = Some cores }) (number_within 1 8 text)
with_option options names.Budget word (Some text) =
    option_map (λ budget. record options { budget = Some budget }) (number_within 1 100000 text)
with_option options names.Turns word (Some text) =
    option_map (λ turns. record options { turns = Some turns }) (named turns_names text)
with_option options names.Seed word (Some text) =
    option_map (λ seed. record options { seed = Some seed }) (number_within 0 4294967295 text)
with_option options names.Sets word (Some text) =
    option_map (λ sets. record options { sets = Some sets }) (sets_in text)
with_option options names.Ways word (Some text) =
    option_map (λ ways. record options { ways = Some ways }) (number_within 1 (most_ways machines.Full) text)
with_option options names.Size word (Some text) =
    option_map (λ size. record options { size = Some size }) (number_within 0 1000 text)
with_option options names.Memory word (Some text) =
    option_map (λ lines. record options { memory = Some (lines, word) }) (option_and_then lines_of (number_in text))
with_option options names.Image word None = Some (record options { image = Some word })
with_option options name word value = None

-- a fault at a word
abbrev pub at_word : WordCause → ℕ → WordFault
at_word cause word = record { cause = cause; word = word }

-- a fault where a test says so
abbrev pub fault_where : Bool → WordFault → Result (Unit {0}) WordFault
fault_where wrong fault = if wrong then Err fault else Ok tt

-- The option in a word, put with those before it: its name, that it stands once, and its value are judged in this order.
unfoldable pub option_in : Command → ℕ → List ℕ → Options → Result Options WordFault
option_in command word text options = do
  name ← ok_or (named (options_of command) (name_in text)) (at_word UnknownOption word)
  _ ← fault_where (stands_in options name) (at_word OptionTwice word)
  ok_or (with_option options name word (value_in text)) (at_word BadValue word)

-- The options in words from a place on, put with those before them.
unfoldable pub options_from : Command → ℕ → Options → List (List ℕ) → Result Options WordFault
options_from command word options [] = Ok options
options_from command word options (text ∷ texts) =
    option_in command word text options >>= λ more. options_from command (word + 1) more texts

-- An image has its memory's size, so `--memory` and `--image` exclude each other. The later word is at fault.
abbrev pub excluded_at : Options → Option ℕ
excluded_at options = option_and_then (λ memory. option_map (λ image. max memory.1 image) options.image) options.memory

-- what stands where an option does, and what is meant where it doesn't
abbrev pub or_default : {A : Type 0} → A → Option A → A
or_default default option = option_map_or (λ value. value) option default

-- the setup of a run
abbrev pub setup_of : Options → Setup
setup_of options = record {
  machine = or_default machines.Full options.machine;
  cores = or_default 1 options.cores;
  budget = or_default 20000 options.budget;
  policy = policies.Fifo;
  turns = or_default turns.Round options.turns;
  seed = or_default 0 options.seed;
  sets = or_default 16 options.sets;
  ways = or_default 1 options.ways;
}

-- the lines of memory, of 8 bytes each; 65,536 bytes where no option says otherwise
abbrev pub memory_lines : Options → ℕ
memory_lines options = option_map_or (λ memory. memory.0) options.memory 8192

-- the input of a run
abbrev pub input_of : Options → Input
input_of options = if is_some options.image then inputs.Image else inputs.Source (memory_lines options)

-- what a command with its options asks for
abbrev pub order_of : Command → Options → Order
order_of commands.Run options = orders.Run (setup_of options) (input_of options)
order_of commands.RunOnThreads options = orders.Run (record (setup_of options) { turns = turns.Threads }) (input_of options)
order_of commands.Asm options = orders.Asm (memory_lines options)
order_of commands.Replay options = orders.Replay
order_of commands.Trial options = orders.Trial (setup_of options) (or_default 100 options.size)

-- options of which none excludes another
abbrev pub together : Options → Result Options WordFault
together options = elim (excluded_at options) [
  | None ↦ Ok options
  | Some word ↦ Err (at_word Excluded word)
]

-- What the words of a program ask for, or their first fault with the number of its word, counted from 1.
unfoldable pub words_meaning : Program → List (List ℕ) → Result Order WordFault
words_meaning program [] = Err (at_word (NoCommand program) 1)
words_meaning program (first ∷ texts) = do
  command ← ok_or (named (command_names program) first) (at_word (UnknownCommand program) 1)
  options ← options_from command 2 no_options texts
  allowed ← together options
  Ok (order_of command allowed)

-- a source's memory has a size that an image can have
abbrev pub IsProperInput : Input → Type 0
IsProperInput (inputs.Source memory_lines) = (2 ≤ memory_lines) × (memory_lines ≤ 2097152)
IsProperInput inputs.Image = Unit {0}

-- how the cores of a program's runs may have their cycles
abbrev pub AreTurnsOf : Program → Turns → Type 0
AreTurnsOf programs.Kmp order = (order ≡ turns.Round) ⊎ (order ≡ turns.Seeded)
AreTurnsOf programs.KmpMp order = order ≡ turns.Threads

-- What a run of a program can be asked for by now: caches are direct-mapped.
pub record IsRunnableSetup (program : Program) (setup : Setup) : Type 0 where
  pub limits : IsWithinLimits setup
  pub ways : setup.ways ≤ most_ways setup.machine
  pub turns : AreTurnsOf program setup.turns

-- an order that the program can carry out
abbrev pub IsRunnable : Program → Order → Type 0
IsRunnable program (orders.Run setup input) = IsRunnableSetup program setup × IsProperInput input
IsRunnable programs.Kmp (orders.Asm memory_lines) = IsProperInput (inputs.Source memory_lines)
IsRunnable programs.Kmp orders.Replay = Unit {0}
IsRunnable programs.Kmp (orders.Trial setup size) = IsRunnableSetup programs.Kmp setup × (size ≤ 1000)
IsRunnable programs.KmpMp other = ⊥
