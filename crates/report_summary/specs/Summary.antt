-- The summary of a trial's report.
use Rattle.std.specs.Prelude.{ℕ, ◌%◌, ◌^◌, List, [], ◌∷◌, length, map, sum_by, codes, decimal}
use Rattle.kmp_base.specs.Rows.{text_of}
use Rattle.kmp_base.specs.Text.{hex8}
use Rattle.kmp_base.specs.Names.{machine_name}
use Rattle.kmp_base.specs.declared.setup.Setup.{Setup}
use Rattle.access_log.specs.Items.{entries, transactions}
use Rattle.timetable.specs.Names.{end_name}
use Rattle.report_rows.specs.Ends.{EndValue}
use Rattle.report_rows.specs.declared.MemoryWord.{MemoryWord}
use Rattle.report_text.specs.Report.{ReportValue}

-- the instructions that all cores executed
abbrev pub all_retired : List EndValue → ℕ
all_retired cores = sum_by (λ (ended : EndValue). ended.retired) cores

-- the words of memory, added modulo 2 ^ 32
abbrev pub word_sum : List MemoryWord → ℕ
word_sum words = sum_by (λ (word : MemoryWord). word.value) words % 2 ^ 32

abbrev pub trial_row : ℕ → ℕ → List (List ℕ)
trial_row seed size = codes "trial" ∷ codes "seed" ∷ decimal seed ∷ codes "size" ∷ decimal size ∷ []

abbrev pub machine_row : Setup → List (List ℕ)
machine_row setup = codes "machine" ∷ machine_name setup.machine ∷ codes "cores" ∷ decimal setup.cores ∷ []

abbrev pub count_row : List ℕ → ℕ → List (List ℕ)
count_row name count = name ∷ decimal count ∷ []

abbrev pub sum_row : ℕ → List (List ℕ)
sum_row sum = codes "sum" ∷ hex8 sum ∷ []

-- how each core ended, in order
abbrev pub ends_row : List EndValue → List (List ℕ)
ends_row cores = codes "ends" ∷ map (λ (ended : EndValue). end_name ended.end) cores

-- What a report tells, summed up: the trial, the machine, what was done, what memory has, and the ends.
abbrev pub summary_rows : ℕ → ReportValue → List (List (List ℕ))
summary_rows size report =
    trial_row report.setup.seed size
    ∷ machine_row report.setup
    ∷ count_row (codes "retired") (all_retired report.cores)
    ∷ count_row (codes "accesses") (length (entries report.items))
    ∷ count_row (codes "transactions") (length (transactions report.items))
    ∷ sum_row (word_sum report.words)
    ∷ ends_row report.cores
    ∷ []

-- its text, a row a line
abbrev pub summary_text : ℕ → ReportValue → List ℕ
summary_text size report = text_of (summary_rows size report)
